-- The quiet span: how many of the next ticks change nothing but running counts, and the move over them.
use Rattle.std.specs.Prelude.{◌≡◌, ℕ, zero, suc, ◌+◌, ◌-◌, ◌<◌, ◌≤◌, false, cond, ◌||◌, List, Some, None, Ok, Option, Result}
use Rattle.faults.specs.declared.Fault.{Fault}
use Rattle.ticks.specs.Ticks.{sooner}
use Rattle.counters.specs.Counting.{awake}
use Rattle.counters.specs.Timers.{timers_moved, timers_still}
use Rattle.counters.specs.Buzzers.{buzzer_moved, buzzer_still}
use Rattle.counters.specs.Basic.{basic_moved, basic_still}
use Rattle.counters.specs.Quiet.{Longest}
use Rattle.ports.specs.Requests.{wakes}
use Rattle.bus.specs.Outcomes.{bind}
use Rattle.machine.specs.declared.state.Machine.{Machine}
use Rattle.machine.specs.declared.state.Action.TheVariants.{Rest}
use Rattle.machine.specs.Tick.{action_of, begun, pins_of, Happened, happened, prescaler_moved, finished}

-- the ticks in which the first step rests: those that are owed, and all where nothing wakes the chip
abbrev pub rest_for : Machine → Option ℕ
rest_for m = cond (awake m.parts.mode || wakes m.parts.requests) (Some m.owed) None

-- the quiet span: none where nothing bounds it
abbrev pub still_for : Machine → Option ℕ
still_for m =
    let p = m.parts in
    sooner (rest_for m) (sooner (timers_still p.mode m.prescaler p.timers) (sooner (buzzer_still p.mode m.prescaler p.buzzer) (basic_still p.mode m.prescaler p.basic)))

-- k quiet ticks at once: only the counts, the prescaler and the owed ticks change
abbrev pub moved : ℕ → Machine → Machine
moved k m =
    let p = m.parts in
    record {
      parts = record p {
        timers = timers_moved p.mode m.prescaler k p.timers;
        buzzer = buzzer_moved p.mode m.prescaler k p.buzzer;
        basic = basic_moved p.mode m.prescaler k p.basic;
      };
      owed = m.owed - k;
      prescaler = prescaler_moved p.mode m.prescaler k;
    }

-- nothing happened: no match, no passing of BITR and no edge
pub record Nothing (h : Happened) : Type 0 where
  pub matches : h.timers.1 ≡ record { timer0 = false; timer1 = false }
  pub passing : h.basic.1 ≡ record { passed = false; watchdog = false }
  pub edges : h.edges ≡ record { int0 = false; int1 = false; ec0 = false }

-- tick j of a quiet span, before the host's word w: the first step rests, the pins are those of the first tick,
-- nothing happens, and the counts run on
pub record QuietTick (m : Machine) (image : List ℕ) (w j : ℕ) : Type 0 where
  pub rests : action_of (moved j m) ≡ Rest
  pub pins : pins_of (moved j m) w ≡ pins_of m w
  pub nothing : Nothing (happened (moved j m) w w)
  pub on : finished (moved j m) image w w ≡ moved (j + 1) m

-- whole ticks before a host that shows one word, one by one
abbrev pub ticked : List ℕ → ℕ → Machine → Result Machine Fault
ticked image w m = bind (begun m image w) (λ s. Ok (finished s image w w))

abbrev pub one_by_one : List ℕ → ℕ → ℕ → Machine → Result Machine Fault
one_by_one image w zero m = Ok m
one_by_one image w (suc k) m = bind (one_by_one image w k m) (ticked image w)

-- k ticks are within a span
abbrev pub Spans : ℕ → Option ℕ → Type 0
Spans k None = Unit {0}
Spans k (Some r) = k ≤ r

-- what every machine keeps: a prescaler of 11 bits and a buzzer's count of 6
pub record Sound (m : Machine) : Type 0 where
  pub prescaler : m.prescaler < 2048
  pub buzzer : m.parts.buzzer.count < 64

-- the span r is the longest quiet one, and its ticks, one by one, are one move
pub record Span (m : Machine) (r : Option ℕ) : Type 0 where
  pub longest : (image : List ℕ) (w : ℕ) → Longest r (QuietTick m image w)
  pub leaps : (image : List ℕ) (w k : ℕ) → Spans k r → one_by_one image w k m ≡ Ok (moved k m)
