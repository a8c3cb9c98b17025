-- The quiet span of a machine, from those of its counters.
use Rattle.std.proofs.Common.{◌≡◌, ℕ, zero, suc, ◌+◌, ◌-◌, ◌/◌, ◌%◌, ◌<◌, Bool, true, false, cond, not, ◌&&◌, ◌||◌, eqb, List, Some, None, Ok, Option, Result, sym, refl, ap, ◌∙◌, ap₂, add_assoc, arith}
use native.Mathlib.Nat.{mod-add-mod}
use lib.Bits.{bit_or}
use Rattle.std.proofs.lemmas.Nat.{or_comm}
use Rattle.std.proofs.lemmas.Bool.{and_right, eq-eqb, ne_eqb, cond-false}
use Rattle.faults.specs.declared.Fault.{Fault}
use Rattle.recorder.specs.declared.mode.Mode.{Mode}
use Rattle.recorder.specs.declared.mode.Mode.TheVariants.{Running, WakeUpTimer, Stopped}
use Rattle.counters.specs.declared.timer.Timer.{Timer}
use Rattle.counters.specs.declared.timer.Timers.{Timers}
use Rattle.counters.specs.declared.timer.Matches.{Matches}
use Rattle.counters.specs.declared.timer.Source.{Source}
use Rattle.counters.specs.declared.timer.Source.TheVariants.{Held}
use Rattle.counters.specs.declared.buzzer.Buzzer.{Buzzer}
use Rattle.counters.specs.declared.basic.BasicTimer.{BasicTimer}
use Rattle.counters.specs.declared.basic.Passing.{Passing}
use Rattle.ticks.specs.Ticks.{sooner}
use Rattle.counters.specs.Counting.{awake, flip}
use Rattle.counters.specs.Timers.{counts, at, pulses, timer_ticked, timers, timers_ticked, timers_moved}
use Rattle.counters.specs.Buzzers.{buzzer_ticked, buzzer_moved}
use Rattle.counters.specs.Basic.{basic_ticked, basic_moved}
use Rattle.counters.specs.Quiet.{prescaled, Within, Longest, TimersQuiet, BuzzerQuiet, BasicQuiet}
use Rattle.counters.proofs.Quiets.{longest_both, unbounded, the}
use Rattle.ports.specs.declared.port.Ports.{Ports}
use Rattle.ports.specs.declared.edges.Edges.{Edges}
use Rattle.ports.specs.declared.request.Interrupt.{Interrupt}
use Rattle.ports.specs.declared.request.Requests.{Requests}
use Rattle.ports.specs.declared.request.Events.{Events}
use Rattle.ports.specs.Ports.{bit_of, sampled}
use Rattle.ports.specs.Edges.{selected, edges_of}
use Rattle.ports.specs.Requests.{requests, wakes, noted}
use Rattle.bus.specs.Outcomes.{bind}
use Rattle.machine.specs.declared.state.Machine.{Machine}
use Rattle.machine.specs.declared.state.Action.{Action}
use Rattle.machine.specs.declared.state.Action.TheVariants.{Rest}
use Rattle.machine.specs.Tick.{machine, interrupt_of, attended, action_of, acted, prescaler_moved, prescaler_after, resets, Happened, happened, events_of, counted, reset_machine, finished}
use Rattle.machine.specs.Quiet.{rest_for, moved, QuietTick, ticked, one_by_one, Spans, Span}

-- a word that stays has no edges
still_level : (x y b : Bool) → ((x && (b && not b)) || (y && (not b && b))) ≡ false
still_level true true true = refl
still_level true true false = refl
still_level true false true = refl
still_level true false false = refl
still_level false true true = refl
still_level false true false = refl
still_level false false true = refl
still_level false false false = refl

no_select : (c : Bool) (pair : ℕ) (b : Bool) → (c && selected pair b b) ≡ false
no_select c pair b = ap (λ (v : Bool). c && v) (still_level (bit_of 1 pair) (bit_of 2 pair) b) ∙ and_right c false refl

no_rise : (c b : Bool) → (c && (not b && b)) ≡ false
no_rise true true = refl
no_rise true false = refl
no_rise false b = refl

abbrev quiet_edges : Edges
quiet_edges = record { int0 = false; int1 = false; ec0 = false }

no_edges : (s : Ports) (ieds w : ℕ) → edges_of s ieds w w ≡ quiet_edges
no_edges s ieds w =
    let a = no_select (bit_of 4 s.rbfunc) ieds (bit_of 0x0400 w) in
    let b = no_select (bit_of 8 s.rbfunc) (ieds / 4) (bit_of 0x0800 w) in
    let c = no_rise (not (bit_of 1 s.raio)) (bit_of 1 w) in
    λ i. record { int0 = a i; int1 = b i; ec0 = c i }

-- no events set no requests
or_none : (x : ℕ) → bit_or x 0 ≡ x
or_none x = or_comm x 0

abbrev no_events : Events
no_events = record { int0 = false; int1 = false; timer0 = false; timer1 = false; watchdog = false; basic = false }

noted_none : (r : Requests) → noted no_events r ≡ r
noted_none r = let h = or_none r.irqh in let l = or_none r.irql in λ i. requests r.ienh r.ienl (h i) (l i) r.ieds

-- the prescaler that a tick of the span reaches
prescaled_on : (p j k : ℕ) → prescaled (prescaled p j) k ≡ prescaled p (j + k)
prescaled_on p j k = mod-add-mod (p + j) 2048 k ∙ ap (λ n. n % 2048) (add_assoc p j k)

next_prescaler : (mode : Mode) (p j : ℕ) → prescaler_after mode (prescaler_moved mode p j) ≡ prescaler_moved mode p (j + 1)
next_prescaler Running p j = prescaled_on p j 1
next_prescaler WakeUpTimer p j = prescaled_on p j 1
next_prescaler Stopped p j = refl

held : (b : Bool) → cond b Held Held ≡ Held
held true = refl
held false = refl

-- stopped timers do not see the prescaler
timers_at : (mode : Mode) (p j : ℕ) (ts : Timers) → timers_ticked mode (prescaler_after mode (prescaler_moved mode p j)) false ts ≡ timers_ticked mode (prescaled p (j + 1)) false ts
timers_at Running p j ts = ap (λ q. timers_ticked Running q false ts) (prescaled_on p j 1)
timers_at WakeUpTimer p j ts = ap (λ q. timers_ticked WakeUpTimer q false ts) (prescaled_on p j 1)
timers_at Stopped p j ts = at_held p ∙ sym (at_held (prescaled p (j + 1)))
  where
    at_held : (q : ℕ) → timers_ticked Stopped q false ts ≡ (timers (timer_ticked false (at ts 0)).0 (timer_ticked false (at ts 1)).0 ts.comp ts, record { timer0 = false; timer1 = false })
    at_held q =
        let F : Source → Source → Timers × Matches = λ s t.
        let a : Timer × Bool = timer_ticked (pulses s q false) (at ts 0) in
        let b : Timer × Bool = timer_ticked (pulses t q false) (at ts 1) in
        (timers a.0 b.0 (flip a.1 ts.comp) ts, record { timer0 = a.1; timer1 = b.1 }) in
        ap₂ F (held (counts (at ts 0))) (held (counts (at ts 1)))

buzzer_at : (mode : Mode) (p j : ℕ) (b : Buzzer) → buzzer_ticked mode (prescaler_after mode (prescaler_moved mode p j)) b ≡ buzzer_ticked mode (prescaled p (j + 1)) b
buzzer_at Running p j b = ap (λ q. buzzer_ticked Running q b) (prescaled_on p j 1)
buzzer_at WakeUpTimer p j b = refl
buzzer_at Stopped p j b = refl

basic_at : (mode : Mode) (p j : ℕ) (b : BasicTimer) → basic_ticked mode (prescaler_after mode (prescaler_moved mode p j)) b ≡ basic_ticked mode (prescaled p (j + 1)) b
basic_at Running p j b = ap (λ q. basic_ticked Running q b) (prescaled_on p j 1)
basic_at WakeUpTimer p j b = refl
basic_at Stopped p j b = refl

level_kept : (mode : Mode) (p k : ℕ) (b : Buzzer) → (buzzer_moved mode p k b).level ≡ b.level
level_kept Running p k b = refl
level_kept WakeUpTimer p k b = refl
level_kept Stopped p k b = refl

-- the first step rests as long as ticks are owed, or nothing wakes the chip
acts : (q : Option Interrupt) → attended q ≡ Rest → ⊥
acts (Some x) e = cc
acts None e = cc

rest_longest : (up : Bool) (q : Option Interrupt) (owed : ℕ) → Longest (cond up (Some owed) None) (λ j. cond (eqb (owed - j) 0 && up) (attended q) Rest ≡ Rest)
rest_longest false q owed = unbounded (λ j. cond-false (eqb (owed - j) 0 && false) (attended q) Rest (and_right (eqb (owed - j) 0) false refl))
rest_longest true q owed = record {
  quiet = λ j h. let e = ne_eqb (owed - j) 0 (λ z. omega arith) in ap (λ (v : Bool). cond (v && true) (attended q) Rest) e;
  ends = λ j e r. let z : owed - j ≡ 0 = omega (arith, the e) in acts q (ap (λ (v : Bool). cond (v && true) (attended q) Rest) (sym (eq-eqb (owed - j) 0 z)) ∙ r);
}

module _ (m : Machine) (image : List ℕ) (w j : ℕ) where
  abbrev mode : Mode
  mode = m.parts.mode

  abbrev now : Happened
  now = happened (moved j m) w w

  timers_are : now.timers ≡ timers_ticked mode (prescaled m.prescaler (j + 1)) false (timers_moved mode m.prescaler j m.parts.timers)
  timers_are =
      ap (λ (e : Edges). timers_ticked mode (prescaler_after mode (prescaler_moved mode m.prescaler j)) e.ec0 (timers_moved mode m.prescaler j m.parts.timers)) (no_edges m.parts.ports m.parts.requests.ieds w)
      ∙ timers_at mode m.prescaler j (timers_moved mode m.prescaler j m.parts.timers)

  basic_are : now.basic ≡ basic_ticked mode (prescaled m.prescaler (j + 1)) (basic_moved mode m.prescaler j m.parts.basic)
  basic_are = basic_at mode m.prescaler j (basic_moved mode m.prescaler j m.parts.basic)

  -- without a reset
  plain : now.basic.1 ≡ record { passed = false; watchdog = false } → finished (moved j m) image w w ≡ machine (counted (moved j m) now) (m.owed - j - 1) (prescaler_after mode (prescaler_moved mode m.prescaler j))
  plain e =
      ap (λ (v : Bool). cond (v && resets (moved j m).parts.basic) (reset_machine (counted (moved j m) now) image) (machine (counted (moved j m) now) (m.owed - j - 1) (prescaler_after mode (prescaler_moved mode m.prescaler j))))
      (ap (λ (x : Passing). x.watchdog) e)

  together : action_of (moved j m) ≡ Rest → TimersQuiet mode m.prescaler m.parts.timers j × (BuzzerQuiet mode m.prescaler m.parts.buzzer j × BasicQuiet mode m.prescaler m.parts.basic j) → QuietTick m image w j
  together rests q =
      let t : now.timers ≡ _ = timers_are ∙ q.0 in
      let c : now.basic ≡ _ = basic_are ∙ q.1.1 in
      let b = buzzer_at mode m.prescaler j (buzzer_moved mode m.prescaler j m.parts.buzzer) ∙ q.1.0 in
      let e = no_edges m.parts.ports m.parts.requests.ieds w in
      let owed : m.owed - j - 1 ≡ m.owed - (j + 1) = omega arith in
      let clock = next_prescaler mode m.prescaler j in
      let events : events_of (moved j m).parts.basic now ≡ no_events = λ i. events_of (moved j m).parts.basic (record { timers = t i; basic = c i; edges = e i }) in
      let asked = ap (λ (v : Events). noted v m.parts.requests) events ∙ noted_none m.parts.requests in
      record {
        rests = rests;
        pins = ap (λ (v : Bool). sampled m.parts.ports w v m.parts.timers.comp) (level_kept mode m.prescaler j m.parts.buzzer);
        nothing = record { matches = ap (λ (x : Timers × Matches). x.1) t; passing = ap (λ (x : BasicTimer × Passing). x.1) c; edges = e };
        on = plain (ap (λ (x : BasicTimer × Passing). x.1) c) ∙ (λ i. machine (record m.parts { timers = (t i).0; buzzer = b i; basic = (c i).0; requests = asked i }) (owed i) (clock i));
      }

  apart : QuietTick m image w j → (action_of (moved j m) ≡ Rest) × (TimersQuiet mode m.prescaler m.parts.timers j × (BuzzerQuiet mode m.prescaler m.parts.buzzer j × BasicQuiet mode m.prescaler m.parts.basic j))
  apart q =
      let on = sym (plain q.nothing.passing) ∙ q.on in
      let t = ap (λ (z : Machine). z.parts.timers) on in
      let b = ap (λ (z : Machine). z.parts.buzzer) on in
      let c = ap (λ (z : Machine). z.parts.basic) on in
      let matches = q.nothing.matches in
      let passing = q.nothing.passing in
      (q.rests, (sym timers_are ∙ (λ i. (t i, matches i)), (sym (buzzer_at mode m.prescaler j (buzzer_moved mode m.prescaler j m.parts.buzzer)) ∙ b, sym basic_are ∙ (λ i. (c i, passing i)))))

module _ (m : Machine) (t b d : Option ℕ) (T : Longest t (TimersQuiet m.parts.mode m.prescaler m.parts.timers)) (B : Longest b (BuzzerQuiet m.parts.mode m.prescaler m.parts.buzzer)) (D : Longest d (BasicQuiet m.parts.mode m.prescaler m.parts.basic)) where
  abbrev span : Option ℕ
  span = sooner (rest_for m) (sooner t (sooner b d))

  span_longest : (image : List ℕ) (w : ℕ) → Longest span (QuietTick m image w)
  span_longest image w =
      longest_both (rest_for m) _ (rest_longest (awake m.parts.mode || wakes m.parts.requests) (interrupt_of m.parts) m.owed)
      (longest_both t _ T (longest_both b d B D (λ j x y. (x, y)) (λ j p. p)) (λ j x y. (x, y)) (λ j p. p))
      (λ j. together m image w j) (λ j. apart m image w j)

  fewer_spans : (r : Option ℕ) (k : ℕ) → Spans (suc k) r → Spans k r × Within k r
  fewer_spans None k h = (tt, tt)
  fewer_spans (Some r) k h = (omega arith, omega arith)

  span_leaps : moved 0 m ≡ m → (image : List ℕ) (w k : ℕ) → Spans k span → one_by_one image w k m ≡ Ok (moved k m)
  span_leaps starts image w zero h = ap (λ (z : Machine). Ok z) (sym starts)
  span_leaps starts image w (suc k) h =
      let p = fewer_spans span k h in
      let q = (span_longest image w).quiet k p.1 in
      let e : k + 1 ≡ suc k = omega arith in
      ap (λ (r : Result Machine Fault). bind r (ticked image w)) (span_leaps starts image w k p.0)
      ∙ ap (λ (a : Action). bind (acted (moved k m) image w a) (λ s. Ok (finished s image w w))) q.rests
      ∙ ap (λ (z : Machine). Ok z) (q.on ∙ ap (λ i. moved i m) e)

  pub span_of : moved 0 m ≡ m → Span m span
  span_of starts = record { longest = span_longest; leaps = span_leaps starts }

-- no ticks change nothing
prescaler_starts : (mode : Mode) (p : ℕ) → p < 2048 → prescaler_moved mode p 0 ≡ p
prescaler_starts Running p h = omega arith
prescaler_starts WakeUpTimer p h = omega arith
prescaler_starts Stopped p h = refl

pub starts_from : (m : Machine) → m.prescaler < 2048 → timers_moved m.parts.mode m.prescaler 0 m.parts.timers ≡ m.parts.timers → buzzer_moved m.parts.mode m.prescaler 0 m.parts.buzzer ≡ m.parts.buzzer → basic_moved m.parts.mode m.prescaler 0 m.parts.basic ≡ m.parts.basic → moved 0 m ≡ m
starts_from m small t b c =
    let owed : m.owed - 0 ≡ m.owed = omega arith in
    let clock = prescaler_starts m.parts.mode m.prescaler small in
    λ i. machine (record m.parts { timers = t i; buzzer = b i; basic = c i }) (owed i) (clock i)
