-- What a run call answers and leaves, for all inputs.
use Rattle.std.specs.Prelude.{ℕ, zero, suc, ◌+◌, ◌-◌, ◌^◌, Bool, cond, List, [], ◌∷◌, length, Some, None, Ok, Err, Option, Result, ◌==◌, nat_le}
use Rattle.faults.specs.declared.Fault.{Fault}
use Rattle.faults.specs.declared.Fault.TheVariants.{ImageSize, GrantTooLarge, ChipSpent, PinChartUnfit, ModeChartUnfit}
use Rattle.recorder.specs.Samples.{pin_kind, mode_kind}
use Rattle.recorder.specs.Charts.{fitting}
use Rattle.bus.specs.Outcomes.{bind}
use Rattle.bench.specs.declared.held.Moment.{Moment}
use Rattle.bench.specs.declared.held.Stretches.{Stretches}
use Rattle.bench.specs.declared.held.Held.{Held}
use Rattle.bench.specs.declared.held.Call.{Call}
use Rattle.bench.specs.Ticks.{tick_between}
use Rattle.bench.specs.Charting.{Charts, charted}

abbrev pub held : Moment → Stretches → Held
held s n = record { moment = s; stretches = n }

-- one tick of a chip and its charts, or its stop
unfoldable pub step_between : List ℕ → ℕ → ℕ → Held → Charts → Result (Held × Charts) Fault
step_between image before word h c =
    bind (tick_between image before word h.moment) (λ t.
    bind (charted 1 t.1 h.stretches c) (λ s.
    Ok (held t.0 s.0, s.1)))

abbrev pub stepped : List ℕ → (ℕ → ℕ) → Held → Charts → Result (Held × Charts) Fault
stepped image host h c = step_between image (host (h.moment.tick - 1)) (host h.moment.tick) h c

-- what a run answers, and the chip and charts that it leaves
pub record Ran : Type 0 where
  pub ticks : ℕ
  pub fault : Option Fault
  pub held : Held
  pub charts : Charts

abbrev pub answer : ℕ → Option Fault → Held → Charts → Ran
answer ticks fault h c = record { ticks = ticks; fault = fault; held = h; charts = c }

-- a stop keeps just the ticks before it
abbrev pub unless_stopped : Result (Held × Charts) Fault → ℕ → Held → Charts → (Held × Charts → Ran) → Ran
unless_stopped (Ok s) done h c on = on s
unless_stopped (Err f) done h c on = answer done (Some f) h c

-- as many ticks as are granted, or those before a stop, after `done` others
unfoldable pub ran : List ℕ → (ℕ → ℕ) → ℕ → ℕ → Held → Charts → Ran
ran image host zero done h c = answer done None h c
ran image host (suc n) done h c = unless_stopped (stepped image host h c) done h c (λ s. ran image host n (done + 1) s.0 s.1)

-- the first test that fails
abbrev pub first_failed : List (Bool × Fault) → Option Fault
first_failed [] = None
first_failed (t ∷ ts) = cond t.0 (first_failed ts) (Some t.1)

-- what a run call asks, in this order, and the refusals
abbrev pub tests : List ℕ → ℕ → Held → Charts → List (Bool × Fault)
tests image grant h c =
    ((length image == 2048), ImageSize)
    ∷ (nat_le grant (2 ^ 32), GrantTooLarge)
    ∷ (nat_le (h.moment.tick + grant) (2 ^ 48), ChipSpent)
    ∷ (fitting pin_kind c.pins h.stretches.pins h.moment.tick, PinChartUnfit)
    ∷ (fitting mode_kind c.modes h.stretches.modes h.moment.tick, ModeChartUnfit)
    ∷ []

abbrev pub refused : List ℕ → ℕ → Held → Charts → Option Fault
refused image grant h c = first_failed (tests image grant h c)

abbrev pub unless_refused : Option Fault → Ran → Held → Charts → Ran
unless_refused (Some f) r h c = answer 0 (Some f) h c
unless_refused None r h c = r

-- a run call: a refusal answers 0 ticks and changes nothing
unfoldable pub played : List ℕ → (ℕ → ℕ) → ℕ → Held → Charts → Ran
played image host grant h c = unless_refused (refused image grant h c) (ran image host grant 0 h c) h c

-- run calls one after the other, by their grants: the sum of the answers, and what they leave; whether a call goes by ticks or by leaps makes no difference
unfoldable pub played_all : List ℕ → (ℕ → ℕ) → List Call → ℕ → Held → Charts → ℕ × Held × Charts
played_all image host [] total h c = (total, h, c)
played_all image host (k ∷ ks) total h c =
    let r = played image host k.grant h c in
    played_all image host ks (total + r.ticks) r.held r.charts
