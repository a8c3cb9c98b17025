-- The plain model of a chip and its charts: the machine at its tick number, and for each chart the list of samples, the newest first.
use Rattle.std.specs.Prelude.{ℕ, zero, suc, ◌+◌, Bool, false, cond, List, [], ◌∷◌, length, Ok, Err, Result, nat_le}
use Rattle.faults.specs.declared.Fault.{Fault}
use Rattle.faults.specs.declared.Fault.TheVariants.{NoPinPlace, NoModePlace}
use Rattle.recorder.specs.declared.pin_sample.PinSample.{PinSample}
use Rattle.recorder.specs.declared.mode.Mode.{Mode}
use Rattle.recorder.specs.Kinds.{Kind}
use Rattle.recorder.specs.Samples.{pin_kind, mode_kind}
use Rattle.bus.specs.Outcomes.{bind}
use Rattle.bench.specs.declared.held.Samples.{Samples}
use Rattle.bench.specs.declared.held.Moment.{Moment}
use Rattle.bench.specs.Ticks.{moment, ticked}
use Rattle.bench.specs.Charting.{Charts}
use Rattle.bench.specs.Power.{Start, powered_machine}

-- how many places the charts have
pub record Places : Type 0 where
  pub pins : ℕ
  pub modes : ℕ

abbrev pub sizes : Charts → Places
sizes c = record { pins = length c.pins; modes = length c.modes }

pub record Model : Type 0 where
  pub moment : Moment
  pub pins : List PinSample
  pub modes : List Mode

abbrev pub model : Moment → List PinSample → List Mode → Model
model s ps ms = record { moment = s; pins = ps; modes = ms }

-- a sample is alike to the newest
abbrev pub same : {X : Type 0} → Kind X → X → List X → Bool
same K x [] = false
same K x (y ∷ ys) = K.like y x

-- how many longest rows of alike samples a list has
abbrev pub rows : {X : Type 0} → Kind X → List X → ℕ
rows K [] = 0
rows K (x ∷ xs) = cond (same K x xs) (rows K xs) (rows K xs + 1)

-- a model, unless a list has more rows than its chart has places
abbrev pub in_places : Places → Model → Result Model Fault
in_places p s =
    cond (nat_le (rows pin_kind s.pins) p.pins)
    (cond (nat_le (rows mode_kind s.modes) p.modes) (Ok s) (Err NoModePlace))
    (Err NoPinPlace)

-- the samples of a tick at the ends of the lists
abbrev pub grown : Model → Moment × Samples → Model
grown s t = model t.0 (t.1.pins ∷ s.pins) (t.1.mode ∷ s.modes)

-- a step plays the next tick, or stops at the first test that fails, and the state stays
abbrev pub next : List ℕ → (ℕ → ℕ) → Places → Model → Result Model Fault
next image host p s = bind (ticked image host s.moment) (λ t. in_places p (grown s t))

-- the model after n steps from power-on, or the stop that comes before
unfoldable pub after : Start → (ℕ → ℕ) → Places → ℕ → Result Model Fault
after start host p zero = Ok (model (moment (powered_machine start) 0) [] [])
after start host p (suc n) = bind (after start host p n) (next start.image host p)

-- the newest of a list
abbrev pub newest : {X : Type 0} → Kind X → List X → X
newest K [] = K.none
newest K (x ∷ xs) = x

-- the pin sample, and the mode, that the model takes in tick u
abbrev pub newest_pins : Result Model Fault → PinSample
newest_pins (Ok s) = newest pin_kind s.pins
newest_pins (Err f) = pin_kind.none

abbrev pub pins_taken : Start → (ℕ → ℕ) → Places → ℕ → PinSample
pins_taken start host p u = newest_pins (after start host p (suc u))

abbrev pub newest_mode : Result Model Fault → Mode
newest_mode (Ok s) = newest mode_kind s.modes
newest_mode (Err f) = mode_kind.none

abbrev pub mode_taken : Start → (ℕ → ℕ) → Places → ℕ → Mode
mode_taken start host p u = newest_mode (after start host p (suc u))
