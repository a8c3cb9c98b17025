-- Recorded pins, charted tick by tick.
use Rattle.std.specs.Prelude.{ℕ, zero, suc, cond, List, Some, None, Option, nat_lt}
use Rattle.faults.specs.declared.Fault.{Fault}
use Rattle.faults.specs.declared.Fault.TheVariants.{NoPinPlace}
use Rattle.recorder.specs.declared.stretch.Stretch.{Stretch}
use Rattle.recorder.specs.declared.pin_sample.PinSample.{PinSample}
use Rattle.recorder.specs.Charts.{appended}
use Rattle.recorder.specs.Samples.{pin_kind}
use Rattle.pinchart.specs.declared.charted.Charted.{Charted}

abbrev pub reached : ℕ → ℕ → Option Fault → Charted
reached t n f = record { ticks = t; count = n; fault = f }

-- the sample of tick u: the word m u, and no pin driven
abbrev pub pins_at : (ℕ → ℕ) → ℕ → PinSample
pins_at m u = record { levels = m u; drive = 0 }

-- where a sample found a place, and where it did not
abbrev sampled : ℕ → ℕ → Option ℕ × List (Stretch PinSample) → Charted × List (Stretch PinSample)
sampled t n (Some c, cs) = (reached (suc t) c None, cs)
sampled t n (None, cs) = (reached t n (Some NoPinPlace), cs)

-- tick t, unless a tick before had no place
abbrev pub tick_on : (ℕ → ℕ) → ℕ → Charted × List (Stretch PinSample) → Charted × List (Stretch PinSample)
tick_on m t p = one p.0.fault
  where
    one : Option Fault → Charted × List (Stretch PinSample)
    one None = sampled t p.0.count (appended pin_kind p.1 p.0.count 1 (pins_at m t))
    one (Some f) = p

-- ticks 0 to t - 1, one by one
abbrev pub walked : (ℕ → ℕ) → ℕ → List (Stretch PinSample) → Charted × List (Stretch PinSample)
walked m zero cs = (reached 0 0 None, cs)
walked m (suc t) cs = tick_on m t (walked m t cs)

-- the mark, or the end if that comes first
abbrev pub until_mark : Option ℕ → ℕ → ℕ
until_mark None e = e
until_mark (Some u) e = cond (nat_lt u e) u e
