-- The hosts that a description wires to the pins.
use Rattle.std.specs.Prelude.{ℕ, ◌%◌, ◌^◌, Bool, true, false, List, if◌then◌else◌, bit_or}
use Rattle.hosts.specs.Pulses.{covered}
use Rattle.hosts.specs.Waves.{wave_at}
use Rattle.capi.specs.declared.experiment.Wiring.{Wiring}
use Rattle.capi.specs.declared.experiment.Wiring.TheVariants.{Steady, Pulses, Wave, PulsesAndWave, All}
use Rattle.capi.specs.declared.experiment.Experiment.{Experiment}
use Rattle.capi.specs.Describing.{pulses_of}

-- a host's word has a bit for each of the 15 pins
abbrev pub steady_of : Experiment → ℕ → ℕ
steady_of e t = e.steady % 2 ^ 15

abbrev pub pulsed : List ℕ → Experiment → ℕ → ℕ
pulsed b e t = if covered (pulses_of b e.sizes.pulses) t then e.pulses % 2 ^ 15 else 0

abbrev pub first_of : Experiment → ℕ → ℕ
first_of e = wave_at (e.first.word % 2 ^ 15) e.first.low e.first.high

abbrev pub second_of : Experiment → ℕ → ℕ
second_of e = wave_at (e.second.word % 2 ^ 15) e.second.low e.second.high

-- two hosts on the same pins
abbrev pub joined : (ℕ → ℕ) → (ℕ → ℕ) → ℕ → ℕ
joined m n t = bit_or (m t) (n t)

abbrev pub wired_as : Wiring → List ℕ → Experiment → ℕ → ℕ
wired_as Steady b e = steady_of e
wired_as Pulses b e = pulsed b e
wired_as Wave b e = first_of e
wired_as PulsesAndWave b e = joined (pulsed b e) (first_of e)
wired_as All b e = joined (joined (steady_of e) (pulsed b e)) (joined (first_of e) (second_of e))

-- the pin word at each tick
unfoldable pub meaning_of : List ℕ → Experiment → ℕ → ℕ
meaning_of b e = wired_as e.wiring b e

-- a list of pulses is wired, alone or joined
abbrev pub has_pulses : Wiring → Bool
has_pulses Steady = false
has_pulses Pulses = true
has_pulses Wave = false
has_pulses PulsesAndWave = true
has_pulses All = true
