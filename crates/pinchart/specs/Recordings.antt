-- What a recording shows, and its chart.
use Rattle.std.specs.Prelude.{ℕ, ◌%◌, ◌^◌, min, cond, List, ◌++◌, take, Some, None, Option, Ok, Err, Result, bit_or}
use Rattle.std.specs.List.{flat_map}
use Rattle.faults.specs.declared.Fault.{Fault}
use Rattle.faults.specs.declared.Fault.TheVariants.{BadPulseList, WaveOutOfRange}
use Rattle.hosts.specs.Pulses.{bad_pulse, covered}
use Rattle.hosts.specs.Waves.{wave_at, wave_fits}
use Rattle.hosts.specs.declared.pulse.Pulse.{Pulse}
use Rattle.recorder.specs.declared.stretch.Stretch.{Stretch}
use Rattle.recorder.specs.declared.pin_sample.PinSample.{PinSample}
use Rattle.recorder.specs.Lines.{line_of, outcome_of}
use Rattle.recorder.specs.Samples.{pin_script}
use Rattle.recording.specs.Read.{Described}
use Rattle.recording.specs.declared.Wave.{Wave}
use Rattle.pinchart.specs.declared.charted.Charted.{Charted}
use Rattle.pinchart.specs.Walks.{reached, walked}

-- the word of the pulses, 0 between them
abbrev pub pulsed : ℕ → List Pulse → ℕ → ℕ
pulsed word ps t = cond (covered ps t) (word % 2 ^ 15) 0

-- what shows with a wave on the same pins
abbrev pub with_wave : Option Wave → (ℕ → ℕ) → ℕ → ℕ
with_wave None m = m
with_wave (Some w) m = λ t. bit_or (m t) (wave_at (w.word % 2 ^ 15) w.low w.high t)

abbrev pub shown_at : Described → ℕ → ℕ
shown_at d = with_wave d.wave (pulsed d.word d.pulses)

-- why a list of pulses, or a wave, is refused
abbrev pub pulses_refused : Option ℕ → Option Fault
pulses_refused None = None
pulses_refused (Some i) = Some (BadPulseList i)

abbrev pub wave_refused : Option Wave → Option Fault
wave_refused None = None
wave_refused (Some w) = cond (wave_fits w.low w.high) None (Some WaveOutOfRange)

-- no tick is charted where there is a refusal
abbrev pub or_else : Option Fault → Charted × List (Stretch PinSample) → List (Stretch PinSample) → Charted × List (Stretch PinSample)
or_else None p cs = p
or_else (Some f) p cs = (reached 0 0 (Some f), cs)

-- the chart that a result stands for
abbrev pub settled : Result Charted Fault → Charted
settled (Ok c) = c
settled (Err f) = reached 0 0 (Some f)

-- the chart of a meaning with a wave, and of a recording
abbrev pub waving : (ℕ → ℕ) → Option Wave → ℕ → List (Stretch PinSample) → Charted × List (Stretch PinSample)
waving m wave ticks cs = or_else (wave_refused wave) (walked (with_wave wave m) (min ticks (2 ^ 48)) cs) cs

abbrev pub charting : Described → List (Stretch PinSample) → Charted × List (Stretch PinSample)
charting d cs = or_else (pulses_refused (bad_pulse d.pulses)) (waving (pulsed d.word d.pulses) d.wave d.ticks cs) cs

-- its text: the line of each counted stretch, and the outcome
abbrev pub printed : Charted × List (Stretch PinSample) → List ℕ
printed p = flat_map (line_of pin_script) (take p.0.count p.1) ++ outcome_of p.0.ticks p.0.fault
