-- Worked examples, by computation.
use Rattle.std.specs.Prelude.{◌≡◌, ℕ, ◌^◌, true, false, List, [], ◌∷◌, ◌++◌, take, replicate, Some, None, codes}
use Rattle.sheet.specs.declared.operation.AluOp.TheVariants.{Adc, Sbc}
use Rattle.hosts.specs.Marks.{capped}
use Rattle.hosts.specs.Waves.{turn_after}
use Rattle.hosts.specs.Pulses.{turn_of}
use Rattle.hosts.specs.declared.pulse.Pulse.{Pulse}
use Rattle.recorder.specs.declared.pin_sample.PinSample.{PinSample}
use Rattle.recorder.specs.declared.mode.Mode.TheVariants.{Running}
use Rattle.recorder.specs.Charts.{stretch}
use Rattle.cpu.specs.Effects.{sum_of}
use Rattle.machine.specs.Worked.{table_call, two_pending}
use Rattle.bench.specs.Charting.{Charts, both, counted}
use Rattle.bench.specs.Runs.{Ran, refused}
use Rattle.bench.specs.Power.{start, powered}
use Rattle.runchart.specs.Printing.{charting, printed}

-- LDM RBFUNC,#02; LDM BUR,#00; BRA to itself, at F800; reset word F800
abbrev pub buzzing : List ℕ
buzzing = (0xE4 ∷ 0x02 ∷ 0xCB ∷ 0xE4 ∷ 0x00 ∷ 0xDE ∷ 0x2F ∷ 0xFE ∷ []) ++ (replicate 2038 255 ++ (0x00 ∷ 0xF8 ∷ []))

abbrev pub pins : ℕ → ℕ → PinSample
pins levels drive = record { levels = levels; drive = drive }

-- 1,024 places in each chart
abbrev pub blank : Charts
blank = both (replicate 1024 (stretch 0 0 (pins 0 0))) (replicate 1024 (stretch 0 0 Running))

abbrev pub forty : Ran
forty = charting buzzing 40 blank

abbrev pulse : ℕ → ℕ → Pulse
pulse offset length = record { offset = offset; length = length }

pub record WorkedExamples : Type 0 where
  -- the buzzer on RB1 for 40 ticks: answer, counts, stretches, modes, and the lines as bytes
  pub ticks : forty.ticks ≡ 40
  pub fault : forty.fault ≡ None
  pub counts : forty.held.stretches ≡ counted 4 1
  pub stretches : take 4 forty.charts.pins ≡ (stretch 0 16 (pins 0x0000 0x0200) ∷ stretch 16 8 (pins 0x0200 0x0200) ∷ stretch 24 8 (pins 0x0000 0x0200) ∷ stretch 32 8 (pins 0x0200 0x0200) ∷ [])
  pub modes : take 1 forty.charts.modes ≡ (stretch 0 40 Running ∷ [])
  pub lines : printed (buzzing ++ (40 ∷ 0 ∷ 0 ∷ 0 ∷ [])) blank ≡ codes "P 0 16 0000 0200\nP 16 8 0200 0200\nP 24 8 0000 0200\nP 32 8 0200 0200\nM 0 40 R\nT 40 0\n"
  -- 7F ADC 01 with C 0, FF ADC 01 with C 0, 00 SBC 01 with C 1: A, and PSW as N V G B H I Z C
  pub overflow : sum_of Adc 0x7F false 0x01 ≡ (0x80, 0b11001000)
  pub carry : sum_of Adc 0xFF false 0x01 ≡ (0x00, 0b00001011)
  pub borrow : sum_of Sbc 0x00 true 0x01 ≡ (0xFF, 0b10000000)
  -- 4A takes the word at FFD6, here 3412; INT0 goes ahead of Timer 0, takes the word at FFFA, here 7856, and T0IF stays
  pub call : table_call ≡ (0x3412 ∷ 16 ∷ 0x00 ∷ [])
  pub interrupt : two_pending ≡ (0x7856 ∷ 16 ∷ 0x20 ∷ [])
  -- marks of a wave of 3 low and 2 high ticks after 0 and 3, and of the pulses (4, 2) and (7, 1) after 7 and 8
  pub wave : (capped (turn_after 3 2 0) ∷ capped (turn_after 3 2 3) ∷ []) ≡ (Some 3 ∷ Some 5 ∷ [])
  pub pulses : (turn_of (pulse 4 2 ∷ pulse 7 1 ∷ []) 7 ∷ turn_of (pulse 4 2 ∷ pulse 7 1 ∷ []) 8 ∷ []) ≡ (Some 8 ∷ None ∷ [])
  -- a grant of 2^32 is accepted
  pub longest : refused buzzing (2 ^ 32) (powered (start buzzing (replicate 128 0))) blank ≡ None
