-- What an experiment answers and writes.
use Rattle.std.specs.Prelude.{◌≡◌, ℕ, zero, suc, ◌+◌, ◌*◌, ◌≤◌, false, List, [], ◌∷◌, ◌++◌, take, drop, replicate}
use Rattle.std.specs.List.{flat_map}
use Rattle.recorder.specs.declared.stretch.Stretch.{Stretch}
use Rattle.recorder.specs.declared.pin_sample.PinSample.{PinSample}
use Rattle.recorder.specs.declared.mode.Mode.{Mode}
use Rattle.recorder.specs.declared.mode.Mode.TheVariants.{Running}
use Rattle.recorder.specs.Samples.{pin_script, mode_script}
use Rattle.recorder.specs.Lines.{line_of, texted}
use Rattle.bench.specs.declared.held.Held.{Held}
use Rattle.bench.specs.declared.held.Stretches.{Stretches}
use Rattle.bench.specs.Charting.{Charts, both}
use Rattle.bench.specs.Runs.{played}
use Rattle.bench.specs.Power.{start, powered}
use Rattle.capi.specs.declared.experiment.Asked.{Asked}
use Rattle.capi.specs.declared.experiment.Sizes.{Sizes}
use Rattle.capi.specs.declared.answer.Answer.{Answer}
use Rattle.capi.specs.Describing.{image_of, ram_of, asked_of}
use Rattle.capi.specs.Answers.{answer_of}
use Rattle.capi.specs.Records.{record_of}

-- the answers of calls, and the chip and charts that they leave
pub record Made : Type 0 where
  pub answers : List Answer
  pub held : Held
  pub charts : Charts

abbrev pub made : List Answer → Held → Charts → Made
made answers h c = record { answers = answers; held = h; charts = c }

-- a call more, which begins with what the one before left
abbrev pub call_made : List ℕ → (ℕ → ℕ) → Asked → Made → Made
call_made b host k m =
    let r = played (image_of k.short b) host k.call.grant m.held m.charts in
    made (m.answers ++ answer_of r.ticks r.fault ∷ []) r.held r.charts

-- the first n calls of a description
unfoldable pub calls_made : List ℕ → Sizes → (ℕ → ℕ) → Held → Charts → ℕ → Made
calls_made b s host h c zero = made [] h c
calls_made b s host h c (suc n) = call_made b host (asked_of b s n) (calls_made b s host h c n)

-- the chip that the calls begin with
abbrev pub powered_of : List ℕ → Held
powered_of b = powered (start (image_of false b) (ram_of b))

-- places that show nothing
abbrev pub no_pins : Stretch PinSample
no_pins = record { offset = 0; length = 0; sample = record { levels = 0; drive = 0 } }

abbrev pub no_mode : Stretch Mode
no_mode = record { offset = 0; length = 0; sample = Running }

abbrev pub places_of : Sizes → Charts
places_of s = both (replicate s.pins no_pins) (replicate s.modes no_mode)

-- the whole experiment before a host of this meaning
abbrev pub played_of : List ℕ → Sizes → (ℕ → ℕ) → Made
played_of b s host = calls_made b s host (powered_of b) (places_of s) s.calls

-- the P lines and the M lines of the counted stretches
abbrev pub lines_of : Stretches → Charts → List ℕ
lines_of n c =
    flat_map (line_of pin_script) (take n.pins c.pins)
    ++ flat_map (line_of mode_script) (take n.modes c.modes)

-- what is in the buffers afterwards: an answer for each call, the record, and `written` bytes of lines, each over a buffer's start
pub record Wrote (s : Sizes) (m : Made) (a a' : List Answer) (f f' l l' : List ℕ) (written : ℕ) : Type 0 where
  pub answers : a' ≡ m.answers ++ drop s.calls a
  pub fields : f' ≡ record_of m.held ++ drop 192 f
  pub lines : (written, l') ≡ texted (lines_of m.held.stretches m.charts) l

-- buffers of these lengths take all that an experiment writes
pub record Room (s : Sizes) (answers fields lines : ℕ) : Type 0 where
  pub calls : s.calls ≤ answers
  pub record_bytes : 192 ≤ fields
  pub places : 64 * (s.pins + s.modes) ≤ lines
