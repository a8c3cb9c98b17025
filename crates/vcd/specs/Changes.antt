-- What a VCD file says of two charts.
use Rattle.std.specs.Prelude.{ℕ, zero, suc, ◌+◌, min, cond, List, [], ◌∷◌, ◌++◌, length, codes, decimal, Some, None, Option, ◌==◌, nat_lt, unwrap_or}
use Rattle.std.specs.Option.{option_map_or}
use Rattle.std.specs.List.{flat_map}
use Rattle.recorder.specs.declared.stretch.Stretch.{Stretch}
use Rattle.recorder.specs.declared.pin_sample.PinSample.{PinSample}
use Rattle.recorder.specs.declared.mode.Mode.{Mode}
use Rattle.vcd.specs.declared.walk.Change.{Change}
use Rattle.vcd.specs.declared.walk.Walk.{Walk}
use Rattle.vcd.specs.Headers.{header_of}
use Rattle.vcd.specs.Values.{pin_lines, all_pins, changed, mode_line}

abbrev pub tick_line : ℕ → List ℕ
tick_line t = 35 ∷ (decimal t ++ (10 ∷ []))

-- the tick at which the first stretch begins, or the end if there is none
abbrev pub next_or : {X : Type 0} → ℕ → List (Stretch X) → ℕ
next_or end [] = end
next_or end (s ∷ ss) = s.offset

-- the sample of the first stretch if it begins at tick t
abbrev pub sample_at : {X : Type 0} → ℕ → List (Stretch X) → Option X
sample_at t [] = None
sample_at t (s ∷ ss) = cond (s.offset == t) (Some s.sample) None

-- the stretches without the first if it begins at tick t
abbrev pub past : {X : Type 0} → ℕ → List (Stretch X) → List (Stretch X)
past t [] = []
past t (s ∷ ss) = cond (s.offset == t) ss (s ∷ ss)

-- what the pins show at tick t, after they showed p
abbrev pub shown_at : ℕ → PinSample → List (Stretch PinSample) → PinSample
shown_at t p ps = unwrap_or (sample_at t ps) p

-- the first tick at which a stretch of either chart begins, or the end
abbrev pub next_tick : ℕ → List (Stretch PinSample) → List (Stretch Mode) → ℕ
next_tick end ps ms = min (next_or end ps) (next_or end ms)

-- the tick, the pins that changed, and the mode that begins
abbrev pub change_text : Change → List ℕ
change_text c = tick_line c.tick ++ (pin_lines c.shown (changed c.before c.shown) ++ option_map_or mode_line c.mode [])

-- tick after tick at which a stretch begins, at most n of them
unfoldable pub changes : ℕ → ℕ → PinSample → List (Stretch PinSample) → List (Stretch Mode) → List Change
changes zero end p ps ms = []
changes (suc n) end p ps ms =
    let t = next_tick end ps ms in
    cond (nat_lt t end) (record { tick = t; before = p; shown = shown_at t p ps; mode = sample_at t ms } ∷ changes n end (shown_at t p ps) (past t ps) (past t ms)) []

-- all of them, and their text with the end
abbrev pub changes_left : Walk → List Change
changes_left w = changes (length w.pins.now + length w.modes.now) w.end w.shown w.pins.now w.modes.now

abbrev pub walk_text : Walk → List ℕ
walk_text w = flat_map change_text (changes_left w) ++ tick_line w.end

abbrev pub changes_of : ℕ → PinSample → List (Stretch PinSample) → List (Stretch Mode) → List ℕ
changes_of end p ps ms = flat_map change_text (changes (length ps + length ms) end p ps ms) ++ tick_line end

-- all values at tick 0
abbrev pub start_of : PinSample → Mode → List ℕ
start_of p m = codes "#0\n$dumpvars\n" ++ (pin_lines p all_pins ++ (mode_line m ++ codes "$end\n"))

-- the file of two charts of some ticks. It has no values unless both charts have a stretch
unfoldable pub vcd_of : List (Stretch PinSample) → List (Stretch Mode) → ℕ → List ℕ
vcd_of [] ms ticks = header_of
vcd_of (p ∷ ps) [] ticks = header_of
vcd_of (p ∷ ps) (m ∷ ms) ticks = header_of ++ (start_of p.sample m.sample ++ changes_of ticks p.sample ps ms)
