-- What is charted of an input, and printed.
use Rattle.std.specs.Prelude.{◌≡◌, ℕ, cond, List, ◌++◌, length, take, drop, replicate, Some, None, Option, ◌==◌}
use Rattle.std.specs.Int.{w32, from_le_bytes}
use Rattle.std.specs.List.{flat_map}
use Rattle.faults.specs.declared.Fault.TheVariants.{ImageSize}
use Rattle.recorder.specs.Lines.{line_of, outcome_of}
use Rattle.recorder.specs.Samples.{pin_script, mode_script}
use Rattle.bench.specs.Charting.{Charts}
use Rattle.bench.specs.Runs.{Ran, answer, played}
use Rattle.bench.specs.Power.{start, powered}
use Rattle.runchart.specs.declared.print.Charted.{Charted}

-- the four bytes behind an image, low byte first
abbrev pub grant_of : List ℕ → ℕ
grant_of input = from_le_bytes w32 (drop 2048 input)

-- an input is this image of 2,048 bytes, and this grant behind it
pub record IsInput (input image : List ℕ) (grant : ℕ) : Type 0 where
  pub size : length input ≡ 2052
  pub whole : length image ≡ 2048
  pub first : image ≡ take 2048 input
  pub last : grant ≡ grant_of input

-- a run from power-on with RAM of 0, before a host that shows 0
abbrev pub charting : List ℕ → ℕ → Charts → Ran
charting image grant c = played image (λ _. 0) grant (powered (start image (replicate 128 0))) c

-- a run by what was answered, and the charts that it left
abbrev pub run_of : Option Charted → Charts → Option Ran
run_of None c = None
run_of (Some x) c = Some (answer x.run.ticks x.run.fault x.held c)

-- the run of an input and the charts after it; an input of another size than an image and a grant has none
abbrev pub input_run : List ℕ → Charts → Option Ran × Charts
input_run input c =
    let r = charting (take 2048 input) (grant_of input) c in
    cond (length input == 2052) (Some r, r.charts) (None, c)

-- the lines of the counted stretches of both charts, and the outcome
abbrev pub printed_run : Ran → List ℕ
printed_run r =
    flat_map (line_of pin_script) (take r.held.stretches.pins r.charts.pins)
    ++ (flat_map (line_of mode_script) (take r.held.stretches.modes r.charts.modes)
    ++ outcome_of r.ticks r.fault)

-- an input of another size than an image and a grant is refused
abbrev pub printed_of : Option Ran → List ℕ
printed_of None = outcome_of 0 (Some ImageSize)
printed_of (Some r) = printed_run r

-- what is printed of an input
abbrev pub printed : List ℕ → Charts → List ℕ
printed input c = printed_of (input_run input c).0
