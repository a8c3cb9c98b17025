-- The VCD file of an input.
use Rattle.std.specs.Prelude.{ℕ, List, take}
use Rattle.bench.specs.Charting.{Charts}
use Rattle.bench.specs.Runs.{Ran}
use Rattle.runchart.specs.Printing.{grant_of, charting}
use Rattle.vcd.specs.Changes.{vcd_of}

-- the run that `chart` prints, of the image and the grant behind it
abbrev pub ran_of : List ℕ → Charts → Ran
ran_of input c = charting (take 2048 input) (grant_of input) c

-- the counted stretches of both charts, and the ticks that were run
abbrev pub wave_of : Ran → List ℕ
wave_of r = vcd_of (take r.held.stretches.pins r.charts.pins) (take r.held.stretches.modes r.charts.modes) r.ticks
