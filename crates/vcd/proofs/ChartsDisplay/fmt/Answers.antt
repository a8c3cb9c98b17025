use Rattle.std.proofs.Common.{rules}
use Rattle.std.proofs.Output.{has_written_append, has_written_of_eq}
use Rattle.vcd.specs.Headers.{header_of}
use Rattle.vcd.proofs.Whole.{no_pins, no_modes, whole}
use Rattle.vcd.proofs.ChartsDisplay.fmt.Goals as goal

pub returns-in_default-clause-writes : goal.returns-in_default-clause-writes
returns-in_default-clause-writes g c = λ plain ok.
    let charts = c.args.self.now in
    has_written_of_eq _ _ _ _ _ (no_pins charts.ticks charts.pins.now charts.modes.now c.in_default.ensures.cases) (search rules)

pub returns-in_default-split_first-clause-writes : goal.returns-in_default-split_first-clause-writes
returns-in_default-split_first-clause-writes g c = λ plain ok.
    let charts = c.args.self.now in
    has_written_of_eq _ _ _ _ _ (no_modes charts.ticks charts.pins.now charts.modes.now c.in_default-split_first.ensures.cases) (search rules)

pub returns-clause-writes : goal.returns-clause-writes
returns-clause-writes g c = λ plain ok.
    let charts = c.args.self.now in
    let p = c.in-Some in
    let m = c.in-Some-split_first in
    has_written_of_eq _ _ _ _ _
    (whole charts.ticks charts.pins.now charts.modes.now p.first_pins.now p.more_pins.now m.first_mode.now m.more_modes.now p.ensures.cases.0 m.ensures.cases.0)
    (has_written_append _ _ header_of c.write.new.self _ _ (search rules) (search rules))
