use Rattle.capi.proofs.Good.{good}
use Rattle.capi.proofs.description.Description.read.Goals as goal

pub invariant_of-result : goal.invariant_of-result
invariant_of-result c =
    let said = c.in_ok-experiment.ensures.value in
    let g = good c.args.bytes.now c.in_ok-experiment.experiment said in
    record { said = said; pins = g.pins; modes = g.modes; pulses = g.pulses; long = g.long }
