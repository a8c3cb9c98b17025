use Rattle.std.proofs.Common.{◌≡◌, arith}
use Rattle.std.proofs.lemmas.List.{take_all}
use Rattle.bench.specs.Charting.{both}
use Rattle.capi.proofs.Calling.{none_made, call_more}
use Rattle.capi.proofs.play.make_calls.Goals as goal

pub loop-k-init : goal.loop-k-init
loop-k-init g c = none_made _ _ _ _ _

pub loop-k-preserved : goal.loop-k-preserved
loop-k-preserved g c =
    let d = c.args.description.now in
    let r = c.make_call-run in
    call_more d.bytes.now d.experiment.sizes (g.P.PinHost.meaning c.args.host.now) c.args.chip.now.held (both c.args.pins.now c.args.modes.now) c.loop-k.k
    c.loop-k.answers c.loop-k.chip.held r.new.chip.held (both c.loop-k.pins c.loop-k.modes) (both r.new.pins r.new.modes) c.asked.result r.result.ticks r.result.fault c.from.result
    (omega arith) c.loop-k.invariant c.asked.ensures r.ensures c.from.ensures

pub returns : goal.returns
returns g c =
    let all : c.loop-k.k ≡ c.args.description.now.experiment.sizes.calls = omega arith in
    rw (take_all c.loop-k.k c.loop-k.answers (omega arith), all) at c.loop-k.invariant
