use Rattle.std.proofs.Common.{List, sym, ◌∙◌, arith}
use Rattle.std.proofs.lemmas.List.{at_drop_more, at_drop_all}
use Rattle.bench.specs.declared.held.Call.{Call}
use Rattle.bench.specs.declared.held.Way.TheVariants.{Ticks}
use Rattle.bench.specs.Charting.{both}
use Rattle.bench.specs.Runs.{played_all}
use Rattle.bench.proofs.Boards.{played_more, played_none, played_tick, stands_after}
use Rattle.bench.proofs.chip.Chip.play.Goals as goal

pub overflow_add-total : goal.overflow_add-total
overflow_add-total g c =
    let up = played_tick _ _ _ _ _ _ _ _ _ c.run-total.ensures.plays in
    let at = c.loop-call.invariant.1 in
    let most = c.run-total.new.self.whole.tick in
    omega arith

pub loop-call-preserved : goal.loop-call-preserved
loop-call-preserved g c =
    let image = c.args.image.now in
    let host = g.P.PinHost.meaning c.args.host.now in
    let F : List Call → _ = λ ks. played_all image host ks c.loop-call.total c.loop-call.self.held (both c.loop-call.pins c.loop-call.modes) in
    let none : Call = record { way = Ticks; grant = 0 } in
    let e = c.run-total.ensures.plays in
    let up = played_tick _ _ _ _ _ _ _ _ _ e in
    let at = c.loop-call.invariant.1 in
    (sym (at_drop_more F c.args.calls.now c.loop-call.call-index none c.loop-call-test.true ∙ played_more image host _ _ _ _ _ _ _ _ _ e) ∙ c.loop-call.invariant.0, omega arith)

pub returns : goal.returns
returns g c =
    let image = c.args.image.now in
    let host = g.P.PinHost.meaning c.args.host.now in
    let h = c.loop-call.self.held in
    let d = both c.loop-call.pins c.loop-call.modes in
    let F : List Call → _ = λ ks. played_all image host ks c.loop-call.total h d in
    let e = sym (at_drop_all F c.args.calls.now c.loop-call.call-index c.loop-call-test.false ∙ played_none image host c.loop-call.total h d) ∙ c.loop-call.invariant.0 in
    record { plays = e; stands = stands_after image host _ _ _ _ _ _ e }
