use Rattle.std.proofs.Common.{◌≡◌, ◌-◌, refl, ap, ◌∙◌, arith}
use Rattle.bench.proofs.Running.{level, running_goes, running_halts, running_end, running_begins}
use Rattle.bench.proofs.bench.Bench.run_ticks.Goals as goal

pub loop-done-init : goal.loop-done-init
loop-done-init g c =
    let host = g.P.PinHost.meaning c.args.host.now in
    let before = c.saturating_sub.ensures in
    let tick = c.requires.ready.whole.tick in
    record {
      running = running_begins _ _ _ _ _ c.requires.time c.requires.ready;
      before = c.levels-before.ensures ∙ level c.args.image.now host c.saturating_sub.result (omega arith) ∙ ap host before;
      lent = record { pins = refl; modes = refl };
    }

pub returns-in-Err : goal.returns-in-Err
returns-in-Err g c =
    let inv = c.loop-done.invariant in
    let room = inv.running.room in
    let p = running_halts _ _ _ _ _ _ _ _ inv.running _ _ _ _ c.loop-done-test.true inv.before (c.levels-word.ensures ∙ level c.args.image.now (g.P.PinHost.meaning c.args.host.now) c.loop-done.self.held.moment.tick (omega arith)) c.in-Err.fault c.in-Err.ensures.value in
    let lent = c.in-Err.ensures.lent in
    rw c.stopped.ensures (record { plays = p.0; whole = p.1; lent = record { pins = lent.pins ∙ inv.lent.pins; modes = lent.modes ∙ inv.lent.modes } })

pub loop-done-preserved : goal.loop-done-preserved
loop-done-preserved g c =
    let host = g.P.PinHost.meaning c.args.host.now in
    let inv = c.loop-done.invariant in
    let room = inv.running.room in
    let word = c.levels-word.ensures ∙ level c.args.image.now (g.P.PinHost.meaning c.args.host.now) c.loop-done.self.held.moment.tick (omega arith) in
    let e = c.in_default.ensures in
    let p = running_goes _ _ _ _ _ _ _ _ inv.running _ _ _ _ c.loop-done-test.true inv.before word e.value (e.ready inv.running.ready) in
    let at = p.1 in
    let back : c.loop-done.self.held.moment.tick ≡ c.step.new.self.held.moment.tick - 1 = omega arith in
    record { running = p.0; before = word ∙ ap host back; lent = record { pins = e.lent.pins ∙ inv.lent.pins; modes = e.lent.modes ∙ inv.lent.modes } }

pub returns : goal.returns
returns g c =
    let inv = c.loop-done.invariant in
    rw c.whole.ensures (record { plays = running_end _ _ _ _ _ _ _ _ inv.running (omega arith); whole = inv.running.ready.whole; lent = inv.lent })
