use Rattle.std.proofs.Common.{◌∙◌, sym, refl, subst, arith}
use Rattle.bench.specs.declared.leap.Seen.{Seen}
use Rattle.bench.specs.Benches.{charts_of}
use Rattle.bench.specs.Leaps.{Sees}
use Rattle.bench.proofs.Running.{running_begins, running_end}
use Rattle.bench.proofs.Leaping.{Went, moves_on, moves_stop}
use Rattle.bench.proofs.bench.Bench.run_leaps.Goals as goal
use Rattle.bench.proofs.bench.Bench.run_leaps.Given as given

pub loop-done-init : goal.loop-done-init
loop-done-init g c =
    let host = g.P.PinHost.meaning c.args.host.now in
    let t = c.args.self.now.held.moment.tick in
    record {
      running = running_begins _ _ _ _ _ c.requires.time c.requires.ready;
      sees = subst (λ (s : Seen). Sees host t s) (sym c.new-seen.ensures) (record { before = refl; word = λ v from to. absurd (omega arith); horizon = c.requires.ready.whole.tick });
      within = omega arith;
      lent = record { pins = refl; modes = refl };
    }

pub renew-requires : goal.renew-requires
renew-requires g c = let room = c.loop-done.invariant.running.room in record { tick = omega arith; sees = c.loop-done.invariant.sees }

pub advance-requires : goal.advance-requires
advance-requires g c = record { some = omega arith; accepted = record { time = c.loop-done.invariant.running.room; ready = c.loop-done.invariant.running.ready } }

-- a move that went on
went : (g : given.Over) (c : goal.In-Ok g) → Went c.args.image.now (g.P.PinHost.meaning c.args.host.now) c.args.grant c.args.self.now.held (charts_of c.args.self.now) c.loop-done.done c.loop-done.self.held (charts_of c.loop-done.self) c.loop-done.invariant.running c.renew.new.self c.renew.ensures.sees c.renew.ensures.ahead c.loop-done-test.true c.in-Ok.ensures.longest c.in-Ok.ensures.bounded c.in-Ok.ticks c.advance.new.self.held (charts_of c.advance.new.self)
went g c = let e = c.in-Ok.ensures in moves_on _ _ _ _ _ _ _ _ c.loop-done.invariant.running _ c.renew.ensures.sees c.renew.ensures.ahead c.loop-done-test.true e.longest e.bounded _ _ _ e.takes e.value e.ready

pub overflow_add-done : goal.overflow_add-done
overflow_add-done g c = omega (arith, (went g c).granted)

pub loop-done-smaller : goal.loop-done-smaller
loop-done-smaller g c = omega (arith, (went g c).granted, (went g c).some)

pub loop-done-preserved : goal.loop-done-preserved
loop-done-preserved g c =
    let w = went g c in
    let before = c.loop-done.invariant.lent in
    let after = c.in-Ok.ensures.lent in
    record { running = w.running; sees = w.sees_on; within = w.granted; lent = record { pins = after.pins ∙ before.pins; modes = after.modes ∙ before.modes } }

pub returns-in-Err : goal.returns-in-Err
returns-in-Err g c =
    let e = c.in-Err.ensures in
    let p = moves_stop _ _ _ _ _ _ _ _ c.loop-done.invariant.running _ c.renew.ensures.sees c.renew.ensures.ahead c.loop-done-test.true e.longest e.bounded c.in-Err.fault _ _ e.value in
    let before = c.loop-done.invariant.lent in
    rw c.stopped.ensures (record { plays = p.0; whole = p.1; lent = record { pins = e.lent.pins ∙ before.pins; modes = e.lent.modes ∙ before.modes } })

pub returns : goal.returns
returns g c =
    let inv = c.loop-done.invariant in
    let most = inv.within in
    rw c.whole.ensures (record { plays = running_end _ _ _ _ _ _ _ _ inv.running (omega arith); whole = inv.running.ready.whole; lent = inv.lent })
