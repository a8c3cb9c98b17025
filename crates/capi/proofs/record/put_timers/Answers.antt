use Rattle.std.proofs.Common.{◌≡◌, ◌++◌, arith, add-one, length-append, ap, length}
use Rattle.counters.specs.Timers.{at}
use Rattle.capi.specs.Records.{timer_of}
use Rattle.capi.proofs.Joining.{behind, timers_below}
use Rattle.capi.proofs.record.put_timers.Goals as goal

pub loop-timer-preserved : goal.loop-timer-preserved
loop-timer-preserved c =
    let i = c.loop-timer.timer-index in
    let t = c.args.timers.now in
    record {
      written = rw add-one (behind c.args.out.now (timers_below t i) _ (timer_of (at t i)) _ c.loop-timer.invariant.written c.push.ensures);
      long = omega (arith, simp length-append at (ap length c.push.ensures));
    }

pub returns-clause-bytes : goal.returns-clause-bytes
returns-clause-bytes c =
    let t = c.args.timers.now in
    let two : c.loop-timer.timer-index ≡ 2 = omega arith in
    let both : c.loop-timer.out ≡ c.args.out.now ++ timers_below t 2 = rw two at c.loop-timer.invariant.written in
    behind c.args.out.now (timers_below t 2) _ _ _ both (rw c.from.ensures at c.push-2.ensures)
