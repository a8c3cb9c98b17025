use Rattle.std.proofs.Common.{arith, rules}
use Rattle.counters.proofs.Quiets.{timer_longest, timer_starts}
use Rattle.counters.proofs.timer.Timer.still.Goals as goal

pub returns-in-Divider : goal.returns-in-Divider
returns-in-Divider c =
    rw (c.in-Divider.is, c.still_for.ensures.value)
    record { value = search rules; longest = timer_longest _ _ _ c.still_for.ensures.small (omega arith) (omega arith); starts = timer_starts _ _ _ (omega arith) }
