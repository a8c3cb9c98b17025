use Rattle.std.proofs.Common.{◌≡◌, ◌+◌, ◌*◌, ◌++◌, length}
use Rattle.capi.proofs.Joining.{timers_below}
use Rattle.capi.proofs.record.put_timers.Given as goal

-- the timers below the index are written
abbrev pub invariant-loop-timer : goal.invariant-loop-timer
invariant-loop-timer l = record {
  written : l.out ≡ l.initial.out ++ timers_below l.timers l.timer-index;
  long : length l.out ≡ length l.initial.out + 3 * l.timer-index;
}
