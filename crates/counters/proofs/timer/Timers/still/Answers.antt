use Rattle.std.proofs.Common.{◌≡◌, length, rules}
use Rattle.counters.proofs.Quiets.{pair_longest, pair_starts}
use Rattle.counters.proofs.timer.Timers.still.Goals as goal

pub returns : goal.returns
returns c =
    let zero = c.source0-source0.ensures in
    let one = c.source1-source1.ensures in
    let two : length c.args.self.now.pair ≡ 2 = search rules in
    record {
      value = search rules;
      longest = rw c.sooner.ensures (pair_longest _ _ _ _ _ two (rw zero at c.still.ensures.longest) (rw one at c.still-2.ensures.longest));
      starts = pair_starts _ _ _ (rw zero at c.still.ensures.starts) (rw one at c.still-2.ensures.starts);
    }
