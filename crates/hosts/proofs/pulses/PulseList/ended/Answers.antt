use Rattle.std.proofs.Common.{leb, leb-true, arith, rules}
use Rattle.std.proofs.lemmas.Bool.Decides.{nat_tests}
use Rattle.std.proofs.lemmas.List.Sorted.{IsPartitionPoint-from_clause}
use Rattle.hosts.specs.Pulses.{end_of, blank}
use Rattle.hosts.proofs.Pulsing.{parted}
use Rattle.hosts.proofs.pulses.PulseList.ended.Goals as goal

pub returns : goal.returns
returns c =
    let s = c.args.self.now in
    let found = c.partition_point.ensures in
    let point = IsPartitionPoint-from_clause (λ p. leb (end_of p) c.args.t) s.pulses.now _ found.partitioned (parted s.pulses.now c.args.t s.apart) (λ a r q k. search rules) in
    record {
      within = found.bound;
      before = λ some. leb-true _ _ (point.0 _ _ (omega arith) (omega arith));
      after = λ more. let e = point.1 _ blank (omega arith) more in grind (arith, nat_tests);
    }
