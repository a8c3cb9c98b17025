use Rattle.std.proofs.Common.{◌≡◌, Some, arith, rules}
use Rattle.counters.specs.Basic.{basic_still}
use Rattle.counters.proofs.Quiets.{basic_longest, basic_starts}
use Rattle.counters.proofs.basic.BasicTimer.still.Goals as goal

pub returns : goal.returns
returns c =
    let v : Some c.still_for.result ≡ basic_still c.args.mode c.args.prescaler c.args.self.now = search rules in
    record { value = v; starts = basic_starts _ _ _ (omega arith); longest = rw v (basic_longest _ _ _ (omega arith) (omega arith)) }
