use Rattle.std.proofs.Common.{rules}
use Rattle.std.proofs.lemmas.Result.{err_from_is_err_and}
use Rattle.bench.specs.Benches.{charts_of}
use Rattle.bench.proofs.Stepping.{mode_stops}
use Rattle.bench.proofs.bench.Bench.add.Goals as goal

pub returns-in_err-counts-clause-value : goal.returns-in_err-counts-clause-value
returns-in_err-counts-clause-value c =
    let p = err_from_is_err_and c.from_residual.result c.from_residual.ensures.1 in
    rw (p.1, p.2) (mode_stops c.args.ticks c.args.samples c.args.self.now.held.stretches (charts_of c.args.self.now) c.append.result c.append.new.chart _ (search rules) c.append.ensures.value c.in_err-counts.ensures.value)
