use Rattle.std.proofs.Common.{◌≡◌, ℕ, ◌-◌, min, sym, subst, rules}
use Rattle.bench.specs.Leaps.{cut, Stride}
use Rattle.bench.proofs.Striding.{stride_still}
use Rattle.bench.proofs.held.Moment.stride.Goals as goal

pub returns-clause-longest : goal.returns-clause-longest
returns-clause-longest c =
    let s = c.args.self.now in
    let n = c.args.seen.now in
    let is : c.map_or.result ≡ cut c.still.result (min c.args.most (n.until - s.tick)) = search rules in
    subst (λ (r : ℕ). Stride s n c.args.most r) (sym is) (stride_still s n c.args.most c.still.result c.if-seen.false (c.still.ensures.span c.requires))
