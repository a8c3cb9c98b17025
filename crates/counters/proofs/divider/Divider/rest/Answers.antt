use Rattle.std.proofs.Common.{◌-◌, ap, ◌∙◌, arith}
use lib.Bits.{bit_and}
use Rattle.std.proofs.lemmas.Nat.{pow_pos, one_shl, and_mask}
use Rattle.counters.proofs.divider.Divider.rest.Goals as goal

pub overflow_sub-result : goal.overflow_sub-result
overflow_sub-result c = let h = c.self.invariant in omega (arith, one_shl c.self.inside.shift 64 (omega arith), pow_pos c.self.inside.shift)

pub returns-clause-value : goal.returns-clause-value
returns-clause-value c =
    let h = c.self.invariant in
    rw c.self.view_is (ap (λ d. bit_and c.args.n (d - 1)) (one_shl c.args.self 64 (omega arith)) ∙ and_mask c.args.n c.args.self)
