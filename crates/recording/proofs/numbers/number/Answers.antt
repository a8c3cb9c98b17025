use Rattle.std.proofs.Common.{◌<◌, rules, length, ap, ◌∙◌, arith, false-eqb}
use Rattle.recording.proofs.Digits.{digits_on, folded, read_all}
use Rattle.recording.proofs.numbers.number.Goals as goal

pub returns : goal.returns
returns c =
    let some : 0 < length c.args.digits.now = omega (arith, false-eqb _ _ c.if-is_empty.ensures) in
    folded _ _ _ c.args.base (λ n x v q k. search rules) c.try_fold.result _ _ c.try_fold.ensures.ran
    ∙ ap (digits_on c.args.base 0) c.iter.ensures.rest
    ∙ read_all c.args.base c.args.digits.now (omega arith) some
