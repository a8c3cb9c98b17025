use Rattle.std.proofs.Common.{rules, arith, ◌∙◌, add-one, false-eqb}
use Rattle.std.proofs.lemmas.List.{take_rest}
use Rattle.recording.proofs.Cutting.{cut_at, cut_nowhere}
use Rattle.recording.proofs.pieces.cut.Goals as goal

pub returns-in-Some : goal.returns-in-Some
returns-in-Some c =
    cut_at c.args.separator c.args.bytes.now c.in-Some.end (search rules) (search rules) (search rules) ∙ simp (take_rest, add-one)

pub returns-in-None : goal.returns-in-None
returns-in-None c =
    cut_nowhere c.args.separator c.args.bytes.now (omega (arith, false-eqb _ _ c.if-is_empty.ensures)) (search rules)
