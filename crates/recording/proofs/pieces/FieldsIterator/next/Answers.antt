use Rattle.std.proofs.Common.{rules}
use Rattle.recording.proofs.Cutting.{found, fewer}
use Rattle.recording.proofs.pieces.FieldsIterator.next.Goals as goal

pub returns-clause-steps : goal.returns-clause-steps
returns-clause-steps c =
    found _ _ (λ x b q k. search rules) c.find.result c.args.self.now.pieces c.find.new.self c.find.ensures.ran

pub returns-clause-goes : goal.returns-clause-goes
returns-clause-goes c = record {
  on = λ _. fewer c.find.result _ _ (found _ _ (λ x b q k. search rules) c.find.result c.args.self.now.pieces c.find.new.self c.find.ensures.ran);
  keeps = search rules;
  rests = search rules;
}
