use Rattle.std.proofs.Common.{refl}
use Rattle.sheet.specs.Rule.{entry_at}
use Rattle.machine.proofs.worked.worked_values.Goals as goal

pub returns : goal.returns
unfolding entry_at
returns c = record { sums = c.worked_sums.ensures.values; call = refl; interrupt = refl }
