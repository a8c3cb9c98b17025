use Rattle.cpu.proofs.Telling.{laws}
use Rattle.cpu.proofs.worked.worked_sums.Goals as goal

pub returns-clause-laws : goal.returns-clause-laws
returns-clause-laws c = laws
