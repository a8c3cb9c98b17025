use Rattle.std.proofs.Common.{sym, refl, subst}
use Rattle.bench.specs.declared.held.Held.{Held}
use Rattle.bench.specs.Power.{start}
use Rattle.bench.specs.Model.{sizes}
use Rattle.bench.specs.Board.{Since, began}
use Rattle.bench.proofs.chip.Chip.power_on.Goals as goal

pub returns-clause-begins : goal.returns-clause-begins
returns-clause-begins c = λ _ host charts. subst (λ (h : Held). Since (start c.args.image.now c.args.ram) host (sizes charts) h charts 0) (sym c.powered_on-self.ensures) (began charts refl)
