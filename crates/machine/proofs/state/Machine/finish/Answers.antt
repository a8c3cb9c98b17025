use Rattle.std.proofs.Common.{rules}
use Rattle.machine.proofs.Keeping.{finish_sound}
use Rattle.machine.proofs.state.Machine.finish.Goals as goal

pub returns-else-passing-2-clause-sound : goal.returns-else-passing-2-clause-sound
returns-else-passing-2-clause-sound c = finish_sound c.args.self.now _ c.args.image.now c.args.before c.args.at (search rules)
