use Rattle.std.proofs.Common.{Ok, rules}
use Rattle.machine.proofs.Keeping.{begin_sound}
use Rattle.machine.proofs.state.Machine.begin.Goals as goal

pub returns-in_ok-ticks-in-Execute-clause-sound : goal.returns-in_ok-ticks-in-Execute-clause-sound
returns-in_ok-ticks-in-Execute-clause-sound c = begin_sound (Ok tt) c.args.self.now _ c.args.image.now c.args.host (search rules)
