use Rattle.hosts.proofs.Pulsing.{looked_up}
use Rattle.hosts.proofs.pulses.PulseList.current.Goals as goal

pub returns : goal.returns
returns c = looked_up _ _ _ c.get.result c.args.self.now.apart c.ended.ensures c.get.ensures.lookup.3
