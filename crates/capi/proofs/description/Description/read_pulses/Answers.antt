use Rattle.std.proofs.Common.{rules}
use Rattle.std.proofs.lemmas.List.FromFn.{fill_by_all}
use Rattle.capi.specs.Describing.{pulse_of}
use Rattle.capi.proofs.description.Description.read_pulses.Goals as goal

pub returns : goal.returns
returns c = fill_by_all (pulse_of c.args.self.now.bytes.now) c.loop-k.pulses _ (record { offset = 0; length = 0 }) (search rules) (search rules)
