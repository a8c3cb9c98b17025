use Rattle.std.proofs.Math.Nat.{add-mod-mod}
use Rattle.std.proofs.Common.{ap, ◌∙◌, ◌+◌, ◌%◌}
use Rattle.counters.proofs.divider.Divider.run_on.Goals as goal

pub returns : goal.returns
returns g c = add-mod-mod c.args.count c.pulses_in.result g.row.M ∙ ap (λ n. (c.args.count + n) % g.row.M) c.pulses_in.ensures
