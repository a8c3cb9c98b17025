use Rattle.std.proofs.Common.{◌≡◌, ◌-◌}
use Rattle.bench.specs.Benches.{charts_of, Lent}
use Rattle.bench.proofs.Running.{Running}
use Rattle.bench.proofs.bench.Bench.run_ticks.Given as goal

abbrev pub invariant-loop-done : goal.invariant-loop-done
invariant-loop-done g l = record {
  running : Running l.image (g.P.PinHost.meaning l.host) l.grant l.initial.self.held (charts_of l.initial.self) l.done l.self.held (charts_of l.self);
  before : l.before ≡ g.P.PinHost.meaning l.host (l.self.held.moment.tick - 1);
  lent : Lent l.initial.self l.self;
}
