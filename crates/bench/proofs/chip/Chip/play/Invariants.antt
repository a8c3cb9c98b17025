use Rattle.std.proofs.Common.{◌≡◌, ◌+◌, drop}
use Rattle.bench.specs.Charting.{both}
use Rattle.bench.specs.Runs.{played_all}
use Rattle.bench.proofs.chip.Chip.play.Given as goal

abbrev pub invariant-loop-call : goal.invariant-loop-call
invariant-loop-call g l =
    (played_all l.image (g.P.PinHost.meaning l.host) (drop l.call-index l.calls) l.total l.self.held (both l.pins l.modes)
    ≡ played_all l.image (g.P.PinHost.meaning l.host) l.calls 0 l.initial.self.held (both l.initial.pins l.initial.modes))
    × (l.self.held.moment.tick ≡ l.initial.self.held.moment.tick + l.total)
