use Rattle.std.proofs.Common.{◌≡◌, take}
use Rattle.bench.specs.Charting.{both}
use Rattle.capi.specs.Playing.{made, calls_made}
use Rattle.capi.proofs.play.make_calls.Given as goal

-- the calls below the index are made
abbrev pub invariant-loop-k : goal.invariant-loop-k
invariant-loop-k g l =
    made (take l.k l.answers) l.chip.held (both l.pins l.modes)
    ≡ calls_made l.description.bytes.now l.description.experiment.sizes (g.P.PinHost.meaning l.host) l.initial.chip.held (both l.initial.pins l.initial.modes) l.k
