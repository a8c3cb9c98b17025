use Rattle.std.proofs.Common.{◌≡◌, drop}
use Rattle.hosts.specs.Pulses.{first_bad, bad_from}
use Rattle.hosts.proofs.pulses.first_bad.Given as goal

abbrev pub invariant-loop-i : goal.invariant-loop-i
invariant-loop-i l = first_bad l.pulses ≡ bad_from l.i l.least (drop l.i l.pulses)
