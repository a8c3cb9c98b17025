use Rattle.std.proofs.Common.{sym, ◌∙◌, arith}
use Rattle.hosts.proofs.Pulsing.{bad_here, fair_here, fair_all}
use Rattle.hosts.proofs.pulses.first_bad.Goals as goal

pub loop-i-preserved : goal.loop-i-preserved
loop-i-preserved c = rw c.end-least.ensures (c.loop-i.invariant ∙ fair_here c.args.pulses.now c.loop-i.i c.loop-i.least c.loop-i-test.true (sym c.if-not-is_fair.ensures))

pub returns-then-not-is_fair : goal.returns-then-not-is_fair
returns-then-not-is_fair c = sym (c.loop-i.invariant ∙ bad_here c.args.pulses.now c.loop-i.i c.loop-i.least c.loop-i-test.true (sym c.if-not-is_fair.ensures))

pub returns : goal.returns
returns c = sym (c.loop-i.invariant ∙ fair_all c.args.pulses.now c.loop-i.i c.loop-i.least (omega arith))
