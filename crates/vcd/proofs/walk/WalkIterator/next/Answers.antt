use Rattle.std.proofs.Common.{rules, ◌≡◌, ◌+◌, length, ap, arith}
use Rattle.vcd.specs.Changes.{next_tick}
use Rattle.vcd.proofs.Walking.{stops, turned}
use Rattle.vcd.proofs.walk.WalkIterator.next.Goals as goal

pub returns-then-tick-self-clause-steps : goal.returns-then-tick-self-clause-steps
returns-then-tick-self-clause-steps c =
    let w = c.args.self.now in
    let next : c.min-tick.result ≡ next_tick w.end w.pins.now w.modes.now = search rules in
    let none = stops (length w.pins.now + length w.modes.now) w.end c.min-tick.result w.shown w.pins.now w.modes.now next (omega arith) in (none, none)

pub returns-clause-steps : goal.returns-clause-steps
returns-clause-steps c =
    let w = c.args.self.now in
    let next : c.min-tick.result ≡ next_tick w.end w.pins.now w.modes.now = search rules in
    turned w.end c.min-tick.result w.shown w.pins.now w.modes.now next (omega arith) c.unwrap_or-shown.result c.sample_at-mode.result _ _ (search rules) c.sample_at-mode.ensures c.past_tick-self.ensures c.past_tick-self-2.ensures

pub returns-clause-goes : goal.returns-clause-goes
returns-clause-goes c = record { on = λ _. (tt, tt, omega (arith, ap length (returns-clause-steps c))); keeps = tt; rests = λ _. tt }
