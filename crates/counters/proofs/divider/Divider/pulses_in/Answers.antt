use Rattle.std.proofs.Common.{◌^◌, mod-lt, arith}
use Rattle.std.proofs.lemmas.Nat.{pow_pos, pow_below}
use Rattle.counters.proofs.Dividers.{pulses_split, pulses_few}
use Rattle.counters.proofs.divider.Divider.pulses_in.Goals as goal

pub overflow_add-rests : goal.overflow_add-rests
overflow_add-rests c =
    let d = 2 ^ c.args.self in
    omega (arith, mod-lt c.args.prescaler (pow_pos c.args.self), mod-lt c.args.ticks (pow_pos c.args.self), pow_below c.args.self 12 (omega arith))

pub overflow_add-result : goal.overflow_add-result
overflow_add-result c =
    rw (c.self.view_is, c.rest.ensures.value, c.rest-2.ensures.value)
    (omega (arith, pulses_few (2 ^ c.args.self) c.args.prescaler c.args.ticks (pow_pos c.args.self)))

pub returns : goal.returns
returns c =
    rw (c.self.view_is, c.rest.ensures.value, c.rest-2.ensures.value)
    (pulses_split (2 ^ c.args.self) c.args.prescaler c.args.ticks (pow_pos c.args.self))
