use Rattle.std.proofs.Common.{◌≡◌, ◌+◌, ◌*◌, ◌≤◌, ◌++◌}
use Rattle.arrayvec.specs.ArrayVec.{array_vec_len}
use Rattle.vcd.specs.Signals.{first_id}
use Rattle.vcd.specs.Values.{bit_lines}
use Rattle.vcd.proofs.values.add_bits.Given as goal

abbrev pub invariant-loop-pin : goal.invariant-loop-pin
invariant-loop-pin l =
    (l.lines.items ≡ l.initial.lines.items ++ bit_lines l.pin (first_id l.signal) l.word l.which)
    × (array_vec_len l.lines ≤ array_vec_len l.initial.lines + 3 * l.pin)
