use Rattle.std.proofs.Common.{◌≡◌, ◌+◌, ◌≤◌, length, vec_items}
use Rattle.recording.specs.Pieces.{pieces_left}
use Rattle.recording.specs.Read.{read_on, read_all}
use Rattle.recording.proofs.parse.Given as goal

-- the lines that are left give the answer, and each line before them has a byte or its end
abbrev pub invariant-loop-bytes : goal.invariant-loop-bytes
invariant-loop-bytes l =
    (goal.iterator-loop-bytes).can_next l.bytes-iterator
    × (goal.iterator-loop-bytes).is_finite l.bytes-iterator
    × (read_all l.fn.text ≡ read_on l.line l.seen (vec_items l.pulses) (pieces_left l.bytes-iterator))
    × (l.line + length (pieces_left l.bytes-iterator) ≤ length l.fn.text + 1)
