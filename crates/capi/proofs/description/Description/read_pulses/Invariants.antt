use Rattle.std.proofs.Common.{◌≡◌, ℕ, ◌<◌, slice_index_or}
use Rattle.capi.specs.Describing.{pulse_of}
use Rattle.capi.proofs.description.Description.read_pulses.Given as goal

-- the pulses below the index are written
abbrev pub invariant-loop-k : goal.invariant-loop-k
invariant-loop-k l = (i : ℕ) → i < l.k → slice_index_or l.pulses i (record { offset = 0; length = 0 }) ≡ pulse_of l.self.bytes.now i
