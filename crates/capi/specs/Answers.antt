-- What C sees of a run's answer.
use Rattle.std.specs.Prelude.{ℕ, Some, None, Option}
use Rattle.faults.specs.declared.Fault.{Fault}
use Rattle.faults.specs.Faults.{number_of, source_of}
use Rattle.capi.specs.declared.answer.Answer.{Answer}

-- a pc or an address, 65,536 for none
abbrev pub place_of : Option ℕ → ℕ
place_of None = 65536
place_of (Some place) = place

abbrev pub answer_of : ℕ → Option Fault → Answer
answer_of ticks None = record { ticks = ticks; number = 0; pc = 65536; address = 65536 }
answer_of ticks (Some f) = record { ticks = ticks; number = number_of f; pc = place_of (source_of f).pc; address = place_of (source_of f).address }
