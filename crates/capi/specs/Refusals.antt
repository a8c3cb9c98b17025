-- The numbers that C sees for refusals.
use Rattle.std.specs.Prelude.{ℕ}
use Rattle.faults.specs.Faults.{number_of as fault_number_of}
use Rattle.capi.specs.declared.refusal.Refusal.{Refusal}
use Rattle.capi.specs.declared.refusal.Refusal.TheVariants.{BadDescription, SmallBuffer, Host}

-- beside the two of this interface, the fault's own: 13 for refused pulses, 14 for a refused wave
abbrev pub number_of : Refusal → ℕ
number_of BadDescription = 100
number_of SmallBuffer = 101
number_of (Host f) = fault_number_of f
