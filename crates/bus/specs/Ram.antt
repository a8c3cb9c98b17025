-- RAM, from 0000 to 007F.
use Rattle.std.specs.Prelude.{ℕ, cond, Some, None, Option, nat_lt, slice_index, slice_set}
use Rattle.bus.specs.declared.parts.Memory.{Memory}

abbrev pub byte_at : Memory → ℕ → Option ℕ
byte_at s address = cond (nat_lt address 0x80) (Some (slice_index s.ram address)) None

-- RAM with a byte stored, if there is a place
abbrev pub with_byte : Memory → ℕ → ℕ → Memory × Option Unit
with_byte s address v = cond (nat_lt address 0x80) (record { ram = slice_set s.ram address v }, Some tt) (s, None)
