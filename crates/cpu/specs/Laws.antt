-- What the flags and the stack pointer tell, in whole and in signed numbers.
use Rattle.std.specs.Prelude.{◌≡◌, ℕ, ◌+◌, ◌*◌, ◌%◌, ◌<◌, Bool, not, ◌&&◌, ◌==◌, nat_le, nat_lt}
use Rattle.cpu.specs.declared.registers.Registers.{Registers}
use Rattle.cpu.specs.State.{bit, pushed, pulled}
use Rattle.cpu.specs.Effects.{added, compared}

-- a signed byte plus 128
abbrev pub lifted : ℕ → ℕ
lifted k = (k + 128) % 256

-- whether a signed sum, plus 256, is from -128 to 127
abbrev pub fits_signed : ℕ → Bool
fits_signed k = nat_le 128 k && nat_lt k 384

pub record Laws : Type 0 where
  -- the sum is the value and 256 for C
  pub whole : (p q : ℕ) (carry : Bool) → p < 256 → q < 256 → (added p q carry).value + 256 * bit (added p q carry).c ≡ p + q + bit carry
  -- V where the signed sum is not from -128 to 127
  pub overflow : (p q : ℕ) (carry : Bool) → p < 256 → q < 256 → (added p q carry).v ≡ not (fits_signed (lifted p + lifted q + bit carry))
  -- a compare sets C where the register is not below the operand, and Z where they are equal
  pub order : (s : Registers) (q m : ℕ) → q < 256 → m < 256 → (compared s q m).flags.c ≡ nat_le m q
  pub equal : (s : Registers) (q m : ℕ) → q < 256 → m < 256 → (compared s q m).flags.z ≡ (q == m)
  -- a pull after a push is at the same address, and SP is as before
  pub stack : (s : Registers) → s.sp < 256 → pulled (pushed s).0 ≡ (s, s.sp)
