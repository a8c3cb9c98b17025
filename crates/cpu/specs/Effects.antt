-- What the operations do to the registers.
use Rattle.std.specs.Prelude.{ℕ, ◌+◌, ◌-◌, ◌*◌, ◌/◌, ◌%◌, Bool, true, false, not, ◌&&◌, ◌==◌, bit_and, bit_or, bit_xor, nat_le}
use Rattle.sheet.specs.declared.operation.AluOp.{AluOp}
use Rattle.sheet.specs.declared.operation.AluOp.TheVariants.{Adc, Sbc, Cmp, Or, And, Eor, Lda}
use Rattle.sheet.specs.declared.operation.ShiftOp.{ShiftOp}
use Rattle.sheet.specs.declared.operation.ShiftOp.TheVariants.{Asl, Rol, Lsr, Ror, Inc, Dec}
use Rattle.sheet.specs.declared.operation.Transfer.{Transfer}
use Rattle.sheet.specs.declared.operation.Transfer.TheVariants.{Txa, Tax, Tya, Tay, Txsp, Tspx}
use Rattle.sheet.specs.declared.operation.Index.{Index}
use Rattle.cpu.specs.declared.registers.Registers.{Registers}
use Rattle.cpu.specs.declared.sum.Sum.{Sum}
use Rattle.cpu.specs.State.{with_a, with_x, with_y, with_sp, with_flags, with_c, with_index, index_of, bit, same, packed, cleared}

-- a byte is negative
abbrev pub high : ℕ → Bool
high k = nat_le 128 k

-- p + q + carry: V where the operands have one sign and the sum the other, H the carry out of the low four bits
abbrev pub added : ℕ → ℕ → Bool → Sum
added p q carry =
    let w = p + q + bit carry in
    let r = w % 256 in
    record {
      value = r;
      n = high r;
      v = same (high p) (high q) && not (same (high p) (high r));
      h = nat_le 16 (p % 16 + q % 16 + bit carry);
      z = (r == 0);
      c = nat_le 256 w;
    }

-- N and Z tell of a byte
abbrev pub noted : Registers → ℕ → Registers
noted s r =
    with_flags s (record s.flags { n = high r; z = (r == 0) })

abbrev pub adc : Registers → ℕ → Registers
adc s m =
    let t = added s.a m s.flags.c in
    with_a (with_flags s (record s.flags { n = t.n; v = t.v; h = t.h; z = t.z; c = t.c })) t.value

-- a register q with an operand m, as the sum of q, FF - m and 1
abbrev pub compared : Registers → ℕ → ℕ → Registers
compared s q m =
    let t = added q (255 - m) true in
    with_flags s (record s.flags { n = t.n; z = t.z; c = t.c })

abbrev pub loaded_a : Registers → ℕ → Registers
loaded_a s k = noted (with_a s k) k

abbrev pub index_loaded : Registers → Index → ℕ → Registers
index_loaded s i k = noted (with_index s i k) k

abbrev pub calculated : Registers → AluOp → ℕ → Registers
calculated s Adc m = adc s m
calculated s Sbc m = adc s (255 - m)
calculated s Cmp m = compared s s.a m
calculated s Or m = loaded_a s (bit_or s.a m)
calculated s And m = loaded_a s (bit_and s.a m)
calculated s Eor m = loaded_a s (bit_xor s.a m)
calculated s Lda m = loaded_a s m

abbrev pub transferred : Registers → Transfer → Registers
transferred s Txa = loaded_a s s.x
transferred s Tax = noted (with_x s s.a) s.a
transferred s Tya = loaded_a s s.y
transferred s Tay = noted (with_y s s.a) s.a
transferred s Txsp = noted (with_sp s s.x) s.x
transferred s Tspx = noted (with_x s s.sp) s.sp

-- the registers after a byte is changed to r, with r
abbrev pub changed : Registers → ℕ → Registers × ℕ
changed s r = (noted s r, r)

-- C takes the bit that is shifted out
abbrev pub leftward : Registers → ℕ → Bool → Registers × ℕ
leftward s m carry = changed (with_flags s (with_c s.flags (high m))) ((2 * m + bit carry) % 256)

abbrev pub rightward : Registers → ℕ → Bool → Registers × ℕ
rightward s m carry = changed (with_flags s (with_c s.flags (m % 2 == 1))) (m / 2 + 128 * bit carry)

abbrev pub shifted : Registers → ShiftOp → ℕ → Registers × ℕ
shifted s Asl m = leftward s m false
shifted s Rol m = leftward s m s.flags.c
shifted s Lsr m = rightward s m false
shifted s Ror m = rightward s m s.flags.c
shifted s Inc m = changed s ((m + 1) % 256)
shifted s Dec m = changed s ((m + 255) % 256)

abbrev pub shifted_a : Registers → ShiftOp → Registers
shifted_a s o = let t = shifted s o s.a in with_a t.0 t.1

abbrev pub shifted_index : Registers → ShiftOp → Index → Registers
shifted_index s o i = let t = shifted s o (index_of s i) in with_index t.0 i t.1

abbrev pub raised_x : Registers → Registers
raised_x s = with_x s ((s.x + 1) % 256)

-- Y less 1, and whether it is not 0
abbrev pub lowered_y : Registers → Registers × Bool
lowered_y s = let k = (s.y + 255) % 256 in (with_y s k, not (k == 0))

-- A and PSW after one operation on A and C, where the other registers are 0
abbrev pub sum_of : AluOp → ℕ → Bool → ℕ → ℕ × ℕ
sum_of o k carry m =
    let s = calculated (with_a (with_flags cleared (with_c cleared.flags carry)) k) o m in (s.a, packed s.flags)
