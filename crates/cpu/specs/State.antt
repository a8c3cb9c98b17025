-- The registers: PSW, the flags one by one, the stack, PC and the direct page.
use Rattle.std.specs.Prelude.{ℕ, ◌+◌, ◌-◌, ◌*◌, ◌%◌, Bool, true, false, cond, not, ◌==◌, bit_and, nat_lt}
use Rattle.sheet.specs.declared.operation.Flag.{Flag}
use Rattle.sheet.specs.declared.operation.Flag.TheVariants as fl
use Rattle.sheet.specs.declared.operation.FlagOp.{FlagOp}
use Rattle.sheet.specs.declared.operation.FlagOp.TheVariants.{ClrC, SetC, ClrV, Di, Ei}
use Rattle.sheet.specs.declared.operation.Index.{Index}
use Rattle.sheet.specs.declared.operation.Index.TheVariants as ix
use Rattle.sheet.specs.declared.operation.Saved.{Saved}
use Rattle.sheet.specs.declared.operation.Saved.TheVariants as sv
use Rattle.cpu.specs.declared.registers.Flags.{Flags}
use Rattle.cpu.specs.declared.registers.Registers.{Registers}

-- the registers with one of them changed
abbrev pub with_a : Registers → ℕ → Registers
with_a s k = record s { a = k }

abbrev pub with_x : Registers → ℕ → Registers
with_x s k = record s { x = k }

abbrev pub with_y : Registers → ℕ → Registers
with_y s k = record s { y = k }

abbrev pub with_sp : Registers → ℕ → Registers
with_sp s k = record s { sp = k }

abbrev pub with_pc : Registers → ℕ → Registers
with_pc s k = record s { pc = k }

abbrev pub with_flags : Registers → Flags → Registers
with_flags s f = record s { flags = f }

-- the flags with one of them changed
abbrev pub with_c : Flags → Bool → Flags
with_c f on = record f { c = on }

abbrev pub with_i : Flags → Bool → Flags
with_i f on = record f { i = on }

abbrev pub with_b : Flags → Bool → Flags
with_b f on = record f { b = on }

-- V and H clear
abbrev pub without_vh : Flags → Flags
without_vh f = record f { v = false; h = false }

-- a flag as a number
abbrev pub bit : Bool → ℕ
bit true = 1
bit false = 0

abbrev pub same : Bool → Bool → Bool
same true q = q
same false q = not q

-- PSW: N V G B H I Z C, bits 7 to 0
abbrev pub packed : Flags → ℕ
packed f =
    128 * bit f.n + 64 * bit f.v + 32 * bit f.g + 16 * bit f.b + 8 * bit f.h + 4 * bit f.i + 2 * bit f.z + bit f.c

abbrev pub has_bit : ℕ → ℕ → Bool
has_bit w mask = not (bit_and w mask == 0)

abbrev pub unpacked : ℕ → Flags
unpacked w =
    record {
      n = has_bit w 128;
      v = has_bit w 64;
      g = has_bit w 32;
      b = has_bit w 16;
      h = has_bit w 8;
      i = has_bit w 4;
      z = has_bit w 2;
      c = has_bit w 1;
    }

-- all registers 0
abbrev pub cleared : Registers
cleared = record { a = 0; x = 0; y = 0; sp = 0; pc = 0; flags = unpacked 0 }

abbrev pub switched : Registers → FlagOp → Registers
switched s ClrC = with_flags s (with_c s.flags false)
switched s SetC = with_flags s (with_c s.flags true)
switched s ClrV = with_flags s (without_vh s.flags)
switched s Di = with_flags s (with_i s.flags false)
switched s Ei = with_flags s (with_i s.flags true)

abbrev pub broken : Registers → Registers
broken s = with_flags s (with_b s.flags true)

abbrev pub flag_of : Registers → Flag → Bool
flag_of s fl.N = s.flags.n
flag_of s fl.V = s.flags.v
flag_of s fl.C = s.flags.c
flag_of s fl.Z = s.flags.z

abbrev pub index_of : Registers → Index → ℕ
index_of s ix.X = s.x
index_of s ix.Y = s.y

abbrev pub with_index : Registers → Index → ℕ → Registers
with_index s ix.X k = with_x s k
with_index s ix.Y k = with_y s k

-- what PUSH stores, and POP puts back
abbrev pub byte_of : Registers → Saved → ℕ
byte_of s sv.A = s.a
byte_of s sv.X = s.x
byte_of s sv.Y = s.y
byte_of s sv.Psw = packed s.flags

abbrev pub restored : Registers → Saved → ℕ → Registers
restored s sv.A k = with_a s k
restored s sv.X k = with_x s k
restored s sv.Y k = with_y s k
restored s sv.Psw k = with_flags s (unpacked k)

-- the registers after a push or a pull, with the address that it touches
abbrev pub pushed : Registers → Registers × ℕ
pushed s = (with_sp s ((s.sp + 255) % 256), s.sp)

abbrev pub pulled : Registers → Registers × ℕ
pulled s = let k = (s.sp + 1) % 256 in (with_sp s k, k)

-- the registers after a byte at PC is fetched, with its address
abbrev pub advanced : Registers → Registers × ℕ
advanced s = (with_pc s ((s.pc + 1) % 65536), s.pc)

-- a distance from 80 on is negative, and goes back
abbrev pub jumped : Registers → ℕ → Registers
jumped s rel = with_pc s (cond (nat_lt rel 128) (s.pc + rel) (s.pc + 65536 - (256 - rel)) % 65536)

-- page 1 under G
abbrev pub direct_of : Registers → ℕ → ℕ
direct_of s k = cond s.flags.g (256 + k) k
