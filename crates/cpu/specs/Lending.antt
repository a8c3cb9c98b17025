-- What a lent register leaves behind.
use Rattle.std.specs.Prelude.{ℕ}
use Rattle.std.specs.Borrow.{Lends, MutBor, Fml, u8}
use Rattle.sheet.specs.declared.operation.Index.{Index}
use Rattle.cpu.specs.declared.registers.Registers.{Registers}
use Rattle.cpu.specs.contracts.registers.Registers.{the_row}
use Rattle.cpu.specs.State.{with_index}

-- the registers end with X or Y set to the last value behind r
abbrev pub LendsIndex : MutBor Registers → Index → MutBor ℕ → Fml
LendsIndex s i r = Lends the_row u8 s r (with_index s.now i)
