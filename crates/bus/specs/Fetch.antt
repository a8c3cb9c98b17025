-- Codes, operands and addresses.
use Rattle.std.specs.Prelude.{ℕ, ◌+◌, ◌-◌, ◌*◌, ◌/◌, ◌%◌, cond, Ok, Err, Result, nat_le, nat_lt, slice_index}
use Rattle.faults.specs.declared.Fault.{Fault}
use Rattle.faults.specs.declared.Fault.TheVariants.{Unoccupied}
use Rattle.sheet.specs.declared.operation.Place.{Place}
use Rattle.sheet.specs.declared.operation.Place.TheVariants.{Dp, DpX, Abs, AtX, AbsY, IndX, IndY}
use Rattle.sheet.specs.declared.operation.Operand.{Operand}
use Rattle.sheet.specs.declared.operation.Operand.TheVariants.{Imm, At}
use Rattle.cpu.specs.declared.registers.Registers.{Registers}
use Rattle.cpu.specs.State.{advanced, direct_of, pushed, pulled}
use Rattle.bus.specs.declared.parts.Parts.{Parts}
use Rattle.bus.specs.With.{parts_with_registers}
use Rattle.bus.specs.Seen.{Seen}
use Rattle.bus.specs.Outcomes.{bind}
use Rattle.bus.specs.Registers.{read_at, written_at, ram_with}

-- the byte at PC, which moves on; it has to be in the image
abbrev pub fetched : Parts → Seen → Result (Parts × ℕ) Fault
fetched m view =
    let s : Registers × ℕ = advanced m.registers in
    cond (nat_le 0xF800 s.1) (Ok (parts_with_registers m s.0, slice_index view.image (s.1 - 0xF800))) (Err (Unoccupied view.pc s.1))

-- a word, low byte first
abbrev pub word_fetched : Parts → Seen → Result (Parts × ℕ) Fault
word_fetched m view = bind (fetched m view) (λ s. bind (fetched s.0 view) (λ t. Ok (t.0, s.1 + 256 * t.1)))

-- a direct address, in page 1 under G; they wrap in 256
abbrev pub direct : Parts → ℕ → ℕ
direct m d = direct_of m.registers d

-- the pointer at a direct address, low byte first
abbrev pub pointer_at : Parts → Seen → ℕ → Result ℕ Fault
pointer_at m view d = bind (read_at m view (direct m d)) (λ l. bind (read_at m view (direct m ((d + 1) % 256))) (λ h. Ok (l + 256 * h)))

-- where an operand is
abbrev pub addressed : Parts → Seen → Place → Result (Parts × ℕ) Fault
addressed m view Dp = bind (fetched m view) (λ s. Ok (s.0, direct s.0 s.1))
addressed m view DpX = bind (fetched m view) (λ s. Ok (s.0, direct s.0 ((s.1 + s.0.registers.x) % 256)))
addressed m view Abs = word_fetched m view
addressed m view AtX = Ok (m, direct m m.registers.x)
addressed m view AbsY = bind (word_fetched m view) (λ s. Ok (s.0, (s.1 + s.0.registers.y) % 65536))
addressed m view IndX = bind (fetched m view) (λ s. bind (pointer_at s.0 view ((s.1 + s.0.registers.x) % 256)) (λ w. Ok (s.0, w)))
addressed m view IndY = bind (fetched m view) (λ s. bind (pointer_at s.0 view s.1) (λ w. Ok (s.0, (w + s.0.registers.y) % 65536)))

-- an operand that is read
abbrev pub operand_of : Parts → Seen → Operand → Result (Parts × ℕ) Fault
operand_of m view Imm = fetched m view
operand_of m view (At place) = bind (addressed m view place) (λ s. bind (read_at s.0 view s.1) (λ v. Ok (s.0, v)))

-- a byte stored at a place, which is not read
abbrev pub stored : Parts → Seen → Place → ℕ → Result Parts Fault
stored m view place v = bind (addressed m view place) (λ s. written_at s.0 view.pc s.1 v)

-- a push stores at SP and lowers it, a pull raises SP and reads there; both only in RAM
abbrev pub byte_pushed : Parts → ℕ → ℕ → Result Parts Fault
byte_pushed m pc v =
    let s : Registers × ℕ = pushed m.registers in
    cond (nat_lt s.1 0x80) (Ok (ram_with (parts_with_registers m s.0) s.1 v)) (Err (Unoccupied pc s.1))

abbrev pub byte_pulled : Parts → ℕ → Result (Parts × ℕ) Fault
byte_pulled m pc =
    let s : Registers × ℕ = pulled m.registers in
    cond (nat_lt s.1 0x80) (Ok (parts_with_registers m s.0, slice_index m.memory.ram s.1)) (Err (Unoccupied pc s.1))

-- a word is pushed high byte first
abbrev pub word_pushed : Parts → ℕ → ℕ → Result Parts Fault
word_pushed m pc w = bind (byte_pushed m pc (w / 256)) (λ s. byte_pushed s pc (w % 256))

abbrev pub word_pulled : Parts → ℕ → Result (Parts × ℕ) Fault
word_pulled m pc = bind (byte_pulled m pc) (λ s. bind (byte_pulled s.0 pc) (λ t. Ok (t.0, s.1 + 256 * t.1)))
