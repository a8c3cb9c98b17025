-- What each kind of operation does to the chip's parts. `pc` is the program counter that a fault names.
use Rattle.std.specs.Prelude.{ℕ, ◌+◌, ◌-◌, ◌*◌, ◌%◌, Bool, cond, not, List, Ok, Result, ◌==◌, bit_and, bit_or}
use Rattle.faults.specs.declared.Fault.{Fault}
use Rattle.recorder.specs.declared.mode.Mode.{Mode}
use Rattle.recorder.specs.declared.mode.Mode.TheVariants.{WakeUpTimer, Stopped}
use Rattle.sheet.specs.declared.operation.AluOp.{AluOp}
use Rattle.sheet.specs.declared.operation.ShiftOp.{ShiftOp}
use Rattle.sheet.specs.declared.operation.Target.{Target}
use Rattle.sheet.specs.declared.operation.Target.TheVariants as tg
use Rattle.sheet.specs.declared.operation.Branch.{Branch}
use Rattle.sheet.specs.declared.operation.Branch.TheVariants as br
use Rattle.sheet.specs.declared.operation.Bit.{Bit}
use Rattle.sheet.specs.declared.operation.FlagOp.TheVariants.{Di}
use Rattle.sheet.specs.declared.operation.Index.{Index}
use Rattle.sheet.specs.declared.operation.Saved.{Saved}
use Rattle.sheet.specs.declared.operation.Place.{Place}
use Rattle.sheet.specs.declared.operation.Operand.{Operand}
use Rattle.sheet.specs.Rule.{mask_of}
use Rattle.cpu.specs.declared.registers.Registers.{Registers}
use Rattle.cpu.specs.State.{has_bit, same, flag_of, index_of, byte_of, restored, jumped, broken, switched, packed, unpacked}
use Rattle.cpu.specs.Effects.{calculated, compared, index_loaded, shifted, shifted_a, shifted_index, lowered_y}
use Rattle.bus.specs.declared.parts.Parts.{Parts}
use Rattle.bus.specs.With.{parts_with_registers}
use Rattle.bus.specs.Seen.{Seen}
use Rattle.bus.specs.Outcomes.{bind}
use Rattle.bus.specs.Registers.{image_word, read_at, written_at}
use Rattle.bus.specs.Fetch.{fetched, word_fetched, addressed, operand_of, stored, byte_pushed, byte_pulled, word_pushed, word_pulled}

-- the parts with the registers that f makes of theirs, and with another PC
abbrev pub by : (Registers → Registers) → Parts → Parts
by f m = parts_with_registers m (f m.registers)

abbrev pub gone_to : Parts → ℕ → Parts
gone_to m address = by (λ r. record r { pc = address }) m

abbrev pub calculated_with : Parts → Seen → AluOp → Operand → Result Parts Fault
calculated_with m view o operand = bind (operand_of m view operand) (λ s. Ok (by (λ r. calculated r o s.1) s.0))

abbrev pub loaded_with : Parts → Seen → Index → Operand → Result Parts Fault
loaded_with m view i operand = bind (operand_of m view operand) (λ s. Ok (by (λ r. index_loaded r i s.1) s.0))

abbrev pub compared_with : Parts → Seen → Index → Operand → Result Parts Fault
compared_with m view i operand = bind (operand_of m view operand) (λ s. Ok (by (λ r. compared r (index_of r i) s.1) s.0))

-- LDM: a number, then dp
abbrev pub number_stored : Parts → Seen → Result Parts Fault
number_stored m view = bind (fetched m view) (λ s. stored s.0 view Place.Dp s.1)

-- shifts, INC and DEC: memory is read and then written
abbrev pub shifted_at : Parts → Seen → ShiftOp → Target → Result Parts Fault
shifted_at m view o tg.A = Ok (by (λ r. shifted_a r o) m)
shifted_at m view o (tg.Index i) = Ok (by (λ r. shifted_index r o i) m)
shifted_at m view o (tg.At place) =
    bind (addressed m view place)
    (λ s. bind (read_at s.0 view s.1)
    (λ v. let t : Registers × ℕ = shifted s.0.registers o v in written_at (parts_with_registers s.0 t.0) view.pc s.1 t.1))

-- a bit of a byte
abbrev pub has_mask : ℕ → Bit → Bool
has_mask v b = has_bit v (mask_of b)

abbrev pub with_mask : ℕ → Bit → Bool → ℕ
with_mask v b on = cond on (bit_or v (mask_of b)) (bit_and v (255 - mask_of b))

abbrev pub bit_put : Parts → Seen → Bit → Bool → Result Parts Fault
bit_put m view b on =
    bind (addressed m view Place.Dp) (λ s. bind (read_at s.0 view s.1) (λ v. written_at s.0 view.pc s.1 (with_mask v b on)))

-- a branch, whose distance is fetched ahead of all that it reads: it goes there if its condition holds
abbrev pub jumped_if : Parts → ℕ → Bool → Parts × Bool
jumped_if m rel taken = (cond taken (by (λ r. jumped r rel) m) m, taken)

abbrev pub branched : Parts → Seen → Bool → Result (Parts × Bool) Fault
branched m view taken = bind (fetched m view) (λ s. Ok (jumped_if s.0 s.1 taken))

abbrev pub branched_on : Parts → Seen → Branch → Result (Parts × Bool) Fault
branched_on m view (br.BitOfA b on) = branched m view (same (has_mask m.registers.a b) on)
branched_on m view (br.BitOfDp b on) =
    bind (addressed m view Place.Dp)
    (λ s. bind (fetched s.0 view) (λ t. bind (read_at t.0 view s.1) (λ v. Ok (jumped_if t.0 t.1 (same (has_mask v b) on)))))
branched_on m view (br.Flag f on) = branched m view (same (flag_of m.registers f) on)
branched_on m view br.DbneDp =
    bind (addressed m view Place.Dp)
    (λ s. bind (fetched s.0 view)
    (λ t. bind (read_at t.0 view s.1)
    (λ v. let w = (v + 255) % 256 in bind (written_at t.0 view.pc s.1 w) (λ u. Ok (jumped_if u t.1 (not (w == 0)))))))
branched_on m view br.DbneY = let t : Registers × Bool = lowered_y m.registers in branched (parts_with_registers m t.0) view t.1

-- PUSH and POP
abbrev pub pushed_saved : Parts → ℕ → Saved → Result Parts Fault
pushed_saved m pc what = byte_pushed m pc (byte_of m.registers what)

abbrev pub popped_saved : Parts → ℕ → Saved → Result Parts Fault
popped_saved m pc what = bind (byte_pulled m pc) (λ s. Ok (by (λ r. restored r what s.1) s.0))

-- calls push the next code's address
abbrev pub called_at : Parts → ℕ → ℕ → Result Parts Fault
called_at m pc address = bind (word_pushed m pc m.registers.pc) (λ s. Ok (gone_to s address))

abbrev pub called : Parts → Seen → Result Parts Fault
called m view = bind (word_fetched m view) (λ s. called_at s.0 view.pc s.1)

abbrev pub page_called : Parts → Seen → Result Parts Fault
page_called m view = bind (fetched m view) (λ s. called_at s.0 view.pc (0xFF00 + s.1))

abbrev pub table_called : Parts → Seen → ℕ → Result Parts Fault
table_called m view n = called_at m view.pc (image_word view.image (0xFFDE - 2 * n))

-- BRK and interrupts push PC and PSW, clear I, and go to a vector's word
abbrev pub interrupted : Parts → List ℕ → ℕ → ℕ → Result Parts Fault
interrupted m image pc vector =
    bind (word_pushed m pc m.registers.pc) (λ s. bind (byte_pushed s pc (packed s.registers.flags)) (λ t. Ok (gone_to (by (λ r. switched r Di) t) (image_word image vector))))

abbrev pub broke : Parts → Seen → Result Parts Fault
broke m view = interrupted (by broken m) view.image view.pc 0xFFDE

abbrev pub returned : Parts → ℕ → Result Parts Fault
returned m pc = bind (word_pulled m pc) (λ s. Ok (gone_to s.0 s.1))

abbrev pub returned_from_interrupt : Parts → ℕ → Result Parts Fault
returned_from_interrupt m pc = bind (byte_pulled m pc) (λ s. bind (word_pulled s.0 pc) (λ t. Ok (gone_to (by (λ r. record r { flags = unpacked s.1 }) t.0) t.1)))

-- STOP: WAKEUP, bit 6 of CKCTLR, keeps the wake-up timer counting
abbrev pub sleep_mode : Parts → Mode
sleep_mode m = cond (has_bit m.basic.control 0x40) WakeUpTimer Stopped
