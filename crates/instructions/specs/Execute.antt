-- One instruction.
use Rattle.std.specs.Prelude.{ℕ, ◌+◌, ◌*◌, Bool, true, false, cond, List, Ok, Err, Result}
use Rattle.faults.specs.declared.Fault.{Fault}
use Rattle.faults.specs.declared.Fault.TheVariants.{NotOnSheet}
use Rattle.sheet.specs.declared.table.Entry.{Entry}
use Rattle.sheet.specs.declared.operation.Operation.{Operation}
use Rattle.sheet.specs.declared.operation.Operation.TheVariants as op
use Rattle.sheet.specs.declared.operation.AluOp.{AluOp}
use Rattle.sheet.specs.declared.operation.Place.{Place}
use Rattle.sheet.specs.declared.operation.Operand.{Operand}
use Rattle.sheet.specs.Rule.{entry_at}
use Rattle.cpu.specs.State.{index_of, switched, jumped}
use Rattle.cpu.specs.Effects.{transferred, raised_x}
use Rattle.bus.specs.declared.parts.Parts.{Parts}
use Rattle.bus.specs.With.{parts_with_mode}
use Rattle.bus.specs.Seen.{Seen}
use Rattle.bus.specs.Outcomes.{bind}
use Rattle.bus.specs.Fetch.{fetched, word_fetched, stored}
use Rattle.instructions.specs.Operations.{by, gone_to, calculated_with, loaded_with, compared_with, number_stored, shifted_at, bit_put, branched_on, pushed_saved, popped_saved, called, page_called, table_called, broke, returned, returned_from_interrupt, sleep_mode}

-- an operation without a branch to take
abbrev pub plain : Result Parts Fault → Result (Parts × Bool) Fault
plain r = bind r (λ s. Ok (s, false))

-- an operation, and whether its branch was taken
abbrev pub executed : Parts → Seen → Operation → Result (Parts × Bool) Fault
executed m view op.Unlisted = Err (NotOnSheet view.pc)
executed m view (op.Flag o) = Ok (by (λ r. switched r o) m, false)
executed m view (op.Set1 b) = plain (bit_put m view b true)
executed m view (op.Clr1 b) = plain (bit_put m view b false)
executed m view (op.Branch b) = branched_on m view b
executed m view (op.Alu o operand) = plain (calculated_with m view o operand)
executed m view (op.Sta place) = plain (stored m view place m.registers.a)
executed m view op.LdaNext = bind (calculated_with m view AluOp.Lda (Operand.At Place.AtX)) (λ s. Ok (by raised_x s, false))
executed m view op.StaNext = bind (stored m view Place.AtX m.registers.a) (λ s. Ok (by raised_x s, false))
executed m view op.Ldm = plain (number_stored m view)
executed m view (op.Shift o target) = plain (shifted_at m view o target)
executed m view (op.Transfer t) = Ok (by (λ r. transferred r t) m, false)
executed m view (op.Load i operand) = plain (loaded_with m view i operand)
executed m view (op.Compare i operand) = plain (compared_with m view i operand)
executed m view (op.Store i place) = plain (stored m view place (index_of m.registers i))
executed m view (op.Push s) = plain (pushed_saved m view.pc s)
executed m view (op.Pop s) = plain (popped_saved m view.pc s)
executed m view (op.Tcall n) = plain (table_called m view n)
executed m view op.Pcall = plain (page_called m view)
executed m view op.Call = plain (called m view)
executed m view op.Jmp = bind (word_fetched m view) (λ s. Ok (gone_to s.0 s.1, false))
executed m view op.Bra = bind (fetched m view) (λ s. Ok (by (λ r. jumped r s.1) s.0, false))
executed m view op.Brk = plain (broke m view)
executed m view op.Ret = plain (returned m view.pc)
executed m view op.Reti = plain (returned_from_interrupt m view.pc)
executed m view op.Stop = Ok (parts_with_mode m (sleep_mode m), false)
executed m view op.Nop = Ok (m, false)

-- two ticks for each cycle, and two cycles more for a branch that is taken
abbrev pub ticks_of : Entry → Bool → ℕ
ticks_of e taken = cond taken (2 * e.cycles + 4) (2 * e.cycles)

-- the code at PC is fetched and takes effect whole; the answer is the ticks it takes
abbrev pub instructed : Parts → List ℕ → ℕ → Result (Parts × ℕ) Fault
instructed m image host =
    let view : Seen = record { image = image; host = host; pc = m.registers.pc } in
    bind (fetched m view)
    (λ s. let e : Entry = entry_at s.1 in bind (executed s.0 view e.operation) (λ t. Ok (t.0, ticks_of e t.1)))
