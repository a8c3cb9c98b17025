-- The rule of the code sheet: a code is h × 32 + row, h from 0 to 7. Codes that stand alone come ahead of their rows.
use Rattle.std.specs.Prelude.{ℕ, ◌+◌, ◌*◌, ◌/◌, ◌%◌, Bool, true, false, cond, List, [], ◌∷◌, get_or, ◌==◌, slice_index_or}
use Rattle.sheet.specs.declared.table.Entry.{Entry}
use Rattle.sheet.specs.declared.operation.Operation.{Operation}
use Rattle.sheet.specs.declared.operation.AluOp.{AluOp}
use Rattle.sheet.specs.declared.operation.ShiftOp.{ShiftOp}
use Rattle.sheet.specs.declared.operation.FlagOp.{FlagOp}
use Rattle.sheet.specs.declared.operation.Transfer.{Transfer}
use Rattle.sheet.specs.declared.operation.Branch.{Branch}
use Rattle.sheet.specs.declared.operation.Flag.{Flag}
use Rattle.sheet.specs.declared.operation.Bit.{Bit}
use Rattle.sheet.specs.declared.operation.Bit.TheVariants.{B0, B1, B2, B3, B4, B5, B6, B7}
use Rattle.sheet.specs.declared.operation.Index.{Index}
use Rattle.sheet.specs.declared.operation.Saved.{Saved}
use Rattle.sheet.specs.declared.operation.Place.{Place}
use Rattle.sheet.specs.declared.operation.Operand.{Operand}
use Rattle.sheet.specs.declared.operation.Target.{Target}

-- the byte that has one bit alone
abbrev pub mask_of : Bit → ℕ
mask_of B0 = 1
mask_of B1 = 2
mask_of B2 = 4
mask_of B3 = 8
mask_of B4 = 16
mask_of B5 = 32
mask_of B6 = 64
mask_of B7 = 128

-- an operation with its bytes and cycles
abbrev entry : Operation → ℕ → ℕ → Entry
entry o b c = record { operation = o; bytes = b; cycles = c }

abbrev unlisted : Entry
unlisted = entry Operation.Unlisted 1 0

-- a row in which only codes that stand alone are on the sheet
abbrev none : ℕ → Entry
none h = unlisted

abbrev flag_op : FlagOp → ℕ → Entry
flag_op o c = entry (Operation.Flag o) 1 c

-- row 00
abbrev flag_ops : ℕ → Entry
flag_ops h =
    get_or
    (unlisted ∷ flag_op FlagOp.ClrC 2 ∷ unlisted ∷ flag_op FlagOp.Di 3 ∷ flag_op FlagOp.ClrV 2 ∷ flag_op FlagOp.SetC 2 ∷ unlisted ∷ flag_op FlagOp.Ei 3 ∷ [])
    h unlisted

abbrev bit_at : ℕ → Bit
bit_at h = slice_index_or (B0 ∷ B1 ∷ B2 ∷ B3 ∷ B4 ∷ B5 ∷ B6 ∷ B7 ∷ []) h B0

-- SET1 and CLR1
abbrev bit_op : (Bit → Operation) → ℕ → Entry
bit_op f h = entry (f (bit_at h)) 2 4

-- BBS on true, BBC on false
abbrev branch_a : Bool → ℕ → Entry
branch_a on h = entry (Operation.Branch (Branch.BitOfA (bit_at h) on)) 2 4

abbrev branch_dp : Bool → ℕ → Entry
branch_dp on h = entry (Operation.Branch (Branch.BitOfDp (bit_at h) on)) 3 5

abbrev alu_op : ℕ → AluOp
alu_op h = slice_index_or (AluOp.Adc ∷ AluOp.Sbc ∷ AluOp.Cmp ∷ AluOp.Or ∷ AluOp.And ∷ AluOp.Eor ∷ AluOp.Lda ∷ []) h AluOp.Lda

-- an addressing, with its bytes and cycles
abbrev alu : Operand → ℕ → ℕ → ℕ → Entry
alu m b c h = entry (Operation.Alu (alu_op h) m) b c

-- at a place h 7 is STA, of one cycle more
abbrev alu_at : Place → ℕ → ℕ → ℕ → Entry
alu_at p b c h = cond (h == 7) (entry (Operation.Sta p) b (c + 1)) (alu (Operand.At p) b c h)

abbrev shift : Target → ℕ → ℕ → ℕ → Entry
shift t b c h =
    let at : ShiftOp → Entry = λ o. entry (Operation.Shift o t) b c in
    slice_index_or (at ShiftOp.Asl ∷ at ShiftOp.Rol ∷ at ShiftOp.Lsr ∷ at ShiftOp.Ror ∷ at ShiftOp.Inc ∷ at ShiftOp.Dec ∷ []) h unlisted

-- two rows of eight: TCALL 0, 2 .. 14, and TCALL 1, 3 .. 15
abbrev table_call : ℕ → ℕ → Entry
table_call odd h = entry (Operation.Tcall (2 * h + odd)) 1 8

abbrev stack : (Saved → Operation) → ℕ → Entry
stack f h =
    let at : Saved → Entry = λ s. entry (f s) 1 4 in slice_index_or (at Saved.A ∷ at Saved.X ∷ at Saved.Y ∷ at Saved.Psw ∷ []) h unlisted

-- row 10: BPL BVC BCC BNE BMI BVS BCS BEQ
abbrev flag_branch : ℕ → Entry
flag_branch h =
    let on : Flag → Bool → Entry = λ f s. entry (Operation.Branch (Branch.Flag f s)) 2 2 in
    get_or
    (on Flag.N false ∷ on Flag.V false ∷ on Flag.C false ∷ on Flag.Z false ∷ on Flag.N true ∷ on Flag.V true ∷ on Flag.C true ∷ on Flag.Z true ∷ [])
    h unlisted

-- rows 00 to 1F, four to a line
abbrev rows : List (ℕ → Entry)
rows =
    flag_ops ∷ bit_op (λ b. Operation.Set1 b) ∷ branch_a true ∷ branch_dp true
    ∷ alu Operand.Imm 2 2 ∷ alu_at Place.Dp 2 3 ∷ alu_at Place.DpX 2 4 ∷ alu_at Place.Abs 3 4
    ∷ shift Target.A 1 2 ∷ shift (Target.At Place.Dp) 2 4 ∷ table_call 0 ∷ none
    ∷ none ∷ stack (λ s. Operation.Pop s) ∷ stack (λ s. Operation.Push s) ∷ none
    ∷ flag_branch ∷ bit_op (λ b. Operation.Clr1 b) ∷ branch_a false ∷ branch_dp false
    ∷ alu_at Place.AtX 1 3 ∷ alu_at Place.AbsY 3 5 ∷ alu_at Place.IndX 2 6 ∷ alu_at Place.IndY 2 6
    ∷ shift (Target.At Place.Abs) 3 5 ∷ shift (Target.At Place.DpX) 2 5 ∷ table_call 1 ∷ none
    ∷ none ∷ none ∷ none ∷ none ∷ []

abbrev transfer : Transfer → Entry
transfer t = entry (Operation.Transfer t) 1 2

abbrev index_step : ShiftOp → Index → Entry
index_step o i = entry (Operation.Shift o (Target.Index i)) 1 2

-- an index register with #, a byte of the direct page, and !abs
abbrev by_number : (Operand → Operation) → Entry
by_number f = entry (f Operand.Imm) 2 2

abbrev by_dp : (Operand → Operation) → Entry
by_dp f = entry (f (Operand.At Place.Dp)) 2 3

abbrev by_abs : (Operand → Operation) → Entry
by_abs f = entry (f (Operand.At Place.Abs)) 3 4

abbrev load : Index → Operand → Operation
load i m = Operation.Load i m

abbrev compare : Index → Operand → Operation
compare i m = Operation.Compare i m

-- the codes that stand alone
abbrev singles : List (ℕ × Entry)
singles =
    (0x0F, entry Operation.Brk 1 8) ∷ (0x2F, entry Operation.Bra 2 4) ∷ (0x4F, entry Operation.Pcall 2 6) ∷ (0x6F, entry Operation.Ret 1 5)
    ∷ (0x7F, entry Operation.Reti 1 6) ∷ (0x1B, entry Operation.Jmp 3 3) ∷ (0x3B, entry Operation.Call 3 8)
    ∷ (0xAC, entry (Operation.Branch Branch.DbneDp) 3 5) ∷ (0x7B, entry (Operation.Branch Branch.DbneY) 2 4)
    ∷ (0xEF, entry Operation.Stop 1 3) ∷ (0xFF, entry Operation.Nop 1 2) ∷ (0xE4, entry Operation.Ldm 3 5)
    ∷ (0xDB, entry Operation.LdaNext 1 4) ∷ (0xFB, entry Operation.StaNext 1 4)
    ∷ (0xC8, transfer Transfer.Txa) ∷ (0xE8, transfer Transfer.Tax) ∷ (0x9F, transfer Transfer.Tay) ∷ (0xBF, transfer Transfer.Tya)
    ∷ (0x8E, transfer Transfer.Txsp) ∷ (0xAE, transfer Transfer.Tspx)
    ∷ (0x8F, index_step ShiftOp.Inc Index.X) ∷ (0xAF, index_step ShiftOp.Dec Index.X)
    ∷ (0x9E, index_step ShiftOp.Inc Index.Y) ∷ (0xBE, index_step ShiftOp.Dec Index.Y)
    ∷ (0x1E, by_number (load Index.X)) ∷ (0xCC, by_dp (load Index.X)) ∷ (0xDC, by_abs (load Index.X))
    ∷ (0x3E, by_number (load Index.Y)) ∷ (0xC9, by_dp (load Index.Y)) ∷ (0xD8, by_abs (load Index.Y)) ∷ (0xD9, entry (load Index.Y (Operand.At Place.DpX)) 2 4)
    ∷ (0x5E, by_number (compare Index.X)) ∷ (0x6C, by_dp (compare Index.X)) ∷ (0x7C, by_abs (compare Index.X))
    ∷ (0x7E, by_number (compare Index.Y)) ∷ (0x8C, by_dp (compare Index.Y)) ∷ (0x9C, by_abs (compare Index.Y))
    ∷ (0xEC, entry (Operation.Store Index.X Place.Dp) 2 4) ∷ (0xFC, entry (Operation.Store Index.X Place.Abs) 3 5)
    ∷ (0xE9, entry (Operation.Store Index.Y Place.Dp) 2 4) ∷ (0xF8, entry (Operation.Store Index.Y Place.Abs) 3 5)
    ∷ (0xF9, entry (Operation.Store Index.Y Place.DpX) 2 5) ∷ []

-- the entry of a code that stands alone, else e
abbrev alone : List (ℕ × Entry) → ℕ → Entry → Entry
alone [] k e = e
alone (x ∷ xs) k e = cond (x.0 == k) x.1 (alone xs k e)

unfoldable pub entry_at : ℕ → Entry
entry_at k = alone singles k (get_or rows (k % 32) none (k / 32))
