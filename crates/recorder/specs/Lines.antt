-- The lines of stretches and of an outcome, as bytes.
use Rattle.std.specs.Prelude.{ℕ, ◌+◌, ◌/◌, ◌%◌, cond, List, [], ◌∷◌, ◌++◌, length, drop, Some, None, Ok, Err, decimal, Option, Result, nat_lt}
use Rattle.faults.specs.declared.Fault.{Fault}
use Rattle.faults.specs.declared.Fault.TheVariants.{ShortLineBuffer}
use Rattle.faults.specs.Faults.{number_of}
use Rattle.recorder.specs.declared.stretch.Stretch.{Stretch}
use Rattle.recorder.specs.Kinds.{Script}

-- an upper-case hexadecimal digit
abbrev pub hex_digit : ℕ → ℕ
hex_digit d = cond (nat_lt d 10) (48 + d) (55 + d)

-- a word in four of them
abbrev pub hex4 : ℕ → List ℕ
hex4 w = hex_digit (w / 4096) ∷ hex_digit (w / 256 % 16) ∷ hex_digit (w / 16 % 16) ∷ hex_digit (w % 16) ∷ []

-- a letter and two numbers, with a space between
abbrev pub start_of : ℕ → ℕ → ℕ → List ℕ
start_of letter a b = (letter ∷ 32 ∷ []) ++ (decimal a ++ (32 ∷ decimal b))

-- a stretch: its letter, offset, length and text, and 0A
abbrev pub line_of : {X : Type 0} → Script X → Stretch X → List ℕ
line_of T c = start_of T.letter c.offset c.length ++ ((32 ∷ T.text c.sample) ++ (10 ∷ []))

-- the number of a fault, 0 for none
abbrev pub fault_number : Option Fault → ℕ
fault_number None = 0
fault_number (Some f) = number_of f

-- an outcome: T, the ticks that were run, and the fault's number, and 0A
abbrev pub outcome_of : ℕ → Option Fault → List ℕ
outcome_of ticks fault = start_of 84 ticks (fault_number fault) ++ (10 ∷ [])

-- bytes over the start of others
abbrev pub over : List ℕ → List ℕ → List ℕ
over bs xs = bs ++ drop (length bs) xs

-- how many bytes were written over the start of others, and what is there then
abbrev pub texted : List ℕ → List ℕ → ℕ × List ℕ
texted bs xs = (length bs, over bs xs)

-- a line call: its answer, and the buffer after it
abbrev pub lined : List ℕ → List ℕ → Result ℕ Fault × List ℕ
lined line xs = cond (nat_lt (length xs) 64) (Err ShortLineBuffer, xs) (Ok (length line), over line xs)
