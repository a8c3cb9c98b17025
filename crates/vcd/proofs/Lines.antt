-- The lines of pins, put together bit by bit: all of them are ASCII.
use Rattle.std.proofs.Common.{◌≡◌, ℕ, zero, suc, ◌+◌, ◌/◌, ◌%◌, ◌^◌, ◌<◌, ◌≤◌, Bool, true, false, cond, eqb, List, [], ◌∷◌, ◌++◌, sym, ap, ◌∙◌, append_assoc, arith}
use Rattle.std.specs.Str.{IsAscii}
use Rattle.std.proofs.lemmas.Str.{IsAscii-append}
use Rattle.std.proofs.lemmas.Str.Ascii.{IsAscii-nil, IsAscii-cons}
use Rattle.recorder.specs.declared.pin_sample.PinSample.{PinSample}
use Rattle.vcd.specs.Signals.{first_level, first_drive}
use Rattle.vcd.specs.Values.{bit_line, bit_lines, pin_lines}
use Rattle.vcd.proofs.Counting.{bits_more}

-- the line of the next bit behind those of n
pub bits_onto : (old lines more : List ℕ) (n id next word which : ℕ) → lines ≡ old ++ bit_lines n id word which → next ≡ id + n →
    more ≡ lines ++ bit_line next (word / 2 ^ n) (which / 2 ^ n) → more ≡ old ++ bit_lines (n + 1) id word which
bits_onto old lines more n id next word which before there added =
    added
    ∙ ap (λ v. v ++ bit_line next (word / 2 ^ n) (which / 2 ^ n)) before
    ∙ append_assoc old (bit_lines n id word which) (bit_line next (word / 2 ^ n) (which / 2 ^ n))
    ∙ ap (λ i. old ++ (bit_lines n id word which ++ bit_line i (word / 2 ^ n) (which / 2 ^ n))) there
    ∙ ap (λ v. old ++ v) (sym (bits_more n id word which))

ascii_line : (set : Bool) (id word : ℕ) → id < 128 → IsAscii (cond set ((48 + word % 2) ∷ id ∷ 10 ∷ []) [])
ascii_line true id word small =
    IsAscii-cons (48 + word % 2) (id ∷ 10 ∷ []) (omega arith) (IsAscii-cons id (10 ∷ []) small (IsAscii-cons 10 [] (omega arith) IsAscii-nil))
ascii_line false id word small = IsAscii-nil

ascii_lines : (n id word which : ℕ) → id + n ≤ 128 → IsAscii (bit_lines n id word which)
unfolding bit_lines
ascii_lines zero id word which small = IsAscii-nil
ascii_lines (suc n) id word which small =
    IsAscii-append (bit_line id word which) (bit_lines n (id + 1) (word / 2) (which / 2))
    (ascii_line (eqb (which % 2) 1) id word (omega arith))
    (ascii_lines n (id + 1) (word / 2) (which / 2) (omega arith))

pub ascii_pins : (s which : PinSample) → IsAscii (pin_lines s which)
ascii_pins s which =
    IsAscii-append (bit_lines 15 first_level s.levels which.levels) (bit_lines 15 first_drive s.drive which.drive)
    (ascii_lines 15 first_level s.levels which.levels (omega arith))
    (ascii_lines 15 first_drive s.drive which.drive (omega arith))
