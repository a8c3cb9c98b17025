-- What a VCD file says of the pins and of the mode at a tick.
use Rattle.std.specs.Prelude.{ℕ, zero, suc, ◌+◌, ◌/◌, ◌%◌, cond, List, [], ◌∷◌, ◌++◌, codes, ◌==◌, bit_xor}
use Rattle.recorder.specs.declared.pin_sample.PinSample.{PinSample}
use Rattle.recorder.specs.declared.mode.Mode.{Mode}
use Rattle.recorder.specs.Samples.{mode_letter}
use Rattle.vcd.specs.Signals.{first_level, first_drive}

-- the lowest bit of a word under an identifier, if the lowest bit of `which` is set
abbrev pub bit_line : ℕ → ℕ → ℕ → List ℕ
bit_line id word which = cond (which % 2 == 1) ((48 + word % 2) ∷ id ∷ 10 ∷ []) []

-- of the n lowest bits of a word those that are set in `which`
unfoldable pub bit_lines : ℕ → ℕ → ℕ → ℕ → List ℕ
bit_lines zero id word which = []
bit_lines (suc n) id word which = bit_line id word which ++ bit_lines n (id + 1) (word / 2) (which / 2)

-- levels and drives of the pins that are set in `which`
abbrev pub pin_lines : PinSample → PinSample → List ℕ
pin_lines s which = bit_lines 15 first_level s.levels which.levels ++ bit_lines 15 first_drive s.drive which.drive

abbrev pub all_pins : PinSample
all_pins = record { levels = 0x7FFF; drive = 0x7FFF }

abbrev pub changed : PinSample → PinSample → PinSample
changed p s = record { levels = bit_xor p.levels s.levels; drive = bit_xor p.drive s.drive }

-- the n lowest bits of a word as digits, the lowest last
abbrev pub binary : ℕ → ℕ → List ℕ
binary zero word = []
binary (suc n) word = binary n (word / 2) ++ ((48 + word % 2) ∷ [])

-- the letter of a mode, R, W or S
unfoldable pub mode_line : Mode → List ℕ
mode_line m = codes "b" ++ (binary 8 (mode_letter m) ++ codes " m\n")
