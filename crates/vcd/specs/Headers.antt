-- The variables that a VCD file declares.
use Rattle.std.specs.Prelude.{ℕ, ◌+◌, List, [], ◌∷◌, ◌++◌, codes}
use Rattle.vcd.specs.Signals.{first_level, first_drive}

-- the pins, from bit 0 on
abbrev pub pin_names : List (List ℕ)
pin_names = codes "RA0" ∷ codes "RA1" ∷ codes "RA2" ∷ codes "RA3" ∷ codes "RA4" ∷ codes "RA5" ∷ codes "RA6" ∷ codes "RA7" ∷ codes "RB0" ∷ codes "RB1" ∷ codes "RB2" ∷ codes "RB3" ∷ codes "RB4" ∷ codes "RC0" ∷ codes "RC1" ∷ []

-- a variable of one bit: an identifier, and a name with a suffix
abbrev pub var_line : ℕ → List ℕ → List ℕ → List ℕ
var_line id suffix name = codes "$var wire 1 " ++ ((id ∷ 32 ∷ name) ++ (suffix ++ codes " $end\n"))

-- variables with identifiers one after the other
unfoldable pub var_lines : ℕ → List ℕ → List (List ℕ) → List ℕ
var_lines id suffix [] = []
var_lines id suffix (name ∷ names) = var_line id suffix name ++ var_lines (id + 1) suffix names

-- the time unit and all variables
abbrev pub header_of : List ℕ
header_of =
    codes "$comment one time unit is one tick $end\n$timescale 1 ns $end\n$scope module chip $end\n"
    ++ (var_lines first_level [] pin_names
    ++ (var_lines first_drive (codes "_drive") pin_names
    ++ codes "$var wire 8 m mode $end\n$upscope $end\n$enddefinitions $end\n"))
