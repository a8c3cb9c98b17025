-- The variables that the pins have: each pin's level, and whether the chip drives it.
use Rattle.std.specs.Prelude.{ℕ, List, [], codes}
use Rattle.vcd.specs.declared.signal.Signal.{Signal}
use Rattle.vcd.specs.declared.signal.Signal.TheVariants.{Level, Drive}

-- the identifiers of the first pin's level and drive, '!' and '0'. Those of the other pins follow
abbrev pub first_level : ℕ
first_level = 33

abbrev pub first_drive : ℕ
first_drive = 48

abbrev pub first_id : Signal → ℕ
first_id Level = first_level
first_id Drive = first_drive

-- what follows a pin's name
abbrev pub suffix : Signal → List ℕ
suffix Level = []
suffix Drive = codes "_drive"
