-- What each fault is called, and what it names.
use Rattle.std.specs.Prelude.{ℕ, Some, None, Option}
use Rattle.faults.specs.declared.Layer.{Layer}
use Rattle.faults.specs.declared.Layer.TheVariants.{Call, Core, Bus, Chart, Host}
use Rattle.faults.specs.declared.Fault.{Fault}
use Rattle.faults.specs.declared.Fault.TheVariants.{ImageSize, GrantTooLarge, ChipSpent, PinChartUnfit, ModeChartUnfit, NotOnSheet, Unoccupied, ReadOfWriteOnly, WriteToReadOnly, UnsupportedMode, NoPinPlace, NoModePlace, BadPulseList, WaveOutOfRange, ShortLineBuffer}

abbrev pub number_of : Fault → ℕ
number_of ImageSize = 1
number_of GrantTooLarge = 2
number_of ChipSpent = 3
number_of PinChartUnfit = 4
number_of ModeChartUnfit = 5
number_of (NotOnSheet pc) = 6
number_of (Unoccupied pc address) = 7
number_of (ReadOfWriteOnly pc address) = 8
number_of (WriteToReadOnly pc address) = 9
number_of (UnsupportedMode pc address) = 10
number_of NoPinPlace = 11
number_of NoModePlace = 12
number_of (BadPulseList pair) = 13
number_of WaveOutOfRange = 14
number_of ShortLineBuffer = 15

-- the part of the bench that a fault comes from, with the program counter before the tick and the touched address where it names them
pub record Source : Type 0 where
  pub layer : Layer
  pub pc : Option ℕ
  pub address : Option ℕ

abbrev in_layer : Layer → Source
in_layer l = record { layer = l; pc = None; address = None }

abbrev on_bus : ℕ → ℕ → Source
on_bus pc address = record { layer = Bus; pc = Some pc; address = Some address }

abbrev pub source_of : Fault → Source
source_of ImageSize = in_layer Call
source_of GrantTooLarge = in_layer Call
source_of ChipSpent = in_layer Call
source_of PinChartUnfit = in_layer Chart
source_of ModeChartUnfit = in_layer Chart
source_of (NotOnSheet pc) = record { layer = Core; pc = Some pc; address = None }
source_of (Unoccupied pc address) = on_bus pc address
source_of (ReadOfWriteOnly pc address) = on_bus pc address
source_of (WriteToReadOnly pc address) = on_bus pc address
source_of (UnsupportedMode pc address) = on_bus pc address
source_of NoPinPlace = in_layer Chart
source_of NoModePlace = in_layer Chart
source_of (BadPulseList pair) = in_layer Host
source_of WaveOutOfRange = in_layer Host
source_of ShortLineBuffer = in_layer Call
