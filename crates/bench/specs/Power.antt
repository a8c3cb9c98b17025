-- A chip that was just powered on.
use Rattle.std.specs.Prelude.{ℕ, cond, List, length, replicate, Ok, Err, Result, ◌==◌}
use Rattle.faults.specs.declared.Fault.{Fault}
use Rattle.faults.specs.declared.Fault.TheVariants.{ImageSize}
use Rattle.recorder.specs.declared.mode.Mode.TheVariants.{Running}
use Rattle.counters.specs.Timers.{timers_reset}
use Rattle.counters.specs.Buzzers.{buzzer_set}
use Rattle.counters.specs.Basic.{basic}
use Rattle.ports.specs.Requests.{requests_reset}
use Rattle.cpu.specs.State.{cleared}
use Rattle.bus.specs.declared.parts.Parts.{Parts}
use Rattle.machine.specs.declared.state.Machine.{Machine}
use Rattle.machine.specs.Tick.{reset_machine}
use Rattle.bench.specs.declared.held.Held.{Held}
use Rattle.bench.specs.Ticks.{moment}
use Rattle.bench.specs.Charting.{counted}
use Rattle.bench.specs.Runs.{held}

-- what power-on is given
pub record Start : Type 0 where
  pub image : List ℕ
  pub ram : List ℕ

abbrev pub start : List ℕ → List ℕ → Start
start image ram = record { image = image; ram = ram }

-- A, X, Y, SP and the latches are 0; what a reset sets is told by the reset
abbrev pub zeroed : List ℕ → Parts
zeroed ram =
    record {
      registers = cleared;
      memory = record { ram = ram };
      ports = record { ra = 0; rb = 0; rc = 0; raio = 0; rbio = 0; rcio = 0; rafunc = 0; rbfunc = 0; pupsel = 0 };
      timers = timers_reset;
      buzzer = buzzer_set 0;
      basic = basic 0x17 0 0x7F 0;
      requests = requests_reset;
      pfdr = 0;
      mode = Running;
    }

abbrev pub powered_machine : Start → Machine
powered_machine s = reset_machine (zeroed s.ram) s.image

-- at tick 0, with no stretch counted
abbrev pub powered : Start → Held
powered s = held (moment (powered_machine s) 0) (counted 0 0)

abbrev pub powered_on : Start → Result Held Fault
powered_on s = cond (length s.image == 2048) (Ok (powered s)) (Err ImageSize)

-- the chip in a new place: an image of FF, and RAM of 0
abbrev pub fresh : Start
fresh = start (replicate 2048 255) (replicate 128 0)
