-- Two worked ticks, by computation.
use Rattle.std.specs.Prelude.{ℕ, Bool, true, false, List, [], ◌∷◌, ◌++◌, replicate, Ok, Err, Result}
use Rattle.faults.specs.declared.Fault.{Fault}
use Rattle.recorder.specs.declared.mode.Mode.TheVariants.{Running}
use Rattle.counters.specs.Timers.{timers_reset}
use Rattle.counters.specs.Buzzers.{buzzer_set}
use Rattle.counters.specs.Basic.{basic}
use Rattle.ports.specs.declared.request.Requests.{Requests}
use Rattle.ports.specs.Requests.{requests}
use Rattle.cpu.specs.State.{cleared, with_pc, with_sp, with_flags, with_i}
use Rattle.machine.specs.declared.state.Machine.{Machine}
use Rattle.machine.specs.Tick.{machine, begun}

-- 4A at F800, 3412 at FFD6 and 7856 at FFFA, low bytes first
abbrev pub image : List ℕ
image = (0x4A ∷ []) ++ (replicate 2005 255 ++ ((0x12 ∷ 0x34 ∷ []) ++ (replicate 34 255 ++ ((0x56 ∷ 0x78 ∷ []) ++ replicate 4 255))))

-- a chip at F800 with SP 7F, I and these requests
abbrev pub standing : Bool → Requests → Machine
standing i r =
    machine
    (record {
      registers = with_flags (with_sp (with_pc cleared 0xF800) 0x7F) (with_i cleared.flags i);
      memory = record { ram = replicate 128 0 };
      ports = record { ra = 0; rb = 0; rc = 0; raio = 0; rbio = 0; rcio = 0; rafunc = 0; rbfunc = 0; pupsel = 0 };
      timers = timers_reset;
      buzzer = buzzer_set 255;
      basic = basic 0x17 0 0x7F 0;
      requests = r;
      pfdr = 4;
      mode = Running;
    })
    0 0

-- PC, owed ticks and IRQH after the first step
abbrev told : Result Machine Fault → List ℕ
told (Ok m) = m.parts.registers.pc ∷ m.owed ∷ m.parts.requests.irqh ∷ []
told (Err e) = []

-- 4A takes FFD6's word
abbrev pub table_call : List ℕ
table_call = told (begun (standing false (requests 0 0 0 0 0)) image 0)

-- with INT0 and T0 pending, INT0 is accepted first: FFFA's word, and T0IF stays
abbrev pub two_pending : List ℕ
two_pending = told (begun (standing true (requests 0xF0 0 0xA0 0 0)) image 0)
