-- One tick: the chip acts, its samples are taken, and its counters run.
use Rattle.std.specs.Prelude.{ℕ, ◌-◌, ◌/◌, ◌%◌, Bool, cond, not, ◌&&◌, ◌||◌, List, Some, None, Ok, Option, Result, ◌==◌}
use Rattle.faults.specs.declared.Fault.{Fault}
use Rattle.recorder.specs.declared.mode.Mode.{Mode}
use Rattle.recorder.specs.declared.mode.Mode.TheVariants.{Running, Stopped}
use Rattle.recorder.specs.declared.pin_sample.PinSample.{PinSample}
use Rattle.counters.specs.declared.timer.Timers.{Timers}
use Rattle.counters.specs.declared.timer.Matches.{Matches}
use Rattle.counters.specs.declared.basic.BasicTimer.{BasicTimer}
use Rattle.counters.specs.declared.basic.Passing.{Passing}
use Rattle.counters.specs.Counting.{awake}
use Rattle.counters.specs.Timers.{timers_reset, timers_ticked}
use Rattle.counters.specs.Buzzers.{buzzer_set, buzzer_ticked}
use Rattle.counters.specs.Basic.{basic, basic_ticked}
use Rattle.counters.specs.Quiet.{prescaled}
use Rattle.ports.specs.declared.request.Interrupt.{Interrupt}
use Rattle.ports.specs.declared.request.Events.{Events}
use Rattle.ports.specs.declared.edges.Edges.{Edges}
use Rattle.ports.specs.Ports.{sampled, ports_reset}
use Rattle.ports.specs.Requests.{requests_reset, pending, wakes, vector_of, accepted, noted}
use Rattle.ports.specs.Edges.{edges_of}
use Rattle.cpu.specs.State.{cleared, with_pc, with_flags}
use Rattle.bus.specs.declared.parts.Parts.{Parts}
use Rattle.bus.specs.With.{parts_with_mode, parts_with_requests}
use Rattle.bus.specs.Outcomes.{bind}
use Rattle.bus.specs.Registers.{image_word}
use Rattle.instructions.specs.Operations.{interrupted}
use Rattle.instructions.specs.Execute.{instructed}
use Rattle.machine.specs.declared.state.Machine.{Machine}
use Rattle.machine.specs.declared.state.Action.{Action}
use Rattle.machine.specs.declared.state.Action.TheVariants.{Rest, Accept, Execute}

abbrev pub machine : Parts → ℕ → ℕ → Machine
machine parts owed prescaler = record { parts = parts; owed = owed; prescaler = prescaler }

-- the request that is accepted: the first enabled one that is pending, if I is set
abbrev pub interrupt_of : Parts → Option Interrupt
interrupt_of p = cond p.registers.flags.i (pending p.requests) None

-- an awake chip accepts that request, and otherwise executes
abbrev pub attended : Option Interrupt → Action
attended (Some i) = Accept i
attended None = Execute

-- what a chip that owes no ticks does; asleep it rests until a request wakes it
abbrev pub action_of : Machine → Action
action_of m =
    cond (m.owed == 0 && (awake m.parts.mode || wakes m.parts.requests))
    (attended (interrupt_of m.parts)) Rest

-- awake again
abbrev pub woken : Parts → Parts
woken p = parts_with_mode p Running

-- the first step: an accepted request is cleared and owes 16 ticks, an instruction those that it takes
abbrev pub acted : Machine → List ℕ → ℕ → Action → Result Machine Fault
acted m image host Rest = Ok m
acted m image host (Accept i) =
    bind (interrupted (parts_with_requests (woken m.parts) (accepted i m.parts.requests)) image m.parts.registers.pc (vector_of i)) (λ p. Ok (machine p 16 m.prescaler))
acted m image host Execute = bind (instructed (woken m.parts) image host) (λ t. Ok (machine t.0 t.1 m.prescaler))

abbrev pub begun : Machine → List ℕ → ℕ → Result Machine Fault
begun m image host = acted m image host (action_of m)

-- the second step: the pin sample; the mode sample is the mode
abbrev pub pins_of : Machine → ℕ → PinSample
pins_of m host = sampled m.parts.ports host m.parts.buzzer.level m.parts.timers.comp

-- the prescaler after k ticks; it stands still only where all is stopped
abbrev pub prescaler_moved : Mode → ℕ → ℕ → ℕ
prescaler_moved Stopped p k = p
prescaler_moved _ p k = prescaled p k

abbrev pub prescaler_after : Mode → ℕ → ℕ
prescaler_after mode p = prescaler_moved mode p 1

-- WDTON, bit 4 of CKCTLR
abbrev pub resets : BasicTimer → Bool
resets b = b.control / 16 % 2 == 1

-- what the counters and the edges did
pub record Happened : Type 0 where
  pub timers : Timers × Matches
  pub basic : BasicTimer × Passing
  pub edges : Edges

abbrev pub happened : Machine → ℕ → ℕ → Happened
happened m before at =
    let p = m.parts in
    let e : Edges = edges_of p.ports p.requests.ieds before at in
    let q = prescaler_after p.mode m.prescaler in
    record { timers = timers_ticked p.mode q e.ec0 p.timers; basic = basic_ticked p.mode q p.basic; edges = e }

-- the requests that it sets; the watchdog asks only where it does not reset
abbrev pub events_of : BasicTimer → Happened → Events
events_of b h =
    let t = h.timers.1 in
    let w = h.basic.1 in
    record { int0 = h.edges.int0; int1 = h.edges.int1; timer0 = t.timer0; timer1 = t.timer1; watchdog = w.watchdog && not (resets b); basic = w.passed }

-- the parts after their counters ran
abbrev pub counted : Machine → Happened → Parts
counted m h =
    let p = m.parts in
    record p {
      timers = h.timers.0;
      buzzer = buzzer_ticked p.mode (prescaler_after p.mode m.prescaler) p.buzzer;
      basic = h.basic.0;
      requests = noted (events_of p.basic h) p.requests;
    }

-- a reset: the registers' reset values, PSW 0 and PC from FFFE; RAM, A, X, Y, SP and latches stay
abbrev pub reset_parts : Parts → List ℕ → Parts
reset_parts p image =
    record p {
      registers = with_pc (with_flags p.registers cleared.flags) (image_word image 0xFFFE);
      ports = ports_reset p.ports;
      timers = timers_reset;
      buzzer = buzzer_set 255;
      basic = basic 0x17 0 0x7F 0;
      requests = requests_reset;
      pfdr = 4;
      mode = Running;
    }

abbrev pub reset_machine : Parts → List ℕ → Machine
reset_machine p image = machine (reset_parts p image) 0 0

-- the third step: counters run, edges set requests, and an owed tick is paid; a watchdog reset follows
abbrev pub finished_with : Machine → List ℕ → Happened → Machine
finished_with m image h =
    cond (h.basic.1.watchdog && resets m.parts.basic) (reset_machine (counted m h) image)
    (machine (counted m h) (m.owed - 1) (prescaler_after m.parts.mode m.prescaler))

abbrev pub finished : Machine → List ℕ → ℕ → ℕ → Machine
finished m image before at = finished_with m image (happened m before at)
