-- The bytes of a chip's record, low bytes first.
use Rattle.std.specs.Prelude.{ℕ, List, [], ◌∷◌, ◌++◌}
use Rattle.std.specs.Int.{w16, w64, to_le_bytes, from_bool}
use Rattle.counters.specs.declared.basic.BasicTimer.{BasicTimer}
use Rattle.counters.specs.declared.buzzer.Buzzer.{Buzzer}
use Rattle.counters.specs.declared.timer.Timer.{Timer}
use Rattle.counters.specs.declared.timer.Timers.{Timers}
use Rattle.counters.specs.Timers.{at}
use Rattle.cpu.specs.declared.registers.Registers.{Registers}
use Rattle.cpu.specs.State.{packed}
use Rattle.ports.specs.declared.port.Ports.{Ports}
use Rattle.ports.specs.declared.request.Requests.{Requests}
use Rattle.recorder.specs.Samples.{mode_letter}
use Rattle.bus.specs.declared.parts.Parts.{Parts}
use Rattle.bench.specs.declared.held.Held.{Held}

abbrev pub word : ℕ → List ℕ
word n = to_le_bytes w16 n

abbrev pub quad : ℕ → List ℕ
quad n = to_le_bytes w64 n

abbrev pub registers_of : Registers → List ℕ
registers_of r = (r.a ∷ r.x ∷ r.y ∷ r.sp ∷ []) ++ (word r.pc ++ (packed r.flags ∷ []))

-- latches, directions and functions
abbrev pub ports_of : Ports → List ℕ
ports_of p = p.ra ∷ p.rb ∷ p.rc ∷ p.raio ∷ p.rbio ∷ p.rcio ∷ p.rafunc ∷ p.rbfunc ∷ p.pupsel ∷ []

abbrev pub timer_of : Timer → List ℕ
timer_of t = t.control ∷ t.limit ∷ t.count ∷ []

-- TM, TDR and count of both timers, and COMP's level
abbrev pub timers_of : Timers → List ℕ
timers_of t = timer_of (at t 0) ++ (timer_of (at t 1) ++ (from_bool t.comp ∷ []))

abbrev pub counters_of : Buzzer → BasicTimer → List ℕ
counters_of z t = z.bur ∷ z.count ∷ from_bool z.level ∷ t.control ∷ t.bitr ∷ t.wdtr ∷ t.watchdog ∷ []

abbrev pub requests_of : Requests → List ℕ
requests_of r = r.ienh ∷ r.ienl ∷ r.irqh ∷ r.irql ∷ r.ieds ∷ []

abbrev pub parts_of : Parts → List ℕ
parts_of p =
    registers_of p.registers
    ++ (p.memory.ram
    ++ (ports_of p.ports
    ++ (timers_of p.timers
    ++ (counters_of p.buzzer p.basic
    ++ (requests_of p.requests
    ++ (p.pfdr ∷ mode_letter p.mode ∷ []))))))

-- the parts, owed ticks, the prescaler, the tick number, and the counted stretches of both charts
abbrev pub record_of : Held → List ℕ
record_of h =
    parts_of h.moment.machine.parts
    ++ ((h.moment.machine.owed ∷ word h.moment.machine.prescaler)
    ++ (quad h.moment.tick
    ++ (quad h.stretches.pins
    ++ quad h.stretches.modes)))
