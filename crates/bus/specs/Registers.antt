-- Which address reads and writes what.
use Rattle.std.specs.Prelude.{ℕ, ◌+◌, ◌-◌, ◌*◌, ◌/◌, ◌%◌, cond, List, [], ◌∷◌, Some, None, Option, Ok, Err, Result, ◌==◌, bit_and, nat_le, nat_lt, slice_index, slice_set}
use Rattle.std.specs.Option.{ok_or}
use Rattle.faults.specs.declared.Fault.{Fault}
use Rattle.faults.specs.declared.Fault.TheVariants.{Unoccupied, ReadOfWriteOnly, WriteToReadOnly, UnsupportedMode}
use Rattle.counters.specs.declared.timer.Timer.{Timer}
use Rattle.counters.specs.Timers.{at, timer_set}
use Rattle.counters.specs.Buzzers.{buzzer_set}
use Rattle.counters.specs.Basic.{basic_set, watchdog_set}
use Rattle.ports.specs.declared.port.Ports.{Ports}
use Rattle.ports.specs.declared.request.Requests.{Requests}
use Rattle.ports.specs.Ports.{ports_read}
use Rattle.bus.specs.declared.parts.Parts.{Parts}
use Rattle.bus.specs.declared.register.Register.{Register}
use Rattle.bus.specs.declared.register.Register.TheVariants as rg
use Rattle.bus.specs.Outcomes.{after, bind}
use Rattle.bus.specs.Seen.{Seen}

abbrev found : List (ℕ × Register) → ℕ → Option Register
found [] address = None
found (e ∷ es) address = cond (address == e.0) (Some e.1) (found es address)

-- the register at an address
abbrev pub register_at : ℕ → Option Register
register_at address =
    found ((0xC0, rg.Ra) ∷ (0xC1, rg.Raio) ∷ (0xC2, rg.Rb) ∷ (0xC3, rg.Rbio) ∷ (0xC4, rg.Rc) ∷ (0xC5, rg.Rcio)
    ∷ (0xCA, rg.Rafunc) ∷ (0xCB, rg.Rbfunc) ∷ (0xCC, rg.Pupsel) ∷ (0xD0, rg.Tm0) ∷ (0xD1, rg.Tdr0) ∷ (0xD2, rg.Tm1) ∷ (0xD3, rg.Tdr1) ∷ (0xD4, rg.T1)
    ∷ (0xDE, rg.Bur) ∷ (0xE2, rg.Ienh) ∷ (0xE3, rg.Ienl) ∷ (0xE4, rg.Irqh) ∷ (0xE5, rg.Irql) ∷ (0xE6, rg.Ieds)
    ∷ (0xEC, rg.Ckctlr) ∷ (0xED, rg.Wdtr) ∷ (0xEF, rg.Pfdr) ∷ []) address

-- a register read before the host's word; the write-only ones are directions, functions, PUPSEL, TDR1 and BUR
abbrev pub register_read : Parts → ℕ → Register → Option ℕ
register_read m host rg.Ra = Some (ports_read m.ports host % 256)
register_read m host rg.Raio = None
register_read m host rg.Rb = Some (ports_read m.ports host / 256 % 32)
register_read m host rg.Rbio = None
register_read m host rg.Rc = Some (ports_read m.ports host / 8192 % 4)
register_read m host rg.Rcio = None
register_read m host rg.Rafunc = None
register_read m host rg.Rbfunc = None
register_read m host rg.Pupsel = None
register_read m host rg.Tm0 = Some (at m.timers 0).control
register_read m host rg.Tdr0 = Some (at m.timers 0).count
register_read m host rg.Tm1 = Some (at m.timers 1).control
register_read m host rg.Tdr1 = None
register_read m host rg.T1 = Some (at m.timers 1).count
register_read m host rg.Bur = None
register_read m host rg.Ienh = Some m.requests.ienh
register_read m host rg.Ienl = Some m.requests.ienl
register_read m host rg.Irqh = Some m.requests.irqh
register_read m host rg.Irql = Some m.requests.irql
register_read m host rg.Ieds = Some m.requests.ieds
register_read m host rg.Ckctlr = Some m.basic.bitr
register_read m host rg.Wdtr = Some m.basic.wdtr
register_read m host rg.Pfdr = Some m.pfdr

-- the image's word at an address, low byte first
abbrev pub image_word : List ℕ → ℕ → ℕ
image_word image address = slice_index image (address - 0xF800) + 256 * slice_index image ((address + 1) % 65536 - 0xF800)

-- RAM from 0000 to 007F, the image from F800 on, and registers
abbrev pub read_at : Parts → Seen → ℕ → Result ℕ Fault
read_at m view address =
    cond (nat_lt address 0x80) (Ok (slice_index m.memory.ram address))
    (cond (nat_le 0xF800 address) (Ok (slice_index view.image (address - 0xF800)))
    (bind (ok_or (register_at address) (Unoccupied view.pc address)) (λ r. ok_or (register_read m view.host r) (ReadOfWriteOnly view.pc address))))

abbrev pub ram_with : Parts → ℕ → ℕ → Parts
ram_with m k v = record m { memory = record { ram = slice_set m.memory.ram k v } }

abbrev with_ports : Parts → Ports → Parts × Option Unit
with_ports m v = (record m { ports = v }, Some tt)

abbrev with_requests : Parts → Requests → Parts × Option Unit
with_requests m v = (record m { requests = v }, Some tt)

abbrev with_timer : Parts → ℕ → Timer → Parts × Option Unit
with_timer m i v = (record m { timers = record m.timers { pair = slice_set m.timers.pair i v } }, Some tt)

-- the bits of a register that would set a mode that is not there
abbrev pub missing_modes : Register → ℕ
missing_modes rg.Tm0 = 0x20
missing_modes rg.Tm1 = 0x70
missing_modes rg.Ckctlr = 0x20
missing_modes _ = 0

-- the parts with a register written, if it takes bytes: bits without a name are dropped, and only T1 is read-only
abbrev pub register_written : Parts → Register → ℕ → Parts × Option Unit
register_written m rg.Ra v = with_ports m (record m.ports { ra = v })
register_written m rg.Raio v = with_ports m (record m.ports { raio = v })
register_written m rg.Rb v = with_ports m (record m.ports { rb = v % 32 })
register_written m rg.Rbio v = with_ports m (record m.ports { rbio = v % 32 })
register_written m rg.Rc v = with_ports m (record m.ports { rc = v % 4 })
register_written m rg.Rcio v = with_ports m (record m.ports { rcio = v % 4 })
register_written m rg.Rafunc v = with_ports m (record m.ports { rafunc = v })
register_written m rg.Rbfunc v = with_ports m (record m.ports { rbfunc = v % 32 })
register_written m rg.Pupsel v = with_ports m (record m.ports { pupsel = v % 4 })
register_written m rg.Tm0 v = with_timer m 0 (timer_set (v % 64) (at m.timers 0))
register_written m rg.Tdr0 v = with_timer m 0 (record (at m.timers 0) { limit = v })
register_written m rg.Tm1 v = with_timer m 1 (timer_set v (at m.timers 1))
register_written m rg.Tdr1 v = with_timer m 1 (record (at m.timers 1) { limit = v })
register_written m rg.T1 v = (m, None)
register_written m rg.Bur v = (record m { buzzer = buzzer_set v }, Some tt)
register_written m rg.Ienh v = with_requests m (record m.requests { ienh = bit_and v 0xF0 })
register_written m rg.Ienl v = with_requests m (record m.requests { ienl = bit_and v 0xE0 })
register_written m rg.Irqh v = with_requests m (record m.requests { irqh = bit_and v 0xF0 })
register_written m rg.Irql v = with_requests m (record m.requests { irql = bit_and v 0xE0 })
register_written m rg.Ieds v = with_requests m (record m.requests { ieds = v % 16 })
register_written m rg.Ckctlr v = (record m { basic = basic_set v m.basic }, Some tt)
register_written m rg.Wdtr v = (record m { basic = watchdog_set v m.basic }, Some tt)
register_written m rg.Pfdr v = (record m { pfdr = v % 8 }, Some tt)

-- a register that takes a byte, unless that sets a mode that is not there
abbrev pub register_taken : Parts → ℕ → ℕ → ℕ → Register → Result Parts Fault
register_taken m pc address v r =
    let s = register_written m r v in
    cond (bit_and v (missing_modes r) == 0) (after (ok_or s.1 (WriteToReadOnly pc address)) s.0) (Err (UnsupportedMode pc address))

-- RAM and registers take a byte, the image does not
abbrev pub written_at : Parts → ℕ → ℕ → ℕ → Result Parts Fault
written_at m pc address v =
    cond (nat_lt address 0x80) (Ok (ram_with m address v))
    (cond (nat_le 0xF800 address) (Err (WriteToReadOnly pc address))
    (bind (ok_or (register_at address) (Unoccupied pc address)) (λ r. register_taken m pc address v r)))
