-- Interrupt requests and enables.
use Rattle.std.specs.Prelude.{ℕ, ◌-◌, ◌^◌, Bool, true, false, cond, not, Option, [], ◌∷◌, find, ◌==◌, bit_and, bit_or}
use Rattle.ports.specs.declared.request.Interrupt.{Interrupt}
use Rattle.ports.specs.declared.request.Interrupt.TheVariants.{Int0, Int1, Timer0, Timer1, Converter, Watchdog, Basic}
use Rattle.ports.specs.declared.request.Requests.{Requests}
use Rattle.ports.specs.declared.request.Events.{Events}
use Rattle.ports.specs.Ports.{bit_of}

abbrev pub requests : ℕ → ℕ → ℕ → ℕ → ℕ → Requests
requests ienh ienl irqh irql ieds = record { ienh = ienh; ienl = ienl; irqh = irqh; irql = irql; ieds = ieds }

abbrev pub requests_reset : Requests
requests_reset = requests 0 0 0 0 0

-- INT0, INT1, T0 and T1 have their bits in IENH and IRQH, the others in IENL and IRQL
abbrev pub in_high : Interrupt → Bool
in_high Int0 = true
in_high Int1 = true
in_high Timer0 = true
in_high Timer1 = true
in_high Converter = false
in_high Watchdog = false
in_high Basic = false

-- the numbers of these bits
abbrev pub bit_number : Interrupt → ℕ
bit_number Int0 = 7
bit_number Int1 = 6
bit_number Timer0 = 5
bit_number Timer1 = 4
bit_number Converter = 7
bit_number Watchdog = 6
bit_number Basic = 5

abbrev pub mask_of : Interrupt → ℕ
mask_of i = 2 ^ bit_number i

-- whether it is requested and enabled
abbrev pub asks : Requests → Interrupt → Bool
asks r i = bit_of (mask_of i) (cond (in_high i) (bit_and r.ienh r.irqh) (bit_and r.ienl r.irql))

-- the first enabled request
abbrev pub pending : Requests → Option Interrupt
pending r = find (λ i. asks r i) (Int0 ∷ Int1 ∷ Timer0 ∷ Timer1 ∷ Converter ∷ Watchdog ∷ Basic ∷ [])

-- an enabled request of INT0, INT1 or Timer 0 wakes the chip
abbrev pub wakes : Requests → Bool
wakes r = not (bit_and (bit_and r.ienh r.irqh) 0xE0 == 0)

-- the word that the program counter is taken from
abbrev pub vector_of : Interrupt → ℕ
vector_of Int0 = 0xFFFA
vector_of Int1 = 0xFFF8
vector_of Timer0 = 0xFFF6
vector_of Timer1 = 0xFFF4
vector_of Converter = 0xFFEA
vector_of Watchdog = 0xFFE8
vector_of Basic = 0xFFE6

-- an accepted request is cleared
abbrev pub accepted : Interrupt → Requests → Requests
accepted i r =
    cond (in_high i) (record r { irqh = bit_and r.irqh (255 - mask_of i) }) (record r { irql = bit_and r.irql (255 - mask_of i) })

-- the bit of a request that an event sets
abbrev pub mask_if : Bool → Interrupt → ℕ
mask_if on i = cond on (mask_of i) 0

-- the requests that a tick's events set
abbrev pub noted : Events → Requests → Requests
noted e r =
    record r {
      irqh = bit_or r.irqh (bit_or (bit_or (bit_or (mask_if e.int0 Int0) (mask_if e.int1 Int1)) (mask_if e.timer0 Timer0)) (mask_if e.timer1 Timer1));
      irql = bit_or r.irql (bit_or (mask_if e.watchdog Watchdog) (mask_if e.basic Basic));
    }
