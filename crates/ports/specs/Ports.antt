-- The three ports: latches, directions and functions, as pin words.
use Rattle.std.specs.Prelude.{ℕ, ◌+◌, ◌-◌, ◌*◌, ◌/◌, ◌%◌, Bool, cond, ◌==◌, bit_and, bit_or}
use Rattle.recorder.specs.declared.pin_sample.PinSample.{PinSample}
use Rattle.ports.specs.declared.port.Ports.{Ports}

-- a bit of a byte or of a word, by its weight
abbrev pub bit_of : ℕ → ℕ → Bool
bit_of weight n = n / weight % 2 == 1

-- eight pins of RA, five of RB and two of RC in one word
abbrev pub word_of : ℕ → ℕ → ℕ → ℕ
word_of ra rb rc = ra + 256 * (rb % 32) + 8192 * (rc % 4)

abbrev pub latches : Ports → ℕ
latches s = word_of s.ra s.rb s.rc

abbrev pub directions : Ports → ℕ
directions s = word_of s.raio s.rbio s.rcio

-- the bits of `out` where those of `which` are 1, and the host's elsewhere
abbrev pub merged : ℕ → ℕ → ℕ → ℕ
merged which out host = bit_or (bit_and which out) (bit_and (65535 - which) host)

-- what the ports read: a pin with direction 1 its latch, another the host
abbrev pub ports_read : Ports → ℕ → ℕ
ports_read s host = merged (directions s) (latches s) host

-- RBFUNC: BUZO, bit 1, gives RB1 to the buzzer; PWMO, bit 4, gives RB4 to COMP
abbrev pub buzo : Ports → Bool
buzo s = bit_of 2 s.rbfunc

abbrev pub pwmo : Ports → Bool
pwmo s = bit_of 16 s.rbfunc

-- a word with RB1 and RB4
abbrev pub rb1_and4 : Bool → Bool → ℕ
rb1_and4 one four = cond one 0x0200 0 + cond four 0x1000 0

-- the pins that are driven: those with direction 1, and the two that are given away in any direction
abbrev pub drive : Ports → ℕ
drive s = bit_or (directions s) (rb1_and4 (buzo s) (pwmo s))

-- what drives them: the latches, and ahead of these the buzzer and COMP
abbrev pub driver : Ports → Bool → Bool → ℕ
driver s buzzer comp = merged (rb1_and4 (buzo s) (pwmo s)) (rb1_and4 buzzer comp) (latches s)

-- the pin sample of a tick
abbrev pub sampled : Ports → ℕ → Bool → Bool → PinSample
sampled s host buzzer comp = record { levels = merged (drive s) (driver s buzzer comp) host; drive = drive s }

-- a reset keeps the latches
abbrev pub ports_reset : Ports → Ports
ports_reset s = record s { raio = 0; rbio = 0; rcio = 0; rafunc = 0; rbfunc = 0; pupsel = 0 }
