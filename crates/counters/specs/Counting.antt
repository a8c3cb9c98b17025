-- Counters on the dividers of the prescaler.
use Rattle.std.specs.Prelude.{ℕ, ◌+◌, ◌-◌, ◌*◌, ◌/◌, ◌%◌, ◌^◌, Bool, true, false, cond, not, ◌==◌}
use Rattle.recorder.specs.declared.mode.Mode.{Mode}
use Rattle.recorder.specs.declared.mode.Mode.TheVariants.{Running}

-- timers, buzzer and basic timer count awake; what counts asleep is told with the timers
abbrev pub awake : Mode → Bool
awake Running = true
awake _ = false

-- a level that a match turns
abbrev pub flip : Bool → Bool → Bool
flip true b = not b
flip false b = b

-- divider 2^s pulses at a prescaler that is a multiple of it
abbrev pub pulse : ℕ → ℕ → Bool
pulse s p = p % 2 ^ s == 0

-- a pulse takes a count that equals its limit to 0, which is a match, and another one up, modulo M
abbrev pub counted : ℕ → ℕ → ℕ → ℕ
counted M limit count = cond (count == limit) 0 ((count + 1) % M)

-- the pulses of divider 2^s in the k ticks after prescaler p
abbrev pub pulses_in : ℕ → ℕ → ℕ → ℕ
pulses_in s p k = (p + k) / 2 ^ s - p / 2 ^ s

-- a count after k ticks without a match
abbrev pub run_on : ℕ → ℕ → ℕ → ℕ → ℕ → ℕ
run_on M s p k count = (count + pulses_in s p k) % M

-- the pulses before the one that matches
abbrev pub gap : ℕ → ℕ → ℕ → ℕ
gap M limit count = (limit + M - count % M) % M

-- the ticks before the one with a pulse of divider 2^s that follows g others
abbrev pub before_pulse : ℕ → ℕ → ℕ → ℕ
before_pulse s p g = (p / 2 ^ s + g + 1) * 2 ^ s - p - 1

-- the ticks before the one that matches
abbrev pub still_for : ℕ → ℕ → ℕ → ℕ → ℕ → ℕ
still_for M s p limit count = before_pulse s p (gap M limit count)
