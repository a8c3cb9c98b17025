-- A list of pulses, sorted by offset, each apart from the next.
use Rattle.std.specs.Prelude.{◌≡◌, ℕ, ◌+◌, ◌-◌, ◌%◌, ◌^◌, ◌<◌, ◌≤◌, Bool, false, cond, ◌&&◌, ◌||◌, List, [], ◌∷◌, length, is_none, Some, None, Ok, Err, Option, Result, nat_le, nat_lt, slice_index_or}
use Rattle.faults.specs.declared.Fault.{Fault}
use Rattle.faults.specs.declared.Fault.TheVariants.{BadPulseList}
use Rattle.hosts.specs.declared.pulse.Pulse.{Pulse}
use Rattle.hosts.specs.Marks.{capped}

-- the tick after the last of a pulse
abbrev pub end_of : Pulse → ℕ
end_of p = p.offset + p.length

-- a pulse that begins at tick b or later, has a tick and ends in time
abbrev pub fair : ℕ → Pulse → Bool
fair b p = nat_le b p.offset && (nat_le 1 p.length && nat_le (end_of p) (2 ^ 48))

-- the first bad pulse, where the first of the list is number i and begins at tick b or later
abbrev pub bad_from : ℕ → ℕ → List Pulse → Option ℕ
bad_from i b [] = None
bad_from i b (p ∷ ps) = cond (fair b p) (bad_from (i + 1) (end_of p + 1) ps) (Some i)

abbrev pub first_bad : List Pulse → Option ℕ
first_bad ps = bad_from 0 0 ps

-- every pulse is fair and begins above the end of the one before
abbrev pub sorted : List Pulse → Bool
sorted ps = is_none (first_bad ps)

-- why a list is refused: 4096 if it is too long, else its first bad pulse
abbrev pub bad_pulse : List Pulse → Option ℕ
bad_pulse ps = cond (nat_lt 4096 (length ps)) (Some 4096) (first_bad ps)

-- the answer, word and list after a call that would set new ones
abbrev pub answered : Option ℕ → ℕ → List Pulse → ℕ → List Pulse → Result Unit Fault × ℕ × List Pulse
answered None w ps word pulses = (Ok tt, word % 2 ^ 15, pulses)
answered (Some i) w ps word pulses = (Err (BadPulseList i), w, ps)

abbrev pub set_to : ℕ → List Pulse → ℕ → List Pulse → Result Unit Fault × ℕ × List Pulse
set_to w ps word pulses = answered (bad_pulse pulses) w ps word pulses

-- whether a pulse of the list has tick t
abbrev pub covered : List Pulse → ℕ → Bool
covered [] t = false
covered (p ∷ ps) t = (nat_le p.offset t && nat_lt t (end_of p)) || covered ps t

-- the next start or end above t, unless it is 2^48 or more
abbrev pub turn_of : List Pulse → ℕ → Option ℕ
turn_of [] t = None
turn_of (p ∷ ps) t = cond (nat_lt t p.offset) (capped p.offset) (cond (nat_lt t (end_of p)) (capped (end_of p)) (turn_of ps t))

-- the start of a pulse where that is above t, else its end
abbrev pub turn_in : Pulse → ℕ → ℕ
turn_in p t = cond (nat_lt t p.offset) p.offset (end_of p)

-- a pulse with no tick
abbrev pub blank : Pulse
blank = record { offset = 0; length = 0 }

-- pulse k of the list, counted from 0
abbrev pub at : List Pulse → ℕ → Pulse
at ps k = slice_index_or ps k blank

-- in a sorted list, n pulses have ended by t
pub record Found (ps : List Pulse) (t n : ℕ) : Type 0 where
  pub within : n ≤ length ps
  pub before : 0 < n → end_of (at ps (n - 1)) ≤ t
  pub after : n < length ps → t < end_of (at ps n)

-- what the first pulse that ends after t says of the list: it alone can have t, and it has the next turn
pub record Current (ps : List Pulse) (p : Pulse) (t : ℕ) : Type 0 where
  pub covers : covered ps t ≡ nat_le p.offset t
  pub turn : turn_of ps t ≡ capped (turn_in p t)
  pub in_time : end_of p ≤ 2 ^ 48

-- where no pulse ends after t
pub record Over (ps : List Pulse) (t : ℕ) : Type 0 where
  pub covers : covered ps t ≡ false
  pub turn : turn_of ps t ≡ None
