-- The buzzer.
use Rattle.std.specs.Prelude.{ℕ, ◌+◌, ◌/◌, ◌%◌, false, cond, ◌&&◌, Some, None, Option, ◌==◌}
use Rattle.recorder.specs.declared.mode.Mode.{Mode}
use Rattle.counters.specs.declared.buzzer.Buzzer.{Buzzer}
use Rattle.counters.specs.Counting.{awake, flip, pulse, counted, run_on, still_for}

-- BUCK, bits 7 and 6 of BUR: divider 8 × 2^BUCK
abbrev pub buzzer_shift : Buzzer → ℕ
buzzer_shift b = 3 + b.bur / 64

-- bits 5 to 0 of BUR
abbrev pub buzzer_limit : Buzzer → ℕ
buzzer_limit b = b.bur % 64

-- a pulse; a match turns the level
abbrev pub buzzer_pulsed : Buzzer → Buzzer
buzzer_pulsed b = record b { count = counted 64 (buzzer_limit b) b.count; level = flip (b.count == buzzer_limit b) b.level }

-- after a tick at a prescaler; it counts awake only
abbrev pub buzzer_ticked : Mode → ℕ → Buzzer → Buzzer
buzzer_ticked mode p b = cond (awake mode && pulse (buzzer_shift b) p) (buzzer_pulsed b) b

-- after k ticks without a match, from prescaler p
abbrev pub buzzer_moved : Mode → ℕ → ℕ → Buzzer → Buzzer
buzzer_moved mode p k b = cond (awake mode) (record b { count = run_on 64 (buzzer_shift b) p k b.count }) b

-- the ticks before a match
abbrev pub buzzer_still : Mode → ℕ → Buzzer → Option ℕ
buzzer_still mode p b = cond (awake mode) (Some (still_for 64 (buzzer_shift b) p (buzzer_limit b) b.count)) None

-- a write of BUR clears count and level
abbrev pub buzzer_set : ℕ → Buzzer
buzzer_set v = record { bur = v; count = 0; level = false }
