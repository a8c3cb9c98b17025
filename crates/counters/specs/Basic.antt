-- The basic interval timer and the watchdog that it steps.
use Rattle.std.specs.Prelude.{ℕ, ◌+◌, ◌%◌, Bool, cond, ◌&&◌, Some, None, Option, ◌==◌, bit_and}
use Rattle.recorder.specs.declared.mode.Mode.{Mode}
use Rattle.counters.specs.declared.basic.BasicTimer.{BasicTimer}
use Rattle.counters.specs.declared.basic.Passing.{Passing}
use Rattle.counters.specs.Counting.{awake, pulse, counted, run_on, still_for}

abbrev pub basic : ℕ → ℕ → ℕ → ℕ → BasicTimer
basic control bitr wdtr watchdog = record { control = control; bitr = bitr; wdtr = wdtr; watchdog = watchdog }

-- BTS, bits 2 to 0 of CKCTLR: divider 8 × 2^BTS
abbrev pub basic_shift : BasicTimer → ℕ
basic_shift b = 3 + b.control % 8

-- whether BITR passes FF at a prescaler; it counts awake only
abbrev pub passes : Mode → ℕ → BasicTimer → Bool
passes mode p b = awake mode && pulse (basic_shift b) p && b.bitr == 255

-- whether the watchdog, which counts the passings, is at its limit, bits 6 to 0 of WDTR
abbrev pub at_limit : BasicTimer → Bool
at_limit b = b.watchdog == b.wdtr % 128

-- after a tick at a prescaler: whether BITR passed FF, and whether the watchdog matched then
abbrev pub basic_ticked : Mode → ℕ → BasicTimer → BasicTimer × Passing
basic_ticked mode p b =
    let passed : Bool = passes mode p b in (
      record b { bitr = cond (awake mode && pulse (basic_shift b) p) (counted 256 255 b.bitr) b.bitr; watchdog = cond passed (counted 128 (b.wdtr % 128) b.watchdog) b.watchdog },
      record { passed = passed; watchdog = passed && at_limit b },
    )

-- after k ticks without a passing, from prescaler p
abbrev pub basic_moved : Mode → ℕ → ℕ → BasicTimer → BasicTimer
basic_moved mode p k b = cond (awake mode) (record b { bitr = run_on 256 (basic_shift b) p k b.bitr }) b

-- the ticks before a passing
abbrev pub basic_still : Mode → ℕ → BasicTimer → Option ℕ
basic_still mode p b = cond (awake mode) (Some (still_for 256 (basic_shift b) p 255 b.bitr)) None

-- a write of CKCTLR: BTCL, bit 3, clears BITR and is not kept, and bit 7 is not there
abbrev pub basic_set : ℕ → BasicTimer → BasicTimer
basic_set v b = record b { control = bit_and v 0x77; bitr = cond (bit_and v 8 == 8) 0 b.bitr }

-- a write of WDTR: WDTCL, bit 7, clears the watchdog's count and is not kept
abbrev pub watchdog_set : ℕ → BasicTimer → BasicTimer
watchdog_set v b = record b { wdtr = v % 128; watchdog = cond (bit_and v 128 == 128) 0 b.watchdog }
