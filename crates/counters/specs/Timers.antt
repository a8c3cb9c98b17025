-- Timer 0 and Timer 1.
use Rattle.std.specs.Prelude.{ℕ, ◌/◌, ◌%◌, Bool, false, cond, ◌&&◌, [], ◌∷◌, Some, None, Option, ◌==◌, slice_index_or, slice_set}
use Rattle.ticks.specs.Ticks.{sooner}
use Rattle.recorder.specs.declared.mode.Mode.{Mode}
use Rattle.recorder.specs.declared.mode.Mode.TheVariants.{Running, WakeUpTimer}
use Rattle.counters.specs.declared.timer.Timer.{Timer}
use Rattle.counters.specs.declared.timer.Timers.{Timers}
use Rattle.counters.specs.declared.timer.Matches.{Matches}
use Rattle.counters.specs.declared.timer.Source.{Source}
use Rattle.counters.specs.declared.timer.Source.TheVariants.{Divider, Event, Held}
use Rattle.counters.specs.Counting.{awake, flip, pulse, counted, run_on, still_for}

abbrev pub timer : ℕ → ℕ → ℕ → Timer
timer control limit count = record { control = control; limit = limit; count = count }

-- after a reset
abbrev pub timer_reset : Timer
timer_reset = timer 0 255 0

-- a timer counts while its CN and ST bits, 1 and 0, are set
abbrev pub counts : Timer → Bool
counts t = t.control % 4 == 3

-- T0CK, bits 4 to 2 of TM0: dividers 2, 4, 8, 32, 128, 512 and 2048, and EC0
abbrev pub source0 : ℕ → Source
source0 control = slice_index_or (Divider 1 ∷ Divider 2 ∷ Divider 3 ∷ Divider 5 ∷ Divider 7 ∷ Divider 9 ∷ Divider 11 ∷ []) (control / 4 % 8) Event

-- T1CK, bits 3 and 2 of TM1: dividers 1, 2 and 8, and Timer 0's source
abbrev pub source1 : Source → ℕ → Source
source1 zero control = slice_index_or (Divider 0 ∷ Divider 1 ∷ Divider 3 ∷ []) (control / 4 % 4) zero

-- what drives Timer 0 in a mode: awake its source, with the wake-up timer only the divider 2048
abbrev pub drive0 : Mode → Source → Source
drive0 Running s = s
drive0 WakeUpTimer (Divider n) = cond (n == 11) (Divider n) Held
drive0 _ s = Held

-- Timer 1 counts awake only
abbrev pub drive1 : Mode → Source → Source
drive1 mode s = cond (awake mode) s Held

-- a timer that does not count is held
abbrev pub driven : Timer → Source → Source
driven t s = cond (counts t) s Held

-- whether a source pulses at a prescaler; `rises` tells whether EC0 does
abbrev pub pulses : Source → ℕ → Bool → Bool
pulses (Divider n) p rises = pulse n p
pulses Event p rises = rises
pulses Held p rises = false

-- a timer after a tick, and whether it matched
abbrev pub timer_ticked : Bool → Timer → Timer × Bool
timer_ticked on t = (record t { count = cond on (counted 256 t.limit t.count) t.count }, on && t.count == t.limit)

-- a timer after k ticks without a match or a rise of EC0, from prescaler p
abbrev pub timer_moved : Source → ℕ → ℕ → Timer → Timer
timer_moved (Divider n) p k t = record t { count = run_on 256 n p k t.count }
timer_moved _ p k t = t

-- the ticks before it matches, from prescaler p, while EC0 does not rise
abbrev pub timer_still : Source → ℕ → Timer → Option ℕ
timer_still (Divider n) p t = Some (still_for 256 n p t.limit t.count)
timer_still _ p t = None

-- Timer 0 and Timer 1 of the pair, with what drives them
abbrev pub at : Timers → ℕ → Timer
at ts i = slice_index_or ts.pair i (timer 0 0 0)

abbrev pub of0 : Mode → Timers → Source
of0 mode ts = driven (at ts 0) (drive0 mode (source0 (at ts 0).control))

abbrev pub of1 : Mode → Timers → Source
of1 mode ts = driven (at ts 1) (drive1 mode (source1 (source0 (at ts 0).control) (at ts 1).control))

abbrev pub timers : Timer → Timer → Bool → Timers → Timers
timers t0 t1 comp ts = record { pair = slice_set (slice_set ts.pair 0 t0) 1 t1; comp = comp }

-- after a tick at a prescaler, with the matches; Timer 0's turns COMP over
abbrev pub timers_ticked : Mode → ℕ → Bool → Timers → Timers × Matches
timers_ticked mode p rises ts =
    let a : Timer × Bool = timer_ticked (pulses (of0 mode ts) p rises) (at ts 0) in
    let b : Timer × Bool = timer_ticked (pulses (of1 mode ts) p rises) (at ts 1) in
    (timers a.0 b.0 (flip a.1 ts.comp) ts, record { timer0 = a.1; timer1 = b.1 })

-- after k ticks without a match or a rise of EC0, from prescaler p
abbrev pub timers_moved : Mode → ℕ → ℕ → Timers → Timers
timers_moved mode p k ts = timers (timer_moved (of0 mode ts) p k (at ts 0)) (timer_moved (of1 mode ts) p k (at ts 1)) ts.comp ts

-- the ticks before a match
abbrev pub timers_still : Mode → ℕ → Timers → Option ℕ
timers_still mode p ts = sooner (timer_still (of0 mode ts) p (at ts 0)) (timer_still (of1 mode ts) p (at ts 1))

-- a write of TM; one with ST set clears the count
abbrev pub timer_set : ℕ → Timer → Timer
timer_set v t = record t { control = v; count = cond (v % 2 == 1) 0 t.count }

abbrev pub timers_reset : Timers
timers_reset = record { pair = timer_reset ∷ timer_reset ∷ []; comp = false }
