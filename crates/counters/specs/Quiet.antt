-- How long counters only run on.
use Rattle.std.specs.Prelude.{◌≡◌, ℕ, ◌+◌, ◌%◌, ◌<◌, false, Some, None, Option}
use Rattle.recorder.specs.declared.mode.Mode.{Mode}
use Rattle.counters.specs.declared.timer.Source.{Source}
use Rattle.counters.specs.declared.timer.Timer.{Timer}
use Rattle.counters.specs.declared.timer.Timers.{Timers}
use Rattle.counters.specs.declared.buzzer.Buzzer.{Buzzer}
use Rattle.counters.specs.declared.basic.BasicTimer.{BasicTimer}
use Rattle.counters.specs.Timers.{pulses, timer_ticked, timer_moved, timers_ticked, timers_moved}
use Rattle.counters.specs.Buzzers.{buzzer_ticked, buzzer_moved}
use Rattle.counters.specs.Basic.{basic_ticked, basic_moved}

-- the prescaler k ticks after p
abbrev pub prescaled : ℕ → ℕ → ℕ
prescaled p k = (p + k) % 2048

-- tick j is among the first r, where none is no bound
abbrev pub Within : ℕ → Option ℕ → Type 0
Within j None = Unit {0}
Within j (Some r) = j < r

-- the first r ticks, counted from 0, are quiet, and the one after them is not
pub record Longest (r : Option ℕ) (Quiet : ℕ → Type 0) : Type 0 where
  pub quiet : (j : ℕ) → Within j r → Quiet j
  pub ends : (j : ℕ) → r ≡ Some j → Quiet j → ⊥

-- j ticks after prescaler p, a tick only runs the counts on, and there is no match
abbrev pub TimerQuiet : Source → ℕ → Timer → ℕ → Type 0
TimerQuiet s p t j = timer_ticked (pulses s (prescaled p (j + 1)) false) (timer_moved s p j t) ≡ (timer_moved s p (j + 1) t, false)

abbrev pub TimersQuiet : Mode → ℕ → Timers → ℕ → Type 0
TimersQuiet mode p ts j = timers_ticked mode (prescaled p (j + 1)) false (timers_moved mode p j ts) ≡ (timers_moved mode p (j + 1) ts, record { timer0 = false; timer1 = false })

abbrev pub BuzzerQuiet : Mode → ℕ → Buzzer → ℕ → Type 0
BuzzerQuiet mode p b j = buzzer_ticked mode (prescaled p (j + 1)) (buzzer_moved mode p j b) ≡ buzzer_moved mode p (j + 1) b

abbrev pub BasicQuiet : Mode → ℕ → BasicTimer → ℕ → Type 0
BasicQuiet mode p b j = basic_ticked mode (prescaled p (j + 1)) (basic_moved mode p j b) ≡ (basic_moved mode p (j + 1) b, record { passed = false; watchdog = false })
