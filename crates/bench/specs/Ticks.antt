-- One tick of a chip, from its machine's three steps.
use Rattle.std.specs.Prelude.{ℕ, ◌+◌, ◌-◌, List, Ok, Result}
use Rattle.faults.specs.declared.Fault.{Fault}
use Rattle.bus.specs.Outcomes.{bind}
use Rattle.machine.specs.declared.state.Machine.{Machine}
use Rattle.machine.specs.Tick.{begun, pins_of, finished}
use Rattle.bench.specs.declared.held.Samples.{Samples}
use Rattle.bench.specs.declared.held.Moment.{Moment}

abbrev pub moment : Machine → ℕ → Moment
moment m t = record { machine = m; tick = t }

-- the pin sample before the host's word, and the mode
abbrev pub samples_of : Machine → ℕ → Samples
samples_of m word = record { pins = pins_of m word; mode = m.parts.mode }

-- a tick between the host's words of the tick before and of this one: the chip acts, its samples are taken, its counters run
unfoldable pub tick_between : List ℕ → ℕ → ℕ → Moment → Result (Moment × Samples) Fault
tick_between image before word s =
    bind (begun s.machine image word) (λ m. Ok (moment (finished m image before word) (s.tick + 1), samples_of m word))

-- a tick before a host; at tick 0, where 0 - 1 is 0, the word before is its own, and no edge exists
abbrev pub ticked : List ℕ → (ℕ → ℕ) → Moment → Result (Moment × Samples) Fault
ticked image host s = tick_between image (host (s.tick - 1)) (host s.tick) s
