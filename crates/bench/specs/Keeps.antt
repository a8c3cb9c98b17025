-- What every chip keeps.
use Rattle.std.specs.Prelude.{ℕ, ◌^◌, ◌<◌, ◌≤◌}
use Rattle.recorder.specs.Samples.{pin_kind, mode_kind}
use Rattle.recorder.specs.Charts.{Fit}
use Rattle.machine.specs.declared.state.Machine.{Machine}
use Rattle.machine.specs.Quiet.{Sound}
use Rattle.bench.specs.declared.held.Held.{Held}
use Rattle.bench.specs.Charting.{Charts}

-- stretches are counted exactly when a tick was played
abbrev pub Counts : ℕ → ℕ → Type 0
Counts count tick = (0 < count → 0 < tick) × (0 < tick → 0 < count)

-- a sound machine that owes at most 16 ticks
pub record Bounded (m : Machine) : Type 0 where
  pub sound : Sound m
  pub owed : m.owed ≤ 16

pub record Whole (h : Held) : Type 0 where
  pub machine : Bounded h.moment.machine
  pub tick : h.moment.tick ≤ 2 ^ 48
  pub pins : Counts h.stretches.pins h.moment.tick
  pub modes : Counts h.stretches.modes h.moment.tick

-- the chip is whole, and both charts fit it
pub record Ready (h : Held) (c : Charts) : Type 0 where
  pub whole : Whole h
  pub pins : Fit pin_kind c.pins h.stretches.pins h.moment.tick
  pub modes : Fit mode_kind c.modes h.stretches.modes h.moment.tick
