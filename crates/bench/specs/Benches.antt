-- A chip and its charts while a run call lasts.
use Rattle.std.specs.Prelude.{◌≡◌, ℕ, ◌+◌, ◌^◌, ◌≤◌, List}
use Rattle.bench.specs.declared.bench.Bench.{Bench}
use Rattle.bench.specs.declared.held.Held.{Held}
use Rattle.bench.specs.Charting.{Charts, both}
use Rattle.bench.specs.declared.run.Run.{Run}
use Rattle.bench.specs.Keeps.{Whole, Ready}
use Rattle.bench.specs.Runs.{answer, ran}

abbrev pub charts_of : Bench → Charts
charts_of b = both b.pins.now b.modes.now

-- the record and the charts
abbrev pub state : Bench → Held × Charts
state b = (b.held, charts_of b)

abbrev pub IsReady : Bench → Type 0
IsReady b = Ready b.held (charts_of b)

-- a grant that was accepted
pub record Accepted (b : Bench) (grant : ℕ) : Type 0 where
  pub time : b.held.moment.tick + grant ≤ 2 ^ 48
  pub ready : IsReady b

-- the charts that were lent are still there, whatever stands in them; it speaks of two states, so no ghost field says it
pub record Lent (old new : Bench) : Type 0 where
  pub pins : new.pins.ghost_name ≡ old.pins.ghost_name
  pub modes : new.modes.ghost_name ≡ old.modes.ghost_name

-- what a run of an accepted grant answers and leaves
pub record Plays (image : List ℕ) (host : ℕ → ℕ) (grant : ℕ) (old : Bench) (run : Run) (new : Bench) : Type 0 where
  pub plays : answer run.ticks run.fault new.held (charts_of new) ≡ ran image host grant 0 old.held (charts_of old)
  pub whole : Whole new.held
  pub lent : Lent old new
