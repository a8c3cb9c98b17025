-- Bounds on ticks.
use Rattle.std.specs.Prelude.{ℕ, min, Some, None, Option}

-- the sooner of two ticks, or the fewer of two numbers of ticks, where none is no bound
abbrev pub sooner : Option ℕ → Option ℕ → Option ℕ
sooner None q = q
sooner (Some u) None = Some u
sooner (Some u) (Some v) = Some (min u v)
