-- Charts that only `append` has filled, and what they show.
use Rattle.std.specs.Prelude.{◌≡◌, ℕ, ◌+◌, ◌^◌, ◌<◌, ◌≤◌, List, length, IfSome, Some, Option, ◌≢◌}
use Rattle.recorder.specs.declared.stretch.Stretch.{Stretch}
use Rattle.recorder.specs.Kinds.{Kind}
use Rattle.recorder.specs.Charts.{end, place, end_of, appended, one_by_one}

-- From an empty count, the chart's n counted stretches were filled by `append` alone, with t ticks; s has the sample that was added for each.
pub data Recorded {X : Type 0} (K : Kind X) (s : ℕ → X) : List (Stretch X) → ℕ → ℕ → Type 0 where
  began : (cs : List (Stretch X)) → Recorded K s cs 0 0
  added : {cs : List (Stretch X)} {n t : ℕ} (k : ℕ) (x : X) (m : ℕ) (cs' : List (Stretch X)) → Recorded K s cs n t → ((u : ℕ) → t ≤ u → u < t + k → s u ≡ x) → appended K cs n k x ≡ (Some m, cs') → Recorded K s cs' m (t + k)

-- a stretch has tick u
abbrev pub Covers : {X : Type 0} → Stretch X → ℕ → Type 0
Covers c u = (c.offset ≤ u) × (u < end c)

-- of the n counted stretches, one and no other has tick u, and it shows the sample x
pub record Covered {X : Type 0} (at : ℕ → Stretch X) (n u : ℕ) (x : X) : Type 0 where
  pub number : ℕ
  pub counted : number < n
  pub covers : Covers (at number) u
  pub only : (k : ℕ) → k < n → Covers (at k) u → k ≡ number
  pub shows : (at number).sample ≡ x

-- the n counted stretches show the samples s of ticks 0 to t - 1
pub record Shows {X : Type 0} (K : Kind X) (s : ℕ → X) (cs : List (Stretch X)) (n t : ℕ) : Type 0 where
  pub places : n ≤ length cs
  -- they lie end to end from tick 0 to tick t
  pub first : 0 < n → (place K cs 0).offset ≡ 0
  pub touch : (k : ℕ) → k + 1 < n → (place K cs (k + 1)).offset ≡ end (place K cs k)
  pub last : end_of K cs n ≡ t
  -- neighbours differ
  pub differ : (k : ℕ) → k + 1 < n → (place K cs k).sample ≢ (place K cs (k + 1)).sample
  -- each tick lies in just one of them, which shows its sample
  pub one : (u : ℕ) → u < t → Covered (place K cs) n u (s u)

pub record Told {X : Type 0} (K : Kind X) (s : ℕ → X) (cs : List (Stretch X)) (n t : ℕ) : Type 0 where
  pub since : Recorded K s cs n t
  pub shown : Shows K s cs n t

-- what is promised of k more ticks of a sample, beside the equation for them
pub record Adds {X : Type 0} (K : Kind X) (cs : List (Stretch X)) (n k : ℕ) (x : X) (r : Option ℕ) (cs' : List (Stretch X)) : Type 0 where
  -- they are one tick k times
  pub repeated : end_of K cs n + k < 2 ^ 64 → (r, cs') ≡ one_by_one K cs n k x
  -- a chart that only `append` had filled still is such a one, and shows what was added
  pub history : (s : ℕ → X) (t : ℕ) → Recorded K s cs n t → ((u : ℕ) → t ≤ u → u < t + k → s u ≡ x) → IfSome r (λ m. Told K s cs' m (t + k))
