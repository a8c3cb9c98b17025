-- A chart: stretches in the places of a list, of which the first n are counted.
use Rattle.std.specs.Prelude.{◌≡◌, ℕ, zero, suc, ◌+◌, ◌-◌, ◌^◌, ◌≤◌, Bool, cond, ◌&&◌, ◌||◌, List, length, Some, None, Option, ◌==◌, nat_le, nat_lt, slice_index_or, slice_set}
use Rattle.recorder.specs.declared.stretch.Stretch.{Stretch}
use Rattle.recorder.specs.Kinds.{Kind}

-- k ticks of a sample from tick t on
abbrev pub stretch : {X : Type 0} → ℕ → ℕ → X → Stretch X
stretch t k x = record { offset = t; length = k; sample = x }

abbrev pub longer : {X : Type 0} → ℕ → Stretch X → Stretch X
longer k c = record c { length = c.length + k }

-- the tick after its last
abbrev pub end : {X : Type 0} → Stretch X → ℕ
end c = c.offset + c.length

module _ {X : Type 0} (K : Kind X) where
  -- what a place of the chart holds
  abbrev pub place : List (Stretch X) → ℕ → Stretch X
  place cs i = slice_index_or cs i (stretch 0 0 K.none)

  -- the tick after the last counted stretch
  abbrev pub end_of : List (Stretch X) → ℕ → ℕ
  end_of cs n = cond (n == 0) 0 (end (place cs (n - 1)))

  -- the chart has n places, and the last counted stretch ends at tick t
  abbrev pub fitting : List (Stretch X) → ℕ → ℕ → Bool
  fitting cs n t = nat_le n (length cs) && (n == 0 || end_of cs n == t)

  -- the same as a fact, of a chart whose stretches are counted if a tick was played
  pub record Fit (cs : List (Stretch X)) (n t : ℕ) : Type 0 where
    pub places : n ≤ length cs
    pub ends : end_of cs n ≡ t

  -- the chart has n places, and k more ticks end within 64 bits
  abbrev pub roomy : List (Stretch X) → ℕ → ℕ → Bool
  roomy cs n k = nat_le n (length cs) && nat_lt (end_of cs n + k) (2 ^ 64)

  -- the last counted stretch has this sample
  abbrev pub goes_on : List (Stretch X) → ℕ → X → Bool
  goes_on cs n x = nat_lt 0 n && K.like (place cs (n - 1)).sample x

  -- k more ticks of a sample: the new count, none where there is no place, and the chart
  unfoldable pub appended : List (Stretch X) → ℕ → ℕ → X → Option ℕ × List (Stretch X)
  appended cs n k x =
      cond (k == 0) (Some n, cs)
      (cond (roomy cs n k)
      (cond (goes_on cs n x) (Some n, slice_set cs (n - 1) (longer k (place cs (n - 1))))
      (cond (nat_lt n (length cs)) (Some (n + 1), slice_set cs n (stretch (end_of cs n) k x)) (None, cs)))
      (None, cs))

  -- k more ticks after others that found a place
  abbrev then_more : ℕ → X → Option ℕ → List (Stretch X) → Option ℕ × List (Stretch X)
  then_more k x (Some n) cs = appended cs n k x
  then_more k x None cs = (None, cs)

  abbrev pub and_then : ℕ → X → Option ℕ × List (Stretch X) → Option ℕ × List (Stretch X)
  and_then k x p = then_more k x p.0 p.1

  -- one tick of a sample, k times
  abbrev pub one_by_one : List (Stretch X) → ℕ → ℕ → X → Option ℕ × List (Stretch X)
  one_by_one cs n zero x = (Some n, cs)
  one_by_one cs n (suc k) x = and_then 1 x (one_by_one cs n k x)
