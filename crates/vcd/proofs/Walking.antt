-- The ticks at which stretches begin, one after the other.
use Rattle.std.proofs.Common.{◌≡◌, ℕ, zero, suc, ◌+◌, ◌<◌, ◌≤◌, Bool, cond, eqb, List, [], ◌∷◌, length, Option, sym, refl, ap, ◌∙◌, inl, inr, arith}
use Rattle.std.proofs.lemmas.Bool.{cond_both, eq-eqb, lt-ltb, le-ltb, cases_lt}
use Rattle.recorder.specs.declared.stretch.Stretch.{Stretch}
use Rattle.recorder.specs.declared.pin_sample.PinSample.{PinSample}
use Rattle.recorder.specs.declared.mode.Mode.{Mode}
use Rattle.vcd.specs.declared.walk.Change.{Change}
use Rattle.vcd.specs.Changes.{next_or, sample_at, past, shown_at, next_tick, changes}

module _ {X : Type 0} where
  -- without the first, if it begins at the tick
  past_same : (t : ℕ) (s : Stretch X) (ss : List (Stretch X)) → s.offset ≡ t → past t (s ∷ ss) ≡ ss
  past_same t s ss e = ap (λ (b : Bool). cond b ss (s ∷ ss)) (eq-eqb s.offset t e)

  past_le : (t : ℕ) (ss : List (Stretch X)) → length (past t ss) ≤ length ss
  past_le t [] = omega arith
  past_le t (s ∷ ss) =
      cond_both (eqb s.offset t) ss (s ∷ ss) (λ ys. length ys ≤ suc (length ss)) (λ _. omega arith) (λ _. omega arith)

  past_lt : (end t : ℕ) (ss : List (Stretch X)) → t ≡ next_or end ss → t < end → length (past t ss) < length ss
  past_lt end t [] e h = absurd (omega arith)
  past_lt end t (s ∷ ss) e h = let q = ap length (past_same t s ss (sym e)) in omega arith

-- each turn leaves fewer stretches
fewer : (end t : ℕ) (ps : List (Stretch PinSample)) (ms : List (Stretch Mode)) → t ≡ next_tick end ps ms → t < end → length (past t ps) + length (past t ms) < length ps + length ms
fewer end t ps ms e h =
    let a = past_le t ps in
    let b = past_le t ms in
    elim (cases_lt (next_or end ps) (next_or end ms)) [
      | inl lo ↦ (let q : t ≡ next_or end ps = omega arith in omega (arith, past_lt end t ps q h))
      | inr hi ↦ (let q : t ≡ next_or end ms = omega arith in omega (arith, past_lt end t ms q h))
    ]

-- the change at tick t
abbrev at : ℕ → PinSample → List (Stretch PinSample) → List (Stretch Mode) → Change
at t p ps ms = record { tick = t; before = p; shown = shown_at t p ps; mode = sample_at t ms }

-- what is left before a tick at which a stretch begins, and at the end
goes_on : (n end t : ℕ) (p : PinSample) (ps : List (Stretch PinSample)) (ms : List (Stretch Mode)) → t ≡ next_tick end ps ms → t < end → changes (suc n) end p ps ms ≡ at t p ps ms ∷ changes n end (shown_at t p ps) (past t ps) (past t ms)
unfolding changes
goes_on n end t p ps ms e h =
    let u = next_tick end ps ms in
    let G : ℕ → List Change = λ v. at v p ps ms ∷ changes n end (shown_at v p ps) (past v ps) (past v ms) in
    let k : u < end = omega arith in
    ap (λ (b : Bool). cond b (G u) []) (lt-ltb u end k) ∙ ap G (sym e)

pub stops : (n end t : ℕ) (p : PinSample) (ps : List (Stretch PinSample)) (ms : List (Stretch Mode)) → t ≡ next_tick end ps ms → end ≤ t → changes n end p ps ms ≡ []
unfolding changes
stops zero end t p ps ms e h = refl
stops (suc n) end t p ps ms e h =
    let u = next_tick end ps ms in
    let G : List Change = at u p ps ms ∷ changes n end (shown_at u p ps) (past u ps) (past u ms) in
    let k : end ≤ u = omega arith in
    ap (λ (b : Bool). cond b G []) (le-ltb u end k)

-- as many turns as there are stretches are enough
enough : (n m end : ℕ) (p : PinSample) (ps : List (Stretch PinSample)) (ms : List (Stretch Mode)) → length ps + length ms ≤ n → length ps + length ms ≤ m → changes n end p ps ms ≡ changes m end p ps ms
enough zero zero end p ps ms h k = refl
enough zero (suc m) end p ps ms h k =
    elim (cases_lt (next_tick end ps ms) end) [
      | inl lo ↦ absurd (omega (arith, fewer end (next_tick end ps ms) ps ms refl lo))
      | inr hi ↦ stops zero end (next_tick end ps ms) p ps ms refl hi ∙ sym (stops (suc m) end (next_tick end ps ms) p ps ms refl hi)
    ]
enough (suc n) zero end p ps ms h k =
    elim (cases_lt (next_tick end ps ms) end) [
      | inl lo ↦ absurd (omega (arith, fewer end (next_tick end ps ms) ps ms refl lo))
      | inr hi ↦ stops (suc n) end (next_tick end ps ms) p ps ms refl hi ∙ sym (stops zero end (next_tick end ps ms) p ps ms refl hi)
    ]
enough (suc n) (suc m) end p ps ms h k =
    let t = next_tick end ps ms in
    elim (cases_lt t end) [
      | inl lo ↦
          goes_on n end t p ps ms refl lo
          ∙ ap (λ cs. at t p ps ms ∷ cs) (enough n m end (shown_at t p ps) (past t ps) (past t ms) (omega (arith, fewer end t ps ms refl lo)) (omega (arith, fewer end t ps ms refl lo)))
          ∙ sym (goes_on m end t p ps ms refl lo)
      | inr hi ↦ stops (suc n) end t p ps ms refl hi ∙ sym (stops (suc m) end t p ps ms refl hi)
    ]

-- one turn: the change, and what is left
module _ (end t : ℕ) (p : PinSample) (ps : List (Stretch PinSample)) (ms : List (Stretch Mode)) (next : t ≡ next_tick end ps ms) (early : t < end) where
  turn : (n : ℕ) → length ps + length ms ≤ n → changes n end p ps ms ≡ at t p ps ms ∷ changes (length (past t ps) + length (past t ms)) end (shown_at t p ps) (past t ps) (past t ms)
  turn zero h = absurd (omega (arith, fewer end t ps ms next early))
  turn (suc n) h =
      goes_on n end t p ps ms next early
      ∙ ap (λ cs. at t p ps ms ∷ cs) (enough n (length (past t ps) + length (past t ms)) end (shown_at t p ps) (past t ps) (past t ms) (omega (arith, fewer end t ps ms next early)) (omega arith))

  pub turned : (q : PinSample) (o : Option Mode) (qs : List (Stretch PinSample)) (ns : List (Stretch Mode)) → q ≡ shown_at t p ps → o ≡ sample_at t ms → qs ≡ past t ps → ns ≡ past t ms →
      changes (length ps + length ms) end p ps ms ≡ record { tick = t; before = p; shown = q; mode = o } ∷ changes (length qs + length ns) end q qs ns
  turned q o qs ns eq eo eqs ens = let e = turn (length ps + length ms) (omega arith) in cc
