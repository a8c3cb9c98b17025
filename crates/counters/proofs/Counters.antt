-- A counter modulo M on a divider 2^s, for every M and s.
use Rattle.std.proofs.Common.{◌≡◌, ℕ, ◌+◌, ◌-◌, ◌%◌, ◌^◌, ◌<◌, ◌≤◌, Bool, true, false, cond, ◌&&◌, eqb, ◌⊎◌, sym, refl, ap, add-zero, ◌∙◌, inl, inr, mod-eq_of_lt, arith}
use native.Mathlib.Nat.{mod-eq-sub-mod, mod-add-mod}
use Rattle.std.proofs.lemmas.Bool.{eqb-true, eqb-false, eq-eqb, ne_eqb, and_from, cases_lt}
use Rattle.counters.specs.Counting.{pulse, counted, pulses_in, run_on, gap, still_for}
use Rattle.counters.specs.Quiet.{prescaled}
use Rattle.counters.proofs.Dividers.{more_pulse, same_pulse, wrapped, pulses_before, pulse_after}

-- no ticks leave a count
pub run_none : (M c : ℕ) → c < M → (s p : ℕ) → run_on M s p 0 c ≡ c
run_none M c cb s p =
    let e : c + pulses_in s p 0 ≡ c = rw add-zero (omega arith) in
    ap (λ n. n % M) e ∙ mod-eq_of_lt cb

module _ (M c l : ℕ) (cb : c < M) (lb : l < M) where
  -- the gap, without remainders
  gap_is : ((c ≤ l) × (gap M l c ≡ l - c)) ⊎ ((l < c) × (gap M l c ≡ l + M - c))
  gap_is =
      let m : c % M ≡ c = mod-eq_of_lt cb in
      let e : gap M l c ≡ (l + M - c) % M = ap (λ n. (l + M - n) % M) m in
      elim (cases_lt l c) [
        | inl h ↦ inr (h, e ∙ mod-eq_of_lt (omega arith))
        | inr h ↦ inl (h, e ∙ mod-eq-sub-mod (omega arith) ∙ mod-eq_of_lt (omega arith) ∙ omega arith)
      ]

  -- before the gap has passed the count is not at its limit, and then it is
  unhit : (q : ℕ) → q < gap M l c → (c + q) % M ≡ l → ⊥
  unhit q few e =
      elim (cases_lt (c + q) M) [
        | inl small ↦ (let s : (c + q) % M ≡ c + q = mod-eq_of_lt small in omega (arith, gap_is))
        | inr big ↦ (let s : (c + q) % M ≡ c + q - M = mod-eq-sub-mod big ∙ mod-eq_of_lt (omega (arith, gap_is)) in omega (arith, gap_is))
      ]

  hit : (c + gap M l c) % M ≡ l
  hit =
      elim gap_is [
        | inl h ↦ ap (λ n. (c + n) % M) h.1 ∙ mod-eq_of_lt (omega (arith, h.0)) ∙ omega (arith, h.0)
        | inr h ↦ ap (λ n. (c + n) % M) h.1 ∙ mod-eq-sub-mod (omega (arith, h.0)) ∙ mod-eq_of_lt (omega (arith, h.0)) ∙ omega (arith, h.0)
      ]

  module _ (s p : ℕ) (sb : s ≤ 11) where
    sum : (j : ℕ) → prescaled p (j + 1) % 2 ^ s ≡ (p + j + 1) % 2 ^ s
    sum j = wrapped s (p + (j + 1)) sb ∙ (let e : p + (j + 1) ≡ p + j + 1 = omega arith in ap (λ n. n % 2 ^ s) e)

    -- before the match a tick only runs the count on
    pub no_match : (j : ℕ) → j < still_for M s p l c → (pulse s (prescaled p (j + 1)) && eqb (run_on M s p j c) l) ≡ false
    no_match j h = go (pulse s (prescaled p (j + 1))) refl
      where
        go : (b : Bool) → pulse s (prescaled p (j + 1)) ≡ b → (b && eqb (run_on M s p j c) l) ≡ false
        go false e = refl
        go true e =
            let one = more_pulse s p j (sym (sum j) ∙ eqb-true _ _ e) in
            let few = pulses_before s p (j + 1) (gap M l c) (omega arith) in
            ne_eqb _ _ (unhit (pulses_in s p j) (omega arith))

    pub runs_on : (j : ℕ) → j < still_for M s p l c → cond (pulse s (prescaled p (j + 1))) (counted M l (run_on M s p j c)) (run_on M s p j c) ≡ run_on M s p (j + 1) c
    runs_on j h = go (pulse s (prescaled p (j + 1))) refl (no_match j h)
      where
        go : (b : Bool) → pulse s (prescaled p (j + 1)) ≡ b → (b && eqb (run_on M s p j c) l) ≡ false → cond b (counted M l (run_on M s p j c)) (run_on M s p j c) ≡ run_on M s p (j + 1) c
        go true e off =
            let one = more_pulse s p j (sym (sum j) ∙ eqb-true _ _ e) in
            let a : c + pulses_in s p j + 1 ≡ c + pulses_in s p (j + 1) = omega arith in
            ap (λ (v : Bool). cond v 0 ((run_on M s p j c + 1) % M)) off ∙ mod-add-mod (c + pulses_in s p j) M 1 ∙ ap (λ n. n % M) a
        go false e off = ap (λ n. (c + n) % M) (sym (same_pulse s p j (λ z. eqb-false _ _ e (sum j ∙ z))))

    -- and the tick after them matches
    pub matches : (j : ℕ) → j ≡ still_for M s p l c → (pulse s (prescaled p (j + 1)) && eqb (run_on M s p j c) l) ≡ true
    matches j h =
        let after = pulse_after s p (gap M l c) in
        let on : (p + j + 1) % 2 ^ s ≡ 0 = ap (λ i. (p + i + 1) % 2 ^ s) h ∙ after.1 in
        and_from _ _ (eq-eqb _ _ (sum j ∙ on)) (eq-eqb _ _ (ap (λ i. (c + pulses_in s p i) % M) h ∙ ap (λ n. (c + n) % M) after.0 ∙ hit))
