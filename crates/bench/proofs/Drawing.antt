-- The chart of a list of samples, for any kind of sample.
use Rattle.std.proofs.Common.{◌≡◌, ℕ, zero, suc, ◌+◌, ◌-◌, ◌^◌, ◌<◌, ◌≤◌, Bool, true, false, cond, ◌&&◌, eqb, ltb, leb, List, [], ◌∷◌, length, take, set, Some, None, Option, sym, refl, ap, ◌∙◌, subst, inl, inr, arith, get_or-set_other}
use Rattle.std.proofs.lemmas.List.{get_or-set_same, take_more_same}
use Rattle.std.proofs.lemmas.Bool.{eq-eqb, ne_eqb, le-leb, lt-leb, lt-ltb, le-ltb, cases_eq, and_left, both_ways}
use Rattle.recorder.specs.declared.stretch.Stretch.{Stretch}
use Rattle.recorder.specs.Kinds.{Kind}
use Rattle.recorder.specs.Charts.{stretch, longer, place, end_of, Fit, goes_on, appended}
use Rattle.recorder.proofs.Appending.{none, grows, begins, unfit, full, way, room_true, placed}
use Rattle.bench.specs.Model.{same, rows}

abbrev Answer : Type 0 → Type 0
Answer X = Option ℕ × List (Stretch X)

module _ {X : Type 0} (K : Kind X) where
  -- the k-th stretch of a list of samples, the newest first
  abbrev pub drawn : List X → ℕ → Stretch X
  drawn [] k = stretch 0 0 K.none
  drawn (x ∷ xs) k =
      cond (same K x xs)
      (cond (eqb (k + 1) (rows K xs)) (longer 1 (drawn xs k)) (drawn xs k))
      (cond (eqb k (rows K xs)) (stretch (length xs) 1 x) (drawn xs k))

  rows_some : (x : X) (xs : List X) → 0 < rows K (x ∷ xs)
  rows_some x [] = omega arith
  rows_some x (y ∷ ys) = go (K.like y x) (rows_some y ys)
    where
      go : (b : Bool) → 0 < rows K (y ∷ ys) → 0 < cond b (rows K (y ∷ ys)) (rows K (y ∷ ys) + 1)
      go true h = h
      go false h = omega arith

  rows_as : (x : X) (xs : List X) (b : Bool) → same K x xs ≡ b → rows K (x ∷ xs) ≡ cond b (rows K xs) (rows K xs + 1)
  rows_as x xs b e = ap (λ (v : Bool). cond v (rows K xs) (rows K xs + 1)) e

  drawn_as : (x : X) (xs : List X) (b : Bool) → same K x xs ≡ b → (k : ℕ) → drawn (x ∷ xs) k ≡ cond b (cond (eqb (k + 1) (rows K xs)) (longer 1 (drawn xs k)) (drawn xs k)) (cond (eqb k (rows K xs)) (stretch (length xs) 1 x) (drawn xs k))
  drawn_as x xs b e k = ap (λ (v : Bool). cond v (cond (eqb (k + 1) (rows K xs)) (longer 1 (drawn xs k)) (drawn xs k)) (cond (eqb k (rows K xs)) (stretch (length xs) 1 x) (drawn xs k))) e

  -- how a stretch of the longer list comes from the shorter one's
  drawn_last : (x : X) (xs : List X) (k : ℕ) → same K x xs ≡ true → k + 1 ≡ rows K xs → drawn (x ∷ xs) k ≡ longer 1 (drawn xs k)
  drawn_last x xs k e l = drawn_as x xs true e k ∙ ap (λ (v : Bool). cond v (longer 1 (drawn xs k)) (drawn xs k)) (eq-eqb _ _ l)

  drawn_older : (x : X) (xs : List X) (k : ℕ) → same K x xs ≡ true → (k + 1 ≡ rows K xs → ⊥) → drawn (x ∷ xs) k ≡ drawn xs k
  drawn_older x xs k e l = drawn_as x xs true e k ∙ ap (λ (v : Bool). cond v (longer 1 (drawn xs k)) (drawn xs k)) (ne_eqb _ _ l)

  drawn_new : (x : X) (xs : List X) (k : ℕ) → same K x xs ≡ false → k ≡ rows K xs → drawn (x ∷ xs) k ≡ stretch (length xs) 1 x
  drawn_new x xs k e l = drawn_as x xs false e k ∙ ap (λ (v : Bool). cond v (stretch (length xs) 1 x) (drawn xs k)) (eq-eqb _ _ l)

  drawn_old : (x : X) (xs : List X) (k : ℕ) → same K x xs ≡ false → (k ≡ rows K xs → ⊥) → drawn (x ∷ xs) k ≡ drawn xs k
  drawn_old x xs k e l = drawn_as x xs false e k ∙ ap (λ (v : Bool). cond v (stretch (length xs) 1 x) (drawn xs k)) (ne_eqb _ _ l)

  -- the last stretch shows the newest sample
  drawn_shows : (x : X) (xs : List X) (k : ℕ) → k + 1 ≡ rows K (x ∷ xs) → (drawn (x ∷ xs) k).sample ≡ x
  drawn_shows x [] k e = ap (λ (s : Stretch X). s.sample) (drawn_new x [] k refl (omega arith))
  drawn_shows x (y ∷ ys) k e = go (K.like y x) refl (λ j l. drawn_shows y ys j l)
    where
      go : (b : Bool) → K.like y x ≡ b → ((j : ℕ) → j + 1 ≡ rows K (y ∷ ys) → (drawn (y ∷ ys) j).sample ≡ y) → (drawn (x ∷ (y ∷ ys)) k).sample ≡ x
      go true b ih =
          let l : k + 1 ≡ rows K (y ∷ ys) = e ∙ rows_as x (y ∷ ys) true b in
          ap (λ (s : Stretch X). s.sample) (drawn_last x (y ∷ ys) k b l) ∙ ih k l ∙ (K.exact y x).0 b
      go false b ih =
          let l = rows_as x (y ∷ ys) false b in
          ap (λ (s : Stretch X). s.sample) (drawn_new x (y ∷ ys) k b (omega arith))

  -- a chart of `places` places whose counted stretches are those of a list of n samples
  pub record Draws (places n count : ℕ) (chart : List (Stretch X)) (xs : List X) : Type 0 where
    pub counts : rows K xs ≡ count
    pub long : length xs ≡ n
    pub size : length chart ≡ places
    pub fit : Fit K chart count n
    pub draws : (k : ℕ) → k < count → place K chart k ≡ drawn xs k

  pub draws_none : (chart : List (Stretch X)) (places : ℕ) → length chart ≡ places → Draws places 0 0 chart []
  draws_none chart places size = record { counts = refl; long = refl; size = size; fit = record { places = omega arith; ends = refl }; draws = λ k h. absurd (omega arith) }

  -- a sample is alike to the last counted stretch's exactly where it is alike to the newest
  goes_same : (count : ℕ) (chart : List (Stretch X)) (xs : List X) (x : X) → rows K xs ≡ count → ((k : ℕ) → k < count → place K chart k ≡ drawn xs k) → goes_on K chart count x ≡ same K x xs
  goes_same count chart [] x c d = and_left (ltb 0 count) _ (le-ltb 0 count (omega arith))
  goes_same count chart (y ∷ ys) x c d =
      let some = rows_some y ys in
      let shows : (place K chart (count - 1)).sample ≡ y = ap (λ (s : Stretch X). s.sample) (d (count - 1) (omega arith)) ∙ drawn_shows y ys (count - 1) (omega arith) in
      ap (λ (b : Bool). b && K.like (place K chart (count - 1)).sample x) (lt-ltb 0 count (omega arith)) ∙ ap (λ (z : X). K.like z x) shows

  -- one more sample: recorder and list agree on whether there is a place, and on what is there then
  pub record OneMore (places n : ℕ) (xs : List X) (x : X) (a : Answer X) : Type 0 where
    pub room : (m : ℕ) → a.0 ≡ Some m → (leb (rows K (x ∷ xs)) places ≡ true) × Draws places (suc n) m a.1 (x ∷ xs)
    pub none : a.0 ≡ None → leb (rows K (x ∷ xs)) places ≡ false

  module _ (places n count : ℕ) (chart : List (Stretch X)) (xs : List X) (x : X) (d : Draws places n count chart xs) where
    alike : (b : Bool) → goes_on K chart count x ≡ b → same K x xs ≡ b
    alike b g = sym (goes_same count chart xs x d.counts d.draws) ∙ g

    -- the counts and the fit of the chart that was answered
    found : (m : ℕ) (ds : List (Stretch X)) → appended K chart count 1 x ≡ (Some m, ds) → rows K (x ∷ xs) ≡ m → ((k : ℕ) → k < m → place K ds k ≡ drawn (x ∷ xs) k) → OneMore places n xs x (Some m, ds)
    found m ds e counts draws =
        let p = placed K chart count 1 n x m ds d.fit (omega arith) e in
        let size = p.size ∙ d.size in
        let fit = p.fit in
        let few = fit.places in
        let next : n + 1 ≡ suc n = omega arith in
        let D : Draws places (suc n) m ds (x ∷ xs) = record { counts = counts; long = ap suc d.long; size = size; fit = subst (λ (t : ℕ). Fit K ds m t) next fit; draws = draws } in
        record {
          room = λ j q. (let i : m ≡ j = cc in (le-leb _ _ (omega arith), subst (λ (v : ℕ). Draws places (suc n) v ds (x ∷ xs)) i D));
          none = λ q. cc;
        }

    grown : 0 < count → appended K chart count 1 x ≡ (Some count, set chart (count - 1) (longer 1 (place K chart (count - 1)))) → same K x xs ≡ true → OneMore places n xs x (Some count, set chart (count - 1) (longer 1 (place K chart (count - 1))))
    grown some e b =
        found count _ e (rows_as x xs true b ∙ d.counts) (λ k h.
        elim (cases_eq (k + 1) count) [
          | inl l ↦
              (let i : count - 1 ≡ k = omega arith in
              let few = d.fit.places in
              ap (λ (j : ℕ). place K (set chart j (longer 1 (place K chart j))) k) i ∙ get_or-set_same chart k (longer 1 (place K chart k)) (stretch 0 0 K.none) (omega arith) ∙ ap (longer 1) (d.draws k h) ∙ sym (drawn_last x xs k b (l ∙ sym d.counts)))
          | inr l ↦ get_or-set_other chart (count - 1) k _ (stretch 0 0 K.none) (λ q. l (omega arith)) ∙ d.draws k h ∙ sym (drawn_older x xs k b (λ q. l (q ∙ d.counts)))
        ])

    begun : count < length chart → appended K chart count 1 x ≡ (Some (count + 1), set chart count (stretch (end_of K chart count) 1 x)) → same K x xs ≡ false → OneMore places n xs x (Some (count + 1), set chart count (stretch (end_of K chart count) 1 x))
    begun room e b =
        let when : end_of K chart count ≡ length xs = d.fit.ends ∙ sym d.long in
        found (count + 1) _ e (rows_as x xs false b ∙ ap (λ (v : ℕ). v + 1) d.counts) (λ k h.
        elim (cases_eq k count) [
          | inl l ↦ ap (place K (set chart count (stretch (end_of K chart count) 1 x))) l ∙ get_or-set_same chart count (stretch (end_of K chart count) 1 x) (stretch 0 0 K.none) room ∙ ap (λ (v : ℕ). stretch v 1 x) when ∙ sym (drawn_new x xs k b (l ∙ sym d.counts))
          | inr l ↦ get_or-set_other chart count k _ (stretch 0 0 K.none) l ∙ d.draws k (omega arith) ∙ sym (drawn_old x xs k b (λ q. l (q ∙ d.counts)))
        ])

    over : length chart ≤ count → same K x xs ≡ false → OneMore places n xs x (None, chart)
    over l b =
        let counts = rows_as x xs false b ∙ ap (λ (v : ℕ). v + 1) d.counts in
        let size = d.size in
        record { room = λ m q. cc; none = λ _. lt-leb _ _ (omega arith) }

    pub one_more : n + 1 ≤ 2 ^ 48 → OneMore places n xs x (appended K chart count 1 x)
    one_more early =
        elim (way K chart count 1 x) [
          | none z q ↦ absurd (omega arith)
          | grows h r g q ↦ (let b = alike true g in to q (grown (some b) q b))
          | begins h r g l q ↦ to q (begun l q (alike false g))
          | unfit h r q ↦ (let ends = d.fit.ends in absurd (both_ways _ r (room_true K chart count 1 d.fit.places (omega arith))))
          | full h g l p q ↦ to q (over l (alike false g))
        ]
      where
        to : {a b : Answer X} → a ≡ b → OneMore places n xs x b → OneMore places n xs x a
        to e h = subst (λ (v : Answer X). OneMore places n xs x v) (sym e) h

        some : same K x xs ≡ true → 0 < count
        some b = counted xs b d.counts
          where
            counted : (ys : List X) → same K x ys ≡ true → rows K ys ≡ count → 0 < count
            counted [] b c = absurd (both_ways _ refl b)
            counted (y ∷ ys) b c = let s = rows_some y ys in omega arith

  -- lists that agree below n have the same first n elements
  same_front : (n : ℕ) (cs ds : List (Stretch X)) → n ≤ length cs → n ≤ length ds → ((k : ℕ) → k < n → place K cs k ≡ place K ds k) → take n cs ≡ take n ds
  same_front zero cs ds p q e = refl
  same_front (suc n) cs ds p q e =
      let next : n + 1 ≡ suc n = omega arith in
      subst (λ (v : ℕ). take v cs ≡ take v ds) next (take_more_same cs ds n (stretch 0 0 K.none) (omega arith) (omega arith) (same_front n cs ds (omega arith) (omega arith) (λ k h. e k (omega arith))) (e n (omega arith)))

  -- two charts of one list have the same counted stretches
  pub draws_alike : (places n count count₂ : ℕ) (chart chart₂ : List (Stretch X)) (xs ys : List X) → xs ≡ ys → Draws places n count chart xs → Draws places n count₂ chart₂ ys → (count ≡ count₂) × (take count chart ≡ take count₂ chart₂)
  draws_alike places n count count₂ chart chart₂ xs ys e d g =
      let same : count ≡ count₂ = sym d.counts ∙ ap (rows K) e ∙ g.counts in
      let few = g.fit.places in
      (same, same_front count chart chart₂ d.fit.places (omega arith) (λ k h. d.draws k h ∙ ap (λ (l : List X). drawn l k) e ∙ sym (g.draws k (omega arith))) ∙ ap (λ (v : ℕ). take v chart₂) same)
