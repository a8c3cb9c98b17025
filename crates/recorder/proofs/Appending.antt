-- What `appended` is in each case, and that ticks of one sample add up.
use Rattle.std.proofs.Common.{◌≡◌, ℕ, zero, suc, ◌+◌, ◌-◌, ◌^◌, ◌<◌, ◌≤◌, Bool, true, false, cond, ◌&&◌, ◌||◌, ◌⊎◌, eqb, ltb, leb, List, length, set, slice_range, is_some, Some, None, Option, sym, refl, ap, ◌∙◌, subst, inl, inr, add_assoc, arith, length-set}
use Rattle.std.proofs.lemmas.List.{get_or-set_same, get_or-take, set-set}
use Rattle.std.proofs.lemmas.Bool.{ltb-true, leb-true, eqb-true, lt-ltb, le-ltb, le-leb, eq-eqb, ne_eqb, and_parts, and_from, or_cases, cases_Bool, cases_lt}
use Rattle.std.proofs.lemmas.Bool.Decides.{nat_tests}
use Rattle.recorder.specs.declared.stretch.Stretch.{Stretch}
use Rattle.recorder.specs.Kinds.{Kind}
use Rattle.recorder.specs.Charts.{stretch, longer, end, place, end_of, fitting, Fit, roomy, goes_on, appended, and_then, one_by_one}

abbrev Answer : Type 0 → Type 0
Answer X = Option ℕ × List (Stretch X)

-- the chart has n places, and k more ticks end within 64 bits
pub record Room {X : Type 0} (K : Kind X) (cs : List (Stretch X)) (n k : ℕ) : Type 0 where
  pub places : n ≤ length cs
  pub early : end_of K cs n + k < 2 ^ 64

module _ {X : Type 0} (K : Kind X) where
  pub room_from : (cs : List (Stretch X)) (n k : ℕ) → roomy K cs n k ≡ true → Room K cs n k
  room_from cs n k e =
      let p = and_parts (leb n (length cs)) (ltb (end_of K cs n + k) (2 ^ 64)) e in
      record { places = leb-true _ _ p.0; early = ltb-true _ _ p.1 }

  pub room_true : (cs : List (Stretch X)) (n k : ℕ) → n ≤ length cs → end_of K cs n + k < 2 ^ 64 → roomy K cs n k ≡ true
  room_true cs n k p e = and_from _ _ (le-leb _ _ p) (lt-ltb _ _ e)

  -- the tick after the last counted stretch
  pub end_last : (cs : List (Stretch X)) (n : ℕ) → 0 < n → end_of K cs n ≡ end (place K cs (n - 1))
  end_last cs n h = rw (ne_eqb n 0 (λ e. omega arith)) refl

  -- a chart's counted stretches ds tell what the chart tells
  pub record Counted (cs ds : List (Stretch X)) (n : ℕ) : Type 0 where
    pub places : n ≤ length cs
    pub ends : end_of K ds (length ds) ≡ end_of K cs n
    pub on : (x : X) → goes_on K ds (length ds) x ≡ goes_on K cs n x
    pub room : (k : ℕ) → roomy K ds (length ds) k ≡ roomy K cs n k

  pub counted : (cs ds : List (Stretch X)) (n : ℕ) → (0 ≤ n) × (n ≤ length cs) × (ds ≡ slice_range cs 0 n) × (length ds + 0 ≡ n) → Counted cs ds n
  counted cs ds n lent = record {
    places = lent.1;
    ends = ends;
    on = λ x. rw size (elim (cases_lt 0 n) [
      | inl l ↦ ap (λ (c : Stretch X). ltb 0 n && K.like c.sample x) (last l)
      | inr z ↦ (let none : n ≡ 0 = omega arith in rw none refl)
    ]);
    room = λ k. rw (ends, le-leb (length ds) (length ds) (omega arith), le-leb n (length cs) lent.1) refl;
  }
    where
      size : length ds ≡ n
      size = omega arith

      last : 0 < n → place K ds (n - 1) ≡ place K cs (n - 1)
      last l = ap (λ (bs : List (Stretch X)). place K bs (n - 1)) lent.2 ∙ get_or-take (n - 0) cs (n - 1) (stretch 0 0 K.none) (omega arith)

      ends : end_of K ds (length ds) ≡ end_of K cs n
      ends = rw size (elim (cases_lt 0 n) [
        | inl l ↦ end_last ds n l ∙ ap (λ (c : Stretch X). end c) (last l) ∙ sym (end_last cs n l)
        | inr z ↦ (let none : n ≡ 0 = omega arith in rw none refl)
      ])

  -- what an answer of `next_tick` to them tells of the chart
  pub next_is_some : (cs ds : List (Stretch X)) (n k : ℕ) (r : Option ℕ) → Counted cs ds n → r ≡ cond (roomy K ds (length ds) k) (Some (end_of K ds (length ds))) None → is_some r ≡ roomy K cs n k
  next_is_some cs ds n k r c e = go (roomy K ds (length ds) k) _ e ∙ c.room k
    where
      go : (b : Bool) (o : ℕ) → r ≡ cond b (Some o) None → is_some r ≡ b
      go true o p = ap is_some p
      go false o p = ap is_some p

  pub next_some : (cs ds : List (Stretch X)) (n k o : ℕ) → Counted cs ds n → Some o ≡ cond (roomy K ds (length ds) k) (Some (end_of K ds (length ds))) None → (roomy K cs n k ≡ true) × (o ≡ end_of K cs n)
  next_some cs ds n k o c e =
      let fit = sym (next_is_some cs ds n k (Some o) c e) in
      let some = rw (c.room k ∙ fit, c.ends) at e in
      (fit, cc)

  -- too few places
  pub unplaced : (cs : List (Stretch X)) (n k : ℕ) → (n < 0) ⊎ (length cs < n) → roomy K cs n k ≡ false
  unplaced cs n k (inl z) = absurd (omega arith)
  unplaced cs n k (inr h) = grind (arith, nat_tests)

  pub adds_none : (cs : List (Stretch X)) (n k : ℕ) (x : X) → k ≡ 0 → appended K cs n k x ≡ (Some n, cs)
  unfolding appended
  adds_none cs n k x e = rw (eq-eqb k 0 e) refl

  pub adds_unfit : (cs : List (Stretch X)) (n k : ℕ) (x : X) → 0 < k → roomy K cs n k ≡ false → appended K cs n k x ≡ (None, cs)
  unfolding appended
  adds_unfit cs n k x h e = rw (ne_eqb k 0 (λ z. omega arith), e) refl

  pub adds_longer : (cs : List (Stretch X)) (n k : ℕ) (x : X) → 0 < k → roomy K cs n k ≡ true → goes_on K cs n x ≡ true → appended K cs n k x ≡ (Some n, set cs (n - 1) (longer k (place K cs (n - 1))))
  unfolding appended
  adds_longer cs n k x h r g = rw (ne_eqb k 0 (λ z. omega arith), r, g) refl

  pub adds_fresh : (cs : List (Stretch X)) (n k : ℕ) (x : X) → 0 < k → roomy K cs n k ≡ true → goes_on K cs n x ≡ false → n < length cs → appended K cs n k x ≡ (Some (n + 1), set cs n (stretch (end_of K cs n) k x))
  unfolding appended
  adds_fresh cs n k x h r g l = rw (ne_eqb k 0 (λ z. omega arith), r, g, lt-ltb n (length cs) l) refl

  pub adds_full : (cs : List (Stretch X)) (n k : ℕ) (x : X) → 0 < k → roomy K cs n k ≡ true → goes_on K cs n x ≡ false → length cs ≤ n → appended K cs n k x ≡ (None, cs)
  unfolding appended
  adds_full cs n k x h r g l = rw (ne_eqb k 0 (λ z. omega arith), r, g, le-ltb n (length cs) l) refl

  -- whether there is a place
  pub found : (cs : List (Stretch X)) (n k : ℕ) (x : X) (r o : Bool) → 0 < k → roomy K cs n k ≡ r → goes_on K cs n x ≡ o → is_some (appended K cs n k x).0 ≡ r && (o || ltb n (length cs))
  unfolding appended
  found cs n k x r o h e f = rw (ne_eqb k 0 (λ z. omega arith), e, f) (go r o (ltb n (length cs)) _ _)
    where
      go : (r o l : Bool) (ls fs : List (Stretch X)) → is_some (cond {A = Answer X} r (cond o (Some n, ls) (cond l (Some (n + 1), fs) (None, cs))) (None, cs)).0 ≡ r && (o || l)
      go false o l ls fs = refl
      go true true l ls fs = refl
      go true false true ls fs = refl
      go true false false ls fs = refl

  -- the cases of `appended`
  pub data Way (cs : List (Stretch X)) (n k : ℕ) (x : X) : Type 0 where
    none : k ≡ 0 → appended K cs n k x ≡ (Some n, cs) → Way cs n k x
    grows : 0 < k → Room K cs n k → goes_on K cs n x ≡ true → appended K cs n k x ≡ (Some n, set cs (n - 1) (longer k (place K cs (n - 1)))) → Way cs n k x
    begins : 0 < k → Room K cs n k → goes_on K cs n x ≡ false → n < length cs → appended K cs n k x ≡ (Some (n + 1), set cs n (stretch (end_of K cs n) k x)) → Way cs n k x
    unfit : 0 < k → roomy K cs n k ≡ false → appended K cs n k x ≡ (None, cs) → Way cs n k x
    full : 0 < k → goes_on K cs n x ≡ false → length cs ≤ n → n ≤ length cs → appended K cs n k x ≡ (None, cs) → Way cs n k x

  pub way : (cs : List (Stretch X)) (n k : ℕ) (x : X) → Way cs n k x
  way cs n k x =
      elim (cases_lt 0 k) [
        | inr z ↦ none (omega arith) (adds_none cs n k x (omega arith))
        | inl h ↦
            elim (cases_Bool (roomy K cs n k)) [
              | inr r ↦ unfit h r (adds_unfit cs n k x h r)
              | inl r ↦
                  elim (cases_Bool (goes_on K cs n x)) [
                    | inl g ↦ grows h (room_from cs n k r) g (adds_longer cs n k x h r g)
                    | inr g ↦
                        elim (cases_lt n (length cs)) [
                          | inl l ↦ begins h (room_from cs n k r) g l (adds_fresh cs n k x h r g l)
                          | inr l ↦ full h g l (room_from cs n k r).places (adds_full cs n k x h r g l)
                        ]
                  ]
            ]
      ]

  -- a stretch that goes on is there, and has the sample
  pub goes_on_lem : (cs : List (Stretch X)) (n : ℕ) (x : X) → goes_on K cs n x ≡ true → (0 < n) × ((place K cs (n - 1)).sample ≡ x)
  goes_on_lem cs n x g =
      let p = and_parts (ltb 0 n) (K.like (place K cs (n - 1)).sample x) g in
      (ltb-true 0 n p.0, (K.exact (place K cs (n - 1)).sample x).0 p.1)

  pub on_from : (cs : List (Stretch X)) (n : ℕ) (x : X) → 0 < n → (place K cs (n - 1)).sample ≡ x → goes_on K cs n x ≡ true
  on_from cs n x h e = and_from _ _ (lt-ltb 0 n h) ((K.exact (place K cs (n - 1)).sample x).1 e)

  -- what the last counted stretch is, once it is longer or begun
  pub longer_end : (cs : List (Stretch X)) (n k : ℕ) → 0 < n → n ≤ length cs → (place K (set cs (n - 1) (longer k (place K cs (n - 1)))) (n - 1) ≡ longer k (place K cs (n - 1))) × (end_of K (set cs (n - 1) (longer k (place K cs (n - 1)))) n ≡ end_of K cs n + k)
  longer_end cs n k h p =
      let last : Stretch X = place K cs (n - 1) in
      let q : place K (set cs (n - 1) (longer k last)) (n - 1) ≡ longer k last = get_or-set_same cs (n - 1) (longer k last) (stretch 0 0 K.none) (omega arith) in
      let e = ap (λ (c : Stretch X). end c) q in
      let a = end_last (set cs (n - 1) (longer k last)) n h in
      let b = end_last cs n h in
      (q, omega arith)

  pub fresh_end : (cs : List (Stretch X)) (n t k : ℕ) (x : X) → n < length cs → (place K (set cs n (stretch t k x)) n ≡ stretch t k x) × (end_of K (set cs n (stretch t k x)) (n + 1) ≡ t + k)
  fresh_end cs n t k x l =
      let q : place K (set cs n (stretch t k x)) n ≡ stretch t k x = get_or-set_same cs n (stretch t k x) (stretch 0 0 K.none) l in
      let a = end_last (set cs n (stretch t k x)) (n + 1) (omega arith) in
      let b : n + 1 - 1 ≡ n = omega arith in
      (q, a ∙ rw b (ap (λ (c : Stretch X). end c) q))

  module _ (cs : List (Stretch X)) (n j k : ℕ) (x : X) (early : end_of K cs n + (j + k) < 2 ^ 64) (some : 0 < j) (places : n ≤ length cs) where
    lengthened : goes_on K cs n x ≡ true → appended K (set cs (n - 1) (longer j (place K cs (n - 1)))) n k x ≡ appended K cs n (j + k) x
    lengthened g =
        let last : Stretch X = place K cs (n - 1) in
        let on = goes_on_lem cs n x g in
        let new = longer_end cs n j on.0 places in
        let long : length (set cs (n - 1) (longer j last)) ≡ length cs = length-set cs (n - 1) (longer j last) in
        let whole = adds_longer cs n (j + k) x (omega arith) (room_true cs n (j + k) places early) g in
        elim (cases_lt 0 k) [
          | inr z ↦
              (let same : j + k ≡ j = omega arith in
              adds_none (set cs (n - 1) (longer j last)) n k x (omega arith) ∙ ap (λ i. (Some n, set cs (n - 1) (longer i last))) (sym same) ∙ sym whole)
          | inl h ↦
              (let rest = adds_longer (set cs (n - 1) (longer j last)) n k x h (room_true (set cs (n - 1) (longer j last)) n k (omega arith) (omega arith)) (on_from (set cs (n - 1) (longer j last)) n x on.0 (ap (λ (c : Stretch X). c.sample) new.0 ∙ on.1)) in
              let m = set-set cs (n - 1) (longer j last) (longer k (longer j last)) in
              let a = add_assoc last.length j k in
              let p = new.0 in
              cc)
        ]

    begun : goes_on K cs n x ≡ false → n < length cs → appended K (set cs n (stretch (end_of K cs n) j x)) (n + 1) k x ≡ appended K cs n (j + k) x
    begun g l =
        let new : Stretch X = stretch (end_of K cs n) j x in
        let is = fresh_end cs n (end_of K cs n) j x l in
        let long : length (set cs n new) ≡ length cs = length-set cs n new in
        let whole = adds_fresh cs n (j + k) x (omega arith) (room_true cs n (j + k) places early) g l in
        elim (cases_lt 0 k) [
          | inr z ↦
              (let same : j + k ≡ j = omega arith in
              adds_none (set cs n new) (n + 1) k x (omega arith) ∙ ap (λ i. (Some (n + 1), set cs n (stretch (end_of K cs n) i x))) (sym same) ∙ sym whole)
          | inl h ↦
              (let b : n + 1 - 1 ≡ n = omega arith in
              let rest = adds_longer (set cs n new) (n + 1) k x h (room_true (set cs n new) (n + 1) k (omega arith) (omega arith)) (on_from (set cs n new) (n + 1) x (omega arith) (rw b (ap (λ (c : Stretch X). c.sample) is.0))) in
              let m = set-set cs n new (longer k new) in
              let p = is.0 in
              cc)
        ]

  -- ticks of one sample, after others of that sample
  pub twice : (cs : List (Stretch X)) (n j k : ℕ) (x : X) → end_of K cs n + (j + k) < 2 ^ 64 → and_then K k x (appended K cs n j x) ≡ appended K cs n (j + k) x
  twice cs n j k x early =
      elim (way cs n j x) [
        | none z e ↦ ap (and_then K k x) e ∙ ap (λ i. appended K cs n i x) (omega arith)
        | grows h r g e ↦ ap (and_then K k x) e ∙ lengthened cs n j k x early h r.places g
        | begins h r g l e ↦ ap (and_then K k x) e ∙ begun cs n j k x early h r.places g l
        | unfit h r e ↦ ap (and_then K k x) e ∙ sym (adds_unfit cs n (j + k) x (omega arith) (grind (arith, nat_tests)))
        | full h g l p e ↦ ap (and_then K k x) e ∙ sym (adds_full cs n (j + k) x (omega arith) (room_true cs n (j + k) p early) g l)
      ]

  -- where k ticks have no place, the first of them has none, and the chart stays
  pub refused : (cs ds : List (Stretch X)) (n k : ℕ) (x : X) → end_of K cs n + k < 2 ^ 64 → appended K cs n k x ≡ (None, ds) → (appended K cs n 1 x ≡ (None, cs)) × (ds ≡ cs)
  refused cs ds n k x early e =
      elim (way cs n k x) [
        | none z q ↦ given (sym q ∙ e)
        | grows h r g q ↦ given (sym q ∙ e)
        | begins h r g l q ↦ given (sym q ∙ e)
        | unfit h r q ↦ (adds_unfit cs n 1 x (omega arith) (grind (arith, nat_tests)), same (sym e ∙ q))
        | full h g l p q ↦ (adds_full cs n 1 x (omega arith) (room_true cs n 1 p (omega arith)) g l, same (sym e ∙ q))
      ]
    where
      same : ◌≡◌ {A = Answer X} (None, ds) (None, cs) → ds ≡ cs
      same p = ap (λ (a : Answer X). a.1) p

      given : {m : ℕ} {cs' : List (Stretch X)} → ◌≡◌ {A = Answer X} (Some m, cs') (None, ds) → (appended K cs n 1 x ≡ (None, cs)) × (ds ≡ cs)
      given {m} p =
          let o : Some m ≡ None = ap (λ (a : Answer X). a.0) p in
          absurd cc

  -- n ticks at once are one tick n times
  pub one_by_one_lem : (cs : List (Stretch X)) (n k : ℕ) (x : X) → end_of K cs n + k < 2 ^ 64 → appended K cs n k x ≡ one_by_one K cs n k x
  one_by_one_lem cs n zero x early = adds_none cs n zero x refl
  one_by_one_lem cs n (suc k) x early =
      let same : k + 1 ≡ suc k = omega arith in
      ap (λ i. appended K cs n i x) (sym same) ∙ sym (twice cs n k 1 x (omega arith)) ∙ ap (and_then K 1 x) (one_by_one_lem cs n k x (omega arith))

  -- a chart that passes the test, with stretches counted if a tick was played, fits
  pub fit_from : (cs : List (Stretch X)) (n t : ℕ) → fitting K cs n t ≡ true → (0 < t → 0 < n) → Fit K cs n t
  fit_from cs n t e some =
      let p = and_parts (leb n (length cs)) _ e in
      record {
        places = leb-true _ _ p.0;
        ends = elim (or_cases (eqb n 0) (eqb (end_of K cs n) t) p.1) [
          | inl z ↦ rw z (none (eqb-true n 0 z))
          | inr h ↦ eqb-true _ _ h
        ];
      }
    where
      none : n ≡ 0 → 0 ≡ t
      none z = elim (cases_lt 0 t) [ inl l ↦ absurd (omega (arith, some l)) | inr l ↦ omega arith ]

  -- whether there is a place for some ticks, and which, is the same for any number of them
  pub same_place : (cs : List (Stretch X)) (n j k : ℕ) (x : X) → n ≤ length cs → 0 < j → 0 < k → end_of K cs n + j < 2 ^ 64 → end_of K cs n + k < 2 ^ 64 → (appended K cs n j x).0 ≡ (appended K cs n k x).0
  same_place cs n j k x places pj pk ej ek =
      let rj = room_true cs n j places ej in
      let rk = room_true cs n k places ek in
      elim (cases_Bool (goes_on K cs n x)) [
        | inl g ↦ counts (adds_longer cs n j x pj rj g) (adds_longer cs n k x pk rk g)
        | inr g ↦
            elim (cases_lt n (length cs)) [
              | inl l ↦ counts (adds_fresh cs n j x pj rj g l) (adds_fresh cs n k x pk rk g l)
              | inr l ↦ counts (adds_full cs n j x pj rj g l) (adds_full cs n k x pk rk g l)
            ]
      ]
    where
      counts : {a b : Answer X} {o : Option ℕ} {ds es : List (Stretch X)} → a ≡ (o, ds) → b ≡ (o, es) → a.0 ≡ b.0
      counts p q = ap (λ (v : Answer X). v.0) p ∙ sym (ap (λ (v : Answer X). v.0) q)

  -- more ticks that found a place: a stretch is counted, the chart fits again, and is as long as it was
  pub record Placed (cs : List (Stretch X)) (k t m : ℕ) (ds : List (Stretch X)) : Type 0 where
    pub some : 0 < m
    pub fit : Fit K ds m (t + k)
    pub size : length ds ≡ length cs

  pub placed : (cs : List (Stretch X)) (n k t : ℕ) (x : X) (m : ℕ) (ds : List (Stretch X)) → Fit K cs n t → 0 < k → appended K cs n k x ≡ (Some m, ds) → Placed cs k t m ds
  placed cs n k t x m ds fit pos e =
      elim (way cs n k x) [
        | none z q ↦ absurd (omega arith)
        | grows h r g q ↦
            (let long = length-set cs (n - 1) (longer k (place K cs (n - 1))) in
            let some = (goes_on_lem cs n x g).0 in
            to (sym q ∙ e) (record { some = some; fit = record { places = rw long r.places; ends = (longer_end cs n k some r.places).1 ∙ ap (λ i. i + k) fit.ends }; size = long }))
        | begins h r g l q ↦
            (let long = length-set cs n (stretch (end_of K cs n) k x) in
            to (sym q ∙ e) (record { some = omega arith; fit = record { places = rw long (omega arith); ends = (fresh_end cs n (end_of K cs n) k x l).1 ∙ ap (λ i. i + k) fit.ends }; size = long }))
        | unfit h r q ↦ refused_not (sym q ∙ e)
        | full h g l p q ↦ refused_not (sym q ∙ e)
      ]
    where
      refused_not : ◌≡◌ {A = Answer X} (None, cs) (Some m, ds) → Placed cs k t m ds
      refused_not p = let o : None ≡ Some m = ap (λ (a : Answer X). a.0) p in absurd cc

      to : {i : ℕ} {bs : List (Stretch X)} → ◌≡◌ {A = Answer X} (Some i, bs) (Some m, ds) → Placed cs k t i bs → Placed cs k t m ds
      to {i} {bs} p h =
          let o : Some i ≡ Some m = ap (λ (a : Answer X). a.0) p in
          let a : i ≡ m = cc in
          subst (λ (v : List (Stretch X)). Placed cs k t m v) (ap (λ (a : Answer X). a.1) p) (subst (λ (v : ℕ). Placed cs k t v bs) a h)
