-- Charts that only `append` has filled show the samples that were added.
use Rattle.std.proofs.Common.{◌≡◌, ℕ, ◌+◌, ◌-◌, ◌<◌, ◌≤◌, true, false, ◌⊎◌, List, length, set, IfSome, Some, None, Option, sym, refl, ap, ◌∙◌, subst, inl, inr, arith, length-set}
use Rattle.std.proofs.lemmas.List.{get_or-set_other}
use Rattle.std.proofs.lemmas.Bool.{both_ways, cases_eq, cases_lt}
use Rattle.recorder.specs.declared.stretch.Stretch.{Stretch}
use Rattle.recorder.specs.Kinds.{Kind}
use Rattle.recorder.specs.Charts.{stretch, longer, end, place, end_of, goes_on, appended}
use Rattle.recorder.specs.Histories.{Recorded, began, added, Covers, Covered, Shows, Told, Adds}
use Rattle.recorder.proofs.Appending.{none, grows, begins, unfit, full, way, goes_on_lem, on_from, end_last, longer_end, fresh_end, one_by_one_lem}

-- n stretches d, end to end from tick 0 to tick t, that show the samples s
record Good {X : Type 0} (d : ℕ → Stretch X) (n t : ℕ) (s : ℕ → X) : Type 0 where
  empty : n ≡ 0 → t ≡ 0
  first : 0 < n → (d 0).offset ≡ 0
  below : (k : ℕ) → k < n → end (d k) ≤ t
  last : (k : ℕ) → k + 1 ≡ n → end (d k) ≡ t
  touch : (k : ℕ) → k + 1 < n → (d (k + 1)).offset ≡ end (d k)
  differ : (k : ℕ) → k + 1 < n → (d k).sample ≡ (d (k + 1)).sample → ⊥
  one : (u : ℕ) → u < t → Covered d n u (s u)

-- the last of n stretches is j ticks longer, and the others are as they were
record Grown {X : Type 0} (d d' : ℕ → Stretch X) (n j k : ℕ) : Type 0 where
  offset : (d' k).offset ≡ (d k).offset
  length : ((k + 1 ≡ n) × ((d' k).length ≡ (d k).length + j)) ⊎ ((k + 1 ≡ n → ⊥) × ((d' k).length ≡ (d k).length))
  sample : (d' k).sample ≡ (d k).sample

module _ {X : Type 0} (d d' : ℕ → Stretch X) (n t j : ℕ) (s : ℕ → X) (x : X) (g : Good d n t s) (now : (u : ℕ) → t ≤ u → u < t + j → s u ≡ x) where
  module _ (pos : 0 < n) (v : (k : ℕ) → Grown d d' n j k) (same : (d (n - 1)).sample ≡ x) where
    grown_old : (u : ℕ) → u < t → Covered d' n u (s u)
    grown_old u b =
        let o = g.one u b in
        record {
          number = o.number;
          counted = o.counted;
          covers = (omega (arith, (v o.number).offset, o.covers.0), omega (arith, (v o.number).offset, (v o.number).length, o.covers.1));
          only = λ k h c. o.only k h (omega (arith, (v k).offset, c.0), elim (cases_eq (k + 1) n) [ inl e ↦ omega (arith, g.last k e) | inr ne ↦ omega (arith, (v k).offset, (v k).length, c.1) ]);
          shows = (v o.number).sample ∙ o.shows;
        }

    grown_new : (u : ℕ) → u < t + j → t ≤ u → Covered d' n u (s u)
    grown_new u h b =
        let l = g.last (n - 1) (omega arith) in
        record {
          number = n - 1;
          counted = omega arith;
          covers = (omega (arith, (v (n - 1)).offset), omega (arith, (v (n - 1)).offset, (v (n - 1)).length));
          only = λ k h c. omega (arith, (v k).offset, (v k).length, g.below k h, c.1);
          shows = (v (n - 1)).sample ∙ same ∙ sym (now u b h);
        }

    good_grown : Good d' n (t + j) s
    good_grown = record {
      empty = λ z. omega arith;
      first = λ h. (v 0).offset ∙ g.first h;
      below = λ k h. omega (arith, (v k).offset, (v k).length, g.below k h);
      last = λ k e. omega (arith, (v k).offset, (v k).length, g.last k e);
      touch = λ k h. omega (arith, (v (k + 1)).offset, (v k).offset, (v k).length, g.touch k h);
      differ = λ k h e. g.differ k h (sym (v k).sample ∙ e ∙ (v (k + 1)).sample);
      one = λ u h. elim (cases_lt u t) [ inl b ↦ grown_old u b | inr b ↦ grown_new u h b ];
    }

  module _ (some : 0 < j) (v : (k : ℕ) → k < n → d' k ≡ d k) (new : d' n ≡ stretch t j x) (other : (k : ℕ) → k + 1 ≡ n → (d k).sample ≡ x → ⊥) where
    offset : (k : ℕ) → k < n → (d' k).offset ≡ (d k).offset
    offset k h = ap (λ (c : Stretch X). c.offset) (v k h)

    len : (k : ℕ) → k < n → (d' k).length ≡ (d k).length
    len k h = ap (λ (c : Stretch X). c.length) (v k h)

    sample : (k : ℕ) → k < n → (d' k).sample ≡ (d k).sample
    sample k h = ap (λ (c : Stretch X). c.sample) (v k h)

    top : (k : ℕ) → n ≡ k → d' k ≡ stretch t j x
    top k e = subst (λ (i : ℕ). d' i ≡ stretch t j x) e new

    top_offset : (k : ℕ) → n ≡ k → (d' k).offset ≡ t
    top_offset k e = ap (λ (c : Stretch X). c.offset) (top k e)

    top_end : (k : ℕ) → n ≡ k → end (d' k) ≡ t + j
    top_end k e = ap (λ (c : Stretch X). end c) (top k e)

    fresh_old : (u : ℕ) → u < t → Covered d' (n + 1) u (s u)
    fresh_old u b =
        let o = g.one u b in
        let same = v o.number o.counted in
        record {
          number = o.number;
          counted = omega (arith, o.counted);
          covers = subst (λ (c : Stretch X). Covers c u) (sym same) o.covers;
          only = λ k h c. elim (cases_lt k n) [ inl l ↦ o.only k l (subst (λ (z : Stretch X). Covers z u) (v k l) c) | inr l ↦ absurd (omega (arith, top_offset k (omega arith), c.0)) ];
          shows = sample o.number o.counted ∙ o.shows;
        }

    fresh_new : (u : ℕ) → u < t + j → t ≤ u → Covered d' (n + 1) u (s u)
    fresh_new u h b = record {
      number = n;
      counted = omega arith;
      covers = (omega (arith, top_offset n refl), omega (arith, top_end n refl));
      only = λ k h c. elim (cases_lt k n) [ inl l ↦ absurd (omega (arith, offset k l, len k l, g.below k l, c.1)) | inr l ↦ omega arith ];
      shows = ap (λ (c : Stretch X). c.sample) new ∙ sym (now u b h);
    }

    good_fresh : Good d' (n + 1) (t + j) s
    good_fresh = record {
      empty = λ z. absurd (omega arith);
      first = λ h. elim (cases_lt 0 n) [ inl l ↦ offset 0 l ∙ g.first l | inr l ↦ top_offset 0 (omega arith) ∙ g.empty (omega arith) ];
      below = λ k h. elim (cases_lt k n) [ inl l ↦ omega (arith, offset k l, len k l, g.below k l) | inr l ↦ omega (arith, top_end k (omega arith)) ];
      last = λ k e. top_end k (omega arith);
      touch = λ k h. elim (cases_lt (k + 1) n) [
        | inl l ↦ omega (arith, offset k (omega arith), offset (k + 1) l, len k (omega arith), g.touch k l)
        | inr l ↦ omega (arith, top_offset (k + 1) (omega arith), offset k (omega arith), len k (omega arith), g.last k (omega arith))
      ];
      differ = λ k h e. elim (cases_lt (k + 1) n) [
        | inl l ↦ g.differ k l (sym (sample k (omega arith)) ∙ e ∙ sample (k + 1) l)
        | inr l ↦ other k (omega arith) (sym (sample k (omega arith)) ∙ e ∙ ap (λ (c : Stretch X). c.sample) (top (k + 1) (omega arith)))
      ];
      one = λ u h. elim (cases_lt u t) [ inl b ↦ fresh_old u b | inr b ↦ fresh_new u h b ];
    }

module _ {X : Type 0} (K : Kind X) (s : ℕ → X) where
  -- what is known of the counted places
  record Filled (cs : List (Stretch X)) (n t : ℕ) : Type 0 where
    places : n ≤ length cs
    good : Good (place K cs) n t s

  end_filled : (cs : List (Stretch X)) (n t : ℕ) → Filled cs n t → end_of K cs n ≡ t
  end_filled cs n t f =
      elim (cases_lt 0 n) [
        | inl h ↦ end_last K cs n h ∙ f.good.last (n - 1) (omega arith)
        | inr h ↦ (let z : n ≡ 0 = omega arith in rw z (sym (f.good.empty z)))
      ]

  filled_longer : (cs : List (Stretch X)) (n t k : ℕ) (x : X) → Filled cs n t → ((u : ℕ) → t ≤ u → u < t + k → s u ≡ x) → goes_on K cs n x ≡ true → Filled (set cs (n - 1) (longer k (place K cs (n - 1)))) n (t + k)
  filled_longer cs n t k x f now on =
      let there = goes_on_lem K cs n x on in
      let pos = there.0 in
      let room = f.places in
      let at = (longer_end K cs n k pos room).0 in
      record {
        places = rw (length-set cs (n - 1) (longer k (place K cs (n - 1)))) room;
        good = good_grown (place K cs) (place K (set cs (n - 1) (longer k (place K cs (n - 1))))) n t k s x f.good now pos (λ i. grown i pos at) there.1;
      }
    where
      grown : (i : ℕ) → 0 < n → place K (set cs (n - 1) (longer k (place K cs (n - 1)))) (n - 1) ≡ longer k (place K cs (n - 1)) → Grown (place K cs) (place K (set cs (n - 1) (longer k (place K cs (n - 1))))) n k i
      grown i pos at =
          elim (cases_eq (i + 1) n) [
            | inl e ↦
                (let j : n - 1 ≡ i = omega arith in
                let q : place K (set cs (n - 1) (longer k (place K cs (n - 1)))) i ≡ longer k (place K cs i) = subst (λ (v : ℕ). place K (set cs (n - 1) (longer k (place K cs (n - 1)))) v ≡ longer k (place K cs v)) j at in
                record { offset = ap (λ (c : Stretch X). c.offset) q; length = inl (e, ap (λ (c : Stretch X). c.length) q); sample = ap (λ (c : Stretch X). c.sample) q })
            | inr ne ↦
                (let q = get_or-set_other cs (n - 1) i (longer k (place K cs (n - 1))) (stretch 0 0 K.none) (λ e. ne (omega arith)) in
                record { offset = ap (λ (c : Stretch X). c.offset) q; length = inr (ne, ap (λ (c : Stretch X). c.length) q); sample = ap (λ (c : Stretch X). c.sample) q })
          ]

  filled_fresh : (cs : List (Stretch X)) (n t k : ℕ) (x : X) → Filled cs n t → ((u : ℕ) → t ≤ u → u < t + k → s u ≡ x) → 0 < k → goes_on K cs n x ≡ false → n < length cs → Filled (set cs n (stretch (end_of K cs n) k x)) (n + 1) (t + k)
  filled_fresh cs n t k x f now some off room =
      let e = end_filled cs n t f in
      let at = (fresh_end K cs n (end_of K cs n) k x room).0 in
      record {
        places = rw (length-set cs n (stretch (end_of K cs n) k x)) (omega arith);
        good = good_fresh (place K cs) (place K (set cs n (stretch (end_of K cs n) k x))) n t k s x f.good now some
            (λ i h. get_or-set_other cs n i (stretch (end_of K cs n) k x) (stretch 0 0 K.none) (λ e. omega arith))
            (at ∙ ap (λ v. stretch v k x) e)
            (λ i h same. let j : i ≡ n - 1 = omega arith in both_ways (goes_on K cs n x) off (on_from K cs n x (omega arith) (subst (λ (v : ℕ). (place K cs v).sample ≡ x) j same)));
      }

  -- one call more
  filled_more : (cs : List (Stretch X)) (n t k m : ℕ) (x : X) (cs' : List (Stretch X)) → Filled cs n t → ((u : ℕ) → t ≤ u → u < t + k → s u ≡ x) → appended K cs n k x ≡ (Some m, cs') → Filled cs' m (t + k)
  filled_more cs n t k m x cs' f now e =
      elim (way K cs n k x) [
        | none z q ↦ to (sym q ∙ e) (subst (λ (v : ℕ). Filled cs n v) (omega arith) f)
        | grows h r g q ↦ to (sym q ∙ e) (filled_longer cs n t k x f now g)
        | begins h r g l q ↦ to (sym q ∙ e) (filled_fresh cs n t k x f now h g l)
        | unfit h r q ↦ refused (sym q ∙ e)
        | full h g l p q ↦ refused (sym q ∙ e)
      ]
    where
      to : {ds : List (Stretch X)} {i : ℕ} → ◌≡◌ {A = Option ℕ × List (Stretch X)} (Some i, ds) (Some m, cs') → Filled ds i (t + k) → Filled cs' m (t + k)
      to {ds} {i} p h =
          let o : Some i ≡ Some m = ap (λ (a : Option ℕ × List (Stretch X)). a.0) p in
          let a : i ≡ m = cc in
          subst (λ (v : ℕ). Filled cs' v (t + k)) a (subst (λ (v : List (Stretch X)). Filled v i (t + k)) (ap (λ (a : Option ℕ × List (Stretch X)). a.1) p) h)

      refused : ◌≡◌ {A = Option ℕ × List (Stretch X)} (None, cs) (Some m, cs') → Filled cs' m (t + k)
      refused p =
          let o : None ≡ Some m = ap (λ (a : Option ℕ × List (Stretch X)). a.0) p in
          absurd cc

  filled : {cs : List (Stretch X)} {n t : ℕ} → Recorded K s cs n t → Filled cs n t
  filled (began cs) = record {
    places = omega arith;
    good = record {
      empty = λ z. refl;
      first = λ h. absurd (omega arith);
      below = λ k h. absurd (omega arith);
      last = λ k e. absurd (omega arith);
      touch = λ k h. absurd (omega arith);
      differ = λ k h e. omega arith;
      one = λ u h. absurd (omega arith);
    };
  }
  filled (added {cs} {n} {t} k x m cs' h now e) = filled_more cs n t k m x cs' (filled h) now e

  pub shows : (cs : List (Stretch X)) (n t : ℕ) → Recorded K s cs n t → Shows K s cs n t
  shows cs n t h =
      let f = filled h in
      record {
        places = f.places;
        first = f.good.first;
        touch = f.good.touch;
        last = end_filled cs n t f;
        differ = f.good.differ;
        one = f.good.one;
      }

  -- what a call that found a place has left
  told : (cs : List (Stretch X)) (n t k : ℕ) (x : X) (r : Option ℕ) (cs' : List (Stretch X)) → (r, cs') ≡ appended K cs n k x → Recorded K s cs n t → ((u : ℕ) → t ≤ u → u < t + k → s u ≡ x) → IfSome r (λ m. Told K s cs' m (t + k))
  told cs n t k x None cs' e h now = tt
  told cs n t k x (Some m) cs' e h now =
      let h' = added k x m cs' h now (sym e) in
      record { since = h'; shown = shows cs' m (t + k) h' }

pub adds : {X : Type 0} (K : Kind X) (cs : List (Stretch X)) (n k : ℕ) (x : X) (r : Option ℕ) (cs' : List (Stretch X)) → (r, cs') ≡ appended K cs n k x → Adds K cs n k x r cs'
adds K cs n k x r cs' e = record {
  repeated = λ h. e ∙ one_by_one_lem K cs n k x h;
  history = λ s t p now. told K s cs n t k x r cs' e p now;
}
