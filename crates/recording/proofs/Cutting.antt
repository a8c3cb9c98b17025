-- Bytes cut at a separator, and the pieces that are not empty.
use Rattle.std.proofs.Common.{◌≡◌, ◌≢◌, ℕ, zero, suc, ◌<◌, ◌≤◌, Bool, true, false, not, cond, eqb, List, [], ◌∷◌, length, get_or, take, drop, Some, None, Option, MatchOption, IfSome, OnSome, sym, refl, ap, ◌∙◌, subst, arith}
use Rattle.std.specs.Borrow.{Bor}
use Rattle.std.specs.Fn.{CalledAt}
use Rattle.std.specs.Iterator.{Yields, YieldsThen, YieldsFirstRef}
use Rattle.std.specs.List.{FoldsTo}
use Rattle.std.proofs.lemmas.Bool.{eq-eqb, ne_eqb}
use Rattle.recording.specs.declared.pieces.Pieces.{Pieces}
use Rattle.recording.specs.Pieces.{onto, pieces_of, filled, pieces_left}
use denote.Param.Members.{Mut}

-- the first piece ends at the first separator
pub cut_at : (s : ℕ) (bs : List ℕ) (i : ℕ) → i < length bs → get_or bs i 0 ≡ s → ((k : ℕ) → k < i → get_or bs k 0 ≢ s) → pieces_of s bs ≡ take i bs ∷ pieces_of s (drop (suc i) bs)
cut_at s [] i inside at before = absurd (omega arith)
cut_at s (b ∷ bs) zero inside at before = ap (λ t. cond t ([] ∷ pieces_of s bs) (onto b (pieces_of s bs))) (eq-eqb b s at)
cut_at s (b ∷ bs) (suc i) inside at before =
    ap (λ t. cond t ([] ∷ pieces_of s bs) (onto b (pieces_of s bs))) (ne_eqb b s (before 0 (omega arith)))
    ∙ ap (onto b) (cut_at s bs i (omega arith) at (λ k below. before (suc k) (omega arith)))

pub cut_nowhere : (s : ℕ) (bs : List ℕ) → 0 < length bs → ((k : ℕ) → k < length bs → get_or bs k 0 ≢ s) → pieces_of s bs ≡ bs ∷ []
cut_nowhere s [] some none = absurd (omega arith)
cut_nowhere s (b ∷ []) some none = ap (λ t. cond t ([] ∷ []) (onto b [])) (ne_eqb b s (none 0 (omega arith)))
cut_nowhere s (b ∷ c ∷ bs) some none =
    ap (λ t. cond t ([] ∷ pieces_of s (c ∷ bs)) (onto b (pieces_of s (c ∷ bs)))) (ne_eqb b s (none 0 (omega arith)))
    ∙ ap (onto b) (cut_nowhere s (c ∷ bs) (omega arith) (λ k below. none (suc k) (omega arith)))

length-onto : (b : ℕ) (ps : List (List ℕ)) → length (onto b ps) ≤ suc (length ps)
length-onto b [] = omega arith
length-onto b (p ∷ ps) = omega arith

-- each piece has a byte or a separator
pub length-pieces : (s : ℕ) (bs : List ℕ) → length (pieces_of s bs) ≤ length bs
length-pieces s [] = omega arith
length-pieces s (b ∷ bs) = by (eqb b s) (pieces_of s bs) (length-pieces s bs)
  where
    by : (t : Bool) (ps : List (List ℕ)) → length ps ≤ length bs → length (cond t ([] ∷ ps) (onto b ps)) ≤ suc (length bs)
    by true ps h = omega arith
    by false ps h = omega (arith, length-onto b ps)

skips : (p : List ℕ) (ps : List (List ℕ)) → false ≡ not (eqb (length p) 0) → filled (p ∷ ps) ≡ filled ps
skips [] ps e = refl
skips (b ∷ p) ps e = let z : false ≡ true = e ∙ ap not (ne_eqb (suc (length p)) 0 (λ n. omega arith)) in cc

keeps : (p : List ℕ) (ps : List (List ℕ)) → true ≡ not (eqb (length p) 0) → filled (p ∷ ps) ≡ p ∷ filled ps
keeps [] ps e = let z : true ≡ false = e in cc
keeps (b ∷ p) ps e = refl

-- calls of a closure that tells whether a piece is not empty
module _ {F : Type 0} (g : Mut F (Bor (Bor (List ℕ)) × Unit {0}) Bool) (f : F) (tells : (x : Bor (List ℕ)) (b : Bool) (q : F) → CalledAt g f x b q → (q ≡ f) × (b ≡ not (eqb (length x.now) 0))) where
  passed : (xs : List (Bor (List ℕ))) (s t : Pieces) (j : F) → Yields (YieldsFirstRef pieces_left) s xs t → FoldsTo (λ p x q. CalledAt g p x false q) f xs j → (j ≡ f) × (filled (pieces_left s) ≡ filled (pieces_left t))
  passed [] s t j e d = (sym d, ap (λ (p : Pieces). filled (pieces_left p)) e)
  passed (x ∷ xs) s t j e d =
      let told = tells x false d.0 d.1 in
      let on = passed xs e.0 t j e.2 (subst (λ (p : F). FoldsTo (λ p x q. CalledAt g p x false q) p xs j) told.0 d.2) in
      (on.0, ap filled e.1 ∙ skips x.now (pieces_left e.0) told.1 ∙ on.1)

  -- the first field and the others
  pub found : (r : Option (Bor (List ℕ))) (s u : Pieces) → (xs : List (Bor (List ℕ))) × (j : F) × YieldsThen (YieldsFirstRef pieces_left) s xs r u × FoldsTo (λ p x q. CalledAt g p x false q) f xs j × IfSome r (λ x. (h : F) × CalledAt g j x true h) →
      MatchOption r ((filled (pieces_left s) ≡ []) × (filled (pieces_left u) ≡ [])) (λ x. filled (pieces_left s) ≡ x.now ∷ filled (pieces_left u))
  found None s u d = let on = passed d.0 s d.2.0 d.1 d.2.1 d.3 in (on.1 ∙ ap filled d.2.2.0, ap filled d.2.2.1)
  found (Some x) s u d =
      let on = passed d.0 s d.2.0 d.1 d.2.1 d.3 in
      let told = tells x true d.4.0 (subst (λ (p : F). CalledAt g p x true d.4.0) on.0 d.4.1) in
      on.1 ∙ ap filled d.2.2 ∙ keeps x.now (pieces_left u) told.1

pub fewer : (r : Option (Bor (List ℕ))) (xs ys : List (List ℕ)) → MatchOption r ((xs ≡ []) × (ys ≡ [])) (λ x. xs ≡ x.now ∷ ys) → OnSome r (Unit {0} × Unit {0} × (length ys < length xs))
fewer None xs ys e = tt
fewer (Some x) xs ys e = (tt, tt, omega (arith, ap length e))
