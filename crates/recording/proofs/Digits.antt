-- Reading digits one by one.
use Rattle.std.proofs.Common.{◌≡◌, ℕ, ◌+◌, ◌*◌, ◌^◌, ◌<◌, ◌≤◌, Bool, true, false, cond, ◌&&◌, ltb, List, [], ◌∷◌, length, Some, None, Option, MatchOption, sym, refl, ap, ◌∙◌, subst, mul-le-mul_left, arith, lit<}
use native.Mathlib.Nat.{pow-le-pow_right}
use denote.Param.Members.{Mut}
use Rattle.std.specs.Borrow.{Bor}
use Rattle.std.specs.ControlFlow.{continue_value}
use Rattle.std.specs.declared.ops.ControlFlow.{ControlFlow}
use Rattle.std.specs.declared.ops.ControlFlow.TheVariants.{Continue, Break}
use Rattle.std.specs.declared.slice.Iter.{Iter}
use Rattle.std.specs.Fn.{Called}
use Rattle.std.specs.Iterator.{Yields, TryFoldTurn, TryFoldsItems}
use Rattle.std.specs.List.{FoldsTo}
use Rattle.std.specs.Option.{option_and_then}
use Rattle.std.specs.Str.Parse.{digits_value_after, digits_value, AllDigits}
use Rattle.std.specs.Char.{digit_value}
use Rattle.std.proofs.lemmas.Fn.{fronts}
use Rattle.std.proofs.lemmas.Int.Digits.{digits_value-lt}
use Rattle.std.proofs.lemmas.List.{nil_from_length}
use Rattle.std.proofs.lemmas.Bool.{cond-true, cond-false, lt-ltb, le-ltb, le-leb, and_parts, ltb-true, ltb-false, false≢true}
use Rattle.recording.specs.Numbers.{with_digit, digits_in, number_in, under, hex_of}

-- the number with the next digit d
abbrev next : ℕ → ℕ → ℕ → ℕ
next base n d = n * base + d

-- the number that the digits write after those of n, none from 2^64 on
abbrev pub digits_on : ℕ → ℕ → List ℕ → Option ℕ
digits_on base n [] = Some n
digits_on base n (c ∷ cs) = option_and_then (λ m. digits_on base m cs) (with_digit base n c)

-- more digits make no number less
grows : (base n : ℕ) (cs : List ℕ) → 1 ≤ base → n ≤ digits_value_after base n cs
grows base n [] h = omega arith
grows base n (c ∷ cs) h =
    let g = grows base (next base n (digit_value c)) cs h in
    let m : n * 1 ≤ n * base = mul-le-mul_left n h in
    omega arith

-- one digit more, by whether it is a digit, whether the number then fits, and the same of the digits after it
step : (x y z w : Bool) (a b : Option ℕ) → (y ≡ true → a ≡ cond z (cond w b None) None) → (y ≡ false → w ≡ false) → cond (x && y) a None ≡ cond (x && z) (cond w b None) None
step true true z w a b p q = p refl
step true false true w a b p q = sym (cond-false w b None (q refl))
step true false false w a b p q = refl
step false y z w a b p q = refl

chosen : (b : Bool) (h : ℕ → Option ℕ) (m : ℕ) → option_and_then h (cond b (Some m) None) ≡ cond b (h m) None
chosen true h m = refl
chosen false h m = refl

reads : (base n : ℕ) (cs : List ℕ) → 1 ≤ base → n < 2 ^ 64 → digits_on base n cs ≡ cond (digits_in base cs) (under (2 ^ 64) (Some (digits_value_after base n cs))) None
reads base n [] h l = sym (cond-true _ _ _ (lt-ltb n (2 ^ 64) l))
reads base n (c ∷ cs) h l =
    chosen (ltb (digit_value c) base && ltb (next base n (digit_value c)) (2 ^ 64)) (λ m. digits_on base m cs) (next base n (digit_value c))
    ∙ step (ltb (digit_value c) base) (ltb (next base n (digit_value c)) (2 ^ 64)) (digits_in base cs) (ltb (digits_value_after base (next base n (digit_value c)) cs) (2 ^ 64)) _ _
    (λ e. reads base (next base n (digit_value c)) cs h (ltb-true _ _ e))
    (λ e. le-ltb _ _ (over _ _ (ltb-false _ _ e) (grows base (next base n (digit_value c)) cs h)))
  where
    over : (a b : ℕ) → 2 ^ 64 ≤ a → a ≤ b → 2 ^ 64 ≤ b
    over a b p q = omega arith

-- some digits, as x tells
by_length : (x z : Bool) (n : ℕ) → x ≡ true → cond z (under (2 ^ 64) (Some n)) None ≡ under (2 ^ 64) (cond (x && z) (Some n) None)
by_length true true n e = refl
by_length true false n e = refl
by_length false z n e = absurd (false≢true e)

pub read_all : (base : ℕ) (cs : List ℕ) → 1 ≤ base → 0 < length cs → digits_on base 0 cs ≡ under (2 ^ 64) (number_in base cs)
read_all base cs h s = reads base 0 cs h (omega arith) ∙ by_length (ltb 0 (length cs)) (digits_in base cs) (digits_value base cs) (lt-ltb _ _ s)

-- one digit more, and none
on_some : (base n m c : ℕ) (cs : List ℕ) → Some m ≡ with_digit base n c → digits_on base n (c ∷ cs) ≡ digits_on base m cs
on_some base n m c cs e = ap (option_and_then (λ k. digits_on base k cs)) (sym e)

on_none : (base n c : ℕ) (cs : List ℕ) → None ≡ with_digit base n c → digits_on base n (c ∷ cs) ≡ None
on_none base n c cs e = ap (option_and_then (λ k. digits_on base k cs)) (sym e)

-- calls of a closure that adds a digit
module _ {F : Type 0} (E : Type 0) (g : Mut F (ℕ × (Bor ℕ × Unit {0})) (Option ℕ)) (f : F) (base : ℕ) (adds : (n : ℕ) (x : Bor ℕ) (v : Option ℕ) (q : F) → Called g f (n, (x, tt)) v q → (q ≡ f) × (v ≡ with_digit base n x.now)) where
  abbrev goes_on : Option ℕ → ControlFlow E ℕ → Type 0
  goes_on v r = v ≡ continue_value r

  passed : (xs : List (Bor ℕ)) (s t : Iter ℕ) (n a : ℕ) (j : F) → Yields fronts s xs t → FoldsTo {P = F × ℕ} (TryFoldTurn g goes_on) (f, n) xs (j, a) → (j ≡ f) × (digits_on base n s.rest.now ≡ digits_on base a t.rest.now)
  passed [] s t n a j e d =
      (sym (ap (λ (p : F × ℕ). p.0) d), ap (λ (i : Iter ℕ). digits_on base n i.rest.now) e ∙ ap (λ (p : F × ℕ). digits_on base p.1 t.rest.now) d)
  passed (x ∷ xs) s t n a j e d =
      let m = d.0.1 in
      let added = adds n x d.1.0 d.0.0 d.1.1 in
      let on = passed xs e.0 t m a j e.2 (subst (λ (p : F). FoldsTo {P = F × ℕ} (TryFoldTurn g goes_on) (p, m) xs (j, a)) added.0 d.2) in
      (on.0, ap (digits_on base n) e.1 ∙ on_some base n m x.now e.0.rest.now (sym d.1.2 ∙ added.1) ∙ on.1)

  ends : (o : Option (Bor ℕ)) (r : Option ℕ) (t u : Iter ℕ) (a : ℕ) (j : F) → j ≡ f → fronts t o u → MatchOption o (goes_on r (Continue a)) (λ x. (v : Option ℕ) × (h : F) × (e : E) × Called g j (a, (x, tt)) v h × goes_on v (Break e) × (r ≡ None)) → r ≡ digits_on base a t.rest.now
  ends None r t u a j k e m = m ∙ sym (ap (digits_on base a) (nil_from_length t.rest.now e.0))
  ends (Some x) r t u a j k e m =
      let added = adds a x m.0 m.1 (subst (λ (p : F). Called g p (a, (x, tt)) m.0 m.1) k m.3) in
      m.5 ∙ sym (ap (digits_on base a) e ∙ on_none base a x.now u.rest.now (sym m.4 ∙ added.1))

  pub folded : (r : Option ℕ) (s u : Iter ℕ) → TryFoldsItems fronts g goes_on (λ _ r. r ≡ None) s f 0 r u → r ≡ digits_on base 0 s.rest.now
  folded r s u d =
      let on = passed d.0 s d.4.0 0 d.3 d.2 d.4.1 d.5 in
      ends d.1 r d.4.0 u d.3 d.2 on.0 d.4.2 d.6 ∙ sym on.1

-- four hexadecimal digits write a number of 16 bits
all_in : (cs : List ℕ) → digits_in 16 cs ≡ true → AllDigits 16 cs
all_in [] e = tt
all_in (c ∷ cs) e = let p = and_parts _ _ e in (ltb-true _ _ p.0, all_in cs p.1)

four : (cs : List ℕ) → length cs ≤ 4 → digits_in 16 cs ≡ true → digits_value 16 cs < 2 ^ 16
four cs h e = omega (arith, digits_value-lt 16 cs (all_in cs e), sixteen (length cs) h)
  where
    sixteen : (k : ℕ) → k ≤ 4 → 16 ^ k ≤ 16 ^ 4
    sixteen k l = pow-le-pow_right (lit< tt) l

-- x tells whether there is a digit, y whether there is nothing else
short : (x y : Bool) (n : ℕ) → (x ≡ true → y ≡ true → n < 2 ^ 16) → (under (2 ^ 64) (cond (x && y) (Some n) None) ≡ cond (x && y) (Some n) None) × ((m : ℕ) → Some m ≡ cond (x && y) (Some n) None → m < 2 ^ 16)
short true true n h = (cond-true _ _ _ (lt-ltb n (2 ^ 64) (wide n (h refl refl))), λ m e. let s : m ≡ n = cc in omega (arith, h refl refl))
  where
    wide : (a : ℕ) → a < 2 ^ 16 → a < 2 ^ 64
    wide a l = omega arith
short true false n h = (refl, λ m e. let z : ◌≡◌ {A = ℕ} 0 1 = cc in absurd (omega arith))
short false y n h = (refl, λ m e. let z : ◌≡◌ {A = ℕ} 0 1 = cc in absurd (omega arith))

pub hex_is : (cs : List ℕ) → length cs ≤ 4 → under (2 ^ 64) (number_in 16 cs) ≡ hex_of cs
hex_is cs h = (short (ltb 0 (length cs)) (digits_in 16 cs) (digits_value 16 cs) (λ _ e. four cs h e)).0 ∙ sym (cond-true _ _ _ (le-leb _ _ h))

pub hex_fits : (cs : List ℕ) (m : ℕ) → length cs ≤ 4 → Some m ≡ under (2 ^ 64) (number_in 16 cs) → m < 2 ^ 16
hex_fits cs m h e = let s = short (ltb 0 (length cs)) (digits_in 16 cs) (digits_value 16 cs) (λ _ d. four cs h d) in s.1 m (e ∙ s.0)
