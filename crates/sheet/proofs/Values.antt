-- Rules over the numbers below n, compared by the lists of their values, which antt computes.
use Rattle.std.proofs.Common.{◌≡◌, ℕ, ◌<◌, List, map, get_or, sym, refl, ap, ◌∙◌, zero-add}
use Rattle.std.specs.List.{range_with_len}
use Rattle.std.proofs.lemmas.List.FromFn.{get_or-map-range_with_len}

-- the values of f at the numbers below n
abbrev pub values : {T : Type 0} → (ℕ → T) → ℕ → List T
values f n = map f (range_with_len 0 n)

-- a table that is the list of a rule's values is the rule at each place
pub at : {T : Type 0} (f : ℕ → T) (n : ℕ) (xs : List T) (d : T) → xs ≡ values f n → (k : ℕ) → k < n → get_or xs k d ≡ f k
at f n xs d e k h = ap (λ l. get_or l k d) e ∙ get_or-map-range_with_len f 0 n k k d h (zero-add k)

-- two rules with the same list of values agree
pub agree : {T : Type 0} (f g : ℕ → T) (n : ℕ) → values f n ≡ values g n → (k : ℕ) → k < n → f k ≡ g k
agree f g n e k h = sym (at f n (values f n) (f 0) refl k h) ∙ at g n (values f n) (f 0) e k h
