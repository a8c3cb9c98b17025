-- What is known of a kind of sample.
use Rattle.std.specs.Prelude.{◌≡◌, ℕ, ◌≤◌, Bool, List, length, Decides}

-- likeness is equality; `none` is any sample, read where a chart has no place
pub record Kind (X : Type 0) : Type 0 where
  pub like : X → X → Bool
  pub exact : (x y : X) → Decides (like x y) (x ≡ y)
  pub none : X

-- the letter of its lines, and a text of at most 19 bytes
pub record Script (X : Type 0) : Type 0 where
  pub letter : ℕ
  pub text : X → List ℕ
  pub short : (x : X) → length (text x) ≤ 19
