-- Bytes cut into lines and fields.
use Rattle.std.specs.Prelude.{ℕ, cond, List, [], ◌∷◌, ◌==◌}
use Rattle.recording.specs.declared.pieces.Pieces.{Pieces}
use Rattle.recording.specs.declared.pieces.Fields.{Fields}

-- one more byte at the front of the first piece
abbrev pub onto : ℕ → List (List ℕ) → List (List ℕ)
onto b [] = (b ∷ []) ∷ []
onto b (p ∷ ps) = (b ∷ p) ∷ ps

-- the pieces that each s ends. What follows the last s is a piece too, unless it is empty
abbrev pub pieces_of : ℕ → List ℕ → List (List ℕ)
pieces_of s [] = []
pieces_of s (b ∷ bs) = cond (b == s) ([] ∷ pieces_of s bs) (onto b (pieces_of s bs))

abbrev pub filled : List (List ℕ) → List (List ℕ)
filled [] = []
filled ([] ∷ ps) = filled ps
filled ((b ∷ p) ∷ ps) = (b ∷ p) ∷ filled ps

-- the lines of a text, each without the 0A that ends it
abbrev pub lines_of : List ℕ → List (List ℕ)
lines_of text = pieces_of 10 text

-- the fields of a line: the longest rows of bytes other than the space
abbrev pub fields_of : List ℕ → List (List ℕ)
fields_of line = filled (pieces_of 32 line)

-- those that an iterator has left
abbrev pub pieces_left : Pieces → List (List ℕ)
pieces_left p = pieces_of p.separator p.rest.now

abbrev pub fields_left : Fields → List (List ℕ)
fields_left f = filled (pieces_left f.pieces)
