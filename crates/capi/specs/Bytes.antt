-- Numbers in a list of bytes, low bytes first.
use Rattle.std.specs.Prelude.{ℕ, ◌+◌, ◌*◌, List, slice_index}

abbrev pub word_at : List ℕ → ℕ → ℕ
word_at b i = slice_index b i + 256 * slice_index b (i + 1)

abbrev pub double_at : List ℕ → ℕ → ℕ
double_at b i = word_at b i + 65536 * word_at b (i + 2)

abbrev pub quad_at : List ℕ → ℕ → ℕ
quad_at b i = double_at b i + 4294967296 * double_at b (i + 4)
