-- One pin more: its bit of a word, and its variable.
use Rattle.std.proofs.Common.{◌≡◌, ℕ, zero, suc, ◌+◌, ◌/◌, ◌^◌, ◌<◌, List, [], ◌∷◌, ◌++◌, length, get_or, take, sym, refl, ap, ◌∙◌, ap₂, append_assoc, append-nil, add-one, arith}
use native.Mathlib.Nat.{pow-suc, mul_comm, div-one, div-div-eq-div-mul}
use Rattle.std.proofs.lemmas.List.{take_more}
use Rattle.vcd.specs.Headers.{var_line, var_lines}
use Rattle.vcd.specs.Values.{bit_line, bit_lines}

halved : (x n : ℕ) → x / 2 / 2 ^ n ≡ x / 2 ^ suc n
halved x n = div-div-eq-div-mul x 2 (2 ^ n) ∙ ap (λ k. x / k) (mul_comm 2 (2 ^ n) ∙ sym (pow-suc 2 n))

bits_last : (n id word which : ℕ) → bit_lines (suc n) id word which ≡ bit_lines n id word which ++ bit_line (id + n) (word / 2 ^ n) (which / 2 ^ n)
unfolding bit_lines
bits_last zero id word which =
    let i : id + 0 ≡ id = omega arith in
    append-nil (bit_line id word which) ∙ sym (ap (λ j. bit_line j (word / 2 ^ 0) (which / 2 ^ 0)) i ∙ ap₂ (λ v w. bit_line id v w) (div-one word) (div-one which))
bits_last (suc n) id word which =
    let i : id + 1 + n ≡ id + suc n = omega arith in
    ap (λ v. bit_line id word which ++ v) (bits_last n (id + 1) (word / 2) (which / 2) ∙ ap (λ v. bit_lines n (id + 1) (word / 2) (which / 2) ++ v) (ap (λ j. bit_line j (word / 2 / 2 ^ n) (which / 2 / 2 ^ n)) i ∙ ap₂ (λ v w. bit_line (id + suc n) v w) (halved word n) (halved which n)))
    ∙ sym (append_assoc (bit_line id word which) (bit_lines n (id + 1) (word / 2) (which / 2)) (bit_line (id + suc n) (word / 2 ^ suc n) (which / 2 ^ suc n)))

pub bits_more : (n id word which : ℕ) → bit_lines (n + 1) id word which ≡ bit_lines n id word which ++ bit_line (id + n) (word / 2 ^ n) (which / 2 ^ n)
bits_more n id word which = ap (λ k. bit_lines k id word which) (add-one n) ∙ bits_last n id word which

vars_last : (id : ℕ) (suffix : List ℕ) (names : List (List ℕ)) (name : List ℕ) → var_lines id suffix (names ++ name ∷ []) ≡ var_lines id suffix names ++ var_line (id + length names) suffix name
unfolding var_lines
vars_last id suffix [] name =
    let i : id + 0 ≡ id = omega arith in
    append-nil (var_line id suffix name) ∙ sym (ap (λ j. var_line j suffix name) i)
vars_last id suffix (n ∷ ns) name =
    let i : id + 1 + length ns ≡ id + suc (length ns) = omega arith in
    ap (λ v. var_line id suffix n ++ v) (vars_last (id + 1) suffix ns name ∙ ap (λ j. var_lines (id + 1) suffix ns ++ var_line j suffix name) i)
    ∙ sym (append_assoc (var_line id suffix n) (var_lines (id + 1) suffix ns) (var_line (id + suc (length ns)) suffix name))

length-take : {X : Type 0} (n : ℕ) (xs : List X) → n < length xs → length (take n xs) ≡ n
length-take zero xs h = refl
length-take (suc n) [] h = absurd (omega arith)
length-take (suc n) (x ∷ xs) h = ap suc (length-take n xs (omega arith))

pub vars_more : (id : ℕ) (suffix : List ℕ) (names : List (List ℕ)) (n : ℕ) → n < length names → var_lines id suffix (take (n + 1) names) ≡ var_lines id suffix (take n names) ++ var_line (id + n) suffix (get_or names n [])
vars_more id suffix names n h =
    ap (var_lines id suffix) (take_more names n [] h)
    ∙ vars_last id suffix (take n names) (get_or names n [])
    ∙ ap (λ j. var_lines id suffix (take n names) ++ var_line (id + j) suffix (get_or names n [])) (length-take n names h)

-- a variable of the same identifier, suffix and name
pub var_same : {i j : ℕ} {s t m n : List ℕ} → i ≡ j → s ≡ t → m ≡ n → var_line i s m ≡ var_line j t n
var_same {i} {j} {s} {t} {m} {n} ei es en = cc
