-- The pulses of a divider, for every divider.
use Rattle.std.proofs.Common.{◌≡◌, ℕ, ◌+◌, ◌-◌, ◌*◌, ◌/◌, ◌%◌, ◌^◌, ◌<◌, ◌≤◌, sym, ap, ◌∙◌, mod-lt, div-lt_iff_lt-mul, add-mul, div-add-mod', le-div_iff_mul-le, div-mul-le_self, arith}
use native.Mathlib.Nat.{mul-add-div_right, div-eq_of_lt-le, add-div_right, lt-div-mul-add, dvd_of_mod-eq-zero, mod-mod_of_dvd, mul-mod_left}
use Rattle.std.proofs.lemmas.Nat.{mul-le, pow_pos, pow-add}
use Rattle.counters.specs.Counting.{pulses_in, before_pulse}

-- the ticks that pass whole dividers, and what the two rests make up
pub pulses_split : (d p k : ℕ) → 0 < d → k / d + (p % d + k % d) / d ≡ (p + k) / d - p / d
pulses_split d p k pos =
    let whole : p + k ≡ (p / d + k / d) * d + (p % d + k % d) = omega (arith, div-add-mod' p d, div-add-mod' k d, add-mul (p / d) (k / d) d) in
    let q : (p + k) / d ≡ p / d + k / d + (p % d + k % d) / d = ap (λ n. n / d) whole ∙ mul-add-div_right pos (p / d + k / d) (p % d + k % d) in
    omega arith

-- there are no more pulses than ticks
pub pulses_few : (d p k : ℕ) → 0 < d → k / d + (p % d + k % d) / d ≤ k
pulses_few d p k pos =
    let r = k % d in
    let small : p % d < d = mod-lt p pos in
    let more : r ≤ r * d = omega (arith, mul-le r 1 r d (omega arith) (omega arith)) in
    let few : (p % d + r) / d < r + 1 = (div-lt_iff_lt-mul pos).1 (omega (arith, add-mul r 1 d)) in
    let wide : k / d ≤ k / d * d = omega (arith, mul-le (k / d) 1 (k / d) d (omega arith) (omega arith)) in
    omega (arith, div-add-mod' k d)

-- from one number to the next the quotient grows by 1 at a multiple, and stays elsewhere
div_pulse : (d n : ℕ) → 0 < d → (n + 1) % d ≡ 0 → (n + 1) / d ≡ n / d + 1
div_pulse d n pos e =
    let whole = div-add-mod' (n + 1) d in
    let q : (n + d) / d ≡ (n + 1) / d = div-eq_of_lt-le d (omega arith) (omega (arith, add-mul ((n + 1) / d) 1 d)) in
    sym q ∙ add-div_right n pos

div_idle : (d n : ℕ) → 0 < d → ((n + 1) % d ≡ 0 → ⊥) → (n + 1) / d ≡ n / d
div_idle d n pos ne =
    let whole = div-add-mod' (n + 1) d in
    let small = mod-lt (n + 1) pos in
    sym (div-eq_of_lt-le d (omega arith) (omega (arith, add-mul ((n + 1) / d) 1 d)))

div_more : (d p k : ℕ) → 0 < d → p / d ≤ (p + k) / d
div_more d p k pos = (le-div_iff_mul-le pos).1 (omega (arith, div-mul-le_self p d))

-- one tick more: one pulse more where the sum is a multiple, else none
pub more_pulse : (s p j : ℕ) → (p + j + 1) % 2 ^ s ≡ 0 → pulses_in s p (j + 1) ≡ pulses_in s p j + 1
more_pulse s p j e =
    let a : (p + (j + 1)) / 2 ^ s ≡ (p + j + 1) / 2 ^ s = ap (λ n. n / 2 ^ s) (omega arith) in
    omega (arith, div_pulse (2 ^ s) (p + j) (pow_pos s) e, div_more (2 ^ s) p j (pow_pos s))

pub same_pulse : (s p j : ℕ) → ((p + j + 1) % 2 ^ s ≡ 0 → ⊥) → pulses_in s p (j + 1) ≡ pulses_in s p j
same_pulse s p j ne =
    let a : (p + (j + 1)) / 2 ^ s ≡ (p + j + 1) / 2 ^ s = ap (λ n. n / 2 ^ s) (omega arith) in
    omega (arith, div_idle (2 ^ s) (p + j) (pow_pos s) ne)

-- the wrapped prescaler is a multiple where the whole sum is
pub wrapped : (s n : ℕ) → s ≤ 11 → n % 2048 % 2 ^ s ≡ n % 2 ^ s
wrapped s n h =
    let e : 11 ≡ 11 - s + s = omega arith in
    let whole : 2048 ≡ 2 ^ (11 - s) * 2 ^ s = ap (λ k. 2 ^ k) e ∙ pow-add 2 (11 - s) s in
    mod-mod_of_dvd (2 ^ s) n (dvd_of_mod-eq-zero (2 ^ s) (ap (λ n. n % 2 ^ s) whole ∙ mul-mod_left (2 ^ (11 - s)) (2 ^ s)))

-- before the pulse that follows g others there are at most g, and at it there have been just g
pub pulses_before : (s p k g : ℕ) → k ≤ before_pulse s p g → pulses_in s p k ≤ g
pulses_before s p k g h =
    let pos = pow_pos s in
    let more = mul-le (p / 2 ^ s + 1) (2 ^ s) (p / 2 ^ s + g + 1) (2 ^ s) (omega arith) (omega arith) in
    let q : (p + k) / 2 ^ s < p / 2 ^ s + g + 1 = (div-lt_iff_lt-mul pos).1 (omega (arith, lt-div-mul-add {a = p} pos, add-mul (p / 2 ^ s) 1 (2 ^ s))) in
    omega arith

pub pulse_after : (s p g : ℕ) → (pulses_in s p (before_pulse s p g) ≡ g) × ((p + before_pulse s p g + 1) % 2 ^ s ≡ 0)
pulse_after s p g =
    let pos = pow_pos s in
    let more = mul-le (p / 2 ^ s + 1) (2 ^ s) (p / 2 ^ s + g + 1) (2 ^ s) (omega arith) (omega arith) in
    let at : p + before_pulse s p g + 1 ≡ (p / 2 ^ s + g + 1) * 2 ^ s = omega (arith, lt-div-mul-add {a = p} pos, add-mul (p / 2 ^ s) 1 (2 ^ s)) in
    let q : (p + before_pulse s p g) / 2 ^ s ≡ p / 2 ^ s + g = div-eq_of_lt-le (2 ^ s) (omega (arith, add-mul (p / 2 ^ s + g) 1 (2 ^ s))) (omega arith) in
    (omega arith, ap (λ x. x % 2 ^ s) at ∙ mul-mod_left (p / 2 ^ s + g + 1) (2 ^ s))
