-- The laws of the flags and the stack pointer.
use Rattle.std.proofs.Common.{◌≡◌, ℕ, ◌+◌, ◌-◌, ◌*◌, ◌%◌, ◌<◌, Bool, true, false, not, eqb, leb, ap, arith}
use Rattle.std.proofs.lemmas.Bool.Decides.{nat_tests}
use Rattle.cpu.specs.State.{bit, with_sp}
use Rattle.cpu.specs.Effects.{added}
use Rattle.cpu.specs.Laws.{Laws, lifted, fits_signed}

whole_at : (p q : ℕ) (carry : Bool) → p < 256 → q < 256 → (added p q carry).value + 256 * bit (added p q carry).c ≡ p + q + bit carry
whole_at p q true hp hq = grind (arith, nat_tests)
whole_at p q false hp hq = grind (arith, nat_tests)

overflow_at : (p q : ℕ) (carry : Bool) → p < 256 → q < 256 → (added p q carry).v ≡ not (fits_signed (lifted p + lifted q + bit carry))
overflow_at p q true hp hq = grind (arith, nat_tests)
overflow_at p q false hp hq = grind (arith, nat_tests)

order_at : (q m : ℕ) → q < 256 → m < 256 → leb 256 (q + (255 - m) + 1) ≡ leb m q
order_at q m hq hm = grind (arith, nat_tests)

equal_at : (q m : ℕ) → q < 256 → m < 256 → eqb ((q + (255 - m) + 1) % 256) 0 ≡ eqb q m
equal_at q m hq hm = grind (arith, nat_tests)

lowered_raised : (k : ℕ) → k < 256 → ((k + 255) % 256 + 1) % 256 ≡ k
lowered_raised k h = omega arith

pub laws : Laws
laws =
    record {
      whole = whole_at;
      overflow = overflow_at;
      order = λ s. order_at;
      equal = λ s. equal_at;
      stack = λ s h. ap (λ k. (with_sp s k, k)) (lowered_raised s.sp h);
    }
