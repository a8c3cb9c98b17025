-- At a tick at which no stretch of the pins begins they show what they showed, and the file says nothing of them.
use Rattle.std.proofs.Common.{◌≡◌, ℕ, zero, suc, ◌+◌, ◌/◌, ◌%◌, ◌<◌, cond, eqb, [], ◌∷◌, ◌++◌, refl, ap, ◌∙◌, ap₂, arith}
use Rattle.std.specs.Prelude.{bit_xor}
use Rattle.std.proofs.lemmas.Nat.{xor_mod, xor_shr}
use Rattle.recorder.specs.declared.pin_sample.PinSample.{PinSample}
use Rattle.vcd.specs.Signals.{first_level, first_drive}
use Rattle.vcd.specs.Values.{bit_lines, pin_lines, changed}

even : (x : ℕ) → bit_xor x x % 2 ≡ 0
even x = xor_mod x x 1 ∙ by (x % 2) (omega arith)
  where
    by : (r : ℕ) → r < 2 → bit_xor r r ≡ 0
    by zero h = refl
    by (suc zero) h = refl
    by (suc (suc r)) h = absurd (omega arith)

no_bits : (n id word x : ℕ) → bit_lines n id word (bit_xor x x) ≡ []
unfolding bit_lines
no_bits zero id word x = refl
no_bits (suc n) id word x =
    ap (λ r. cond (eqb r 1) ((48 + word % 2) ∷ id ∷ 10 ∷ []) [] ++ bit_lines n (id + 1) (word / 2) (bit_xor x x / 2)) (even x)
    ∙ ap (bit_lines n (id + 1) (word / 2)) (xor_shr x x 1)
    ∙ no_bits n (id + 1) (word / 2) (x / 2)

unchanged : (p : PinSample) → pin_lines p (changed p p) ≡ []
unchanged p = ap₂ (λ v w. v ++ w) (no_bits 15 first_level p.levels p.levels) (no_bits 15 first_drive p.drive p.drive)
