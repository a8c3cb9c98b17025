-- Every entry of the rule is sound: one test, computed at all 256 codes.
use Rattle.std.proofs.Common.{◌≡◌, ℕ, ◌+◌, ◌<◌, Bool, true, cond, ◌&&◌, leb, refl, ap, ◌∙◌, arith}
use Rattle.std.proofs.lemmas.Bool.Decides.{nat_tests}
use Rattle.sheet.specs.declared.table.Entry.{Entry}
use Rattle.sheet.specs.Rule.{entry_at}
use Rattle.sheet.specs.Sound.{Sound, is_branch, is_listed}
use Rattle.sheet.proofs.Values.{agree}

abbrev given : Bool → Bool → Bool
given a b = cond a b true

abbrev holds : Entry → Bool
holds e =
    leb 1 e.bytes && (leb e.bytes 3 && (leb e.cycles 8
    && (given (is_branch e.operation) (leb (e.cycles + 2) 8) && given (is_listed e.operation) (leb 2 e.cycles))))

parts : (e : Entry) → holds e ≡ true → Sound e
parts e h = grind (arith, nat_tests)

pub sound : (e : Entry) (k : ℕ) → k < 256 → e ≡ entry_at k → Sound e
unfolding entry_at
sound e k h q = parts e (ap holds q ∙ agree (λ i. holds (entry_at i)) (λ _. true) 256 refl k h)
