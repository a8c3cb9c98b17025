-- What the sizes of a good description keep.
use Rattle.std.proofs.Common.{◌≡◌, ℕ, ◌+◌, ◌*◌, ◌≤◌, Bool, true, false, cond, List, length, Some, None, Option, nat_lt, refl, arith}
use Rattle.std.proofs.lemmas.Bool.Decides.{nat_tests}
use Rattle.capi.specs.declared.experiment.Wiring.{Wiring}
use Rattle.capi.specs.declared.experiment.Sizes.{Sizes}
use Rattle.capi.specs.declared.experiment.Experiment.{Experiment}
use Rattle.capi.specs.Describing.{wired, sizes_of, fits, described, wiring_of}
use Rattle.capi.specs.Bytes.{word_at}

pub record Good (s : Sizes) (n : ℕ) : Type 0 where
  pub pins : s.pins ≤ 2048
  pub modes : s.modes ≤ 2048
  pub pulses : s.pulses ≤ 4096
  pub long : n ≡ 2210 + 16 * s.pulses + 10 * s.calls

-- a description that passed both tests and has a wiring
passed : (short fit : Bool) (b : List ℕ) (w : Option Wiring) (e : Experiment) → cond short None (cond fit (wired b w) None) ≡ Some e → (fit ≡ true) × (e.sizes ≡ sizes_of b)
passed true fit b w e h = absurd cc
passed false false b w e h = absurd cc
passed false true b None e h = absurd cc
passed false true b (Some x) e h = (refl, cc)

good_of : (s : Sizes) (n : ℕ) → fits s n ≡ true → Good s n
good_of s n h = record { pins = grind (arith, nat_tests); modes = grind (arith, nat_tests); pulses = grind (arith, nat_tests); long = grind (arith, nat_tests) }

pub good : (b : List ℕ) (e : Experiment) → described b ≡ Some e → Good e.sizes (length b)
good b e h =
    let p = passed (nat_lt (length b) 2210) (fits (sizes_of b) (length b)) b (wiring_of (word_at b 2176)) e h in
    rw p.1 (good_of (sizes_of b) (length b) p.0)
