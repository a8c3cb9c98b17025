-- Ticks of one word, walked one by one, are a move.
use Rattle.std.proofs.Common.{◌≡◌, ℕ, zero, suc, ◌+◌, ◌-◌, ◌^◌, ◌<◌, ◌≤◌, List, Some, None, Option, sym, refl, ap, ◌∙◌, subst, arith}
use Rattle.faults.specs.declared.Fault.TheVariants.{NoPinPlace}
use Rattle.recorder.specs.declared.stretch.Stretch.{Stretch}
use Rattle.recorder.specs.declared.pin_sample.PinSample.{PinSample}
use Rattle.recorder.specs.Charts.{end_of, appended, and_then, one_by_one}
use Rattle.recorder.specs.Histories.{Shows, Told, Adds}
use Rattle.recorder.specs.Samples.{pin_kind}
use Rattle.hosts.specs.Marks.{Quiet}
use Rattle.recorder.proofs.Appending.{refused}
use Rattle.pinchart.specs.declared.charted.Charted.{Charted}
use Rattle.pinchart.specs.Walks.{reached, pins_at, walked, tick_on}

abbrev Answer : Type 0
Answer = Option ℕ × List (Stretch PinSample)

abbrev State : Type 0
State = Charted × List (Stretch PinSample)

module _ (m : ℕ → ℕ) (cs₀ : List (Stretch PinSample)) where
  again : (t j : ℕ) → walked m (t + suc j) cs₀ ≡ tick_on m (t + j) (walked m (t + j) cs₀)
  again t j = let e : t + suc j ≡ suc (t + j) = omega arith in ap (λ i. walked m i cs₀) e

  none : (t : ℕ) → walked m (t + zero) cs₀ ≡ walked m t cs₀
  none t = let e : t + zero ≡ t = omega arith in ap (λ i. walked m i cs₀) e

  module _ (t n : ℕ) (cs : List (Stretch PinSample)) (x : PinSample) (at : walked m t cs₀ ≡ (reached t n None, cs)) where
    moves : (j c : ℕ) (ds : List (Stretch PinSample)) → ((u : ℕ) → t ≤ u → u < t + j → pins_at m u ≡ x) → one_by_one pin_kind cs n j x ≡ (Some c, ds) → walked m (t + j) cs₀ ≡ (reached (t + j) c None, ds)
    moves zero c ds same e =
        let a : Some n ≡ Some c = ap (λ (z : Answer). z.0) e in
        let b : cs ≡ ds = ap (λ (z : Answer). z.1) e in
        let z : t + zero ≡ t = omega arith in
        let w = none t in
        cc
    moves (suc j) c ds same e =
        go (one_by_one pin_kind cs n j x) e (λ c' ds' q. moves j c' ds' (λ u lo hi. same u lo (omega arith)) q) refl
      where
        go : (o : Answer) → and_then pin_kind 1 x o ≡ (Some c, ds) → ((c' : ℕ) (ds' : List (Stretch PinSample)) → one_by_one pin_kind cs n j x ≡ (Some c', ds') → walked m (t + j) cs₀ ≡ (reached (t + j) c' None, ds')) → one_by_one pin_kind cs n j x ≡ o → walked m (t + suc j) cs₀ ≡ (reached (t + suc j) c None, ds)
        go (Some c', ds') e rest q =
            let w = again t j in
            let r = rest c' ds' q in
            let s : pins_at m (t + j) ≡ x = same (t + j) (omega arith) (omega arith) in
            let z : t + suc j ≡ suc (t + j) = omega arith in
            cc
        go (None, ds') e rest q = absurd (cc (ap (λ (a : Answer). a.0) e))

    stops : (ds : List (Stretch PinSample)) → pins_at m t ≡ x → appended pin_kind cs n 1 x ≡ (None, ds) → (j : ℕ) → walked m (t + suc j) cs₀ ≡ (reached t n (Some NoPinPlace), ds)
    stops ds same e zero =
        let w = again t zero in
        let z = none t in
        let y : t + zero ≡ t = omega arith in
        cc
    stops ds same e (suc j) =
        let w = again t (suc j) in
        let r = stops ds same e j in
        cc

-- a move from tick t to tick u, over the word w of all its ticks
module _ (m : ℕ → ℕ) (cs₀ : List (Stretch PinSample)) (t u n w : ℕ) (cs : List (Stretch PinSample)) (up : t < u) (early : u ≤ 2 ^ 48) (told : Told pin_kind (pins_at m) cs n t) (at : walked m t cs₀ ≡ (reached t n None, cs)) (word : w ≡ m t) (quiet : Quiet m t u) where
  abbrev sample : PinSample
  sample = record { levels = w; drive = 0 }

  same : (v : ℕ) → t ≤ v → v < t + (u - t) → pins_at m v ≡ sample
  same v lo hi = ap (λ i. record { levels = i; drive = 0 }) (quiet v lo (omega arith) ∙ sym word)

  fits : end_of pin_kind cs n + (u - t) < 2 ^ 64
  fits = omega (arith, told.shown.last)

  pub moved : (c : ℕ) (ds : List (Stretch PinSample)) → Adds pin_kind cs n (u - t) sample (Some c) ds → Told pin_kind (pins_at m) ds c u × (walked m u cs₀ ≡ (reached u c None, ds))
  moved c ds added =
      let e : t + (u - t) ≡ u = omega arith in (
        subst (λ (i : ℕ). Told pin_kind (pins_at m) ds c i) e (added.history (pins_at m) t told.since same),
        subst (λ (i : ℕ). walked m i cs₀ ≡ (reached i c None, ds)) e (moves m cs₀ t n cs sample at (u - t) c ds same (sym (added.repeated fits))),
      )

  pub stopped : (ds : List (Stretch PinSample)) (e : ℕ) → u ≤ e → (None, ds) ≡ appended pin_kind cs n (u - t) sample → Shows pin_kind (pins_at m) ds n t × ((reached t n (Some NoPinPlace), ds) ≡ walked m e cs₀)
  stopped ds e le why =
      let r = refused pin_kind cs ds n (u - t) sample fits (sym why) in
      let back = sym r.1 in
      let i : t + suc (e - t - 1) ≡ e = omega arith in (
        subst (λ (z : List (Stretch PinSample)). Shows pin_kind (pins_at m) z n t) back told.shown,
        sym (subst (λ (z : ℕ). walked m z cs₀ ≡ (reached t n (Some NoPinPlace), ds)) i (stops m cs₀ t n cs sample at ds (same t (omega arith) (omega arith)) (subst (λ (z : List (Stretch PinSample)). appended pin_kind cs n 1 sample ≡ (None, z)) back r.0) (e - t - 1))),
      )
