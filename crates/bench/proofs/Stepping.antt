-- What a step keeps of a chip and its charts.
use Rattle.std.proofs.Common.{◌≡◌, ℕ, ◌+◌, ◌^◌, ◌<◌, ◌≤◌, true, List, Some, None, Ok, Err, Option, Result, is_some, sym, refl, ap, ◌∙◌, subst, ap₂, arith}
use Rattle.std.specs.Option.{ok_or}
use Rattle.faults.specs.declared.Fault.{Fault}
use Rattle.faults.specs.declared.Fault.TheVariants.{NoModePlace}
use Rattle.recorder.specs.declared.stretch.Stretch.{Stretch}
use Rattle.recorder.specs.declared.pin_sample.PinSample.{PinSample}
use Rattle.recorder.specs.declared.mode.Mode.{Mode}
use Rattle.recorder.specs.Kinds.{Kind}
use Rattle.recorder.specs.Samples.{pin_kind, mode_kind}
use Rattle.recorder.specs.Charts.{appended}
use Rattle.recorder.proofs.Appending.{Placed, placed, none, grows, begins, unfit, full, way}
use Rattle.bus.specs.Outcomes.{bind}
use Rattle.bench.specs.declared.held.Samples.{Samples}
use Rattle.bench.specs.declared.held.Moment.{Moment}
use Rattle.bench.specs.declared.held.Stretches.{Stretches}
use Rattle.bench.specs.declared.held.Held.{Held}
use Rattle.bench.specs.Ticks.{tick_between}
use Rattle.bench.specs.Charting as charting
use Rattle.bench.specs.Charting.{Charts, both, counted, charted, left}
use Rattle.bench.specs.Runs.{held, step_between}
use Rattle.bench.proofs.Ticking.{tick_after}
use Rattle.bench.specs.Keeps.{Bounded, Ready}

-- what is known from a call's answer and what it left
pub left_ok : {S : Type 0} (o : Result S Fault) (s old : S) → (Ok tt, s) ≡ left o old → o ≡ Ok s
left_ok {S} (Ok x) s old e = ap (λ (p : Result Unit Fault × S). Ok p.1) (sym e)
left_ok {S} (Err f) s old e = let o : Ok tt ≡ Err f = ap (λ (p : Result Unit Fault × S). p.0) e in cc

pub left_err : {S : Type 0} (o : Result S Fault) (s old : S) (f : Fault) → (Err f, s) ≡ left o old → (o ≡ Err f) × (s ≡ old)
left_err {S} (Ok x) s old f e = let o : Err f ≡ Ok tt = ap (λ (p : Result Unit Fault × S). p.0) e in cc
left_err {S} (Err g) s old f e =
    let o : Err f ≡ Err g = ap (λ (p : Result Unit Fault × S). p.0) e in
    let q : g ≡ f = cc in
    (ap (λ (v : Fault). Err v) q, ap (λ (p : Result Unit Fault × S). p.1) e)

-- a chart that has no place for more ticks stays as it is
unplaced : {X : Type 0} (K : Kind X) (cs ds : List (Stretch X)) (n k : ℕ) (x : X) → (None, ds) ≡ appended K cs n k x → ds ≡ cs
unplaced {X} K cs ds n k x e =
    elim (way K cs n k x) [
      | none z q ↦ (let p = e ∙ q in let o : None ≡ Some n = ap (λ (v : Option ℕ × List (Stretch X)). v.0) p in cc)
      | grows h r g q ↦ (let p = e ∙ q in let o : None ≡ Some n = ap (λ (v : Option ℕ × List (Stretch X)). v.0) p in cc)
      | begins h r g l q ↦ (let p = e ∙ q in let o : None ≡ Some (n + 1) = ap (λ (v : Option ℕ × List (Stretch X)). v.0) p in cc)
      | unfit h r q ↦ ap (λ (v : Option ℕ × List (Stretch X)). v.1) (e ∙ q)
      | full h g l p q ↦ ap (λ (v : Option ℕ × List (Stretch X)). v.1) (e ∙ q)
    ]

-- where the pin chart has a place and the mode chart has none
pub mode_stops : (k : ℕ) (x : Samples) (n : Stretches) (c : Charts) (o : Option ℕ) (ms : List (Stretch Mode)) (f : Fault) → is_some (appended pin_kind c.pins n.pins k x.pins).0 ≡ true →
    (o, ms) ≡ appended mode_kind c.modes n.modes k x.mode → Err f ≡ ok_or o NoModePlace → (Err f, (n, both c.pins ms)) ≡ left (charted k x n c) (n, c)
mode_stops k x n c (Some m) ms f p e q = cc
mode_stops k x n c None ms f p e q = go (appended pin_kind c.pins n.pins k x.pins).0 p refl
  where
    kept : ms ≡ c.modes
    kept = unplaced mode_kind c.modes ms n.modes k x.mode e

    none : None ≡ (appended mode_kind c.modes n.modes k x.mode).0
    none = ap (λ (v : Option ℕ × List (Stretch Mode)). v.0) e

    go : (u : Option ℕ) → is_some u ≡ true → (appended pin_kind c.pins n.pins k x.pins).0 ≡ u → (Err f, (n, both c.pins ms)) ≡ left (charted k x n c) (n, c)
    go None p e = cc
    go (Some a) p e = ap₂ (λ (v : Fault) (l : List (Stretch Mode)). (Err v, (n, both c.pins l))) (let w : f ≡ NoModePlace = cc in w) kept ∙ sym (ap₂ (λ (u v : Option ℕ). left (charting.placed u v (both (appended pin_kind c.pins n.pins k x.pins).1 (appended mode_kind c.modes n.modes k x.mode).1)) (n, c)) e (sym none))

-- a step by its parts
pub step_by : (image : List ℕ) (before word : ℕ) (h : Held) (c : Charts) (r : Result (Moment × Samples) Fault) → r ≡ tick_between image before word h.moment →
    bind r (λ t. bind (charted 1 t.1 h.stretches c) (λ s. Ok (held t.0 s.0, s.1))) ≡ step_between image before word h c
unfolding step_between
step_by image before word h c r e = ap (λ (v : Result (Moment × Samples) Fault). bind v (λ t. bind (charted 1 t.1 h.stretches c) (λ s. Ok (held t.0 s.0, s.1)))) e

-- where both charts found a place, each did
pub record Both (k : ℕ) (x : Samples) (n : Stretches) (c : Charts) (s : Stretches × Charts) : Type 0 where
  pub pins : appended pin_kind c.pins n.pins k x.pins ≡ (Some s.0.pins, s.1.pins)
  pub modes : appended mode_kind c.modes n.modes k x.mode ≡ (Some s.0.modes, s.1.modes)

pub both_placed : (k : ℕ) (x : Samples) (n : Stretches) (c : Charts) (s : Stretches × Charts) → charted k x n c ≡ Ok s → Both k x n c s
both_placed k x n c s = go (appended pin_kind c.pins n.pins k x.pins) (appended mode_kind c.modes n.modes k x.mode) refl refl
  where
    go : (p : Option ℕ × List (Stretch PinSample)) (m : Option ℕ × List (Stretch Mode)) → appended pin_kind c.pins n.pins k x.pins ≡ p → appended mode_kind c.modes n.modes k x.mode ≡ m →
        charting.placed p.0 m.0 (both p.1 m.1) ≡ Ok s → Both k x n c s
    go (Some a, ps) (Some b, ms) ep em e =
        let q : ◌≡◌ {A = Stretches × Charts} (counted a b, both ps ms) s = cc in
        record {
          pins = ep ∙ ap (λ (v : Stretches × Charts). (Some v.0.pins, v.1.pins)) q;
          modes = em ∙ ap (λ (v : Stretches × Charts). (Some v.0.modes, v.1.modes)) q;
        }
    go (Some a, ps) (None, ms) ep em e = cc
    go (None, ps) m ep em e = cc

-- what is kept of both charts
pub record Charted (k : ℕ) (h : Held) (c : Charts) (s : Stretches × Charts) : Type 0 where
  pub pins : Placed pin_kind c.pins k h.moment.tick s.0.pins s.1.pins
  pub modes : Placed mode_kind c.modes k h.moment.tick s.0.modes s.1.modes

pub charted_kept : (k : ℕ) (x : Samples) (h : Held) (c : Charts) (s : Stretches × Charts) → Ready h c → 0 < k → charted k x h.stretches c ≡ Ok s → Charted k h c s
charted_kept k x h c s r pos e =
    let b = both_placed k x h.stretches c s e in
    record {
      pins = placed pin_kind c.pins h.stretches.pins k h.moment.tick x.pins s.0.pins s.1.pins r.pins pos b.pins;
      modes = placed mode_kind c.modes h.stretches.modes k h.moment.tick x.mode s.0.modes s.1.modes r.modes pos b.modes;
    }

-- a chip that played k more ticks, and charted them, is ready again
pub ready_again : (k : ℕ) (x : Samples) (h : Held) (c : Charts) (s : Stretches × Charts) (m : Moment) → Ready h c → 0 < k → h.moment.tick + k ≤ 2 ^ 48 → charted k x h.stretches c ≡ Ok s →
    m.tick ≡ h.moment.tick + k → Bounded m.machine → Ready (held m s.0) s.1
ready_again k x h c s m r pos room e at b =
    let q = charted_kept k x h c s r pos e in
    let later = sym at in
    record {
      whole = record { machine = b; tick = omega arith; pins = (λ _. omega arith, λ _. q.pins.some); modes = (λ _. omega arith, λ _. q.modes.some) };
      pins = rw at q.pins.fit;
      modes = rw at q.modes.fit;
    }

-- the chip at a moment, with what its charts gave
abbrev pub then_held : Moment → Result (Stretches × Charts) Fault → Result (Held × Charts) Fault
then_held m r = bind r (λ s. Ok (held m s.0, s.1))

-- ticks that are charted, from what the charts' call answered and left
module _ (h : Held) (c : Charts) (k : ℕ) (x : Samples) (m : Moment) (h' : Held) (c' : Charts) where
  pub charts_stop : (f : Fault) → h'.moment ≡ h.moment → (Err f, (h'.stretches, c')) ≡ left (charted k x h.stretches c) (h.stretches, c) →
      ((Err f, (h', c')) ≡ left (then_held m (charted k x h.stretches c)) (h, c)) × (Ready h c → Ready h' c')
  charts_stop f at e =
      let q = left_err (charted k x h.stretches c) (h'.stretches, c') (h.stretches, c) f e in
      let kept = q.1 in
      let same : ◌≡◌ {A = Held × Charts} (h', c') (h, c) = λ i. (held (at i) (kept i).0, (kept i).1) in
      (ap (λ (v : Held × Charts). (Err f, v)) same ∙ sym (ap (λ (v : Result (Stretches × Charts) Fault). left (then_held m v) (h, c)) q.0), λ r. subst (λ (v : Held × Charts). Ready v.0 v.1) (sym same) r)

  pub charts_go : 0 < k → h.moment.tick + k ≤ 2 ^ 48 → m.tick ≡ h.moment.tick + k → (Ok tt, (h'.stretches, c')) ≡ left (charted k x h.stretches c) (h.stretches, c) →
      ((Ok tt, (held m h'.stretches, c')) ≡ left (then_held m (charted k x h.stretches c)) (h, c)) × ((Bounded h.moment.machine → Bounded m.machine) → Ready h c → Ready (held m h'.stretches) c')
  charts_go pos room at e =
      let q = left_ok (charted k x h.stretches c) (h'.stretches, c') (h.stretches, c) e in
      (sym (ap (λ (v : Result (Stretches × Charts) Fault). left (then_held m v) (h, c)) q), λ b r. ready_again k x h c (h'.stretches, c') m r pos room q at (b r.whole.machine))

-- the answers of a step, from those of its tick and of its charts
module _ (image : List ℕ) (before word : ℕ) (h : Held) (c : Charts) where
  leaves : {a b : Result (Held × Charts) Fault} → a ≡ b → left a (h, c) ≡ left b (h, c)
  leaves e = ap (λ (v : Result (Held × Charts) Fault). left v (h, c)) e

  pub step_faults : (f : Fault) → Err f ≡ tick_between image before word h.moment → (Err f, (h, c)) ≡ left (step_between image before word h c) (h, c)
  step_faults f e = leaves (step_by image before word h c (Err f) e)

  module _ (t : Moment × Samples) (h' : Held) (c' : Charts) (et : Ok t ≡ tick_between image before word h.moment) where
    pub step_stops : (f : Fault) → h'.moment ≡ h.moment → (Err f, (h'.stretches, c')) ≡ left (charted 1 t.1 h.stretches c) (h.stretches, c) →
        ((Err f, (h', c')) ≡ left (step_between image before word h c) (h, c)) × (Ready h c → Ready h' c')
    step_stops f at e = let q = charts_stop h c 1 t.1 t.0 h' c' f at e in (q.0 ∙ leaves (step_by image before word h c (Ok t) et), q.1)

    pub step_goes : h.moment.tick < 2 ^ 48 → (Ok tt, (h'.stretches, c')) ≡ left (charted 1 t.1 h.stretches c) (h.stretches, c) →
        ((Ok tt, (held t.0 h'.stretches, c')) ≡ left (step_between image before word h c) (h, c)) × ((Bounded h.moment.machine → Bounded t.0.machine) → Ready h c → Ready (held t.0 h'.stretches) c')
    step_goes below e = let q = charts_go h c 1 t.1 t.0 h' c' (omega arith) (omega arith) (tick_after image before word h.moment t et) e in (q.0 ∙ leaves (step_by image before word h c (Ok t) et), q.1)

-- a step raises the tick number by 1
pub step_tick : (image : List ℕ) (before word : ℕ) (h : Held) (c : Charts) (s : Held × Charts) → step_between image before word h c ≡ Ok s → s.0.moment.tick ≡ h.moment.tick + 1
unfolding step_between
step_tick image before word h c s = go (tick_between image before word h.moment) refl
  where
    within : (t : Moment × Samples) (r : Result (Stretches × Charts) Fault) → bind r (λ v. Ok (held t.0 v.0, v.1)) ≡ Ok s → s.0.moment ≡ t.0
    within t (Ok v) e =
        let q : ◌≡◌ {A = Held × Charts} (held t.0 v.0, v.1) s = cc in
        sym (ap (λ (z : Held × Charts). z.0.moment) q)
    within t (Err f) e = cc

    go : (r : Result (Moment × Samples) Fault) → tick_between image before word h.moment ≡ r → bind r (λ t. bind (charted 1 t.1 h.stretches c) (λ v. Ok (held t.0 v.0, v.1))) ≡ Ok s → s.0.moment.tick ≡ h.moment.tick + 1
    go (Ok t) et e = ap (λ (m : Moment). m.tick) (within t (charted 1 t.1 h.stretches c) e) ∙ tick_after image before word h.moment t (sym et)
    go (Err f) et e = cc
