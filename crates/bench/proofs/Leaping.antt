-- A leap is its ticks, one by one.
use Rattle.std.proofs.Common.{◌≡◌, ℕ, zero, suc, ◌+◌, ◌-◌, ◌^◌, ◌<◌, ◌≤◌, max, List, IfOk, Some, None, Ok, Err, Option, Result, sym, refl, ap, ◌∙◌, subst, ap₂, inl, inr, arith}
use Rattle.std.proofs.lemmas.Bool.{eq-eqb, ne_eqb, cases_lt}
use Rattle.faults.specs.declared.Fault.{Fault}
use Rattle.recorder.specs.declared.stretch.Stretch.{Stretch}
use Rattle.recorder.specs.declared.pin_sample.PinSample.{PinSample}
use Rattle.recorder.specs.declared.mode.Mode.{Mode}
use Rattle.recorder.specs.Kinds.{Kind}
use Rattle.recorder.specs.Samples.{pin_kind, mode_kind}
use Rattle.recorder.specs.Charts.{appended, and_then, Fit}
use Rattle.recorder.proofs.Appending.{same_place, twice}
use Rattle.bus.specs.Outcomes.{bind}
use Rattle.machine.specs.declared.state.Machine.{Machine}
use Rattle.machine.specs.declared.state.Action.{Action}
use Rattle.machine.specs.Tick.{acted, begun, finished}
use Rattle.machine.specs.Quiet.{moved, QuietTick, Sound}
use Rattle.bench.specs.declared.held.Samples.{Samples}
use Rattle.bench.specs.declared.held.Moment.{Moment}
use Rattle.bench.specs.declared.held.Stretches.{Stretches}
use Rattle.bench.specs.declared.held.Held.{Held}
use Rattle.bench.specs.declared.leap.Seen.{Seen}
use Rattle.bench.specs.Ticks.{moment, samples_of, tick_between}
use Rattle.bench.specs.Charting.{Charts, both, counted, placed, charted, left}
use Rattle.bench.specs.Runs.{held, step_between, stepped, answer, ran}
use Rattle.bench.specs.Keeps.{Bounded, Whole, Ready}
use Rattle.bench.specs.Leaps.{seen, Sees, stride, Stride, takes, onward, moved_on, advanced, reach, Reaches}
use Rattle.bench.proofs.Ticking.{tick_by}
use Rattle.bench.proofs.Stepping.{left_ok, left_err, step_by, both_placed, then_held, charts_stop, charts_go, step_tick}
use Rattle.bench.proofs.Running.{Running, ran_by, ahead, running_more, running_stop}

-- one more tick of a sample behind k others, in the stretch that has them
one_more : {X : Type 0} (K : Kind X) (cs : List (Stretch X)) (n t k p : ℕ) (x : X) → Fit K cs n t → 0 < k → t + (k + 1) ≤ 2 ^ 48 → (appended K cs n k x).0 ≡ Some p →
    (appended K (appended K cs n k x).1 p 1 x ≡ appended K cs n (k + 1) x) × ((appended K cs n (k + 1) x).0 ≡ Some p)
one_more K cs n t k p x fit pos room e =
    let end = fit.ends in
    (ap (λ (o : Option ℕ). and_then K 1 x (o, (appended K cs n k x).1)) (sym e) ∙ twice K cs n k 1 x (omega arith), same_place K cs n (k + 1) k x fit.places (omega arith) pos (omega arith) (omega arith) ∙ e)

-- k quiet ticks before a host that shows one word from the tick before on
module _ (image : List ℕ) (host : ℕ → ℕ) (h : Held) (c : Charts) (w k : ℕ)
    (quiet : (j : ℕ) → j < k → QuietTick h.moment.machine image w j) (starts : moved 0 h.moment.machine ≡ h.moment.machine)
    (shows : (v : ℕ) → h.moment.tick - 1 ≤ v → v < h.moment.tick + k → host v ≡ w) (ready : Ready h c) (room : h.moment.tick + k ≤ 2 ^ 48) where
  abbrev m : Machine
  m = h.moment.machine

  abbrev t : ℕ
  t = h.moment.tick

  abbrev x : Samples
  x = samples_of m w

  abbrev pins : ℕ → Option ℕ × List (Stretch PinSample)
  pins j = appended pin_kind c.pins h.stretches.pins j x.pins

  abbrev modes : ℕ → Option ℕ × List (Stretch Mode)
  modes j = appended mode_kind c.modes h.stretches.modes j x.mode

  -- the chip and its charts after j of the ticks
  abbrev held_at : ℕ → ℕ → ℕ → Held
  held_at p q j = held (moment (moved j m) (t + j)) (counted p q)

  abbrev charts_at : ℕ → Charts
  charts_at j = both (pins j).1 (modes j).1

  between : (j : ℕ) → j < k → tick_between image w w (moment (moved j m) (t + j)) ≡ Ok (moment (moved (j + 1) m) (t + (j + 1)), x)
  unfolding tick_between
  between j b =
      let q = quiet j b in
      let on = q.on in
      let pin = q.pins in
      let tick : t + j + 1 ≡ t + (j + 1) = omega arith in
      ap (λ (a : Action). bind (acted (moved j m) image w a) (λ s. Ok (moment (finished s image w w) (t + j + 1), samples_of s w))) q.rests
      ∙ (λ i. Ok (moment (on i) (tick i), record { pins = pin i; mode = m.parts.mode }))

  -- the chip's step, wherever its machine is that of the j-th tick
  step_at : (j : ℕ) (n : Stretches) (d : Charts) → j < k → stepped image host (held (moment (moved j m) (t + j)) n) d ≡ then_held (moment (moved (j + 1) m) (t + (j + 1))) (charted 1 x n d)
  step_at j n d b =
      ap₂ (λ (u v : ℕ). step_between image u v (held (moment (moved j m) (t + j)) n) d) (shows (t + j - 1) (omega arith) (omega arith)) (shows (t + j) (omega arith) (omega arith))
      ∙ sym (step_by image w w (held (moment (moved j m) (t + j)) n) d _ (sym (between j b)))

  pub first : 0 < k → stepped image host h c ≡ then_held (moment (moved 1 m) (t + 1)) (charted 1 x h.stretches c)
  first b =
      let tick : t ≡ t + 0 = omega arith in
      ap₂ (λ (v : Machine) (u : ℕ). stepped image host (held (moment v u) h.stretches) c) (sym starts) tick ∙ step_at 0 h.stretches c b

  module _ (p q : ℕ) (ep : (pins 1).0 ≡ Some p) (eq : (modes 1).0 ≡ Some q) where
    abbrev Placed : ℕ → Type 0
    Placed j = ((pins j).0 ≡ Some p) × ((modes j).0 ≡ Some q)

    places : (j : ℕ) → 0 < j → j ≤ k → Placed j
    places j pos b =
        let ends = ready.pins.ends in
        let mends = ready.modes.ends in (
          same_place pin_kind c.pins h.stretches.pins j 1 x.pins ready.pins.places pos (omega arith) (omega arith) (omega arith) ∙ ep,
          same_place mode_kind c.modes h.stretches.modes j 1 x.mode ready.modes.places pos (omega arith) (omega arith) (omega arith) ∙ eq,
        )

    pub charted_at : (j : ℕ) → 0 < j → j ≤ k → charted j x h.stretches c ≡ Ok (counted p q, charts_at j)
    charted_at j pos b = let e = places j pos b in ap₂ (λ (u v : Option ℕ). placed u v (charts_at j)) e.0 e.1

    -- the charts of one more tick
    charted_more : (j : ℕ) → 0 < j → j < k → charted 1 x (counted p q) (charts_at j) ≡ Ok (counted p q, charts_at (j + 1))
    charted_more j pos b =
        let e = places j pos (omega arith) in
        let a = one_more pin_kind c.pins h.stretches.pins t j p x.pins ready.pins pos (omega arith) e.0 in
        let d = one_more mode_kind c.modes h.stretches.modes t j q x.mode ready.modes pos (omega arith) e.1 in
        ap₂ (λ (u : Option ℕ × List (Stretch PinSample)) (v : Option ℕ × List (Stretch Mode)). placed u.0 v.0 (both u.1 v.1)) a.0 d.0
        ∙ ap₂ (λ (u v : Option ℕ). placed u v (charts_at (j + 1))) a.1 d.1

    -- from any chip h' whose first step is the same
    goes : (h' : Held) → stepped image host h' c ≡ stepped image host h c → (j g done : ℕ) → suc j ≤ k → ran image host (suc j + g) done h' c ≡ ran image host g (done + suc j) (held_at p q (suc j)) (charts_at (suc j))
    goes h' same zero g done b =
        let e : 1 + g ≡ suc g = omega arith in
        ap (λ (v : ℕ). ran image host v done h' c) e
        ∙ ran_by image host g done h' c (Ok (held_at p q 1, charts_at 1)) (same ∙ first b ∙ ap (then_held (moment (moved 1 m) (t + 1))) (charted_at 1 (omega arith) b))
    goes h' same (suc j) g done b =
        let e : suc (suc j) + g ≡ suc j + suc g = omega arith in
        let o : suc j + 1 ≡ suc (suc j) = omega arith in
        let d : done + suc j + 1 ≡ done + suc (suc j) = omega arith in
        ap (λ (v : ℕ). ran image host v done h' c) e ∙ goes h' same j (suc g) done (omega arith)
        ∙ ran_by image host g (done + suc j) (held_at p q (suc j)) (charts_at (suc j)) (Ok (held_at p q (suc j + 1), charts_at (suc j + 1))) (step_at (suc j) (counted p q) (charts_at (suc j)) b ∙ ap (then_held (moment (moved (suc j + 1) m) (t + (suc j + 1)))) (charted_more (suc j) (omega arith) b))
        ∙ ap₂ (λ (u v : ℕ). ran image host g u (held_at p q v) (charts_at v)) d o

  -- a leap that finds its places is its ticks
  pub arrives : (h' : Held) → stepped image host h' c ≡ stepped image host h c → 0 < k → (s : Stretches × Charts) → charted k x h.stretches c ≡ Ok s → (g done : ℕ) → ran image host (k + g) done h' c ≡ ran image host g (done + k) (held (moment (moved k m) (t + k)) s.0) s.1
  arrives h' same pos s e g done =
      let ends = ready.pins.ends in
      let mends = ready.modes.ends in
      let b = both_placed k x h.stretches c s e in
      let bp = b.pins in
      let bm = b.modes in
      let ep = same_place pin_kind c.pins h.stretches.pins 1 k x.pins ready.pins.places (omega arith) pos (omega arith) (omega arith) ∙ ap (λ (v : Option ℕ × List (Stretch PinSample)). v.0) bp in
      let eq = same_place mode_kind c.modes h.stretches.modes 1 k x.mode ready.modes.places (omega arith) pos (omega arith) (omega arith) ∙ ap (λ (v : Option ℕ × List (Stretch Mode)). v.0) bm in
      let all : suc (k - 1) ≡ k = omega arith in
      ap (λ (v : ℕ). ran image host (v + g) done h' c) (sym all) ∙ goes s.0.pins s.0.modes ep eq h' same (k - 1) g done (omega arith)
      ∙ ap (λ (v : ℕ). ran image host g (done + v) (held_at s.0.pins s.0.modes v) (charts_at v)) all
      ∙ (λ i. ran image host g (done + k) (held_at s.0.pins s.0.modes k) (both (bp i).1 (bm i).1))

  -- where the first tick has no place, a leap has none
  pub full : (f : Fault) → 0 < k → charted k x h.stretches c ≡ Err f → stepped image host h c ≡ Err f
  full f pos e =
      let ends = ready.pins.ends in
      let mends = ready.modes.ends in
      let ep = same_place pin_kind c.pins h.stretches.pins 1 k x.pins ready.pins.places (omega arith) pos (omega arith) (omega arith) in
      let eq = same_place mode_kind c.modes h.stretches.modes 1 k x.mode ready.modes.places (omega arith) pos (omega arith) (omega arith) in
      first pos ∙ ap (then_held (moment (moved 1 m) (t + 1))) (ap₂ (λ (u v : Option ℕ). placed u v (charts_at 1)) ep eq ∙ stays (pins k).0 (modes k).0 e)
    where
      stays : (u v : Option ℕ) → placed u v (charts_at k) ≡ Err f → placed u v (charts_at 1) ≡ Err f
      stays (Some a) (Some b) e = cc
      stays (Some a) None e = e
      stays None v e = e

-- a move of a leap run, of a chip that has acted and is m now
module _ (image : List ℕ) (host : ℕ → ℕ) (grant : ℕ) (h₀ : Held) (c₀ : Charts) (done : ℕ) (h : Held) (c : Charts) (r : Running image host grant h₀ c₀ done h c)
    (n : Seen) (sees : Sees host h.moment.tick n) (coming : h.moment.tick < n.until) (below : done < grant) where
  -- a move takes some ticks of the run, within the grant and the mark
  pub record Moves (o : Result (Held × Charts) Fault) (taken : ℕ) : Type 0 where
    pub on : (s : Held × Charts) → o ≡ Ok s → Ready s.0 s.1 → Running image host grant h₀ c₀ (done + taken) s.0 s.1 × (s.0.moment.tick ≡ h.moment.tick + taken) × (0 < taken) × (done + taken ≤ grant) × (h.moment.tick + taken ≤ n.until)
    pub stop : (f : Fault) → o ≡ Err f → answer done (Some f) h c ≡ ran image host grant 0 h₀ c₀

  as_stepped : step_between image n.before n.word h c ≡ stepped image host h c
  as_stepped = ap₂ (λ (u v : ℕ). step_between image u v h c) sees.before (sym (sees.word h.moment.tick (omega arith) coming))

  module _ (m : Machine) (acts : begun h.moment.machine image n.word ≡ Ok m) where
    -- the next step
    steps_as : then_held (moment (finished m image n.before n.word) (h.moment.tick + 1)) (charted 1 (samples_of m n.word) h.stretches c) ≡ stepped image host h c
    steps_as = step_by image n.before n.word h c (Ok (moment (finished m image n.before n.word) (h.moment.tick + 1), samples_of m n.word)) (tick_by image n.before n.word h.moment (Ok m) (sym acts)) ∙ as_stepped

    one_tick : Moves (then_held (moment (finished m image n.before n.word) (h.moment.tick + 1)) (charted 1 (samples_of m n.word) h.stretches c)) 1
    one_tick = record {
      on = λ s e ready. (let o = sym steps_as ∙ e in let tick = step_tick image _ _ h c s o in (running_more image host grant h₀ c₀ done h c r s.0 s.1 below o tick ready, tick, omega arith, omega arith, omega arith));
      stop = λ f e. running_stop image host grant h₀ c₀ done h c r f below (sym steps_as ∙ e);
    }

    module _ (k : ℕ) (pos : 0 < k) (far : Stride (moment m h.moment.tick) n (grant - done) k) (b : Bounded m) where
      abbrev acted_on : Held
      acted_on = held (moment m h.moment.tick) h.stretches

      abbrev landing : Moment
      landing = moment (moved k m) (h.moment.tick + k)

      abbrev charted_there : Result (Stretches × Charts) Fault
      charted_there = charted k (samples_of m n.word) h.stretches c

      ready_on : Ready acted_on c
      ready_on = let w = r.ready.whole in record { whole = record { machine = b; tick = w.tick; pins = w.pins; modes = w.modes }; pins = r.ready.pins; modes = r.ready.modes }

      room_on : h.moment.tick + k ≤ 2 ^ 48
      room_on = omega (arith, r.room, far.granted)

      -- the host shows one word from the tick before on
      one_word : (v : ℕ) → h.moment.tick - 1 ≤ v → v < h.moment.tick + k → host v ≡ n.word
      one_word v from to =
          let marked = far.marked in
          elim (cases_lt v h.moment.tick) [
            | inl b ↦ (let e : v ≡ h.moment.tick - 1 = omega arith in ap host e ∙ sym sees.before ∙ far.same pos)
            | inr b ↦ sees.word v b (omega arith)
          ]

      -- the step of the chip that has acted is the chip's own
      same_step : stepped image host h c ≡ stepped image host acted_on c
      same_step =
          let q = far.quiet image 0 pos in
          let start = far.starts pos in
          let ends : finished m image n.before n.word ≡ moved 1 m =
          ap₂ (λ (v : Machine) (w : ℕ). finished v image w n.word) (sym start) (far.same pos) ∙ q.on in
          sym steps_as ∙ ap (λ (v : Machine). then_held (moment v (h.moment.tick + 1)) (charted 1 (samples_of m n.word) h.stretches c)) ends
          ∙ sym (first image host acted_on c n.word k (far.quiet image) start one_word ready_on room_on pos)

      leaps_on : (o : Result (Stretches × Charts) Fault) → charted_there ≡ o → (s : Held × Charts) → then_held landing o ≡ Ok s → Ready s.0 s.1 →
          Running image host grant h₀ c₀ (done + k) s.0 s.1 × (s.0.moment.tick ≡ h.moment.tick + k) × (0 < k) × (done + k ≤ grant) × (h.moment.tick + k ≤ n.until)
      leaps_on (Err f) e s q ready = cc
      leaps_on (Ok v) e s q ready =
          let same : ◌≡◌ {A = Held × Charts} (held landing v.0, v.1) s = cc in
          let within = far.granted in
          let marked = far.marked in
          let room = r.room in
          let to = arrives image host acted_on c n.word k (far.quiet image) (far.starts pos) one_word ready_on room_on h same_step pos v e (grant - (done + k)) done in
          let tick : s.0.moment.tick ≡ h.moment.tick + k = ap (λ (z : Held × Charts). z.0.moment.tick) (sym same) in (
            record {
              rest = ap (λ (z : Held × Charts). ran image host (grant - (done + k)) (done + k) z.0 z.1) (sym same) ∙ sym to ∙ ahead image host grant h₀ c₀ done h c r k (omega arith);
              room = omega arith;
              ready = ready;
            },
            tick,
            pos,
            omega arith,
            omega arith,
          )

      leaps_stop : (o : Result (Stretches × Charts) Fault) → charted_there ≡ o → (f : Fault) → then_held landing o ≡ Err f → answer done (Some f) h c ≡ ran image host grant 0 h₀ c₀
      leaps_stop (Ok v) e f q = cc
      leaps_stop (Err g) e f q =
          let same : g ≡ f = cc in
          running_stop image host grant h₀ c₀ done h c r f below
          (same_step ∙ full image host acted_on c n.word k (far.quiet image) (far.starts pos) one_word ready_on room_on f pos (e ∙ ap (λ (v : Fault). Err v) same))

      leaps : Moves (then_held landing charted_there) k
      leaps = record { on = leaps_on charted_there refl; stop = leaps_stop charted_there refl }

  moves : (o : Result Machine Fault) → begun h.moment.machine image n.word ≡ o → Reaches n (grant - done) h.moment.tick o → IfOk o Bounded →
      Moves (bind o (moved_on image n (grant - done) h c)) (reach n (grant - done) h.moment.tick o)
  moves (Err g) e far b = record {
    on = λ s q. cc;
    stop = λ f q. (let same : g ≡ f = cc in
        running_stop image host grant h₀ c₀ done h c r f below
        (sym as_stepped ∙ sym (step_by image n.before n.word h c (Err g) (tick_by image n.before n.word h.moment (Err g) (sym e))) ∙ ap (λ (v : Fault). Err v) same));
  }
  moves (Ok m) e far b = go (stride (moment m h.moment.tick) n (grant - done)) far
    where
      go : (k : ℕ) → Stride (moment m h.moment.tick) n (grant - done) k →
          Moves (then_held (moment (onward image n k m) (h.moment.tick + takes k)) (charted (takes k) (samples_of m n.word) h.stretches c)) (takes k)
      go k far =
          elim (cases_lt 0 k) [
            | inl pos ↦ (let no = ne_eqb k 0 (λ e. omega arith) in rw no (leaps m e k pos far b))
            | inr z ↦ (let yes = eq-eqb k 0 (omega arith) in rw yes (one_tick m e))
          ]

  module _ (far : Reaches n (grant - done) h.moment.tick (begun h.moment.machine image n.word)) (b : IfOk (begun h.moment.machine image n.word) Bounded) where
    -- what holds behind a move that went on
    pub record Went (ticks : ℕ) (h' : Held) (c' : Charts) : Type 0 where
      pub running : Running image host grant h₀ c₀ (done + ticks) h' c'
      pub sees_on : Sees host h'.moment.tick (seen n.word n.word n.until)
      pub some : 0 < ticks
      pub granted : done + ticks ≤ grant

    pub moves_on : (ticks : ℕ) (h' : Held) (c' : Charts) → ticks ≡ reach n (grant - done) h.moment.tick (begun h.moment.machine image n.word) → (Ok tt, (h', c')) ≡ left (advanced image n (grant - done) h c) (h, c) → Ready h' c' → Went ticks h' c'
    moves_on ticks h' c' is e ready =
        let M = moves (begun h.moment.machine image n.word) refl far b in
        let q = M.on (h', c') (left_ok (advanced image n (grant - done) h c) (h', c') (h, c) e) ready in
        let tick = q.1 in
        let some = q.2 in
        let granted = q.3 in
        let marked = q.4 in
        record {
          running = subst (λ (v : ℕ). Running image host grant h₀ c₀ (done + v) h' c') (sym is) q.0;
          sees_on = record {
            before = sym (sees.word (h'.moment.tick - 1) (omega arith) (omega arith));
            word = λ v from to. sees.word v (omega arith) to;
            horizon = sees.horizon;
          };
          some = omega arith;
          granted = omega arith;
        }

    pub moves_stop : (f : Fault) (h' : Held) (c' : Charts) → (Err f, (h', c')) ≡ left (advanced image n (grant - done) h c) (h, c) → (answer done (Some f) h' c' ≡ ran image host grant 0 h₀ c₀) × Whole h'
    moves_stop f h' c' e =
        let M = moves (begun h.moment.machine image n.word) refl far b in
        let o = left_err (advanced image n (grant - done) h c) (h', c') (h, c) f e in
        (ap (λ (s : Held × Charts). answer done (Some f) s.0 s.1) o.1 ∙ M.stop f o.0, subst (λ (s : Held × Charts). Whole s.0) (sym o.1) r.ready.whole)

-- the answers of a move, from those of its parts
module _ (image : List ℕ) (n : Seen) (most : ℕ) (h : Held) (c : Charts) where
  pub advance_faults : (f : Fault) → Err f ≡ begun h.moment.machine image n.word → (Err f, (h, c)) ≡ left (advanced image n most h c) (h, c)
  advance_faults f e = ap (λ (o : Result Machine Fault). left (bind o (moved_on image n most h c)) (h, c)) e

  module _ (m : Machine) (acts : Ok m ≡ begun h.moment.machine image n.word) (k : ℕ) (is : k ≡ stride (moment m h.moment.tick) n most) (ticks : ℕ) (all : ticks ≡ takes k)
      (x : Samples) (sampled : x ≡ samples_of m n.word) (h' : Held) (c' : Charts) where
    abbrev landing_at : ℕ → Moment
    landing_at j = moment (onward image n j m) (h.moment.tick + takes j)

    as_advanced : left (then_held (landing_at k) (charted ticks x h.stretches c)) (h, c) ≡ left (advanced image n most h c) (h, c)
    as_advanced =
        ap₂ (λ (v : ℕ) (y : Samples). left (then_held (landing_at k) (charted v y h.stretches c)) (h, c)) all sampled
        ∙ ap (λ (j : ℕ). left (then_held (landing_at j) (charted (takes j) (samples_of m n.word) h.stretches c)) (h, c)) is
        ∙ ap (λ (o : Result Machine Fault). left (bind o (moved_on image n most h c)) (h, c)) acts

    pub advance_stops : (f : Fault) → h'.moment ≡ h.moment → (Err f, (h'.stretches, c')) ≡ left (charted ticks x h.stretches c) (h.stretches, c) →
        ((Err f, (h', c')) ≡ left (advanced image n most h c) (h, c)) × (Ready h c → Ready h' c')
    advance_stops f at e = let q = charts_stop h c ticks x (landing_at k) h' c' f at e in (q.0 ∙ as_advanced, q.1)

    pub advance_goes : (s : Moment) → s ≡ landing_at k → 0 < ticks → h.moment.tick + ticks ≤ 2 ^ 48 → (Bounded h.moment.machine → Bounded s.machine) → (Ok tt, (h'.stretches, c')) ≡ left (charted ticks x h.stretches c) (h.stretches, c) →
        ((Ok tt, (held s h'.stretches, c')) ≡ left (advanced image n most h c) (h, c)) × (Ready h c → Ready (held s h'.stretches) c')
    advance_goes s e pos room b q =
        let t = charts_go h c ticks x s h' c' pos room (ap (λ (v : Moment). v.tick) e ∙ ap (λ (v : ℕ). h.moment.tick + v) (sym all)) q in
        (t.0 ∙ ap (λ (v : Moment). left (then_held v (charted ticks x h.stretches c)) (h, c)) e ∙ as_advanced, t.1 b)

-- a move takes its quiet ticks, and one at the least
pub takes_max : (k : ℕ) → max k 1 ≡ takes k
takes_max k = elim (cases_lt 0 k) [ inl h ↦ rw (ne_eqb k 0 (λ e. omega arith)) (omega arith) | inr h ↦ rw (eq-eqb k 0 (omega arith)) (omega arith) ]

-- what is known of a move from the machine that has acted
pub reaches_by : (n : Seen) (most t : ℕ) (o : Result Machine Fault) (m : Machine) (k : ℕ) → Ok m ≡ o → k ≡ stride (moment m t) n most → Stride (moment m t) n most k → Reaches n most t o
reaches_by n most t o m k e is far = subst (λ (v : Result Machine Fault). Reaches n most t v) e (subst (λ (v : ℕ). Stride (moment m t) n most v) is far)

pub reach_by : (n : Seen) (most t : ℕ) (o : Result Machine Fault) (m : Machine) (k ticks : ℕ) → Ok m ≡ o → k ≡ stride (moment m t) n most → ticks ≡ takes k → ticks ≡ reach n most t o
reach_by n most t o m k ticks e is all = all ∙ ap takes is ∙ ap (reach n most t) e

pub bounded_by : (h m : Machine) (o : Result Machine Fault) → Ok m ≡ o → Bounded h → (Sound h → Sound m) → (h.owed ≤ 16 → m.owed ≤ 16) → IfOk o Bounded
bounded_by h m o e b sound owed = subst (λ (v : Result Machine Fault). IfOk v Bounded) e (record { sound = sound b.sound; owed = owed b.owed })
