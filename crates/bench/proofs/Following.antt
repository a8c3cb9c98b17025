-- A chip that stands where the plain model stands.
use Rattle.std.proofs.Common.{◌≡◌, ℕ, zero, suc, ◌+◌, ◌-◌, ◌^◌, ◌≤◌, Bool, true, false, cond, leb, List, [], ◌∷◌, Some, None, Ok, Err, Option, Result, sym, refl, ap, ◌∙◌, subst, ap₂, arith}
use Rattle.faults.specs.declared.Fault.{Fault}
use Rattle.faults.specs.declared.Fault.TheVariants.{NoPinPlace, NoModePlace}
use Rattle.recorder.specs.declared.stretch.Stretch.{Stretch}
use Rattle.recorder.specs.declared.pin_sample.PinSample.{PinSample}
use Rattle.recorder.specs.declared.mode.Mode.{Mode}
use Rattle.recorder.specs.Samples.{pin_kind, mode_kind}
use Rattle.recorder.specs.Charts.{appended}
use Rattle.recorder.specs.Histories.{Recorded, began, added}
use Rattle.bus.specs.Outcomes.{bind}
use Rattle.bench.specs.declared.held.Samples.{Samples}
use Rattle.bench.specs.declared.held.Moment.{Moment}
use Rattle.bench.specs.declared.held.Held.{Held}
use Rattle.bench.specs.Ticks.{ticked}
use Rattle.bench.specs.Charting.{Charts, both, counted, placed, charted}
use Rattle.bench.specs.Runs.{held, stepped, Ran, ran}
use Rattle.bench.specs.Power.{Start, powered}
use Rattle.bench.specs.Model.{Places, sizes, rows, Model, model, in_places, grown, next, after, newest_pins, pins_taken, newest_mode, mode_taken}
use Rattle.bench.specs.Board.{StopsAfter, Ended}
use Rattle.bench.proofs.Ticking.{tick_after}
use Rattle.bench.proofs.Stepping.{step_by, then_held}
use Rattle.bench.proofs.Running.{ran_by, ran_none}
use Rattle.bench.proofs.Drawing.{Draws, OneMore, one_more, draws_none}

module _ (s : Start) (host : ℕ → ℕ) (places : Places) where
  -- the model after one step more
  pub after_next : (n : ℕ) (m : Model) → after s host places n ≡ Ok m → after s host places (suc n) ≡ next s.image host places m
  unfolding after
  after_next n m e = ap (λ (r : Result Model Fault). bind r (next s.image host places)) e

  -- the chip's record, stretch counts apart, is the model's after n steps, and its charts are those of the model's lists
  pub record Follows (h : Held) (c : Charts) (n : ℕ) : Type 0 where
    pub pin_list : List PinSample
    pub mode_list : List Mode
    pub stands : after s host places n ≡ Ok (model h.moment pin_list mode_list)
    pub tick : h.moment.tick ≡ n
    pub pins : Draws pin_kind places.pins n h.stretches.pins c.pins pin_list
    pub modes : Draws mode_kind places.modes n h.stretches.modes c.modes mode_list
    pub pin_record : Recorded pin_kind (pins_taken s host places) c.pins h.stretches.pins n
    pub mode_record : Recorded mode_kind (mode_taken s host places) c.modes h.stretches.modes n

  pub follows_begin : (c : Charts) → sizes c ≡ places → Follows (powered s) c 0
  unfolding after
  follows_begin c size = record {
    pin_list = [];
    mode_list = [];
    stands = refl;
    tick = refl;
    pins = draws_none pin_kind c.pins places.pins (ap (λ (p : Places). p.pins) size);
    modes = draws_none mode_kind c.modes places.modes (ap (λ (p : Places). p.modes) size);
    pin_record = began c.pins;
    mode_record = began c.modes;
  }

  -- a tick of the chip is a step of the model, or both stop alike
  pub record Tracks (n : ℕ) (m : Model) (o : Result (Held × Charts) Fault) : Type 0 where
    pub on : (v : Held × Charts) → o ≡ Ok v → Follows v.0 v.1 (suc n)
    pub stop : (f : Fault) → o ≡ Err f → next s.image host places m ≡ Err f

  module _ (h : Held) (c : Charts) (n : ℕ) (F : Follows h c n) (early : n + 1 ≤ 2 ^ 48) where
    abbrev here : Model
    here = model h.moment F.pin_list F.mode_list

    module _ (t : Moment × Samples) (et : ticked s.image host h.moment ≡ Ok t) where
      abbrev pinned : Option ℕ × List (Stretch PinSample)
      pinned = appended pin_kind c.pins h.stretches.pins 1 t.1.pins

      abbrev moded : Option ℕ × List (Stretch Mode)
      moded = appended mode_kind c.modes h.stretches.modes 1 t.1.mode

      more_pins : OneMore pin_kind places.pins n F.pin_list t.1.pins pinned
      more_pins = one_more pin_kind places.pins n h.stretches.pins c.pins F.pin_list t.1.pins F.pins early

      more_modes : OneMore mode_kind places.modes n F.mode_list t.1.mode moded
      more_modes = one_more mode_kind places.modes n h.stretches.modes c.modes F.mode_list t.1.mode F.modes early

      next_by : (p q : Bool) → leb (rows pin_kind (t.1.pins ∷ F.pin_list)) places.pins ≡ p → leb (rows mode_kind (t.1.mode ∷ F.mode_list)) places.modes ≡ q →
          next s.image host places here ≡ cond p (cond q (Ok (grown here t)) (Err NoModePlace)) (Err NoPinPlace)
      next_by p q ep eq =
          ap (λ (r : Result (Moment × Samples) Fault). bind r (λ v. in_places places (grown here v))) et
          ∙ ap₂ (λ (u v : Bool). cond u (cond v (Ok (grown here t)) (Err NoModePlace)) (Err NoPinPlace)) ep eq

      follows_on : (a b : ℕ) → pinned.0 ≡ Some a → moded.0 ≡ Some b → Follows (held t.0 (counted a b)) (both pinned.1 moded.1) (suc n)
      follows_on a b ep eq =
          let p = more_pins.room a ep in
          let q = more_modes.room b eq in
          let stands : after s host places (suc n) ≡ Ok (grown here t) = after_next n here F.stands ∙ next_by true true p.0 q.0 in
          let later : n + 1 ≡ suc n = omega arith in
          let taken-pins : pins_taken s host places n ≡ t.1.pins = ap newest_pins stands in
          let taken-mode : mode_taken s host places n ≡ t.1.mode = ap newest_mode stands in
          record {
            pin_list = t.1.pins ∷ F.pin_list;
            mode_list = t.1.mode ∷ F.mode_list;
            stands = stands;
            tick = tick_after s.image _ _ h.moment t (sym et) ∙ ap (λ (v : ℕ). v + 1) F.tick ∙ later;
            pins = p.1;
            modes = q.1;
            pin_record = subst (λ (v : ℕ). Recorded pin_kind (pins_taken s host places) pinned.1 a v) later (added 1 t.1.pins a pinned.1 F.pin_record (λ u from to. (let e : u ≡ n = omega arith in ap (pins_taken s host places) e ∙ taken-pins)) (λ i. (ep i, pinned.1)));
            mode_record = subst (λ (v : ℕ). Recorded mode_kind (mode_taken s host places) moded.1 b v) later (added 1 t.1.mode b moded.1 F.mode_record (λ u from to. (let e : u ≡ n = omega arith in ap (mode_taken s host places) e ∙ taken-mode)) (λ i. (eq i, moded.1)));
          }

      tracks_tick : (u : Option ℕ) (v : Option ℕ) → pinned.0 ≡ u → moded.0 ≡ v → Tracks n here (then_held t.0 (placed u v (both pinned.1 moded.1)))
      tracks_tick None v ep eq = record {
        on = λ w e. cc;
        stop = λ f e. (let q : NoPinPlace ≡ f = cc in next_by false (leb (rows mode_kind (t.1.mode ∷ F.mode_list)) places.modes) (more_pins.none ep) refl ∙ ap (λ (g : Fault). Err g) q);
      }
      tracks_tick (Some a) None ep eq = record {
        on = λ w e. cc;
        stop = λ f e. (let q : NoModePlace ≡ f = cc in next_by true false (more_pins.room a ep).0 (more_modes.none eq) ∙ ap (λ (g : Fault). Err g) q);
      }
      tracks_tick (Some a) (Some b) ep eq = record {
        on = λ w e. (let q : ◌≡◌ {A = Held × Charts} (held t.0 (counted a b), both pinned.1 moded.1) w = cc in subst (λ (v : Held × Charts). Follows v.0 v.1 (suc n)) q (follows_on a b ep eq));
        stop = λ f e. cc;
      }

    tracks_by : (r : Result (Moment × Samples) Fault) → ticked s.image host h.moment ≡ r → Tracks n here (bind r (λ t. then_held t.0 (charted 1 t.1 h.stretches c)))
    tracks_by (Ok t) et = tracks_tick t et (pinned t et).0 (moded t et).0 refl refl
    tracks_by (Err g) et = record {
      on = λ w e. cc;
      stop = λ f e. (let q : g ≡ f = cc in ap (λ (r : Result (Moment × Samples) Fault). bind r (λ v. in_places places (grown here v))) et ∙ ap (λ (v : Fault). Err v) q);
    }

    pub tracks : Tracks n here (stepped s.image host h c)
    tracks = subst (λ (o : Result (Held × Charts) Fault). Tracks n here o) (step_by s.image (host (h.moment.tick - 1)) (host h.moment.tick) h c (ticked s.image host h.moment) refl) (tracks_by (ticked s.image host h.moment) refl)

  -- what a run does from where the model stands
  pub record RanOn (n grant done : ℕ) (r : Ran) : Type 0 where
    pub ticks : ℕ
    pub is : r.ticks ≡ done + ticks
    pub follows : Follows r.held r.charts (n + ticks)
    pub ended : Ended s host places n grant ticks r.fault

  pub ran_on_lem : (grant n done : ℕ) (h : Held) (c : Charts) → Follows h c n → n + grant ≤ 2 ^ 48 → RanOn n grant done (ran s.image host grant done h c)
  ran_on_lem zero n done h c F early =
      rw (ran_none s.image host done h c) (record {
        ticks = 0;
        is = omega arith;
        follows = subst (Follows h c) (omega arith) F;
        ended = record { within = omega arith; whole = λ _. refl; short = λ b. absurd (omega arith) };
      })
  ran_on_lem (suc g) n done h c F early =
      go (stepped s.image host h c) refl (tracks h c n F (omega arith)) (λ h' c' F'. ran_on_lem g (suc n) (done + 1) h' c' F' (omega arith))
    where
      go : (o : Result (Held × Charts) Fault) → stepped s.image host h c ≡ o → Tracks n (model h.moment F.pin_list F.mode_list) o →
          ((h' : Held) (c' : Charts) → Follows h' c' (suc n) → RanOn (suc n) g (done + 1) (ran s.image host g (done + 1) h' c')) →
          RanOn n (suc g) done (ran s.image host (suc g) done h c)
      go (Ok v) e t ih =
          let i = ih v.0 v.1 (t.on v refl) in
          let is = i.is in
          let sum : suc n + i.ticks ≡ n + suc i.ticks = omega arith in
          rw (ran_by s.image host g done h c (Ok v) e) (record {
            ticks = suc i.ticks;
            is = omega arith;
            follows = subst (Follows _ _) sum i.follows;
            ended = record {
              within = omega (arith, i.ended.within);
              whole = λ q. i.ended.whole (omega arith);
              short = λ b. (let f = i.ended.short (omega arith) in (f.0, f.1, subst (λ (k : ℕ). StopsAfter s host places k f.0) sum f.2));
            };
          })
      go (Err f) e t ih =
          let sum : n ≡ n + 0 = omega arith in
          rw (ran_by s.image host g done h c (Err f) e) (record {
            ticks = 0;
            is = omega arith;
            follows = subst (Follows h c) sum F;
            ended = record {
              within = omega arith;
              whole = λ q. absurd (omega arith);
              short = λ b. (f, refl, subst (λ (k : ℕ). StopsAfter s host places k f) sum (record { model = model h.moment F.pin_list F.mode_list; stands = F.stands; stops = t.stop f refl }));
            };
          })
