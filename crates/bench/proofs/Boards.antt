-- What is known of every chip that has had only runs since power-on.
use Rattle.std.proofs.Common.{◌≡◌, ℕ, zero, suc, ◌+◌, ◌-◌, ◌<◌, Bool, true, false, cond, leb, List, [], ◌∷◌, Some, None, Ok, Err, Option, Result, sym, refl, ap, ◌∙◌, subst, ap₂, arith}
use Rattle.std.proofs.lemmas.Bool.{leb-true}
use Rattle.faults.specs.declared.Fault.{Fault}
use Rattle.faults.specs.declared.Fault.TheVariants.{NoPinPlace, NoModePlace}
use Rattle.recorder.specs.Samples.{pin_kind, mode_kind}
use Rattle.recorder.proofs.Filling.{shows}
use Rattle.bus.specs.Outcomes.{bind}
use Rattle.bench.specs.declared.held.Samples.{Samples}
use Rattle.bench.specs.declared.held.Moment.{Moment}
use Rattle.bench.specs.declared.held.Held.{Held}
use Rattle.bench.specs.declared.held.Call.{Call}
use Rattle.bench.specs.Ticks.{moment, tick_between, ticked}
use Rattle.bench.specs.Charting.{Charts}
use Rattle.bench.specs.Runs.{held, stepped, Ran, ran, answer, first_failed, tests, refused, unless_refused, played, played_all}
use Rattle.bench.specs.Power.{Start, start, powered_machine}
use Rattle.bench.specs.Model.{Places, rows, Model, model, in_places, grown, next, after}
use Rattle.bench.specs.Board.{Since, began, ran_on, Alike, Modelled, Ended, Standing, BoardAfter, StandsAfter}
use Rattle.bench.proofs.Ticking.{tick_after}
use Rattle.bench.proofs.Stepping.{step_tick}
use Rattle.bench.proofs.Running.{ran_by, ran_none}
use Rattle.bench.proofs.Drawing.{draws_alike}
use Rattle.bench.proofs.Following.{Follows, follows_begin, after_next, ran_on_lem}

-- a call by its refusal
pub played_by : (image : List ℕ) (host : ℕ → ℕ) (grant : ℕ) (h : Held) (c : Charts) (o : Option Fault) → refused image grant h c ≡ o → played image host grant h c ≡ unless_refused o (ran image host grant 0 h c) h c
unfolding played
played_by image host grant h c o e = ap (λ (v : Option Fault). unless_refused v (ran image host grant 0 h c) h c) e

-- where no test fails, all are passed
abbrev Passed : List (Bool × Fault) → Type 0
Passed [] = Unit {0}
Passed (t ∷ ts) = (t.0 ≡ true) × Passed ts

all_passed : (ts : List (Bool × Fault)) → first_failed ts ≡ None → Passed ts
all_passed [] e = tt
all_passed ((true, f) ∷ ts) e = (refl, all_passed ts e)
all_passed ((false, f) ∷ ts) e = cc

accepts : (image : List ℕ) (grant : ℕ) (h : Held) (c : Charts) → refused image grant h c ≡ None → Passed (tests image grant h c)
accepts image grant h c e = all_passed (tests image grant h c) e

module _ (s : Start) (host : ℕ → ℕ) (places : Places) where
  -- a run call, accepted or refused, leaves the chip where the model stands
  follows_on : (grant ticks : ℕ) (fault : Option Fault) (h h' : Held) (c c' : Charts) (n : ℕ) → Follows s host places h c n → answer ticks fault h' c' ≡ played s.image host grant h c →
      Follows s host places h' c' (n + ticks) × (refused s.image grant h c ≡ None → Ended s host places n grant ticks fault)
  follows_on grant ticks fault h h' c c' n F e = go (refused s.image grant h c) refl
    where
      End : Ran → Type 0
      End r = Follows s host places r.held r.charts (n + r.ticks) × (refused s.image grant h c ≡ None → Ended s host places n grant r.ticks r.fault)

      go : (o : Option Fault) → refused s.image grant h c ≡ o → Follows s host places h' c' (n + ticks) × (refused s.image grant h c ≡ None → Ended s host places n grant ticks fault)
      go (Some f) q =
          subst End (sym (e ∙ played_by s.image host grant h c (Some f) q))
          (subst (Follows s host places h c) (omega arith) F, λ none. cc)
      go None q =
          let a = accepts s.image grant h c q in
          let time = leb-true _ _ a.1.1.0 in
          let tick = F.tick in
          let r = ran_on_lem s host places grant n 0 h c F (omega arith) in
          let t : r.ticks ≡ (ran s.image host grant 0 h c).ticks = omega (arith, r.is) in
          subst End (sym (e ∙ played_by s.image host grant h c None q)) (
            subst (λ (k : ℕ). Follows s host places (ran s.image host grant 0 h c).held (ran s.image host grant 0 h c).charts (n + k)) t r.follows,
            λ _. subst (λ (k : ℕ). Ended s host places n grant k (ran s.image host grant 0 h c).fault) t r.ended,
          )

  since_follows : {h : Held} {c : Charts} {n : ℕ} → Since s host places h c n → Follows s host places h c n
  since_follows (began c size) = follows_begin s host places c size
  since_follows (ran_on {h = h} {c = c} {total = n} grant ticks fault h' c' past e) = (follows_on grant ticks fault h h' c c' n (since_follows past) e).0

  follows_modelled : (h : Held) (c : Charts) (n : ℕ) → Follows s host places h c n → Modelled s host places h c n
  follows_modelled h c n F = record {
    model = model h.moment F.pin_list F.mode_list;
    stands = F.stands;
    moment = refl;
    pins = shows pin_kind _ c.pins h.stretches.pins n F.pin_record;
    modes = shows mode_kind _ c.modes h.stretches.modes n F.mode_record;
  }

-- a step raises the tick number by 1
next_tick : (s : Start) (host : ℕ → ℕ) (places : Places) (l m : Model) → next s.image host places l ≡ Ok m → m.moment.tick ≡ l.moment.tick + 1
next_tick s host places l m = go (ticked s.image host l.moment) refl
  where
    is : (t : Moment × Samples) (p q : Bool) → cond p (cond q (Ok (grown l t)) (Err NoModePlace)) (Err NoPinPlace) ≡ Ok m → grown l t ≡ m
    is t true true e = cc
    is t true false e = cc
    is t false q e = cc

    go : (r : Result (Moment × Samples) Fault) → ticked s.image host l.moment ≡ r → bind r (λ t. in_places places (grown l t)) ≡ Ok m → m.moment.tick ≡ l.moment.tick + 1
    go (Ok t) et e =
        ap (λ (v : Model). v.moment.tick) (sym (is t (leb (rows pin_kind (grown l t).pins) places.pins) (leb (rows mode_kind (grown l t).modes) places.modes) e))
        ∙ tick_after s.image (host (l.moment.tick - 1)) (host l.moment.tick) l.moment t (sym et)
    go (Err f) et e = cc

-- the model's steps look at the host below their tick only
module _ (s : Start) (host host₂ : ℕ → ℕ) (places : Places) where
  -- where the model has gone n + 1 steps, it has gone n
  after_before : (n : ℕ) (m : Model) → after s host places (suc n) ≡ Ok m → ((l : Model) × (after s host places n ≡ Ok l) × (next s.image host places l ≡ Ok m))
  unfolding after
  after_before n m = go (after s host places n) refl
    where
      go : (r : Result Model Fault) → after s host places n ≡ r → bind r (next s.image host places) ≡ Ok m → ((l : Model) × (after s host places n ≡ Ok l) × (next s.image host places l ≡ Ok m))
      go (Ok l) e q = (l, e, q)
      go (Err f) e q = cc

  after_tick : (n : ℕ) (m : Model) → after s host places n ≡ Ok m → m.moment.tick ≡ n
  unfolding after
  after_tick zero m e = let q : model (moment (powered_machine s) 0) [] [] ≡ m = cc in ap (λ (v : Model). v.moment.tick) (sym q)
  after_tick (suc n) m e =
      let b = after_before n m e in
      let ih = after_tick n b.0 b.1 in
      let up = next_tick s host places b.0 m b.2 in
      omega arith

  after_agrees : (n : ℕ) → ((t : ℕ) → t < n → host t ≡ host₂ t) → (m : Model) → after s host places n ≡ Ok m → after s host₂ places n ≡ Ok m
  unfolding after
  after_agrees zero agree m e = e
  after_agrees (suc n) agree m e =
      let b = after_before n m e in
      let l = b.0 in
      let tick = after_tick n l b.1 in
      let there = after_agrees n (λ t h. agree t (omega arith)) l b.1 in
      after_next s host₂ places n l there
      ∙ ap₂ (λ (u v : ℕ). bind (tick_between s.image u v l.moment) (λ t. in_places places (grown l t))) (sym (agree (l.moment.tick - 1) (omega arith))) (sym (agree l.moment.tick (omega arith)))
      ∙ b.2

-- two chips that stand where their models stand, before hosts that agreed so far
follows_alike : (s : Start) (host host₂ : ℕ → ℕ) (places : Places) (h h₂ : Held) (c c₂ : Charts) (n : ℕ) → Follows s host places h c n → Follows s host₂ places h₂ c₂ n → ((t : ℕ) → t < n → host t ≡ host₂ t) → Alike h c h₂ c₂
follows_alike s host host₂ places h h₂ c c₂ n F G agree =
    let there = after_agrees s host host₂ places n agree _ F.stands in
    let m : model h.moment F.pin_list F.mode_list ≡ model h₂.moment G.pin_list G.mode_list = same (sym there ∙ G.stands) in
    let em = ap (λ (x : Model). x.moment) m in
    let p = draws_alike pin_kind places.pins n h.stretches.pins h₂.stretches.pins c.pins c₂.pins F.pin_list G.pin_list (ap (λ (x : Model). x.pins) m) F.pins G.pins in
    let q = draws_alike mode_kind places.modes n h.stretches.modes h₂.stretches.modes c.modes c₂.modes F.mode_list G.mode_list (ap (λ (x : Model). x.modes) m) F.modes G.modes in
    let ep = p.0 in
    let eq = q.0 in
    record { records = λ i. held (em i) (record { pins = ep i; modes = eq i }); pins = p.1; modes = q.1 }
  where
    same : {a b : Model} → ◌≡◌ {A = Result Model Fault} (Ok a) (Ok b) → a ≡ b
    same e = cc

-- the board theorem, for every history
pub standing : (s : Start) (host : ℕ → ℕ) (places : Places) (h : Held) (c : Charts) (total : ℕ) → Since s host places h c total → Standing s host places h c total
standing s host places h c total past =
    let F = since_follows s host places past in
    record {
      since = past;
      alike = λ host₂ h₂ c₂ other agree. follows_alike s host host₂ places h h₂ c c₂ total F (since_follows s host₂ places other) agree;
      modelled = follows_modelled s host places h c total F;
    }

pub board_after : (image : List ℕ) (host : ℕ → ℕ) (h : Held) (c : Charts) (grant ticks : ℕ) (fault : Option Fault) (h' : Held) (c' : Charts) →
    answer ticks fault h' c' ≡ played image host grant h c → BoardAfter image host h c grant ticks fault h' c'
board_after image host h c grant ticks fault h' c' e ram places total past =
    let s = start image ram in
    record {
      stands = standing s host places h' c' (total + ticks) (ran_on grant ticks fault h' c' past e);
      ended = (follows_on s host places grant ticks fault h h' c c' total (since_follows s host places past) e).1;
    }

-- a list of calls goes on with the rest behind its first
pub played_more : (image : List ℕ) (host : ℕ → ℕ) (k : Call) (ks : List Call) (total ticks : ℕ) (fault : Option Fault) (h h' : Held) (c c' : Charts) → answer ticks fault h' c' ≡ played image host k.grant h c →
    played_all image host (k ∷ ks) total h c ≡ played_all image host ks (total + ticks) h' c'
unfolding played_all
played_more image host k ks total ticks fault h h' c c' e = ap (λ (r : Ran). played_all image host ks (total + r.ticks) r.held r.charts) (sym e)

pub played_none : (image : List ℕ) (host : ℕ → ℕ) (total : ℕ) (h : Held) (c : Charts) → played_all image host [] total h c ≡ (total, h, c)
unfolding played_all
played_none image host total h c = refl

since_all : (image ram : List ℕ) (host : ℕ → ℕ) (places : Places) (ks : List Call) (total sum : ℕ) (h : Held) (c : Charts) → Since (start image ram) host places h c (total + sum) →
    Since (start image ram) host places (played_all image host ks sum h c).1 (played_all image host ks sum h c).2 (total + (played_all image host ks sum h c).0)
unfolding played_all
since_all image ram host places [] total sum h c past = past
since_all image ram host places (k ∷ ks) total sum h c past =
    let r = played image host k.grant h c in
    since_all image ram host places ks total (sum + r.ticks) r.held r.charts
    (subst (λ (v : ℕ). Since (start image ram) host places r.held r.charts v) (omega arith) (ran_on k.grant r.ticks r.fault r.held r.charts past refl))

pub stands_after : (image : List ℕ) (host : ℕ → ℕ) (h : Held) (c : Charts) (ks : List Call) (ticks : ℕ) (h' : Held) (c' : Charts) → (ticks, h', c') ≡ played_all image host ks 0 h c → StandsAfter image host h c ticks h' c'
stands_after image host h c ks ticks h' c' e ram places total past =
    subst (λ (r : ℕ × Held × Charts). Standing (start image ram) host places r.1 r.2 (total + r.0)) (sym e)
    (standing (start image ram) host places _ _ _ (since_all image ram host places ks total 0 h c (subst (λ (v : ℕ). Since (start image ram) host places h c v) (omega arith) past)))

-- a call raises the tick number by its answer
ran_tick : (image : List ℕ) (host : ℕ → ℕ) (n done : ℕ) (h : Held) (c : Charts) → (ran image host n done h c).held.moment.tick + done ≡ h.moment.tick + (ran image host n done h c).ticks
ran_tick image host zero done h c = rw (ran_none image host done h c) refl
ran_tick image host (suc n) done h c = go (stepped image host h c) refl (λ v. ran_tick image host n (done + 1) v.0 v.1)
  where
    go : (o : Result (Held × Charts) Fault) → stepped image host h c ≡ o → ((v : Held × Charts) → (ran image host n (done + 1) v.0 v.1).held.moment.tick + (done + 1) ≡ v.0.moment.tick + (ran image host n (done + 1) v.0 v.1).ticks) →
        (ran image host (suc n) done h c).held.moment.tick + done ≡ h.moment.tick + (ran image host (suc n) done h c).ticks
    go (Ok v) e ih = let up = step_tick image (host (h.moment.tick - 1)) (host h.moment.tick) h c v e in let i = ih v in rw (ran_by image host n done h c (Ok v) e) (omega arith)
    go (Err f) e ih = rw (ran_by image host n done h c (Err f) e) refl

pub played_tick : (image : List ℕ) (host : ℕ → ℕ) (grant ticks : ℕ) (fault : Option Fault) (h h' : Held) (c c' : Charts) → answer ticks fault h' c' ≡ played image host grant h c → h'.moment.tick ≡ h.moment.tick + ticks
played_tick image host grant ticks fault h h' c c' e = go (refused image grant h c) refl
  where
    Up : Ran → Type 0
    Up r = r.held.moment.tick ≡ h.moment.tick + r.ticks

    go : (o : Option Fault) → refused image grant h c ≡ o → h'.moment.tick ≡ h.moment.tick + ticks
    go (Some f) q = subst Up (sym (e ∙ played_by image host grant h c (Some f) q)) (omega arith)
    go None q = let up = ran_tick image host grant 0 h c in subst Up (sym (e ∙ played_by image host grant h c None q)) (omega arith)
