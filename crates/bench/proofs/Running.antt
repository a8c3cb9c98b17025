-- A run as its ticks, one by one.
use Rattle.std.proofs.Common.{◌≡◌, ℕ, zero, suc, ◌+◌, ◌-◌, ◌^◌, ◌<◌, ◌≤◌, ltb, List, Some, None, Ok, Err, Result, sym, refl, ap, ◌∙◌, subst, ap₂, arith}
use Rattle.std.proofs.lemmas.Bool.{cond-true, lt-ltb}
use Rattle.faults.specs.declared.Fault.{Fault}
use Rattle.hosts.specs.Marks.{level_at}
use Rattle.bench.specs.declared.held.Held.{Held}
use Rattle.bench.specs.Charting.{Charts, left}
use Rattle.bench.specs.Runs.{step_between, stepped, answer, unless_stopped, ran}
use Rattle.bench.specs.Keeps.{Whole, Ready}
use Rattle.bench.proofs.Stepping.{left_ok, left_err, step_tick}

module _ (image : List ℕ) (host : ℕ → ℕ) where
  -- what a host shows below the horizon
  pub level : (t : ℕ) → t < 2 ^ 48 → level_at host t ≡ host t
  level t h = cond-true (ltb t (2 ^ 48)) (host t) 0 (lt-ltb _ _ h)

  -- a run by the result of its first step
  pub ran_by : (n done : ℕ) (h : Held) (c : Charts) (r : Result (Held × Charts) Fault) → stepped image host h c ≡ r →
      ran image host (suc n) done h c ≡ unless_stopped r done h c (λ s. ran image host n (done + 1) s.0 s.1)
  unfolding ran
  ran_by n done h c r e = ap (λ (v : Result (Held × Charts) Fault). unless_stopped v done h c (λ s. ran image host n (done + 1) s.0 s.1)) e

  pub ran_none : (done : ℕ) (h : Held) (c : Charts) → ran image host zero done h c ≡ answer done None h c
  unfolding ran
  ran_none done h c = refl

  -- what a run keeps from move to move
  pub record Running (grant : ℕ) (h₀ : Held) (c₀ : Charts) (done : ℕ) (h : Held) (c : Charts) : Type 0 where
    pub rest : ran image host (grant - done) done h c ≡ ran image host grant 0 h₀ c₀
    pub room : h.moment.tick + (grant - done) ≤ 2 ^ 48
    pub ready : Ready h c

  pub running_begins : (grant : ℕ) (h : Held) (c : Charts) → h.moment.tick + grant ≤ 2 ^ 48 → Ready h c → Running grant h c 0 h c
  running_begins grant h c room ready = let e : grant - 0 ≡ grant = omega arith in record { rest = ap (λ n. ran image host n 0 h c) e; room = omega arith; ready = ready }

  module _ (grant : ℕ) (h₀ : Held) (c₀ : Charts) (done : ℕ) (h : Held) (c : Charts) (r : Running grant h₀ c₀ done h c) where
    -- what is left of the run begins with k ticks
    pub ahead : (k : ℕ) → done + k ≤ grant → ran image host (k + (grant - (done + k))) done h c ≡ ran image host grant 0 h₀ c₀
    ahead k b = let e : k + (grant - (done + k)) ≡ grant - done = omega arith in ap (λ n. ran image host n done h c) e ∙ r.rest

    -- the run from its next step on
    onward : done < grant → (o : Result (Held × Charts) Fault) → stepped image host h c ≡ o → unless_stopped o done h c (λ s. ran image host (grant - (done + 1)) (done + 1) s.0 s.1) ≡ ran image host grant 0 h₀ c₀
    onward b o e = let one : 1 + (grant - (done + 1)) ≡ suc (grant - (done + 1)) = omega arith in sym (ran_by (grant - (done + 1)) done h c o e) ∙ ap (λ n. ran image host n done h c) (sym one) ∙ ahead 1 (omega arith)

    pub running_more : (h' : Held) (c' : Charts) → done < grant → stepped image host h c ≡ Ok (h', c') → h'.moment.tick ≡ h.moment.tick + 1 → Ready h' c' → Running grant h₀ c₀ (done + 1) h' c'
    running_more h' c' b e tick ready = let room = r.room in record { rest = onward b (Ok (h', c')) e; room = omega arith; ready = ready }

    pub running_stop : (f : Fault) → done < grant → stepped image host h c ≡ Err f → answer done (Some f) h c ≡ ran image host grant 0 h₀ c₀
    running_stop f b e = onward b (Err f) e

    pub running_end : done ≡ grant → answer grant None h c ≡ ran image host grant 0 h₀ c₀
    running_end full = let left : grant - done ≡ 0 = omega arith in ap (λ n. answer n None h c) (sym full) ∙ sym (ran_none done h c) ∙ ap (λ n. ran image host n done h c) (sym left) ∙ r.rest

    -- from what a step between the host's words answered and left
    module _ (before word : ℕ) (h' : Held) (c' : Charts) (b : done < grant) (was : before ≡ host (h.moment.tick - 1)) (is : word ≡ host h.moment.tick) where
      as_stepped : step_between image before word h c ≡ stepped image host h c
      as_stepped = ap₂ (λ (u v : ℕ). step_between image u v h c) was is

      pub running_goes : (Ok tt, (h', c')) ≡ left (step_between image before word h c) (h, c) → Ready h' c' → Running grant h₀ c₀ (done + 1) h' c' × (h'.moment.tick ≡ h.moment.tick + 1)
      running_goes e ready =
          let o = left_ok (step_between image before word h c) (h', c') (h, c) e in
          let tick = step_tick image before word h c (h', c') o in
          (running_more h' c' b (sym as_stepped ∙ o) tick ready, tick)

      pub running_halts : (f : Fault) → (Err f, (h', c')) ≡ left (step_between image before word h c) (h, c) → (answer done (Some f) h' c' ≡ ran image host grant 0 h₀ c₀) × Whole h'
      running_halts f e =
          let o = left_err (step_between image before word h c) (h', c') (h, c) f e in
          (ap (λ (s : Held × Charts). answer done (Some f) s.0 s.1) o.1 ∙ running_stop f b (sym as_stepped ∙ o.0), subst (λ (s : Held × Charts). Whole s.0) (sym o.1) r.ready.whole)
