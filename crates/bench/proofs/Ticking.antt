-- What a tick keeps of a machine.
use Rattle.std.proofs.Common.{◌≡◌, ℕ, ◌+◌, ◌-◌, ◌≤◌, List, Ok, Err, Result, ap, arith}
use Rattle.std.proofs.lemmas.Bool.{cond_both}
use Rattle.faults.specs.declared.Fault.{Fault}
use Rattle.bus.specs.Outcomes.{bind}
use Rattle.machine.specs.declared.state.Machine.{Machine}
use Rattle.machine.specs.Tick.{machine, prescaler_after, happened, counted, reset_machine, begun, finished}
use Rattle.bench.specs.declared.held.Samples.{Samples}
use Rattle.bench.specs.declared.held.Moment.{Moment}
use Rattle.bench.specs.Ticks.{moment, samples_of, tick_between}

pub finished_owed : (m : Machine) (image : List ℕ) (before word : ℕ) → m.owed ≤ 16 → (finished m image before word).owed ≤ 16
finished_owed m image before word h =
    cond_both _ (reset_machine (counted m (happened m before word)) image) (machine (counted m (happened m before word)) (m.owed - 1) (prescaler_after m.parts.mode m.prescaler)) (λ z. z.owed ≤ 16)
    (λ _. omega arith) (λ _. omega arith)

-- a tick by its first step
pub tick_by : (image : List ℕ) (before word : ℕ) (s : Moment) (r : Result Machine Fault) → r ≡ begun s.machine image word →
    bind r (λ m. Ok (moment (finished m image before word) (s.tick + 1), samples_of m word)) ≡ tick_between image before word s
unfolding tick_between
tick_by image before word s r e = ap (λ (v : Result Machine Fault). bind v (λ m. Ok (moment (finished m image before word) (s.tick + 1), samples_of m word))) e

-- a tick raises the tick number by 1
pub tick_after : (image : List ℕ) (before word : ℕ) (s : Moment) (t : Moment × Samples) → Ok t ≡ tick_between image before word s → t.0.tick ≡ s.tick + 1
unfolding tick_between
tick_after image before word s t = go (begun s.machine image word)
  where
    go : (r : Result Machine Fault) → Ok t ≡ bind r (λ m. Ok (moment (finished m image before word) (s.tick + 1), samples_of m word)) → t.0.tick ≡ s.tick + 1
    go (Ok m) e =
        let q : ◌≡◌ {A = Moment × Samples} t (moment (finished m image before word) (s.tick + 1), samples_of m word) = cc in
        ap (λ (v : Moment × Samples). v.0.tick) q
    go (Err f) e = cc
