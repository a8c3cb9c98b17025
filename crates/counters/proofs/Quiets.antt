-- How long the timers, the buzzer and the basic timer only run on.
use Rattle.std.proofs.Common.{◌≡◌, ℕ, ◌+◌, ◌%◌, ◌<◌, ◌≤◌, Bool, true, false, cond, not, ◌&&◌, eqb, List, [], ◌∷◌, length, get_or, set, Some, None, Option, sym, refl, ap, ◌∙◌, ap₂, inl, inr, mod-lt, arith}
use Rattle.std.proofs.lemmas.List.{set-get_or}
use Rattle.std.proofs.Math.Nat.{min-eq_left, min-eq_right}
use Rattle.std.proofs.lemmas.Bool.{both_ways, cases_lt}
use Rattle.recorder.specs.declared.mode.Mode.{Mode}
use Rattle.recorder.specs.declared.mode.Mode.TheVariants.{Running, WakeUpTimer, Stopped}
use Rattle.counters.specs.declared.timer.Source.{Source}
use Rattle.counters.specs.declared.timer.Source.TheVariants.{Divider, Event, Held}
use Rattle.counters.specs.declared.timer.Timer.{Timer}
use Rattle.counters.specs.declared.timer.Timers.{Timers}
use Rattle.counters.specs.declared.timer.Matches.{Matches}
use Rattle.counters.specs.declared.buzzer.Buzzer.{Buzzer}
use Rattle.counters.specs.declared.basic.BasicTimer.{BasicTimer}
use Rattle.counters.specs.declared.basic.Passing.{Passing}
use Rattle.ticks.specs.Ticks.{sooner}
use Rattle.counters.specs.Counting.{flip, pulse, counted, run_on, still_for}
use Rattle.counters.specs.Timers.{timer, drive0, drive1, source0, source1, pulses, timer_ticked, timer_moved, timer_still, at, of0, of1, timers_moved}
use Rattle.counters.specs.Buzzers.{buzzer_shift, buzzer_limit, buzzer_pulsed, buzzer_moved, buzzer_still}
use Rattle.counters.specs.Basic.{at_limit, basic_shift, basic_moved, basic_still}
use Rattle.counters.specs.Quiet.{prescaled, Longest, TimerQuiet, TimersQuiet, BuzzerQuiet, BasicQuiet}
use Rattle.counters.proofs.Counters.{run_none, no_match, runs_on, matches}

pub never : {X : Type 0} {j : ℕ} → None ≡ Some j → X
never e = absurd cc

pub the : {i j : ℕ} → Some i ≡ Some j → j ≡ i
the e = cc

-- what nothing bounds
pub unbounded : {Quiet : ℕ → Type 0} → ((j : ℕ) → Quiet j) → Longest None Quiet
unbounded q = record { quiet = λ j _. q j; ends = λ j e _. never e }

-- where one of two things ends, both do
pub longest_both : {P Q R : ℕ → Type 0} (a b : Option ℕ) → Longest a P → Longest b Q → ((j : ℕ) → P j → Q j → R j) → ((j : ℕ) → R j → P j × Q j) → Longest (sooner a b) R
longest_both None None p q f g = unbounded (λ j. f j (p.quiet j tt) (q.quiet j tt))
longest_both None (Some v) p q f g = record { quiet = λ j h. f j (p.quiet j tt) (q.quiet j h); ends = λ j e r. q.ends j e (g j r).1 }
longest_both (Some u) None p q f g = record { quiet = λ j h. f j (p.quiet j h) (q.quiet j tt); ends = λ j e r. p.ends j e (g j r).0 }
longest_both (Some u) (Some v) p q f g = record {
  quiet = λ j h. f j (p.quiet j (omega arith)) (q.quiet j (omega arith));
  ends = λ j e r.
      elim (cases_lt u v) [
        | inl h ↦ p.ends j (ap (λ n. Some n) (sym (min-eq_left (omega arith))) ∙ e) (g j r).0
        | inr h ↦ q.ends j (ap (λ n. Some n) (sym (min-eq_right h)) ∙ e) (g j r).1
      ];
}

-- what a counter modulo M on a divider does before its match, and at it
counter_longest : (M c l s p : ℕ) {Quiet : ℕ → Type 0} → c < M → l < M → s ≤ 11 →
    ((j : ℕ) → (pulse s (prescaled p (j + 1)) && eqb (run_on M s p j c) l) ≡ false →
    cond (pulse s (prescaled p (j + 1))) (counted M l (run_on M s p j c)) (run_on M s p j c) ≡ run_on M s p (j + 1) c → Quiet j) →
    ((j : ℕ) → (pulse s (prescaled p (j + 1)) && eqb (run_on M s p j c) l) ≡ true → Quiet j → ⊥) → Longest (Some (still_for M s p l c)) Quiet
counter_longest M c l s p cb lb sb quiet hit = record {
  quiet = λ j h. quiet j (no_match M c l cb lb s p sb j h) (runs_on M c l cb lb s p sb j h);
  ends = λ j e. hit j (matches M c l cb lb s p sb j (the e));
}

-- one timer
pub timer_longest : (n p : ℕ) (t : Timer) → n ≤ 11 → t.count < 256 → t.limit < 256 → Longest (timer_still (Divider n) p t) (TimerQuiet (Divider n) p t)
timer_longest n p t small cb lb =
    counter_longest 256 t.count t.limit n p cb lb small
    (λ j off count i. (record t { count = count i }, off i))
    (λ j hit q. both_ways _ (ap (λ (x : Timer × Bool). x.1) q) hit)

pub timer_starts : (n p : ℕ) (t : Timer) → t.count < 256 → timer_moved (Divider n) p 0 t ≡ t
timer_starts n p t cb = ap (λ (c : ℕ). record t { count = c }) (run_none 256 t.count cb n p)

-- both timers
control_kept : (s : Source) (p k : ℕ) (t : Timer) → (timer_moved s p k t).control ≡ t.control
control_kept (Divider n) p k t = refl
control_kept Event p k t = refl
control_kept Held p k t = refl

module _ (mode : Mode) (p : ℕ) (x y : Timer) (comp : Bool) where
  abbrev both : Timers
  both = record { pair = x ∷ y ∷ []; comp = comp }

  abbrev ticked0 : ℕ → Timer × Bool
  ticked0 j = timer_ticked (pulses (of0 mode (timers_moved mode p j both)) (prescaled p (j + 1)) false) (timer_moved (of0 mode both) p j x)

  abbrev ticked1 : ℕ → Timer × Bool
  ticked1 j = timer_ticked (pulses (of1 mode (timers_moved mode p j both)) (prescaled p (j + 1)) false) (timer_moved (of1 mode both) p j y)

  same0 : (j : ℕ) → of0 mode (timers_moved mode p j both) ≡ of0 mode both
  same0 j = ap (λ (c : ℕ). cond (eqb (c % 4) 3) (drive0 mode (source0 c)) Held) (control_kept (of0 mode both) p j x)

  same1 : (j : ℕ) → of1 mode (timers_moved mode p j both) ≡ of1 mode both
  same1 j =
      ap₂ (λ (a c : ℕ). cond (eqb (c % 4) 3) (drive1 mode (source1 (source0 a) c)) Held) (control_kept (of0 mode both) p j x) (control_kept (of1 mode both) p j y)

  tick0 : (j : ℕ) → ticked0 j ≡ timer_ticked (pulses (of0 mode both) (prescaled p (j + 1)) false) (timer_moved (of0 mode both) p j x)
  tick0 j = ap (λ (s : Source). timer_ticked (pulses s (prescaled p (j + 1)) false) (timer_moved (of0 mode both) p j x)) (same0 j)

  tick1 : (j : ℕ) → ticked1 j ≡ timer_ticked (pulses (of1 mode both) (prescaled p (j + 1)) false) (timer_moved (of1 mode both) p j y)
  tick1 j = ap (λ (s : Source). timer_ticked (pulses s (prescaled p (j + 1)) false) (timer_moved (of1 mode both) p j y)) (same1 j)

  abbrev joint : Timer × Bool → Timer × Bool → Timers × Matches
  joint a b = (record { pair = a.0 ∷ b.0 ∷ []; comp = flip a.1 comp }, record { timer0 = a.1; timer1 = b.1 })

  together : (j : ℕ) → TimerQuiet (of0 mode both) p x j → TimerQuiet (of1 mode both) p y j → TimersQuiet mode p both j
  together j a b = ap₂ joint (tick0 j ∙ a) (tick1 j ∙ b)

  apart : (j : ℕ) → TimersQuiet mode p both j → TimerQuiet (of0 mode both) p x j × TimerQuiet (of1 mode both) p y j
  apart j e =
      let m0 = ap (λ (z : Timers × Matches). z.1.timer0) e in
      let m1 = ap (λ (z : Timers × Matches). z.1.timer1) e in
      let t0 = ap (λ (z : Timers × Matches). get_or z.0.pair 0 x) e in
      let t1 = ap (λ (z : Timers × Matches). get_or z.0.pair 1 x) e in
      (sym (tick0 j) ∙ (λ i. (t0 i, m0 i)), sym (tick1 j) ∙ (λ i. (t1 i, m1 i)))

abbrev from : List Timer → Bool → Timers
from pair comp = record { pair = pair; comp = comp }

pub pair_longest : (mode : Mode) (p : ℕ) (ts : Timers) (r0 r1 : Option ℕ) → length ts.pair ≡ 2 → Longest r0 (TimerQuiet (of0 mode ts) p (at ts 0)) → Longest r1 (TimerQuiet (of1 mode ts) p (at ts 1)) → Longest (sooner r0 r1) (TimersQuiet mode p ts)
pair_longest mode p ts r0 r1 two = go ts.pair ts.comp two
  where
    go : (pair : List Timer) (comp : Bool) → length pair ≡ 2 → Longest r0 (TimerQuiet (of0 mode (from pair comp)) p (at (from pair comp) 0)) → Longest r1 (TimerQuiet (of1 mode (from pair comp)) p (at (from pair comp) 1)) → Longest (sooner r0 r1) (TimersQuiet mode p (from pair comp))
    go [] comp n a b = absurd (omega arith)
    go (x ∷ []) comp n a b = absurd (omega arith)
    go (x ∷ y ∷ []) comp n a b = longest_both r0 r1 a b (together mode p x y comp) (apart mode p x y comp)
    go (x ∷ y ∷ z ∷ zs) comp n a b = absurd (omega arith)

pub pair_starts : (mode : Mode) (p : ℕ) (ts : Timers) → timer_moved (of0 mode ts) p 0 (at ts 0) ≡ at ts 0 → timer_moved (of1 mode ts) p 0 (at ts 1) ≡ at ts 1 → timers_moved mode p 0 ts ≡ ts
pair_starts mode p ts x y =
    let z : set (set ts.pair 0 (at ts 0)) 1 (at ts 1) ≡ ts.pair = ap (λ (l : List Timer). set l 1 (at ts 1)) (set-get_or ts.pair 0 (timer 0 0 0)) ∙ set-get_or ts.pair 1 (timer 0 0 0) in
    ap₂ (λ (u v : Timer). from (set (set ts.pair 0 u) 1 v) ts.comp) x y ∙ ap (λ (l : List Timer). from l ts.comp) z

-- the buzzer
not_self : (b : Bool) → not b ≡ b → ⊥
not_self true e = both_ways true (sym e) refl
not_self false e = both_ways false refl (sym e)

pub buzzer_longest : (mode : Mode) (p : ℕ) (b : Buzzer) → buzzer_shift b ≤ 11 → b.count < 64 → Longest (buzzer_still mode p b) (BuzzerQuiet mode p b)
buzzer_longest WakeUpTimer p b sb cb = unbounded (λ j. refl)
buzzer_longest Stopped p b sb cb = unbounded (λ j. refl)
buzzer_longest Running p b sb cb =
    counter_longest 64 b.count (buzzer_limit b) (buzzer_shift b) p cb (mod-lt b.bur (omega arith)) sb
    (λ j. on (pulse (buzzer_shift b) (prescaled p (j + 1))) (buzzer_moved Running p j b))
    (λ j. turned (pulse (buzzer_shift b) (prescaled p (j + 1))) (buzzer_moved Running p j b))
  where
    on : (v : Bool) (z : Buzzer) {count : ℕ} → (v && eqb z.count (buzzer_limit z)) ≡ false → cond v (counted 64 (buzzer_limit z) z.count) z.count ≡ count → cond v (buzzer_pulsed z) z ≡ record z { count = count }
    on true z off count = λ i. record z { count = count i; level = flip (off i) z.level }
    on false z off count = λ i. record z { count = count i }

    turned : (v : Bool) (z : Buzzer) {count : ℕ} → (v && eqb z.count (buzzer_limit z)) ≡ true → cond v (buzzer_pulsed z) z ≡ record z { count = count } → ⊥
    turned true z hit q = not_self z.level (ap (λ (v : Bool). flip v z.level) (sym hit) ∙ ap (λ (z : Buzzer). z.level) q)
    turned false z hit q = both_ways false refl hit

pub buzzer_starts : (mode : Mode) (p : ℕ) (b : Buzzer) → b.count < 64 → buzzer_moved mode p 0 b ≡ b
buzzer_starts WakeUpTimer p b cb = refl
buzzer_starts Stopped p b cb = refl
buzzer_starts Running p b cb = ap (λ (c : ℕ). record b { count = c }) (run_none 64 b.count cb (buzzer_shift b) p)

-- the basic timer
pub basic_longest : (mode : Mode) (p : ℕ) (b : BasicTimer) → basic_shift b ≤ 11 → b.bitr < 256 → Longest (basic_still mode p b) (BasicQuiet mode p b)
basic_longest WakeUpTimer p b sb cb = unbounded (λ j. refl)
basic_longest Stopped p b sb cb = unbounded (λ j. refl)
basic_longest Running p b sb cb =
    counter_longest 256 b.bitr 255 (basic_shift b) p cb (omega arith) sb
    (λ j off count i. (
      record b { bitr = count i; watchdog = cond (off i) (counted 128 (b.wdtr % 128) b.watchdog) b.watchdog },
      record { passed = off i; watchdog = off i && at_limit b },
    ))
    (λ j hit q. both_ways _ (ap (λ (z : BasicTimer × Passing). z.1.passed) q) hit)

pub basic_starts : (mode : Mode) (p : ℕ) (b : BasicTimer) → b.bitr < 256 → basic_moved mode p 0 b ≡ b
basic_starts WakeUpTimer p b cb = refl
basic_starts Stopped p b cb = refl
basic_starts Running p b cb = ap (λ (c : ℕ). record b { bitr = c }) (run_none 256 b.bitr cb (basic_shift b) p)
