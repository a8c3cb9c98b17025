use Rattle.std.proofs.Common.{◌≡◌, ℕ, ◌-◌, Bool, true, false, cond, List, length, take, Some, None, Option, is_some, eqb, sym, ap, ◌∙◌, ap₂, arith}
use Rattle.bench.specs.Charting.{Charts, both}
use Rattle.bench.specs.Runs.{Ran, answer}
use Rattle.runchart.specs.Printing.{input_run}
use Rattle.vcd.specs.Changes.{vcd_of}
use Rattle.wave.specs.Waves.{ran_of, wave_of}
use Rattle.wave.proofs.image.wave_of.Goals as goal

-- an input runs exactly where it has the right size
sized : (input : List ℕ) (c d : Charts) (o : Option Ran) → (o, d) ≡ input_run input c → is_some o ≡ eqb (length input) 2052
sized input c d o e = by (eqb (length input) 2052) e
  where
    by : (b : Bool) → ◌≡◌ {A = Option Ran × Charts} (o, d) (cond b (Some (ran_of input c), (ran_of input c).charts) (None, c)) → is_some o ≡ b
    by true e = ap (λ (p : Option Ran × Charts). is_some p.0) e
    by false e = ap (λ (p : Option Ran × Charts). is_some p.0) e

-- the run of an input of the right size
run_of : (input : List ℕ) (c d : Charts) (o : Option Ran) → eqb (length input) 2052 ≡ true → (o, d) ≡ input_run input c → o ≡ Some (ran_of input c)
run_of input c d o long e = ap (λ (p : Option Ran × Charts). p.0) (e ∙ ap (λ (b : Bool). cond b (Some (ran_of input c), (ran_of input c).charts) (None, c)) long)

pub returns-in_default : goal.returns-in_default
returns-in_default c =
    record { size = sized c.args.input.now (both c.args.pins.now c.args.modes.now) _ None c.in_default.ensures.value; ticks = tt; fault = tt; file = tt }

pub returns : goal.returns
returns c =
    let input = c.args.input.now in
    let charts = both c.args.pins.now c.args.modes.now in
    let r = c.in-Some.charted in
    let pins = c.chart_input.new.pins in
    let modes = c.chart_input.new.modes in
    let n = r.held.stretches.pins in
    let m = r.held.stretches.modes in
    let size = sized input charts (both pins modes) (Some (answer r.run.ticks r.run.fault r.held (both pins modes))) c.in-Some.ensures.value in
    let some = run_of input charts (both pins modes) (Some (answer r.run.ticks r.run.fault r.held (both pins modes))) (sym size) c.in-Some.ensures.value in
    let is : answer r.run.ticks r.run.fault r.held (both pins modes) ≡ ran_of input charts = cc in
    let en : n - 0 ≡ n = omega arith in
    let em : m - 0 ≡ m = omega arith in
    record {
      size = size;
      ticks = ap (λ (x : Ran). x.ticks) is;
      fault = ap (λ (x : Ran). x.fault) is;
      file = c.in_ok-file.ensures ∙ ap₂ (λ (i j : ℕ). vcd_of (take i pins) (take j modes) r.run.ticks) en em ∙ ap wave_of is;
    }
