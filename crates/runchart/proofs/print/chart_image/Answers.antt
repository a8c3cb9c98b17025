use Rattle.std.proofs.Common.{◌≡◌, ℕ, Bool, cond, length, replicate, Ok, Err, Result, ap, ◌∙◌, ap₂}
use Rattle.std.proofs.lemmas.Bool.{eq-eqb}
use Rattle.faults.specs.declared.Fault.{Fault}
use Rattle.faults.specs.declared.Fault.TheVariants.{ImageSize}
use Rattle.bench.specs.declared.held.Held.{Held}
use Rattle.bench.specs.Charting.{both, left}
use Rattle.bench.specs.Runs.{played}
use Rattle.bench.specs.Power.{start, powered}
use Rattle.bench.specs.Model.{sizes}
use Rattle.runchart.proofs.print.chart_image.Goals as goal

pub returns : goal.returns
returns c =
    let image = c.args.image.now in
    let s = start image (replicate 128 0) in
    let charts = both c.args.pins.now c.args.modes.now in
    let on : ◌≡◌ {A = Result Unit Fault × Held} (c.power_on.result, c.power_on.new.self.held) (Ok tt, powered s) =
    c.power_on.ensures.value ∙ ap (λ (b : Bool). left (cond b (Ok (powered s)) (Err ImageSize)) c.new-chip.result.held) (eq-eqb (length image) 2048 c.requires) in
    let ok = ap (λ (p : Result Unit Fault × Held). p.0) on in
    let at = ap (λ (p : Result Unit Fault × Held). p.1) on in
    let host = ap (λ (w : ℕ). λ (t : ℕ). w) c.new.ensures in
    let stands = (c.leap_run-run.ensures.board (replicate 128 0) (sizes charts) 0 (c.power_on.ensures.begins ok _ charts)).stands.modelled in
    record {
      value = c.leap_run-run.ensures.plays ∙ ap₂ (λ (m : ℕ → ℕ) (h : Held). played image m c.args.grant h charts) host at;
      pins = stands.pins.places;
      modes = stands.modes.places;
    }
