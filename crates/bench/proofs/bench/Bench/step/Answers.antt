use Rattle.std.proofs.lemmas.Result.{err_from_is_err_and}
use Rattle.bench.specs.Benches.{charts_of}
use Rattle.bench.proofs.Stepping.{step_faults, step_stops, step_goes}
use Rattle.bench.proofs.bench.Bench.step.Goals as goal

pub returns-in_err-samples-clause-value : goal.returns-in_err-samples-clause-value
returns-in_err-samples-clause-value c =
    let p = err_from_is_err_and c.from_residual.result c.from_residual.ensures.1 in
    rw (p.1, p.2) (step_faults c.args.image.now c.args.before c.args.word c.args.self.now.held (charts_of c.args.self.now) _ c.in_err-samples.ensures.value)

pub returns-in_err-add : goal.returns-in_err-add
returns-in_err-add c =
    let p = err_from_is_err_and c.from_residual-in_err-add.result c.from_residual-in_err-add.ensures.1 in
    let e = c.in_err-add.ensures in
    let s = step_stops c.args.image.now c.args.before c.args.word c.args.self.now.held (charts_of c.args.self.now) _ c.add.new.self.held (charts_of c.add.new.self) c.in_ok-samples.ensures.value _ e.moment e.value in
    rw (p.1, p.2) (record { value = s.0; ready = s.1; lent = e.lent })

pub returns : goal.returns
returns c =
    let e = c.in_ok-add.ensures in
    let s = step_goes c.args.image.now c.args.before c.args.word c.args.self.now.held (charts_of c.args.self.now) _ c.add.new.self.held (charts_of c.add.new.self) c.in_ok-samples.ensures.value c.requires e.value in
    record { value = s.0; ready = s.1 c.in_ok-samples.ensures.bounded; lent = record { pins = e.lent.pins; modes = e.lent.modes } }
