use Rattle.std.proofs.Common.{◌≤◌, sym, subst, rules}
use Rattle.std.proofs.lemmas.Result.{err_from_is_err_and}
use Rattle.machine.specs.declared.state.Machine.{Machine}
use Rattle.bench.specs.Ticks.{tick_between}
use Rattle.bench.proofs.Ticking.{finished_owed, tick_by}
use Rattle.bench.proofs.held.Moment.tick.Goals as goal

pub returns-in_err-begin-clause-value : goal.returns-in_err-begin-clause-value
returns-in_err-begin-clause-value c =
    let p = err_from_is_err_and c.from_residual.result c.from_residual.ensures.1 in
    rw (p.1, p.2) (tick_by c.args.image.now c.args.before c.args.word c.args.self.now _ c.in_err-begin.ensures.value)

pub returns-clause-value : goal.returns-clause-value
unfolding tick_between
returns-clause-value c = search rules

pub returns-clause-bounded : goal.returns-clause-bounded
returns-clause-bounded c =
    let acted = c.in_ok-begin.ensures in
    let e = c.finish.ensures in
    λ b. record { sound = e.sound (acted.sound b.sound); owed = subst (λ (m : Machine). m.owed ≤ 16) (sym e.value) (finished_owed c.begin.new.self c.args.image.now c.args.before c.args.word (acted.owed b.owed)) }
