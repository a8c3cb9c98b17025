use Rattle.std.proofs.Common.{◌≤◌, sym, subst}
use Rattle.machine.specs.declared.state.Machine.{Machine}
use Rattle.bench.proofs.Ticking.{finished_owed}
use Rattle.bench.proofs.held.Moment.go_on.Goals as goal

pub returns-then-quiet-eq0-clause-bounded : goal.returns-then-quiet-eq0-clause-bounded
returns-then-quiet-eq0-clause-bounded c =
    let s = c.args.self.now in
    let n = c.args.seen.now in
    let e = c.finish.ensures in
    λ b. record { sound = e.sound b.sound; owed = subst (λ (v : Machine). v.owed ≤ 16) (sym e.value) (finished_owed s.machine c.args.image.now n.before n.word b.owed) }
