use Rattle.std.proofs.Common.{◌≡◌, IfOk, Result, refl, subst, arith}
use Rattle.std.proofs.lemmas.Result.{err_from_is_err_and}
use Rattle.faults.specs.declared.Fault.{Fault}
use Rattle.machine.specs.declared.state.Machine.{Machine}
use Rattle.bench.specs.Benches.{charts_of}
use Rattle.bench.specs.Keeps.{Bounded}
use Rattle.bench.specs.Leaps.{takes, Reaches}
use Rattle.bench.proofs.Leaping.{advance_faults, advance_stops, advance_goes, takes_max, reaches_by, reach_by, bounded_by}
use Rattle.bench.proofs.bench.Bench.advance.Goals as goal

pub returns-in_err-begin : goal.returns-in_err-begin
returns-in_err-begin c =
    let p = err_from_is_err_and c.from_residual.result c.from_residual.ensures.1 in
    let h = c.args.self.now.held in
    let n = c.args.seen.now in
    let e = c.in_err-begin.ensures.value in
    rw (p.1, p.2) (record {
      value = advance_faults c.args.image.now n c.args.most h (charts_of c.args.self.now) _ e;
      takes = tt;
      longest = subst (λ (o : Result Machine Fault). Reaches n c.args.most h.moment.tick o) e tt;
      bounded = subst (λ (o : Result Machine Fault). IfOk o Bounded) e tt;
      ready = c.requires.accepted.ready;
      lent = record { pins = refl; modes = refl };
    })

pub stride-quiet-requires : goal.stride-quiet-requires
stride-quiet-requires c = c.in_ok-begin.ensures.sound c.requires.accepted.ready.whole.machine.sound

pub go_on-requires : goal.go_on-requires
go_on-requires c =
    let max = takes_max c.stride-quiet.result in
    omega (arith, c.stride-quiet.ensures.longest.granted, c.requires.accepted.time)

pub returns-in_err-add : goal.returns-in_err-add
returns-in_err-add c =
    let p = err_from_is_err_and c.from_residual-in_err-add.result c.from_residual-in_err-add.ensures.1 in
    let h = c.args.self.now.held in
    let n = c.args.seen.now in
    let begun = c.in_ok-begin.ensures in
    let k = c.stride-quiet.ensures in
    let max = takes_max c.stride-quiet.result in
    let all : c.max-ticks.result ≡ takes c.stride-quiet.result = cc in
    let e = c.in_err-add.ensures in
    let s = advance_stops c.args.image.now n c.args.most h (charts_of c.args.self.now) c.begin.new.self begun.value c.stride-quiet.result k.value c.max-ticks.result all c.samples-samples.result c.samples-samples.ensures c.add.new.self.held (charts_of c.add.new.self) _ e.moment e.value in
    rw (p.1, p.2) (record {
      value = s.0;
      takes = tt;
      longest = reaches_by n c.args.most h.moment.tick _ c.begin.new.self c.stride-quiet.result begun.value k.value k.longest;
      bounded = bounded_by h.moment.machine c.begin.new.self _ begun.value c.requires.accepted.ready.whole.machine begun.sound begun.owed;
      ready = s.1 c.requires.accepted.ready;
      lent = e.lent;
    })

pub returns : goal.returns
returns c =
    let h = c.args.self.now.held in
    let n = c.args.seen.now in
    let begun = c.in_ok-begin.ensures in
    let k = c.stride-quiet.ensures in
    let max = takes_max c.stride-quiet.result in
    let all : c.max-ticks.result ≡ takes c.stride-quiet.result = cc in
    let e = c.in_ok-add.ensures in
    let few = k.longest.granted in
    let time = c.requires.accepted.time in
    let acted = bounded_by h.moment.machine c.begin.new.self _ begun.value c.requires.accepted.ready.whole.machine begun.sound begun.owed in
    let s = advance_goes c.args.image.now n c.args.most h (charts_of c.args.self.now) c.begin.new.self begun.value c.stride-quiet.result k.value c.max-ticks.result all c.samples-samples.result c.samples-samples.ensures c.add.new.self.held (charts_of c.add.new.self) c.go_on.new.self c.go_on.ensures.value (omega arith) (omega arith) (λ b. c.go_on.ensures.bounded (record { sound = begun.sound b.sound; owed = begun.owed b.owed })) e.value in
    record {
      value = s.0;
      takes = reach_by n c.args.most h.moment.tick _ c.begin.new.self c.stride-quiet.result c.max-ticks.result begun.value k.value all;
      longest = reaches_by n c.args.most h.moment.tick _ c.begin.new.self c.stride-quiet.result begun.value k.value k.longest;
      bounded = acted;
      ready = s.1 c.requires.accepted.ready;
      lent = record { pins = e.lent.pins; modes = e.lent.modes };
    }
