use Rattle.std.proofs.Common.{None, ◌-◌, sym, ap, ◌∙◌, arith}
use Rattle.std.proofs.lemmas.List.{get_or_default}
use Rattle.recorder.specs.Charts.{stretch}
use Rattle.recorder.proofs.Appending.{next_is_some, next_some, counted, goes_on_lem, unplaced, adds_none, adds_unfit, adds_longer, adds_fresh, adds_full}
use Rattle.recorder.proofs.Filling.{adds}
use Rattle.recorder.proofs.append.append.Goals as goal

pub returns-then-ticks-eq0-clause-value : goal.returns-then-ticks-eq0-clause-value
returns-then-ticks-eq0-clause-value g c =
    sym (adds_none g.S.Sample.kind c.args.chart.now c.args.count c.args.ticks c.args.sample c.if-ticks-eq0.true)

pub returns-then-ticks-eq0-clause-facts : goal.returns-then-ticks-eq0-clause-facts
returns-then-ticks-eq0-clause-facts g c = adds _ _ _ _ _ _ _ (returns-then-ticks-eq0-clause-value g c)

pub returns-in_err-counted-clause-value : goal.returns-in_err-counted-clause-value
returns-in_err-counted-clause-value g c =
    let K = g.S.Sample.kind in
    let a = c.args in
    let out = unplaced K a.chart.now a.count a.ticks c.in_err-counted.ensures.lookup.0 in
    ap (λ r. (r, a.chart.now)) c.from_residual.ensures ∙ sym (adds_unfit K a.chart.now a.count a.ticks a.sample (omega arith) out)

pub returns-in_err-counted-clause-facts : goal.returns-in_err-counted-clause-facts
returns-in_err-counted-clause-facts g c = adds _ _ _ _ _ _ _ (returns-in_err-counted-clause-value g c)

pub returns-in_err-offset-clause-value : goal.returns-in_err-offset-clause-value
returns-in_err-offset-clause-value g c =
    let K = g.S.Sample.kind in
    let a = c.args in
    let same = counted K a.chart.now _ a.count c.in_ok-counted.ensures.lookup.0 in
    let out = sym (next_is_some K a.chart.now _ a.count a.ticks None same c.in_err-offset.ensures) in
    ap (λ r. (r, a.chart.now)) c.from_residual-in_err-offset.ensures ∙ sym (adds_unfit K a.chart.now a.count a.ticks a.sample (omega arith) out)

pub returns-in_err-offset-clause-facts : goal.returns-in_err-offset-clause-facts
returns-in_err-offset-clause-facts g c = adds _ _ _ _ _ _ _ (returns-in_err-offset-clause-value g c)

pub returns-then-goes_on-clause-value : goal.returns-then-goes_on-clause-value
returns-then-goes_on-clause-value g c =
    let K = g.S.Sample.kind in
    let a = c.args in
    let same = counted K a.chart.now _ a.count c.in_ok-counted.ensures.lookup.0 in
    let next = next_some K a.chart.now _ a.count a.ticks _ same c.in_ok-offset.ensures in
    let on = sym (same.on a.sample) ∙ sym c.if-goes_on.ensures in
    let some = (goes_on_lem K a.chart.now a.count a.sample on).0 in
    let old = get_or_default a.chart.now (a.count - 1) c.index-chart-count.result (stretch 0 0 K.none) (omega arith) in
    let last = get_or_default a.chart.now (a.count - 1) c.index-chart-count-then-goes_on.result (stretch 0 0 K.none) (omega arith) in
    let e = adds_longer K a.chart.now a.count a.ticks a.sample (omega arith) next.0 on in
    cc

pub returns-then-goes_on-clause-facts : goal.returns-then-goes_on-clause-facts
returns-then-goes_on-clause-facts g c = adds _ _ _ _ _ _ _ (returns-then-goes_on-clause-value g c)

pub returns-then-count-chart-clause-value : goal.returns-then-count-chart-clause-value
returns-then-count-chart-clause-value g c =
    let K = g.S.Sample.kind in
    let a = c.args in
    let same = counted K a.chart.now _ a.count c.in_ok-counted.ensures.lookup.0 in
    let next = next_some K a.chart.now _ a.count a.ticks _ same c.in_ok-offset.ensures in
    let off = sym (same.on a.sample) ∙ sym c.if-goes_on.ensures in
    sym (adds_full K a.chart.now a.count a.ticks a.sample (omega arith) next.0 off (omega arith))

pub returns-then-count-chart-clause-facts : goal.returns-then-count-chart-clause-facts
returns-then-count-chart-clause-facts g c = adds _ _ _ _ _ _ _ (returns-then-count-chart-clause-value g c)

pub returns-clause-value : goal.returns-clause-value
returns-clause-value g c =
    let K = g.S.Sample.kind in
    let a = c.args in
    let same = counted K a.chart.now _ a.count c.in_ok-counted.ensures.lookup.0 in
    let next = next_some K a.chart.now _ a.count a.ticks _ same c.in_ok-offset.ensures in
    let off = sym (same.on a.sample) ∙ sym c.if-goes_on.ensures in
    let e = adds_fresh K a.chart.now a.count a.ticks a.sample (omega arith) next.0 off (omega arith) in
    cc

pub returns-clause-facts : goal.returns-clause-facts
returns-clause-facts g c = adds _ _ _ _ _ _ _ (returns-clause-value g c)
