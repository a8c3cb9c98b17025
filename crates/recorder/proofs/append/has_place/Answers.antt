use Rattle.std.proofs.Common.{false, true, sym, ap, ◌∙◌, is_some, refl, arith}
use Rattle.recorder.proofs.Appending.{next_is_some, counted, unplaced, adds_none, found}
use Rattle.recorder.proofs.append.has_place.Goals as goal

pub returns-then-ticks-eq0 : goal.returns-then-ticks-eq0
returns-then-ticks-eq0 g c =
    sym (ap (λ p. is_some p.0) (adds_none g.S.Sample.kind c.args.chart.now c.args.count c.args.ticks c.args.sample.now c.if-ticks-eq0.true))

pub returns-in_default : goal.returns-in_default
returns-in_default g c =
    let K = g.S.Sample.kind in
    let a = c.args in
    let out = unplaced K a.chart.now a.count a.ticks c.in_default.ensures.lookup.0 in
    sym (found K a.chart.now a.count a.ticks a.sample.now false _ (omega arith) out refl)

pub returns-then-goes_on : goal.returns-then-goes_on
returns-then-goes_on g c =
    let K = g.S.Sample.kind in
    let a = c.args in
    let same = counted K a.chart.now _ a.count c.in-Some.ensures.lookup.0 in
    let fit = sym (c.if-is_some.ensures ∙ next_is_some K a.chart.now _ a.count a.ticks _ same c.next_tick.ensures) in
    let on = sym (same.on a.sample.now) ∙ sym c.if-goes_on.ensures in
    c.if-goes_on.true ∙ sym (found K a.chart.now a.count a.ticks a.sample.now true true (omega arith) fit on)

pub returns-else-goes_on : goal.returns-else-goes_on
returns-else-goes_on g c =
    let K = g.S.Sample.kind in
    let a = c.args in
    let same = counted K a.chart.now _ a.count c.in-Some.ensures.lookup.0 in
    let fit = sym (c.if-is_some.ensures ∙ next_is_some K a.chart.now _ a.count a.ticks _ same c.next_tick.ensures) in
    let off = sym (same.on a.sample.now) ∙ sym c.if-goes_on.ensures in
    sym (found K a.chart.now a.count a.ticks a.sample.now true false (omega arith) fit off)

pub returns-else-is_some : goal.returns-else-is_some
returns-else-is_some g c =
    let K = g.S.Sample.kind in
    let a = c.args in
    let same = counted K a.chart.now _ a.count c.in-Some.ensures.lookup.0 in
    let out = sym (c.if-is_some.ensures ∙ next_is_some K a.chart.now _ a.count a.ticks _ same c.next_tick.ensures) in
    c.if-is_some.false ∙ sym (found K a.chart.now a.count a.ticks a.sample.now false _ (omega arith) out refl)
