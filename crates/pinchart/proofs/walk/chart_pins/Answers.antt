use Rattle.std.proofs.Common.{◌≡◌, ◌^◌, min, sym, refl, ap, ◌∙◌, arith}
use Rattle.std.proofs.lemmas.Bool.Decides.{nat_tests}
use Rattle.recorder.specs.Histories.{Recorded, began}
use Rattle.recorder.specs.Samples.{pin_kind}
use Rattle.recorder.proofs.Filling.{shows}
use Rattle.pinchart.specs.Walks.{pins_at, walked}
use Rattle.pinchart.proofs.Walking.{moved, stopped}
use Rattle.pinchart.proofs.walk.chart_pins.Goals as goal

pub loop-charted-init : goal.loop-charted-init
loop-charted-init g c =
    let m = g.P.PinHost.meaning c.args.host.now in
    let h : Recorded pin_kind (pins_at m) c.args.chart.now 0 0 = began c.args.chart.now in
    let d = c.default-charted.ensures in
    rw (d.0, d.1.0) (omega arith, record { since = h; shown = shows pin_kind (pins_at m) c.args.chart.now 0 0 h }, refl, d.1.1)

pub loop-charted-preserved : goal.loop-charted-preserved
loop-charted-preserved g c =
    let m = g.P.PinHost.meaning c.args.host.now in
    let l = c.loop-charted in
    let u = c.quiet_until-next in
    let word : c.levels.result ≡ m l.charted.ticks = grind (arith, nat_tests) in
    let on = moved m c.args.chart.now l.charted.ticks u.result l.charted.count c.levels.result l.chart u.ensures.above (omega arith) l.invariant.1 l.invariant.2 word u.ensures.quiet c.in-Some.count c.append.new.chart c.in-Some.ensures.facts in
    (u.ensures.within, on.0, on.1, l.invariant.3)

pub returns-in_default : goal.returns-in_default
returns-in_default g c =
    let m = g.P.PinHost.meaning c.args.host.now in
    let l = c.loop-charted in
    let u = c.quiet_until-next in
    let word : c.levels.result ≡ m l.charted.ticks = grind (arith, nat_tests) in
    let on = stopped m c.args.chart.now l.charted.ticks u.result l.charted.count c.levels.result l.chart u.ensures.above (omega arith) l.invariant.1 l.invariant.2 word u.ensures.quiet c.append.new.chart (min c.args.ticks (2 ^ 48)) (omega arith) c.in_default.ensures.value in
    record { value = on.1; shown = on.0 }

pub returns : goal.returns
returns g c =
    let m = g.P.PinHost.meaning c.args.host.now in
    let l = c.loop-charted in
    let e : l.charted.ticks ≡ min c.args.ticks (2 ^ 48) = omega arith in
    record { value = ap (λ f. (record l.charted { fault = f }, l.chart)) l.invariant.3 ∙ sym l.invariant.2 ∙ ap (λ i. walked m i c.args.chart.now) e; shown = l.invariant.1.shown }
