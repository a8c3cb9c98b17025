use Rattle.std.proofs.Common.{◌≡◌, ◌-◌, ◌≤◌, None}
use Rattle.recorder.specs.Histories.{Told}
use Rattle.recorder.specs.Samples.{pin_kind}
use Rattle.pinchart.specs.Walks.{reached, pins_at, walked}
use Rattle.pinchart.proofs.walk.chart_pins.Given as goal

abbrev pub invariant-loop-charted : goal.invariant-loop-charted
invariant-loop-charted g l =
    let c = l.charted in
    (c.ticks ≤ l.end)
    × Told pin_kind (pins_at (g.P.PinHost.meaning l.host)) l.chart c.count c.ticks
    × (walked (g.P.PinHost.meaning l.host) c.ticks l.initial.chart ≡ (reached c.ticks c.count None, l.chart))
    × (c.fault ≡ None)

abbrev pub decreases-loop-charted : goal.decreases-loop-charted
decreases-loop-charted g l = l.end - l.charted.ticks
