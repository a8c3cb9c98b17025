use Rattle.std.proofs.Common.{◌≡◌, take}
use Rattle.std.proofs.lemmas.List.{take_min}
use Rattle.std.specs.List.{flat_map}
use Rattle.recorder.specs.Samples.{pin_script, mode_script}
use Rattle.recorder.specs.Lines.{line_of}
use Rattle.capi.proofs.Joining.{texted_more}
use Rattle.capi.proofs.play.put_charts.Goals as goal

pub returns : goal.returns
returns c =
    let n = c.args.counted in
    let pins : take c.min.result c.args.pins.now ≡ take n.pins c.args.pins.now = rw c.min.ensures (take_min n.pins c.args.pins.now) in
    let modes : take c.min-2.result c.args.modes.now ≡ take n.modes c.args.modes.now = rw c.min-2.ensures (take_min n.modes c.args.modes.now) in
    rw (← pins, ← modes)
    (texted_more (flat_map (line_of pin_script) (take c.min.result c.args.pins.now)) (flat_map (line_of mode_script) (take c.min-2.result c.args.modes.now))
    c.args.lines.now c.put_lines-end.new.lines c.put_lines.new.lines c.put_lines-end.result c.put_lines.result c.put_lines-end.ensures.written c.put_lines.ensures.written)
