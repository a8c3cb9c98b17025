use Rattle.std.proofs.Common.{◌≡◌, ◌++◌, ◌∙◌, take, drop, replicate, ap, arith}
use Rattle.std.proofs.lemmas.List.{take-replicate, length-take-le, length-replicate}
use Rattle.recorder.specs.Lines.{texted}
use Rattle.bench.specs.Charting.{both}
use Rattle.capi.specs.Records.{record_of}
use Rattle.capi.specs.Playing.{Made, made, no_pins, no_mode, played_of, lines_of}
use Rattle.capi.proofs.play.play_before.Goals as goal

pub put_charts-requires : goal.put_charts-requires
put_charts-requires g c =
    let s = c.args.description.now.experiment.sizes in
    let pins = length-take-le s.pins (replicate 2048 no_pins) (omega (arith, length-replicate 2048 no_pins)) in
    let modes = length-take-le s.modes (replicate 2048 no_mode) (omega (arith, length-replicate 2048 no_mode)) in
    omega arith

pub returns : goal.returns
returns g c =
    let d = c.args.description.now in
    let s = d.experiment.sizes in
    let pins : take s.pins (replicate 2048 no_pins) ≡ replicate s.pins no_pins = take-replicate s.pins 2048 no_pins (omega arith) in
    let modes : take s.modes (replicate 2048 no_mode) ≡ replicate s.modes no_mode = take-replicate s.modes 2048 no_mode (omega arith) in
    let all : made c.make_calls.new.answers c.make_calls.new.chip.held (both c.make_calls.new.pins c.make_calls.new.modes) ≡ played_of d.bytes.now s (g.P.PinHost.meaning c.args.host.now) =
    rw (c.powered_on-chip.ensures, pins, modes) at c.make_calls.ensures in
    record {
      answers = ap (λ (m : Made). m.answers ++ drop s.calls c.args.answers.now) all;
      fields = c.put_record.ensures ∙ ap (λ (m : Made). record_of m.held ++ drop 192 c.args.fields.now) all;
      lines = c.put_charts.ensures ∙ ap (λ (m : Made). texted (lines_of m.held.stretches m.charts) c.args.lines.now) all;
    }
