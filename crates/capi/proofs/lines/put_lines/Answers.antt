use Rattle.std.proofs.Common.{arith, take}
use Rattle.std.specs.List.{flat_map}
use Rattle.recorder.specs.Lines.{line_of}
use Rattle.capi.proofs.Joining.{texted_more, texts_more}
use Rattle.capi.proofs.lines.put_lines.Goals as goal

pub loop-stretch-preserved : goal.loop-stretch-preserved
loop-stretch-preserved g c =
    let xs = c.args.stretches.now in
    let f = line_of g.S.Sample.script in
    let i = c.loop-stretch.stretch-index in
    let x = c.stretch-item.result in
    let done = flat_map f (take i xs) in
    let more = texts_more f xs i x c.loop-stretch-test.true c.stretch-item.is in
    record {
      written = rw (← more) (texted_more done (f x) c.args.lines.now c.loop-stretch.lines c.put_line-end.new.lines c.loop-stretch.end c.put_line-end.result c.loop-stretch.invariant.written c.put_line-end.ensures.written);
      fits = omega arith;
    }
