use Rattle.std.proofs.Common.{◌≡◌, ◌++◌, take, vec_items}
use Rattle.std.specs.List.{flat_map}
use Rattle.recorder.specs.Lines.{line_of}
use Rattle.report.proofs.add_lines.Given as goal

abbrev pub invariant-loop-stretch : goal.invariant-loop-stretch
invariant-loop-stretch g l = vec_items l.out ≡ vec_items l.initial.out ++ flat_map (line_of g.S.Sample.script) (take l.stretch-index l.stretches)
