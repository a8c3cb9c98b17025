use Rattle.std.proofs.Common.{◌≡◌, ◌*◌, ◌≤◌, take}
use Rattle.std.specs.List.{flat_map}
use Rattle.recorder.specs.Lines.{line_of, texted}
use Rattle.capi.proofs.lines.put_lines.Given as goal

-- the lines of the stretches below the index are written
abbrev pub invariant-loop-stretch : goal.invariant-loop-stretch
invariant-loop-stretch g l = record {
  written : (l.end, l.lines) ≡ texted (flat_map (line_of g.S.Sample.script) (take l.stretch-index l.stretches)) l.initial.lines;
  fits : l.end ≤ 64 * l.stretch-index;
}
