use Rattle.std.proofs.Common.{rules, ◌≤◌, length}
use Rattle.recording.specs.Pieces.{lines_of}
use Rattle.recording.proofs.Cutting.{length-pieces}
use Rattle.recording.proofs.parse.Goals as goal

pub loop-bytes-init : goal.loop-bytes-init
loop-bytes-init c =
    let few : length (lines_of c.args.text.now) ≤ length c.args.text.now = length-pieces 10 c.args.text.now in
    search rules
