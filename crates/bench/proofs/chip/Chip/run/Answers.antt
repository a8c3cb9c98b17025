use Rattle.std.proofs.Common.{sym, ◌∙◌, rules}
use Rattle.bench.proofs.Boards.{played_by, board_after}
use Rattle.bench.proofs.chip.Chip.run.Goals as goal

pub returns-in-Err : goal.returns-in-Err
returns-in-Err g c =
    let plays = sym (played_by _ _ _ _ _ _ (sym c.in-Err.ensures)) in
    rw c.stopped.ensures (record { plays = plays; board = board_after _ _ _ _ _ _ _ _ _ plays })

pub returns-clause-plays : goal.returns-clause-plays
returns-clause-plays g c =
    let plays = c.run-run.ensures.plays ∙ sym (played_by _ _ _ _ _ _ (sym c.in_default.ensures)) in
    let pins = c.run-run.ensures.lent.pins in
    let modes = c.run-run.ensures.lent.modes in
    search (rules, plays)

pub returns-clause-board : goal.returns-clause-board
returns-clause-board g c = board_after _ _ _ _ _ _ _ _ _ (returns-clause-plays g c)
