use Rattle.std.proofs.Common.{◌≡◌, ℕ, List, ◌++◌}
use Rattle.std.specs.Fmt.{HasWritten, IsPlainFormatter}
use Rattle.std.specs.List.{flat_map}
use Rattle.vcd.specs.Changes.{change_text, changes_left}
use Rattle.vcd.proofs.walk.WalkDisplay.fmt.Given as goal

-- some of the text is written, and the changes that are left have the rest
abbrev pub invariant-loop-change : goal.invariant-loop-change
invariant-loop-change g l =
    (goal.iterator-loop-change g).can_next l.change-iterator
    × (goal.iterator-loop-change g).is_finite l.change-iterator
    × (IsPlainFormatter l.initial.f → (w : List ℕ) × HasWritten g.W.Write.write_str_gives l.initial.f w l.f × (w ++ flat_map change_text (changes_left l.change-iterator) ≡ flat_map change_text (changes_left l.self)))
