use Rattle.std.proofs.Common.{rules, ℕ, List, [], ◌++◌, sym, ap, ◌∙◌, append_assoc, append-nil}
use Rattle.std.proofs.Output.{has_written_append, has_written_of_eq}
use Rattle.std.specs.List.{flat_map}
use Rattle.vcd.specs.Changes.{tick_line, change_text}
use Rattle.vcd.proofs.walk.WalkDisplay.fmt.Goals as goal

pub loop-change-init : goal.loop-change-init
loop-change-init g c = (tt, tt, λ plain. ([], search rules, search rules))

pub loop-change-preserved : goal.loop-change-preserved
loop-change-preserved g c = (
  tt,
  tt,
  λ plain.
      let so_far = c.loop-change.invariant.2 plain in (
        so_far.0 ++ change_text c.in-Some.change,
        has_written_append _ _ _ _ _ _ so_far.1 (search rules),
        append_assoc so_far.0 _ _
            ∙ ap (λ (t : List ℕ). so_far.0 ++ t) (sym (ap (flat_map change_text) c.in-Some.ensures.steps))
            ∙ so_far.2,
      ),
)

pub returns-clause-writes : goal.returns-clause-writes
returns-clause-writes g c = λ plain ok.
    let so_far = c.loop-change.invariant.2 plain in
    let all = sym (append-nil so_far.0) ∙ sym (ap (λ cs. so_far.0 ++ flat_map change_text cs) c.in-None.ensures.steps.0) ∙ so_far.2 in
    has_written_of_eq _ _ _ _ _ (ap (λ (t : List ℕ). t ++ tick_line c.args.self.now.end) all) (has_written_append _ _ _ _ _ _ so_far.1 (search rules))
