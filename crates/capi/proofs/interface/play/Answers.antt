use Rattle.capi.proofs.Meanings.{wrote_for}
use Rattle.capi.proofs.interface.play.Goals as goal

pub returns-clause-played : goal.returns-clause-played
returns-clause-played c =
    let d = c.in_ok-description.description in
    λ e said. wrote_for d.bytes.now c.args.description.now d.experiment e _ _ _ _ _ _ _ c.in_ok-description.ensures d.said said c.in_ok-play_wired.ensures.played
