use Rattle.std.proofs.Common.{◌∙◌}
use Rattle.capi.specs.declared.experiment.Wiring.TheVariants.{Steady, Wave}
use Rattle.capi.proofs.Meanings.{wave_is, steady_is, told, wrote_as}
use Rattle.capi.proofs.wiring.play_wired.Goals as goal

pub returns-in-Steady-clause-played : goal.returns-in-Steady-clause-played
returns-in-Steady-clause-played c =
    let d = c.args.description.now in
    let b = d.bytes.now in
    let e = d.experiment in
    wrote_as _ _ _ _ _ _ _ _ _ _ _ (steady_is e c.new-steady.result.word.bits c.new-steady.ensures ∙ told b e Steady c.in-Steady.is) c.play_before.ensures

pub returns-in_ok-wave-in-Wave-clause-played : goal.returns-in_ok-wave-in-Wave-clause-played
returns-in_ok-wave-in-Wave-clause-played c =
    let d = c.args.description.now in
    let b = d.bytes.now in
    let e = d.experiment in
    let s = c.in_ok-wave-in-Wave in
    wrote_as _ _ _ _ _ _ _ _ _ _ _ (wave_is e.first s.wave.word.bits s.wave.low s.wave.high s.ensures.0 s.ensures.1 s.ensures.2 ∙ told b e Wave c.in-Wave.is) c.play_before-in-Wave.ensures
