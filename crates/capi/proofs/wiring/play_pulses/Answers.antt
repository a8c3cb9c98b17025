use Rattle.std.proofs.Common.{◌∙◌, refl}
use Rattle.capi.specs.declared.experiment.Wiring.TheVariants.{Pulses, PulsesAndWave, All}
use Rattle.capi.proofs.Meanings.{wave_is, list_is, steady_is, joined_is, told, wrote_as}
use Rattle.capi.proofs.wiring.play_pulses.Goals as goal

pub returns-in-Pulses-clause-played : goal.returns-in-Pulses-clause-played
returns-in-Pulses-clause-played c =
    let d = c.args.description.now in
    let b = d.bytes.now in
    let e = d.experiment in
    let l = c.in_ok-list in
    wrote_as _ _ _ _ _ _ _ _ _ _ _ (list_is b e l.list.word.bits l.list.pulses.now _ l.ensures.0 refl l.ensures.1 ∙ told b e Pulses c.in-Pulses.is) c.play_before.ensures

pub returns-in_ok-right-in-PulsesAndWave-clause-played : goal.returns-in_ok-right-in-PulsesAndWave-clause-played
returns-in_ok-right-in-PulsesAndWave-clause-played c =
    let d = c.args.description.now in
    let b = d.bytes.now in
    let e = d.experiment in
    let l = c.in_ok-list in
    let s = c.in_ok-right-in-PulsesAndWave in
    let list = list_is b e l.list.word.bits l.list.pulses.now _ l.ensures.0 refl l.ensures.1 in
    let wave = wave_is e.first s.right.word.bits s.right.low s.right.high s.ensures.0 s.ensures.1 s.ensures.2 in
    wrote_as _ _ _ _ _ _ _ _ _ _ _ (joined_is _ _ _ _ list wave ∙ told b e PulsesAndWave c.in-PulsesAndWave.is) c.play_before-in-PulsesAndWave.ensures

pub returns-in_ok-second-in-All-clause-played : goal.returns-in_ok-second-in-All-clause-played
returns-in_ok-second-in-All-clause-played c =
    let d = c.args.description.now in
    let b = d.bytes.now in
    let e = d.experiment in
    let l = c.in_ok-list in
    let f = c.in_ok-first-in-All in
    let s = c.in_ok-second-in-All in
    let steady = steady_is e c.new.result.word.bits c.new.ensures in
    let list = list_is b e l.list.word.bits l.list.pulses.now _ l.ensures.0 refl l.ensures.1 in
    let first = wave_is e.first f.first.word.bits f.first.low f.first.high f.ensures.0 f.ensures.1 f.ensures.2 in
    let second = wave_is e.second s.second.word.bits s.second.low s.second.high s.ensures.0 s.ensures.1 s.ensures.2 in
    wrote_as _ _ _ _ _ _ _ _ _ _ _ (joined_is _ _ _ _ (joined_is _ _ _ _ steady list) (joined_is _ _ _ _ first second) ∙ told b e All c.in-All.is) c.play_before-in-All.ensures
