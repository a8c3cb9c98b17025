use Rattle.std.proofs.Common.{◌≡◌, ℕ, None, sym, refl, ap, ◌∙◌, subst}
use Rattle.hosts.specs.Pulses.{bad_pulse}
use Rattle.recorder.specs.Histories.{Shows}
use Rattle.recorder.specs.Samples.{pin_kind}
use Rattle.recording.specs.Read.{described}
use Rattle.pinchart.specs.Walks.{pins_at}
use Rattle.pinchart.specs.Recordings.{with_wave, settled, waving}
use Rattle.pinchart.proofs.Setting.{set_ok, set_shows}
use Rattle.pinchart.proofs.recorded.chart_described.Goals as goal

pub returns : goal.returns
returns c =
    let d = described c.args.recording.now in
    let cs = c.args.chart.now in
    let r = c.chart_with in
    let s = set_ok _ _ _ _ _ _ c.in_ok-set.ensures in
    let at = c.as_slice.ensures.value in
    let good : bad_pulse d.pulses ≡ None = ap bad_pulse (sym at) ∙ s.0 in
    let same = set_shows c.set.new.self.word.bits d.word c.set.new.self.pulses.now d.pulses s.1 (s.2 ∙ at) in
    record {
      value = r.ensures.value ∙ ap (λ (m : ℕ → ℕ). waving m d.wave d.ticks cs) same ∙ rw good refl;
      shown = subst (λ (m : ℕ → ℕ). Shows pin_kind (pins_at (with_wave d.wave m)) r.new.chart (settled r.result).count (settled r.result).ticks) same r.ensures.shown;
    }
