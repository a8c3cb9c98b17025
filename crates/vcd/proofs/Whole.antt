-- A file of charts that both have a stretch, and of others.
use Rattle.std.proofs.Common.{◌≡◌, ℕ, List, [], ◌∷◌, ◌++◌, length, sym, refl, ap, ◌∙◌, ap₂, append_assoc, codes, arith}
use Rattle.recorder.specs.declared.stretch.Stretch.{Stretch}
use Rattle.recorder.specs.declared.pin_sample.PinSample.{PinSample}
use Rattle.recorder.specs.declared.mode.Mode.{Mode}
use Rattle.vcd.specs.Headers.{header_of}
use Rattle.vcd.specs.Changes.{changes_of, vcd_of}
use Rattle.vcd.specs.Values.{pin_lines, all_pins, mode_line}

module _ (ticks : ℕ) (ps : List (Stretch PinSample)) (ms : List (Stretch Mode)) where
  pub no_pins : length ps ≡ 0 → header_of ≡ vcd_of ps ms ticks
  unfolding vcd_of
  no_pins h = go ps h
    where
      go : (qs : List (Stretch PinSample)) → length qs ≡ 0 → header_of ≡ vcd_of qs ms ticks
      go [] h = refl
      go (q ∷ qs) h = absurd (omega arith)

  pub no_modes : length ms ≡ 0 → header_of ≡ vcd_of ps ms ticks
  unfolding vcd_of
  no_modes h = go ps ms h
    where
      go : (qs : List (Stretch PinSample)) (ns : List (Stretch Mode)) → length ns ≡ 0 → header_of ≡ vcd_of qs ns ticks
      go [] ns h = refl
      go (q ∷ qs) [] h = refl
      go (q ∷ qs) (n ∷ ns) h = absurd (omega arith)

  pub whole : (p : Stretch PinSample) (qs : List (Stretch PinSample)) (m : Stretch Mode) (ns : List (Stretch Mode)) → ps ≡ p ∷ qs → ms ≡ m ∷ ns →
      header_of ++ (codes "#0\n$dumpvars\n" ++ (pin_lines p.sample all_pins ++ (mode_line m.sample ++ (codes "$end\n" ++ changes_of ticks p.sample qs ns)))) ≡ vcd_of ps ms ticks
  unfolding vcd_of
  whole p qs m ns eps ems =
      let P = pin_lines p.sample all_pins in
      let M = mode_line m.sample in
      let rest = changes_of ticks p.sample qs ns in
      ap (λ (v : List ℕ). header_of ++ (codes "#0\n$dumpvars\n" ++ v)) (sym (append_assoc P (M ++ codes "$end\n") rest ∙ ap (λ (v : List ℕ). P ++ v) (append_assoc M (codes "$end\n") rest)))
      ∙ sym (ap₂ (λ (xs : List (Stretch PinSample)) (ys : List (Stretch Mode)). vcd_of xs ys ticks) eps ems)
