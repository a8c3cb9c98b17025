use Rattle.std.proofs.Common.{rules, ◌≡◌, ℕ, ◌^◌, ◌-◌, false, List, [], ◌++◌, codes, refl, ap, ◌∙◌}
use Rattle.std.specs.Fmt.{char_count, digits, format_spec, padded_integral}
use Rattle.std.proofs.Output.{has_written_of_eq}
use Rattle.recorder.specs.declared.mode.Mode.{Mode}
use Rattle.recorder.specs.declared.mode.Mode.TheVariants.{Running, WakeUpTimer, Stopped}
use Rattle.recorder.specs.Samples.{mode_letter}
use Rattle.vcd.specs.Values.{mode_line}
use Rattle.vcd.proofs.values.ModeValueDisplay.fmt.Goals as goal

-- the line of a letter
abbrev line : ℕ → List ℕ
line n = codes "b" ++ (padded_integral (format_spec 32 0 4 8 (2 ^ 64 - 1)) false [] (digits 2 false n) ++ codes " m\n")

line_of : (m : Mode) → line (mode_letter m) ≡ mode_line m
unfolding mode_line digits padded_integral char_count
line_of Running = refl
line_of WakeUpTimer = refl
line_of Stopped = refl

pub returns-clause-writes : goal.returns-clause-writes
returns-clause-writes g c = λ plain ok. has_written_of_eq _ _ (line c.letter-letter.result) _ _ (ap line c.letter-letter.ensures ∙ line_of c.args.self.now.0) (search rules)
