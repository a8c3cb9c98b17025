use Rattle.std.proofs.Common.{ℕ, List, subst, sym, ap, ◌∙◌, ◌++◌}
use Rattle.std.specs.Str.{IsAscii}
use Rattle.std.proofs.lemmas.Str.{IsUtf8-from_ascii}
use Rattle.vcd.specs.Signals.{first_level, first_drive}
use Rattle.vcd.specs.Values.{bit_lines}
use Rattle.vcd.proofs.Lines.{ascii_pins}
use Rattle.vcd.proofs.values.PinValuesDisplay.fmt.Goals as goal

pub unreachable-requires : goal.unreachable-requires
unreachable-requires g c =
    let pins = c.args.self.now in
    let levels : List ℕ = bit_lines 15 first_level pins.sample.levels pins.which.levels in
    let drives : List ℕ = bit_lines 15 first_drive pins.sample.drive pins.which.drive in
    let first = c.add_bits.ensures.added ∙ ap (λ v. v ++ levels) c.new-lines.ensures in
    let written = c.as_slice.ensures.value ∙ c.add_bits-2.ensures.added ∙ ap (λ v. v ++ drives) first in
    c.in_default.ensures.cases.0 (IsUtf8-from_ascii _ (subst IsAscii (sym written) (ascii_pins pins.sample pins.which)))
