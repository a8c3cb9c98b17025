use Rattle.std.proofs.Common.{◌≡◌, ℕ, ◌-◌, List, length, take, drop, ap, ◌∙◌, arith}
use Rattle.std.specs.Int.{w32, from_le_bytes}
use Rattle.runchart.proofs.print.read_input.Goals as goal

pub returns : goal.returns
returns c =
    let input = c.args.input.now in
    let parts = c.in_ok-image.ensures.cases in
    let size = c.if-input-ne-INPUT.false in
    let cut : length input - 4 ≡ 2048 = omega (arith, size) in
    record {
      size = size;
      whole = omega (arith, parts.2, size);
      first = parts.0 ∙ ap (λ (n : ℕ). take n input) cut;
      last = c.from_le_bytes.ensures ∙ ap (λ (bs : List ℕ). from_le_bytes w32 bs) (parts.1 ∙ ap (λ (n : ℕ). drop n input) cut);
    }
