use Rattle.std.proofs.Common.{rules, ◌≡◌, sym, ◌∙◌, arith}
use Rattle.recording.proofs.Digits.{hex_is, hex_fits}
use Rattle.recording.proofs.numbers.hex.Goals as goal

pub map-requires : goal.map-requires
map-requires c = λ x e _ _. omega (arith, hex_fits c.args.digits.now x c.if-digits-gt4.false (sym e ∙ c.number.ensures))

pub returns : goal.returns
returns c =
    let same : c.map.result ≡ c.number.result = search rules in
    same ∙ c.number.ensures ∙ hex_is c.args.digits.now c.if-digits-gt4.false
