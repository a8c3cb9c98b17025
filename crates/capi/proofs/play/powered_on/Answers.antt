use Rattle.std.proofs.Common.{◌≡◌, length, ap, eq-eqb, arith}
use Rattle.std.proofs.lemmas.List.{length-take-le}
use Rattle.std.proofs.lemmas.Grind.{common_steps}
use Rattle.capi.proofs.play.powered_on.Goals as goal

pub unwrap-requires : goal.unwrap-requires
unwrap-requires c =
    let long : length c.image.result.now ≡ 2048 = omega (arith, length-take-le 2048 c.args.description.now.bytes.now (omega arith), ap length c.image.ensures) in
    let whole = eq-eqb (length c.image.result.now) 2048 long in
    let value = rw whole at c.power_on.ensures.value in
    grind (arith, common_steps)
