use Rattle.std.proofs.Common.{arith, length, ap}
use Rattle.std.proofs.lemmas.List.{length-take-le}
use Rattle.capi.proofs.record.put_record.Goals as goal

pub copy_from_slice-requires : goal.copy_from_slice-requires
copy_from_slice-requires c = omega (arith, length-take-le 192 c.args.fields.now c.requires, ap length c.bytes.ensures)
