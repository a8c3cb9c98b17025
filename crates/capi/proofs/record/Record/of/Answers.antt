use Rattle.std.proofs.Common.{◌≡◌, [], ◌∷◌}
use Rattle.capi.specs.Records.{word, quad, parts_of}
use Rattle.capi.proofs.Joining.{behind}
use Rattle.capi.proofs.record.Record.of.Goals as goal

pub returns-clause-bytes : goal.returns-clause-bytes
returns-clause-bytes c =
    let h = c.args.held.now in
    let m = h.moment.machine in
    let parts : c.put_parts.new.out ≡ parts_of m.parts = rw c.new-record.ensures at c.put_parts.ensures.bytes in
    behind (parts_of m.parts) (m.owed ∷ []) _ _ _ (rw parts at c.push.ensures)
    (behind c.push.new.self (word m.prescaler) _ _ _ (rw c.to_le_bytes.ensures at c.push-2.ensures)
    (behind c.push-2.new.self (quad h.moment.tick) _ _ _ (rw c.to_le_bytes-2.ensures at c.push-3.ensures)
    (behind c.push-3.new.self (quad h.stretches.pins) _ _ _ (rw c.to_le_bytes-3.ensures at c.push-4.ensures)
    (rw c.to_le_bytes-4.ensures at c.push-5.ensures))))
