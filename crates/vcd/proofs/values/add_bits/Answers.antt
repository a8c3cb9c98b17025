use Rattle.std.proofs.Common.{◌++◌, sym, append-nil, arith}
use Rattle.vcd.specs.Signals.{first_id}
use Rattle.vcd.specs.Values.{bit_lines}
use Rattle.vcd.proofs.Lines.{bits_onto}
use Rattle.vcd.proofs.values.add_bits.Goals as goal

pub loop-pin-init : goal.loop-pin-init
unfolding bit_lines
loop-pin-init c = (sym (append-nil c.args.lines.now.items), omega arith)

pub loop-pin-preserved : goal.loop-pin-preserved
loop-pin-preserved c =
    let few = c.loop-pin.invariant.1 in
    let short = c.add_bit.ensures.short in
    (bits_onto c.args.lines.now.items c.loop-pin.lines.items _ c.loop-pin.pin (first_id c.args.signal) _ c.args.word c.args.which c.loop-pin.invariant.0 c.id.ensures c.add_bit.ensures.added, omega arith)
