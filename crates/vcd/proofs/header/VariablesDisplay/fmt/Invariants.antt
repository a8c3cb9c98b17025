use Rattle.std.proofs.Common.{map, take}
use Rattle.std.specs.Fmt.{HasWritten, IsPlainFormatter}
use Rattle.vcd.specs.Signals.{first_id, suffix}
use Rattle.vcd.specs.Headers.{var_lines}
use Rattle.vcd.proofs.header.VariablesDisplay.fmt.Given as goal

abbrev pub invariant-loop-pin : goal.invariant-loop-pin
invariant-loop-pin g l =
    IsPlainFormatter l.initial.f → HasWritten g.W.Write.write_str_gives l.initial.f (var_lines (first_id l.self.signal) (suffix l.self.signal) (take l.pin (map (λ name. name.now) l.self.names.now))) l.f
