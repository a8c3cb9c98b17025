use Rattle.std.proofs.Common.{rules, ◌≡◌, [], map, take, sym, ap}
use Rattle.std.proofs.Output.{has_written_append, has_written_of_eq}
use Rattle.std.proofs.lemmas.List.{get_or-map, length-map, take_all}
use Rattle.vcd.specs.Signals.{first_id, suffix}
use Rattle.vcd.specs.Headers.{var_lines}
use Rattle.vcd.proofs.Counting.{vars_more, var_same}
use Rattle.vcd.proofs.header.VariablesDisplay.fmt.Goals as goal

pub loop-pin-init : goal.loop-pin-init
unfolding var_lines
loop-pin-init g c = λ plain. search rules

pub loop-pin-preserved : goal.loop-pin-preserved
loop-pin-preserved g c = λ plain.
    let v = c.args.self.now in
    let pin = c.loop-pin.pin in
    let so_far = c.loop-pin.invariant plain in
    has_written_of_eq _ _ _ _ _ (sym (vars_more (first_id v.signal) (suffix v.signal) (map (λ name. name.now) v.names.now) pin (rw length-map (search rules))))
    (has_written_append _ _ _ _ _ _ so_far
    (has_written_of_eq _ _ _ _ _ (var_same c.id-id.ensures c.suffix-suffix.ensures (sym (get_or-map (λ name. name.now) v.names.now pin _ [] (search rules)))) (c.writeln.ensures.writes so_far.plain (search rules))))

pub returns-clause-writes : goal.returns-clause-writes
returns-clause-writes g c = λ plain _.
    let v = c.args.self.now in
    let names = map (λ name. name.now) v.names.now in
    let all : take c.loop-pin.pin names ≡ names = take_all c.loop-pin.pin names (rw length-map (search rules)) in
    has_written_of_eq _ _ _ _ _ (ap (var_lines (first_id v.signal) (suffix v.signal)) all) (c.loop-pin.invariant plain)
