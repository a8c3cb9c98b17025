use Rattle.std.proofs.Common.{◌≡◌, Some, arith, rules}
use Rattle.counters.specs.Buzzers.{buzzer_still}
use Rattle.counters.proofs.Quiets.{buzzer_longest, buzzer_starts}
use Rattle.counters.proofs.buzzer.Buzzer.still.Goals as goal

pub returns : goal.returns
returns c =
    let v : Some c.still_for.result ≡ buzzer_still c.args.mode c.args.prescaler c.args.self.now = search rules in
    record { value = v; starts = buzzer_starts _ _ _; longest = λ small. rw v (buzzer_longest _ _ _ (omega arith) small) }
