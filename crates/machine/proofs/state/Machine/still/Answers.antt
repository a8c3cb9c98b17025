use Rattle.std.proofs.Common.{rules}
use Rattle.machine.proofs.Spans.{span_of, starts_from}
use Rattle.machine.proofs.state.Machine.still.Goals as goal

pub returns : goal.returns
returns c =
    let t = c.still-timers.ensures in
    let b = c.still-buzzer.ensures in
    let d = c.still-basic.ensures in
    record {
      value = search rules;
      span = λ sound.
          rw (c.sooner-3.ensures, c.rest.ensures, c.sooner-2.ensures, c.sooner.ensures)
          (span_of c.args.self.now _ _ _ t.longest (b.longest sound.buzzer) d.longest (starts_from c.args.self.now sound.prescaler t.starts (b.starts sound.buzzer) d.starts));
    }
