use Rattle.std.proofs.Common.{refl}
use Rattle.std.specs.Fmt.{digits}
use Rattle.sheet.specs.Rule.{entry_at}
use Rattle.recorder.specs.Charts.{appended}
use Rattle.bench.specs.Ticks.{tick_between}
use Rattle.bench.specs.Runs.{step_between, ran, played}
use Rattle.runchart.proofs.worked.worked_examples.Goals as goal

pub returns : goal.returns
unfolding digits entry_at appended tick_between step_between ran played
returns c = record {
  facts = record {
    ticks = refl;
    fault = refl;
    counts = refl;
    stretches = refl;
    modes = refl;
    lines = refl;
    overflow = refl;
    carry = refl;
    borrow = refl;
    call = refl;
    interrupt = refl;
    wave = refl;
    pulses = refl;
    longest = refl;
  };
  count = refl;
}
