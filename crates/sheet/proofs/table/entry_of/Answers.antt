-- The sheet is the list of the rule's 256 values: antt computes both, and compares them.
use Rattle.std.proofs.Common.{◌<◌, refl, rules}
use Rattle.sheet.specs.Rule.{entry_at}
use Rattle.sheet.proofs.Values.{at}
use Rattle.sheet.proofs.Entries.{sound}
use Rattle.sheet.proofs.table.entry_of.Goals as goal

pub returns : goal.returns
unfolding entry_at
returns c =
    let h : c.args.code < 256 = search rules in
    record {
      rule = at entry_at 256 _ _ refl c.args.code h;
      facts = sound _ c.args.code h (at entry_at 256 _ _ refl c.args.code h);
    }
