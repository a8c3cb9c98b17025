-- What holds of every entry of the sheet.
use Rattle.std.specs.Prelude.{◌≡◌, ◌+◌, ◌≤◌, Bool, true, false}
use Rattle.sheet.specs.declared.table.Entry.{Entry}
use Rattle.sheet.specs.declared.operation.Operation.{Operation}
use Rattle.sheet.specs.declared.operation.Operation.TheVariants as op

-- whether an operation is on the sheet
abbrev pub is_listed : Operation → Bool
is_listed op.Unlisted = false
is_listed _ = true

-- whether it costs two cycles more where its branch is taken
abbrev pub is_branch : Operation → Bool
is_branch (op.Branch b) = true
is_branch _ = false

pub record Sound (e : Entry) : Type 0 where
  pub some_bytes : 1 ≤ e.bytes
  pub few_bytes : e.bytes ≤ 3
  pub few_cycles : e.cycles ≤ 8
  pub branch : is_branch e.operation ≡ true → e.cycles + 2 ≤ 8
  pub listed : is_listed e.operation ≡ true → 2 ≤ e.cycles
