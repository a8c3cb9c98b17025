-- What an instruction sees beside the chip's parts.
use Rattle.std.specs.Prelude.{ℕ, List}
use Rattle.bus.specs.declared.view.View.{View}

-- the image, the host's word, and the program counter that a fault names
pub record Seen : Type 0 where
  pub image : List ℕ
  pub host : ℕ
  pub pc : ℕ

abbrev pub seen : View → Seen
seen view = record { image = view.image.now; host = view.host; pc = view.pc }
