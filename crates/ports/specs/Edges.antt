-- Edges of the host's pins between the tick before and a tick.
use Rattle.std.specs.Prelude.{ℕ, ◌/◌, Bool, not, ◌&&◌, ◌||◌}
use Rattle.ports.specs.declared.port.Ports.{Ports}
use Rattle.ports.specs.declared.edges.Edges.{Edges}
use Rattle.ports.specs.Ports.{bit_of}

abbrev pub falls : Bool → Bool → Bool
falls before at = before && not at

abbrev pub rises : Bool → Bool → Bool
rises before at = not before && at

-- the edges that a pair of bits of IEDS selects: 01 falling, 10 rising, 11 both, 00 none
abbrev pub selected : ℕ → Bool → Bool → Bool
selected pair before at = (bit_of 1 pair && falls before at) || (bit_of 2 pair && rises before at)

-- a pin of RB, if its bit of RBFUNC is set
abbrev pub pin_edge : ℕ → ℕ → Ports → ℕ → ℕ → ℕ → Bool
pin_edge function pin s pair before at = bit_of function s.rbfunc && selected pair (bit_of pin before) (bit_of pin at)

-- INT0 is RB2, if INT0I is set
abbrev pub int0_edge : Ports → ℕ → ℕ → ℕ → Bool
int0_edge s ieds before at = pin_edge 4 0x0400 s ieds before at

-- INT1 is RB3, if INT1I is set
abbrev pub int1_edge : Ports → ℕ → ℕ → ℕ → Bool
int1_edge s ieds before at = pin_edge 8 0x0800 s (ieds / 4) before at

-- EC0 is RA0, while its direction is 0
abbrev pub ec0_rises : Ports → ℕ → ℕ → Bool
ec0_rises s before at = not (bit_of 1 s.raio) && rises (bit_of 1 before) (bit_of 1 at)

abbrev pub edges_of : Ports → ℕ → ℕ → ℕ → Edges
edges_of s ieds before at = record { int0 = int0_edge s ieds before at; int1 = int1_edge s ieds before at; ec0 = ec0_rises s before at }
