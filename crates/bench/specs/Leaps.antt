-- A leap run: what it knows of its host, and its moves.
use Rattle.std.specs.Prelude.{◌≡◌, ℕ, ◌+◌, ◌-◌, ◌^◌, ◌<◌, ◌≤◌, min, cond, List, Some, None, Ok, Err, Option, Result, ◌==◌, nat_lt}
use Rattle.std.specs.Option.{unwrap_or}
use Rattle.faults.specs.declared.Fault.{Fault}
use Rattle.bus.specs.Outcomes.{bind}
use Rattle.machine.specs.declared.state.Machine.{Machine}
use Rattle.machine.specs.Tick.{begun, finished}
use Rattle.machine.specs.Quiet.{still_for, moved, QuietTick}
use Rattle.bench.specs.declared.held.Moment.{Moment}
use Rattle.bench.specs.declared.held.Held.{Held}
use Rattle.bench.specs.declared.leap.Seen.{Seen}
use Rattle.bench.specs.Ticks.{moment, samples_of}
use Rattle.bench.specs.Charting.{Charts, charted}
use Rattle.bench.specs.Runs.{held}

abbrev pub seen : ℕ → ℕ → ℕ → Seen
seen before word until = record { before = before; word = word; until = until }

-- what was seen of the host is true at tick t
pub record Sees (host : ℕ → ℕ) (t : ℕ) (s : Seen) : Type 0 where
  pub before : s.before ≡ host (t - 1)
  pub word : (v : ℕ) → t ≤ v → v < s.until → host v ≡ s.word
  pub horizon : s.until ≤ 2 ^ 48

-- the host is asked again only where its mark is reached; without a mark its word stays up to the horizon
abbrev pub renewed : (ℕ → ℕ) → (ℕ → Option ℕ) → ℕ → Seen → Seen
renewed host mark t s = cond (nat_lt t s.until) s (record s { word = host t; until = unwrap_or (mark t) (2 ^ 48) })

-- a quiet span, which none does not bound, cut to at most n ticks
abbrev pub cut : Option ℕ → ℕ → ℕ
cut None n = n
cut (Some r) n = min r n

-- how many ticks one move takes: the quiet span, cut by the grant and the host's mark; 0 where the host's word has just changed
abbrev pub stride : Moment → Seen → ℕ → ℕ
stride s n most = cond (n.before == n.word) (cut (still_for s.machine) (min most (n.until - s.tick))) 0

-- r ticks are quiet, and no more are, up to the grant and the host's mark
pub record Stride (s : Moment) (n : Seen) (most r : ℕ) : Type 0 where
  pub granted : r ≤ most
  pub marked : r ≤ n.until - s.tick
  pub starts : 0 < r → moved 0 s.machine ≡ s.machine
  pub same : 0 < r → n.before ≡ n.word
  pub quiet : (image : List ℕ) (j : ℕ) → j < r → QuietTick s.machine image n.word j
  pub longest : (image : List ℕ) → n.before ≡ n.word → r < most → r < n.until - s.tick → QuietTick s.machine image n.word r → ⊥

-- a move takes its quiet ticks, or else the next tick by itself
abbrev pub takes : ℕ → ℕ
takes k = cond (k == 0) 1 k

-- the machine behind k quiet ticks, or, where k is 0, behind the tick that it has begun
abbrev pub onward : List ℕ → Seen → ℕ → Machine → Machine
onward image n k m = cond (k == 0) (finished m image n.before n.word) (moved k m)

-- a move of a chip that has acted, and is m now
abbrev pub moved_on : List ℕ → Seen → ℕ → Held → Charts → Machine → Result (Held × Charts) Fault
moved_on image n most h c m =
    let t = h.moment.tick in
    let k = stride (moment m t) n most in
    bind (charted (takes k) (samples_of m n.word) h.stretches c) (λ s.
    Ok (held (moment (onward image n k m) (t + takes k)) s.0, s.1))

-- one move: the chip acts, and then takes all quiet ticks at once, this one with them, or ends this tick by itself
abbrev pub advanced : List ℕ → Seen → ℕ → Held → Charts → Result (Held × Charts) Fault
advanced image n most h c = bind (begun h.moment.machine image n.word) (moved_on image n most h c)

-- how many ticks a move from tick t takes, once the chip has acted
abbrev pub reach : Seen → ℕ → ℕ → Result Machine Fault → ℕ
reach n most t (Ok m) = takes (stride (moment m t) n most)
reach n most t (Err f) = 0

-- and that its quiet ticks are as many as can be
abbrev pub Reaches : Seen → ℕ → ℕ → Result Machine Fault → Type 0
Reaches n most t (Ok m) = Stride (moment m t) n most (stride (moment m t) n most)
Reaches n most t (Err f) = Unit {0}
