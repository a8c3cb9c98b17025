-- How far a move goes.
use Rattle.std.proofs.Common.{◌≡◌, ℕ, ◌-◌, min, [], Some, None, Option, ap, arith}
use Rattle.machine.specs.declared.state.Machine.{Machine}
use Rattle.machine.specs.Quiet.{moved, Span}
use Rattle.bench.specs.declared.held.Moment.{Moment}
use Rattle.bench.specs.declared.leap.Seen.{Seen}
use Rattle.bench.specs.Leaps.{cut, Stride}

starts_by : (m : Machine) (o : Option ℕ) → Span m o → moved 0 m ≡ m
starts_by m None s = let e = s.leaps [] 0 0 tt in cc
starts_by m (Some r) s = let e = s.leaps [] 0 0 (omega arith) in cc

-- before a host that keeps its word, the quiet span, cut
pub stride_still : (s : Moment) (n : Seen) (most : ℕ) (o : Option ℕ) → n.before ≡ n.word → Span s.machine o → Stride s n most (cut o (min most (n.until - s.tick)))
stride_still s n most None e span = record {
  granted = omega arith;
  marked = omega arith;
  starts = λ _. starts_by s.machine None span;
  same = λ _. e;
  quiet = λ image j h. (span.longest image n.word).quiet j tt;
  longest = λ image _ g m q. omega arith;
}
stride_still s n most (Some r) e span = record {
  granted = omega arith;
  marked = omega arith;
  starts = λ _. starts_by s.machine (Some r) span;
  same = λ _. e;
  quiet = λ image j h. (span.longest image n.word).quiet j (omega arith);
  longest = λ image _ g m q. let full : r ≡ min r (min most (n.until - s.tick)) = omega arith in (span.longest image n.word).ends (min r (min most (n.until - s.tick))) (ap (λ (v : ℕ). Some v) full) q;
}
