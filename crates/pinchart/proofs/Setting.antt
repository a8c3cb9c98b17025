-- What a pulse list holds once it was set.
use Rattle.std.proofs.Common.{◌≡◌, ℕ, ◌%◌, ◌^◌, cond, List, Some, None, Ok, Option, Result, refl, ap}
use Rattle.faults.specs.declared.Fault.{Fault}
use Rattle.hosts.specs.Pulses.{bad_pulse, covered, set_to, answered}
use Rattle.hosts.specs.declared.pulse.Pulse.{Pulse}
use Rattle.pinchart.specs.Recordings.{pulsed}

abbrev Set : Type 0
Set = Result Unit Fault × ℕ × List Pulse

pub set_ok : (w v word : ℕ) (ps qs pulses : List Pulse) → (Ok tt, v, qs) ≡ set_to w ps word pulses → (bad_pulse pulses ≡ None) × (v ≡ word % 2 ^ 15) × (qs ≡ pulses)
set_ok w v word ps qs pulses = go (bad_pulse pulses) refl
  where
    go : (b : Option ℕ) → bad_pulse pulses ≡ b → (Ok tt, v, qs) ≡ answered b w ps word pulses → (bad_pulse pulses ≡ None) × (v ≡ word % 2 ^ 15) × (qs ≡ pulses)
    go None b e = (b, ap (λ (s : Set). s.1) e, ap (λ (s : Set). s.2) e)
    go (Some i) b e = absurd (cc (ap (λ (s : Set). s.0) e))

-- the word of the pulses that were set
pub set_shows : (v word : ℕ) (qs ps : List Pulse) → v ≡ word % 2 ^ 15 → qs ≡ ps → ◌≡◌ {A = ℕ → ℕ} (λ t. cond (covered qs t) v 0) (pulsed word ps)
set_shows v word qs ps e f = λ i t. cond (covered (f i) t) (e i) 0
