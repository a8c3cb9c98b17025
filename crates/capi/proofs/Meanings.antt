-- The meanings of the hosts that are wired.
use Rattle.std.proofs.Common.{◌≡◌, ℕ, ◌%◌, ◌^◌, List, Some, ◌∙◌, sym, ap, subst, if◌then◌else◌, bit_or}
use Rattle.hosts.specs.declared.pulse.Pulse.{Pulse}
use Rattle.hosts.specs.Pulses.{covered}
use Rattle.hosts.specs.Waves.{wave_at}
use Rattle.capi.specs.declared.answer.Answer.{Answer}
use Rattle.capi.specs.declared.experiment.Wiring.{Wiring}
use Rattle.capi.specs.declared.experiment.Wave.{Wave as Numbers}
use Rattle.capi.specs.declared.experiment.Sizes.{Sizes}
use Rattle.capi.specs.declared.experiment.Experiment.{Experiment}
use Rattle.capi.specs.Describing.{described, pulses_of}
use Rattle.capi.specs.Playing.{played_of, Wrote}
use Rattle.capi.specs.Wirings.{steady_of, pulsed, joined, wired_as, meaning_of}

pub wave_is : (n : Numbers) (w l h : ℕ) → w ≡ n.word % 2 ^ 15 → l ≡ n.low → h ≡ n.high → wave_at w l h ≡ wave_at (n.word % 2 ^ 15) n.low n.high
wave_is n w l h word low high =
    ap (λ (x : ℕ). wave_at x l h) word ∙ ap (λ (x : ℕ). wave_at (n.word % 2 ^ 15) x h) low ∙ ap (λ (x : ℕ). wave_at (n.word % 2 ^ 15) n.low x) high

pub list_is : (b : List ℕ) (e : Experiment) (w : ℕ) (ps qs : List Pulse) → w ≡ e.pulses % 2 ^ 15 → ps ≡ qs → qs ≡ pulses_of b e.sizes.pulses → (λ (t : ℕ). if covered ps t then w else 0) ≡ pulsed b e
list_is b e w ps qs word list read =
    ap {B = ℕ → ℕ} (λ (x : ℕ) (t : ℕ). if covered ps t then x else 0) word
    ∙ ap {B = ℕ → ℕ} (λ (x : List Pulse) (t : ℕ). if covered x t then e.pulses % 2 ^ 15 else 0) (list ∙ read)

pub steady_is : (e : Experiment) (w : ℕ) → w ≡ e.steady % 2 ^ 15 → (λ (t : ℕ). w) ≡ steady_of e
steady_is e w word = ap {B = ℕ → ℕ} (λ (x : ℕ) (t : ℕ). x) word

pub joined_is : (m m' n n' : ℕ → ℕ) → m ≡ m' → n ≡ n' → (λ (t : ℕ). bit_or (m t) (n t)) ≡ joined m' n'
joined_is m m' n n' p q = ap (λ (x : ℕ → ℕ). joined x n) p ∙ ap (λ (y : ℕ → ℕ). joined m' y) q

-- the wiring's meaning is the one that is told
pub told : (b : List ℕ) (e : Experiment) (k : Wiring) → e.wiring ≡ k → wired_as k b e ≡ meaning_of b e
unfolding meaning_of
told b e k is = ap (λ (x : Wiring). wired_as x b e) (sym is)

pub wrote_as : (s : Sizes) (b : List ℕ) (m n : ℕ → ℕ) (a a' : List Answer) (f f' l l' : List ℕ) (w : ℕ) → m ≡ n → Wrote s (played_of b s m) a a' f f' l l' w → Wrote s (played_of b s n) a a' f f' l l' w
wrote_as s b m n a a' f f' l l' w e h = subst (λ (x : ℕ → ℕ). Wrote s (played_of b s x) a a' f f' l l' w) e h

same_told : (b : List ℕ) (e e' : Experiment) → described b ≡ Some e → described b ≡ Some e' → e ≡ e'
same_told b e e' p q = cc

-- what was written for one reading of a description was written for any
pub wrote_for : (b b' : List ℕ) (e e' : Experiment) (a a' : List Answer) (f f' l l' : List ℕ) (w : ℕ) → b ≡ b' → described b ≡ Some e → described b' ≡ Some e' →
    Wrote e.sizes (played_of b e.sizes (meaning_of b e)) a a' f f' l l' w → Wrote e'.sizes (played_of b' e'.sizes (meaning_of b' e')) a a' f f' l l' w
wrote_for b b' e e' a a' f f' l l' w bytes said said' h =
    let same : e ≡ e' = same_told b e e' said (ap described bytes ∙ said') in
    subst (λ (x : List ℕ). Wrote e'.sizes (played_of x e'.sizes (meaning_of x e')) a a' f f' l l' w) bytes
    (subst (λ (x : Experiment). Wrote x.sizes (played_of b x.sizes (meaning_of b x)) a a' f f' l l' w) same h)
