-- The two kinds of sample of a chip: its pins and its mode.
use Rattle.std.specs.Prelude.{◌≡◌, ℕ, ◌≤◌, Bool, true, false, cond, ◌&&◌, List, [], ◌∷◌, ◌++◌, length, Decides, ◌==◌, refl}
use Rattle.std.proofs.Common.{sym, ap, ◌∙◌, lit≤}
use Rattle.std.proofs.lemmas.Bool.{eqb-true, eq-eqb}
use Rattle.std.proofs.lemmas.Bool.Decides.{Decides-eqb, Decides-and, Decides-like}
use Rattle.recorder.specs.declared.pin_sample.PinSample.{PinSample}
use Rattle.recorder.specs.declared.mode.Mode.{Mode}
use Rattle.recorder.specs.declared.mode.Mode.TheVariants.{Running, WakeUpTimer, Stopped}
use Rattle.recorder.specs.Kinds.{Kind, Script}
use Rattle.recorder.specs.Lines.{hex4}

abbrev like_pins : PinSample → PinSample → Bool
like_pins p q = p.levels == q.levels && p.drive == q.drive

pub exact_pins : (p q : PinSample) → Decides (like_pins p q) (p ≡ q)
exact_pins p q =
    Decides-like (like_pins p q)
    (λ e. λ i. record { levels = e.0 i; drive = e.1 i })
    (λ e. (ap (λ (s : PinSample). s.levels) e, ap (λ (s : PinSample). s.drive) e))
    (Decides-and (p.levels == q.levels) (p.drive == q.drive) (Decides-eqb p.levels q.levels) (Decides-eqb p.drive q.drive))

abbrev pub pin_kind : Kind PinSample
pin_kind = record { like = like_pins; exact = exact_pins; none = record { levels = 0; drive = 0 } }

-- levels and drive, with a space between
abbrev text_pins : PinSample → List ℕ
text_pins s = hex4 s.levels ++ (32 ∷ hex4 s.drive)

pub short_pins : (s : PinSample) → length (text_pins s) ≤ 19
short_pins s = lit≤ tt

abbrev pub pin_script : Script PinSample
pin_script = record { letter = 80; text = text_pins; short = short_pins }

-- R, W or S
abbrev pub mode_letter : Mode → ℕ
mode_letter Running = 82
mode_letter WakeUpTimer = 87
mode_letter Stopped = 83

abbrev like_modes : Mode → Mode → Bool
like_modes p q = mode_letter p == mode_letter q

-- each mode has a letter of its own
abbrev mode_of : ℕ → Mode
mode_of n = cond (n == 82) Running (cond (n == 87) WakeUpTimer Stopped)

back : (m : Mode) → mode_of (mode_letter m) ≡ m
back Running = refl
back WakeUpTimer = refl
back Stopped = refl

pub exact_modes : (p q : Mode) → Decides (like_modes p q) (p ≡ q)
exact_modes p q =
    (λ e. sym (back p) ∙ ap mode_of (eqb-true (mode_letter p) (mode_letter q) e) ∙ back q, λ e. eq-eqb (mode_letter p) (mode_letter q) (ap mode_letter e))

abbrev pub mode_kind : Kind Mode
mode_kind = record { like = like_modes; exact = exact_modes; none = Running }

-- an equality that tells the three modes apart is likeness
pub alike_modes : (eq : Mode → Mode → Bool) → eq Running Running ≡ true → eq WakeUpTimer WakeUpTimer ≡ true → eq Stopped Stopped ≡ true →
    eq Running WakeUpTimer ≡ false → eq WakeUpTimer Running ≡ false → eq Running Stopped ≡ false → eq Stopped Running ≡ false →
    eq WakeUpTimer Stopped ≡ false → eq Stopped WakeUpTimer ≡ false → (p q : Mode) → eq p q ≡ like_modes p q
alike_modes eq s0 s1 s2 d0 d1 d2 d3 d4 d5 Running Running = s0
alike_modes eq s0 s1 s2 d0 d1 d2 d3 d4 d5 Running WakeUpTimer = d0
alike_modes eq s0 s1 s2 d0 d1 d2 d3 d4 d5 Running Stopped = d2
alike_modes eq s0 s1 s2 d0 d1 d2 d3 d4 d5 WakeUpTimer Running = d1
alike_modes eq s0 s1 s2 d0 d1 d2 d3 d4 d5 WakeUpTimer WakeUpTimer = s1
alike_modes eq s0 s1 s2 d0 d1 d2 d3 d4 d5 WakeUpTimer Stopped = d4
alike_modes eq s0 s1 s2 d0 d1 d2 d3 d4 d5 Stopped Running = d3
alike_modes eq s0 s1 s2 d0 d1 d2 d3 d4 d5 Stopped WakeUpTimer = d5
alike_modes eq s0 s1 s2 d0 d1 d2 d3 d4 d5 Stopped Stopped = s2

pub short_mode : (m : Mode) → length (mode_letter m ∷ []) ≤ 19
short_mode m = lit≤ tt

abbrev pub mode_script : Script Mode
mode_script = record { letter = 77; text = λ m. mode_letter m ∷ []; short = short_mode }
