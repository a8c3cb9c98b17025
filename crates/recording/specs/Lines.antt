-- What a line says, by its fields.
use Rattle.std.specs.Prelude.{ℕ, ◌+◌, ◌^◌, Bool, cond, List, [], ◌∷◌, Some, None, Ok, Err, codes, Option, Result, ◌==◌, slice_index}
use Rattle.std.specs.Option.{option_map, option_and_then, ok_or}
use Rattle.std.specs.Str.{bytes_eq}
use Rattle.hosts.specs.declared.pulse.Pulse.{Pulse}
use Rattle.recording.specs.declared.Wave.{Wave}
use Rattle.recording.specs.declared.wrong.Reason.{Reason}
use Rattle.recording.specs.declared.wrong.Reason.TheVariants.{UnknownLine, BadTicks, BadWord, BadPulse, BadWave}
use Rattle.recording.specs.declared.line.Line.{Line}
use Rattle.recording.specs.declared.line.Line.TheVariants.{Skip, Ticks as TicksLine, Word as WordLine, Pulse as PulseLine, Wave as WaveLine}
use Rattle.recording.specs.Numbers.{under, decimal_of, hex_of}

-- the one field that there is
abbrev pub only : List (List ℕ) → Option (List ℕ)
only [] = None
only (f ∷ []) = Some f
only (f ∷ g ∷ fs) = None

-- N, at most 2^48
abbrev pub ticks_of : List (List ℕ) → Option ℕ
ticks_of fs = under (2 ^ 48 + 1) (option_and_then decimal_of (only fs))

-- WWWW
abbrev pub word_of : List (List ℕ) → Option ℕ
word_of fs = option_and_then hex_of (only fs)

-- OFFSET LENGTH
abbrev pub pulse_of : List (List ℕ) → Option Pulse
pulse_of [] = None
pulse_of (o ∷ fs) = option_and_then (λ l. option_and_then (λ offset. option_map (λ length. record { offset = offset; length = length }) (decimal_of l)) (decimal_of o)) (only fs)

-- WWWW LOW HIGH
abbrev pub wave_of : List (List ℕ) → Option Wave
wave_of [] = None
wave_of (w ∷ []) = None
wave_of (w ∷ l ∷ fs) = option_and_then (λ h. option_and_then (λ word. option_and_then (λ low. option_map (λ high. record { word = word; low = low; high = high }) (decimal_of h)) (decimal_of l)) (hex_of w)) (only fs)

-- whether a field begins with '#'
abbrev pub is_comment : List ℕ → Bool
is_comment f = slice_index f 0 == 35

-- a line by its first field and the fields after it
abbrev pub announced : List ℕ → List (List ℕ) → Result Line Reason
announced f fs =
    cond (is_comment f) (Ok Skip)
    (cond (bytes_eq f (codes "ticks")) (ok_or (option_map TicksLine (ticks_of fs)) BadTicks)
    (cond (bytes_eq f (codes "word")) (ok_or (option_map WordLine (word_of fs)) BadWord)
    (cond (bytes_eq f (codes "pulse")) (ok_or (option_map PulseLine (pulse_of fs)) BadPulse)
    (cond (bytes_eq f (codes "wave")) (ok_or (option_map WaveLine (wave_of fs)) BadWave)
    (Err UnknownLine)))))

abbrev pub line_of : List (List ℕ) → Result Line Reason
line_of [] = Ok Skip
line_of (f ∷ fs) = announced f fs
