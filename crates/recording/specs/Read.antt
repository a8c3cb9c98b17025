-- What a text describes, or its first wrong line.
use Rattle.std.specs.Prelude.{◌≡◌, ℕ, ◌+◌, List, [], ◌∷◌, ◌++◌, Some, None, Ok, Err, vec_items, Option, Result}
use Rattle.std.specs.Option.{unwrap_or, option_map, ok_or, option_to_list}
use Rattle.std.specs.Result.{result_map_both}
use Rattle.hosts.specs.declared.pulse.Pulse.{Pulse}
use Rattle.recording.specs.declared.Wave.{Wave}
use Rattle.recording.specs.declared.Seen.{Seen}
use Rattle.recording.specs.declared.Recording.{Recording}
use Rattle.recording.specs.declared.TextError.{TextError}
use Rattle.recording.specs.declared.TextError.TheVariants.{Wrong, OutOfMemory}
use Rattle.recording.specs.declared.wrong.WrongLine.{WrongLine}
use Rattle.recording.specs.declared.wrong.Reason.{Reason}
use Rattle.recording.specs.declared.wrong.Reason.TheVariants.{TwoTicks, TwoWords, NoWord, TwoWaves, NoTicks}
use Rattle.recording.specs.declared.line.Line.{Line}
use Rattle.recording.specs.declared.line.Line.TheVariants.{Skip, Ticks, Word, Pulse as PulseLine, Wave as WaveLine}
use Rattle.recording.specs.Pieces.{lines_of, fields_of}
use Rattle.recording.specs.Lines.{line_of}

-- y if there is no value yet
abbrev pub unless : {X Y : Type 0} → Option X → Y → Reason → Result Y Reason
unless None y why = Ok y
unless (Some x) y why = Err why

-- what the lines have said after one more: at most one gives the ticks, the word or the wave, and a word stands above each pulse
abbrev pub noted : Seen → Line → Result Seen Reason
noted s Skip = Ok s
noted s (Ticks n) = unless s.ticks (record s { ticks = Some n }) TwoTicks
noted s (Word w) = unless s.word (record s { word = Some w }) TwoWords
noted s (PulseLine p) = ok_or (option_map (λ _. s) s.word) NoWord
noted s (WaveLine w) = unless s.wave (record s { wave = Some w }) TwoWaves

-- the pulse that a line has
abbrev pub pulse_in : Line → Option Pulse
pulse_in Skip = None
pulse_in (Ticks n) = None
pulse_in (Word w) = None
pulse_in (PulseLine p) = Some p
pulse_in (WaveLine w) = None

-- what `?` does. The library has this for options, and not for results
abbrev pub and_then : {X Y E : Type 0} → Result X E → (X → Result Y E) → Result Y E
and_then (Ok x) f = f x
and_then (Err e) f = Err e

-- one line of bytes more
abbrev pub step_of : Seen → List ℕ → Result (Seen × Option Pulse) Reason
step_of s bytes = and_then (line_of (fields_of bytes)) (λ line. result_map_both (λ t. (t, pulse_in line)) (λ why. why) (noted s line))

pub record Described : Type 0 where
  pub ticks : ℕ
  pub word : ℕ
  pub pulses : List Pulse
  pub wave : Option Wave

-- after the last line. Line n is the next
abbrev pub ended : ℕ → Seen → List Pulse → Option ℕ → Result Described WrongLine
ended n s ps None = Err (record { line = n; reason = NoTicks })
ended n s ps (Some t) = Ok (record { ticks = t; word = unwrap_or s.word 0; pulses = ps; wave = s.wave })

-- the lines from line n on, after lines that said s and have the pulses ps
abbrev pub read_on : ℕ → Seen → List Pulse → List (List ℕ) → Result Described WrongLine
read_on n s ps [] = ended n s ps s.ticks
read_on n s ps (l ∷ ls) =
    and_then (result_map_both (λ x. x) (λ why. record { line = n; reason = why }) (step_of s l)) (λ x. read_on (n + 1) x.0 (ps ++ option_to_list x.1) ls)

abbrev pub nothing : Seen
nothing = record { ticks = None; word = None; wave = None }

abbrev pub read_all : List ℕ → Result Described WrongLine
read_all text = read_on 1 nothing [] (lines_of text)

abbrev pub described : Recording → Described
described d = record { ticks = d.ticks; word = d.word; pulses = vec_items d.pulses; wave = d.wave }

-- the answer for what a text says. Of a call that finds no memory nothing is said
abbrev pub Answers : Result Recording TextError → Result Described WrongLine → Type 0
Answers (Ok d) x = x ≡ Ok (described d)
Answers (Err (Wrong w)) x = x ≡ Err w
Answers (Err OutOfMemory) x = Unit {0}
