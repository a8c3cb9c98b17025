-- What some texts say: the definitions compute to these answers.
use Rattle.std.proofs.Common.{◌≡◌, [], ◌∷◌, Some, None, Ok, Err, codes, refl}
use Rattle.recording.specs.declared.wrong.Reason.TheVariants.{UnknownLine, BadTicks, TwoTicks, BadWord, TwoWords, BadPulse, NoWord, BadWave, TwoWaves, NoTicks}
use Rattle.recording.specs.Read.{read_all}

shortest : read_all (codes "ticks 0100") ≡ Ok (record { ticks = 100; word = 0; pulses = []; wave = None })
shortest = refl

whole : read_all (codes "# all kinds\n\n  word  aF3\npulse 4 2\n ticks 281474976710656 \npulse 7 18446744073709551615\nwave 7fff 3 2\n") ≡ Ok (record { ticks = 281474976710656; word = 2803; pulses = record { offset = 4; length = 2 } ∷ record { offset = 7; length = 18446744073709551615 } ∷ []; wave = Some (record { word = 32767; low = 3; high = 2 }) })
whole = refl

-- no ticks line: the line after the last
empty : read_all [] ≡ Err (record { line = 1; reason = NoTicks })
empty = refl

ended_line : read_all (codes "word 1\n") ≡ Err (record { line = 2; reason = NoTicks })
ended_line = refl

open_line : read_all (codes "word 1") ≡ Err (record { line = 2; reason = NoTicks })
open_line = refl

empty_line : read_all (codes "word 1\n\n") ≡ Err (record { line = 3; reason = NoTicks })
empty_line = refl

-- numbers and words out of range
ticks_past : read_all (codes "ticks 281474976710657") ≡ Err (record { line = 1; reason = BadTicks })
ticks_past = refl

pulse_past : read_all (codes "word 1\npulse 1 18446744073709551616\n") ≡ Err (record { line = 2; reason = BadPulse })
pulse_past = refl

five_digits : read_all (codes "word 00001\n") ≡ Err (record { line = 1; reason = BadWord })
five_digits = refl

no_digit : read_all (codes "ticks 1a\n") ≡ Err (record { line = 1; reason = BadTicks })
no_digit = refl

-- fields that are missing, or too many
no_number : read_all (codes "ticks\n") ≡ Err (record { line = 1; reason = BadTicks })
no_number = refl

five_fields : read_all (codes "wave 1 2 3 4\n") ≡ Err (record { line = 1; reason = BadWave })
five_fields = refl

-- lines that stand twice or with no word above them, after their fields are read
twice : read_all (codes "ticks 1\nticks 2\n") ≡ Err (record { line = 2; reason = TwoTicks })
twice = refl

twice_and_bad : read_all (codes "ticks 1\nticks x\n") ≡ Err (record { line = 2; reason = BadTicks })
twice_and_bad = refl

two_words : read_all (codes "word 1\n#\nword 1") ≡ Err (record { line = 3; reason = TwoWords })
two_words = refl

two_waves : read_all (codes "wave 1 2 3\n#\nwave 1 2 3") ≡ Err (record { line = 3; reason = TwoWaves })
two_waves = refl

no_word : read_all (codes "pulse 1 2\nword 1\n") ≡ Err (record { line = 1; reason = NoWord })
no_word = refl

capital : read_all (codes "Ticks 1\n") ≡ Err (record { line = 1; reason = UnknownLine })
capital = refl
