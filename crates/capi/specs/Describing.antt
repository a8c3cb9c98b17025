-- The description of an experiment.
use Rattle.std.specs.Prelude.{ℕ, ◌+◌, ◌*◌, Bool, cond, not, ◌&&◌, List, length, map, take, Some, None, Option, ◌==◌, nat_le, nat_lt, slice_index, slice_range}
use Rattle.std.specs.List.{range_with_len}
use Rattle.hosts.specs.declared.pulse.Pulse.{Pulse}
use Rattle.bench.specs.declared.held.Way.{Way}
use Rattle.bench.specs.declared.held.Way.TheVariants.{Ticks, Leaps}
use Rattle.capi.specs.declared.experiment.Wiring.{Wiring}
use Rattle.capi.specs.declared.experiment.Wiring.TheVariants as w
use Rattle.capi.specs.declared.experiment.Wave.{Wave}
use Rattle.capi.specs.declared.experiment.Sizes.{Sizes}
use Rattle.capi.specs.declared.experiment.Experiment.{Experiment}
use Rattle.capi.specs.declared.experiment.Asked.{Asked}
use Rattle.capi.specs.Bytes.{word_at, double_at, quad_at}

abbrev pub wiring_of : ℕ → Option Wiring
wiring_of n =
    cond (n == 0) (Some w.Steady)
    (cond (n == 1) (Some w.Pulses)
    (cond (n == 2) (Some w.Wave)
    (cond (n == 3) (Some w.PulsesAndWave)
    (cond (n == 4) (Some w.All) None))))

-- word, low and high time
abbrev pub wave_at : List ℕ → ℕ → Wave
wave_at b i = record { word = word_at b i; low = double_at b (i + 2); high = double_at b (i + 6) }

abbrev pub sizes_of : List ℕ → Sizes
sizes_of b = record { pins = word_at b 2202; modes = word_at b 2204; pulses = word_at b 2206; calls = word_at b 2208 }

-- at most 2,048 places and 4,096 pulses, and just the bytes of the pulses and the calls behind the first 2,210
abbrev pub fits : Sizes → ℕ → Bool
fits s n = nat_le s.pins 2048 && (nat_le s.modes 2048 && (nat_le s.pulses 4096 && n == 2210 + 16 * s.pulses + 10 * s.calls))

-- the numbers behind the image, 2,048 bytes, and the RAM, 128 bytes
abbrev pub numbers_of : List ℕ → Wiring → Experiment
numbers_of b wiring = record { wiring = wiring; steady = word_at b 2178; pulses = word_at b 2180; first = wave_at b 2182; second = wave_at b 2192; sizes = sizes_of b }

abbrev pub wired : List ℕ → Option Wiring → Option Experiment
wired b None = None
wired b (Some wiring) = Some (numbers_of b wiring)

abbrev pub described : List ℕ → Option Experiment
described b = cond (nat_lt (length b) 2210) None (cond (fits (sizes_of b) (length b)) (wired b (wiring_of (word_at b 2176))) None)

-- the image, or all of it but the last byte
abbrev pub image_of : Bool → List ℕ → List ℕ
image_of short b = take (cond short 2047 2048) b

abbrev pub ram_of : List ℕ → List ℕ
ram_of b = slice_range b 2048 2176

-- pulse k of those behind the numbers
abbrev pub pulse_of : List ℕ → ℕ → Pulse
pulse_of b k = record { offset = quad_at b (2210 + 16 * k); length = quad_at b (2210 + 16 * k + 8) }

abbrev pub pulses_of : List ℕ → ℕ → List Pulse
pulses_of b n = map (pulse_of b) (range_with_len 0 n)

abbrev is_set : ℕ → Bool
is_set byte = not (byte == 0)

abbrev way_of : Bool → Way
way_of leaps = cond leaps Leaps Ticks

-- how a call goes, its image, and its grant
abbrev pub asked_at : List ℕ → ℕ → Asked
asked_at b i = record { call = record { way = way_of (is_set (slice_index b i)); grant = quad_at b (i + 2) }; short = is_set (slice_index b (i + 1)) }

-- call k of those behind the pulses
abbrev pub asked_of : List ℕ → Sizes → ℕ → Asked
asked_of b s k = asked_at b (2210 + 16 * s.pulses + 10 * k)
