-- The board theorem: chips that since power-on have had only runs, and what is known of every one.
use Rattle.std.specs.Prelude.{◌≡◌, ℕ, ◌+◌, ◌<◌, ◌≤◌, List, take, Some, None, Ok, Err, Option}
use Rattle.faults.specs.declared.Fault.{Fault}
use Rattle.recorder.specs.Samples.{pin_kind, mode_kind}
use Rattle.recorder.specs.Histories.{Shows}
use Rattle.bench.specs.declared.held.Held.{Held}
use Rattle.bench.specs.Charting.{Charts}
use Rattle.bench.specs.Runs.{answer, refused, played}
use Rattle.bench.specs.Power.{Start, start, powered}
use Rattle.bench.specs.Model.{Places, sizes, Model, next, after, pins_taken, mode_taken}

-- Since power-on the chip has had only run calls, accepted or refused, by ticks or by leaps: each with power-on's image,
-- before hosts of this meaning, and with the charts as the call before left them. It has run `total` ticks, the sum of the answers.
pub data Since (s : Start) (host : ℕ → ℕ) (places : Places) : Held → Charts → ℕ → Type 0 where
  began : (c : Charts) → sizes c ≡ places → Since s host places (powered s) c 0
  ran_on : {h : Held} {c : Charts} {total : ℕ} (grant ticks : ℕ) (fault : Option Fault) (h' : Held) (c' : Charts) →
      Since s host places h c total → answer ticks fault h' c' ≡ played s.image host grant h c → Since s host places h' c' (total + ticks)

-- equal records and equal counted stretches
pub record Alike (h₁ : Held) (c₁ : Charts) (h₂ : Held) (c₂ : Charts) : Type 0 where
  pub records : h₁ ≡ h₂
  pub pins : take h₁.stretches.pins c₁.pins ≡ take h₂.stretches.pins c₂.pins
  pub modes : take h₁.stretches.modes c₁.modes ≡ take h₂.stretches.modes c₂.modes

-- the record, stretch counts apart, is the model's after `total` steps, and the counted stretches of each chart show the model's samples:
-- each tick below `total` lies in just one of them, which shows the sample that the model takes in that tick
pub record Modelled (s : Start) (host : ℕ → ℕ) (places : Places) (h : Held) (c : Charts) (total : ℕ) : Type 0 where
  pub model : Model
  pub stands : after s host places total ≡ Ok model
  pub moment : h.moment ≡ model.moment
  pub pins : Shows pin_kind (pins_taken s host places) c.pins h.stretches.pins total
  pub modes : Shows mode_kind (mode_taken s host places) c.modes h.stretches.modes total

-- the model goes `total` steps, and stops at the very next one
pub record StopsAfter (s : Start) (host : ℕ → ℕ) (places : Places) (total : ℕ) (fault : Fault) : Type 0 where
  pub model : Model
  pub stands : after s host places total ≡ Ok model
  pub stops : next s.image host places model ≡ Err fault

-- how an accepted call ends: with its grant and no fault, or with fewer ticks and the model's stop
pub record Ended (s : Start) (host : ℕ → ℕ) (places : Places) (total grant ticks : ℕ) (fault : Option Fault) : Type 0 where
  pub within : ticks ≤ grant
  pub whole : ticks ≡ grant → fault ≡ None
  pub short : ticks < grant → ((f : Fault) × (fault ≡ Some f) × StopsAfter s host places (total + ticks) f)

-- what is known of every chip that has had only runs since power-on
pub record Standing (s : Start) (host : ℕ → ℕ) (places : Places) (h : Held) (c : Charts) (total : ℕ) : Type 0 where
  pub since : Since s host places h c total
  -- any other such chip that began alike, with the same total and before hosts that showed the same levels in those ticks, is alike
  pub alike : (host₂ : ℕ → ℕ) (h₂ : Held) (c₂ : Charts) → Since s host₂ places h₂ c₂ total → ((t : ℕ) → t < total → host t ≡ host₂ t) → Alike h c h₂ c₂
  pub modelled : Modelled s host places h c total

-- what a run call leaves of a chip that before it had run `total` ticks
pub record Board (s : Start) (host : ℕ → ℕ) (places : Places) (h : Held) (c : Charts) (total grant ticks : ℕ) (fault : Option Fault) (h' : Held) (c' : Charts) : Type 0 where
  pub stands : Standing s host places h' c' (total + ticks)
  pub ended : refused s.image grant h c ≡ None → Ended s host places total grant ticks fault

-- the theorem at one run call, for every chip that had only runs since power-on with this image, whatever its RAM, its charts' sizes and its total
abbrev pub BoardAfter : List ℕ → (ℕ → ℕ) → Held → Charts → ℕ → ℕ → Option Fault → Held → Charts → Type 0
BoardAfter image host h c grant ticks fault h' c' =
    (ram : List ℕ) (places : Places) (total : ℕ) → Since (start image ram) host places h c total → Board (start image ram) host places h c total grant ticks fault h' c'

-- and at a list of run calls, which ran `ticks` in all
abbrev pub StandsAfter : List ℕ → (ℕ → ℕ) → Held → Charts → ℕ → Held → Charts → Type 0
StandsAfter image host h c ticks h' c' =
    (ram : List ℕ) (places : Places) (total : ℕ) → Since (start image ram) host places h c total → Standing (start image ram) host places h' c' (total + ticks)

-- just powered on, before any host and with any charts
abbrev pub Begun : Start → Held → Type 0
Begun s h = (host : ℕ → ℕ) (c : Charts) → Since s host (sizes c) h c 0
