-- Both charts of a chip, and how samples are added to them.
use Rattle.std.specs.Prelude.{ℕ, List, Some, None, Ok, Err, Option, Result}
use Rattle.faults.specs.declared.Fault.{Fault}
use Rattle.faults.specs.declared.Fault.TheVariants.{NoPinPlace, NoModePlace}
use Rattle.recorder.specs.declared.stretch.Stretch.{Stretch}
use Rattle.recorder.specs.declared.pin_sample.PinSample.{PinSample}
use Rattle.recorder.specs.declared.mode.Mode.{Mode}
use Rattle.recorder.specs.Samples.{pin_kind, mode_kind}
use Rattle.recorder.specs.Charts.{appended}
use Rattle.bench.specs.declared.held.Samples.{Samples}
use Rattle.bench.specs.declared.held.Stretches.{Stretches}

pub record Charts : Type 0 where
  pub pins : List (Stretch PinSample)
  pub modes : List (Stretch Mode)

abbrev pub both : List (Stretch PinSample) → List (Stretch Mode) → Charts
both p m = record { pins = p; modes = m }

abbrev pub counted : ℕ → ℕ → Stretches
counted p m = record { pins = p; modes = m }

-- the counts and charts where both found a place, else the stop of the first that did not
abbrev pub placed : Option ℕ → Option ℕ → Charts → Result (Stretches × Charts) Fault
placed (Some p) (Some m) c = Ok (counted p m, c)
placed (Some p) None c = Err NoModePlace
placed None m c = Err NoPinPlace

-- k more ticks of the samples
abbrev pub charted : ℕ → Samples → Stretches → Charts → Result (Stretches × Charts) Fault
charted k x n c =
    let p = appended pin_kind c.pins n.pins k x.pins in
    let m = appended mode_kind c.modes n.modes k x.mode in
    placed p.0 m.0 (both p.1 m.1)

-- what a call that may stop answers and leaves: a stop changes nothing
abbrev pub left : {S : Type 0} → Result S Fault → S → Result Unit Fault × S
left (Ok s) old = (Ok tt, s)
left (Err f) old = (Err f, old)
