-- What a call that may fault leaves, and what follows it.
use Rattle.std.specs.Prelude.{Ok, Err, Result}

-- the state after a call that answers nothing, or the fault
abbrev pub after : {X S E : Type 0} → Result X E → S → Result S E
after (Ok v) s = Ok s
after (Err e) s = Err e

-- the state and the answer, or the fault
abbrev pub outcome : {X S E : Type 0} → Result X E → S → Result (S × X) E
outcome (Ok v) s = Ok (s, v)
outcome (Err e) s = Err e

-- what follows where there is no fault
abbrev pub bind : {X Y E : Type 0} → Result X E → (X → Result Y E) → Result Y E
bind (Ok v) f = f v
bind (Err e) f = Err e
