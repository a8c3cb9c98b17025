-- A tick keeps what every machine keeps.
use Rattle.std.proofs.Common.{◌≡◌, ℕ, ◌+◌, ◌-◌, ◌/◌, ◌%◌, ◌<◌, Bool, true, false, cond, not, eqb, leb, ltb, List, IfOk, Some, None, Option, Ok, Err, Result, sym, subst, mod-lt, lit<}
use Rattle.std.specs.Option.{ok_or}
use lib.Bits.{bit_and}
use Rattle.std.proofs.lemmas.Bool.{cond_both}
use Rattle.faults.specs.declared.Fault.{Fault}
use Rattle.faults.specs.declared.Fault.TheVariants.{Unoccupied, WriteToReadOnly}
use Rattle.recorder.specs.declared.mode.Mode.{Mode}
use Rattle.recorder.specs.declared.mode.Mode.TheVariants.{Running, WakeUpTimer, Stopped}
use Rattle.counters.specs.declared.buzzer.Buzzer.{Buzzer}
use Rattle.counters.specs.Buzzers.{buzzer_ticked, buzzer_moved, buzzer_pulsed}
use Rattle.sheet.specs.Rule.{entry_at}
use Rattle.sheet.specs.declared.operation.AluOp.{AluOp}
use Rattle.sheet.specs.declared.operation.ShiftOp.{ShiftOp}
use Rattle.sheet.specs.declared.operation.Target.{Target}
use Rattle.sheet.specs.declared.operation.Target.TheVariants as tg
use Rattle.sheet.specs.declared.operation.Branch.{Branch}
use Rattle.sheet.specs.declared.operation.Branch.TheVariants as br
use Rattle.sheet.specs.declared.operation.Bit.{Bit}
use Rattle.sheet.specs.declared.operation.Place.{Place}
use Rattle.sheet.specs.declared.operation.Place.TheVariants.{Dp, DpX, Abs, AtX, AbsY, IndX, IndY}
use Rattle.sheet.specs.declared.operation.Operand.{Operand}
use Rattle.sheet.specs.declared.operation.Operand.TheVariants.{Imm, At}
use Rattle.sheet.specs.declared.operation.Operation.{Operation}
use Rattle.sheet.specs.declared.operation.Operation.TheVariants as op
use Rattle.bus.specs.declared.parts.Parts.{Parts}
use Rattle.bus.specs.Seen.{Seen}
use Rattle.bus.specs.Outcomes.{after, bind}
use Rattle.bus.specs.declared.register.Register.{Register}
use Rattle.bus.specs.declared.register.Register.TheVariants as rg
use Rattle.bus.specs.Registers.{register_at, missing_modes, register_written, register_taken, written_at}
use Rattle.bus.specs.Fetch.{fetched, word_fetched, addressed, operand_of, stored, byte_pushed, byte_pulled, word_pushed, word_pulled}
use Rattle.cpu.specs.declared.registers.Registers.{Registers}
use Rattle.cpu.specs.State.{broken, same}
use Rattle.cpu.specs.Effects.{lowered_y}
use Rattle.bus.specs.With.{parts_with_registers, parts_with_requests}
use Rattle.instructions.specs.Operations.{by, calculated_with, shifted_at, has_mask, bit_put, jumped_if, branched, branched_on, called_at, interrupted}
use Rattle.instructions.specs.Execute.{plain, executed, instructed}
use Rattle.ports.specs.Requests.{vector_of, accepted}
use Rattle.machine.specs.declared.state.Machine.{Machine}
use Rattle.machine.specs.declared.state.Action.{Action}
use Rattle.machine.specs.declared.state.Action.TheVariants.{Rest, Accept, Execute}
use Rattle.machine.specs.Tick.{machine, woken, action_of, acted, begun, happened, counted, prescaler_moved, prescaler_after, reset_machine, finished}
use Rattle.machine.specs.Quiet.{Sound, moved}

-- the buzzer's count has 6 bits
abbrev Kept : Parts → Type 0
Kept m = m.buzzer.count < 64

abbrev Keeps : {X : Type 0} → Parts × X → Type 0
Keeps s = Kept s.0

-- P holds of what a call leaves, if it leaves no fault
data All {X : Type 0} (P : X → Type 0) : Result X Fault → Type 0 where
  goes : {x : X} → P x → All P (Ok x)
  stops : {f : Fault} → All P (Err f)

all_made : {X : Type 0} {P : X → Type 0} {r : Result X Fault} → All P r → IfOk r P
all_made (goes p) = p
all_made stops = tt

then_all : {X Y : Type 0} {P : X → Type 0} {Q : Y → Type 0} {r : Result X Fault} (f : X → Result Y Fault) → All P r → ((x : X) → P x → All Q (f x)) → All Q (bind r f)
then_all f (goes {x} p) g = g x p
then_all f stops g = stops

either : {X : Type 0} {P : X → Type 0} (b : Bool) (x y : Result X Fault) → All P x → All P y → All P (cond b x y)
either true x y h g = h
either false x y h g = g

-- after an access that leaves the parts
after_read : {Y : Type 0} {Q : Y → Type 0} (r : Result ℕ Fault) (f : ℕ → Result Y Fault) → ((v : ℕ) → All Q (f v)) → All Q (bind r f)
after_read (Ok v) f g = g v
after_read (Err e) f g = stops

fetches : (m : Parts) (view : Seen) → Kept m → All Keeps (fetched m view)
fetches m view h = either _ _ _ (goes h) stops

fetches_word : (m : Parts) (view : Seen) → Kept m → All Keeps (word_fetched m view)
fetches_word m view h = then_all _ (fetches m view h) (λ s k. then_all _ (fetches s.0 view k) (λ t l. goes l))

addresses : (m : Parts) (view : Seen) (place : Place) → Kept m → All Keeps (addressed m view place)
addresses m view Dp h = then_all _ (fetches m view h) (λ s k. goes k)
addresses m view DpX h = then_all _ (fetches m view h) (λ s k. goes k)
addresses m view Abs h = fetches_word m view h
addresses m view AtX h = goes h
addresses m view AbsY h = then_all _ (fetches_word m view h) (λ s k. goes k)
addresses m view IndX h = then_all _ (fetches m view h) (λ s k. after_read _ _ (λ w. goes k))
addresses m view IndY h = then_all _ (fetches m view h) (λ s k. after_read _ _ (λ w. goes k))

operands : (m : Parts) (view : Seen) (operand : Operand) → Kept m → All Keeps (operand_of m view operand)
operands m view Imm h = fetches m view h
operands m view (At place) h = then_all _ (addresses m view place h) (λ s k. after_read _ _ (λ v. goes k))

-- a write of BUR clears the count, and no other touches it
keeps_written : (m : Parts) (r : Register) (v : ℕ) → Kept m → Kept (register_written m r v).0
keeps_written m rg.Bur v h = lit< tt
keeps_written m _ v h = h

takes : (m : Parts) (o : Option Unit) (e : Fault) → Kept m → All Kept (after (ok_or o e) m)
takes m (Some u) e h = goes h
takes m None e h = stops

after_found : {Q : Parts → Type 0} (o : Option Register) (e : Fault) (f : Register → Result Parts Fault) → ((r : Register) → All Q (f r)) → All Q (bind (ok_or o e) f)
after_found (Some r) e f g = g r
after_found None e f g = stops

writes_register : (m : Parts) (pc address v : ℕ) (r : Register) → Kept m → All Kept (register_taken m pc address v r)
writes_register m pc address v r h =
    let s : Parts × Option Unit = register_written m r v in
    either (eqb (bit_and v (missing_modes r)) 0) (after (ok_or s.1 (WriteToReadOnly pc address)) s.0) _ (takes s.0 s.1 (WriteToReadOnly pc address) (keeps_written m r v h)) stops

writes : (m : Parts) (pc address v : ℕ) → Kept m → All Kept (written_at m pc address v)
writes m pc address v h =
    either (ltb address 0x80) _ _ (goes h)
    (either (leb 0xF800 address) _ _ stops
    (after_found (register_at address) (Unoccupied pc address) (register_taken m pc address v) (λ r. writes_register m pc address v r h)))

pushes : (m : Parts) (pc v : ℕ) → Kept m → All Kept (byte_pushed m pc v)
pushes m pc v h = either _ _ _ (goes h) stops

pulls : (m : Parts) (pc : ℕ) → Kept m → All Keeps (byte_pulled m pc)
pulls m pc h = either _ _ _ (goes h) stops

pushes_word : (m : Parts) (pc w : ℕ) → Kept m → All Kept (word_pushed m pc w)
pushes_word m pc w h = then_all _ (pushes m pc (w / 256) h) (λ s k. pushes s pc (w % 256) k)

pulls_word : (m : Parts) (pc : ℕ) → Kept m → All Keeps (word_pulled m pc)
pulls_word m pc h = then_all _ (pulls m pc h) (λ s k. then_all _ (pulls s.0 pc k) (λ t l. goes l))

calls_at : (m : Parts) (pc address : ℕ) → Kept m → All Kept (called_at m pc address)
calls_at m pc address h = then_all _ (pushes_word m pc m.registers.pc h) (λ s k. goes k)

interrupts : (m : Parts) (image : List ℕ) (pc vector : ℕ) → Kept m → All Kept (interrupted m image pc vector)
interrupts m image pc vector h = then_all _ (pushes_word m pc m.registers.pc h) (λ s k. then_all _ (pushes s pc _ k) (λ t l. goes l))

jumps : (m : Parts) (rel : ℕ) (taken : Bool) → Kept m → Keeps (jumped_if m rel taken)
jumps m rel true h = h
jumps m rel false h = h

branches : (m : Parts) (view : Seen) (taken : Bool) → Kept m → All Keeps (branched m view taken)
branches m view taken h = then_all _ (fetches m view h) (λ s k. goes (jumps s.0 s.1 taken k))

branches_on : (m : Parts) (view : Seen) (b : Branch) → Kept m → All Keeps (branched_on m view b)
branches_on m view (br.BitOfA b on) h = branches m view _ h
branches_on m view (br.BitOfDp b on) h =
    then_all _ (addresses m view Dp h) (λ s k. then_all _ (fetches s.0 view k) (λ t l. after_read _ _ (λ v. goes (jumps t.0 t.1 (same (has_mask v b) on) l))))
branches_on m view (br.Flag f on) h = branches m view _ h
branches_on m view br.DbneDp h =
    then_all _ (addresses m view Dp h)
    (λ s k. then_all _ (fetches s.0 view k)
    (λ t l. after_read _ _ (λ v. then_all _ (writes t.0 view.pc s.1 ((v + 255) % 256) l) (λ u n. goes (jumps u t.1 (not (eqb ((v + 255) % 256) 0)) n)))))
branches_on m view br.DbneY h = let t : Registers × Bool = lowered_y m.registers in branches (parts_with_registers m t.0) view t.1 h

shifts : (m : Parts) (view : Seen) (o : ShiftOp) (t : Target) → Kept m → All Kept (shifted_at m view o t)
shifts m view o tg.A h = goes h
shifts m view o (tg.Index i) h = goes h
shifts m view o (tg.At place) h = then_all _ (addresses m view place h) (λ s k. after_read _ _ (λ v. writes _ view.pc s.1 _ k))

stores : (m : Parts) (view : Seen) (place : Place) (v : ℕ) → Kept m → All Kept (stored m view place v)
stores m view place v h = then_all _ (addresses m view place h) (λ s k. writes s.0 view.pc s.1 v k)

calculates : (m : Parts) (view : Seen) (o : AluOp) (operand : Operand) → Kept m → All Kept (calculated_with m view o operand)
calculates m view o operand h = then_all _ (operands m view operand h) (λ s k. goes k)

puts_bit : (m : Parts) (view : Seen) (b : Bit) (on : Bool) → Kept m → All Kept (bit_put m view b on)
puts_bit m view b on h = then_all _ (addresses m view Dp h) (λ s k. after_read _ _ (λ v. writes s.0 view.pc s.1 _ k))

plainly : (r : Result Parts Fault) → All Kept r → All Keeps (plain r)
plainly r h = then_all _ h (λ s k. goes k)

executes : (m : Parts) (view : Seen) (o : Operation) → Kept m → All Keeps (executed m view o)
executes m view op.Unlisted h = stops
executes m view (op.Flag o) h = goes h
executes m view (op.Set1 b) h = plainly _ (puts_bit m view b true h)
executes m view (op.Clr1 b) h = plainly _ (puts_bit m view b false h)
executes m view (op.Branch b) h = branches_on m view b h
executes m view (op.Alu o operand) h = plainly _ (calculates m view o operand h)
executes m view (op.Sta place) h = plainly _ (stores m view place m.registers.a h)
executes m view op.LdaNext h = then_all _ (calculates m view AluOp.Lda (At AtX) h) (λ s k. goes k)
executes m view op.StaNext h = then_all _ (stores m view AtX m.registers.a h) (λ s k. goes k)
executes m view op.Ldm h = plainly _ (then_all _ (fetches m view h) (λ s k. stores s.0 view Dp s.1 k))
executes m view (op.Shift o t) h = plainly _ (shifts m view o t h)
executes m view (op.Transfer t) h = goes h
executes m view (op.Load i operand) h = plainly _ (then_all _ (operands m view operand h) (λ s k. goes k))
executes m view (op.Compare i operand) h = plainly _ (then_all _ (operands m view operand h) (λ s k. goes k))
executes m view (op.Store i place) h = plainly _ (stores m view place _ h)
executes m view (op.Push s) h = plainly _ (pushes m view.pc _ h)
executes m view (op.Pop s) h = plainly _ (then_all _ (pulls m view.pc h) (λ t k. goes k))
executes m view (op.Tcall n) h = plainly _ (calls_at m view.pc _ h)
executes m view op.Pcall h = plainly _ (then_all _ (fetches m view h) (λ s k. calls_at s.0 view.pc _ k))
executes m view op.Call h = plainly _ (then_all _ (fetches_word m view h) (λ s k. calls_at s.0 view.pc _ k))
executes m view op.Jmp h = then_all _ (fetches_word m view h) (λ s k. goes k)
executes m view op.Bra h = then_all _ (fetches m view h) (λ s k. goes k)
executes m view op.Brk h = plainly _ (interrupts (by broken m) view.image view.pc 0xFFDE h)
executes m view op.Ret h = plainly _ (then_all _ (pulls_word m view.pc h) (λ s k. goes k))
executes m view op.Reti h = plainly _ (then_all _ (pulls m view.pc h) (λ s k. then_all _ (pulls_word s.0 view.pc k) (λ t l. goes l)))
executes m view op.Stop h = goes h
executes m view op.Nop h = goes h

instructs : (m : Parts) (image : List ℕ) (host : ℕ) → Kept m → All Keeps (instructed m image host)
instructs m image host h = let view : Seen = record { image = image; host = host; pc = m.registers.pc } in then_all _ (fetches m view h) (λ s k. then_all _ (executes s.0 view (entry_at s.1).operation k) (λ t l. goes l))

-- the third step and a move
pub buzzer_ticks : (mode : Mode) (p : ℕ) (b : Buzzer) → b.count < 64 → (buzzer_ticked mode p b).count < 64
buzzer_ticks WakeUpTimer p b h = h
buzzer_ticks Stopped p b h = h
buzzer_ticks Running p b h = cond_both _ (buzzer_pulsed b) b (λ z. z.count < 64) (λ _. cond_both _ 0 ((b.count + 1) % 64) (λ n. n < 64) (λ _. lit< tt) (λ _. mod-lt (b.count + 1) (lit< tt))) (λ _. h)

pub buzzer_moves : (mode : Mode) (p k : ℕ) (b : Buzzer) → b.count < 64 → (buzzer_moved mode p k b).count < 64
buzzer_moves WakeUpTimer p k b h = h
buzzer_moves Stopped p k b h = h
buzzer_moves Running p k b h = mod-lt _ (lit< tt)

pub prescaler_moves : (mode : Mode) (p k : ℕ) → p < 2048 → prescaler_moved mode p k < 2048
prescaler_moves Running p k h = mod-lt (p + k) (lit< tt)
prescaler_moves WakeUpTimer p k h = mod-lt (p + k) (lit< tt)
prescaler_moves Stopped p k h = h

-- each step, and a move, keep a sound machine
acts_soundly : (m : Machine) (image : List ℕ) (host : ℕ) (a : Action) → Sound m → All Sound (acted m image host a)
acts_soundly m image host Rest h = goes h
acts_soundly m image host (Accept i) h = then_all _ (interrupts (parts_with_requests (woken m.parts) (accepted i m.parts.requests)) image m.parts.registers.pc (vector_of i) h.buzzer) (λ p k. goes (record { prescaler = h.prescaler; buzzer = k }))
acts_soundly m image host Execute h = then_all _ (instructs (woken m.parts) image host h.buzzer) (λ t k. goes (record { prescaler = h.prescaler; buzzer = k }))

pub begin_sound : (r : Result Unit Fault) (m m' : Machine) (image : List ℕ) (host : ℕ) → after r m' ≡ begun m image host → IfOk r (λ _. Sound m → Sound m')
begin_sound (Ok v) m m' image host e = λ h. subst (λ (x : Result Machine Fault). IfOk x Sound) (sym e) (all_made (acts_soundly m image host (action_of m) h))
begin_sound (Err f) m m' image host e = tt

pub finish_sound : (m m' : Machine) (image : List ℕ) (before at : ℕ) → m' ≡ finished m image before at → Sound m → Sound m'
finish_sound m m' image before at e h =
    subst Sound (sym e)
    (cond_both _ (reset_machine (counted m (happened m before at)) image) (machine (counted m (happened m before at)) (m.owed - 1) (prescaler_after m.parts.mode m.prescaler)) Sound
    (λ _. record { prescaler = lit< tt; buzzer = lit< tt })
    (λ _. record { prescaler = prescaler_moves m.parts.mode m.prescaler 1 h.prescaler; buzzer = buzzer_ticks m.parts.mode _ m.parts.buzzer h.buzzer }))

pub move_sound : (m : Machine) (k : ℕ) → Sound m → Sound (moved k m)
move_sound m k h = record { prescaler = prescaler_moves m.parts.mode m.prescaler k h.prescaler; buzzer = buzzer_moves m.parts.mode m.prescaler k m.parts.buzzer h.buzzer }
