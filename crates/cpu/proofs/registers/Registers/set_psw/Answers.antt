-- That PSW is the byte again is computed at all 256 bytes.
use Rattle.std.proofs.Common.{◌≡◌, ℕ, ◌<◌, refl, ap, ◌∙◌, rules}
use Rattle.sheet.proofs.Values.{agree}
use Rattle.cpu.specs.State.{packed, unpacked}
use Rattle.cpu.proofs.registers.Registers.set_psw.Goals as goal

again : (k : ℕ) → k < 256 → packed (unpacked k) ≡ k
again k h = agree (λ i. packed (unpacked i)) (λ i. i) 256 refl k h

pub returns-clause-again : goal.returns-clause-again
returns-clause-again c =
    let h : c.args.byte < 256 = search rules in
    ap packed c.into-self.ensures ∙ again c.args.byte h
