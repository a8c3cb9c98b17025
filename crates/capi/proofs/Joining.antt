-- Pieces that are put behind one another.
use Rattle.std.proofs.Common.{◌≡◌, ℕ, zero, suc, ◌+◌, ◌-◌, ◌<◌, List, [], ◌∷◌, ◌++◌, length, take, drop, get_or, append_assoc, append-nil, length-append, refl, sym, ap, ◌∙◌, arith}
use Rattle.std.proofs.lemmas.List.{take_at, drop_at, drop_all, drop-drop, take_more, flat_map_more}
use Rattle.std.proofs.Math.Seq.{take-length}
use Rattle.std.specs.List.{flat_map}
use borrow.Rule.Slice.PartMut.{put_mid}
use Rattle.recorder.specs.Lines.{over, texted}
use Rattle.counters.specs.declared.timer.Timers.{Timers}
use Rattle.counters.specs.Timers.{at}
use Rattle.capi.specs.Records.{timer_of}

-- what stands behind xs, where `rest` stands behind that and a
pub behind : {X : Type 0} (xs a ys rest zs : List X) → ys ≡ xs ++ a → zs ≡ ys ++ rest → zs ≡ xs ++ (a ++ rest)
behind xs a ys rest zs e h = h ∙ ap (λ x. x ++ rest) e ∙ append_assoc xs a rest

-- the bytes of the first n timers
abbrev pub timers_below : Timers → ℕ → List ℕ
timers_below t zero = []
timers_below t (suc n) = timers_below t n ++ timer_of (at t n)

-- what is left of a buffer behind the bytes that were written over its start
left_length : (done rest : List ℕ) → length (done ++ rest) - length done ≡ length rest
left_length done rest = omega (arith, length-append done rest)

left_is : (done rest : List ℕ) → take (length (done ++ rest) - length done) (drop (length done) (done ++ rest)) ≡ rest
left_is done rest =
    ap (λ n. take n (drop (length done) (done ++ rest))) (left_length done rest)
    ∙ ap (λ x. take (length rest) x) (drop_at done rest (length done) refl)
    ∙ take-length rest

none_past : (done rest : List ℕ) → drop (length (done ++ rest) - length done) (drop (length done) (done ++ rest)) ≡ []
none_past done rest =
    ap (λ n. drop n (drop (length done) (done ++ rest))) (left_length done rest)
    ∙ ap (λ x. drop (length rest) x) (drop_at done rest (length done) refl)
    ∙ drop_all (length rest) rest (omega arith)

over_more : (done more whole : List ℕ) → done ++ (over more (drop (length done) whole) ++ []) ≡ over (done ++ more) whole
over_more done more whole =
    ap (λ x. done ++ x) (append-nil (over more (drop (length done) whole)))
    ∙ ap (λ x. done ++ (more ++ x)) (drop-drop (length more) (length done) whole)
    ∙ sym (append_assoc done more (drop (length done + length more) whole))
    ∙ ap (λ n. (done ++ more) ++ drop n whole) (sym (length-append done more))

-- bytes written over the start of what is left behind others
pub texted_more : (done more whole bytes now : List ℕ) (e n : ℕ) →
    (e, bytes) ≡ texted done whole → (n, now) ≡ texted more (take (length bytes - e) (drop e bytes)) →
    (e + n, put_mid e (length bytes - e) bytes now) ≡ texted (done ++ more) whole
texted_more done more whole bytes now e n p q =
    let pe : e ≡ length done = ap (λ (x : ℕ × List ℕ). x.0) p in
    let pb : bytes ≡ over done whole = ap (λ (x : ℕ × List ℕ). x.1) p in
    let pn : n ≡ length more = ap (λ (x : ℕ × List ℕ). x.0) q in
    let rest = drop (length done) whole in
    let left : take (length bytes - e) (drop e bytes) ≡ rest = rw (pb, pe) (left_is done rest) in
    let past : drop (length bytes - e) (drop e bytes) ≡ [] = rw (pb, pe) (none_past done rest) in
    let front : take e bytes ≡ done = rw (pb, pe) (take_at done rest (length done) refl) in
    let written : now ≡ over more rest = rw left at (ap (λ (x : ℕ × List ℕ). x.1) q) in
    let whole_is : put_mid e (length bytes - e) bytes now ≡ over (done ++ more) whole = rw (front, past, written) (over_more done more whole) in
    let long : e + n ≡ length (done ++ more) = omega (arith, length-append done more) in
    cc

-- the texts of one more
pub texts_more : {X : Type 0} (f : X → List ℕ) (xs : List X) (i : ℕ) (x : X) → i < length xs → x ≡ get_or xs i x → flat_map f (take i xs) ++ f x ≡ flat_map f (take (i + 1) xs)
texts_more f xs i x lt is =
    flat_map_more f [] (take i xs) x ∙ ap (λ y. flat_map f (take i xs ++ y ∷ [])) is ∙ ap (flat_map f) (sym (take_more xs i x lt))
