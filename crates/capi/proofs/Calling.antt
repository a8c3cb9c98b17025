-- Calls that are made one after the other.
use Rattle.std.proofs.Common.{◌≡◌, ℕ, ◌+◌, ◌<◌, List, [], ◌∷◌, ◌++◌, length, take, slice_set, Option, add-one, refl, sym, ap, ◌∙◌}
use Rattle.std.proofs.lemmas.List.{take_more_set}
use Rattle.faults.specs.declared.Fault.{Fault}
use Rattle.bench.specs.declared.held.Held.{Held}
use Rattle.bench.specs.Charting.{Charts}
use Rattle.bench.specs.Runs.{Ran, answer, played}
use Rattle.capi.specs.declared.experiment.Asked.{Asked}
use Rattle.capi.specs.declared.experiment.Sizes.{Sizes}
use Rattle.capi.specs.declared.answer.Answer.{Answer}
use Rattle.capi.specs.Describing.{image_of, asked_of}
use Rattle.capi.specs.Answers.{answer_of}
use Rattle.capi.specs.Playing.{Made, made, call_made, calls_made}

pub none_made : (b : List ℕ) (s : Sizes) (host : ℕ → ℕ) (h : Held) (c : Charts) → made [] h c ≡ calls_made b s host h c 0
unfolding calls_made
none_made b s host h c = refl

one_more : (b : List ℕ) (s : Sizes) (host : ℕ → ℕ) (h : Held) (c : Charts) (k : ℕ) → calls_made b s host h c (k + 1) ≡ call_made b host (asked_of b s k) (calls_made b s host h c k)
unfolding calls_made
one_more b s host h c k = rw add-one refl

-- the run of call k makes one call more
pub call_more : (b : List ℕ) (s : Sizes) (host : ℕ → ℕ) (h : Held) (c : Charts) (k : ℕ)
    (answers : List Answer) (before after : Held) (charts : Charts) (charts' : Charts) (asked : Asked) (ticks : ℕ) (fault : Option Fault) (a : Answer) →
    k < length answers →
    made (take k answers) before charts ≡ calls_made b s host h c k →
    asked ≡ asked_of b s k →
    answer ticks fault after charts' ≡ played (image_of asked.short b) host asked.call.grant before charts →
    a ≡ answer_of ticks fault →
    made (take (k + 1) (slice_set answers k a)) after charts' ≡ calls_made b s host h c (k + 1)
call_more b s host h c k answers before after charts charts' asked ticks fault a lt begun is run told =
    let done = take k answers in
    let one : call_made b host asked (made done before charts) ≡ made (done ++ answer_of ticks fault ∷ []) after charts' =
    ap (λ (r : Ran). made (done ++ answer_of r.ticks r.fault ∷ []) r.held r.charts) (sym run) in
    let next : calls_made b s host h c (k + 1) ≡ call_made b host asked (made done before charts) =
    one_more b s host h c k
    ∙ ap (λ (m : Made). call_made b host (asked_of b s k) m) (sym begun)
    ∙ ap (λ (q : Asked). call_made b host q (made done before charts)) (sym is) in
    let written : take (k + 1) (slice_set answers k a) ≡ done ++ answer_of ticks fault ∷ [] =
    take_more_set answers k a lt ∙ ap (λ (x : Answer). done ++ x ∷ []) told in
    ap (λ (xs : List Answer). made xs after charts') written ∙ sym one ∙ sym next
