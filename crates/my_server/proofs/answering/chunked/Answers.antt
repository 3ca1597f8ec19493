use Rattle.std.proofs.Common.{◌≡◌, ℕ, ◌+◌, ◌<◌, List, ◌∷◌, ◌++◌, length, get_or, drop, sym, ap, ◌∙◌, append_assoc, append-nil}
use Rattle.std.proofs.lemmas.List.{at_drop_all, at_drop_more}
use Rattle.my_frame.specs.Chunks.{chunks, number_after_payload}
use Rattle.my_server.specs.Machine.{all_chunks}
use Rattle.my_server.proofs.answering.chunked.Goals as goal

-- one payload more was put
one_more : (ps : List (List ℕ)) (i next number after : ℕ) (done now p d : List ℕ) → i < length ps → p ≡ get_or ps i d → done ++ all_chunks (drop i ps) next ≡ all_chunks ps number → now ≡ done ++ chunks p next → after ≡ number_after_payload p next → now ++ all_chunks (drop (i + 1) ps) after ≡ all_chunks ps number
one_more ps i next number after done now p d within is all put after_is =
    let rest = drop (i + 1) ps in
    let turn = at_drop_more (λ x. all_chunks x next) ps i d within ∙ ap (λ x. all_chunks (x ∷ rest) next) (sym is) in
    ap (λ x. x ++ all_chunks rest after) put ∙ ap (λ m. (done ++ chunks p next) ++ all_chunks rest m) after_is ∙ append_assoc done (chunks p next) _ ∙ ap (λ x. done ++ x) (sym turn) ∙ all

pub loop-payload-preserved : goal.loop-payload-preserved
loop-payload-preserved c =
    one_more c.args.payloads.now c.loop-payload.payload-index c.loop-payload.next c.args.number c.in_ok-next.next c.loop-payload.bytes.items c.append_payload.new.dst.items c.as_slice.result.now c.payload-item.result c.loop-payload-test.true (c.as_slice.ensures ∙ c.payload-item.is) c.loop-payload.invariant c.in_ok-next.ensures.ok.0 c.in_ok-next.ensures.ok.1

pub returns : goal.returns
returns c =
    let bytes = c.loop-payload.bytes.items in
    sym (append-nil bytes) ∙ sym (at_drop_all (λ ps. bytes ++ all_chunks ps c.loop-payload.next) c.args.payloads.now c.loop-payload.payload-index c.loop-payload-test.false) ∙ c.loop-payload.invariant
