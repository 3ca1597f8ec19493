use Rattle.std.proofs.Common.{◌≡◌, ℕ, List, [], ◌∷◌, ◌++◌, map, OnOk, ap, ◌∙◌, subst}
use Rattle.my_server.specs.Answer.{end_payload, head_payloads, row_payload}
use Rattle.my_server.proofs.Adding.{added_parts}
use Rattle.my_server.proofs.answer.add_set.Goals as goal

pub returns : goal.returns
returns c =
    let start = c.args.payloads.now in
    let names = c.as_slice.result.now in
    let rows = c.as_slice-2.result.now in
    let first = λ (names : List (List ℕ)). head_payloads c.args.deprecates c.args.status names in
    let last = end_payload c.args.deprecates c.args.status ∷ [] in
    let added = added_parts start (first names) (map row_payload rows) last c.add_head.new.payloads c.add_rows.new.payloads c.in_ok-add_head.ensures c.in_ok-add_rows.ensures in
    let of_set = ap (λ names. start ++ ((first names ++ map row_payload rows) ++ last)) c.as_slice.ensures ∙ ap (λ rows. start ++ ((first c.args.set.now.names ++ map row_payload rows) ++ last)) c.as_slice-2.ensures in
    subst (λ l. OnOk c.add.result (c.add.new.payloads ≡ l)) (added ∙ of_set) (c.add.ensures _ c.end_payload.ensures)
