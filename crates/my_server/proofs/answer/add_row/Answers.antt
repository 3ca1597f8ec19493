use Rattle.std.proofs.Common.{◌≡◌, [], ◌∷◌, ◌++◌, OnOk, subst}
use Rattle.my_server.specs.Answer.{row_payload}
use Rattle.my_server.proofs.answer.add_row.Goals as goal

pub returns : goal.returns
returns c =
    subst (λ row. OnOk c.add.result (c.add.new.payloads ≡ c.args.payloads.now ++ row_payload row ∷ [])) c.in_ok-row.ensures (c.add.ensures _ c.written.ensures)
