use Rattle.std.proofs.Common.{◌≡◌, [], ◌∷◌, length, map, OnOk, subst}
use Rattle.my_reply.specs.declared.server.ServerPacket.TheVariants.{Count}
use Rattle.my_reply.specs.Server.{server_bytes}
use Rattle.my_server.specs.Answer.{close_payloads, column_payload}
use Rattle.my_server.proofs.Adding.{added_parts}
use Rattle.my_server.proofs.answer.add_head.Goals as goal

pub returns : goal.returns
returns c =
    let names = c.args.names.now in
    let first = server_bytes (Count (length names)) ∷ [] in
    subst (λ l. OnOk c.add_close.result (c.add_close.new.payloads ≡ l)) (added_parts c.args.payloads.now first (map column_payload names) (close_payloads c.args.deprecates c.args.status) c.add.new.payloads c.add_columns.new.payloads (c.in_ok-add.ensures _ c.written.ensures) c.in_ok-add_columns.ensures) c.add_close.ensures
