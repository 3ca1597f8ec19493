use Rattle.std.proofs.Common.{◌≡◌, ◌++◌, take, map}
use Rattle.my_server.specs.Answer.{column_payload}
use Rattle.my_server.proofs.answer.add_columns.Given as goal

abbrev pub invariant-loop-name : goal.invariant-loop-name
invariant-loop-name l = l.payloads ≡ l.fn.payloads ++ map column_payload (take l.name-index l.names)
