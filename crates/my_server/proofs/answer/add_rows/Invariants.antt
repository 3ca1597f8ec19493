use Rattle.std.proofs.Common.{◌≡◌, ◌++◌, take, map}
use Rattle.my_server.specs.Answer.{row_payload}
use Rattle.my_server.proofs.answer.add_rows.Given as goal

abbrev pub invariant-loop-row : goal.invariant-loop-row
invariant-loop-row l = l.payloads ≡ l.fn.payloads ++ map row_payload (take l.row-index l.rows)
