-- What was put and what is left are all payloads.
use Rattle.std.proofs.Common.{◌≡◌, ◌++◌, drop}
use Rattle.my_server.specs.Machine.{all_chunks}
use Rattle.my_server.proofs.answering.chunked.Given as goal

abbrev pub invariant-loop-payload : goal.invariant-loop-payload
invariant-loop-payload l = l.bytes.items ++ all_chunks (drop l.payload-index l.payloads) l.next ≡ all_chunks l.payloads l.number
