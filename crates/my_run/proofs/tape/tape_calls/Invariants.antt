use Rattle.std.proofs.Common.{◌≡◌, ◌++◌, map, reverse, vec_len}
use Rattle.my_client.specs.Conn.{asked_in}
use Rattle.my_run.specs.Tapes.{tape_call, open_call}
use Rattle.my_run.proofs.tape.tape_calls.Given as goal

abbrev pub decreases-calls : goal.decreases-calls
decreases-calls l = vec_len l.calls

abbrev pub invariant-calls : goal.invariant-calls
invariant-calls l = map tape_call l.calls.items ++ reverse l.tape.items ≡ map tape_call l.fn.calls.items ++ open_call (asked_in l.fn.pending)
