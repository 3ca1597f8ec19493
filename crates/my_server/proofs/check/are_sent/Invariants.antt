-- All pass where those that are left do.
use Rattle.std.proofs.Common.{◌≡◌, drop}
use Rattle.std.specs.List.{list_all}
use Rattle.my_server.specs.Faults.{is_sent}
use Rattle.my_server.proofs.check.are_sent.Given as goal

abbrev pub invariant-loop-payload : goal.invariant-loop-payload
invariant-loop-payload l = list_all is_sent (drop l.payload-index l.payloads) ≡ list_all is_sent l.payloads
