-- What was added and what is left are all sets.
use Rattle.std.proofs.Common.{◌≡◌, ◌++◌, drop}
use Rattle.my_server.specs.Answer.{AreFew, sets_payloads}
use Rattle.my_server.proofs.answer.add_sets.Given as goal

abbrev pub invariant-loop-index : goal.invariant-loop-index
invariant-loop-index l = record {
  added : l.payloads ++ sets_payloads l.deprecates (drop l.index l.sets) ≡ l.fn.payloads ++ sets_payloads l.deprecates l.sets;
  few : AreFew (drop l.index l.sets);
}
