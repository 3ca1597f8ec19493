-- What was read so far is of an exchange that began so.
use Rattle.std.proofs.Common.{length}
use Rattle.my_grammar.proofs.Cutting.CutSteps.{ReadSoFar}
use Rattle.my_grammar.proofs.cut.read_exchange.Given as goal

abbrev pub invariant-payloads : goal.invariant-payloads
invariant-payloads l = ReadSoFar l.login l.opening l.bytes l.progress l.rest

abbrev pub decreases-payloads : goal.decreases-payloads
decreases-payloads l = length l.rest
