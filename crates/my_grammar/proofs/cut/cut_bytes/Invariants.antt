-- What is cut so far are the exchanges before the rest.
use Rattle.std.proofs.Common.{drop}
use Rattle.my_grammar.proofs.Cutting.CutSteps.{CutSoFar}
use Rattle.my_grammar.proofs.cut.cut_bytes.Given as goal

abbrev pub invariant-loop-opening : goal.invariant-loop-opening
invariant-loop-opening l = CutSoFar l.login l.openings l.bytes l.exchanges.items (drop l.opening-index l.openings) l.rest
