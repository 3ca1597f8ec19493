-- A payload more, and the end.
use Rattle.my_grammar.proofs.Cutting.CutSteps.{read_one_more, read_all}
use Rattle.my_grammar.proofs.cut.read_exchange.Goals as goal

pub payloads-preserved : goal.payloads-preserved
payloads-preserved c = read_one_more c.args.login.now c.args.opening.now c.args.bytes.now c.payloads.rest.now _ c.payloads.progress c.hear_one.new.self c.in-Some.len c.payloads.invariant (rw c.in-Some.is at c.in_ok-len.ensures) c.split_at.ensures.back

pub returns-in-None : goal.returns-in-None
returns-in-None c = read_all c.args.login.now c.args.opening.now c.args.bytes.now c.payloads.rest.now c.payloads.progress c.hear_one.new.self c.payloads.invariant (rw c.in-None.is at c.in_ok-len.ensures)
