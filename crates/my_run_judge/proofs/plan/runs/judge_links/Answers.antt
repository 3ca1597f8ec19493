use Rattle.std.proofs.lemmas.List.{nil_from_length}
use Rattle.my_run_judge.proofs.Finding.{links_all, links_more}
use Rattle.my_run_judge.proofs.plan.runs.judge_links.Goals as goal

pub tapes-preserved : goal.tapes-preserved
tapes-preserved c = links_more c.args.lines.now c.args.answers.now c.args.tapes.now c.tapes.least c.tapes.left.now c.tapes.invariant c.in-Some.tape.now c.in-Some.later.now c.in-Some.ensures.cases.0 c.in_ok-found.found
    c.in_ok-found.ensures c.earlier-least.result c.earlier-least.ensures

pub returns : goal.returns
returns c = links_all c.args.lines.now c.args.answers.now c.args.tapes.now c.tapes.least c.tapes.left.now c.tapes.invariant (nil_from_length c.tapes.left.now c.in_default.ensures.cases)
