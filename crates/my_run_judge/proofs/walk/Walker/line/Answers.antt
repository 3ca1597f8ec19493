use Rattle.std.proofs.Common.{◌≡◌, ◌∙◌, Option, rules, subst}
use Rattle.my_reading.specs.Place.{Place, is_taken}
use Rattle.my_statements.specs.Prepared.{StatementView}
use Rattle.my_run_judge.specs.Does.{Does, StandsAt, walk_of}
use Rattle.my_run_judge.specs.Lines.{ActRight, act_in, after_reads, ground_at}
use Rattle.my_run_judge.specs.Seen.{seen}
use Rattle.my_run_judge.specs.Walks.{Walk}
use Rattle.my_run_judge.proofs.Doing.{ground_known, line_done}
use Rattle.my_run_judge.proofs.walk.Walker.line.Goals as goal

pub returns : goal.returns
returns c =
    let w = λ (p : Place). walk_of p c.args.self.now in
    let acts : (p : Place) → StandsAt c.args.login.now p c.args.self.now.reader → act_in c.args.number c.args.made.now (w p) c.args.step.now c.args.answer.now ≡ c.act_with-act.result = λ p at.
    let known : c.of-base.result ≡ ground_at (w p) = c.of-base.ensures ∙ ground_known c.args.self.now.reader.closed c.is_taken.result (is_taken p) (c.is_taken.ensures c.args.login.now p at) in
    let did = c.act_with-act.ensures in
    search rules in
    let a = c.args.answer.now in
    let done = subst (λ (s : Option StatementView). Does c.args.login.now (λ (v : Walk). ActRight c.args.login.now c.args.number (seen c.args.tape.now) s v c.args.step.now a.outcome a.uses.items c.act_with-act.result) (λ (v : Walk). after_reads c.args.login.now (seen c.args.tape.now) v a.outcome a.uses.items c.act_with-act.result) c.args.self.now c.in_ok-right.right c.reads.new.self) c.statement_for-named.ensures c.in_ok-right.ensures in
    line_done c.args.login.now c.args.number (seen c.args.tape.now) c.args.index c.args.made.now c.args.step.now c.args.answer.now c.act_with-act.result c.args.self.now c.reads.new.self _ c.in_ok-right.right (search rules) acts (search rules) done
