use Rattle.std.proofs.Common.{List, IfOk, drop, sym, subst}
use Rattle.std.specs.Option.{option_copied}
use Rattle.my_run_judge.specs.declared.act.Act.{Act}
use Rattle.my_script.specs.declared.transcript.Use.{Use}
use Rattle.my_run_judge.specs.Seen.{seen}
use Rattle.my_run_judge.specs.Does.{Does}
use Rattle.my_run_judge.specs.Lines.{ActRight, ConnectsRight, after_polls, after_reads}
use Rattle.my_run_judge.specs.Walks.{Walk}
use Rattle.my_run_judge.proofs.walk.Walker.reads.Goals as goal

pub returns-in-Connects : goal.returns-in-Connects
returns-in-Connects c =
    subst (λ (a : Act). IfOk c.connects.result (λ right. Does c.args.login.now (λ (w : Walk). ActRight c.args.login.now c.args.number (seen c.args.tape.now) (option_copied c.args.named) w c.args.step.now c.args.answer.now.outcome c.args.answer.now.uses.items a)
    (λ (w : Walk). after_reads c.args.login.now (seen c.args.tape.now) w c.args.answer.now.outcome c.args.answer.now.uses.items a) c.args.self.now right c.connects.new.self)) (sym c.in-Connects.is)
    (subst (λ (us : List Use). IfOk c.connects.result (λ right. Does c.args.login.now (λ (w : Walk). ConnectsRight c.args.login.now c.args.number (seen c.args.tape.now) w c.args.answer.now.outcome us)
    (after_polls c.args.login.now (seen c.args.tape.now) c.args.answer.now.outcome (drop 1 us)) c.args.self.now right c.connects.new.self)) c.as_slice-uses.ensures.value c.connects.ensures)
