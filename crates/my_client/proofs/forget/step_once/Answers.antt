use Rattle.my_session.specs.declared.answer.SessionStep.TheVariants as steps
use Rattle.my_client.proofs.Stepping.{step_leaves}
use Rattle.my_client.proofs.forget.step_once.Goals as goal

pub returns-in-Done-clause-answered : goal.returns-in-Done-clause-answered
returns-in-Done-clause-answered c = λ login k a w. step_leaves login c.args.session.now.seen c.step.new.self.seen k a (steps.Done c.in-Done.answer) w c.in-Done.ensures.reads
