use Rattle.my_client.proofs.Living.{each_ok, lives_by, made_lived}
use Rattle.my_client.proofs.poll.fail_now.Goals as goal

pub returns-in-Fault-clause-lives : goal.returns-in-Fault-clause-lives
returns-in-Fault-clause-lives c = each_ok c.fault.result _ (λ e. lives_by c.args.now c.args.session.now c.step.new.self c.in-Fault.ensures.shorter c.in-Fault.ensures.lifetime)

pub returns-in-Fault-clause-made : goal.returns-in-Fault-clause-made
returns-in-Fault-clause-made c = made_lived c.args.now _ _ c.args.session.now c.step.new.self c.in-Fault.ensures.lifetime
