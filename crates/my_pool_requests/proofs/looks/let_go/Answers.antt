use Rattle.std.proofs.Common.{ap, subst, ◌∙◌}
use Rattle.my_pool_core.specs.declared.event.Answer.TheVariants as answers
use Rattle.my_pool_core.specs.declared.event.PoolEvent.TheVariants as events
use Rattle.my_pool_core.specs.Moves.{failed_token}
use Rattle.my_pool_store.specs.Shelves.{numbered}
use Rattle.my_pool.specs.Pools.{MadeWith}
use Rattle.my_pool_requests.proofs.Seeking.{fewer-idle}
use Rattle.my_pool_requests.proofs.looks.let_go.Goals as goal

pub returns-clause-free : goal.returns-clause-free
returns-clause-free g c = c.failed.ensures.holds ∙ ap (failed_token c.args.age) c.requires

pub returns-clause-fewer : goal.returns-clause-fewer
returns-clause-fewer g c = fewer-idle c.args.age c.args.number c.args.pool.now.state c.failed.new.self.state c.failed.ensures.made.state

pub returns-clause-failed : goal.returns-clause-failed
returns-clause-failed g c = record {
  made = subst (λ t. MadeWith (numbered c.args.number t) (events.Failed c.args.age c.args.number) answers.Done c.args.pool.now c.failed.new.self) c.take_tape-tape.ensures.tape c.failed.ensures.made;
  called = c.failed.ensures.called;
  kept = c.failed.ensures.kept;
}
