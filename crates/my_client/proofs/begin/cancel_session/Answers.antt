use Rattle.my_client.proofs.Beginning.{cancels}
use Rattle.my_client.proofs.begin.cancel_session.Goals as goal

pub returns-then-is_closed-clause-cancels : goal.returns-then-is_closed-clause-cancels
returns-then-is_closed-clause-cancels c = λ login k a w. cancels login c.args.session.now.seen c.cancel.new.self.seen k a c.cancel.ensures.cancelled w

pub returns-else-is_closed-clause-cancels : goal.returns-else-is_closed-clause-cancels
returns-else-is_closed-clause-cancels c = λ login k a w. cancels login c.args.session.now.seen c.cancel.new.self.seen k a c.cancel.ensures.cancelled w
