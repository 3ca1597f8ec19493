use Rattle.my_pool_requests.proofs.Checking.{leased-alive, leased-empty, pends-why, refused-why}
use Rattle.my_pool_requests.proofs.laws.idle_connections_are_checked.Goals as goal

pub returns-clause-leased : goal.returns-clause-leased
returns-clause-leased g c = λ age n conn p q held w. leased-empty g.L.Link.looks age n conn p q held w

pub returns-clause-alive : goal.returns-clause-alive
returns-clause-alive g c = λ age n conn p q held w. leased-alive g.L.Link.looks age n conn p q held w

pub returns-clause-refused : goal.returns-clause-refused
returns-clause-refused g c = λ age n conn p q w. refused-why g.L.Link.looks age n conn p q w

pub returns-clause-pending : goal.returns-clause-pending
returns-clause-pending g c = λ age n conn p q a w. pends-why g.L.Link.looks age n conn p q a w
