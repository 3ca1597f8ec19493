use Rattle.my_pool_requests.proofs.Checking.{why-refused}
use Rattle.my_pool_requests.proofs.laws.requests_fail_for_a_cause.Goals as goal

pub returns : goal.returns
returns g c = λ age now wakes p q e seeks. why-refused g.L.Link.looks age now wakes p q e seeks
