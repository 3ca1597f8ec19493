use Rattle.my_pool_parts.proofs.Queue.Waking.{oldest-as}
use Rattle.my_pool_parts.proofs.live.Live.oldest.Goals as goal

pub returns : goal.returns
returns c = oldest-as c.least.result c.self.invariant.live c.self.view_is c.least.ensures
