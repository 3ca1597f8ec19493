use Rattle.std.proofs.Common.{ap, ◌∙◌}
use Rattle.my_pool_parts.specs.Lists.{how_many}
use Rattle.my_pool_parts.specs.Requests.{is_waiting}
use Rattle.my_pool_parts.specs.Live.{requests_of}
use Rattle.my_pool_parts.proofs.Queue.Waking.{count-waiting}
use Rattle.my_pool_parts.proofs.live.Live.count_waiting.Goals as goal

pub returns : goal.returns
returns c = c.len.ensures ∙ c.self.invariant.live.queue.counted ∙ count-waiting (requests_of c.self.inside.seats.entries) ∙ ap (how_many is_waiting) c.self.view_is
