use Rattle.std.proofs.Common.{ap, ◌∙◌, length}
use Rattle.my_pool_parts.specs.Connections.{is_idle}
use Rattle.my_pool_parts.specs.Lists.{how_many}
use Rattle.my_pool_parts.proofs.Queues.{numbers-length}
use Rattle.my_pool_parts.proofs.connections.Connections.count_idle.Goals as goal

pub returns : goal.returns
returns c =
    c.len.ensures.count ∙ ap length c.self.invariant.idle_are ∙ numbers-length is_idle c.self.inside.arrivals.list
    ∙ ap (λ s. how_many is_idle s.list) c.self.view_is
