use Rattle.std.proofs.Common.{ℕ, ap, arith}
use Rattle.std.proofs.lemmas.List.{length-map}
use Rattle.my_pool_parts.specs.declared.seat.Seat.{Seat}
use Rattle.my_pool_parts.specs.Live.{requests_of}
use Rattle.my_pool_parts.specs.Lists.{how_many}
use Rattle.my_pool_parts.specs.Requests.{may_dial}
use Rattle.my_pool_parts.proofs.Queue.Waking.{count-may-dial}
use Rattle.my_pool_parts.proofs.live.Live.count_may_dial.Goals as goal

pub overflow_sub-result : goal.overflow_sub-result
overflow_sub-result c = omega (arith, c.len.ensures, c.self.invariant.live.dialing_counted, count-may-dial (requests_of c.self.inside.seats.entries), length-map c.self.inside.seats.entries (λ (e : ℕ × Seat). e.1.request))

pub returns : goal.returns
returns c = omega (arith, c.len.ensures, c.self.invariant.live.dialing_counted, count-may-dial (requests_of c.self.inside.seats.entries), length-map c.self.inside.seats.entries (λ (e : ℕ × Seat). e.1.request), ap (how_many may_dial) c.self.view_is)
