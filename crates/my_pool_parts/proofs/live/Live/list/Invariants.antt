use Rattle.std.proofs.Common.{◌≡◌, map}
use Rattle.my_pool_parts.proofs.live.Live.list.Given as goal

abbrev pub invariant-loop-seat : goal.invariant-loop-seat
invariant-loop-seat l = l.requests.items ≡ map (λ s. s.now.request) l.yielded
