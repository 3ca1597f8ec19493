use Rattle.std.proofs.Common.{◌-◌}
use Rattle.my_params.proofs.Texts.Gathering.{Gathers}
use Rattle.my_params.proofs.named.gather.Given as goal

abbrev pub invariant-loop : goal.invariant-loop
invariant-loop l = Gathers l.text l.gathered.query.items l.gathered.params.items l.gathered.marked (l.end - l.counter) l.rest
