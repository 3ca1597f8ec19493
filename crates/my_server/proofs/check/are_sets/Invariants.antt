-- All pass where those that are left do.
use Rattle.std.proofs.Common.{◌≡◌, drop}
use Rattle.std.specs.List.{list_all}
use Rattle.my_server.specs.Faults.{is_set}
use Rattle.my_server.proofs.check.are_sets.Given as goal

abbrev pub invariant-loop-set : goal.invariant-loop-set
invariant-loop-set l = list_all is_set (drop l.set-index l.sets) ≡ list_all is_set l.sets
