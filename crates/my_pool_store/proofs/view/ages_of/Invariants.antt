use Rattle.std.proofs.Common.{◌≡◌, ◌++◌, drop}
use Rattle.my_pool_store.specs.Views.{ages_of}
use Rattle.my_pool_store.proofs.view.ages_of.Given as goal

abbrev pub invariant-loop-request : goal.invariant-loop-request
invariant-loop-request l = l.ages.items ++ ages_of l.woken (drop l.request-index l.requests) ≡ ages_of l.woken l.requests
