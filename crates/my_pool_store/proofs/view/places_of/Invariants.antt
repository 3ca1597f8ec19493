use Rattle.std.proofs.Common.{◌≡◌, ◌++◌, drop, map}
use Rattle.my_pool_store.specs.Views.{place_of}
use Rattle.my_pool_store.proofs.view.places_of.Given as goal

abbrev pub invariant-loop-connection : goal.invariant-loop-connection
invariant-loop-connection l = l.places.items ++ map place_of (drop l.connection-index l.connections) ≡ map place_of l.connections
