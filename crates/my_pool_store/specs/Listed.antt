-- What a kept journal tells.
use Rattle.std.specs.Prelude.{Option, List}
use Rattle.my_pool_core.specs.declared.event.PoolEvent.{PoolEvent}
use Rattle.my_pool_store.specs.declared.journal.Kept.{Kept}

-- its events, unless one is missing
abbrev pub kept_events : Kept → Option (List PoolEvent)
kept_events k = k.events
