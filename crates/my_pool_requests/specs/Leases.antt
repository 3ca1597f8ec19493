-- What the end of a lease does.
use Rattle.std.specs.Prelude.{◌≡◌, Option, Some, None, false, [], ◌∷◌, ◌++◌}
use Rattle.my_reading.specs.declared.call.CallKind.{CallKind}
use Rattle.my_conn.specs.Cancels.{CancelIs}
use Rattle.my_conn.specs.Conn.{ConnSeen}
use Rattle.my_pool_core.specs.declared.event.Answer.TheVariants as answers
use Rattle.my_pool_core.specs.declared.event.PoolEvent.TheVariants as events
use Rattle.my_pool_store.specs.Shelves.{entry}
use Rattle.my_pool.specs.Pools.{ConnEntry, IsCalled, Made, Pool}

-- no pool has handed it out
abbrev pub taken_back : {L : Type 0} → ConnSeen L → ConnSeen L
taken_back c = record c { fixed = record c.fixed { pooled = false } }

-- its open call is cancelled, where there is one
abbrev pub StillBy : {L : Type 0} → Option CallKind → ConnSeen L → ConnSeen L → Type 0
StillBy None c d = d ≡ c
StillBy (Some kind) c d = CancelIs c d

-- it comes back, and is kept with no open call
pub record GivesBack {L : Type 0} (e : ConnEntry L) (p q : Pool L) : Type 0 where
  pub conn : ConnSeen L
  pub still : StillBy e.conn.pending e.conn conn
  pub made : Made (events.GiveBack e.number) answers.Done p q
  pub called : IsCalled p q
  pub kept : q.kept ≡ p.kept ++ entry e.number (taken_back conn) ∷ []
