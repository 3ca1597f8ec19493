-- What tells the pool how a request's connection is, and what a poll of a request leaves in its caller's hand.
use Rattle.std.specs.Prelude.{◌≡◌, ℕ, true, Option, Some, None}
use Rattle.my_client.specs.declared.tape.Tape.{Tape}
use Rattle.my_conn.specs.Conn.{ConnSeen}
use Rattle.my_pool_core.specs.declared.event.Answer.TheVariants as answers
use Rattle.my_pool_core.specs.declared.event.PoolEvent.{PoolEvent}
use Rattle.my_pool_core.specs.declared.event.PoolEvent.TheVariants as events
use Rattle.my_pool_core.specs.Owners.{is_lease, token}
use Rattle.my_pool_store.specs.Shelves.{entry, numbered}
use Rattle.my_pool.specs.Fit.{IsCleanConn, IsFit}
use Rattle.my_pool.specs.Pools.{ConnEntry, IsCalled, MadeWith, Pool}
use Rattle.my_pool_requests.specs.declared.making.Made.{Made as Making}
use Rattle.my_pool_requests.specs.declared.making.Made.TheVariants as makings
use Rattle.my_pool_requests.specs.declared.request.AskTurn.{AskTurn}
use Rattle.my_pool_requests.specs.declared.request.AskTurn.TheVariants as turns
use Rattle.my_pool_requests.specs.declared.request.Stage.TheVariants as stages
use Rattle.my_pool_requests.specs.Stages.{Asked, asked, token_in}

-- One event, which answers nothing and leaves the kept connections. Whoever it woke was called. Of a connection this
-- tape is left, or none.
pub record SettlesWith {L : Type 0} (left : Option (ℕ × Tape)) (e : PoolEvent) (p q : Pool L) : Type 0 where
  pub made : MadeWith left e answers.Done p q
  pub called : IsCalled p q
  pub kept : q.kept ≡ p.kept

abbrev pub Settles : {L : Type 0} → PoolEvent → Pool L → Pool L → Type 0
Settles e p q = SettlesWith None e p q

-- a request is live in this pool, with the connection that it has or none
abbrev pub IsAsking : {L : Type 0} → Asked L → Pool L → Type 0
IsAsking a p = token a.age p.state ≡ Some (token_in a.stage)

-- a lease is of a connection that is fit, and clean by all that it may have done
pub record IsLeased {L : Type 0} (e : ConnEntry L) (p : Pool L) : Type 0 where
  pub place : is_lease e.number p.state ≡ true
  pub fit : IsFit e.conn
  pub clean : IsCleanConn e.conn

-- a request that isn't done is one of this pool, and so is a lease
abbrev pub FitsIn : {L : Type 0} → AskTurn L → Pool L → Type 0
FitsIn (turns.Pending asking) p = IsAsking asking p
FitsIn (turns.Held held) p = IsLeased held p
FitsIn (turns.Failed e) p = Unit {0}

-- a pool has handed it out
abbrev pub handed_out : {L : Type 0} → ConnSeen L → ConnSeen L
handed_out c = record c { fixed = record c.fixed { pooled = true } }

-- its connection is good: it is leased
pub record LeasedBy {L : Type 0} (age n : ℕ) (c : ConnSeen L) (p q : Pool L) (turn : AskTurn L) : Type 0 where
  pub ready : Settles (events.Ready age n) p q
  pub turn_is : turn ≡ turns.Held (entry n (handed_out c))

-- what its making comes to: while it isn't made, no event happens
abbrev pub SettledBy : {L : Type 0} → ℕ → ℕ → Making L → Pool L → Pool L → AskTurn L → Type 0
SettledBy age n makings.Undialed p q turn = (q ≡ p) × (turn ≡ turns.Pending (asked age (stages.Dials n)))
SettledBy age n (makings.Pending c) p q turn = (q ≡ p) × (turn ≡ turns.Pending (asked age (stages.Makes n c)))
SettledBy age n (makings.Good c) p q turn = LeasedBy age n c p q turn
SettledBy age n (makings.Failed e tape) p q turn =
    SettlesWith (numbered n tape) (events.Failed age n) p q × (turn ≡ turns.Failed e)
