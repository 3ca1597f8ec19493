-- How a request looks for a connection.
use Rattle.std.specs.Prelude.{◌≡◌, ℕ, zero, suc, ◌≤◌, ◌==◌, ◌&&◌, Bool, true, false, Option, Some, None}
use Rattle.my_frame.specs.Lists.{without}
use Rattle.my_link.specs.Looks.{Looks}
use Rattle.my_link.specs.declared.link.CheckStep.{CheckStep}
use Rattle.my_link.specs.declared.link.CheckStep.TheVariants as checks
use Rattle.my_link.specs.declared.met.Met.{Met}
use Rattle.my_reading.specs.declared.error.DriverError.TheVariants.{PoolDisconnected, PoolFull}
use Rattle.my_reading.specs.declared.error.Error.{Error}
use Rattle.my_reading.specs.declared.error.Error.TheVariants as errors
use Rattle.my_conn.specs.Checks.{CheckedIs}
use Rattle.my_conn.specs.Conn.{ConnSeen}
use Rattle.my_pool_core.specs.declared.event.Answer.TheVariants as answers
use Rattle.my_pool_core.specs.declared.event.PollAnswer.{PollAnswer}
use Rattle.my_pool_core.specs.declared.event.PollAnswer.TheVariants.{Wait, Take, Dial, Closed, Full}
use Rattle.my_pool_core.specs.declared.event.PoolEvent.TheVariants as events
use Rattle.my_pool_core.specs.Counted.{idle}
use Rattle.my_pool_core.specs.Owners.{Free, Making, token}
use Rattle.my_pool_store.specs.Shelves.{left_by, numbered, taken_by}
use Rattle.my_pool_store.specs.Woken.{kept_for, waiting}
use Rattle.my_pool.specs.Asks.{is_wait}
use Rattle.my_pool.specs.Pools.{Made, Pool}
use Rattle.my_pool_requests.specs.declared.looks.Sought.{Sought}
use Rattle.my_pool_requests.specs.declared.looks.Sought.TheVariants as soughts
use Rattle.my_pool_requests.specs.declared.request.AskTurn.{AskTurn}
use Rattle.my_pool_requests.specs.declared.request.AskTurn.TheVariants as turns
use Rattle.my_pool_requests.specs.declared.request.Stage.TheVariants as stages
use Rattle.my_pool_requests.specs.Settles.{FitsIn, LeasedBy, SettlesWith}
use Rattle.my_pool_requests.specs.Stages.{asked}

-- ---- a look at an idle connection ----

-- One that is alive is leased. Where the check isn't ready, no event happens, and the next poll looks again. One that
-- is dead, or whose check failed, isn't good, and the request has none again; its tape is left.
abbrev pub LookedBy : {L : Type 0} → ℕ → ℕ → ConnSeen L → CheckStep → Pool L → Pool L → Option (AskTurn L) → Type 0
LookedBy {L} age n c checks.Alive p q turn = (held : AskTurn L) × LeasedBy age n c p q held × (turn ≡ Some held)
LookedBy age n c checks.NotYet p q turn = (q ≡ p) × (turn ≡ Some (turns.Pending (asked age (stages.Looks n c))))
LookedBy age n c checks.Dead p q turn = SettlesWith (numbered n c.tape) (events.Failed age n) p q × (turn ≡ None)
LookedBy age n c checks.Failed p q turn = SettlesWith (numbered n c.tape) (events.Failed age n) p q × (turn ≡ None)

-- a connection that a request took was checked
pub record LooksOn {L : Type 0} (look : L → Looks) (age n : ℕ) (c : ConnSeen L) (p q : Pool L)
    (turn : Option (AskTurn L)) : Type 0 where
  pub step : CheckStep
  pub after : ConnSeen L
  pub met : Met
  pub checked : CheckedIs look c after met step
  pub comes : LookedBy age n after step p q turn

-- where it isn't good, the request has none, and no more are idle
abbrev pub LookLeaves : {L : Type 0} → ℕ → Option (AskTurn L) → Pool L → Pool L → Type 0
LookLeaves age None p q = (token age q.state ≡ Some Free) × (idle q.state ≤ idle p.state)
LookLeaves age (Some turn) p q = FitsIn turn q

-- ---- a poll, and what it is answered ----

abbrev pub pool_disconnected : Error
pool_disconnected = errors.Driver PoolDisconnected

abbrev pub pool_full : ℕ → ℕ → Error
pool_full waiting_ limit = errors.Driver (PoolFull waiting_ limit)

abbrev pub is_take : PollAnswer → Bool
is_take Wait = false
is_take (Take n) = true
is_take (Dial n) = false
is_take Closed = false
is_take (Full waiting_ limit) = false

-- one that took no connection waits, makes one, or has ended
abbrev pub UntakenBy : {L : Type 0} → ℕ → PollAnswer → Sought L → Type 0
UntakenBy age Wait sought = sought ≡ soughts.Turn (turns.Pending (asked age stages.Free))
UntakenBy age (Take n) sought = ⊥
UntakenBy age (Dial n) sought = sought ≡ soughts.Dials n
UntakenBy age Closed sought = sought ≡ soughts.Turn (turns.Failed pool_disconnected)
UntakenBy age (Full waiting_ limit) sought = sought ≡ soughts.Turn (turns.Failed (pool_full waiting_ limit))

abbrev pub turn_of : {L : Type 0} → Option (AskTurn L) → Option (Sought L)
turn_of None = None
turn_of (Some turn) = Some (soughts.Turn turn)

-- one that took a connection looks at it
abbrev pub TakenBy : {L : Type 0} → (L → Looks) → ℕ → ℕ → Option (ConnSeen L) → Pool L → Pool L → Option (Sought L)
    → Type 0
TakenBy look age n None p q sought = ⊥
TakenBy {L} look age n (Some c) p q sought =
    (turn : Option (AskTurn L)) × LooksOn look age n c p q turn × (sought ≡ turn_of turn)

-- and one that took none makes no event
abbrev pub Untaken : {L : Type 0} → ℕ → PollAnswer → Pool L → Pool L → Option (Sought L) → Type 0
Untaken {L} age answer p q sought = (q ≡ p) × ((s : Sought L) × UntakenBy age answer s × (sought ≡ Some s))

abbrev pub AnsweredBy : {L : Type 0} → (L → Looks) → ℕ → PollAnswer → Option (ConnSeen L) → Pool L → Pool L
    → Option (Sought L) → Type 0
AnsweredBy look age (Take n) conn p q sought = TakenBy look age n conn p q sought
AnsweredBy look age Wait conn p q sought = Untaken age Wait p q sought
AnsweredBy look age (Dial n) conn p q sought = Untaken age (Dial n) p q sought
AnsweredBy look age Closed conn p q sought = Untaken age Closed p q sought
AnsweredBy look age (Full waiting_ limit) conn p q sought = Untaken age (Full waiting_ limit) p q sought

-- what it leaves: a poll that is done, or a request that makes a connection; else a request that has none
abbrev pub SoughtFits : {L : Type 0} → ℕ → Sought L → Pool L → Type 0
SoughtFits age (soughts.Turn turn) q = FitsIn turn q
SoughtFits age (soughts.Dials n) q = token age q.state ≡ Some (Making n)

abbrev pub SeekLeaves : {L : Type 0} → ℕ → Option (Sought L) → Pool L → Pool L → Type 0
SeekLeaves age None p q = (token age q.state ≡ Some Free) × (idle q.state ≤ idle p.state)
SeekLeaves age (Some sought) p q = SoughtFits age sought q

-- The request was polled: one event. Its waker is kept where it waits and there is one, and is kept no more where it
-- doesn't; whoever else was woken was called. It takes the connection that the answer names out of the kept ones.
pub record PollsOnce {L : Type 0} (age now : ℕ) (wakes : Bool) (answer : PollAnswer) (conn : Option (ConnSeen L))
    (p q : Pool L) : Type 0 where
  pub made : Made (events.PollRequest age now) (answers.Poll answer) p q
  pub called : q.ages ≡ kept_for age (is_wait answer && wakes) (waiting q.state (without (λ a. a == age) p.ages))
  pub left : q.kept ≡ left_by answer p.kept
  pub taken : conn ≡ taken_by answer p.kept

-- it was polled, and this is what it came to
pub record Round {L : Type 0} (look : L → Looks) (age now : ℕ) (wakes : Bool) (p q : Pool L)
    (sought : Option (Sought L)) : Type 0 where
  pub answer : PollAnswer
  pub conn : Option (ConnSeen L)
  pub between : Pool L
  pub polls : PollsOnce age now wakes answer conn p between
  pub comes : AnsweredBy look age answer conn between q sought

-- that often, one after the other, the connection that it took wasn't good
abbrev pub Fruitless : {L : Type 0} → (L → Looks) → ℕ → ℕ → Bool → ℕ → Pool L → Pool L → Type 0
Fruitless look age now wakes zero p q = q ≡ p
Fruitless {L} look age now wakes (suc count) p q =
    (m : Pool L) × Fruitless look age now wakes count p m × Round look age now wakes m q None

-- until it came to something else
pub record Seeks {L : Type 0} (look : L → Looks) (age now : ℕ) (wakes : Bool) (p q : Pool L) (sought : Sought L)
    : Type 0 where
  pub count : ℕ
  pub before : Pool L
  pub fruitless : Fruitless look age now wakes count p before
  pub last : Round look age now wakes before q (Some sought)
