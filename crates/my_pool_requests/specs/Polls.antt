-- What a poll of a request does: its events, in order, and what is done outside between them.
use Rattle.std.specs.Prelude.{◌≡◌, ◌==◌, ℕ, Bool, Option, Some, None}
use Rattle.my_frame.specs.Lists.{without}
use Rattle.my_link.specs.Aid.{Texts}
use Rattle.my_link.specs.Looks.{Looks}
use Rattle.my_conn.specs.Connects.{ConnectSeen}
use Rattle.my_pool_core.specs.declared.event.Answer.TheVariants as answers
use Rattle.my_pool_core.specs.declared.event.PoolEvent.TheVariants as events
use Rattle.my_pool_store.specs.Woken.{waiting}
use Rattle.my_pool.specs.Pools.{MadeWith, Pool}
use Rattle.my_pool_requests.specs.declared.looks.Sought.{Sought}
use Rattle.my_pool_requests.specs.declared.looks.Sought.TheVariants as soughts
use Rattle.my_pool_requests.specs.declared.making.Made.{Made as Making}
use Rattle.my_pool_requests.specs.declared.request.AskTurn.{AskTurn}
use Rattle.my_pool_requests.specs.declared.request.Moment.{Moment}
use Rattle.my_pool_requests.specs.declared.request.Stage.{Stage}
use Rattle.my_pool_requests.specs.declared.request.Stage.TheVariants as stages
use Rattle.my_pool_requests.specs.Looks.{LooksOn, Seeks}
use Rattle.my_pool_requests.specs.Makes.{DialsOn, MakesOn, Outside}
use Rattle.my_pool_requests.specs.Settles.{SettledBy}
use Rattle.my_pool_requests.specs.Stages.{Asked, left_in}

-- its connect call is polled, and what that comes to is told
pub record MakesIt {L : Type 0} (look : L → Looks) (texts : Texts) (now age n : ℕ) (c : ConnectSeen L) (p q : Pool L)
    (turn : AskTurn L) : Type 0 where
  pub made : Making L
  pub makes : MakesOn look texts now c made
  pub settled : SettledBy age n made p q turn

-- its link is dialed, and what that comes to is told
pub record DialsIt {L O : Type 0} (out : Outside L O) (moment : Moment) (age n : ℕ) (old new : O) (p q : Pool L)
    (turn : AskTurn L) : Type 0 where
  pub made : Making L
  pub dials : DialsOn out p.opts moment n old new made
  pub settled : SettledBy age n made p q turn

-- the outside isn't used where the request makes no connection
abbrev pub FoundBy : {L O : Type 0} → Outside L O → Moment → ℕ → Sought L → O → O → Pool L → Pool L → AskTurn L → Type 0
FoundBy out moment age (soughts.Turn found) old new p q turn = (turn ≡ found) × (q ≡ p) × (new ≡ old)
FoundBy out moment age (soughts.Dials n) old new p q turn = DialsIt out moment age n old new p q turn

-- it looks for a connection, and may make one
pub record PollsFree {L O : Type 0} (out : Outside L O) (moment : Moment) (wakes : Bool) (age : ℕ) (old new : O)
    (p q : Pool L) (turn : AskTurn L) : Type 0 where
  pub sought : Sought L
  pub between : Pool L
  pub seeks : Seeks out.look age moment.now wakes p between sought
  pub found : FoundBy out moment age sought old new between q turn

-- where the connection that it looks at isn't good, it looks for another
abbrev pub LookedOn : {L O : Type 0} → Outside L O → Moment → Bool → ℕ → Option (AskTurn L) → O → O → Pool L → Pool L
    → AskTurn L → Type 0
LookedOn out moment wakes age (Some found) old new p q turn = (turn ≡ found) × (q ≡ p) × (new ≡ old)
LookedOn out moment wakes age None old new p q turn = PollsFree out moment wakes age old new p q turn

-- a poll of a request, by what the request does
abbrev pub PollsBy : {L O : Type 0} → Outside L O → Moment → Bool → ℕ → Stage L → O → O → Pool L → Pool L → AskTurn L
    → Type 0
PollsBy out moment wakes age stages.Free old new p q turn = PollsFree out moment wakes age old new p q turn
PollsBy out moment wakes age (stages.Dials n) old new p q turn = DialsIt out moment age n old new p q turn
PollsBy out moment wakes age (stages.Makes n c) old new p q turn =
    MakesIt out.look (out.texts old) moment.now age n c p q turn × (out.texts new ≡ out.texts old)
PollsBy {L} out moment wakes age (stages.Looks n c) old new p q turn =
    (found : Option (AskTurn L)) × (m : Pool L) × LooksOn out.look age n c p m found
    × LookedOn out moment wakes age found old new m q turn

abbrev pub PollsAsk : {L O : Type 0} → Outside L O → Moment → Bool → Asked L → O → O → Pool L → Pool L → AskTurn L
    → Type 0
PollsAsk out moment wakes a old new p q turn = PollsBy out moment wakes a.age a.stage old new p q turn

-- A request is given up: one event. Its own waker isn't called; the tape of its connection is left, where it has one.
pub record Cancels {L : Type 0} (a : Asked L) (p q : Pool L) : Type 0 where
  pub made : MadeWith (left_in a.stage) (events.Cancel a.age) answers.Done p q
  pub called : q.ages ≡ waiting q.state (without (λ age. age == a.age) p.ages)
  pub kept : q.kept ≡ p.kept
