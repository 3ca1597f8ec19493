-- What contracts see of an exchange, and of an event of it.
use Rattle.std.specs.Prelude.{◌≡◌, ℕ, Bool, true, Option, Some, None, List}
use Rattle.my_pool_parts.specs.Connections.{is_cleaning_place, is_working_place}
use Rattle.my_pool_parts.specs.Lists.{found_is}
use Rattle.my_pool_parts.specs.declared.connection.Place.{Place}
use Rattle.my_pool_parts.specs.declared.connection.Place.TheVariants.{Resetting}
use Rattle.my_pool_core.specs.declared.event.Answer.{Answer}
use Rattle.my_pool_core.specs.declared.event.PoolEvent.{PoolEvent}
use Rattle.my_pool_core.specs.declared.event.Verdict.{Verdict}
use Rattle.my_pool_core.specs.Moves.{is_ending_place}
use Rattle.my_pool_core.specs.Owners.{place_at}
use Rattle.my_pool_core.specs.State.{State}
use Rattle.my_pool_core.specs.Steps.{may, step, answer}
use Rattle.my_pool_store.specs.Noted.{IsNoted}
use Rattle.my_pool_store.specs.Shelves.{Entry, kept_at, numbered, rest_by, with_left, without_number}
use Rattle.my_pool_store.specs.Woken.{waiting}
use Rattle.my_client.specs.declared.tape.Tape.{Tape}
use Rattle.my_opts.specs.Opts.{OptsView}
use Rattle.my_conn.specs.Conn.{ConnSeen}
use Rattle.my_pool.specs.Fit.{IsFit, IsStill, MayWork}

-- a kept connection with its number
abbrev pub ConnEntry : Type 0 → Type 0
ConnEntry L = Entry (ConnSeen L)

-- the core's state; the kept connections; the ages of the requests whose wakers are kept; the events so far, where the
-- journal keeps them; the tapes of the connections that are gone, by their numbers, in the order in which they went;
-- the state of the new pool; and the options of its connections
pub record Pool (L : Type 0) : Type 0 where
  pub state : State
  pub kept : List (ConnEntry L)
  pub ages : List ℕ
  pub told : Option (List PoolEvent)
  pub gone : List (Entry Tape)
  pub start : State
  pub opts : OptsView

-- One event of the core, with this answer, and nothing else of it. Of a connection this tape is left, or none.
pub record MadeWith {L : Type 0} (left : Option (ℕ × Tape)) (e : PoolEvent) (a : Answer) (p q : Pool L) : Type 0 where
  pub allowed : may p.state e ≡ true
  pub state : q.state ≡ step p.state e
  pub answered : a ≡ answer p.state e
  pub noted : IsNoted p.told e q.told
  pub gone : q.gone ≡ with_left left p.gone
  pub start : q.start ≡ p.start
  pub opts : q.opts ≡ p.opts

-- no connection goes that has a tape
abbrev pub Made : {L : Type 0} → PoolEvent → Answer → Pool L → Pool L → Type 0
Made e a p q = MadeWith None e a p q

-- the tape of a connection that goes
abbrev pub tape_of : {L : Type 0} → Option (ConnSeen L) → Option Tape
tape_of None = None
tape_of (Some c) = c.tape

-- what a verdict leaves of a connection: the tape of one that is counted no more
abbrev pub left_of : {L : Type 0} → Verdict → ConnEntry L → Option (ℕ × Tape)
left_of verdict e = numbered e.number (tape_of (rest_by verdict e.conn))

-- Who no longer waits was called, and nobody else: the wakers of those that wait still are kept.
abbrev pub IsCalled : {L : Type 0} → Pool L → Pool L → Type 0
IsCalled p q = q.ages ≡ waiting q.state p.ages

-- No event: a connection was moved out or back.
pub record Same {L : Type 0} (p q : Pool L) : Type 0 where
  pub state : q.state ≡ p.state
  pub told : q.told ≡ p.told
  pub ages : q.ages ≡ p.ages
  pub gone : q.gone ≡ p.gone
  pub start : q.start ≡ p.start
  pub opts : q.opts ≡ p.opts

-- the connection in hand is being cleaned, and isn't kept
pub record IsCleaned {L : Type 0} (n : ℕ) (p : Pool L) : Type 0 where
  pub place : found_is is_cleaning_place (place_at n p.state) ≡ true
  pub out : kept_at n p.kept ≡ None

-- the connection in hand is at a place of which this may be the end; a reset that ended well left it fit
pub record IsDone {L : Type 0} (ok : Bool) (e : ConnEntry L) (p : Pool L) : Type 0 where
  pub place : found_is (is_ending_place ok) (place_at e.number p.state) ≡ true
  pub out : kept_at e.number p.kept ≡ None
  pub fit : ok ≡ true → place_at e.number p.state ≡ Some Resetting → IsFit e.conn

-- the connection in hand is being cleaned, reset or closed, has no other open call, and isn't kept
pub record IsOut {L : Type 0} (e : ConnEntry L) (p : Pool L) : Type 0 where
  pub place : Place
  pub there : place_at e.number p.state ≡ Some place
  pub working : is_working_place place ≡ true
  pub out : kept_at e.number p.kept ≡ None
  pub works : MayWork place e.conn

-- one was taken out, or none
abbrev pub TakenOut : {L : Type 0} → Option (ConnEntry L) → List (ConnEntry L) → List (ConnEntry L) → Type 0
TakenOut None old new = new ≡ old
TakenOut (Some e) old new = (kept_at e.number old ≡ Some e.conn) × (new ≡ without_number e.number old)

-- the one of a number was taken out, or is out already
abbrev pub TakenAt : {L : Type 0} → ℕ → Option (ConnEntry L) → List (ConnEntry L) → List (ConnEntry L) → Type 0
TakenAt n None old new = (kept_at n old ≡ None) × (new ≡ old)
TakenAt n (Some e) old new = (kept_at n old ≡ Some e.conn) × (new ≡ without_number n old)

abbrev pub number_of : {L : Type 0} → Option (ConnEntry L) → Option ℕ
number_of None = None
number_of (Some e) = Some e.number

-- the one that was taken out is in the caller's hand
abbrev pub Handed : {L : Type 0} → ℕ → Option (ConnEntry L) → Pool L → Type 0
Handed n None p = Unit {0}
Handed n (Some e) p = IsOut e p × (e.number ≡ n)

-- the one that is to be cleaned is in the caller's hand, with no open call
abbrev pub HandedStill : {L : Type 0} → Option (ConnEntry L) → Pool L → Type 0
HandedStill None p = Unit {0}
HandedStill (Some e) p = IsCleaned e.number p × IsStill e.conn
