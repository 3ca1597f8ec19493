-- What a state of a call does, and what a caller gets of it.
use Rattle.std.specs.Prelude.{ℕ, ◌≡◌, Bool, true, false, Option, Some, None}
use Rattle.std.specs.declared.result.Result.{Result}
use Rattle.std.specs.declared.result.Result.TheVariants.{Ok, Err}
use Rattle.my_link.specs.Looks.{Looks}
use Rattle.my_link.specs.declared.met.Met.{Met}
use Rattle.my_link.specs.declared.poll.Poll.{Poll}
use Rattle.my_link.specs.declared.poll.Poll.TheVariants as polls
use Rattle.my_reading.specs.declared.answer.Answer.{Answer}
use Rattle.my_reading.specs.declared.call.Call.{Call}
use Rattle.my_reading.specs.declared.call.CallKind.{CallKind}
use Rattle.my_reading.specs.declared.call.CallKind.TheVariants.{CleanForPool, ResetForPool}
use Rattle.my_reading.specs.Calls.{kind_of}
use Rattle.my_reading.specs.declared.error.Error.{Error}
use Rattle.my_client.specs.declared.poll.After.{After}
use Rattle.my_client.specs.declared.poll.After.TheVariants.{Pending, Answered, Failed}
use Rattle.my_conn.specs.Calls.{CallIs}
use Rattle.my_conn.specs.Cancels.{CancelIs}
use Rattle.my_conn.specs.Conn.{ConnSeen}

-- the calls by which a pool has a connection cleaned, and renewed for its next user
abbrev pub is_for_pool : CallKind → Bool
is_for_pool CleanForPool = true
is_for_pool ResetForPool = true
is_for_pool c = false

-- the kind of a call, and the call itself where it didn't begin yet
pub record StateSeen : Type 0 where
  pub kind : CallKind
  pub call : Option Call

-- before the first poll
abbrev pub first_state : Call → StateSeen
first_state call = record { kind = kind_of call; call = Some call }

-- by what the poll of a call came to, and what its answer gives a caller
abbrev pub ReturnedBy : {A : Type 0} → (Answer → A → Type 0) → After → Poll (Result A Error) → Type 0
ReturnedBy gives after polls.Pending = after ≡ Pending
ReturnedBy gives after (polls.Ready (Ok value)) = (answer : Answer) × (after ≡ Answered answer) × gives answer value
ReturnedBy gives after (polls.Ready (Err error)) = after ≡ Failed error

-- a poll of the call, of which a caller gets this
abbrev pub PollIs : {L A : Type 0} → (L → Looks) → (Answer → A → Type 0) → ℕ → CallKind → Option Call → ConnSeen L
    → ConnSeen L → Poll (Result A Error) → Type 0
PollIs look gives now c call old new result = (m : Met) × (after : After) × ReturnedBy gives after result
    × CallIs look now c call old new m after

-- a call that wasn't polled leaves all as it is
abbrev pub StateCancels : {L : Type 0} → Option Call → ConnSeen L → ConnSeen L → Type 0
StateCancels None old new = CancelIs old new
StateCancels (Some call) old new = new ≡ old
