-- What the taking of a set by a stream does: the rest of a set that an earlier stream took is passed over first.
use Rattle.std.specs.Prelude.{ℕ, ◌≡◌, Bool, true, false, Option, Some, None}
use Rattle.std.specs.declared.result.Result.{Result}
use Rattle.std.specs.declared.result.Result.TheVariants.{Err}
use Rattle.my_link.specs.Looks.{Looks}
use Rattle.my_link.specs.declared.met.Met.{Met}
use Rattle.my_link.specs.declared.poll.Poll.{Poll}
use Rattle.my_link.specs.declared.poll.Poll.TheVariants as polls
use Rattle.my_reading.specs.declared.answer.Answer.{Answer}
use Rattle.my_reading.specs.declared.call.Call.{Call}
use Rattle.my_reading.specs.declared.call.Call.TheVariants as calls
use Rattle.my_reading.specs.declared.call.CallKind.{CallKind}
use Rattle.my_reading.specs.declared.call.CallKind.TheVariants as kinds
use Rattle.my_reading.specs.declared.error.Error.{Error}
use Rattle.my_session.specs.Sessions.{is_taken}
use Rattle.my_client.specs.declared.poll.After.{After}
use Rattle.my_client.specs.declared.poll.After.TheVariants.{Pending, Answered, Failed}
use Rattle.my_conn.specs.Answers.{taken_of}
use Rattle.my_conn.specs.Calls.{CallIs}
use Rattle.my_conn.specs.Cancels.{CancelIs}
use Rattle.my_conn.specs.Conn.{ConnSeen}
use Rattle.my_calls.specs.States.{PollIs}
use Rattle.my_calls.specs.declared.stream.Stage.{Stage}
use Rattle.my_calls.specs.declared.stream.Stage.TheVariants.{First, Skips, Takes}

-- the call that is open at a stage
abbrev pub open_at : Stage → Option CallKind
open_at First = None
open_at Skips = Some kinds.SkipTaken
open_at Takes = Some kinds.TakeSet

-- whether a set was there
abbrev pub GivesTaken : Answer → Bool → Type 0
GivesTaken answer taken = taken ≡ taken_of answer

-- the call that takes the set is polled
abbrev pub TakesFrom : {L : Type 0} → (L → Looks) → ℕ → Option Call → ConnSeen L → ConnSeen L → Poll (Result Bool Error) → Type 0
TakesFrom look now call old new result = PollIs look GivesTaken now kinds.TakeSet call old new result

-- once the rest of the earlier set is passed over, a set is taken
abbrev pub SkipEnds : {L : Type 0} → (L → Looks) → ℕ → After → ConnSeen L → ConnSeen L → Poll (Result Bool Error) → Type 0
SkipEnds look now Pending mid new result = (result ≡ polls.Pending) × (new ≡ mid)
SkipEnds look now (Failed e) mid new result = (result ≡ polls.Ready (Err e)) × (new ≡ mid)
SkipEnds look now (Answered answer) mid new result = TakesFrom look now (Some calls.TakeSet) mid new result

-- the call that passes over the rest of the earlier set is polled
abbrev pub SkipsFrom : {L : Type 0} → (L → Looks) → ℕ → Option Call → ConnSeen L → ConnSeen L → Poll (Result Bool Error) → Type 0
SkipsFrom {L} look now call old new result = (m : Met) × (after : After) × (mid : ConnSeen L)
    × CallIs look now kinds.SkipTaken call old mid m after × SkipEnds look now after mid new result

-- the first poll, where an earlier stream took the set that is read, and where none did
abbrev pub BeginsFrom : {L : Type 0} → Bool → (L → Looks) → ℕ → ConnSeen L → ConnSeen L → Poll (Result Bool Error) → Type 0
BeginsFrom true look now old new result = SkipsFrom look now (Some calls.SkipTaken) old new result
BeginsFrom false look now old new result = TakesFrom look now (Some calls.TakeSet) old new result

-- A poll at this stage, at this moment.
abbrev pub StreamIs : {L : Type 0} → (L → Looks) → ℕ → Stage → ConnSeen L → ConnSeen L → Poll (Result Bool Error) → Type 0
StreamIs look now First old new result = BeginsFrom (is_taken old.seen) look now old new result
StreamIs look now Skips old new result = SkipsFrom look now None old new result
StreamIs look now Takes old new result = TakesFrom look now None old new result

-- the open call is cancelled; before the first poll nothing is
abbrev pub StreamCancels : {L : Type 0} → Stage → ConnSeen L → ConnSeen L → Type 0
StreamCancels First old new = new ≡ old
StreamCancels Skips old new = CancelIs old new
StreamCancels Takes old new = CancelIs old new
