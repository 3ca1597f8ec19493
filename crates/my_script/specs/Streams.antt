-- What the lines of a run make of a stream at a connection: it follows from the steps and their answers alone.
use Rattle.std.specs.Prelude.{ℕ, Option, Some, None, Bool, true, false}
use Rattle.my_reading.specs.declared.call.CallKind.{CallKind}
use Rattle.my_reading.specs.declared.call.CallKind.TheVariants.{SkipTaken}
use Rattle.my_script.specs.declared.step.Step.{Step}
use Rattle.my_script.specs.declared.step.Step.TheVariants as steps
use Rattle.my_script.specs.declared.stream.Stream.{Stream}
use Rattle.my_script.specs.declared.stream.Stream.TheVariants.{Without, Taking, There, Reading}
use Rattle.my_script.specs.declared.transcript.Outcome.{Outcome}
use Rattle.my_script.specs.declared.transcript.Outcome.TheVariants.{Done, Pending}

-- the number of the connection that a step names; `conn` names none, nor do the steps of the world
abbrev pub target : Step → Option ℕ
target steps.Conn = None
target (steps.Query n text) = Some n
target (steps.Prepare n text) = Some n
target (steps.Execute n number params) = Some n
target (steps.CloseStatement n number) = Some n
target (steps.Next n) = Some n
target (steps.Collect n) = Some n
target (steps.Stream n) = Some n
target (steps.Item n) = Some n
target (steps.Unstream n) = Some n
target (steps.Drop n) = Some n
target (steps.Ping n) = Some n
target (steps.Reset n) = Some n
target (steps.User n change) = Some n
target (steps.Begin n opts) = Some n
target (steps.Commit n) = Some n
target (steps.Rollback n) = Some n
target (steps.ForgetTransaction n) = Some n
target (steps.Quit n) = Some n
target (steps.Fields n) = Some n
target (steps.Poll n) = Some n
target (steps.Cancel n) = Some n
target (steps.Advance by) = None
target (steps.Random word) = None

-- a set is taken: from then on a stream is there
abbrev pub after_taking : Outcome → Stream
after_taking Done = There
after_taking Pending = Taking
after_taking outcome = Without

-- a row of it is awaited, or none is any more
abbrev pub after_item : Outcome → Stream
after_item Pending = Reading
after_item outcome = There

-- the open call goes on: another one leaves the stream
abbrev pub after_poll : Stream → Outcome → Stream
after_poll Taking outcome = after_taking outcome
after_poll Reading outcome = after_item outcome
after_poll stream outcome = stream

-- the open call is cancelled: where a set was being taken no stream is there
abbrev pub after_cancel : Stream → Stream
after_cancel Without = Without
after_cancel Taking = Without
after_cancel There = There
after_cancel Reading = There

-- After a step at its number that isn't refused: a stream stays until it is let go or the next one takes a set.
abbrev pub stream_after : Stream → Step → Outcome → Stream
stream_after stream (steps.Stream n) outcome = after_taking outcome
stream_after stream (steps.Item n) outcome = after_item outcome
stream_after stream (steps.Unstream n) outcome = Without
stream_after stream (steps.Poll n) outcome = after_poll stream outcome
stream_after stream (steps.Cancel n) outcome = after_cancel stream
stream_after stream step outcome = stream

-- an item is read, or the stream let go, only where one is there and reads nothing
abbrev pub is_there : Stream → Bool
is_there There = true
is_there stream = false

-- the call that passes over the rest of a set that a stream took
abbrev pub is_skip : CallKind → Bool
is_skip SkipTaken = true
is_skip kind = false
