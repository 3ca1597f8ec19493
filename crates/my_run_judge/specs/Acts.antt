-- What a line may do at a connection, by its step, its outcome and how many uses it has.
use Rattle.std.specs.Prelude.{◌+◌, ◌-◌, ◌==◌, ℕ, nat_lt, Option, Some, None, Bool, true, false, if◌then◌else◌}
use Rattle.my_statements.specs.Prepared.{StatementView}
use Rattle.my_reading.specs.declared.call.Call.{Call}
use Rattle.my_script.specs.declared.aim.Aim.{Aim}
use Rattle.my_script.specs.declared.aim.Aim.TheVariants as aims
use Rattle.my_script.specs.declared.step.Step.{Step}
use Rattle.my_script.specs.declared.step.Step.TheVariants as steps
use Rattle.my_script.specs.Actions.{action_of, first_call}
use Rattle.my_script.specs.Streams.{target}
use Rattle.my_script.specs.declared.transcript.Outcome.{Outcome}
use Rattle.my_script.specs.declared.transcript.Outcome.TheVariants.{Done, Pending, SetEnd, NoSet, Row, Rows, Prepared, Flag, Fields, Connected, Failed, NoSuchHandle}
use Rattle.my_run_judge.specs.declared.act.Act.{Act}
use Rattle.my_run_judge.specs.declared.act.Act.TheVariants.{Wrong, Skips, Tells, Holds, Fails, Connects, Polls, Passes, Ends, Cancels}
use Rattle.my_run_judge.specs.declared.act.Ground.{Ground}
use Rattle.my_run_judge.specs.declared.act.Ground.TheVariants.{Closed, Taken, Free}
use Rattle.my_run_judge.specs.declared.act.Status.{Status}
use Rattle.my_run_judge.specs.declared.act.Status.TheVariants.{Ahead, Absent, Dialing, Idle, Open, Gathers}

-- nothing is found to do at the number: the step is refused, and has no uses
abbrev pub refused : Status → Outcome → ℕ → Act
refused status NoSuchHandle uses = if uses == 0 then Skips status else Wrong
refused status outcome uses = Wrong

-- a step that moves the world, and no connection
abbrev pub moves_world : Step → Bool
moves_world (steps.Advance by) = true
moves_world (steps.Random word) = true
moves_world step = false

-- it is done, has no uses, and changes nothing at the number
abbrev pub moved : Status → Outcome → ℕ → Act
moved status Done uses = if uses == 0 then Skips status else Wrong
moved status outcome uses = Wrong

-- the handshake is polled
abbrev pub connecting : ℕ → Outcome → (Status → Act) → Act
connecting n Pending act = act Open
connecting n (Connected m id version) act = if m == n then act Idle else Wrong
connecting n (Failed e) act = act Absent
connecting n outcome act = Wrong

-- the connection is dialed: the dial wasn't ready, it failed, or it gave a link
abbrev pub dialed_once : Outcome → Act
dialed_once Pending = Holds
dialed_once (Failed e) = Fails
dialed_once outcome = Wrong

abbrev pub dialed : ℕ → Outcome → ℕ → Act
dialed n outcome uses = if uses == 1 then dialed_once outcome else (if uses == 2 then connecting n outcome Connects else Wrong)

-- a call that gathers no rows is polled
abbrev pub polled : Outcome → Act
polled Pending = Polls Open
polled Done = Polls Idle
polled SetEnd = Polls Idle
polled NoSet = Polls Idle
polled (Row row) = Polls Idle
polled (Prepared statement) = Polls Idle
polled (Flag flag) = Polls Idle
polled (Failed e) = Polls Idle
polled outcome = Wrong

abbrev pub polled_once : Outcome → ℕ → Act
polled_once outcome uses = if uses == 1 then polled outcome else Wrong

-- rows are gathered, from the call of this index on
abbrev pub gathering : ℕ → Outcome → Act
gathering first Pending = Polls (Gathers first)
gathering first Done = Polls Idle
gathering first (Rows rows) = Polls Idle
gathering first (Failed e) = Polls Idle
gathering first outcome = Wrong

abbrev pub gathered : ℕ → Outcome → ℕ → Act
gathered first outcome uses = if uses == 0 then Wrong else gathering first outcome

-- what the calls that ended made of a connection: it is closed; a stream took the set that is read, or whose end is left;
-- or neither
abbrev pub ground_of : Bool → Bool → Ground
ground_of true taken = Closed
ground_of false true = Taken
ground_of false false = Free

-- a closed connection refuses a call, which ends at once
abbrev pub closed_at_once : Outcome → ℕ → Act
closed_at_once (Failed e) uses = if uses == 0 then Ends Idle else Wrong
closed_at_once outcome uses = Wrong

abbrev pub asked : Ground → Outcome → ℕ → Act
asked Closed outcome uses = closed_at_once outcome uses
asked base outcome uses = polled_once outcome uses

-- a set is taken by a stream
abbrev pub taking : Outcome → Act
taking Pending = Polls Open
taking Done = Polls Idle
taking NoSet = Polls Idle
taking (Failed e) = Polls Idle
taking outcome = Wrong

-- a line whose calls are polled after the one that passes over the rest of a set
abbrev pub after_passing : Aim → Act → Act
after_passing aim (Polls status) = Passes aim status
after_passing aim act = Wrong

-- Once the rest of a set that a stream took is passed over, the next one is taken, or read. The call of this index passed
-- over it.
abbrev pub passed : Aim → ℕ → Outcome → ℕ → Act
passed aims.Take next outcome uses = if uses == 2 then after_passing aims.Take (taking outcome) else Wrong
passed aims.Row next outcome uses = if uses == 2 then after_passing aims.Row (polled outcome) else Wrong
passed aims.Rows next outcome uses =
    if nat_lt 1 uses then after_passing aims.Rows (gathering (next + 1) outcome) else Wrong

-- the call that passes over it is open still, or failed
abbrev pub passing : Outcome → Act
passing Pending = Polls Open
passing (Failed e) = Polls Idle
passing outcome = Wrong

abbrev pub passes : Aim → ℕ → Outcome → ℕ → Act
passes aim next outcome uses = if uses == 1 then passing outcome else passed aim next outcome uses

-- no stream took the set that is read
abbrev pub follows : Aim → ℕ → Outcome → ℕ → Act
follows aims.Take next outcome uses = if uses == 1 then taking outcome else Wrong
follows aims.Row next outcome uses = polled_once outcome uses
follows aims.Rows next outcome uses = gathered next outcome uses

abbrev pub reads : Ground → Aim → ℕ → Outcome → ℕ → Act
reads Closed aim next outcome uses = closed_at_once outcome uses
reads Taken aim next outcome uses = passes aim next outcome uses
reads Free aim next outcome uses = follows aim next outcome uses

-- an item is read of a stream's set; where that isn't the one that is read any more, nothing is left
abbrev pub no_item : Outcome → ℕ → Act
no_item NoSet uses = if uses == 0 then Skips Idle else Wrong
no_item outcome uses = Wrong

abbrev pub itemed : Ground → Outcome → ℕ → Act
itemed Taken outcome uses = polled_once outcome uses
itemed base outcome uses = no_item outcome uses

-- a stream is let go
abbrev pub let_go : Outcome → ℕ → Act
let_go Done uses = if uses == 0 then Skips Idle else Wrong
let_go outcome uses = Wrong

-- the last OK is told
abbrev pub told : Outcome → ℕ → Act
told (Fields ok) uses = if uses == 0 then Tells else Wrong
told outcome uses = Wrong

-- no call is open
abbrev pub at_idle : Ground → ℕ → Step → Outcome → ℕ → Act
at_idle base next steps.Conn outcome uses = Wrong
at_idle base next (steps.Query n text) outcome uses = asked base outcome uses
at_idle base next (steps.Prepare n text) outcome uses = asked base outcome uses
at_idle base next (steps.Execute n number params) outcome uses = asked base outcome uses
at_idle base next (steps.CloseStatement n number) outcome uses = asked base outcome uses
at_idle base next (steps.Next n) outcome uses = reads base aims.Row next outcome uses
at_idle base next (steps.Collect n) outcome uses = reads base aims.Rows next outcome uses
at_idle base next (steps.Stream n) outcome uses = reads base aims.Take next outcome uses
at_idle base next (steps.Item n) outcome uses = itemed base outcome uses
at_idle base next (steps.Unstream n) outcome uses = let_go outcome uses
at_idle base next (steps.Drop n) outcome uses = asked base outcome uses
at_idle base next (steps.Ping n) outcome uses = asked base outcome uses
at_idle base next (steps.Reset n) outcome uses = asked base outcome uses
at_idle base next (steps.User n change) outcome uses = asked base outcome uses
at_idle base next (steps.Begin n opts) outcome uses = asked base outcome uses
at_idle base next (steps.Commit n) outcome uses = asked base outcome uses
at_idle base next (steps.Rollback n) outcome uses = asked base outcome uses
at_idle base next (steps.ForgetTransaction n) outcome uses = polled_once outcome uses
at_idle base next (steps.Quit n) outcome uses = polled_once outcome uses
at_idle base next (steps.Fields n) outcome uses = told outcome uses
at_idle base next (steps.Poll n) outcome uses = refused Idle outcome uses
at_idle base next (steps.Cancel n) outcome uses = refused Idle outcome uses
at_idle base next (steps.Advance by) outcome uses = Wrong
at_idle base next (steps.Random word) outcome uses = Wrong

-- an open call goes on: the handshake, which is the first call, or another one
abbrev pub goes_on : Aim → ℕ → ℕ → Outcome → ℕ → Act
goes_on aim n next outcome uses =
    if next == 0 then (if uses == 1 then connecting n outcome Polls else Wrong)
    else (if uses == 1 then polled outcome else passed aim next outcome uses)

-- an open call is cancelled; after the handshake's the connection isn't there any more
abbrev pub after_cancel : ℕ → Status
after_cancel next = if next == 0 then Absent else Idle

abbrev pub cancelled : ℕ → Outcome → ℕ → Act
cancelled next Done uses = if uses == 0 then Cancels (after_cancel next) else Wrong
cancelled next outcome uses = Wrong

abbrev pub at_open : Aim → ℕ → ℕ → Step → Outcome → ℕ → Act
at_open aim n next (steps.Poll m) outcome uses = goes_on aim n next outcome uses
at_open aim n next (steps.Cancel m) outcome uses = cancelled next outcome uses
at_open aim n next step outcome uses = refused Open outcome uses

abbrev pub at_gathering : ℕ → ℕ → Step → Outcome → ℕ → Act
at_gathering first next (steps.Poll m) outcome uses = gathered first outcome uses
at_gathering first next (steps.Cancel m) outcome uses = cancelled next outcome uses
at_gathering first next step outcome uses = refused (Gathers first) outcome uses

-- a dial that wasn't ready is dropped
abbrev pub dropped : Outcome → ℕ → Act
dropped Done uses = if uses == 0 then Skips Absent else Wrong
dropped outcome uses = Wrong

abbrev pub at_dialing : ℕ → Step → Outcome → ℕ → Act
at_dialing n (steps.Poll m) outcome uses = dialed n outcome uses
at_dialing n (steps.Cancel m) outcome uses = dropped outcome uses
at_dialing n step outcome uses = refused Dialing outcome uses

-- a step at this connection, which was dialed
abbrev pub act_here : Aim → Status → ℕ → ℕ → Ground → Step → Outcome → ℕ → Act
act_here aim (Ahead k) n next base step outcome uses = Wrong
act_here aim Absent n next base step outcome uses = refused Absent outcome uses
act_here aim Dialing n next base step outcome uses = at_dialing n step outcome uses
act_here aim Idle n next base step outcome uses = at_idle base next step outcome uses
act_here aim Open n next base step outcome uses = at_open aim n next step outcome uses
act_here aim (Gathers first) n next base step outcome uses = at_gathering first next step outcome uses

-- other connections' steps do nothing here
abbrev pub act_there : Aim → Status → ℕ → ℕ → Ground → Step → Outcome → ℕ → Option ℕ → Act
act_there aim status n next base step outcome uses None = Skips status
act_there aim status n next base step outcome uses (Some m) =
    if m == n then act_here aim status n next base step outcome uses else Skips status

-- Before this connection is dialed: k others are dialed first, so a step that names a number from n - k on is refused.
abbrev pub act_ahead : ℕ → ℕ → Outcome → ℕ → Option ℕ → Act
act_ahead k n outcome uses None = if k == 0 then dialed n outcome uses else Skips (Ahead (k - 1))
act_ahead k n outcome uses (Some m) = if nat_lt m (n - k) then Skips (Ahead k) else refused (Ahead k) outcome uses

abbrev pub act_of : Aim → Status → ℕ → ℕ → Ground → Step → Outcome → ℕ → Act
act_of aim (Ahead k) n next base step outcome uses = act_ahead k n outcome uses (target step)
act_of aim status n next base step outcome uses = act_there aim status n next base step outcome uses (target step)

-- a step of a stream, or of a transaction, that isn't there: it names this number
abbrev pub is_missing : ℕ → Bool → Step → Bool
is_missing n true step = false
is_missing n false (steps.Item m) = m == n
is_missing n false (steps.Unstream m) = m == n
is_missing n false (steps.Commit m) = m == n
is_missing n false (steps.Rollback m) = m == n
is_missing n false (steps.ForgetTransaction m) = m == n
is_missing n false step = false

-- a step of a statement that isn't there: it names this number
abbrev pub is_unprepared : ℕ → Bool → Step → Bool
is_unprepared n true step = false
is_unprepared n false (steps.Execute m number params) = m == n
is_unprepared n false (steps.CloseStatement m number) = m == n
is_unprepared n false step = false

-- what a line may do at connection n, where what its step needs beside the connection's calls is there or isn't, and so is
-- the statement that it names; the call that is open has this aim
abbrev pub act_with : Bool → Bool → Aim → Status → ℕ → ℕ → Ground → Step → Outcome → ℕ → Act
act_with found prepared aim status n next base step outcome uses =
    if moves_world step then moved status outcome uses
    else if is_missing n found step then refused status outcome uses
    else if is_unprepared n prepared step then refused status outcome uses
    else act_of aim status n next base step outcome uses

-- the call that a step begins, where a stream took the set that is read, or whose end is left, or none did, and with the
-- statement that the step names
abbrev pub begun_by : Bool → Option StatementView → Step → Option Call
begun_by taken named step = first_call taken (action_of true aims.Row named step)
