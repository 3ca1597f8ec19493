-- Runs that no user would call right, each refuted; and beside them runs that are accepted.
use Rattle.std.specs.Prelude.{ℕ, ◌≡◌, ◌≢◌, ◌<◌, ◌≤◌, List, [], ◌∷◌, ◌++◌, length, map, Option, Some, None, true}
use Rattle.my_grammar.specs.declared.login.Login.{Login}
use Rattle.my_frame.specs.Sources.{SourceSeen}
use Rattle.my_frame.specs.Sinks.{SinkSeen}
use Rattle.my_link.specs.declared.link.ReadItem.{ReadItem}
use Rattle.my_link.specs.declared.link.ReadItem.TheVariants.{Bytes, Turn}
use Rattle.my_link.specs.declared.met.Met.{Met}
use Rattle.my_link.specs.Looks.{Looks}
use Rattle.my_link.specs.Met.{nothing_met}
use Rattle.my_link.specs.Spent.{HasGot}
use Rattle.my_handshake.specs.declared.version.ServerVersion.{ServerVersion}
use Rattle.my_reading.specs.declared.call.Call.TheVariants.{Ping, Quit}
use Rattle.my_reading.specs.declared.error.IoKind.TheVariants.{Dial, Link}
use Rattle.my_reading.specs.Errors.{io_error, unexpected_eof}
use Rattle.my_client.specs.Made.{has_closed}
use Rattle.my_params.specs.declared.params.Params.{Params}
use Rattle.my_script.specs.declared.step.Step.{Step}
use Rattle.my_script.specs.declared.step.Step.TheVariants as steps
use Rattle.my_script.specs.declared.transcript.Outcome.TheVariants.{Connected, Failed, NoSuchHandle, Pending}
use Rattle.my_script.specs.declared.transcript.Outcome.TheVariants as outcomes
use Rattle.my_script.specs.declared.transcript.StepAnswer.{StepAnswer}
use Rattle.my_script.specs.declared.transcript.Tape.{Tape}
use Rattle.my_script.specs.declared.transcript.TapeCall.{TapeCall}
use Rattle.my_client.specs.declared.poll.After.{After}
use Rattle.my_client.specs.declared.poll.After.TheVariants as after
use Rattle.my_client.specs.Kept.{Asked, Kept, made_of, asking, asked_by}
use Rattle.my_client.specs.Polls.{IsPolled}
use Rattle.my_client.specs.Reads.{IsRead}
use Rattle.my_link.specs.declared.dialer.DialItem.{DialItem}
use Rattle.my_link.specs.declared.dialer.DialItem.TheVariants.{Wait, Fail}
use Rattle.my_link.specs.World.{Back, Plans, WorldSeen, DialCounts, Chance, no_dials, drawn}
use Rattle.my_steps.specs.Dialing.{Course}
use Rattle.my_steps.specs.Grows.{AreGrown, Line, statements_of}
use Rattle.my_run.specs.declared.tool.Report.{Report}
use Rattle.my_run.specs.declared.tool.Status.{Status}
use Rattle.my_run.specs.declared.tool.Status.TheVariants.{Done, Unread, SourceFailed, SinkFailed}
use Rattle.my_script.specs.declared.reading.script.BadLine.{BadLine}
use Rattle.my_run.specs.Headline.{Headline}
use Rattle.my_run.specs.Stopped.{Stopped, one_link}
use Rattle.my_steps.specs.Sums.{use_of, quiet, failed_use}
use Rattle.my_run.specs.Tool.{IsReport}

-- `conn` prints `error Io Dial`
pub record IsFailedDial (a : StepAnswer) : Type 0 where
  pub number : a.number ≡ 1
  pub outcome : a.outcome ≡ Failed (io_error Dial 0)
  pub uses : a.uses.items ≡ failed_use 0 ∷ []

-- over a world that planned no wait and no fault of the dial
abbrev pub NoPlannedDialFault : Type 0
NoPlannedDialFault = (login : Login) (plans : Plans) (before later : Course) (a : StepAnswer) → plans.dials 0 ≡ Some []
    → IsFailedDial a → Headline login plans before later (steps.Conn ∷ []) (a ∷ []) [] → ⊥

-- over a world that planned that the dial waits first
abbrev pub NoWaitAsFault : Type 0
NoWaitAsFault = (login : Login) (plans : Plans) (before later : Course) (more : List DialItem) (a : StepAnswer)
    → plans.dials 0 ≡ Some (Wait ∷ more) → IsFailedDial a
    → Headline login plans before later (steps.Conn ∷ []) (a ∷ []) [] → ⊥

-- the counts of one dial that wasn't ready, and of one that failed
abbrev pub one_hold : DialCounts
one_hold = record { faults = 0; holds = 1 }

abbrev pub one_fault : DialCounts
one_fault = record { faults = 1; holds = 0 }

-- over a world whose dialer counted a dial that wasn't ready, and none that failed
abbrev pub NoHeldDialFault : Type 0
NoHeldDialFault = (login : Login) (plans : Plans) (before later : Course) (a : StepAnswer) → before.dials ≡ no_dials
    → later.dials ≡ one_hold → IsFailedDial a → Headline login plans before later (steps.Conn ∷ []) (a ∷ []) [] → ⊥

-- over a world whose dialer counted more dials that failed than the one that is shown
abbrev pub NoHiddenDials : Type 0
NoHiddenDials = (login : Login) (plans : Plans) (before later : Course) (a : StepAnswer) → before.dials ≡ no_dials
    → 1 < later.dials.faults → IsFailedDial a → Headline login plans before later (steps.Conn ∷ []) (a ∷ []) [] → ⊥

-- each link that was handed back is that of a tape
abbrev pub LinksHaveTapes : Type 0
LinksHaveTapes = (login : Login) (plans : Plans) (before later : Course) (steps : List Step) (answers : List StepAnswer)
    (tapes : List Tape) (links : List Back) → before.back ≡ Some [] → later.back ≡ Some links
    → Headline login plans before later steps answers tapes
    → map (λ (b : Back). b.number) links ≡ map (λ (t : Tape). t.number) tapes

-- a link was dialed that no step names: a run in which the one dial of `conn` failed handed a link back
abbrev pub NoSecretDial : Type 0
NoSecretDial = (login : Login) (plans : Plans) (before later : Course) (a : StepAnswer) (link : Back) (links : List Back)
    → before.back ≡ Some [] → later.back ≡ Some (link ∷ links)
    → Headline login plans before later (steps.Conn ∷ []) (a ∷ []) [] → ⊥

-- a link was sent more than its tape has, after the last step
abbrev pub NoBytesAfter : Type 0
NoBytesAfter = (login : Login) (plans : Plans) (before later : Course) (a : StepAnswer) (t : Tape) (x : Looks) (bytes : List ℕ)
    → 0 < length bytes → before.back ≡ Some [] → later.back ≡ Some (record { number = 0; looks = x } ∷ [])
    → x.got ≡ Some (t.sent.items ++ bytes)
    → Headline login plans before later (steps.Conn ∷ []) (a ∷ []) (t ∷ []) → ⊥

-- a line didn't read, and steps were run
abbrev pub NoStepsUnread : Type 0
NoStepsUnread = (words : List (List ℕ)) (world later : WorldSeen) (s r : SourceSeen) (w v : SinkSeen) (report : Report)
    (line : BadLine) → report.status ≡ Unread line → (later ≡ world → ⊥) → IsReport words world later s r w v report → ⊥

-- it is right over a world that told no items for dials, or planned the fault, and counted it
abbrev pub MayFail : Option (List DialItem) → Type 0
MayFail None = Unit {0}
MayFail (Some items) = items ≡ Fail ∷ []

abbrev pub DialFault : Type 0
DialFault = (login : Login) (plans : Plans) (chance : Chance) (a : StepAnswer) → MayFail (plans.dials 0) → IsFailedDial a
    → Headline login plans (record { dials = no_dials; chance = chance; back = Some [] })
    (record { dials = one_fault; chance = drawn chance; back = Some [] }) (steps.Conn ∷ []) (a ∷ []) []

-- `advance 5`, and the moment of the world stays the same
abbrev pub NoStillMoment : Type 0
NoStillMoment = (login : Login) (plans : Plans) (before later : Course) (a : StepAnswer) → before.chance.moment ≡ Some 0
    → later.chance.moment ≡ Some 0 → Headline login plans before later (steps.Advance 5 ∷ []) (a ∷ []) [] → ⊥

-- the plan has a greeting and then the end, and `conn` prints an end that came too early though no byte was taken
abbrev pub NoEarlyEnd : Type 0
NoEarlyEnd = (login : Login) (plans : Plans) (before later : Course) (greeting : List ℕ) (more : List ReadItem)
    (a : StepAnswer) (t : Tape) → 0 < length greeting → plans.reads 0 ≡ Some (Bytes greeting ∷ more)
    → a.outcome ≡ Failed (unexpected_eof 0)
    → a.uses.items ≡ quiet 0 ∷ use_of 0 (record nothing_met { ends = 1 }) ∷ []
    → Headline login plans before later (steps.Conn ∷ []) (a ∷ []) (t ∷ []) → ⊥

-- A turn is first of what is left, then more bytes, and no write is planned not to be ready: a poll that sends a byte meets the
-- turn, and then can't stay pending on a read that isn't ready.
abbrev pub NoHoldAfterTurn : Type 0
NoHoldAfterTurn = (login : Login) (a : Asked) (k end : Kept) (x y : Looks) (bytes sent : List ℕ) (more : List ReadItem)
    → x.items ≡ Some (Turn ∷ Bytes bytes ∷ more) → x.writes ≡ Some [] → 0 < length sent → end.sent ≡ k.sent ++ sent
    → IsPolled login a k x (record nothing_met { holds = 1 }) after.Pending end y → ⊥

-- The plan has a greeting, a turn, the rest of the login, a turn and the reply to a ping. `conn` connects; then `ping` sends a
-- byte, takes none, and prints `pending` because the link wasn't ready, though the turn was met and the reply can be read.
abbrev pub NoHoldInTurn : Type 0
NoHoldInTurn = (login : Login) (plans : Plans) (before later : Course) (greeting ok pong : List ℕ) (a b : StepAnswer)
    (t : Tape) (c : TapeCall) (n id : ℕ) (version : ServerVersion) → 0 < length ok → 0 < length pong
    → plans.reads 0 ≡ Some (Bytes greeting ∷ Turn ∷ Bytes ok ∷ Turn ∷ Bytes pong ∷ []) → plans.writes 0 ≡ Some []
    → a.outcome ≡ Connected 0 id version
    → b.outcome ≡ Pending → b.uses.items ≡ use_of 0 (record nothing_met { holds = 1 }) ∷ []
    → t.taken.items ≡ greeting ++ ok
    → t.calls.items ≡ c ∷ record { call = Ping; sent_from = n; answer = None } ∷ [] → n < length t.sent.items
    → Headline login plans before later (steps.Conn ∷ steps.Ping 0 ∷ []) (a ∷ b ∷ []) (t ∷ []) → ⊥

-- the tape says that a byte was sent, and the link was sent a zero in its place
abbrev pub NoZeroSent : Type 0
NoZeroSent = (login : Login) (a : Asked) (k end : Kept) (x y : Looks) (u : Met) (p : After) (got : List ℕ)
    → x.got ≡ Some got → y.got ≡ Some (got ++ 0 ∷ []) → end.sent ≡ k.sent ++ 1 ∷ []
    → IsPolled login a k x u p end y → ⊥

-- the tape says that a byte was taken, and the link's plan has another in its place
abbrev pub NoOtherTaken : Type 0
NoOtherTaken = (login : Login) (plans : Plans) (before later : Course) (more : List ReadItem) (a : StepAnswer) (t : Tape)
    → plans.reads 0 ≡ Some (Bytes (2 ∷ []) ∷ more) → t.number ≡ 0 → t.taken.items ≡ 1 ∷ []
    → Headline login plans before later (steps.Conn ∷ []) (a ∷ []) (t ∷ []) → ⊥

-- a quit on a closed session owes and awaits nothing, so no fault of the link is its answer
abbrev pub NoFaultAtRest : Type 0
NoFaultAtRest = (login : Login) (k end : Kept) (x y : Looks) (u : Met) (place : ℕ) → has_closed (made_of k.calls) ≡ true
    → IsPolled login (asked_by k Quit) (asking k Quit None) x u (after.Failed (io_error Link place)) end y → ⊥

-- a report that all steps were run, that a line doesn't read, or that the sink failed
abbrev pub HasRead : Status → Type 0
HasRead Done = Unit {0}
HasRead (Unread line) = Unit {0}
HasRead SinkFailed = Unit {0}
HasRead _ = ⊥

-- of a source that never returned its end: its input broke off
abbrev pub NoBrokenInput : Type 0
NoBrokenInput = (words : List (List ℕ)) (world later : WorldSeen) (s r : SourceSeen) (w v : SinkSeen) (report : Report)
    → s.ends ≡ 0 → r.ends ≡ 0 → HasRead report.status → IsReport words world later s r w v report → ⊥

-- the source is said to have failed, and no read of it did
abbrev pub NoSourceFault : Type 0
NoSourceFault = (words : List (List ℕ)) (world later : WorldSeen) (s r : SourceSeen) (w v : SinkSeen) (report : Report)
    → s.faults ≡ 0 → r.faults ≡ 0 → report.status ≡ SourceFailed → IsReport words world later s r w v report → ⊥

-- a statement is executed in the line after the one that closed it, and isn't refused
abbrev pub NoClosedExecution : Type 0
NoClosedExecution = (login : Login) (plans : Plans) (ls : List Line) (l m : Line) (n k number : ℕ) (params : Params)
    → m.step ≡ steps.CloseStatement k number → m.outcome ≡ outcomes.Done → l.step ≡ steps.Execute n number params
    → (l.outcome ≡ NoSuchHandle → ⊥) → AreGrown login plans (l ∷ m ∷ ls) → ⊥

-- a number is executed that isn't among those which the statements so far took
abbrev pub NoUngivenExecution : Type 0
NoUngivenExecution = (login : Login) (plans : Plans) (ls : List Line) (l : Line) (n number : ℕ) (params : Params)
    → length (statements_of ls) ≤ number → l.step ≡ steps.Execute n number params → (l.outcome ≡ NoSuchHandle → ⊥)
    → AreGrown login plans (l ∷ ls) → ⊥

-- a transaction is rolled back in the line after the one that gave it up, and that isn't refused
abbrev pub NoForgottenRollback : Type 0
NoForgottenRollback = (login : Login) (plans : Plans) (ls : List Line) (l m : Line) (n : ℕ) → m.step ≡ steps.ForgetTransaction n
    → m.outcome ≡ outcomes.Done → l.step ≡ steps.Rollback n → (l.outcome ≡ NoSuchHandle → ⊥)
    → AreGrown login plans (l ∷ m ∷ ls) → ⊥

-- of each of these links
abbrev pub EachLink : (Back → Type 0) → List Back → Type 0
EachLink P [] = Unit {0}
EachLink P (b ∷ bs) = P b × EachLink P bs

-- the link was sent what a connection sent whose calls and bytes the reading explains
pub record SentAsRead (login : Login) (b : Back) : Type 0 where
  pub kept : Kept
  pub read : IsRead login kept
  pub got : HasGot b.looks.got kept.sent

-- so it is where memory ran out, for each link but that of one number
abbrev pub SentAtStop : Type 0
SentAtStop = (login : Login) (plans : Plans) (before later : Course) (steps : List Step) (links : List Back)
    → before.back ≡ Some [] → later.back ≡ Some links → Stopped later login plans before steps
    → (number : Option ℕ) × EachLink (λ b. number ≢ Some b.number → SentAsRead login b) links

-- memory ran out in a run of one `conn`, and a link was handed back that no step named
abbrev pub NoSecretAtStop : Type 0
NoSecretAtStop = (login : Login) (plans : Plans) (before later : Course) (front more : List Back) (link : Back)
    → before.back ≡ Some [] → later.back ≡ Some (front ++ link ∷ more) → (link.number ≡ 0 → ⊥)
    → Stopped later login plans before (steps.Conn ∷ []) → ⊥

-- The first of two dials failed, and memory ran out in the second, whose link may have been sent bytes: that is right over a
-- world that told no items for dials, or planned the fault.
abbrev pub StoppedInSecond : Type 0
StoppedInSecond = (login : Login) (plans : Plans) (first last : Chance) (x : Looks) → MayFail (plans.dials 0)
    → Stopped (record { dials = one_fault; chance = last; back = Some (one_link 1 x) })
    login plans (record { dials = no_dials; chance = first; back = Some [] }) (steps.Conn ∷ steps.Conn ∷ [])
