-- How a transcript grows by a step.
use Rattle.std.specs.Prelude.{ℕ, ◌≡◌, ◌+◌, List, [], ◌∷◌, ◌++◌, length, Option, Some, None, Bool, true, false, not, ◌&&◌, unwrap_or}
use Rattle.my_handshake.specs.Version.{version_of}
use Rattle.my_value.specs.RowParts.{RowParts}
use Rattle.my_statements.specs.Prepared.{StatementView}
use Rattle.my_grammar.specs.declared.login.Login.{Login}
use Rattle.my_reading.specs.declared.answer.Answer.{Answer}
use Rattle.my_reading.specs.declared.answer.Answer.TheVariants as answers
use Rattle.my_reading.specs.declared.call.Call.{Call}
use Rattle.my_reading.specs.declared.call.Call.TheVariants.{NextRow, TakeSet, SkipTaken}
use Rattle.my_reading.specs.Calls.{kind_of, is_connect}
use Rattle.my_reading.specs.Endings.{closes_cancelled}
use Rattle.my_reading.specs.Errors.{connection_closed, io_error}
use Rattle.my_reading.specs.Place.{is_taken}
use Rattle.my_client.specs.Made.{has_closed}
use Rattle.my_session.specs.Sessions.{is_refused}
use Rattle.my_reading.specs.declared.error.IoKind.TheVariants.{Dial}
use Rattle.my_client.specs.declared.poll.After.{After}
use Rattle.my_client.specs.declared.poll.After.TheVariants as after
use Rattle.my_script.specs.declared.action.Action.{Action}
use Rattle.my_script.specs.declared.action.Action.TheVariants as actions
use Rattle.my_script.specs.declared.action.Work.{Work}
use Rattle.my_script.specs.declared.action.Work.TheVariants as works
use Rattle.my_script.specs.declared.aim.Aim.{Aim}
use Rattle.my_script.specs.declared.aim.Aim.TheVariants as aims
use Rattle.my_script.specs.declared.step.Step.{Step}
use Rattle.my_script.specs.declared.beside.Beside.{Beside}
use Rattle.my_script.specs.Beside.{beside_by, finds, nothing_beside}
use Rattle.my_script.specs.Actions.{action_of}
use Rattle.my_script.specs.Streams.{is_skip, target}
use Rattle.my_script.specs.Numbered.{named_statement, statement_named, statements_by}
use Rattle.my_client.specs.declared.tape.Said.TheVariants as says
use Rattle.my_script.specs.declared.transcript.Outcome.{Outcome}
use Rattle.my_script.specs.declared.transcript.Outcome.TheVariants.{Done, Pending, SetEnd, NoSet, Row, Rows, Prepared, Flag, Fields, Connected, Failed, NoSuchHandle}
use Rattle.my_script.specs.declared.transcript.Use.{Use}
use Rattle.my_client.specs.Polls.{IsPolled}
use Rattle.my_steps.specs.Handle.{Handle, Absent, Dialing, Joined, at_number, put_at}
use Rattle.my_client.specs.Reads.{facts_kept, place_kept}
use Rattle.my_client.specs.Kept.{Asked, Kept, made_of, asking, ended_by, asked_by, first_asked, first_kept}
use Rattle.my_steps.specs.Sums.{quiet, held_use, failed_use}
use Rattle.my_link.specs.declared.link.ReadItem.{ReadItem}
use Rattle.my_link.specs.declared.link.WriteItem.{WriteItem}
use Rattle.my_link.specs.Looks.{Looks}
use Rattle.my_link.specs.Outside.{no_counts}
use Rattle.my_link.specs.declared.dialer.DialItem.{DialItem}
use Rattle.my_link.specs.World.{Plans, HeldBy, FailedBy, GivenBy, IsFresh}

-- the step names a number at which it finds nothing to do: it is refused, and changes nothing
pub record IsRefused (h : Handle) (o : Outcome) (us : List Use) (t : Handle) : Type 0 where
  pub outcome : o ≡ NoSuchHandle
  pub uses : us ≡ []
  pub same : t ≡ h

-- a step that needs a connection which steps may name: elsewhere it is refused
abbrev pub OnConnection : (Kept → Looks → Outcome → List Use → Handle → Type 0) → Handle → Outcome → List Use
    → Handle → Type 0
OnConnection R Absent o us t = IsRefused Absent o us t
OnConnection R (Dialing left) o us t = IsRefused (Dialing left) o us t
OnConnection R (Joined false k x) o us t = IsRefused (Joined false k x) o us t
OnConnection R (Joined true k x) o us t = R k x o us t

-- what a step of one call shows of its poll
abbrev pub answer_shown : Answer → Outcome
answer_shown answers.Ready = Done
answer_shown (answers.Row row) = Row row
answer_shown answers.SetEnd = SetEnd
answer_shown answers.NoSet = NoSet
answer_shown (answers.Stmt s) = Prepared s
answer_shown (answers.Flag flag) = Flag flag

abbrev pub shown : After → Outcome
shown after.Pending = Pending
shown (after.Answered answer) = answer_shown answer
shown (after.Failed e) = Failed e

-- the open call was polled once, and the step shows what it came to
pub record PolledOnce (login : Login) (n : ℕ) (a : Asked) (k : Kept) (x : Looks) (o : Outcome) (us : List Use)
    (t : Handle) : Type 0 where
  pub used : Use
  pub uses : us ≡ used ∷ []
  pub number : used.number ≡ n
  pub after : After
  pub end : Kept
  pub link : Looks
  pub polled : IsPolled login a k x used.met after end link
  pub outcome : o ≡ shown after
  pub left : t ≡ Joined true end link

-- a closed session refuses the call at once, and it is on the tape with that answer
pub record IsClosed (k : Kept) (x : Looks) (call : Call) (o : Outcome) (us : List Use) (t : Handle) : Type 0 where
  pub outcome : o ≡ Failed connection_closed
  pub uses : us ≡ []
  pub left : t ≡ Joined true (ended_by (asking k call None) (asked_by k call) (says.Failed connection_closed)) x

abbrev pub Begins : Bool → Login → ℕ → Call → Kept → Looks → Outcome → List Use → Handle → Type 0
Begins true login n call k x o us t = IsClosed k x call o us t
Begins false login n call k x o us t = PolledOnce login n (asked_by k call) (asking k call None) x o us t

abbrev pub BeginsOn : Option Asked → Login → ℕ → Call → Kept → Looks → Outcome → List Use → Handle → Type 0
BeginsOn None login n call k x o us t =
    Begins (is_refused (has_closed (made_of k.calls)) (kind_of call)) login n call k x o us t
BeginsOn (Some a) login n call k x o us t = IsRefused (Joined true k x) o us t

-- a step that begins a call on connection n: refused where no connection is there or another call is open
abbrev pub Calls : Login → ℕ → Call → Handle → Outcome → List Use → Handle → Type 0
Calls login n call h o us t = OnConnection (λ k. BeginsOn k.pending login n call k) h o us t

-- the answer has the connection's number, and what the server said of itself
abbrev pub IsGreeted : Login → ℕ → Kept → Outcome → Type 0
IsGreeted login n k o = o ≡ Connected n (facts_kept login k).connection (version_of (facts_kept login k).version)

-- a connection that couldn't connect isn't there any more
abbrev pub ConnectShows : Login → ℕ → After → Kept → Looks → Outcome → Handle → Type 0
ConnectShows login n after.Pending end y o t = (o ≡ Pending) × (t ≡ Joined true end y)
ConnectShows login n (after.Answered answer) end y o t = IsGreeted login n end o × (t ≡ Joined true end y)
ConnectShows login n (after.Failed e) end y o t = (o ≡ Failed e) × (t ≡ Joined false end y)

-- the handshake was polled once
pub record Connects (login : Login) (n : ℕ) (a : Asked) (k : Kept) (x : Looks) (o : Outcome) (used : Use)
    (t : Handle) : Type 0 where
  pub number : used.number ≡ n
  pub after : After
  pub end : Kept
  pub link : Looks
  pub polled : IsPolled login a k x used.met after end link
  pub shows : ConnectShows login n after end link o t

-- where the plan of a link is told, a dial gives it with that plan
abbrev pub HasPlan : Option (List ReadItem) → Option (List WriteItem) → Looks → Type 0
HasPlan None rules x = Unit {0}
HasPlan (Some plan) rules x = (x.items ≡ Some plan) × (x.writes ≡ rules)

-- a link as a dial gives it
pub record IsNew (plan : Option (List ReadItem)) (rules : Option (List WriteItem)) (x : Looks) : Type 0 where
  pub planned : HasPlan plan rules x
  pub got : IsFresh x.got
  pub counts : x.counts ≡ no_counts

-- The dial wasn't ready; it failed; or it gave a link, over which the handshake was polled. Where the items for its dials are
-- told, the first of them says which, and the others are left.
pub data Dials (login : Login) (plan : Option (List ReadItem)) (rules : Option (List WriteItem))
    (items : Option (List DialItem)) (n : ℕ) (o : Outcome) (us : List Use) (t : Handle) : Type 0 where
  Holds : (left : Option (List DialItem)) → o ≡ Pending → us ≡ held_use n ∷ [] → t ≡ Dialing left → HeldBy items left
      → Dials login plan rules items n o us t
  Fails : (left : Option (List DialItem)) → o ≡ Failed (io_error Dial 0) → us ≡ failed_use n ∷ [] → t ≡ Absent
      → FailedBy items left → Dials login plan rules items n o us t
  Links : (used : Use) (x : Looks) (left : Option (List DialItem)) → us ≡ quiet n ∷ used ∷ [] → IsNew plan rules x
      → GivenBy items left → Connects login n first_asked first_kept x o used t → Dials login plan rules items n o us t

-- the rows of a set, as a step shows them
abbrev pub rows_shown : Outcome → Option (List RowParts)
rows_shown Done = None
rows_shown Pending = None
rows_shown SetEnd = None
rows_shown NoSet = None
rows_shown (Row row) = None
rows_shown (Rows rows) = Some rows.items
rows_shown (Prepared s) = None
rows_shown (Flag flag) = None
rows_shown (Fields fields) = None
rows_shown (Connected number id version) = None
rows_shown (Failed e) = None
rows_shown NoSuchHandle = None

-- the rows that the open call gathered so far
abbrev pub gathered : Asked → List RowParts
gathered a = unwrap_or a.rows []

-- the next row is asked for, after these rows
abbrev pub next_asked : Kept → List RowParts → Asked
next_asked k rows = record { call = NextRow; sent_from = length k.sent; taken_from = length k.taken; rows = Some rows }

-- after a row the next one is asked for; after anything else the gathering ends, or waits
abbrev pub GathersOn : (Asked → Kept → Looks → Outcome → Handle → Type 0) → Asked → After → Kept → Looks → Outcome
    → List Use → Handle → Type 0
GathersOn more a after.Pending end y o us t = (o ≡ Pending) × (us ≡ []) × (t ≡ Joined true end y)
GathersOn more a (after.Answered answers.Ready) end y o us t = (o ≡ Done) × (us ≡ []) × (t ≡ Joined true end y)
GathersOn more a (after.Answered (answers.Row row)) end y o us t =
    more (next_asked end (gathered a ++ row ∷ [])) (asking end NextRow (Some (gathered a ++ row ∷ []))) y o t
GathersOn more a (after.Answered answers.SetEnd) end y o us t = (rows_shown o ≡ Some (gathered a)) × (us ≡ [])
    × (t ≡ Joined true end y)
GathersOn more a (after.Answered answers.NoSet) end y o us t = (rows_shown o ≡ Some (gathered a)) × (us ≡ [])
    × (t ≡ Joined true end y)
GathersOn more a (after.Answered (answers.Stmt s)) end y o us t = (o ≡ Prepared s) × (us ≡ []) × (t ≡ Joined true end y)
GathersOn more a (after.Answered (answers.Flag flag)) end y o us t = (o ≡ Flag flag) × (us ≡ []) × (t ≡ Joined true end y)
GathersOn more a (after.Failed e) end y o us t = (o ≡ Failed e) × (us ≡ []) × (t ≡ Joined true end y)

-- one poll for each use, row by row
abbrev pub Gathers : Login → ℕ → List Use → Asked → Kept → Looks → Outcome → Handle → Type 0
Gathers login n [] a k x o t = ⊥
Gathers login n (u ∷ us) a k x o t = (after : After) × (end : Kept) × (y : Looks)
    × IsPolled login a k x u.met after end y × GathersOn (Gathers login n us) a after end y o us t × (u.number ≡ n)

-- a step that gathers a set's rows
abbrev pub Collects : Bool → Login → ℕ → Kept → Looks → Outcome → List Use → Handle → Type 0
Collects true login n k x o us t = IsClosed k x NextRow o us t
Collects false login n k x o us t =
    Gathers login n us (next_asked k []) (asking k NextRow (Some [])) x o t

abbrev pub CollectsOn : Option Asked → Login → ℕ → Kept → Looks → Outcome → List Use → Handle → Type 0
CollectsOn None login n k x o us t = Collects (has_closed (made_of k.calls)) login n k x o us t
CollectsOn (Some a) login n k x o us t = IsRefused (Joined true k x) o us t

abbrev pub CollectsAt : Login → ℕ → Handle → Outcome → List Use → Handle → Type 0
CollectsAt login n h o us t = OnConnection (λ k. CollectsOn k.pending login n k) h o us t

-- what a step shows of a call that returned
abbrev pub is_done : Outcome → Bool
is_done Done = true
is_done outcome = false

-- once the first call is done the next is done as by a step that begins it
abbrev pub Then : Bool → (Handle → Outcome → List Use → Handle → Type 0) → Outcome → Handle → Outcome → List Use
    → Handle → Type 0
Then true Next first mid o us t = Next mid o us t
Then false Next first mid o us t = (o ≡ first) × (us ≡ []) × (t ≡ mid)

pub record Skips (R : Outcome → List Use → Handle → Type 0) (Next : Handle → Outcome → List Use → Handle → Type 0)
    (o : Outcome) (us : List Use) (t : Handle) : Type 0 where
  pub first : Outcome
  pub used : List Use
  pub mid : Handle
  pub skips : R first used mid
  pub later : List Use
  pub uses : us ≡ used ++ later
  pub follows : Then (is_done first) Next first mid o later t

-- where a stream took the set that is read, or whose end is left, unless the connection is closed
abbrev pub has_taken : Login → Kept → Bool
has_taken login k = not (has_closed (made_of k.calls)) && is_taken (place_kept login k)

-- a stream takes the set that is read, or the next one; its next row is read; or all its rows are gathered
abbrev pub Follows : Aim → Login → ℕ → Handle → Outcome → List Use → Handle → Type 0
Follows aims.Take login n = Calls login n TakeSet
Follows aims.Row login n = Calls login n NextRow
Follows aims.Rows login n = CollectsAt login n

-- the rest of a set that an earlier stream took is passed over first
abbrev pub Reads : Bool → Aim → Login → ℕ → Handle → Outcome → List Use → Handle → Type 0
Reads true aim login n h o us t = Skips (Calls login n SkipTaken h) (Follows aim login n) o us t
Reads false aim login n h o us t = Follows aim login n h o us t

abbrev pub ReadsOn : Option Asked → Aim → Login → ℕ → Kept → Looks → Outcome → List Use → Handle → Type 0
ReadsOn None aim login n k x o us t = Reads (has_taken login k) aim login n (Joined true k x) o us t
ReadsOn (Some a) aim login n k x o us t = IsRefused (Joined true k x) o us t

abbrev pub ReadsAt : Aim → Login → ℕ → Handle → Outcome → List Use → Handle → Type 0
ReadsAt aim login n h o us t = OnConnection (λ k. ReadsOn k.pending aim login n k) h o us t

-- a step of a stream, a transaction or a statement that isn't there
abbrev pub Misses : Handle → Outcome → List Use → Handle → Type 0
Misses h o us t = IsRefused h o us t

-- a step shows this at once, and the connection is what it was
pub record IsTold (told : Outcome) (k : Kept) (x : Looks) (o : Outcome) (us : List Use) (t : Handle) : Type 0 where
  pub outcome : o ≡ told
  pub uses : us ≡ []
  pub left : t ≡ Joined true k x

-- an item is the next row of the stream's set; where that isn't the one that is read any more, nothing is left
abbrev pub Items : Bool → Login → ℕ → Kept → Looks → Outcome → List Use → Handle → Type 0
Items true login n k x o us t = Calls login n NextRow (Joined true k x) o us t
Items false login n k x o us t = IsTold NoSet k x o us t

abbrev pub ItemsOn : Option Asked → Login → ℕ → Kept → Looks → Outcome → List Use → Handle → Type 0
ItemsOn None login n k x o us t = Items (has_taken login k) login n k x o us t
ItemsOn (Some a) login n k x o us t = IsRefused (Joined true k x) o us t

abbrev pub ItemsAt : Login → ℕ → Handle → Outcome → List Use → Handle → Type 0
ItemsAt login n h o us t = OnConnection (λ k. ItemsOn k.pending login n k) h o us t

-- a stream is let go, so that the next one passes over the set's rest
abbrev pub LetsGoWith : Option Asked → Kept → Looks → Outcome → List Use → Handle → Type 0
LetsGoWith None k x o us t = IsTold Done k x o us t
LetsGoWith (Some a) k x o us t = IsRefused (Joined true k x) o us t

abbrev pub LetsGo : Handle → Outcome → List Use → Handle → Type 0
LetsGo h o us t = OnConnection (λ k. LetsGoWith k.pending k) h o us t

-- a call that gathers no rows is polled; where it passes over a set's rest, what its step is for is done then
abbrev pub PollsCall : Bool → Aim → Login → ℕ → Asked → Kept → Looks → Outcome → List Use → Handle → Type 0
PollsCall true aim login n a k x o us t = Skips (PolledOnce login n a k x) (Follows aim login n) o us t
PollsCall false aim login n a k x o us t = PolledOnce login n a k x o us t

-- a step that polls what is open: the handshake, a gathering, or another call
abbrev pub PollsOn : Bool → Option (List RowParts) → Aim → Login → ℕ → Asked → Kept → Looks → Outcome → List Use
    → Handle → Type 0
PollsOn true rows aim login n a k x o us t = (used : Use) × (us ≡ used ∷ []) × Connects login n a k x o used t
PollsOn false None aim login n a k x o us t = PollsCall (is_skip (kind_of a.call)) aim login n a k x o us t
PollsOn false (Some rows) aim login n a k x o us t = Gathers login n us a k x o t

abbrev pub GoesOnWith : Option Asked → Aim → Login → ℕ → Kept → Looks → Outcome → List Use → Handle → Type 0
GoesOnWith None aim login n k x o us t = IsRefused (Joined true k x) o us t
GoesOnWith (Some a) aim login n k x o us t = PollsOn (is_connect (kind_of a.call)) a.rows aim login n a k x o us t

-- a dial that wasn't ready is tried again, over the plan of its link and the items that are left for its dials
abbrev pub GoesOn : Login → Plans → Aim → ℕ → Handle → Outcome → List Use → Handle → Type 0
GoesOn login plans aim n Absent o us t = IsRefused Absent o us t
GoesOn login plans aim n (Dialing left) o us t = Dials login (plans.reads n) (plans.writes n) left n o us t
GoesOn login plans aim n (Joined false k x) o us t = IsRefused (Joined false k x) o us t
GoesOn login plans aim n (Joined true k x) o us t = GoesOnWith k.pending aim login n k x o us t

-- The open call was cancelled, which closed the connection by the kind of the call and where its reading stands. A connection
-- whose handshake was cancelled isn't there any more.
pub record IsCancelled (login : Login) (a : Asked) (k : Kept) (x : Looks) (o : Outcome) (us : List Use) (t : Handle)
    : Type 0 where
  pub outcome : o ≡ Done
  pub uses : us ≡ []
  pub left : t ≡ Joined (not (is_connect (kind_of a.call)))
      (ended_by k a (says.Cancelled (closes_cancelled (kind_of a.call) (place_kept login k)))) x

-- the held dial was dropped
pub record IsDropped (o : Outcome) (us : List Use) (t : Handle) : Type 0 where
  pub outcome : o ≡ Done
  pub uses : us ≡ []
  pub left : t ≡ Absent

abbrev pub CancelsWith : Option Asked → Login → Kept → Looks → Outcome → List Use → Handle → Type 0
CancelsWith None login k x o us t = IsRefused (Joined true k x) o us t
CancelsWith (Some a) login k x o us t = IsCancelled login a k x o us t

abbrev pub Cancels : Login → Handle → Outcome → List Use → Handle → Type 0
Cancels login Absent o us t = IsRefused Absent o us t
Cancels login (Dialing left) o us t = IsDropped o us t
Cancels login (Joined false k x) o us t = IsRefused (Joined false k x) o us t
Cancels login (Joined true k x) o us t = CancelsWith k.pending login k x o us t

-- the last OK, as the server sent it
abbrev pub TellsWith : Option Asked → Login → Kept → Looks → Outcome → List Use → Handle → Type 0
TellsWith None login k x o us t = IsTold (Fields (facts_kept login k).ok) k x o us t
TellsWith (Some a) login k x o us t = IsRefused (Joined true k x) o us t

abbrev pub TellsFields : Login → Handle → Outcome → List Use → Handle → Type 0
TellsFields login h o us t = OnConnection (λ k. TellsWith k.pending login k) h o us t

-- the connection of the next number
pub record DialsNext (login : Login) (plans : Plans) (hs : List Handle) (o : Outcome) (us : List Use)
    (ts : List Handle) : Type 0 where
  pub made : Handle
  pub dials : Dials login (plans.reads (length hs)) (plans.writes (length hs)) (plans.dials (length hs)) (length hs) o us made
  pub others : ts ≡ hs ++ made ∷ []

-- a step at a number changes nothing at the others
pub record At (n : ℕ) (R : Handle → Outcome → List Use → Handle → Type 0) (hs : List Handle) (o : Outcome)
    (us : List Use) (ts : List Handle) : Type 0 where
  pub made : Handle
  pub does : R (at_number hs n) o us made
  pub others : ts ≡ put_at n made hs

-- a step that moves the world uses no connection
pub record Moves (hs : List Handle) (o : Outcome) (us : List Use) (ts : List Handle) : Type 0 where
  pub outcome : o ≡ Done
  pub uses : us ≡ []
  pub same : ts ≡ hs

-- what work at number n shows, and what it leaves there, in a world that told these plans
abbrev pub WorkAt : Login → Plans → ℕ → Work → Handle → Outcome → List Use → Handle → Type 0
WorkAt login plans n (works.Begin call) = Calls login n call
WorkAt login plans n (works.Read aim) = ReadsAt aim login n
WorkAt login plans n works.Item = ItemsAt login n
WorkAt login plans n works.LetGo = LetsGo
WorkAt login plans n works.Miss = Misses
WorkAt login plans n works.Fields = TellsFields login
WorkAt login plans n (works.Poll aim) = GoesOn login plans aim n
WorkAt login plans n works.Cancel = Cancels login

-- by what a step does, over what the earlier steps and their answers made of the numbers
abbrev pub ActionGrows : Login → Plans → Action → List Handle → Outcome → List Use → List Handle → Type 0
ActionGrows login plans actions.Dial hs o us ts = DialsNext login plans hs o us ts
ActionGrows login plans (actions.Move line) hs o us ts = Moves hs o us ts
ActionGrows login plans (actions.Visit n work) hs o us ts = At n (WorkAt login plans n work) hs o us ts

-- by the step: whether it finds its stream or its transaction at the number that it names, the aim of the call that is
-- open there, and the statement that it names say what it does
abbrev pub StepGrows : Login → Plans → Bool → Aim → Option StatementView → List Handle → Step → Outcome → List Use
    → List Handle → Type 0
StepGrows login plans found aim named hs step o us ts = ActionGrows login plans (action_of found aim named step) hs o us ts

-- a step, its answer, and what the numbers stand for then
pub record Line : Type 0 where
  pub step : Step
  pub number : ℕ
  pub outcome : Outcome
  pub uses : List Use
  pub handles : List Handle

abbrev pub handles_after : List Line → List Handle
handles_after [] = []
handles_after (l ∷ ls) = l.handles

-- what lines make beside the calls of connection n, and whether a step finds there what it needs
abbrev pub beside_of : ℕ → List Line → Beside
beside_of n [] = nothing_beside
beside_of n (l ∷ ls) = beside_by n (beside_of n ls) l.step l.outcome

abbrev pub is_found : Option ℕ → Step → List Line → Bool
is_found None step ls = true
is_found (Some n) step ls = finds (beside_of n ls) step

-- the aim of the call that is open at the number that a step names
abbrev pub aim_at : Option ℕ → List Line → Aim
aim_at None ls = aims.Row
aim_at (Some n) ls = (beside_of n ls).aim

-- what lines make of the statements by their numbers
abbrev pub statements_of : List Line → List (Option StatementView)
statements_of [] = []
statements_of (l ∷ ls) = statements_by (statements_of ls) l.step l.outcome

-- the lines are newest first; each is what its step may come to after the earlier ones
pub record Grows (login : Login) (plans : Plans) (before : List Line) (l : Line) : Type 0 where
  pub number : l.number ≡ length before + 1
  pub answer : StepGrows login plans (is_found (target l.step) l.step before) (aim_at (target l.step) before)
      (statement_named (named_statement l.step) (statements_of before)) (handles_after before)
      l.step l.outcome l.uses l.handles

abbrev pub AreGrown : Login → Plans → List Line → Type 0
AreGrown login plans [] = Unit {0}
AreGrown login plans (l ∷ ls) = Grows login plans ls l × AreGrown login plans ls
