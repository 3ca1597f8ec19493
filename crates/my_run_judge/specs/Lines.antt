-- What a line shows at a connection, and when it is right.
use Rattle.std.specs.Prelude.{◌≡◌, ◌+◌, ◌-◌, ◌≤◌, ◌⊎◌, ℕ, List, [], ◌∷◌, length, take, drop, slice_get, Option, Some, None, is_some, Result, Ok, Err, Bool, true, false, not, ◌&&◌}
use Rattle.my_handshake.specs.Version.{version_of}
use Rattle.my_value.specs.RowParts.{RowParts}
use Rattle.my_statements.specs.Prepared.{StatementView}
use Rattle.my_grammar.specs.declared.login.Login.{Login}
use Rattle.my_link.specs.declared.met.Met.{Met}
use Rattle.my_link.specs.Met.{nothing_met}
use Rattle.my_reading.specs.declared.answer.Answer.{Answer}
use Rattle.my_reading.specs.declared.answer.Answer.TheVariants as answers
use Rattle.my_reading.specs.declared.call.Call.{Call}
use Rattle.my_reading.specs.declared.call.Call.TheVariants as calls
use Rattle.my_reading.specs.declared.error.Error.{Error}
use Rattle.my_reading.specs.declared.error.IoKind.TheVariants.{Dial}
use Rattle.my_reading.specs.declared.facts.Facts.{Facts}
use Rattle.my_reading.specs.Calls.{kind_of}
use Rattle.my_reading.specs.Errors.{io_error}
use Rattle.my_reading.specs.Place.{Place, facts_at, is_taken}
use Rattle.my_script.specs.declared.aim.Aim.{Aim}
use Rattle.my_script.specs.declared.step.Step.{Step}
use Rattle.my_script.specs.Beside.{finds}
use Rattle.my_script.specs.Streams.{is_skip}
use Rattle.my_script.specs.declared.transcript.Outcome.{Outcome}
use Rattle.my_script.specs.declared.transcript.Outcome.TheVariants.{Done, Pending, SetEnd, NoSet, Row, Rows, Prepared, Flag, Fields, Connected, Failed, NoSuchHandle}
use Rattle.my_script.specs.declared.transcript.StepAnswer.{StepAnswer}
use Rattle.my_run_judge.specs.declared.made.Made.{Made}
use Rattle.my_run_judge.specs.Made.{made_by, statement_for}
use Rattle.my_run_judge.specs.Meets.{LastMet, RowMet}
use Rattle.my_run_judge.specs.Seen.{TapeSeen}
use Rattle.my_script.specs.declared.transcript.TapeCall.{TapeCall}
use Rattle.my_script.specs.declared.transcript.Use.{Use}
use Rattle.my_run_judge.specs.declared.act.Act.{Act}
use Rattle.my_run_judge.specs.declared.act.Act.TheVariants.{Wrong, Skips, Tells, Holds, Fails, Connects, Polls, Passes, Ends, Cancels}
use Rattle.my_run_judge.specs.declared.act.Ground.{Ground}
use Rattle.my_run_judge.specs.declared.act.Status.{Status}
use Rattle.my_run_judge.specs.declared.act.Status.TheVariants.{Absent, Dialing, Open, Gathers}
use Rattle.my_run_judge.specs.declared.walk.Spot.{Spot}
use Rattle.my_script.specs.Actions.{next_call}
use Rattle.my_run_judge.specs.Acts.{act_with, begun_by, ground_of}
use Rattle.my_run_judge.specs.Walks.{Walk, with_status, with_taken, IsEnded, ended}

-- the call is this one, where the line begins one
abbrev pub IsCallOf : Option Call → Call → Type 0
IsCallOf None c = Unit {0}
IsCallOf (Some call) c = c ≡ call

abbrev pub IsBegun : Option Call → Option TapeCall → Type 0
IsBegun None c = Unit {0}
IsBegun (Some call) None = ⊥
IsBegun (Some call) (Some c) = IsCallOf (Some call) c.call

-- these calls returned these rows
abbrev pub AreRows : List RowParts → List TapeCall → Type 0
AreRows [] [] = Unit {0}
AreRows [] (c ∷ cs) = ⊥
AreRows (r ∷ rs) [] = ⊥
AreRows (r ∷ rs) (c ∷ cs) = (c.answer ≡ Some (Ok (answers.Row r))) × AreRows rs cs

-- a gathering ended, and its rows are those of its calls
abbrev pub IsGathered : List RowParts → Option (Result Answer Error) → List TapeCall → Type 0
IsGathered rows answer before =
    ((answer ≡ Some (Ok answers.SetEnd)) ⊎ (answer ≡ Some (Ok answers.NoSet))) × AreRows rows before

-- how the call in turn ended is what the line shows; rows are those of the calls before it, from a first one on
abbrev pub IsShown : Outcome → Option (Result Answer Error) → List TapeCall → Type 0
IsShown Done answer before = answer ≡ Some (Ok answers.Ready)
IsShown Pending answer before = ⊥
IsShown SetEnd answer before = answer ≡ Some (Ok answers.SetEnd)
IsShown NoSet answer before = answer ≡ Some (Ok answers.NoSet)
IsShown (Row row) answer before = answer ≡ Some (Ok (answers.Row row))
IsShown (Rows rows) answer before = IsGathered rows.items answer before
IsShown (Prepared statement) answer before = answer ≡ Some (Ok (answers.Stmt statement))
IsShown (Flag flag) answer before = answer ≡ Some (Ok (answers.Flag flag))
IsShown (Fields ok) answer before = ⊥
IsShown (Connected n id version) answer before = answer ≡ Some (Ok answers.Ready)
IsShown (Failed e) answer before = answer ≡ Some (Err e)
IsShown NoSuchHandle answer before = ⊥

-- a call that passed over a set's rest is no line's last one
abbrev pub MayEnd : Outcome → Call → Type 0
MayEnd Done call = is_skip (kind_of call) ≡ false
MayEnd outcome call = Unit {0}

abbrev pub IsShownAt : Outcome → Option TapeCall → List TapeCall → Type 0
IsShownAt outcome None before = ⊥
IsShownAt outcome (Some c) before = IsShown outcome c.answer before × MayEnd outcome c.call

-- the calls from a first one to the one in turn
abbrev pub calls_before : TapeSeen → ℕ → ℕ → List TapeCall
calls_before t first next = take (next - first) (drop first t.calls)

-- whether the call that was polled last is open
abbrev pub is_pending : Outcome → Bool
is_pending Pending = true
is_pending outcome = false

-- the last call that was polled is open, or ended as the line shows
abbrev pub LastRight : Login → TapeSeen → Outcome → ℕ → Walk → Bool → Type 0
LastRight login t outcome first w true = Unit {0}
LastRight login t outcome first w false =
    IsShownAt outcome (slice_get t.calls w.spot.next) (calls_before t first w.spot.next) × IsEnded login t false w

abbrev pub after_last : Login → TapeSeen → Walk → Bool → Walk
after_last login t w true = w
after_last login t w false = ended login t false w

-- an earlier one ended, and the next row is asked for
abbrev pub RowRight : Login → TapeSeen → Walk → Type 0
RowRight login t w = IsBegun (Some calls.NextRow) (slice_get t.calls (w.spot.next + 1)) × IsEnded login t false w

-- one poll for each use, each of the call in turn
abbrev pub Fits : ℕ → TapeSeen → Spot → Use → Type 0
Fits n t s u = (u.number ≡ n) × (s.taken + u.met.taken ≤ length t.taken)

-- the last poll, and an earlier one
abbrev pub LastPoll : Login → ℕ → TapeSeen → Outcome → ℕ → Use → Walk → Type 0
LastPoll login n t outcome first u w =
    Fits n t w.spot u × LastMet outcome u.met
    × LastRight login t outcome first (with_taken u.met.taken w) (is_pending outcome)

abbrev pub after_last_poll : Login → TapeSeen → Outcome → Use → Walk → Walk
after_last_poll login t outcome u w = after_last login t (with_taken u.met.taken w) (is_pending outcome)

abbrev pub RowPoll : Login → ℕ → TapeSeen → Use → Walk → Type 0
RowPoll login n t u w = Fits n t w.spot u × RowMet u.met × RowRight login t (with_taken u.met.taken w)

abbrev pub after_row_poll : Login → TapeSeen → Use → Walk → Walk
after_row_poll login t u w = ended login t false (with_taken u.met.taken w)

abbrev pub ArePolled : Login → ℕ → TapeSeen → Outcome → ℕ → List Use → Walk → Type 0
ArePolled login n t outcome first [] w = ⊥
ArePolled login n t outcome first (u ∷ []) w = LastPoll login n t outcome first u w
ArePolled login n t outcome first (u ∷ v ∷ us) w =
    RowPoll login n t u w × ArePolled login n t outcome first (v ∷ us) (after_row_poll login t u w)

abbrev pub after_polls : Login → TapeSeen → Outcome → List Use → Walk → Walk
after_polls login t outcome [] w = w
after_polls login t outcome (u ∷ []) w = after_last_poll login t outcome u w
after_polls login t outcome (u ∷ v ∷ us) w = after_polls login t outcome (v ∷ us) (after_row_poll login t u w)

-- the calls of a gathering begin with this one
abbrev pub first_of : Status → ℕ → ℕ
first_of (Gathers first) next = first
first_of status next = next

-- what the server said of itself, or its last OK, where a line tells it
abbrev pub IsToldBy : Facts → Outcome → Type 0
IsToldBy facts (Fields ok) = ok ≡ facts.ok
IsToldBy facts (Connected n id version) = (id ≡ facts.connection) × (version ≡ version_of facts.version)
IsToldBy facts outcome = Unit {0}

abbrev pub IsTold : Login → Place → Outcome → Type 0
IsTold login p outcome = IsToldBy (facts_at login p) outcome

-- what was met at connection n
abbrev pub use_of : ℕ → Met → Use
use_of n met = record { number = n; met = met }

-- calls are polled, the first of them one that the line begins, or goes on with
abbrev pub PollsRight : Login → ℕ → TapeSeen → Walk → Option Call → Outcome → List Use → Type 0
PollsRight login n t w begun outcome us = IsBegun begun (slice_get t.calls w.spot.next)
    × ArePolled login n t outcome (first_of w.spot.status w.spot.next) us w
    × IsTold login (after_polls login t outcome us w).place outcome

-- a call passed over the rest of a set that a stream took, and the one that takes the next set, or reads its row, is
-- begun
abbrev pub IsSkip : Option TapeCall → Type 0
IsSkip None = ⊥
IsSkip (Some c) = (c.call ≡ calls.SkipTaken) × (c.answer ≡ Some (Ok answers.Ready))

abbrev pub SkipRight : Login → TapeSeen → Aim → Walk → Type 0
SkipRight login t aim w = IsSkip (slice_get t.calls w.spot.next)
    × IsBegun (Some (next_call aim)) (slice_get t.calls (w.spot.next + 1)) × IsEnded login t false w

abbrev pub SkipPoll : Login → ℕ → TapeSeen → Aim → Use → Walk → Type 0
SkipPoll login n t aim u w = Fits n t w.spot u × RowMet u.met × SkipRight login t aim (with_taken u.met.taken w)

-- it is polled once, and the others after it
abbrev pub AreFollowed : Login → ℕ → TapeSeen → Outcome → List Use → Walk → Type 0
AreFollowed login n t outcome us w = ArePolled login n t outcome w.spot.next us w

abbrev pub ArePassed : Login → ℕ → TapeSeen → Aim → Outcome → List Use → Walk → Type 0
ArePassed login n t aim outcome [] w = ⊥
ArePassed login n t aim outcome (u ∷ us) w =
    SkipPoll login n t aim u w × AreFollowed login n t outcome us (after_row_poll login t u w)

abbrev pub PassesRight : Login → ℕ → TapeSeen → Aim → Walk → Option Call → Outcome → List Use → Type 0
PassesRight login n t aim w begun outcome us =
    IsBegun begun (slice_get t.calls w.spot.next) × ArePassed login n t aim outcome us w

-- the use of a dial that gave a link comes before those of the polls
abbrev pub ConnectsRight : Login → ℕ → TapeSeen → Walk → Outcome → List Use → Type 0
ConnectsRight login n t w outcome [] = ⊥
ConnectsRight login n t w outcome (u ∷ us) =
    (u ≡ use_of n nothing_met) × PollsRight login n t w (Some calls.Connect) outcome us

abbrev pub is_unanswered : Option TapeCall → Type 0
is_unanswered None = ⊥
is_unanswered (Some c) = c.answer ≡ None

-- the call that a line begins, with the statement that its step names
abbrev pub begun_in : Option StatementView → Walk → Step → Option Call
begun_in named w step = begun_by (not w.closed && is_taken w.place) named step

-- a closed connection refuses the call that the line begins, which ends at once
abbrev pub EndsAtOnce : Login → TapeSeen → Option StatementView → Walk → Step → Outcome → Type 0
EndsAtOnce login t named w step outcome = IsBegun (begun_in named w step) (slice_get t.calls w.spot.next)
    × IsShownAt outcome (slice_get t.calls w.spot.next) [] × IsEnded login t false w

-- the call in turn has no answer: it was cancelled, or is open
abbrev pub EndsUnanswered : Login → TapeSeen → Bool → Walk → Type 0
EndsUnanswered login t cancelled w =
    is_unanswered (slice_get t.calls w.spot.next) × IsEnded login t cancelled w

-- a dial that failed, or one that wasn't ready
abbrev pub IsDialFault : Outcome → Type 0
IsDialFault (Failed e) = e ≡ io_error Dial 0
IsDialFault outcome = ⊥

abbrev pub DialRight : ℕ → Bool → Outcome → List Use → Type 0
DialRight n true outcome us = (us ≡ use_of n (record nothing_met { faults = 1 }) ∷ []) × IsDialFault outcome
DialRight n false outcome us = us ≡ use_of n (record nothing_met { holds = 1 }) ∷ []

-- the line is right where it does this
abbrev pub ActRight : Login → ℕ → TapeSeen → Option StatementView → Walk → Step → Outcome → List Use → Act → Type 0
ActRight login n t named w step outcome us Wrong = ⊥
ActRight login n t named w step outcome us (Skips status) = Unit {0}
ActRight login n t named w step outcome us Tells = IsTold login w.place outcome
ActRight login n t named w step outcome us Holds = DialRight n false outcome us
ActRight login n t named w step outcome us Fails = DialRight n true outcome us
ActRight login n t named w step outcome us (Connects status) = ConnectsRight login n t w outcome us
ActRight login n t named w step outcome us (Polls status) = PollsRight login n t w (begun_in named w step) outcome us
ActRight login n t named w step outcome us (Passes aim status) =
    PassesRight login n t aim w (begun_in named w step) outcome us
ActRight login n t named w step outcome us (Ends status) = EndsAtOnce login t named w step outcome
ActRight login n t named w step outcome us (Cancels status) = EndsUnanswered login t true w

-- what was read then
abbrev pub after_reads : Login → TapeSeen → Walk → Outcome → List Use → Act → Walk
after_reads login t w outcome us Wrong = w
after_reads login t w outcome us (Skips status) = w
after_reads login t w outcome us Tells = w
after_reads login t w outcome us Holds = w
after_reads login t w outcome us Fails = w
after_reads login t w outcome us (Connects status) = after_polls login t outcome (drop 1 us) w
after_reads login t w outcome us (Polls status) = after_polls login t outcome us w
after_reads login t w outcome us (Passes aim status) = after_polls login t outcome us w
after_reads login t w outcome us (Ends status) = ended login t false w
after_reads login t w outcome us (Cancels status) = ended login t true w

-- what the connection is after it
abbrev pub status_after : Status → Act → Status
status_after old Wrong = old
status_after old (Skips status) = status
status_after old Tells = old
status_after old Holds = Dialing
status_after old Fails = Absent
status_after old (Connects status) = status
status_after old (Polls status) = status
status_after old (Passes aim status) = status
status_after old (Ends status) = status
status_after old (Cancels status) = status

abbrev pub after_act : Login → TapeSeen → Walk → Outcome → List Use → Act → Walk
after_act login t w outcome us act =
    let v = after_reads login t w outcome us act in with_status (status_after v.spot.status act) v

-- what the calls that ended made of the connection
abbrev pub ground_at : Walk → Ground
ground_at w = ground_of w.closed (is_taken w.place)

-- what a line does at connection n, after what the earlier ones made
abbrev pub act_in : ℕ → Made → Walk → Step → StepAnswer → Act
act_in n m w step a = act_with (finds m.beside step) (is_some (statement_for m step)) m.beside.aim w.spot.status n
    w.spot.next (ground_at w) step a.outcome (length a.uses.items)

abbrev pub IsLine : Login → ℕ → TapeSeen → Made → Walk → Step → StepAnswer → Type 0
IsLine login n t m w step a = ActRight login n t (statement_for m step) w step a.outcome a.uses.items (act_in n m w step a)

abbrev pub after_line : Login → ℕ → TapeSeen → Made → Walk → Step → StepAnswer → Walk
after_line login n t m w step a = after_act login t w a.outcome a.uses.items (act_in n m w step a)

-- at the end all calls were read, and all bytes; the last call may be open, where the reading stops for bytes
abbrev pub IsOver : Login → TapeSeen → Walk → Status → Type 0
IsOver login t w Open = (w.spot.next + 1 ≡ length t.calls) × (w.spot.taken ≡ length t.taken)
    × EndsUnanswered login t false w
IsOver login t w (Gathers first) = (w.spot.next + 1 ≡ length t.calls) × (w.spot.taken ≡ length t.taken)
    × EndsUnanswered login t false w
IsOver login t w status = (w.spot.next ≡ length t.calls) × (w.spot.taken ≡ length t.taken)

-- the line with this index
abbrev pub LineRight : Login → ℕ → TapeSeen → ℕ → Made → Walk → Step → StepAnswer → Type 0
LineRight login n t k m w step a = (a.number ≡ k + 1) × IsLine login n t m w step a

-- The lines from this one on are right: each has its number, from 1, and there is one answer for each step.
abbrev pub AreLines : Login → ℕ → TapeSeen → ℕ → Made → Walk → List Step → List StepAnswer → Type 0
AreLines login n t k m w [] [] = IsOver login t w w.spot.status
AreLines login n t k m w [] (a ∷ bs) = ⊥
AreLines login n t k m w (step ∷ steps) [] = ⊥
AreLines login n t k m w (step ∷ steps) (a ∷ bs) = LineRight login n t k m w step a
    × AreLines login n t (k + 1) (made_by n m step a.outcome) (after_line login n t m w step a) steps bs

-- The first line that isn't right is this one; the number of lines means the end.
abbrev pub FirstWrong : Login → ℕ → TapeSeen → ℕ → ℕ → Made → Walk → List Step → List StepAnswer → Type 0
FirstWrong login n t index k m w [] [] = (index ≡ k) × (IsOver login t w w.spot.status → ⊥)
FirstWrong login n t index k m w [] (a ∷ bs) = index ≡ k
FirstWrong login n t index k m w (step ∷ steps) [] = index ≡ k
FirstWrong login n t index k m w (step ∷ steps) (a ∷ bs) =
    ((index ≡ k) × (LineRight login n t k m w step a → ⊥))
    ⊎ (LineRight login n t k m w step a
    × FirstWrong login n t index (k + 1) (made_by n m step a.outcome) (after_line login n t m w step a) steps bs)
