-- How the rows of a set are gathered.
use Rattle.std.specs.Prelude.{ℕ, ◌≡◌, List, [], ◌∷◌, ◌++◌, Option, Some, None, Bool, true, false}
use Rattle.my_value.specs.RowParts.{RowParts}
use Rattle.my_grammar.specs.declared.login.Login.{Login}
use Rattle.my_reading.specs.declared.answer.Answer.TheVariants as answers
use Rattle.my_reading.specs.declared.call.Call.{Call}
use Rattle.my_reading.specs.declared.call.Call.TheVariants.{NextRow}
use Rattle.my_reading.specs.declared.call.CallKind.{CallKind}
use Rattle.my_client.specs.declared.poll.After.{After}
use Rattle.my_client.specs.declared.poll.After.TheVariants as after
use Rattle.my_client.specs.Calls.{asked_for, pending_after}
use Rattle.my_client.specs.Kept.{Asked, made_of}
use Rattle.my_client.specs.Made.{has_closed}
use Rattle.my_conn.specs.Conn.{ConnSeen}
use Rattle.my_link.specs.Looks.{Looks}
use Rattle.my_link.specs.declared.met.Met.{Met}
use Rattle.my_script.specs.declared.transcript.Outcome.{Outcome}
use Rattle.my_script.specs.declared.transcript.Outcome.TheVariants.{Done, Pending, Prepared, Flag, Failed}
use Rattle.my_script.specs.declared.transcript.Use.{Use}
use Rattle.my_steps.specs.declared.outcome.StepResult.{StepResult}
use Rattle.my_steps.specs.declared.slot.Slot.{Slot}
use Rattle.my_steps.specs.declared.slot.Slot.TheVariants.{There}
use Rattle.my_steps.specs.Grows.{Gathers, GathersOn, rows_shown}
use Rattle.my_steps.specs.Handle.{Handle}
use Rattle.my_steps.specs.Keeps.{IsStood, StandsBy}
use Rattle.my_steps.specs.Polled.{EachPolled}
use Rattle.my_steps.specs.Slot.{asked_with, handle_of, kept_of, with_rows}
use Rattle.my_steps.specs.Sums.{use_of}

-- where no call is open, the next row is asked for
abbrev pub row_call : Option CallKind → Option Call
row_call None = Some NextRow
row_call (Some kind) = None

-- the kind of the call that a poll leaves open
abbrev pub LeavesOpen : After → Option CallKind → Type 0
LeavesOpen after pending = (kind : CallKind) × (pending ≡ pending_after kind after)

abbrev pub is_row : After → Bool
is_row (after.Answered (answers.Row row)) = true
is_row _ = false

-- a row is kept; what else a poll returned is returned
abbrev pub KeepsRow : List RowParts → List RowParts → After → Option After → Type 0
KeepsRow rows all p None = (row : RowParts) × (p ≡ after.Answered (answers.Row row)) × (all ≡ rows ++ row ∷ [])
KeepsRow rows all p (Some other) = (other ≡ p) × (is_row p ≡ false) × (all ≡ rows)

-- one poll, and what it met
pub record PollsRow {L : Type 0} (look : L → Looks) (n : ℕ) (pending : Option CallKind) (c d : ConnSeen L)
    (rows all : List RowParts) (us more : List Use) (over : Option After) : Type 0 where
  pub after : After
  pub met : Met
  pub polled : EachPolled look (row_call pending) c d met after
  pub left : LeavesOpen after d.pending
  pub keeps : KeepsRow rows all after over
  pub uses : more ≡ us ++ use_of n met ∷ []

-- the rows are gathered by these uses, from a connection on
abbrev pub GathersFrom : {L : Type 0} → (L → Looks) → Login → ℕ → Option CallKind → ConnSeen L → List RowParts → List Use
    → Outcome → Handle → Type 0
GathersFrom look login n pending c rows us o t =
    (a : Asked) → (asked_for (row_call pending) (kept_of c)).pending ≡ Some a
    → Gathers login n us (asked_with rows a) (with_rows rows (asked_for (row_call pending) (kept_of c))) (look c.link) o t

-- so far: each poll returned a row
pub record GatherSoFar {L : Type 0} (look : L → Looks) (login : Login) (n : ℕ) (first : Option CallKind) (c : ConnSeen L)
    (before : List RowParts) (pending : Option CallKind) (d : ConnSeen L) (rows : List RowParts) (us : List Use)
    : Type 0 where
  pub stood : StandsBy login d
  pub unclosed : has_closed (made_of (kept_of d).calls) ≡ false
  pub onto : (vs : List Use) (o : Outcome) (t : Handle) → GathersFrom look login n pending d rows vs o t
      → GathersFrom look login n first c before (us ++ vs) o t

-- of each login for which the connection stands, where it isn't closed
abbrev pub EachSoFar : {L : Type 0} → (L → Looks) → ℕ → Option CallKind → ConnSeen L → List RowParts → Option CallKind
    → ConnSeen L → List RowParts → List Use → Type 0
EachSoFar look n first c before pending d rows us = (login : Login) → StandsBy login c
    → has_closed (made_of (kept_of c).calls) ≡ false → GatherSoFar look login n first c before pending d rows us

-- and one more, which returned something else
pub record GatherOver {L : Type 0} (look : L → Looks) (login : Login) (n : ℕ) (first : Option CallKind) (c : ConnSeen L)
    (before : List RowParts) (d : ConnSeen L) (rows : List RowParts) (us : List Use) (p : After) : Type 0 where
  pub stood : StandsBy login d
  pub asked : Asked
  pub onto : (o : Outcome) (t : Handle)
      → GathersOn (Gathers login n []) (asked_with rows asked) p (with_rows rows (kept_of d)) (look d.link) o [] t
      → GathersFrom look login n first c before us o t

pub record EachOver {L : Type 0} (look : L → Looks) (n : ℕ) (first : Option CallKind) (c : ConnSeen L)
    (before : List RowParts) (d : ConnSeen L) (rows : List RowParts) (us : List Use) (p : After) : Type 0 where
  pub other : is_row p ≡ false
  pub left : LeavesOpen p d.pending
  pub each : (login : Login) → StandsBy login c → has_closed (made_of (kept_of c).calls) ≡ false
      → GatherOver look login n first c before d rows us p

-- what is at the number then, and what the step shows, where it is this while the next row is still awaited
abbrev pub Settles : {L : Type 0} → ConnSeen L → Slot L → List RowParts → After → Slot L → Outcome → Type 0
Settles c still rows after.Pending slot o = (slot ≡ still) × (o ≡ Pending)
Settles c still rows (after.Answered answers.Ready) slot o = (slot ≡ There c) × (o ≡ Done)
Settles c still rows (after.Answered (answers.Row row)) slot o = ⊥
Settles c still rows (after.Answered answers.SetEnd) slot o = (slot ≡ There c) × (rows_shown o ≡ Some rows)
Settles c still rows (after.Answered answers.NoSet) slot o = (slot ≡ There c) × (rows_shown o ≡ Some rows)
Settles c still rows (after.Answered (answers.Stmt s)) slot o = (slot ≡ There c) × (o ≡ Prepared s)
Settles c still rows (after.Answered (answers.Flag flag)) slot o = (slot ≡ There c) × (o ≡ Flag flag)
Settles c still rows (after.Failed e) slot o = (slot ≡ There c) × (o ≡ Failed e)

-- what a gathering did, from a connection on
pub record GatherDid {L : Type 0} (look : L → Looks) (login : Login) (n : ℕ) (first : Option CallKind) (c : ConnSeen L)
    (before : List RowParts) (slot : Slot L) (o : Outcome) (us : List Use) : Type 0 where
  pub stood : IsStood login slot
  pub gathers : GathersFrom look login n first c before us o (handle_of look slot)

abbrev pub EachGathers : {L : Type 0} → (L → Looks) → ℕ → Option CallKind → ConnSeen L → List RowParts → Slot L
    → StepResult → Type 0
EachGathers look n first c before slot r = (login : Login) → StandsBy login c
    → has_closed (made_of (kept_of c).calls) ≡ false → GatherDid look login n first c before slot r.outcome r.uses.items
