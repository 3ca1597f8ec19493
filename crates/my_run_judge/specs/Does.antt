-- What the program does to the walk of a connection.
use Rattle.std.specs.Prelude.{◌≡◌, ℕ, Option, Bool, true, not, ◌&&◌, length, slice_get}
use Rattle.std.specs.Bool.{Decides}
use Rattle.my_statements.specs.Prepared.{StatementView}
use Rattle.my_grammar.specs.declared.login.Login.{Login}
use Rattle.my_reading.specs.Place.{Place, first_place, is_taken}
use Rattle.my_judge.specs.declared.reader.Reader.{Reader}
use Rattle.my_judge.specs.Reads.{ReadsCall}
use Rattle.my_judge.specs.Stands.{IsAt}
use Rattle.my_run_judge.specs.Seen.{TapeSeen}
use Rattle.my_script.specs.declared.step.Step.{Step}
use Rattle.my_script.specs.declared.transcript.Outcome.{Outcome}
use Rattle.my_script.specs.declared.transcript.TapeCall.{TapeCall}
use Rattle.my_run_judge.specs.declared.walk.Walker.{Walker}
use Rattle.my_run_judge.specs.Lines.{IsBegun, IsOver, IsTold, begun_in}
use Rattle.my_run_judge.specs.Walks.{Walk, read_at, start}

-- The reading is at this place. It is opened only where the reader is used: elsewhere nothing but the place is needed.
unfoldable pub StandsAt : Login → Place → Reader → Type 0
StandsAt login p r = IsAt login p r.stand

-- the program's walk, where its reading is at this place
abbrev pub walk_of : Place → Walker → Walk
walk_of p c = record { spot = c.spot; closed = c.reader.closed; place = p }

-- The program is there in the walk.
pub record IsAtWalk (login : Login) (w : Walk) (c : Walker) : Type 0 where
  pub at : StandsAt login w.place c.reader
  pub walk_is : walk_of w.place c ≡ w

-- the reading is at a place
abbrev pub IsSomewhere : Login → Walker → Type 0
IsSomewhere login c = (p : Place) × StandsAt login p c.reader

-- The program knows whether this is right, and does it if it is.
pub record Done (login : Login) (R : Walk → Type 0) (f : Walk → Walk) (w : Walk) (right : Bool) (new : Walker) : Type 0 where
  pub right_is : Decides right (R w)
  pub after : right ≡ true → IsAtWalk login (f w) new

abbrev pub Does : Login → (Walk → Type 0) → (Walk → Walk) → Walker → Bool → Walker → Type 0
Does login R f old right new = (p : Place) → StandsAt login p old.reader → Done login R f (walk_of p old) right new

-- The call that was read is right or not, and the reading is after it.
abbrev pub IsReadCall : Login → TapeSeen → Bool → Walker → TapeCall → Bool → Walker → Type 0
IsReadCall login t cancelled old c right new = (p : Place) → StandsAt login p old.reader
    → ReadsCall login (read_at login t cancelled (walk_of p old) c) right new.reader

-- before the first line
pub record IsStart (login : Login) (n : ℕ) (c : Walker) : Type 0 where
  pub at : StandsAt login (first_place login) c.reader
  pub walk_is : walk_of (first_place login) c ≡ start login n

-- the program knows whether the tape is used up
abbrev pub IsOverAt : Login → TapeSeen → Walker → Bool → Type 0
IsOverAt login t c over = (p : Place) → StandsAt login p c.reader → Decides over (IsOver login t (walk_of p c) c.spot.status)

-- wherever the program's reading is, a stream took the set that is read, or whose end is left, or none did
abbrev pub IsTakenAt : Walker → Bool → Type 0
IsTakenAt c taken = (login : Login) (p : Place) → StandsAt login p c.reader
    → taken ≡ not c.reader.closed && is_taken p

-- and the program knows whether the call in turn is the one that the step begins, which names this statement or none
abbrev pub Begins : TapeSeen → Option StatementView → Step → Walker → Bool → Type 0
Begins t named step c right = (login : Login) (p : Place) → StandsAt login p c.reader
    → Decides right (IsBegun (begun_in named (walk_of p c) step) (slice_get t.calls c.spot.next))

-- and whether the line shows what the server said by then, where it shows any of it
abbrev pub IsToldAt : Walker → Outcome → Bool → Type 0
IsToldAt c outcome right = (login : Login) (p : Place) → StandsAt login p c.reader → Decides right (IsTold login p outcome)

-- and how many bytes were sent by then
abbrev pub IsSentAt : Walker → ℕ → Type 0
IsSentAt c n = (login : Login) (p : Place) → StandsAt login p c.reader → n ≡ length p.sent
