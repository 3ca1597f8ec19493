-- What a step did to what is at one number, and to all numbers.
use Rattle.std.specs.Prelude.{◌≡◌, ◌≤◌, ℕ, List, None, length, Bool, true, false, ◌&&◌}
use Rattle.my_grammar.specs.declared.login.Login.{Login}
use Rattle.my_link.specs.Looks.{Looks}
use Rattle.my_link.specs.declared.line.WorldLine.{WorldLine}
use Rattle.my_link.specs.declared.line.WorldLine.TheVariants as lines
use Rattle.my_link.specs.World.{Plans}
use Rattle.my_reading.specs.Calls.{kind_of, is_connect}
use Rattle.my_script.specs.declared.aim.Aim.{Aim}
use Rattle.my_script.specs.declared.transcript.Outcome.{Outcome}
use Rattle.my_script.specs.declared.transcript.Use.{Use}
use Rattle.my_conn.specs.Conn.{ConnSeen}
use Rattle.my_steps.specs.declared.outcome.StepResult.{StepResult}
use Rattle.my_steps.specs.declared.slot.Slot.{Slot}
use Rattle.my_steps.specs.declared.slot.Slot.TheVariants.{There}
use Rattle.my_script.specs.declared.action.Work.{Work}
use Rattle.my_script.specs.declared.action.Work.TheVariants as works
use Rattle.my_steps.specs.Dialing.{is_dialing}
use Rattle.my_steps.specs.Grows.{Follows, WorkAt}
use Rattle.my_steps.specs.Handle.{Handle}
use Rattle.my_steps.specs.Keeps.{StandsBy, IsStood, AreStood, IsAwaited, AreAwaited}
use Rattle.my_steps.specs.Slot.{handle_with, handle_of, handles_in}

-- at number n: what is there is kept, and the transcript's fact holds
pub record Did {L : Type 0} (look : L → Looks) (login : Login) (R : Handle → Outcome → List Use → Handle → Type 0)
    (o : Outcome) (us : List Use) (old new : Slot L) : Type 0 where
  pub stood : IsStood login new
  pub does : R (handle_of look old) o us (handle_of look new)

-- at all numbers
pub record Stepped {L : Type 0} (login : Login) (old new : List (Slot L)) (Fact : Type 0) : Type 0 where
  pub stood : AreStood login new
  pub longer : length old ≤ length new
  pub grows : Fact

-- no plan is known; on a connection none is needed
abbrev pub untold : Plans
untold = record { reads = λ n. None; writes = λ n. None; dials = λ n. None }

-- lines that give no link anything
abbrev pub IsMoving : WorldLine → Type 0
IsMoving (lines.Advance by) = Unit {0}
IsMoving (lines.Random word) = Unit {0}
IsMoving line = ⊥

-- of each login for which what is at the number stands: what a step's work did to it
abbrev pub EachDid : {L : Type 0} → (L → Looks) → ℕ → Work → Slot L → Slot L → StepResult → Type 0
EachDid look n work old new r = (login : Login) → IsStood login old
    → Did look login (WorkAt login untold n work) r.outcome r.uses.items old new

-- how a connection read on with this aim
abbrev pub EachFollowed : {L : Type 0} → (L → Looks) → ℕ → Aim → ConnSeen L → Slot L → StepResult → Type 0
EachFollowed look n aim c slot r = (login : Login) → StandsBy login c
    → Did look login (Follows aim login n) r.outcome r.uses.items (There c) slot

-- at number n, in a world with the plans `before`, and `later` after the step: what is there is kept, the link of a dial that
-- isn't ready stays as it is planned, and the transcript's fact holds
pub record DidAt {L : Type 0} (look : L → Looks) (login : Login) (plans before later : Plans) (n : ℕ)
    (R : Handle → Outcome → List Use → Handle → Type 0) (o : Outcome) (us : List Use) (old new : Slot L) : Type 0 where
  pub stood : IsStood login new
  pub awaited : IsAwaited plans later n new
  pub does : R (handle_with look (before.dials n) old) o us (handle_with look (later.dials n) new)

-- what it did to what is at a number, in a world that told these plans of its link
abbrev pub DoesAt : {L : Type 0} → (L → Looks) → Login → Plans → Plans → ℕ → Work → Slot L → Slot L → StepResult → Type 0
DoesAt look login before later n work old new r = (plans : Plans) → IsAwaited plans before n old → IsStood login old
    → DidAt look login plans before later n (WorkAt login plans n work) r.outcome r.uses.items old new

-- a held dial is tried again by a poll
abbrev pub is_poll : Work → Bool
is_poll (works.Begin call) = false
is_poll (works.Read aim) = false
is_poll works.Item = false
is_poll works.LetGo = false
is_poll works.Miss = false
is_poll works.Fields = false
is_poll (works.Poll aim) = true
is_poll works.Cancel = false

abbrev pub redials : Handle → Work → Bool
redials h work = is_dialing h && is_poll work

-- what a step did to all numbers, in a world with the plans `before`, and `later` after the step, that told these plans of the
-- links which are still to be dialed
abbrev pub StepsOn : {L : Type 0} → (L → Looks) → Login → Plans → Plans → List (Slot L) → List (Slot L)
    → (Plans → List Handle → Outcome → List Use → List Handle → Type 0) → StepResult → Type 0
StepsOn look login before later old new R r = (plans : Plans) → AreAwaited plans before 0 old → AreStood login old
    → Stepped login old new
    (AreAwaited plans later 0 new
    × R plans (handles_in look before old) r.outcome r.uses.items (handles_in look later new))

-- no work begins the handshake
abbrev pub MayWork : Work → Type 0
MayWork (works.Begin call) = is_connect (kind_of call) ≡ false
MayWork (works.Read aim) = Unit {0}
MayWork works.Item = Unit {0}
MayWork works.LetGo = Unit {0}
MayWork works.Miss = Unit {0}
MayWork works.Fields = Unit {0}
MayWork (works.Poll aim) = Unit {0}
MayWork works.Cancel = Unit {0}
