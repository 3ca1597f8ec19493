-- What holds of each connection's tape in a run.
use Rattle.std.specs.Prelude.{ℕ, List, [], ◌∷◌}
use Rattle.my_grammar.specs.declared.login.Login.{Login}
use Rattle.my_frame.specs.FrontLaws.{AreBytes}
use Rattle.my_reading.specs.Endings.{IsTape}
use Rattle.my_script.specs.declared.step.Step.{Step}
use Rattle.my_script.specs.declared.transcript.StepAnswer.{StepAnswer}
use Rattle.my_script.specs.declared.transcript.Tape.{Tape}
use Rattle.my_client.specs.Reads.{tape_kept}
use Rattle.my_link.specs.World.{Plans}
use Rattle.my_steps.specs.Dialing.{Course}
use Rattle.my_steps.specs.Grows.{Line}
use Rattle.my_steps.specs.Handle.{Handle, Absent, Dialing, Joined, at_number}
use Rattle.my_run.specs.Headline.{Headline}
use Rattle.history_laws.specs.Lawful.{IsLawfulTape}

-- what is at a number has a tape of a client that logs in so
abbrev pub HasTape : Login → Handle → Type 0
HasTape login Absent = Unit {0}
HasTape login (Dialing left) = Unit {0}
HasTape login (Joined there k x) = IsTape login (tape_kept k)

-- so it is at each number after each line
abbrev pub AtEach : (Handle → Type 0) → List Line → Type 0
AtEach P [] = Unit {0}
AtEach P (l ∷ ls) = ((n : ℕ) → P (at_number l.handles n)) × AtEach P ls

-- After each line of a run each connection's tape is one that the reading accepts: its first call connects and no
-- other does, each call ended as it comes to, or is open there, what was sent is a beginning of what the calls say,
-- and the calls stand in order.
abbrev pub EachTapeIsRead : Type 0
EachTapeIsRead = (login : Login) (plans : Plans) (before later : Course) (steps : List Step) (answers : List StepAnswer) (tapes : List Tape)
    → (h : Headline login plans before later steps answers tapes) → AtEach (HasTape login) h.lines

-- Where what was received are bytes, the tape is lawful: it has one list of exchanges and one of calls of which all
-- laws of history_laws hold.
abbrev pub HasLaw : Login → Handle → Type 0
HasLaw login Absent = Unit {0}
HasLaw login (Dialing left) = Unit {0}
HasLaw login (Joined there k x) = AreBytes k.taken → IsLawfulTape login (tape_kept k)

abbrev pub EachTapeIsLawful : Type 0
EachTapeIsLawful = (login : Login) (plans : Plans) (before later : Course) (steps : List Step)
    (answers : List StepAnswer) (tapes : List Tape) → (h : Headline login plans before later steps answers tapes)
    → AtEach (HasLaw login) h.lines
