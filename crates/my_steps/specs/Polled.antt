-- What a poll of a connection's call does.
use Rattle.std.specs.Prelude.{ℕ, ◌≡◌, List, [], ◌∷◌, Option, Bool, true, false}
use Rattle.my_grammar.specs.declared.login.Login.{Login}
use Rattle.my_link.specs.Looks.{Looks}
use Rattle.my_link.specs.declared.met.Met.{Met}
use Rattle.my_reading.specs.declared.call.Call.{Call}
use Rattle.my_reading.specs.declared.error.Error.TheVariants.{NoMemory}
use Rattle.my_client.specs.declared.poll.After.{After}
use Rattle.my_client.specs.declared.poll.After.TheVariants.{Failed}
use Rattle.my_client.specs.Calls.{Does}
use Rattle.my_conn.specs.Conn.{ConnSeen}
use Rattle.my_script.specs.declared.transcript.Outcome.{Outcome}
use Rattle.my_script.specs.declared.transcript.Use.{Use}
use Rattle.my_steps.specs.declared.outcome.StepResult.{StepResult}
use Rattle.my_steps.specs.Grows.{IsClosed, shown}
use Rattle.my_steps.specs.Handle.{Joined}
use Rattle.my_steps.specs.Keeps.{StandsBy}
use Rattle.my_steps.specs.Slot.{kept_of}

-- whether memory ran out in it
abbrev pub ran_out : After → Bool
ran_out (Failed NoMemory) = true
ran_out _ = false

-- the poll, and the connection after it
pub record ConnPolled {L : Type 0} (look : L → Looks) (login : Login) (call : Option Call) (c d : ConnSeen L) (m : Met)
    (after : After) : Type 0 where
  pub stood : StandsBy login d
  pub does : Does login call (look c.link) (look d.link) (kept_of c) (kept_of d) m after

-- of each login for which the connection stands
abbrev pub EachPolled : {L : Type 0} → (L → Looks) → Option Call → ConnSeen L → ConnSeen L → Met → After → Type 0
EachPolled look call c d m after = (login : Login) → StandsBy login c → ConnPolled look login call c d m after

-- so a step shows it
pub record ConnShown {L : Type 0} (look : L → Looks) (login : Login) (n : ℕ) (call : Option Call) (c d : ConnSeen L)
    (o : Outcome) (us : List Use) : Type 0 where
  pub after : After
  pub used : Use
  pub polled : ConnPolled look login call c d used.met after
  pub number : used.number ≡ n
  pub uses : us ≡ used ∷ []
  pub outcome : o ≡ shown after

abbrev pub EachShown : {L : Type 0} → (L → Looks) → ℕ → Option Call → ConnSeen L → ConnSeen L → StepResult → Type 0
EachShown look n call c d r =
    (login : Login) → StandsBy login c → ConnShown look login n call c d r.outcome r.uses.items

-- a call that a closed connection refuses
pub record ConnRefused {L : Type 0} (look : L → Looks) (login : Login) (call : Call) (c d : ConnSeen L) (o : Outcome)
    (us : List Use) : Type 0 where
  pub stood : StandsBy login d
  pub closed : IsClosed (kept_of c) (look c.link) call o us (Joined true (kept_of d) (look d.link))

abbrev pub EachRefused : {L : Type 0} → (L → Looks) → Call → ConnSeen L → ConnSeen L → StepResult → Type 0
EachRefused look call c d r =
    (login : Login) → StandsBy login c → ConnRefused look login call c d r.outcome r.uses.items
