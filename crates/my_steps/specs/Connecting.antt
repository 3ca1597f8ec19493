-- What dialing a connection and polling its handshake does.
use Rattle.std.specs.Prelude.{ℕ, ◌≡◌, [], ◌∷◌, ◌++◌, List, Some}
use Rattle.my_handshake.specs.Version.{version_of}
use Rattle.my_grammar.specs.declared.login.Login.{Login}
use Rattle.my_session.specs.Sessions.{Seen}
use Rattle.my_client.specs.declared.tape.Tape.{Tape}
use Rattle.my_conn.specs.declared.connecting.Connected.{Connected as Connection}
use Rattle.my_conn.specs.declared.connecting.Connected.TheVariants as connected
use Rattle.my_conn.specs.declared.unmade.Unmade.{Unmade}
use Rattle.my_steps.specs.declared.slot.Slot.{Slot}
use Rattle.my_steps.specs.declared.slot.Slot.TheVariants.{Connecting, There, Ended}
use Rattle.my_script.specs.declared.transcript.Outcome.{Outcome}
use Rattle.my_script.specs.declared.transcript.Outcome.TheVariants.{Pending, Connected, Failed}
use Rattle.my_script.specs.declared.transcript.Use.{Use}
use Rattle.my_steps.specs.Grows.{Connects, Dials}
use Rattle.my_link.specs.declared.met.Met.{Met}
use Rattle.my_link.specs.World.{Plans, SameLink}
use Rattle.my_steps.specs.Keeps.{IsStood, IsAwaited, ShakesBy}
use Rattle.my_client.specs.Kept.{Asked, Kept, first_asked, first_kept}
use Rattle.my_conn.specs.Connects.{ConnectSeen}
use Rattle.my_link.specs.Looks.{Looks}
use Rattle.my_steps.specs.Slot.{HasLink, handle_with, handle_of, kept_some}
use Rattle.my_steps.specs.Sums.{quiet, use_of}
use Rattle.my_steps.specs.declared.outcome.StepResult.{StepResult}

-- what a step shows of a connection that was made
abbrev pub greeted_by : ℕ → Seen → Outcome
greeted_by n s = Connected n s.stand.facts.connection (version_of s.stand.facts.version)

-- where a tape is left of a connection that wasn't made, it is at the number
abbrev pub UnmadeIs : {L : Type 0} → Unmade L → Slot L → Outcome → Type 0
UnmadeIs u slot o = (t : Tape) × (u.tape ≡ Some t) × (slot ≡ Ended t u.link) × (o ≡ Failed u.error)

-- what is at the number after a poll of the handshake, and what the step shows
abbrev pub Settles : {L : Type 0} → ℕ → Connection L → Slot L → Outcome → Type 0
Settles n (connected.Pending c) slot o = (slot ≡ Connecting c) × (o ≡ Pending)
Settles n (connected.Made c) slot o = (slot ≡ There c) × (o ≡ greeted_by n c.seen)
Settles n (connected.Failed u) slot o = UnmadeIs u slot o

-- a poll of the handshake, and what is at the number after it
pub record Joins {L : Type 0} (look : L → Looks) (login : Login) (n : ℕ) (a : Asked) (k : Kept) (x : Looks)
    (slot : Slot L) (o : Outcome) (used : Use) : Type 0 where
  pub stood : IsStood login slot
  pub linked : HasLink slot
  pub number : used.number ≡ n
  pub does : Connects login n a k x o used (handle_of look slot)

-- A dial of number n in a world with the plans `before`, and `later` after it, and what is there then. Where the link's plan is
-- the one that was told, it is the link's.
pub record Dialed {L : Type 0} (look : L → Looks) (login : Login) (n : ℕ) (before later : Plans) (slot : Slot L)
    (o : Outcome) (us : List Use) : Type 0 where
  pub stood : IsStood login slot
  pub awaited : IsAwaited before later n slot
  pub does : (plans : Plans) → SameLink plans before n
      → Dials login (plans.reads n) (plans.writes n) (before.dials n) n o us (handle_with look (later.dials n) slot)

-- of each handshake that may be open on the connection: a poll of it, which met this
abbrev pub EachShakes : {L : Type 0} → (L → Looks) → ℕ → ConnectSeen L → Slot L → Outcome → Met → Type 0
EachShakes look n c slot o m = (login : Login) (a : Asked) → ShakesBy login c a
    → Joins look login n a (kept_some c.tape) (look c.link) slot o (use_of n m)

-- and a poll after these uses
abbrev pub EachJoins : {L : Type 0} → (L → Looks) → ℕ → List Use → ConnectSeen L → Slot L → StepResult → Type 0
EachJoins look n before c slot r = (login : Login) (a : Asked) → ShakesBy login c a
    → (used : Use) × (r.uses.items ≡ before ++ used ∷ [])
    × Joins look login n a (kept_some c.tape) (look c.link) slot r.outcome used

-- the poll of a connection's first call, after the dial that gave its link
abbrev pub JoinsFirst : {L : Type 0} → (L → Looks) → Login → ℕ → Looks → Slot L → StepResult → Type 0
JoinsFirst look login n x slot r = (used : Use) × (r.uses.items ≡ quiet n ∷ used ∷ [])
    × Joins look login n first_asked first_kept x slot r.outcome used
