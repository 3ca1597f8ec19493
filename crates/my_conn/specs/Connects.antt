-- What clauses see of a connection that is being made, and what a poll of it that fails does.
use Rattle.std.specs.Prelude.{◌≡◌, ◌⊎◌, Option, None, is_some}
use Rattle.my_link.specs.Aid.{Texts}
use Rattle.my_link.specs.Looks.{Looks}
use Rattle.my_link.specs.Met.{nothing_met}
use Rattle.my_link.specs.declared.met.Met.{Met}
use Rattle.my_reading.specs.declared.error.Error.TheVariants.{NoMemory}
use Rattle.my_session.specs.View.{Lifetime}
use Rattle.my_session.specs.Sessions.{Seen}
use Rattle.my_session.specs.View.{View}
use Rattle.my_client.specs.declared.tape.Tape.{Tape}
use Rattle.my_client.specs.Makes.{WhyNotMade}
use Rattle.my_client.specs.declared.texts.Making.{Making}
use Rattle.my_conn.specs.declared.conn.Fixed.{Fixed}
use Rattle.my_conn.specs.declared.unmade.Unmade.{Unmade}

-- its session, and what that was made with; its link; its tape, where one is kept; which call of it is open; and what
-- no call changes
pub record ConnectSeen (L : Type 0) : Type 0 where
  pub seen : Seen
  pub lifetime : Lifetime
  pub link : L
  pub tape : Option Tape
  pub at : Making
  pub fixed : Fixed

abbrev pub session_in : {L : Type 0} → ConnectSeen L → View
session_in c = record { seen = c.seen; lifetime = c.lifetime }

-- memory ran out: nothing is said of its link, and no tape is kept
pub record RanOut {L : Type 0} (m : Met) (u : Unmade L) : Type 0 where
  pub error : u.error ≡ NoMemory
  pub tape : u.tape ≡ None
  pub met : m ≡ nothing_met

-- it failed, and its link and its tape are handed back as they were left
pub record IsLeft {L : Type 0} (look : L → Looks) (texts : Texts) (old : ConnectSeen L) (m : Met) (u : Unmade L) : Type 0 where
  pub why : WhyNotMade texts old.at (look old.link) (look u.link) old.seen old.tape u.tape m u.error
  pub keeps : is_some u.tape ≡ is_some old.tape

abbrev pub ConnectFails : {L : Type 0} → (L → Looks) → Texts → ConnectSeen L → Met → Unmade L → Type 0
ConnectFails look texts old m u = RanOut m u ⊎ IsLeft look texts old m u
