-- What a poll of a connection that is being made returns.
use Rattle.std.specs.Prelude.{ℕ, ◌≡◌, None, false, is_some}
use Rattle.my_link.specs.Aid.{Texts}
use Rattle.my_link.specs.Looks.{Looks}
use Rattle.my_link.specs.declared.met.Met.{Met}
use Rattle.my_client.specs.Makes.{IsMade, StaysMaking}
use Rattle.my_conn.specs.declared.connecting.Connected.{Connected}
use Rattle.my_conn.specs.declared.connecting.Connected.TheVariants.{Pending, Made, Failed}
use Rattle.my_conn.specs.Conn.{ConnSeen, session_of}
use Rattle.my_conn.specs.Connects.{ConnectFails, ConnectSeen, session_in}

-- it isn't made yet
pub record Stays {L : Type 0} (look : L → Looks) (texts : Texts) (now : ℕ) (old new : ConnectSeen L) (m : Met) : Type 0 where
  pub stays : StaysMaking texts now old.at new.at (look old.link) (look new.link) (session_in old) (session_in new) old.tape new.tape m
  pub keeps : is_some new.tape ≡ is_some old.tape
  pub fixed : new.fixed ≡ old.fixed

-- the connection was made
pub record MakesIt {L : Type 0} (look : L → Looks) (texts : Texts) (now : ℕ) (old : ConnectSeen L) (c : ConnSeen L) (m : Met) : Type 0 where
  pub made : IsMade texts now old.at (look old.link) (look c.link) (session_in old) (session_of c) old.tape c.tape m
  pub keeps : is_some c.tape ≡ is_some old.tape
  pub fixed : c.fixed ≡ old.fixed
  pub pending : c.pending ≡ None
  pub lost : c.lost ≡ false

abbrev pub ConnectIs : {L : Type 0} → (L → Looks) → Texts → ℕ → ConnectSeen L → Met → Connected L → Type 0
ConnectIs look texts now old m (Pending c) = Stays look texts now old c m
ConnectIs look texts now old m (Made c) = MakesIt look texts now old c m
ConnectIs look texts now old m (Failed u) = ConnectFails look texts old m u
