-- What clauses see of a connection.
use Rattle.std.specs.Prelude.{◌≡◌, Bool, true, false, Option, None}
use Rattle.my_grammar.specs.declared.login.Login.{Login}
use Rattle.my_reading.specs.declared.call.CallKind.{CallKind}
use Rattle.my_session.specs.View.{Lifetime}
use Rattle.my_session.specs.Sessions.{Seen}
use Rattle.my_session.specs.View.{View}
use Rattle.my_client.specs.declared.tape.Tape.{Tape}
use Rattle.my_client.specs.Kept.{Kept}
use Rattle.my_client.specs.StandsFor.{StandsFor}
use Rattle.my_conn.specs.declared.conn.Fixed.{Fixed}

-- its session, and what that was made with; its link; its tape, where one is kept; the kind of the open call; whether
-- it is lost; and what no call changes
pub record ConnSeen (L : Type 0) : Type 0 where
  pub seen : Seen
  pub lifetime : Lifetime
  pub link : L
  pub tape : Option Tape
  pub pending : Option CallKind
  pub lost : Bool
  pub fixed : Fixed

abbrev pub session_of : {L : Type 0} → ConnSeen L → View
session_of c = record { seen = c.seen; lifetime = c.lifetime }

-- unless it is lost, there is something that it did; where it is lost, no call is open
abbrev pub Standing : Bool → Seen → Option Tape → Option CallKind → Type 0
Standing false s t o = (login : Login) × (k : Kept) × StandsFor login s t o k
Standing true s t o = o ≡ None
