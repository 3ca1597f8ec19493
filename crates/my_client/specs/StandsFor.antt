-- What a line did, for which its session stands.
use Rattle.std.specs.Prelude.{◌≡◌, Option, true, option_map}
use Rattle.my_grammar.specs.declared.login.Login.{Login}
use Rattle.my_reading.specs.declared.call.CallKind.{CallKind}
use Rattle.my_reading.specs.Calls.{kind_of}
use Rattle.my_client.specs.Made.{has_connected}
use Rattle.my_client.specs.declared.tape.Tape.{Tape}
use Rattle.my_client.specs.Kept.{Kept, made_of}
use Rattle.my_client.specs.Notes.{Agrees}
use Rattle.my_session.specs.Sessions.{Seen}
use Rattle.my_client.specs.Stands.{Rests}

abbrev pub kind_kept : Kept → Option CallKind
kind_kept k = option_map (λ a. kind_of a.call) k.pending

-- This is what the connection did: its session is where the reading of it is, the tape agrees with it, it was
-- connected, and this call is open.
pub record StandsFor (login : Login) (s : Seen) (t : Option Tape) (o : Option CallKind) (k : Kept) : Type 0 where
  pub rests : Rests login s k
  pub agrees : Agrees t k
  pub connected : has_connected (made_of k.calls) ≡ true
  pub pending_is : o ≡ kind_kept k
