-- What a connection did that is being made.
use Rattle.std.specs.Prelude.{◌≡◌, Bool, true, false, List, [], ◌∷◌, None}
use Rattle.my_grammar.specs.declared.login.Login.{Login}
use Rattle.my_reading.specs.declared.call.CallKind.{CallKind}
use Rattle.my_reading.specs.declared.call.CallKind.TheVariants.{Connect, Query, DropResult}
use Rattle.my_reading.specs.Calls.{kind_of}
use Rattle.my_reading.specs.Told.{ToldReady}
use Rattle.my_client.specs.declared.tape.DoneCall.{DoneCall}
use Rattle.my_client.specs.Kept.{Kept, told_by}
use Rattle.my_client.specs.Makes.{MakesFor}
use Rattle.my_conn.specs.Connects.{ConnectSeen}

-- its handshake, a text, and a pass over what is left of the result
abbrev pub makes_one : CallKind → Bool
makes_one Connect = true
makes_one Query = true
makes_one DropResult = true
makes_one kind = false

-- each call was one of these, and was answered
pub record IsMakingCall (d : DoneCall) : Type 0 where
  pub makes : makes_one (kind_of d.call) ≡ true
  pub ready : told_by d.said ≡ ToldReady

abbrev pub AreMaking : List DoneCall → Type 0
AreMaking [] = Unit {0}
AreMaking (d ∷ ds) = IsMakingCall d × AreMaking ds

-- So it may be with what it did, where it is.
pub record IsBeingMade {L : Type 0} (c : ConnectSeen L) : Type 0 where
  pub login : Login
  pub kept : Kept
  pub makes : MakesFor login c.at None c.seen c.tape kept
  pub calls : AreMaking kept.calls
