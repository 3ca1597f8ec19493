-- What was sent on a connection, by its exchanges.
use Rattle.std.specs.Prelude.{◌≡◌, ℕ, List, [], ◌∷◌, ◌++◌, Bool, true, false}
use Rattle.my_grammar.specs.declared.login.Login.{Login}
use Rattle.my_grammar.specs.declared.packet.Packet.{Packet}
use Rattle.my_grammar.specs.Growth.{is_calm}
use Rattle.my_grammar.specs.Talk.{Talk, client_bytes, packets_of, turns}
use Rattle.my_reading.specs.Endings.{IsTape}
use Rattle.my_reading.specs.Place.{Place, begins_with, client_side, exchanges, owed}
use Rattle.my_reading.specs.Reading.{reading}
use Rattle.my_reading.specs.Tape.{Tape}

-- What was sent is a beginning of what the client says in the exchanges.
abbrev pub EachIsSent : Type 0
EachIsSent = (login : Login) (t : Tape) → IsTape login t → begins_with (client_side (exchanges (reading login t).place)) t.sent ≡ true

-- the newest payload answers what the client said last
abbrev pub ends_answered : List Packet → Bool
ends_answered [] = false
ends_answered (packet ∷ packets) = is_calm packet.kind

abbrev pub is_answered : Talk → Bool
is_answered t = ends_answered (packets_of t)

-- What was sent is all that the client says in the older exchanges, and what it says in the newest one, but for what is owed: nothing where
-- the server answered.
pub record IsSentOf (p : Place) (sent : List ℕ) : Type 0 where
  pub gone : List ℕ
  pub sent_is : sent ≡ client_side p.older ++ gone
  pub all : gone ++ owed p ≡ client_bytes (turns p.talk)
  pub answered : is_answered p.talk ≡ true → owed p ≡ []

abbrev pub EachIsSaid : Type 0
EachIsSaid = (login : Login) (t : Tape) → IsTape login t → IsSentOf (reading login t).place t.sent
