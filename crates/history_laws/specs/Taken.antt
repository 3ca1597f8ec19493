-- The bytes that the server sent in exchanges.
use Rattle.std.specs.Prelude.{◌≡◌, ℕ, List, [], ◌∷◌, ◌++◌}
use Rattle.my_frame.specs.FrontLaws.{AreBytes}
use Rattle.my_grammar.specs.declared.login.Login.{Login}
use Rattle.my_grammar.specs.Talk.{server_bytes, turns}
use Rattle.my_reading.specs.Order.{IsInOrder}
use Rattle.my_reading.specs.Place.{Exchange, exchanges}
use Rattle.my_reading.specs.Reading.{reading}
use Rattle.my_reading.specs.Tape.{Tape}

abbrev pub taken_by : List Exchange → List ℕ
taken_by [] = []
taken_by (e ∷ es) = taken_by es ++ server_bytes (turns e.talk)

-- What was received is the server's part of the exchanges, and bytes that weren't read.
abbrev pub EachIsSpelled : Type 0
EachIsSpelled = (login : Login) (t : Tape) → AreBytes t.taken → IsInOrder t → taken_by (exchanges (reading login t).place) ++ (reading login t).place.unread ≡ t.taken
