-- Values of bytes that are sent before the execution of their statement.
-- MySQL internals, "COM_STMT_SEND_LONG_DATA": a piece of a parameter's value, after the statement's number and the
-- parameter's place; the server joins the pieces of each parameter.
use Rattle.std.specs.Prelude.{ℕ, zero, suc, ◌+◌, ◌-◌, ◌/◌, List, [], ◌∷◌, ◌++◌, length, map, take, drop, if◌then◌else◌}
use Rattle.my_command.specs.Client.Packet.{long_data_bytes}
use Rattle.my_value.specs.declared.value.Value.{Value}
use Rattle.my_value.specs.declared.value.Value.TheVariants.{Bytes}
use Rattle.my_params.specs.declared.ahead.TheConstants.{MOST_LONG_PIECE}
use Rattle.my_params.specs.Parameters.{needs_long}

-- so many pieces that are as long as may be, and what is left as one more
abbrev pub split_pieces : ℕ → List ℕ → List (List ℕ)
split_pieces zero bytes = bytes ∷ []
split_pieces (suc count) bytes = take MOST_LONG_PIECE bytes ∷ split_pieces count (drop MOST_LONG_PIECE bytes)

-- the pieces of a value: no more than it needs, and one, an empty one, where it has no bytes
abbrev pub pieces_of : List ℕ → List (List ℕ)
pieces_of bytes = split_pieces ((length bytes - 1) / MOST_LONG_PIECE) bytes

-- the payloads that send the value at a place: one for each piece of bytes, none for any other value
abbrev pub long_value : ℕ → ℕ → Value → List (List ℕ)
long_value id place (Bytes text) = map (long_data_bytes id place) (pieces_of text)
long_value id place v = []

-- those of the values from a place on
abbrev pub long_data_from : ℕ → ℕ → List Value → List (List ℕ)
long_data_from id place [] = []
long_data_from id place (v ∷ vs) = long_value id place v ++ long_data_from id (place + 1) vs

-- the payloads that send the values of bytes to this statement
abbrev pub long_data : ℕ → List Value → List (List ℕ)
long_data id values = long_data_from id 0 values

-- the payloads before the one that executes the statement with these values
abbrev pub ahead_of : ℕ → List Value → List (List ℕ)
ahead_of id values = if needs_long values then long_data id values else []
