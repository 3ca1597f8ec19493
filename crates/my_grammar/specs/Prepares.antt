-- The reply to a statement to prepare, so that each payload more is one constructor or one element of a list. MySQL client/server
-- protocol, "COM_STMT_PREPARE Response": an ERR, or a head with two numbers, then that many column packets for the parameters, and that
-- many for the columns of the statement's rows; after each of the two an EOF, where there is a packet and the server doesn't deprecate it.
use Rattle.std.specs.Prelude.{ℕ, ◌-◌, ◌==◌, nat_le, List, [], ◌∷◌, Option, Some, None, Bool, if◌then◌else◌}
use Rattle.my_grammar.specs.declared.spot.Spot.{Spot}
use Rattle.my_grammar.specs.declared.spot.Spot.TheVariants as spots
use Rattle.my_grammar.specs.declared.spot.Kind.{Kind}
use Rattle.my_grammar.specs.declared.spot.Kind.TheVariants as kinds
use Rattle.my_grammar.specs.declared.spot.RowFormat.TheVariants.{Text}
use Rattle.my_grammar.specs.declared.packet.Packet.{Packet}
use Rattle.my_grammar.specs.declared.spot.Terms.{Terms}
use Rattle.my_grammar.specs.declared.spot.Context.{Context}
use Rattle.my_grammar.specs.Sets.{each, at_most_one}

-- the head as it was received, with its numbers of parameters and of columns
pub record PreparedHead : Type 0 where
  pub payload : List ℕ
  pub params : ℕ
  pub columns : ℕ

-- all column packets for the parameters, or for the columns, the newest first, and the EOF after them
pub record Described : Type 0 where
  pub packets : List (List ℕ)
  pub close : Option (List ℕ)

-- Nothing yet, or an ERR in the head's place; or after a head some parameters, of which left are awaited, or all whose EOF is left; after
-- the whole parameters some columns, of which left are awaited, or all whose EOF is left; or all of both.
pub data Reply : Type 0 where
  Unanswered : Reply
  Refused : (p : List ℕ) → Reply
  InParameters : (head : PreparedHead) (parameters : List (List ℕ)) (left : ℕ) → Reply
  AfterParameters : (head : PreparedHead) (parameters : List (List ℕ)) → Reply
  InFields : (head : PreparedHead) (parameters : Described) (fields : List (List ℕ)) (left : ℕ) → Reply
  AfterFields : (head : PreparedHead) (parameters : Described) (fields : List (List ℕ)) → Reply
  Complete : (head : PreparedHead) (parameters fields : Described) → Reply

-- the payloads with what they are, the newest first
abbrev pub described_packets : Kind → Described → List Packet → List Packet
described_packets k w others = at_most_one kinds.ColumnsDone w.close (each k w.packets others)

abbrev pub head_packet : PreparedHead → List Packet
head_packet h = record { kind = kinds.Prepared h.params h.columns; payload = h.payload } ∷ []

abbrev pub packets_in_reply : Reply → List Packet
packets_in_reply Unanswered = []
packets_in_reply (Refused p) = record { kind = kinds.Failed; payload = p } ∷ []
packets_in_reply (InParameters head parameters left) = each kinds.Parameter parameters (head_packet head)
packets_in_reply (AfterParameters head parameters) = each kinds.Parameter parameters (head_packet head)
packets_in_reply (InFields head parameters fields left) = each kinds.Field fields (described_packets kinds.Parameter parameters (head_packet head))
packets_in_reply (AfterFields head parameters fields) = each kinds.Field fields (described_packets kinds.Parameter parameters (head_packet head))
packets_in_reply (Complete head parameters fields) = described_packets kinds.Field fields (described_packets kinds.Parameter parameters (head_packet head))

-- what is awaited after them
abbrev pub spot_in_reply : Reply → Spot
spot_in_reply Unanswered = spots.Prepare
spot_in_reply (Refused p) = spots.Idle
spot_in_reply (InParameters head parameters left) = spots.Parameters left head.columns
spot_in_reply (AfterParameters head parameters) = spots.ParametersEnd head.columns
spot_in_reply (InFields head parameters fields left) = spots.Fields left
spot_in_reply (AfterFields head parameters fields) = spots.FieldsEnd
spot_in_reply (Complete head parameters fields) = spots.Idle

abbrev pub context_in_reply : Terms → Reply → Context
context_in_reply terms r = record { spot = spot_in_reply r; rows = Text; columns = 0; terms = terms }

-- packets of a part, with an EOF or without
abbrev pub open_part : List (List ℕ) → Described
open_part ps = record { packets = ps; close = None }

abbrev pub closed_part : List (List ℕ) → List ℕ → Described
closed_part ps p = record { packets = ps; close = Some p }

-- the parameters are whole
abbrev pub with_parameters : PreparedHead → Described → Reply
with_parameters h w = if h.columns == 0 then Complete h w (open_part []) else InFields h w [] h.columns

-- one payload more, of each kind
abbrev pub with_head : Reply → PreparedHead → Reply
with_head Unanswered h = if h.params == 0 then with_parameters h (open_part []) else InParameters h [] h.params
with_head r h = r

abbrev pub with_parameter : Bool → Reply → List ℕ → Reply
with_parameter deprecates (InParameters head parameters left) p =
    if nat_le left 1
    then (if deprecates then with_parameters head (open_part (p ∷ parameters)) else AfterParameters head (p ∷ parameters))
    else InParameters head (p ∷ parameters) (left - 1)
with_parameter deprecates r p = r

abbrev pub with_field : Bool → Reply → List ℕ → Reply
with_field deprecates (InFields head parameters fields left) p =
    if nat_le left 1
    then (if deprecates then Complete head parameters (open_part (p ∷ fields)) else AfterFields head parameters (p ∷ fields))
    else InFields head parameters (p ∷ fields) (left - 1)
with_field deprecates r p = r

abbrev pub with_part_end : Reply → List ℕ → Reply
with_part_end (AfterParameters head parameters) p = with_parameters head (closed_part parameters p)
with_part_end (AfterFields head parameters fields) p = Complete head parameters (closed_part fields p)
with_part_end r p = r

abbrev pub grow_reply : Bool → Kind → Reply → List ℕ → Reply
grow_reply deprecates kinds.Failed r p = Refused p
grow_reply deprecates (kinds.Prepared params columns) r p = with_head r (record { payload = p; params = params; columns = columns })
grow_reply deprecates kinds.Parameter r p = with_parameter deprecates r p
grow_reply deprecates kinds.Field r p = with_field deprecates r p
grow_reply deprecates kinds.ColumnsDone r p = with_part_end r p
grow_reply deprecates _ r p = r
