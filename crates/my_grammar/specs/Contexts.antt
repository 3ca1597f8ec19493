-- Where the reading of an exchange follows a payload of a kind. MySQL client/server protocol, "Connection Phase" and
-- "COM_QUERY Response" and "COM_STMT_PREPARE Response": a greeting, an answer to it, a chain of requests and answers and an OK or ERR
-- make a connection; a response is a chain of sets; a set is a lone
-- OK or ERR, or a count, that many columns, an EOF unless the server deprecates it, rows and an end; an OK or an end whose status has
-- SERVER_MORE_RESULTS_EXISTS is followed by another set; the head of a prepare reply has two numbers, that many column packets for the
-- parameters and that many for the columns follow, and after each of the two an EOF unless the server deprecates it.
use Rattle.std.specs.Prelude.{ℕ, ◌-◌, ◌==◌, nat_le, Bool, true, false, if◌then◌else◌}
use Rattle.my_flags.specs.declared.flags.StatusFlags.{StatusFlags}
use Rattle.my_flags.specs.Sets.{deprecates_eof, has_more_results, intersection}
use Rattle.my_flags.specs.declared.flags.CapabilityFlags.{CapabilityFlags}
use Rattle.my_auth.specs.declared.chain.AuthRules.{AuthRules}
use Rattle.my_auth.specs.declared.chain.AuthStand.{AuthStand}
use Rattle.my_auth.specs.Chain.{after_ask, first_stand}
use Rattle.my_auth.specs.Plugins.{challenge_plugin}
use Rattle.my_grammar.specs.declared.spot.Spot.{Spot}
use Rattle.my_grammar.specs.declared.spot.Spot.TheVariants.{Idle, Greeting, Authentication, Single, Head, Further, Columns, ColumnsEnd, Rows, Prepare, Parameters, ParametersEnd, Fields, FieldsEnd}
use Rattle.my_grammar.specs.declared.spot.Kind.{Kind}
use Rattle.my_grammar.specs.declared.spot.Kind.TheVariants.{Greets, Asks, Good, Count, Column, ColumnsDone, Row, End, Prepared, Bad}
use Rattle.my_grammar.specs.declared.spot.Context.{Context}

-- after an OK or an end with this status
abbrev pub more : StatusFlags → Spot
more status = if has_more_results status then Further else Idle

-- after the last column
abbrev pub after_columns : Bool → Spot
after_columns deprecates = if deprecates then Rows else ColumnsEnd

-- after a column, where left columns were awaited
abbrev pub after_column : Bool → ℕ → Spot
after_column deprecates left = if nat_le left 1 then after_columns deprecates else Columns (left - 1)

-- after a payload in the place of a greeting
abbrev pub after_greeting : AuthRules → Kind → Spot
after_greeting rules (Greets offer) = Authentication (first_stand rules (challenge_plugin offer.caching))
after_greeting rules k = Idle

-- after a payload in a chain
abbrev pub after_authentication : AuthStand → Kind → Spot
after_authentication stand (Asks ask) = Authentication (after_ask stand ask)
after_authentication stand k = Idle

-- after a payload in the place of a set's head
abbrev pub after_head : Kind → Spot
after_head (Good status) = more status
after_head (Count columns) = Columns columns
after_head k = Idle

-- after a payload in the place of a row
abbrev pub after_row : Kind → Spot
after_row Row = Rows
after_row (End status) = more status
after_row k = Idle

-- after the last parameter of a statement, of whose columns this many are described
abbrev pub after_parameters : ℕ → Spot
after_parameters columns = if columns == 0 then Idle else Fields columns

-- after the head of a prepare reply with these numbers
abbrev pub after_prepared : ℕ → ℕ → Spot
after_prepared params columns = if params == 0 then after_parameters columns else Parameters params columns

-- after a payload in the place of a prepare reply's head
abbrev pub after_prepare : Kind → Spot
after_prepare (Prepared params columns) = after_prepared params columns
after_prepare k = Idle

-- after a parameter, where left parameters were awaited
abbrev pub after_parameter : Bool → ℕ → ℕ → Spot
after_parameter deprecates left columns =
    if nat_le left 1
    then (if deprecates then after_parameters columns else ParametersEnd columns)
    else Parameters (left - 1) columns

-- after a column of a statement, where left columns were awaited
abbrev pub after_field : Bool → ℕ → Spot
after_field deprecates left = if nat_le left 1 then (if deprecates then Idle else FieldsEnd) else Fields (left - 1)

-- what is awaited after a payload of this kind
abbrev pub spot_after : Bool → Spot → Kind → Spot
spot_after deprecates Idle k = Idle
spot_after deprecates (Greeting rules) k = after_greeting rules k
spot_after deprecates (Authentication stand) k = after_authentication stand k
spot_after deprecates Single k = Idle
spot_after deprecates Head k = after_head k
spot_after deprecates Further k = after_head k
spot_after deprecates (Columns left) k = after_column deprecates left
spot_after deprecates ColumnsEnd k = Rows
spot_after deprecates Rows k = after_row k
spot_after deprecates Prepare k = after_prepare k
spot_after deprecates (Parameters left columns) k = after_parameter deprecates left columns
spot_after deprecates (ParametersEnd columns) k = after_parameters columns
spot_after deprecates (Fields left) k = after_field deprecates left
spot_after deprecates FieldsEnd k = Idle

-- the columns of the set that is being read
abbrev pub columns_after : ℕ → Kind → ℕ
columns_after columns (Count n) = n
columns_after columns Column = columns
columns_after columns ColumnsDone = columns
columns_after columns Row = columns
columns_after columns _ = 0

-- the capabilities of both sides, once the server sent its own
abbrev pub kept_after : CapabilityFlags → Kind → CapabilityFlags
kept_after kept (Greets offer) = intersection kept offer.capabilities
kept_after kept k = kept

-- the context after a payload of this kind
abbrev pub context_after : Context → Kind → Context
context_after c k = record {
  spot = spot_after (deprecates_eof c.terms.kept) c.spot k;
  rows = c.rows;
  columns = columns_after c.columns k;
  terms = record { kept = kept_after c.terms.kept k; limit = c.terms.limit };
}

-- a payload that fits no case
abbrev pub is_bad : Kind → Bool
is_bad Bad = true
is_bad _ = false
