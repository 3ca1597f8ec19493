-- What a payload is in its context. MySQL client/server protocol, "Connection Phase", "Generic Response Packets", "Text
-- Resultset", "Binary Protocol Resultset" and "COM_STMT_PREPARE Response": in each place the forms that fit there, in the order in which they are tried.
use Rattle.std.specs.Prelude.{ℕ, List, codes, Option, Some, None, Bool, true, false, if◌then◌else◌}
use Rattle.std.specs.Str.{bytes_eq}
use Rattle.my_flags.specs.declared.flags.CapabilityFlags.{CapabilityFlags}
use Rattle.my_flags.specs.Sets.{deprecates_eof}
use Rattle.my_reply.specs.declared.ok.OkPacket.{OkPacket}
use Rattle.my_reply.specs.declared.err.ErrPacket.{ErrPacket}
use Rattle.my_reply.specs.declared.eof.EofPacket.{EofPacket}
use Rattle.my_reply.specs.OkPacket.{ok_at, end_ok_at}
use Rattle.my_reply.specs.ErrPacket.{err_at}
use Rattle.my_reply.specs.EofPacket.{eof_at}
use Rattle.my_handshake.specs.declared.greeting.Greeting.{Greeting}
use Rattle.my_handshake.specs.Greeting.{greeting_at}
use Rattle.my_reply.specs.declared.column_count.ColumnCount.{ColumnCount}
use Rattle.my_reply.specs.ColumnCount.{column_count_at}
use Rattle.my_reply.specs.declared.column.Column.{Column as ColumnPacket}
use Rattle.my_reply.specs.Column.{column_at}
use Rattle.my_reply.specs.declared.replies.PrepareOk.{PrepareOk}
use Rattle.my_reply.specs.Replies.{prepare_ok_at}
use Rattle.my_value.specs.declared.value.Value.{Value}
use Rattle.my_value.specs.TextRow.{text_row_at}
use Rattle.my_value.specs.BinaryRow.{binary_row_at}
use Rattle.my_auth.specs.declared.chain.AuthStand.{AuthStand}
use Rattle.my_auth.specs.declared.chain.AuthMove.{AuthMove}
use Rattle.my_auth.specs.declared.chain.AuthMove.TheVariants.{Over, Ask, Refuse}
use Rattle.my_auth.specs.Chain.{move_at}
use Rattle.my_grammar.specs.declared.spot.RowFormat.{RowFormat}
use Rattle.my_grammar.specs.declared.spot.RowFormat.TheVariants.{Text, Binary}
use Rattle.my_grammar.specs.declared.spot.Spot.{Spot}
use Rattle.my_grammar.specs.declared.spot.Spot.TheVariants as spots
use Rattle.my_grammar.specs.declared.spot.Kind.{Kind}
use Rattle.my_grammar.specs.declared.spot.Kind.TheVariants.{Greets, Asks, Good, Failed, Count, Column, ColumnsDone, Row, End, Prepared, Parameter, Field, Bad}
use Rattle.my_grammar.specs.declared.spot.Context.{Context}

-- the first form where the payload has it; else the other
abbrev pub or_else : Kind → Kind → Kind
or_else Bad k = k
or_else k l = k

-- an OK, where one is read
abbrev pub good_kind : Option OkPacket → Kind
good_kind None = Bad
good_kind (Some ok) = Good ok.status

-- an ERR
abbrev pub failed_kind : Option ErrPacket → Kind
failed_kind None = Bad
failed_kind (Some e) = Failed

-- a count of columns
abbrev pub count_kind : Option ColumnCount → Kind
count_kind None = Bad
count_kind (Some columns) = Count columns.count

-- whether a plugin's name is that of the way to log in with a cached SHA-256
abbrev pub is_caching : List ℕ → Bool
is_caching plugin = bytes_eq plugin (codes "caching_sha2_password")

-- a server that deprecates EOF; where it names another plugin than `caching_sha2_password`, its nonce is answered by the native one
abbrev pub offer_kind : CapabilityFlags → List ℕ → Kind
offer_kind capabilities plugin =
    if deprecates_eof capabilities then Greets (record { capabilities = capabilities; caching = is_caching plugin }) else Bad

-- a greeting
abbrev pub greets_kind : Option Greeting → Kind
greets_kind None = Bad
greets_kind (Some g) = offer_kind g.capabilities g.plugin

-- a column packet: a column of a set, or a parameter or a column of a statement
abbrev pub described_kind : Kind → Option ColumnPacket → Kind
described_kind k None = Bad
described_kind k (Some c) = k

-- the EOF after columns
abbrev pub done_kind : Option EofPacket → Kind
done_kind None = Bad
done_kind (Some e) = ColumnsDone

-- a set's end by an OK, or by an EOF
abbrev pub ended_kind : Option OkPacket → Kind
ended_kind None = Bad
ended_kind (Some ok) = End ok.status

abbrev pub eof_kind : Option EofPacket → Kind
eof_kind None = Bad
eof_kind (Some e) = End e.status

-- the cells of a row: n of the text protocol, or of the binary protocol as the columns say
abbrev pub cells_at : RowFormat → ℕ → List ColumnPacket → List ℕ → Option (List Value)
cells_at Text n columns p = text_row_at n p
cells_at Binary n columns p = binary_row_at columns p

abbrev pub cells_kind : Option (List Value) → Kind
cells_kind None = Bad
cells_kind (Some cells) = Row

-- What may come in the place of a greeting: an ERR there has no state.
abbrev pub greeting_kind : List ℕ → Kind
greeting_kind p = or_else (greets_kind (greeting_at p)) (failed_kind (err_at true p))

-- What may come where one OK or ERR is awaited.
abbrev pub single_kind : List ℕ → Kind
single_kind p = or_else (good_kind (ok_at p)) (failed_kind (err_at false p))

-- What may come in the chain by which a client shows who it is: what the client refuses fits nowhere.
abbrev pub auth_kind_by : AuthMove → List ℕ → Kind
auth_kind_by Over p = single_kind p
auth_kind_by (Ask ask) p = Asks ask
auth_kind_by (Refuse refusal) p = Bad

abbrev pub auth_kind : AuthStand → List ℕ → Kind
auth_kind stand p = auth_kind_by (move_at stand p) p

-- What may come as the head of a set.
abbrev pub head_kind : List ℕ → Kind
head_kind p = or_else (good_kind (ok_at p)) (or_else (failed_kind (err_at false p)) (count_kind (column_count_at false p)))

-- What may come in the place of a column: no ERR.
abbrev pub column_kind : List ℕ → Kind
column_kind p = described_kind Column (column_at p)

-- What may follow the columns of a server that doesn't deprecate EOF.
abbrev pub columns_end_kind : List ℕ → Kind
columns_end_kind p = done_kind (eof_at p)

-- A set's end.
abbrev pub end_kind : Bool → List ℕ → Kind
end_kind true p = ended_kind (end_ok_at p)
end_kind false p = eof_kind (eof_at p)

-- What may come in the place of a row of n columns, which are these: an end is tried first.
abbrev pub row_kind : RowFormat → Bool → ℕ → List ColumnPacket → List ℕ → Kind
row_kind rows deprecates n columns p = or_else (end_kind deprecates p) (or_else (failed_kind (err_at false p)) (cells_kind (cells_at rows n columns p)))

-- the head of a prepare reply
abbrev pub prepared_kind : Option PrepareOk → Kind
prepared_kind None = Bad
prepared_kind (Some head) = Prepared head.params head.columns

-- What may answer a statement to prepare: no OK of another form.
abbrev pub prepare_kind : List ℕ → Kind
prepare_kind p = or_else (prepared_kind (prepare_ok_at p)) (failed_kind (err_at false p))

-- What may come in the place of a statement's parameter, or of a column of its rows: no ERR.
abbrev pub parameter_kind : List ℕ → Kind
parameter_kind p = described_kind Parameter (column_at p)

abbrev pub field_kind : List ℕ → Kind
field_kind p = described_kind Field (column_at p)

-- what a payload is in each place
abbrev pub kind_by : Spot → RowFormat → Bool → ℕ → List ColumnPacket → List ℕ → Kind
kind_by spots.Idle rows deprecates n columns p = Bad
kind_by (spots.Greeting rules) rows deprecates n columns p = greeting_kind p
kind_by (spots.Authentication stand) rows deprecates n columns p = auth_kind stand p
kind_by spots.Single rows deprecates n columns p = single_kind p
kind_by spots.Head rows deprecates n columns p = head_kind p
kind_by spots.Further rows deprecates n columns p = head_kind p
kind_by (spots.Columns left) rows deprecates n columns p = column_kind p
kind_by spots.ColumnsEnd rows deprecates n columns p = columns_end_kind p
kind_by spots.Rows rows deprecates n columns p = row_kind rows deprecates n columns p
kind_by spots.Prepare rows deprecates n columns p = prepare_kind p
kind_by (spots.Parameters left fields) rows deprecates n columns p = parameter_kind p
kind_by (spots.ParametersEnd fields) rows deprecates n columns p = columns_end_kind p
kind_by (spots.Fields left) rows deprecates n columns p = field_kind p
kind_by spots.FieldsEnd rows deprecates n columns p = columns_end_kind p

-- what a payload is in its context, where the columns of the set that is being read are these
abbrev pub kind_there : Context → List ColumnPacket → List ℕ → Kind
kind_there c columns p = kind_by c.spot c.rows (deprecates_eof c.terms.kept) c.columns columns p
