-- A response as a list of sets, newest first inside, so that each payload more is one constructor. MySQL client/server protocol,
-- "COM_QUERY Response", "COM_STMT_EXECUTE Response", "Text Resultset", "Binary Protocol Resultset" and "Multi-Resultset".
use Rattle.std.specs.Prelude.{ℕ, ◌-◌, nat_le, List, [], ◌∷◌, ◌++◌, Option, Some, None, Bool, if◌then◌else◌}
use Rattle.my_flags.specs.declared.flags.StatusFlags.{StatusFlags}
use Rattle.my_reply.specs.declared.column.Column.{Column}
use Rattle.my_reply.specs.Column.{column_at}
use Rattle.my_grammar.specs.declared.spot.RowFormat.{RowFormat}
use Rattle.my_grammar.specs.declared.spot.RowFormat.TheVariants.{Text, Binary}
use Rattle.my_grammar.specs.declared.spot.Spot.{Spot}
use Rattle.my_grammar.specs.declared.spot.Spot.TheVariants as spots
use Rattle.my_grammar.specs.declared.spot.Kind.{Kind}
use Rattle.my_grammar.specs.declared.spot.Kind.TheVariants as kinds
pub use Rattle.my_grammar.specs.declared.packet.Packet.{Packet}
use Rattle.my_grammar.specs.declared.spot.Terms.{Terms}
use Rattle.my_grammar.specs.declared.spot.Context.{Context}
use Rattle.my_grammar.specs.Contexts.{more}

-- the head of a set with columns: the count as it was received and its number, the columns so far, and the EOF after them
pub record SetHead : Type 0 where
  pub count : List ℕ
  pub number : ℕ
  pub columns : List (List ℕ)
  pub close : Option (List ℕ)

-- How sets are asked for: by a query, or by executing a statement. Ahead of it the client sends these payloads, in order: parts of long
-- values (COM_STMT_SEND_LONG_DATA), which no server answers. These columns are known of the statement. They will be the columns of a set
-- that the server sends without describing them again. No server may do so yet, and nothing reads them.
pub data Asking : Type 0 where
  ByText : Asking
  ByStatement : (ahead : List (List ℕ)) (known : List Column) → Asking

-- No set of a response that was asked for so; or after the older ones a lone OK, an ERR in a head's place, a head of which left columns
-- are awaited, a head whose EOF is left, rows under a whole head, rows with their end, or rows that an ERR broke off.
pub data Sets : Type 0 where
  NoSets : (asking : Asking) → Sets
  Lone : (older : Sets) (p : List ℕ) (status : StatusFlags) → Sets
  Failed : (older : Sets) (p : List ℕ) → Sets
  Heading : (older : Sets) (head : SetHead) (left : ℕ) → Sets
  Headed : (older : Sets) (head : SetHead) → Sets
  Begun : (older : Sets) (head : SetHead) (rows : List (List ℕ)) → Sets
  Ended : (older : Sets) (head : SetHead) (rows : List (List ℕ)) (last : List ℕ) (status : StatusFlags) → Sets
  Broken : (older : Sets) (head : SetHead) (rows : List (List ℕ)) (last : List ℕ) → Sets

-- payloads of one kind, in front of others
abbrev pub each : Kind → List (List ℕ) → List Packet → List Packet
each k [] others = others
each k (p ∷ ps) others = record { kind = k; payload = p } ∷ each k ps others

abbrev pub at_most_one : Kind → Option (List ℕ) → List Packet → List Packet
at_most_one k None others = others
at_most_one k (Some p) others = record { kind = k; payload = p } ∷ others

abbrev pub head_packets : SetHead → List Packet → List Packet
head_packets h others = at_most_one kinds.ColumnsDone h.close (each kinds.Column h.columns (record { kind = kinds.Count h.number; payload = h.count } ∷ others))

-- the payloads of the sets with what they are, the newest first
abbrev pub packets_in : Sets → List Packet
packets_in (NoSets asking) = []
packets_in (Lone older p status) = record { kind = kinds.Good status; payload = p } ∷ packets_in older
packets_in (Failed older p) = record { kind = kinds.Failed; payload = p } ∷ packets_in older
packets_in (Heading older head left) = head_packets head (packets_in older)
packets_in (Headed older head) = head_packets head (packets_in older)
packets_in (Begun older head rows) = each kinds.Row rows (head_packets head (packets_in older))
packets_in (Ended older head rows last status) = record { kind = kinds.End status; payload = last } ∷ each kinds.Row rows (head_packets head (packets_in older))
packets_in (Broken older head rows last) = record { kind = kinds.Failed; payload = last } ∷ each kinds.Row rows (head_packets head (packets_in older))

-- what is awaited after them
abbrev pub spot_in : Sets → Spot
spot_in (NoSets asking) = spots.Head
spot_in (Lone older p status) = more status
spot_in (Failed older p) = spots.Idle
spot_in (Heading older head left) = spots.Columns left
spot_in (Headed older head) = spots.ColumnsEnd
spot_in (Begun older head rows) = spots.Rows
spot_in (Ended older head rows last status) = more status
spot_in (Broken older head rows last) = spots.Idle

-- the number of columns of the set that is being read
abbrev pub columns_in : Sets → ℕ
columns_in (Heading older head left) = head.number
columns_in (Headed older head) = head.number
columns_in (Begun older head rows) = head.number
columns_in _ = 0

-- how they were asked for
abbrev pub asking_in : Sets → Asking
asking_in (NoSets asking) = asking
asking_in (Lone older p status) = asking_in older
asking_in (Failed older p) = asking_in older
asking_in (Heading older head left) = asking_in older
asking_in (Headed older head) = asking_in older
asking_in (Begun older head rows) = asking_in older
asking_in (Ended older head rows last status) = asking_in older
asking_in (Broken older head rows last) = asking_in older

-- a statement's rows are of the binary protocol
abbrev pub format_of : Asking → RowFormat
format_of ByText = Text
format_of (ByStatement ahead known) = Binary

abbrev pub format_in : Sets → RowFormat
format_in x = format_of (asking_in x)

abbrev pub context_in : Terms → Sets → Context
context_in terms x = record { spot = spot_in x; rows = format_in x; columns = columns_in x; terms = terms }

-- the columns of a head, in order, of its packets, which are newest first
abbrev pub column_list : Option Column → List Column
column_list None = []
column_list (Some c) = c ∷ []

abbrev pub columns_in_order : List (List ℕ) → List Column
columns_in_order [] = []
columns_in_order (p ∷ ps) = columns_in_order ps ++ column_list (column_at p)

abbrev pub head_columns : SetHead → List Column
head_columns head = columns_in_order head.columns

-- the columns of the set that is being read, as far as they are described
abbrev pub described_in : Sets → List Column
described_in (Heading older head left) = head_columns head
described_in (Headed older head) = head_columns head
described_in (Begun older head rows) = head_columns head
described_in _ = []

-- one payload more, of each kind
abbrev pub with_column_of : SetHead → List ℕ → SetHead
with_column_of h p = record { count = h.count; number = h.number; columns = p ∷ h.columns; close = h.close }

abbrev pub with_close_of : SetHead → List ℕ → SetHead
with_close_of h p = record { count = h.count; number = h.number; columns = h.columns; close = Some p }

abbrev pub with_column : Bool → Sets → List ℕ → Sets
with_column deprecates (Heading older head left) p =
    if nat_le left 1
    then (if deprecates then Begun older (with_column_of head p) [] else Headed older (with_column_of head p))
    else Heading older (with_column_of head p) (left - 1)
with_column deprecates x p = x

abbrev pub with_close : Sets → List ℕ → Sets
with_close (Headed older head) p = Begun older (with_close_of head p) []
with_close x p = x

abbrev pub with_row : Sets → List ℕ → Sets
with_row (Begun older head rows) p = Begun older head (p ∷ rows)
with_row x p = x

abbrev pub with_end : Sets → List ℕ → StatusFlags → Sets
with_end (Begun older head rows) p status = Ended older head rows p status
with_end x p status = x

abbrev pub with_error : Sets → List ℕ → Sets
with_error (Begun older head rows) p = Broken older head rows p
with_error x p = Failed x p

abbrev pub grow_sets : Bool → Kind → Sets → List ℕ → Sets
grow_sets deprecates (kinds.Greets offer) x p = x
grow_sets deprecates (kinds.Asks ask) x p = x
grow_sets deprecates (kinds.Good status) x p = Lone x p status
grow_sets deprecates kinds.Failed x p = with_error x p
grow_sets deprecates (kinds.Count n) x p = Heading x (record { count = p; number = n; columns = []; close = None }) n
grow_sets deprecates kinds.Column x p = with_column deprecates x p
grow_sets deprecates kinds.ColumnsDone x p = with_close x p
grow_sets deprecates kinds.Row x p = with_row x p
grow_sets deprecates (kinds.End status) x p = with_end x p status
grow_sets deprecates (kinds.Prepared params columns) x p = x
grow_sets deprecates kinds.Parameter x p = x
grow_sets deprecates kinds.Field x p = x
grow_sets deprecates kinds.Bad x p = x
