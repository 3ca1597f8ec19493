-- The sets that a server may send. MySQL client/server protocol, "Text Resultset" and "Binary Protocol Resultset": each payload is what fits in its place.
use Rattle.std.specs.Prelude.{◌≡◌, ℕ, ◌+◌, ◌<◌, List, [], ◌∷◌, length, Option, Some, None, Bool, true, false}
use Rattle.my_reply.specs.declared.column.Column.{Column}
use Rattle.my_grammar.specs.declared.spot.RowFormat.{RowFormat}
use Rattle.my_grammar.specs.declared.spot.Spot.{Spot}
use Rattle.my_grammar.specs.declared.spot.Spot.TheVariants as spots
use Rattle.my_grammar.specs.declared.spot.Kind.{Kind}
use Rattle.my_grammar.specs.declared.spot.Kind.TheVariants as kinds
use Rattle.my_grammar.specs.Kinds.{head_kind, column_kind, columns_end_kind, row_kind}
use Rattle.my_grammar.specs.Sets.{SetHead, Sets, NoSets, Lone, Failed, Heading, Headed, Begun, Ended, Broken, spot_in, format_in, head_columns}

-- a place for a set's head
abbrev pub is_head : Spot → Bool
is_head spots.Head = true
is_head spots.Further = true
is_head s = false

-- each is a column
abbrev pub AreColumns : List (List ℕ) → Type 0
AreColumns [] = Unit {0}
AreColumns (p ∷ ps) = (column_kind p ≡ kinds.Column) × AreColumns ps

-- each is a row of n columns, which are these, and no end
abbrev pub AreRows : RowFormat → Bool → ℕ → List Column → List (List ℕ) → Type 0
AreRows format deprecates n columns [] = Unit {0}
AreRows format deprecates n columns (p ∷ ps) = (row_kind format deprecates n columns p ≡ kinds.Row) × AreRows format deprecates n columns ps

-- the payload is of this kind in the place of a row under the head
abbrev pub IsInRows : Bool → Sets → SetHead → List ℕ → Kind → Type 0
IsInRows deprecates older head p k = row_kind (format_in older) deprecates head.number (head_columns head) p ≡ k

-- an EOF follows the columns exactly where the server doesn't deprecate it
abbrev pub IsClose : Bool → Option (List ℕ) → Type 0
IsClose true None = Unit {0}
IsClose true (Some p) = ⊥
IsClose false None = ⊥
IsClose false (Some p) = columns_end_kind p ≡ kinds.ColumnsDone

-- A head in its place, of which left columns are awaited.
pub record IsHeading (older : Sets) (head : SetHead) (left : ℕ) : Type 0 where
  pub place : is_head (spot_in older) ≡ true
  pub count : head_kind head.count ≡ kinds.Count head.number
  pub columns : AreColumns head.columns
  pub all : left + length head.columns ≡ head.number

-- A whole head in its place, and rows.
pub record IsBegun (deprecates : Bool) (older : Sets) (head : SetHead) (rows : List (List ℕ)) : Type 0 where
  pub heading : IsHeading older head 0
  pub close : IsClose deprecates head.close
  pub filled : AreRows (format_in older) deprecates head.number (head_columns head) rows

-- Each set is one that may follow the older ones.
abbrev pub FitSets : Bool → Sets → Type 0
FitSets deprecates (NoSets asking) = Unit {0}
FitSets deprecates (Lone older p status) = (is_head (spot_in older) ≡ true) × (head_kind p ≡ kinds.Good status) × FitSets deprecates older
FitSets deprecates (Failed older p) = (is_head (spot_in older) ≡ true) × (head_kind p ≡ kinds.Failed) × FitSets deprecates older
FitSets deprecates (Heading older head left) = IsHeading older head left × (0 < left) × (head.close ≡ None) × FitSets deprecates older
FitSets deprecates (Headed older head) = IsHeading older head 0 × (deprecates ≡ false) × (head.close ≡ None) × FitSets deprecates older
FitSets deprecates (Begun older head rows) = IsBegun deprecates older head rows × FitSets deprecates older
FitSets deprecates (Ended older head rows last status) = IsBegun deprecates older head rows × IsInRows deprecates older head last (kinds.End status) × FitSets deprecates older
FitSets deprecates (Broken older head rows last) = IsBegun deprecates older head rows × IsInRows deprecates older head last kinds.Failed × FitSets deprecates older
