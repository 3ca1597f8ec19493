-- Lists of values as the rows of a bulk execution, and the types of their columns.
-- MariaDB, "COM_STMT_BULK_EXECUTE".
use Rattle.std.specs.Prelude.{ℕ, Bool, true, false, ◌&&◌, ◌||◌, List, [], ◌∷◌, map, Option, ◌==◌, if◌then◌else◌}
use Rattle.my_value.specs.declared.value.Value.{Value}
use Rattle.my_command.specs.declared.statement.ParameterType.{ParameterType}
use Rattle.my_command.specs.Client.Statement.{row_bytes}
use Rattle.my_params.specs.Sending.{type_of}
use Rattle.my_params.specs.Parameters.{cell_of}

-- the type 6 of a column whose values are all NULL
abbrev pub is_null_type : ParameterType → Bool
is_null_type t = t.kind == 6

abbrev pub is_same_type : ParameterType → ParameterType → Bool
is_same_type s t = (s.kind == t.kind) && (s.flag == t.flag)

-- whether values of these two types can be in one column: NULL agrees with all
abbrev pub agree : ParameterType → ParameterType → Bool
agree s t = (is_null_type s || is_null_type t) || is_same_type s t

-- the type of a column that had one type, and gets a value of another that agrees with it
abbrev pub joined : ParameterType → ParameterType → ParameterType
joined s t = if is_null_type s then t else s

-- whether a list has a value for each column, each of a type that agrees with the column's
abbrev pub types_agree : List ParameterType → List Value → Bool
types_agree [] [] = true
types_agree [] (v ∷ vs) = false
types_agree (t ∷ ts) [] = false
types_agree (t ∷ ts) (v ∷ vs) = agree t (type_of v) && types_agree ts vs

-- the columns' types with those of one more list
abbrev pub joined_types : List ParameterType → List Value → List ParameterType
joined_types [] vs = []
joined_types (t ∷ ts) [] = []
joined_types (t ∷ ts) (v ∷ vs) = joined t (type_of v) ∷ joined_types ts vs

-- a list as a row
abbrev pub row_of : List Value → List (Option (List ℕ))
row_of values = map cell_of values

-- a list as it is written
abbrev pub list_bytes : List Value → List ℕ
list_bytes values = row_bytes (row_of values)
