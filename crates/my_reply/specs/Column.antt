-- The packet that describes one column of a set of rows.
-- MySQL internals, "Text Resultset": Column Definition (ColumnDefinition41).
use Rattle.std.specs.Prelude.{◌≡◌, ℕ, ◌&&◌, List, length, Option, Some, None, ◌==◌, if◌then◌else◌}
use Rattle.my_frame.specs.Numbers.{IsNumber, IsLen, IsText, number_at, len_at, text_at, ◌>>=◌}
use Rattle.my_reply.specs.declared.column.Column.{Column}
use Rattle.my_reply.specs.declared.column.Names.{Names}
use Rattle.my_reply.specs.declared.column.Form.{Form}

-- The bytes begin with a catalog, which is ignored, and these names.
pub record IsNames (bytes : List ℕ) (names : Names) (rest : List ℕ) : Type 0 where
  pub catalog : List ℕ
  pub after_catalog : List ℕ
  pub after_schema : List ℕ
  pub after_table : List ℕ
  pub after_org_table : List ℕ
  pub after_name : List ℕ
  pub catalog_is : IsText bytes catalog after_catalog
  pub schema : IsText after_catalog names.schema after_schema
  pub table : IsText after_schema names.table after_table
  pub org_table : IsText after_table names.org_table after_org_table
  pub name : IsText after_org_table names.name after_name
  pub org_name : IsText after_name names.org_name rest

-- The bytes are the twelve of a form after their length: numbers, and two more that are ignored.
pub record IsForm (bytes : List ℕ) (form : Form) : Type 0 where
  pub after_size : List ℕ
  pub after_charset : List ℕ
  pub after_length : List ℕ
  pub after_type : List ℕ
  pub after_flags : List ℕ
  pub filler : List ℕ
  pub size : IsLen bytes 0x0C after_size
  pub charset : IsNumber 2 after_size form.charset after_charset
  pub max_length : IsNumber 4 after_charset form.length after_length
  pub column_type : IsNumber 1 after_length form.column_type after_type
  pub flags : IsNumber 2 after_type form.flags after_flags
  pub decimals : IsNumber 1 after_flags form.decimals filler
  pub ends : length filler ≡ 2

-- a column of these names and this form
abbrev pub column_of : Names → Form → Column
column_of names form = record {
  schema = names.schema;
  table = names.table;
  org_table = names.org_table;
  name = names.name;
  org_name = names.org_name;
  charset = form.charset;
  length = form.length;
  column_type = form.column_type;
  flags = form.flags;
  decimals = form.decimals;
}

-- The payload describes this column.
pub record IsColumn (payload : List ℕ) (column : Column) : Type 0 where
  pub names : Names
  pub form : Form
  pub after_names : List ℕ
  pub named : IsNames payload names after_names
  pub formed : IsForm after_names form
  pub both : column ≡ column_of names form

-- the same as functions that read
unfoldable pub names_at : List ℕ → Option (Names × List ℕ)
names_at bytes = do
  catalog ← text_at bytes
  schema ← text_at catalog.1
  table ← text_at schema.1
  org_table ← text_at table.1
  name ← text_at org_table.1
  org_name ← text_at name.1
  Some (
    record {
      schema = schema.0;
      table = table.0;
      org_table = org_table.0;
      name = name.0;
      org_name = org_name.0;
    },
    org_name.1,
  )

unfoldable pub form_at : List ℕ → Option Form
form_at bytes = do
  size ← len_at bytes
  charset ← number_at 2 size.1
  max_length ← number_at 4 charset.1
  column_type ← number_at 1 max_length.1
  flags ← number_at 2 column_type.1
  decimals ← number_at 1 flags.1
  if (size.0 == 0x0C) && (length decimals.1 == 2) then Some (record {
    charset = charset.0;
    length = max_length.0;
    column_type = column_type.0;
    flags = flags.0;
    decimals = decimals.0;
  }) else None

abbrev pub column_at : List ℕ → Option Column
column_at payload = do
  names ← names_at payload
  form ← form_at names.1
  Some (column_of names.0 form)
