-- The replies to a statement to prepare, and to a query that reads a file of the client.
-- MySQL internals, "Prepared Statements": COM_STMT_PREPARE_OK; "Text Resultset": LOCAL INFILE Request.
use Rattle.std.specs.Prelude.{◌≡◌, ℕ, List, ◌∷◌, Option, Some}
use Rattle.my_frame.specs.Numbers.{IsBytes, IsNumber, bytes_at, head_at, number_at, ◌>>=◌}
use Rattle.my_reply.specs.declared.replies.PrepareOk.{PrepareOk}
use Rattle.my_reply.specs.declared.replies.InfileRequest.{InfileRequest}

-- The payload says that a statement was prepared; one byte between its numbers is ignored, and so are those after them.
pub record IsPrepareOk (payload : List ℕ) (prepared : PrepareOk) : Type 0 where
  pub filler : List ℕ
  pub after_head : List ℕ
  pub after_id : List ℕ
  pub after_columns : List ℕ
  pub after_params : List ℕ
  pub after_filler : List ℕ
  pub rest : List ℕ
  pub spelled : payload ≡ 0x00 ∷ after_head
  pub id : IsNumber 4 after_head prepared.id after_id
  pub columns : IsNumber 2 after_id prepared.columns after_columns
  pub params : IsNumber 2 after_columns prepared.params after_params
  pub filler_is : IsBytes 1 after_params filler after_filler
  pub warnings : IsNumber 2 after_filler prepared.warnings rest

-- The payload asks for the file of this name.
abbrev pub IsInfile : List ℕ → InfileRequest → Type 0
IsInfile payload infile = payload ≡ 0xFB ∷ infile.name

-- the same as functions that read
unfoldable pub prepare_ok_at : List ℕ → Option PrepareOk
prepare_ok_at payload = do
  rest ← head_at 0x00 payload
  id ← number_at 4 rest
  columns ← number_at 2 id.1
  params ← number_at 2 columns.1
  filler ← bytes_at 1 params.1
  warnings ← number_at 2 filler.1
  Some (record { id = id.0; columns = columns.0; params = params.0; warnings = warnings.0 })

abbrev pub infile_at : List ℕ → Option InfileRequest
infile_at payload = do
  rest ← head_at 0xFB payload
  Some (record { name = rest })
