-- The text of a run: a line for each answer, then what each connection sent and took.
use Rattle.std.specs.Prelude.{ℕ, ◌+◌, ◌==◌, Bool, true, false, List, [], ◌∷◌, ◌++◌, length, codes, if◌then◌else◌}
use Rattle.std.specs.Fmt.{decimal}
use Rattle.hex.specs.Hex.{encode_lower}
use Rattle.my_handshake.specs.declared.version.ServerVersion.{ServerVersion}
use Rattle.my_statements.specs.Prepared.{StatementView}
use Rattle.my_script.specs.declared.transcript.Outcome.{Outcome}
use Rattle.my_script.specs.declared.transcript.Outcome.TheVariants.{Done, Pending, SetEnd, NoSet, Row, Rows, Prepared, Flag, Fields, Connected, Failed, NoSuchHandle}
use Rattle.my_script.specs.declared.transcript.StepAnswer.{StepAnswer}
use Rattle.my_script.specs.declared.transcript.Tape.{Tape}
use Rattle.my_script.specs.TextParts.{marked}
use Rattle.my_script.specs.OkText.{fields_text, named_text}
use Rattle.my_script.specs.ValueText.{row_text, rows_text}
use Rattle.my_script.specs.ErrorText.{error_text}

unfoldable pub version_text : ServerVersion → List ℕ
version_text v = codes " version=" ++ decimal v.major ++ marked 46 v.minor ++ marked 46 v.patch

-- `conn C id=I version=A.B.C`
unfoldable pub connected_text : ℕ → ℕ → ServerVersion → List ℕ
connected_text number id version = codes "conn " ++ decimal number ++ codes " id=" ++ decimal id ++ version_text version

-- `stmt S id=I params=P columns=K`
unfoldable pub prepared_text : ℕ → StatementView → List ℕ
prepared_text number s =
    codes "stmt " ++ decimal number ++ named_text (codes " id=") s.inner.id ++ named_text (codes " params=") s.inner.num_params
    ++ named_text (codes " columns=") s.inner.num_columns

-- `flag 1` or `flag 0`
abbrev pub flag_text : Bool → List ℕ
flag_text true = codes "flag 1"
flag_text false = codes "flag 0"

-- how many statements were prepared up to and with an answer, by how many were before it
abbrev pub prepared_by : ℕ → Outcome → ℕ
prepared_by prepared (Prepared statement) = prepared + 1
prepared_by prepared outcome = prepared

-- an answer's text, where this many statements were prepared before it: their count is the number of the next one
abbrev pub outcome_text : ℕ → Outcome → List ℕ
outcome_text prepared Done = codes "ok"
outcome_text prepared Pending = codes "pending"
outcome_text prepared SetEnd = codes "end"
outcome_text prepared NoSet = codes "none"
outcome_text prepared (Row row) = row_text row.cells
outcome_text prepared (Rows rows) = rows_text rows.items
outcome_text prepared (Prepared statement) = prepared_text prepared statement
outcome_text prepared (Flag flag) = flag_text flag
outcome_text prepared (Fields fields) = fields_text fields
outcome_text prepared (Connected number id version) = connected_text number id version
outcome_text prepared (Failed error) = codes "error " ++ error_text error
outcome_text prepared NoSuchHandle = codes "refused NoSuchHandle"

-- a step's number and its answer
unfoldable pub answer_text : ℕ → ℕ → Outcome → List ℕ
answer_text prepared number outcome = decimal number ++ (32 ∷ outcome_text prepared outcome) ++ 10 ∷ []

-- answers, where this many statements were prepared before them
abbrev pub answers_text : ℕ → List StepAnswer → List ℕ
answers_text prepared [] = []
answers_text prepared (a ∷ rest) = answer_text prepared a.number a.outcome ++ answers_text (prepared_by prepared a.outcome) rest

-- bytes in hexadecimal, and no bytes as `-`
abbrev pub hex_text : List ℕ → List ℕ
hex_text bytes = if length bytes == 0 then codes "-" else encode_lower bytes

-- a word, a connection's number, and bytes
unfoldable pub stream_text : List ℕ → ℕ → List ℕ → List ℕ
stream_text word number bytes = word ++ decimal number ++ (32 ∷ hex_text bytes) ++ 10 ∷ []

abbrev pub tape_text : Tape → List ℕ
tape_text t = stream_text (codes "sent ") t.number t.sent.items ++ stream_text (codes "taken ") t.number t.taken.items

abbrev pub tapes_text : List Tape → List ℕ
tapes_text [] = codes "end\n"
tapes_text (t ∷ rest) = tape_text t ++ tapes_text rest

-- answers, then tapes
abbrev pub text_of : List StepAnswer → List Tape → List ℕ
text_of answers tapes = answers_text 0 answers ++ tapes_text tapes
