-- Transcripts with prepared statements that no run has.
use Rattle.std.specs.Prelude.{ℕ, ◌+◌, List, [], ◌∷◌, ◌++◌, codes, length, pos, false}
use Rattle.my_value.specs.declared.value.Value.TheVariants.{Int}
use Rattle.my_params.specs.declared.params.Params.{Params}
use Rattle.my_params.specs.declared.params.Params.TheVariants.{Positional}
use Rattle.my_reading.specs.declared.answer.Answer.TheVariants as answers
use Rattle.my_reading.specs.declared.call.Call.TheVariants as calls
use Rattle.my_script.specs.declared.step.Step.{Step}
use Rattle.my_script.specs.declared.step.Step.TheVariants as steps
use Rattle.my_script.specs.declared.transcript.Outcome.TheVariants as outcomes
use Rattle.my_script.specs.declared.transcript.TapeCall.{TapeCall}
use Rattle.my_run.specs.Headline.{AnswerView}
use Rattle.my_run.specs.Tapes.{TapeView}
use Rattle.reading_laws.specs.Bytes.{asking, closes, column, executes, fine, greeting, head, one, prepare_ok, prepares, response, row}
use Rattle.run_laws.specs.WrongStreams.{NoRun, first_sent, line, made, polled}

abbrev pub text : List ℕ
text = codes "SELECT ?"

abbrev pub value : Params
value = Positional (Int (pos 1) ∷ [])

-- the reply to a statement to prepare, of one parameter and one column
abbrev pub reply : List ℕ
reply = prepare_ok 1 1 ++ column 2 ++ column 3

abbrev pub prepared_sent : ℕ
prepared_sent = first_sent + length (prepares text)

-- `conn` and `prep`
abbrev pub begun : List AnswerView → List AnswerView
begun vs = line 1 (outcomes.Connected 0 7 (record { major = 8; minor = 0; patch = 36; mariadb = false }))
    (polled 0 ∷ polled (length (greeting ++ fine 2 2)) ∷ [])
    ∷ line 2 (outcomes.Prepared (asking 1)) (polled (length reply) ∷ []) ∷ vs

abbrev pub taped : List ℕ → List ℕ → List TapeCall → TapeView
taped sent bytes cs = record {
  number = 0;
  sent = response [] ++ prepares text ++ sent;
  taken = (greeting ++ fine 2 2) ++ reply ++ bytes;
  calls = made calls.Connect 0 answers.Ready ∷ made (calls.Prepare text) first_sent (answers.Stmt (asking 1)) ∷ cs;
}

-- `closestmt`, `exec`: the statement that was closed is executed
abbrev pub closed_steps : List Step
closed_steps = steps.Conn ∷ steps.Prepare 0 text ∷ steps.CloseStatement 0 0 ∷ steps.Execute 0 0 value ∷ []

abbrev pub closed_answers : List AnswerView
closed_answers = begun (line 3 outcomes.Done (polled 0 ∷ []) ∷ line 4 outcomes.Done (polled (length head) ∷ []) ∷ [])

abbrev pub closed_tape : TapeView
closed_tape = taped (closes 1 ++ executes) head (made (calls.CloseStmt 1) prepared_sent answers.Ready
    ∷ made (calls.Execute (asking 1) value) (prepared_sent + length (closes 1)) answers.Ready ∷ [])

-- `exec`, `next`: the row's bytes are those of a text, which no execution has
abbrev pub text_steps : List Step
text_steps = steps.Conn ∷ steps.Prepare 0 text ∷ steps.Execute 0 0 value ∷ steps.Next 0 ∷ []

abbrev pub text_answers : List AnswerView
text_answers = begun (line 3 outcomes.Done (polled (length head) ∷ [])
    ∷ line 4 (outcomes.Row (row (codes "1"))) (polled (length (one 3)) ∷ []) ∷ [])

abbrev pub text_tape : TapeView
text_tape = taped executes (head ++ one 3) (made (calls.Execute (asking 1) value) prepared_sent answers.Ready
    ∷ made calls.NextRow (prepared_sent + length executes) (answers.Row (row (codes "1"))) ∷ [])

pub record AreNoStatements : Type 0 where
  pub closed_execution : NoRun closed_steps closed_answers closed_tape
  pub text_row : NoRun text_steps text_answers text_tape
