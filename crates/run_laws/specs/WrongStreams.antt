-- Transcripts with a stream that no run has.
use Rattle.std.specs.Prelude.{ℕ, ◌≡◌, ◌+◌, List, [], ◌∷◌, ◌++◌, codes, length, map, Some, Ok, false}
use Rattle.my_link.specs.Met.{nothing_met}
use Rattle.my_reading.specs.declared.answer.Answer.{Answer}
use Rattle.my_reading.specs.declared.answer.Answer.TheVariants as answers
use Rattle.my_reading.specs.declared.call.Call.{Call}
use Rattle.my_reading.specs.declared.call.Call.TheVariants as calls
use Rattle.my_script.specs.declared.step.Step.{Step}
use Rattle.my_script.specs.declared.step.Step.TheVariants as steps
use Rattle.my_script.specs.declared.transcript.Outcome.{Outcome}
use Rattle.my_script.specs.declared.transcript.Outcome.TheVariants as outcomes
use Rattle.my_script.specs.declared.transcript.StepAnswer.{StepAnswer}
use Rattle.my_script.specs.declared.transcript.Tape.{Tape}
use Rattle.my_script.specs.declared.transcript.TapeCall.{TapeCall}
use Rattle.my_script.specs.declared.transcript.Use.{Use}
use Rattle.my_link.specs.World.{Plans}
use Rattle.my_steps.specs.Dialing.{Course}
use Rattle.my_run.specs.Headline.{AnswerView, Headline, answer_view}
use Rattle.my_run.specs.Tapes.{TapeView, tape_view}
use Rattle.reading_laws.specs.Bytes.{root, response, greeting, fine, asks, head, end, one, packet, row}

-- No run of these steps has a transcript of these answers and this tape.
abbrev pub NoRun : List Step → List AnswerView → TapeView → Type 0
NoRun ss vs v = (plans : Plans) (before later : Course) (bs : List StepAnswer) (t : Tape)
    → map answer_view bs ≡ vs → tape_view t ≡ v → Headline root plans before later ss bs (t ∷ []) → ⊥

-- a poll that received so many bytes
abbrev pub polled : ℕ → Use
polled n = record { number = 0; met = record nothing_met { taken = n } }

abbrev pub line : ℕ → Outcome → List Use → AnswerView
line n outcome uses = record { number = n; outcome = outcome; uses = uses }

-- a call that sent nothing, and one that was made when so many bytes were sent
abbrev pub made : Call → ℕ → Answer → TapeCall
made call n answer = record { call = call; sent_from = n; answer = Some (Ok answer) }

abbrev pub text : List ℕ
text = codes "SELECT 1"

abbrev pub first_sent : ℕ
first_sent = length (response [])

abbrev pub all_sent : ℕ
all_sent = first_sent + length (asks text)

-- a set's end with more after it, a head of one column and its row
abbrev pub further : List ℕ
further = packet 3 (254 ∷ 0 ∷ 0 ∷ 10 ∷ 0 ∷ 0 ∷ 0 ∷ []) ++ packet 4 (1 ∷ [])
    ++ packet 5 (3 ∷ codes "def" ++ 0 ∷ 0 ∷ 0 ∷ 1 ∷ 49 ∷ 0 ∷ 12 ∷ 63 ∷ 0 ∷ 1 ∷ 0 ∷ 0 ∷ 0 ∷ 8 ∷ 129 ∷ 0 ∷ 0 ∷ 0 ∷ 0 ∷ [])
    ++ one 6

-- `conn` and `query`
abbrev pub begun : List AnswerView → List AnswerView
begun vs = line 1 (outcomes.Connected 0 7 (record { major = 8; minor = 0; patch = 36; mariadb = false }))
    (polled 0 ∷ polled (length (greeting ++ fine 2 2)) ∷ [])
    ∷ line 2 outcomes.Done (polled (length head) ∷ []) ∷ vs

abbrev pub taped : List ℕ → List TapeCall → TapeView
taped bytes cs = record {
  number = 0;
  sent = response [] ++ asks text;
  taken = (greeting ++ fine 2 2) ++ head ++ bytes;
  calls = made calls.Connect 0 answers.Ready ∷ made (calls.Query text) first_sent answers.Ready ∷ cs;
}

-- `stream`, `item`: a row of the next set
abbrev pub other_steps : List Step
other_steps = steps.Conn ∷ steps.Query 0 text ∷ steps.Stream 0 ∷ steps.Item 0 ∷ []

abbrev pub other_answers : List AnswerView
other_answers = begun (line 3 outcomes.Done (polled 0 ∷ []) ∷ line 4 (outcomes.Row (row (codes "1")))
    (polled (length further) ∷ []) ∷ [])

abbrev pub other_tape : TapeView
other_tape = taped further
    (made calls.TakeSet all_sent answers.Ready ∷ made calls.NextRow all_sent (answers.Row (row (codes "1"))) ∷ [])

-- `stream`, `unstream`, `stream`: the second passes over nothing
abbrev pub kept_steps : List Step
kept_steps = steps.Conn ∷ steps.Query 0 text ∷ steps.Stream 0 ∷ steps.Unstream 0 ∷ steps.Stream 0 ∷ []

abbrev pub kept_answers : List AnswerView
kept_answers = begun (line 3 outcomes.Done (polled 0 ∷ []) ∷ line 4 outcomes.Done []
    ∷ line 5 outcomes.Done (polled 0 ∷ []) ∷ [])

abbrev pub kept_tape : TapeView
kept_tape = taped [] (made calls.TakeSet all_sent answers.Ready ∷ made calls.TakeSet all_sent answers.Ready ∷ [])

-- `stream`, `unstream`, `next`: the row of the set that the stream took
abbrev pub read_steps : List Step
read_steps = steps.Conn ∷ steps.Query 0 text ∷ steps.Stream 0 ∷ steps.Unstream 0 ∷ steps.Next 0 ∷ []

abbrev pub read_answers : List AnswerView
read_answers = begun (line 3 outcomes.Done (polled 0 ∷ []) ∷ line 4 outcomes.Done []
    ∷ line 5 (outcomes.Row (row (codes "1"))) (polled (length (one 3)) ∷ []) ∷ [])

abbrev pub read_tape : TapeView
read_tape = taped (one 3)
    (made calls.TakeSet all_sent answers.Ready ∷ made calls.NextRow all_sent (answers.Row (row (codes "1"))) ∷ [])

-- `stream`, `item`, `item`: the second is refused, though the stream is there
abbrev pub over_steps : List Step
over_steps = steps.Conn ∷ steps.Query 0 text ∷ steps.Stream 0 ∷ steps.Item 0 ∷ steps.Item 0 ∷ []

abbrev pub over_answers : List AnswerView
over_answers = begun (line 3 outcomes.Done (polled 0 ∷ []) ∷ line 4 outcomes.SetEnd (polled (length (end 3)) ∷ [])
    ∷ line 5 outcomes.NoSuchHandle [] ∷ [])

abbrev pub over_tape : TapeView
over_tape = taped (end 3) (made calls.TakeSet all_sent answers.Ready ∷ made calls.NextRow all_sent answers.SetEnd ∷ [])

pub record AreNoStreams : Type 0 where
  pub other_set : NoRun other_steps other_answers other_tape
  pub nothing_passed : NoRun kept_steps kept_answers kept_tape
  pub stream_read : NoRun read_steps read_answers read_tape
  pub item_refused : NoRun over_steps over_answers over_tape
