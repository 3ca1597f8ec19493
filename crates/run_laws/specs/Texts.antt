-- What a transcript's text shows of it.
use Rattle.std.specs.Prelude.{ℕ, ◌≡◌, ◌≢◌, ◌<◌, ◌^◌, List, [], ◌∷◌}
use Rattle.hex.specs.Hex.{IsBytes}
use Rattle.my_script.specs.declared.transcript.StepAnswer.{StepAnswer}
use Rattle.my_script.specs.declared.transcript.Tape.{Tape}
use Rattle.my_script.specs.Text.{outcome_text, prepared_by, text_of}

-- an answer as its line shows it
pub record AnswerShown : Type 0 where
  pub number : ℕ
  pub text : List ℕ

-- answers, after so many statements that were prepared
abbrev pub answers_shown : ℕ → List StepAnswer → List AnswerShown
answers_shown prepared [] = []
answers_shown prepared (a ∷ rest) =
    record { number = a.number; text = outcome_text prepared a.outcome } ∷ answers_shown (prepared_by prepared a.outcome) rest

-- a tape as its lines show it
pub record TapeShown : Type 0 where
  pub number : ℕ
  pub sent : List ℕ
  pub taken : List ℕ

abbrev pub tapes_shown : List Tape → List TapeShown
tapes_shown [] = []
tapes_shown (t ∷ rest) = record { number = t.number; sent = t.sent.items; taken = t.taken.items } ∷ tapes_shown rest

-- no element is this one
abbrev pub Lacks : ℕ → List ℕ → Type 0
Lacks code [] = Unit {0}
Lacks code (c ∷ cs) = (c ≢ code) × Lacks code cs

-- each answer is printed on one line: its text has no line feed
abbrev pub AreLines : ℕ → List StepAnswer → Type 0
AreLines prepared [] = Unit {0}
AreLines prepared (a ∷ rest) = (a.number < 2 ^ 64) × Lacks 10 (outcome_text prepared a.outcome) × AreLines (prepared_by prepared a.outcome) rest

-- the numbers and bytes are those of their types
abbrev pub AreTyped : List Tape → Type 0
AreTyped [] = Unit {0}
AreTyped (t ∷ rest) = (t.number < 2 ^ 64) × IsBytes t.sent.items × IsBytes t.taken.items × AreTyped rest

-- Two transcripts with one text show the same answers and the same tapes.
abbrev pub OneTextOneTranscript : Type 0
OneTextOneTranscript = (ones others : List StepAnswer) (ts us : List Tape) → AreLines 0 ones → AreLines 0 others → AreTyped ts → AreTyped us
    → text_of ones ts ≡ text_of others us → (answers_shown 0 ones ≡ answers_shown 0 others) × (tapes_shown ts ≡ tapes_shown us)
