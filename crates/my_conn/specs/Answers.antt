-- What a caller gets of the answers of calls.
use Rattle.std.specs.Prelude.{Bool, true, false}
use Rattle.my_reading.specs.declared.answer.Answer.{Answer}
use Rattle.my_reading.specs.declared.answer.Answer.TheVariants as answers
use Rattle.my_conn.specs.declared.drive.NextAnswer.{NextAnswer}
use Rattle.my_conn.specs.declared.drive.NextAnswer.TheVariants.{Row, SetEnd, NoSet}

-- the call is done
abbrev pub done_of : Answer → Unit {0}
done_of answer = tt

-- what a read returns; `Ready`, `Stmt` and `Flag` are never answers of a read
abbrev pub next_of : Answer → NextAnswer
next_of answers.Ready = NoSet
next_of (answers.Row row) = Row row
next_of answers.SetEnd = SetEnd
next_of answers.NoSet = NoSet
next_of (answers.Stmt statement) = NoSet
next_of (answers.Flag flag) = NoSet

-- whether a stream took a set: `Ready` says so, and `NoSet` that nothing is left
abbrev pub taken_of : Answer → Bool
taken_of answers.Ready = true
taken_of _ = false
