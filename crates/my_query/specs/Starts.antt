-- How an answer is begun.
use Rattle.std.specs.Prelude.{ℕ, List}
use Rattle.std.specs.declared.result.Result.{Result}
use Rattle.my_link.specs.Looks.{Looks}
use Rattle.my_params.specs.declared.params.Params.{Params}
use Rattle.my_reading.specs.declared.error.Error.{Error}
use Rattle.my_conn.specs.Conn.{ConnSeen}
use Rattle.my_rows.specs.Begins.{ExecuteIs, QueryIs}
use Rattle.my_rows.specs.declared.statement_like.ToStatementResult.{ToStatementResult}

-- by a query of this text, or by the statement that is named with these parameters
pub data Start : Type 0 where
  Asks : (text : List ℕ) → Start
  Executes : (named : ToStatementResult) (params : Params) → Start

-- An answer was begun so.
abbrev pub StartIs : {L : Type 0} → (L → Looks) → Start → ConnSeen L → ConnSeen L → Result (Unit {0}) Error → Type 0
StartIs look (Asks text) old new result = QueryIs look text old new result
StartIs look (Executes named params) old new result = ExecuteIs look named params old new result
