-- What the bytes say of answers: of reads one by one, and of the calls that gather rows.
use Rattle.std.specs.Prelude.{ℕ, ◌≡◌, ◌++◌, List, [], ◌∷◌, Vec, Option, Some, None, Result, Ok}
use Rattle.my_grammar.specs.declared.spot.RowFormat.TheVariants.{Text, Binary}
use Rattle.my_link.specs.Looks.{Looks}
use Rattle.my_params.specs.declared.params.Params.{Params}
use Rattle.my_statements.specs.Prepared.{StatementView}
use Rattle.my_value.specs.RowParts.{RowParts}
use Rattle.my_reading.specs.declared.call.Call.TheVariants.{Query, Execute}
use Rattle.my_reading.specs.declared.call.CallKind.TheVariants as kinds
use Rattle.my_client.specs.Reads.{place_kept}
use Rattle.my_conn.specs.Conn.{ConnSeen}
use Rattle.my_conn.specs.Drives.{DoneIs, NextIs}
use Rattle.my_conn.specs.declared.drive.NextAnswer.TheVariants.{NoSet}
use Rattle.my_rows.specs.Answers.{AnswerIs}
use Rattle.my_rows.specs.Begins.{ExecuteIs, QueryIs, StatementIs}
use Rattle.my_rows.specs.Calls.{CollectsFirst}
use Rattle.my_rows.specs.Gathers.{Gathered, SetIs}
use Rattle.my_rows.specs.Reads.{ItemIs, ReadsEnd, ReadsRows}
use Rattle.my_rows.specs.declared.statement_like.ToStatementResult.{ToStatementResult}
use Rattle.history_laws.specs.Fronts.{Set}
use Rattle.query_laws.specs.Begins.{IsExecution, IsQuery}
use Rattle.query_laws.specs.Found.{BeginsWith, IsAnswered, IsWhole}
use Rattle.query_laws.specs.Stood.{Did}

-- So the bytes answer a query of this text, and an execution of this statement with these parameters: of the first set this holds.
abbrev pub AnswersQuery : {L : Type 0} → List ℕ → (Set → Type 0) → ConnSeen L → ConnSeen L → Type 0
AnswersQuery text first old new =
    Did (λ login k. IsAnswered (Query text) (IsQuery text) Text first (place_kept login k) k.taken) old new

abbrev pub AnswersExecution : {L : Type 0} → StatementView → Params → (Set → Type 0) → ConnSeen L → ConnSeen L → Type 0
AnswersExecution statement params first old new =
    Did (λ login k. IsAnswered (Execute statement params) (IsExecution statement params) Binary first (place_kept login k) k.taken)
    old new

-- A query was accepted, and these rows and an end were read, with no other call between.
abbrev pub QueryIsRead : {L : Type 0} → (L → Looks) → Type 0
QueryIsRead {L} look = (old mid rest new : ConnSeen L) (text : List ℕ) (rows : List RowParts) → old.pending ≡ None
    → DoneIs look kinds.Query (Query text) old mid (Ok tt) → ReadsRows look mid rows rest → ReadsEnd look rest new
    → AnswersQuery text (IsWhole rows) old new

abbrev pub ExecutionIsRead : {L : Type 0} → (L → Looks) → Type 0
ExecutionIsRead {L} look = (old mid rest new : ConnSeen L) (statement : StatementView) (params : Params) (rows : List RowParts)
    → old.pending ≡ None → DoneIs look kinds.Execute (Execute statement params) old mid (Ok tt) → ReadsRows look mid rows rest
    → ReadsEnd look rest new → AnswersExecution statement params (IsWhole rows) old new

-- A call gathered the first set that answers this text, and dropped the rest: it gathered all rows of that set.
abbrev pub QueryIsGathered : {L T G : Type 0} → (L → Looks) → (RowParts → Type 0) → (RowParts → T → Type 0) → (G → T → G → Type 0)
    → Type 0
QueryIsGathered {L} {T} {G} look converts becomes takes = (old new : ConnSeen L) (text : List ℕ) (start end : G) → old.pending ≡ None
    → AnswerIs look (QueryIs look text) (SetIs look converts becomes takes start) old new (Ok end)
    → (rows : List RowParts) × Gathered becomes takes start rows end × AnswersQuery text (IsWhole rows) old new

-- The same of a statement that is named: of the statement itself, or of the one that was prepared first.
abbrev pub ExecutionIsGathered : {L T G : Type 0} → (L → Looks) → (RowParts → Type 0) → (RowParts → T → Type 0) → (G → T → G → Type 0)
    → Type 0
ExecutionIsGathered {L} {T} {G} look converts becomes takes = (old new : ConnSeen L) (named : ToStatementResult) (params : Params) (start end : G)
    → old.pending ≡ None → AnswerIs look (ExecuteIs look named params) (SetIs look converts becomes takes start) old new (Ok end)
    → (statement : StatementView) × (mid : ConnSeen L) × StatementIs look named old mid (Ok statement)
    × (rows : List RowParts) × Gathered becomes takes start rows end × AnswersExecution statement params (IsWhole rows) old new

-- what these rows, the newest first, became, in order
abbrev pub Became : {T : Type 0} → (RowParts → T → Type 0) → List RowParts → List T → Type 0
Became becomes [] items = items ≡ []
Became {T} becomes (r ∷ rows) items = (earlier : List T) × (item : T) × Became becomes rows earlier × becomes r item
    × (items ≡ earlier ++ item ∷ [])

-- `query` returned what all rows of the first set became, in order
abbrev pub QueryIsCollected : {L T : Type 0} (A : Type 0) → (L → Looks) → (RowParts → Type 0) → (RowParts → T → Type 0) → Type 0
QueryIsCollected {L} {T} A look converts becomes = (old new : ConnSeen L) (text : List ℕ) (items : Vec T A) → old.pending ≡ None
    → CollectsFirst look (QueryIs look text) converts becomes old new (Ok items)
    → (rows : List RowParts) × Became becomes rows items.items × AnswersQuery text (IsWhole rows) old new

-- and `exec` the same of its statement
abbrev pub ExecutionIsCollected : {L T : Type 0} (A : Type 0) → (L → Looks) → (RowParts → Type 0) → (RowParts → T → Type 0) → Type 0
ExecutionIsCollected {L} {T} A look converts becomes = (old new : ConnSeen L) (named : ToStatementResult) (params : Params) (items : Vec T A)
    → old.pending ≡ None → CollectsFirst look (ExecuteIs look named params) converts becomes old new (Ok items)
    → (statement : StatementView) × (mid : ConnSeen L) × StatementIs look named old mid (Ok statement)
    × (rows : List RowParts) × Became becomes rows items.items × AnswersExecution statement params (IsWhole rows) old new

-- `query_first` returned what the first row of the first set became, or that set has no row
abbrev pub FirstIs : {L T : Type 0} → (RowParts → T → Type 0) → ((Set → Type 0) → ConnSeen L → ConnSeen L → Type 0) → Option T
    → ConnSeen L → ConnSeen L → Type 0
FirstIs becomes answers (Some item) old new = (row : RowParts) × becomes row item × answers (BeginsWith row) old new
FirstIs becomes answers None old new = answers (IsWhole []) old new

abbrev pub QueryIsFirst : {L T : Type 0} → (L → Looks) → (RowParts → Type 0) → (RowParts → T → Type 0) → Type 0
QueryIsFirst {L} {T} look converts becomes = (old new : ConnSeen L) (text : List ℕ) (found : Option T) → old.pending ≡ None
    → AnswerIs look (QueryIs look text) (ItemIs look converts becomes) old new (Ok found)
    → FirstIs becomes (AnswersQuery text) found old new

-- and `exec_first` the same of its statement
abbrev pub ExecutionIsFirst : {L T : Type 0} → (L → Looks) → (RowParts → Type 0) → (RowParts → T → Type 0) → Type 0
ExecutionIsFirst {L} {T} look converts becomes = (old new : ConnSeen L) (named : ToStatementResult) (params : Params) (found : Option T)
    → old.pending ≡ None → AnswerIs look (ExecuteIs look named params) (ItemIs look converts becomes) old new (Ok found)
    → (statement : StatementView) × (mid : ConnSeen L) × StatementIs look named old mid (Ok statement)
    × FirstIs becomes (AnswersExecution statement params) found old new

-- A read after an accepted query never says that nothing is left before the set's end was read.
abbrev pub QueryHasSet : {L : Type 0} → (L → Looks) → Type 0
QueryHasSet {L} look = (old mid rest new : ConnSeen L) (text : List ℕ) (rows : List RowParts) → old.pending ≡ None
    → DoneIs look kinds.Query (Query text) old mid (Ok tt) → ReadsRows look mid rows rest → NextIs look rest new (Ok NoSet)
    → Did (λ login k. ⊥) old new
