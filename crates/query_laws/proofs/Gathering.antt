-- The calls that gather rows, by their reads.
use Rattle.std.proofs.Common.{◌≡◌, ◌⊎◌, inl, inr, ℕ, List, [], ◌∷◌, ◌++◌, Vec, Option, Some, None, Result, Ok, Err, refl, sym, ap, ◌∙◌, subst}
use Rattle.my_grammar.specs.declared.login.Login.{Login}
use Rattle.my_grammar.specs.declared.spot.RowFormat.{RowFormat}
use Rattle.my_grammar.specs.declared.spot.RowFormat.TheVariants.{Text, Binary}
use Rattle.my_grammar.specs.Talk.{Talk}
use Rattle.my_link.specs.Looks.{Looks}
use Rattle.my_params.specs.declared.params.Params.{Params}
use Rattle.my_statements.specs.Prepared.{StatementView}
use Rattle.my_value.specs.RowParts.{RowParts}
use Rattle.my_reading.specs.declared.answer.Answer.{Answer}
use Rattle.my_reading.specs.declared.call.Call.{Call}
use Rattle.my_reading.specs.declared.call.Call.TheVariants as calls
use Rattle.my_reading.specs.declared.call.CallKind.TheVariants as kinds
use Rattle.my_reading.specs.declared.error.Error.{Error}
use Rattle.my_client.specs.Reads.{place_kept}
use Rattle.my_conn.specs.Conn.{ConnSeen}
use Rattle.my_conn.specs.Drives.{DoneIs, NextIs}
use Rattle.my_rows.specs.Answers.{AnswerIs, ReadIs, RestIs, value_after}
use Rattle.my_rows.specs.Begins.{CalledIs, ExecuteIs, NamedIs, QueryIs, StatementIs}
use Rattle.my_rows.specs.Calls.{IsListIn}
use Rattle.my_rows.specs.Gathers.{Collects, Gathered, SetIs}
use Rattle.my_rows.specs.Reads.{ItemIs, ReadsEnd, ReadsRows}
use Rattle.my_rows.specs.declared.error.QueryError.{QueryError}
use Rattle.my_rows.specs.declared.gather.Collected.{Collected}
use Rattle.my_rows.specs.declared.statement_like.ToStatementResult.{ToStatementResult}
use Rattle.my_rows.specs.declared.statement_like.ToStatementResult.TheVariants.{Immediate, Mediate}
use Rattle.query_laws.specs.Answers.{AnswersExecution, AnswersQuery, Became, ExecutionIsCollected, ExecutionIsFirst, ExecutionIsGathered, ExecutionIsRead, FirstIs, QueryHasSet, QueryIsCollected, QueryIsFirst, QueryIsGathered, QueryIsRead}
use Rattle.query_laws.specs.Begins.{IsExecution, IsQuery}
use Rattle.query_laws.specs.Found.{BeginsWith, IsAnswered, IsWhole}
use Rattle.query_laws.specs.Stood.{Did}
use Rattle.query_laws.proofs.Answering.{At}
use Rattle.query_laws.proofs.Finding.{IsOf, first_found, query_format, statement_format}
use Rattle.query_laws.proofs.Firsts.{HasFirst, begins_grows, whole_grows}
use Rattle.query_laws.proofs.Heading.{Reads}
use Rattle.query_laws.proofs.Items.{Has}
use Rattle.query_laws.proofs.Steps.{drop_goes, end_goes, execution_follows, execution_goes, none_goes, one_goes, prepare_goes, query_goes, rows_go}
use Rattle.query_laws.proofs.Since.{Went, did}

module _ {L : Type 0} (look : L → Looks) where
  pub query_is_read : QueryIsRead look
  query_is_read old mid rest new text rows idle begun read ended =
      let c = calls.Query text in
      let went = end_goes look c (IsQuery text) rows old rest new (rows_go look c (IsQuery text) rows old mid rest (query_goes look text old mid idle begun) read) ended in
      did (λ login p. At c (IsQuery text) (Has rows) p) _ old new went (λ login k tape bytes at. first_found login k tape bytes c (IsQuery text) Text (query_format text) (IsWhole rows) (whole_grows rows) at)

  pub execution_is_read : ExecutionIsRead look
  execution_is_read old mid rest new statement params rows idle begun read ended =
      let c = calls.Execute statement params in
      let B = IsExecution statement params in
      let went = end_goes look c B rows old rest new (rows_go look c B rows old mid rest (execution_goes look statement params old mid idle begun) read) ended in
      did (λ login p. At c B (Has rows) p) _ old new went (λ login k tape bytes at. first_found login k tape bytes c B Binary (statement_format statement params) (IsWhole rows) (whole_grows rows) at)

  pub query_has_set : QueryHasSet look
  query_has_set old mid rest new text rows idle begun read none =
      let c = calls.Query text in
      did (λ login p. ⊥) _ old new (none_goes look c (IsQuery text) rows old rest new (rows_go look c (IsQuery text) rows old mid rest (query_goes look text old mid idle begun) read) none) (λ login k tape bytes at. at)

-- the calls of an answer of which this was read
record Parts {L V : Type 0} (look : L → Looks) (begins : ConnSeen L → ConnSeen L → Result (Unit {0}) Error → Type 0) (reads : ConnSeen L → ConnSeen L → Result V QueryError → Type 0) (value : V) (old new : ConnSeen L) : Type 0 where
  begun : ConnSeen L
  last : ConnSeen L
  begins_so : begins old begun (Ok tt)
  reads_so : reads begun last (Ok value)
  dropped : DoneIs look kinds.DropResult calls.DropResult last new (Ok tt)

module _ {L V : Type 0} (look : L → Looks) (begins : ConnSeen L → ConnSeen L → Result (Unit {0}) Error → Type 0) (reads : ConnSeen L → ConnSeen L → Result V QueryError → Type 0) (value : V) (old new : ConnSeen L) where
  by_rest : (mid last : ConnSeen L) → begins old mid (Ok tt) → (v : V) → reads mid last (Ok v) → (r : Result (Unit {0}) Error) → Ok value ≡ value_after v r → DoneIs look kinds.DropResult calls.DropResult last new r → Parts look begins reads value old new
  by_rest mid last b v s (Ok done) e d = record { begun = mid; last = last; begins_so = b; reads_so = subst (λ x. reads mid last (Ok x)) (let same : v ≡ value = cc in same) s; dropped = d }
  by_rest mid last b v s (Err error) e d = absurd (cc)

  by_read : (mid last : ConnSeen L) → begins old mid (Ok tt) → (r : Result V QueryError) → reads mid last r → RestIs look r last new (Ok value) → Parts look begins reads value old new
  by_read mid last b (Ok v) s w = by_rest mid last b v s w.0 w.1 w.2
  by_read mid last b (Err error) s w = let no = w.0 in absurd (cc)

  by_begun : (mid : ConnSeen L) (r : Result (Unit {0}) Error) → begins old mid r → ReadIs look reads r mid new (Ok value) → Parts look begins reads value old new
  by_begun mid (Ok done) b w = by_read mid w.1 b w.0 w.2 w.3
  by_begun mid (Err error) b w = let no = w.0 in absurd (cc)

  parts_of : AnswerIs look begins reads old new (Ok value) → Parts look begins reads value old new
  parts_of w = by_begun w.1 w.0 w.2 w.3

query_begun : {L : Type 0} (look : L → Looks) (text : List ℕ) (old mid : ConnSeen L) → QueryIs look text old mid (Ok tt) → DoneIs look kinds.Query (calls.Query text) old mid (Ok tt)
query_begun look text old mid (inl d) = d
query_begun look text old mid (inr u) = let no = u.0 in absurd (cc)

pub query_is_gathered : {L T G : Type 0} (look : L → Looks) (converts : RowParts → Type 0) (becomes : RowParts → T → Type 0) (takes : G → T → G → Type 0) → QueryIsGathered look converts becomes takes
query_is_gathered look converts becomes takes old new text start end idle w =
    let c = calls.Query text in
    let B = IsQuery text in
    let p = parts_of look (QueryIs look text) (SetIs look converts becomes takes start) end old new w in
    let begun = query_goes look text old p.begun idle (query_begun look text old p.begun p.begins_so) in
    let went = drop_goes look c B (IsWhole p.reads_so.0) (whole_grows p.reads_so.0) old p.last new (end_goes look c B p.reads_so.0 old p.reads_so.1 p.last (rows_go look c B p.reads_so.0 old p.begun p.reads_so.1 begun p.reads_so.2) p.reads_so.4) p.dropped in
    (p.reads_so.0, p.reads_so.3, did (λ login q. At c B (Has p.reads_so.0) q) _ old new went (λ login k tape bytes at. first_found login k tape bytes c B Text (query_format text) (IsWhole p.reads_so.0) (whole_grows p.reads_so.0) at))

became : {T : Type 0} (becomes : RowParts → T → Type 0) (none end : Collected T) → none.items.items ≡ [] → (rows : List RowParts) → Gathered becomes Collects none rows end → Became becomes rows end.items.items
became {T = T} becomes none end empty [] g = ap (λ (x : Collected T). x.items.items) g ∙ empty
became {T = T} becomes none end empty (r ∷ rows) g = (g.0.items.items, g.1, became becomes none g.0 empty rows g.2, g.3, g.4)

pub query_is_collected : {L T : Type 0} (A : Type 0) (look : L → Looks) (converts : RowParts → Type 0) (becomes : RowParts → T → Type 0) → QueryIsCollected A look converts becomes
query_is_collected {T = T} A look converts becomes old new text items idle w = by_result w.2 w.3 w.4
  where
    by_result : (r : Result (Collected T) QueryError) → IsListIn (λ (collected : Collected T). collected.items.items) r (Ok items) → AnswerIs look (QueryIs look text) (SetIs look converts becomes Collects w.0) old new r → (rows : List RowParts) × Became becomes rows items.items × AnswersQuery text (IsWhole rows) old new
    by_result (Ok gathered) is a =
        let g = query_is_gathered look converts becomes Collects old new text w.0 gathered idle a in
        (g.0, subst (Became becomes g.0) (sym is) (became becomes w.0 gathered w.1 g.0 g.1), g.2)
    by_result (Err error) is a = absurd is

-- the statement that was named, and its execution
record Executed {L : Type 0} (look : L → Looks) (named : ToStatementResult) (params : Params) (old new : ConnSeen L) : Type 0 where
  statement : StatementView
  mid : ConnSeen L
  named_is : StatementIs look named old mid (Ok statement)
  executed : DoneIs look kinds.Execute (calls.Execute statement params) mid new (Ok tt)

executed_of : {L : Type 0} (look : L → Looks) (named : ToStatementResult) (params : Params) (old new : ConnSeen L) → ExecuteIs look named params old new (Ok tt) → Executed look named params old new
executed_of look named params old new w = by_statement w.0 w.2 w.3
  where
    by_statement : (s : Result StatementView Error) → StatementIs look named old w.1 s → CalledIs look kinds.Execute (λ s. calls.Execute s params) s w.1 new (Ok tt) → Executed look named params old new
    by_statement (Ok statement) n d = record { statement = statement; mid = w.1; named_is = n; executed = d }
    by_statement (Err error) n d = let no = d.0 in absurd (cc)

module _ {L : Type 0} (look : L → Looks) (params : Params) (old mid new : ConnSeen L) (idle : old.pending ≡ None) (statement : StatementView) (d : DoneIs look kinds.Execute (calls.Execute statement params) mid new (Ok tt)) where
  abbrev Executes : Type 0
  Executes = Went (λ login p. At (calls.Execute statement params) (IsExecution statement params) (Reads []) p) old new

  known_goes : (named : ToStatementResult) → NamedIs look named old mid (Ok statement) → Executes
  known_goes (Immediate s) n = execution_goes look statement params old new idle (subst (λ x. DoneIs look kinds.Execute (calls.Execute statement params) x new (Ok tt)) n.1 d)
  known_goes (Mediate text) n = execution_follows look statement params (λ login p. Unit {0}) old mid new (prepare_goes look text statement old mid idle n) d

  named_goes : (named : ToStatementResult) → StatementIs look named old mid (Ok statement) → Executes
  named_goes named (inl n) = known_goes named n
  named_goes named (inr u) = let no = u.0 in absurd (cc)

pub execution_is_gathered : {L T G : Type 0} (look : L → Looks) (converts : RowParts → Type 0) (becomes : RowParts → T → Type 0) (takes : G → T → G → Type 0) → ExecutionIsGathered look converts becomes takes
execution_is_gathered look converts becomes takes old new named params start end idle w =
    let p = parts_of look (ExecuteIs look named params) (SetIs look converts becomes takes start) end old new w in
    let x = executed_of look named params old p.begun p.begins_so in
    let c = calls.Execute x.statement params in
    let B = IsExecution x.statement params in
    let begun = named_goes look params old x.mid p.begun idle x.statement x.executed named x.named_is in
    let went = drop_goes look c B (IsWhole p.reads_so.0) (whole_grows p.reads_so.0) old p.last new (end_goes look c B p.reads_so.0 old p.reads_so.1 p.last (rows_go look c B p.reads_so.0 old p.begun p.reads_so.1 begun p.reads_so.2) p.reads_so.4) p.dropped in
    (x.statement, x.mid, x.named_is, p.reads_so.0, p.reads_so.3, did (λ login q. At c B (Has p.reads_so.0) q) _ old new went (λ login k tape bytes at. first_found login k tape bytes c B Binary (statement_format x.statement params) (IsWhole p.reads_so.0) (whole_grows p.reads_so.0) at))

pub execution_is_collected : {L T : Type 0} (A : Type 0) (look : L → Looks) (converts : RowParts → Type 0) (becomes : RowParts → T → Type 0) → ExecutionIsCollected A look converts becomes
execution_is_collected {L = L} {T = T} A look converts becomes old new named params items idle w = by_result w.2 w.3 w.4
  where
    by_result : (r : Result (Collected T) QueryError) → IsListIn (λ (collected : Collected T). collected.items.items) r (Ok items) → AnswerIs look (ExecuteIs look named params) (SetIs look converts becomes Collects w.0) old new r
        → (statement : StatementView) × (mid : ConnSeen L) × StatementIs look named old mid (Ok statement) × (rows : List RowParts) × Became becomes rows items.items × AnswersExecution statement params (IsWhole rows) old new
    by_result (Ok gathered) is a =
        let g = execution_is_gathered look converts becomes Collects old new named params w.0 gathered idle a in
        (g.0, g.1, g.2, g.3, subst (Became becomes g.3) (sym is) (became becomes w.0 gathered w.1 g.3 g.4), g.5)
    by_result (Err error) is a = absurd is

-- the first row, or none
module _ {L T : Type 0} (look : L → Looks) (converts : RowParts → Type 0) (becomes : RowParts → T → Type 0) (c : Call) (B : Talk → Type 0) (old begun last new : ConnSeen L) (went : Went (λ login p. At c B (Reads []) p) old begun) (dropped : DoneIs look kinds.DropResult calls.DropResult last new (Ok tt)) where
  first_goes : (found : Option T) → ItemIs look converts becomes begun last (Ok found) → FirstIs {L = L} becomes (λ first x y. Went (λ login p. At c B (λ e sets. HasFirst first sets) p) x y) found old new
  first_goes (Some item) w = (w.0, w.2, drop_goes look c B (BeginsWith w.0) (begins_grows w.0) old last new (one_goes look c B w.0 old begun last went w.1) dropped)
  first_goes None w = drop_goes look c B (IsWhole []) (whole_grows []) old last new (end_goes look c B [] old begun last went w) dropped

-- so it is said of the bytes
first_said : {L T : Type 0} (becomes : RowParts → T → Type 0) (c : Call) (B : Talk → Type 0) (format : RowFormat) (is_of : IsOf B format) (old new : ConnSeen L) (found : Option T)
    → FirstIs {L = L} becomes (λ first x y. Went (λ login p. At c B (λ e sets. HasFirst first sets) p) x y) found old new
    → FirstIs {L = L} becomes (λ first x y. Did (λ login k. IsAnswered c B format first (place_kept login k) k.taken) x y) found old new
first_said becomes c B format is_of old new (Some item) w =
    (w.0, w.1, did (λ login p. At c B (λ e sets. HasFirst (BeginsWith w.0) sets) p) _ old new w.2 (λ login k tape bytes at. first_found login k tape bytes c B format is_of (BeginsWith w.0) (begins_grows w.0) at))
first_said becomes c B format is_of old new None w =
    did (λ login p. At c B (λ e sets. HasFirst (IsWhole []) sets) p) _ old new w (λ login k tape bytes at. first_found login k tape bytes c B format is_of (IsWhole []) (whole_grows []) at)

pub query_is_first : {L T : Type 0} (look : L → Looks) (converts : RowParts → Type 0) (becomes : RowParts → T → Type 0) → QueryIsFirst look converts becomes
query_is_first look converts becomes old new text found idle w =
    let c = calls.Query text in
    let B = IsQuery text in
    let p = parts_of look (QueryIs look text) (ItemIs look converts becomes) found old new w in
    let begun = query_goes look text old p.begun idle (query_begun look text old p.begun p.begins_so) in
    first_said becomes c B Text (query_format text) old new found (first_goes look converts becomes c B old p.begun p.last new begun p.dropped found p.reads_so)

pub execution_is_first : {L T : Type 0} (look : L → Looks) (converts : RowParts → Type 0) (becomes : RowParts → T → Type 0) → ExecutionIsFirst look converts becomes
execution_is_first look converts becomes old new named params found idle w =
    let p = parts_of look (ExecuteIs look named params) (ItemIs look converts becomes) found old new w in
    let x = executed_of look named params old p.begun p.begins_so in
    let c = calls.Execute x.statement params in
    let B = IsExecution x.statement params in
    let begun = named_goes look params old x.mid p.begun idle x.statement x.executed named x.named_is in
    (x.statement, x.mid, x.named_is, first_said becomes c B Binary (statement_format x.statement params) old new found (first_goes look converts becomes c B old p.begun p.last new begun p.dropped found p.reads_so))
