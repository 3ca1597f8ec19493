-- The calls of an answer: it is begun, its first set read, and its rest dropped.
use Rattle.std.proofs.Common.{◌≡◌, ◌⊎◌, inl, inr, ℕ, List, [], ◌∷◌, Bool, true, false, None, Result, Ok, Err, refl, sym, ap, ◌∙◌, subst}
use Rattle.my_grammar.specs.declared.login.Login.{Login}
use Rattle.my_grammar.specs.Sets.{Sets}
use Rattle.my_grammar.specs.Talk.{Talk}
use Rattle.my_link.specs.Looks.{Looks}
use Rattle.my_params.specs.declared.params.Params.{Params}
use Rattle.my_statements.specs.Prepared.{StatementView}
use Rattle.my_value.specs.RowParts.{RowParts}
use Rattle.my_reading.specs.declared.answer.Answer.TheVariants as answers
use Rattle.my_reading.specs.declared.call.Call.{Call}
use Rattle.my_reading.specs.declared.call.Call.TheVariants as calls
use Rattle.my_reading.specs.declared.call.CallKind.TheVariants as kinds
use Rattle.my_reading.specs.Course.{Returns, course, halt}
use Rattle.my_reading.specs.Place.{Place, with_bytes}
use Rattle.my_reading.specs.Told.{Told, ToldReady, told}
use Rattle.my_client.specs.Reads.{place_kept}
use Rattle.my_conn.specs.Answers.{done_of, next_of}
use Rattle.my_conn.specs.Conn.{ConnSeen}
use Rattle.my_conn.specs.Drives.{DoneIs, DriveIs, NextIs, PrepareIs}
use Rattle.my_conn.specs.declared.drive.NextAnswer.TheVariants.{Row, SetEnd, NoSet}
use Rattle.my_client.specs.StandsFor.{StandsFor}
use Rattle.my_client.specs.Kept.{Kept}
use Rattle.history_laws.specs.Fronts.{Set}
use Rattle.my_rows.specs.Reads.{ReadsEnd, ReadsRows}
use Rattle.query_laws.specs.Found.{BeginsWith}
use Rattle.query_laws.specs.Begins.{IsExecution, IsQuery}
use Rattle.query_laws.proofs.Answering.{At, implies}
use Rattle.query_laws.proofs.Driving.{stepped}
use Rattle.query_laws.proofs.Dropping.{Leaves, drop_leaves}
use Rattle.query_laws.proofs.Firsts.{Grows, HasFirst, first_begins, grow_keeps}
use Rattle.query_laws.proofs.Heading.{Opens, Reads, execution_opens, query_opens}
use Rattle.query_laws.proofs.Items.{Gives, Has, read_gives}
use Rattle.query_laws.proofs.Since.{IsPlain, Waited, Went, end_told, first_step, none_told, ready_told, row_told, then_step, waits}

-- bytes more leave the exchange
at_bytes : (c : Call) (B : Talk → Type 0) (R : Bool → Sets → Type 0) (p : Place) (sent taken : List ℕ) → At c B R p → At c B R (with_bytes sent taken p)
at_bytes c B R p sent taken w = record { began = w.began; so = w.so; call_is = w.call_is; answered = w.answered }

begins_so : (r : RowParts) (e : Bool) (x : Sets) → Reads (r ∷ []) e x → HasFirst (BeginsWith r) x
begins_so r false x w = first_begins r x w
begins_so r true x w = let no = w.0 in absurd (cc)

begun_at : (c : Call) (B : Talk → Type 0) (r : RowParts) (p : Place) → At c B (Reads (r ∷ [])) p → At c B (λ e x. HasFirst (BeginsWith r) x) p
begun_at c B r p w = record { began = w.began; so = w.so; call_is = w.call_is; answered = implies w.began (Reads (r ∷ []) p.end_left) (HasFirst (BeginsWith r)) p.talk (λ x h. begins_so r p.end_left x h) w.answered }

module _ {L : Type 0} (look : L → Looks) where
  pub query_goes : (text : List ℕ) (old new : ConnSeen L) → old.pending ≡ None → DoneIs look kinds.Query (calls.Query text) old new (Ok tt) → Went (λ login p. At (calls.Query text) (IsQuery text) (Reads []) p) old new
  query_goes text old new idle d =
      let w = waits look done_of tt kinds.Query (calls.Query text) old new idle refl refl refl d in
      let is = ready_told kinds.Query (record { reads_none = refl; lacks_none = refl; prepares_none = refl; resets_none = refl }) w.answer w.fits in
      first_step (calls.Query text) w.answer (λ login p. Unit {0}) (λ login p. At (calls.Query text) (IsQuery text) (Reads []) p) old new w.step
      (λ login p q e. subst (Opens (calls.Query text) (IsQuery text) q) is (query_opens login text p q (told w.answer) e))

  pub execution_goes : (statement : StatementView) (params : Params) (old new : ConnSeen L) → old.pending ≡ None → DoneIs look kinds.Execute (calls.Execute statement params) old new (Ok tt)
      → Went (λ login p. At (calls.Execute statement params) (IsExecution statement params) (Reads []) p) old new
  execution_goes statement params old new idle d =
      let c = calls.Execute statement params in
      let w = waits look done_of tt kinds.Execute c old new idle refl refl refl d in
      let is = ready_told kinds.Execute (record { reads_none = refl; lacks_none = refl; prepares_none = refl; resets_none = refl }) w.answer w.fits in
      first_step c w.answer (λ login p. Unit {0}) (λ login p. At c (IsExecution statement params) (Reads []) p) old new w.step
      (λ login p q e. subst (Opens c (IsExecution statement params) q) is (execution_opens login statement params p q (told w.answer) e))

  -- an execution after what was done before
  pub execution_follows : (statement : StatementView) (params : Params) (P : Login → Place → Type 0) (old mid new : ConnSeen L) → Went P old mid → DoneIs look kinds.Execute (calls.Execute statement params) mid new (Ok tt)
      → Went (λ login p. At (calls.Execute statement params) (IsExecution statement params) (Reads []) p) old new
  execution_follows statement params P old mid new a d =
      let c = calls.Execute statement params in
      let w = waits look done_of tt kinds.Execute c mid new a.pending refl refl refl d in
      let is = ready_told kinds.Execute (record { reads_none = refl; lacks_none = refl; prepares_none = refl; resets_none = refl }) w.answer w.fits in
      then_step c w.answer P (λ login p. At c (IsExecution statement params) (Reads []) p) old mid new a w.step
      (λ login p q sent taken at e. subst (Opens c (IsExecution statement params) q) is (execution_opens login statement params (with_bytes sent taken p) q (told w.answer) e))

  -- a statement was prepared
  pub prepare_goes : (text : List ℕ) (statement : StatementView) (old new : ConnSeen L) → old.pending ≡ None → PrepareIs look text old new (Ok statement) → Went (λ login p. Unit {0}) old new
  prepare_goes text statement old new idle d =
      let drive : DriveIs look kinds.Prepare (calls.Prepare text) old new (Ok (answers.Stmt statement)) = subst (DriveIs look kinds.Prepare (calls.Prepare text) old new) d.1 d.2 in
      first_step (calls.Prepare text) (answers.Stmt statement) (λ login p. Unit {0}) (λ login p. Unit {0}) old new (stepped look kinds.Prepare (calls.Prepare text) (answers.Stmt statement) old new idle refl refl refl drive) (λ login p q e. tt)

  module _ (c : Call) (B : Talk → Type 0) where
    row_goes : (rows : List RowParts) (r : RowParts) (old mid new : ConnSeen L) → Went (λ login p. At c B (Reads rows) p) old mid → NextIs look mid new (Ok (Row r)) → Went (λ login p. At c B (Reads (r ∷ rows)) p) old new
    row_goes rows r old mid new a d =
        let w = waits look next_of (Row r) kinds.NextRow calls.NextRow mid new a.pending refl refl refl d in
        then_step calls.NextRow w.answer (λ login p. At c B (Reads rows) p) (λ login p. At c B (Reads (r ∷ rows)) p) old mid new a w.step
        (λ login p q sent taken at e. subst (Gives c B rows q) (row_told r w.answer w.got) (read_gives login c B rows (with_bytes sent taken p) q (told w.answer) (at_bytes c B (Reads rows) p sent taken at) e))

    pub rows_go : (rows : List RowParts) (old mid new : ConnSeen L) → Went (λ login p. At c B (Reads []) p) old mid → ReadsRows look mid rows new → Went (λ login p. At c B (Reads rows) p) old new
    rows_go [] old mid new a d = subst (λ x. Went (λ login p. At c B (Reads []) p) old x) (sym d) a
    rows_go (r ∷ rows) old mid new a d = row_goes rows r old d.0 new (rows_go rows old mid d.0 a d.1) d.2

    -- one row, with which the first set begins
    pub one_goes : (r : RowParts) (old mid new : ConnSeen L) → Went (λ login p. At c B (Reads []) p) old mid → NextIs look mid new (Ok (Row r)) → Went (λ login p. At c B (λ e x. HasFirst (BeginsWith r) x) p) old new
    one_goes r old mid new a d =
        let w = row_goes [] r old mid new a d in
        record {
          was = w.was;
          is = w.is;
          pending = w.pending;
          each = λ login k s.
              let e = w.each login k s in
              record { end = e.end; stands = e.stands; bytes = e.bytes; taken = e.taken; tape = e.tape; at = begun_at c B r (place_kept login e.end) e.at };
        }

    pub none_goes : (rows : List RowParts) (old mid new : ConnSeen L) → Went (λ login p. At c B (Reads rows) p) old mid → NextIs look mid new (Ok NoSet) → Went (λ login p. ⊥) old new
    none_goes rows old mid new a d =
        let w = waits look next_of NoSet kinds.NextRow calls.NextRow mid new a.pending refl refl refl d in
        then_step calls.NextRow w.answer (λ login p. At c B (Reads rows) p) (λ login p. ⊥) old mid new a w.step
        (λ login p q sent taken at e. subst (Gives c B rows q) (none_told w.answer w.got w.fits) (read_gives login c B rows (with_bytes sent taken p) q (told w.answer) (at_bytes c B (Reads rows) p sent taken at) e))

    pub end_goes : (rows : List RowParts) (old mid new : ConnSeen L) → Went (λ login p. At c B (Reads rows) p) old mid → ReadsEnd look mid new → Went (λ login p. At c B (Has rows) p) old new
    end_goes rows old mid new a (inl d) =
        let w = waits look next_of SetEnd kinds.NextRow calls.NextRow mid new a.pending refl refl refl d in
        then_step calls.NextRow w.answer (λ login p. At c B (Reads rows) p) (λ login p. At c B (Has rows) p) old mid new a w.step
        (λ login p q sent taken at e. subst (Gives c B rows q) (end_told w.answer w.got) (read_gives login c B rows (with_bytes sent taken p) q (told w.answer) (at_bytes c B (Reads rows) p sent taken at) e))
    end_goes rows old mid new a (inr d) =
        let w = none_goes rows old mid new a d in
        record { was = w.was; is = w.is; pending = w.pending; each = λ login k s. absurd ((w.each login k s).at) }

    pub drop_goes : (first : Set → Type 0) → Grows first → (old mid new : ConnSeen L) → Went (λ login p. At c B (λ e x. HasFirst first x) p) old mid → DoneIs look kinds.DropResult calls.DropResult mid new (Ok tt)
        → Went (λ login p. At c B (λ e x. HasFirst first x) p) old new
    drop_goes first set_grows old mid new a d =
        let w = waits look done_of tt kinds.DropResult calls.DropResult mid new a.pending refl refl refl d in
        let is = ready_told kinds.DropResult (record { reads_none = refl; lacks_none = refl; prepares_none = refl; resets_none = refl }) w.answer w.fits in
        then_step calls.DropResult w.answer (λ login p. At c B (λ e x. HasFirst first x) p) (λ login p. At c B (λ e x. HasFirst first x) p) old mid new a w.step
        (λ login p q sent taken at e. subst (Leaves c B (HasFirst first) q) is
        (drop_leaves login c B (HasFirst first) (λ d kind x payload. grow_keeps first set_grows d kind x payload) (with_bytes sent taken p) q (told w.answer) (at_bytes c B (λ e x. HasFirst first x) p sent taken at) e))
