-- Whether a connection is closed after reads of rows, and after a stream took a set.
use Rattle.std.proofs.Common.{◌≡◌, inl, inr, List, [], ◌∷◌, Bool, true, false, ◌||◌, Option, Some, None, Result, Ok, Err, refl, sym, ap, ◌∙◌, subst}
use Rattle.my_link.specs.Looks.{Looks}
use Rattle.my_value.specs.RowParts.{RowParts}
use Rattle.my_reading.specs.declared.answer.Answer.{Answer}
use Rattle.my_reading.specs.declared.call.Call.TheVariants as calls
use Rattle.my_reading.specs.declared.call.CallKind.TheVariants as kinds
use Rattle.my_reading.specs.declared.error.Error.{Error}
use Rattle.my_session.specs.Sessions.{is_taken}
use Rattle.my_conn.specs.Answers.{done_of, next_of, taken_of}
use Rattle.my_conn.specs.Conn.{ConnSeen}
use Rattle.my_conn.specs.Drives.{DriveIs}
use Rattle.my_conn.specs.Streams.{SkipEnds, StreamBegins}
use Rattle.my_conn.specs.declared.drive.NextAnswer.TheVariants.{Row, SetEnd, NoSet}
use Rattle.my_rows.specs.Reads.{ReadFails, ReadsEnd, ReadsRows}
use Rattle.my_rows.specs.declared.error.QueryError.{QueryError}
use Rattle.my_rows.specs.declared.error.QueryError.TheVariants.{Client, FromRow}
use Rattle.result_laws.specs.Closing.{CloseQuery, ClosesBy, DropCloses, ItemCloses, NextCloses, RestsAt, SetCloses, StreamCloses, closes, closes_in, is_closed}
use Rattle.result_laws.proofs.Closing.{wait_closes}

module _ {L : Type 0} (look : L → Looks) where
  pub next_closes : NextCloses look
  next_closes old new result s w = wait_closes look next_of kinds.NextRow calls.NextRow refl refl refl old new result s w

  pub drop_closes : DropCloses look
  drop_closes old new result s w =
      wait_closes look done_of kinds.DropResult calls.DropResult refl refl refl old new result s w

  take_closes : (old new : ConnSeen L) (result : Result Bool Error) → RestsAt old → StreamBegins false look old new result
      → ClosesBy old new result
  take_closes old new result s w =
      wait_closes look taken_of kinds.TakeSet calls.TakeSet refl refl refl old new result s w

  skipped : (r : Result Answer Error) (old mid new : ConnSeen L) (result : Result Bool Error) → RestsAt old
      → DriveIs look kinds.SkipTaken calls.SkipTaken old mid r → SkipEnds look r mid new result → ClosesBy old new result
  skipped (Ok a) old mid new result s d t =
      let done : Result (Unit {0}) Error = Ok (tt {0}) in
      let m = wait_closes look done_of kinds.SkipTaken calls.SkipTaken refl refl refl old mid done s (Ok a, refl, d) in
      let n = take_closes mid new result m.1 t in
      (n.0 ∙ ap (λ b. closes_in result || b) m.0, n.1)
  skipped (Err e) old mid new result s d t =
      let failed : Result (Unit {0}) Error = Err e in
      let m = wait_closes look done_of kinds.SkipTaken calls.SkipTaken refl refl refl old mid failed s (Err e, refl, d) in (
        ap is_closed t.1 ∙ m.0 ∙ ap (λ b. closes_in b || is_closed old) (sym t.0),
        subst RestsAt (sym t.1) m.1,
      )

  begun_closes : (taken : Bool) (old new : ConnSeen L) (result : Result Bool Error) → RestsAt old
      → StreamBegins taken look old new result → ClosesBy old new result
  begun_closes true old new result s w = skipped w.0 old w.1 new result s w.2 w.3
  begun_closes false old new result s w = take_closes old new result s w

  pub stream_closes : StreamCloses look
  stream_closes old new result s w = begun_closes (is_taken old.seen) old new result s w

  -- rows that were read close nothing
  rows_closed : (rows : List RowParts) (old new : ConnSeen L) → RestsAt old → ReadsRows look old rows new
      → (is_closed new ≡ is_closed old) × RestsAt new
  rows_closed [] old new s w = (ap is_closed w, subst RestsAt (sym w) s)
  rows_closed (r ∷ rs) old new s w =
      let m = rows_closed rs old w.0 s w.1 in
      let n = next_closes w.0 new (Ok (Row r)) m.1 w.2 in
      (n.0 ∙ m.0, n.1)

  end_closed : (old new : ConnSeen L) → RestsAt old → ReadsEnd look old new → is_closed new ≡ is_closed old
  end_closed old new s (inl w) = (next_closes old new (Ok SetEnd) s w).0
  end_closed old new s (inr w) = (next_closes old new (Ok NoSet) s w).0

  module _ (A : Type 0) (converts : RowParts → Type 0) where
    fail_closes : (error : QueryError) (old new : ConnSeen L) → RestsAt old → ReadFails look converts old new error
        → CloseQuery {A = A} old new (Err error)
    fail_closes (Client error) old new s (inl w) = inl (next_closes old new (Err error) s w).0
    fail_closes (Client error) old new s (inr w) =
        inr (client_in w.0, (rows_closed w.1 old new s w.2).0)
      where
        cause : QueryError → Error → Error
        cause (Client e) d = e
        cause (FromRow row) d = d

        client_in : {e f : Error} → Client e ≡ Client f → e ≡ f
        client_in {e} h = ap (λ q. cause q e) h
    fail_closes (FromRow row) old new s w = (next_closes old new (Ok (Row row)) s w.0).0

    -- what was closed before rows were read
    before : (error : QueryError) (old mid new : ConnSeen L) → is_closed mid ≡ is_closed old
        → CloseQuery {A = A} mid new (Err error) → CloseQuery {A = A} old new (Err error)
    before (Client error) old mid new same (inl w) = inl (w ∙ ap (λ b. closes error || b) same)
    before (Client error) old mid new same (inr w) = inr (w.0, w.1 ∙ same)
    before (FromRow row) old mid new same w = w ∙ same

  module _ {T : Type 0} (converts : RowParts → Type 0) (becomes : RowParts → T → Type 0) where
    pub item_closes : ItemCloses look converts becomes
    item_closes old new (Ok (Some item)) s w = (next_closes old new (Ok (Row w.0)) s w.1).0
    item_closes old new (Ok None) s w = end_closed old new s w
    item_closes old new (Err error) s w = fail_closes (Option T) converts error old new s w

    module _ {G : Type 0} (takes : G → T → G → Type 0) where
      pub set_closes : SetCloses look converts becomes takes
      set_closes old new start (Ok end) s w =
          let m = rows_closed w.0 old w.1 s w.2 in
          end_closed w.1 new m.1 w.4 ∙ m.0
      set_closes old new start (Err error) s w =
          let m = rows_closed w.0 old w.1 s w.3 in
          before G converts error old w.1 new m.0 (fail_closes G converts error w.1 new m.1 w.5)
