-- Whether a connection is closed after a call that waits.
use Rattle.std.proofs.Common.{◌≡◌, inl, inr, ℕ, List, [], ◌∷◌, ◌++◌, length, Bool, true, false, ◌||◌, None, Result, Ok, Err, refl, sym, ap, ◌∙◌, subst}
use Rattle.my_grammar.specs.declared.login.Login.{Login}
use Rattle.my_link.specs.Looks.{Looks}
use Rattle.my_reading.specs.declared.answer.Answer.{Answer}
use Rattle.my_reading.specs.declared.answer.Answer.TheVariants as answers
use Rattle.my_reading.specs.declared.call.Call.{Call}
use Rattle.my_reading.specs.declared.call.CallKind.{CallKind}
use Rattle.my_reading.specs.declared.error.Error.{Error}
use Rattle.my_reading.specs.declared.error.Error.TheVariants as errors
use Rattle.my_reading.specs.Calls.{is_connect, is_quit, kind_of}
use Rattle.my_reading.specs.Errors.{connection_closed}
use Rattle.my_reading.specs.Told.{closes_by, told}
use Rattle.my_reading.specs.Told.{closes as told_closes}
use Rattle.my_client.specs.declared.tape.DoneCall.{DoneCall}
use Rattle.my_client.specs.declared.tape.Said.TheVariants as says
use Rattle.my_client.specs.Kept.{Kept, asking, made_of, told_by}
use Rattle.my_client.specs.Made.{has_closed}
use Rattle.my_client.proofs.Resting.{stands_closed}
use Rattle.my_client.specs.Polls.{moved_by}
use Rattle.my_client.specs.StandsFor.{StandsFor}
use Rattle.my_client.specs.Waits.{DriveRefused, Driven, said_in}
use Rattle.my_client.proofs.Polled.{moved_calls}
use Rattle.my_client.proofs.Standing.{made_more}
use Rattle.my_conn.specs.Conn.{ConnSeen, Standing}
use Rattle.my_conn.specs.Drives.{DriveIs, WaitIs, lost_result, waited_by}
use Rattle.result_laws.specs.Closing.{ClosesBy, RestsAt, closes, closes_in, is_closed}

or_true : (b : Bool) → b || true ≡ true
or_true true = refl
or_true false = refl

-- what a call returned, as it is kept, closes so
abbrev pub closes_said : CallKind → Result Answer Error → Bool
closes_said c r = told_closes (told_by (said_in r)) c

-- a call that ended is the newest
calls_closed : (ds : List DoneCall) (d : DoneCall)
    → has_closed (made_of (ds ++ d ∷ [])) ≡ told_closes (told_by d.said) (kind_of d.call) || has_closed (made_of ds)
calls_closed ds d = ap has_closed (made_more ds d)

module _ (login : Login) (call : Call) (x y : Looks) (k end : Kept) (n : ℕ) (r : Result Answer Error) where
  driven_closed : Driven login call x y k n r end
      → has_closed (made_of end.calls) ≡ closes_said (kind_of call) r || has_closed (made_of k.calls)
  driven_closed w =
      let moved : Kept = moved_by (asking k call None) w.moves in
      let d : DoneCall = record { call = call; sent_from = length k.sent; taken_from = length k.taken; said = said_in r } in
      ap (λ (q : Kept). has_closed (made_of q.calls)) w.end_is
      ∙ calls_closed moved.calls d
      ∙ ap (λ ds. closes_said (kind_of call) r || has_closed (made_of ds)) (moved_calls (asking k call None) w.moves)

  refused_closed : DriveRefused call x y k n r end
      → has_closed (made_of end.calls) ≡ closes_said (kind_of call) r || has_closed (made_of k.calls)
  refused_closed w =
      let said = says.Failed connection_closed in
      let d : DoneCall = record { call = call; sent_from = length k.sent; taken_from = length k.taken; said = said } in
      ap (λ (q : Kept). has_closed (made_of q.calls)) w.end_is
      ∙ calls_closed k.calls d
      ∙ ap (λ q. closes_said (kind_of call) q || has_closed (made_of k.calls)) (sym w.result_is)

module _ {L : Type 0} (look : L → Looks) (c : CallKind) (call : Call) (old new : ConnSeen L) (r : Result Answer Error)
    (d : DriveIs look c call old new r) (refuses : lost_result c ≡ Err connection_closed) where
  alive : old.lost ≡ false → new.lost ≡ false → Standing false old.seen old.tape old.pending
      → new.seen.closed ≡ closes_said (kind_of call) r || old.seen.closed
  alive was is s =
      let login = s.0 in
      let k = s.1 in
      let e = d.each was is login k s.2 in
      let end = e.0 in
      let by : has_closed (made_of end.calls) ≡ closes_said (kind_of call) r || has_closed (made_of k.calls) = elim e.2 [
        | inl w ↦ driven_closed login call (look old.link) (look new.link) k end d.count r w
        | inr w ↦ refused_closed login call (look old.link) (look new.link) k end d.count r w
      ] in
      sym (stands_closed login new.seen end e.1.rests.stands)
      ∙ by
      ∙ ap (λ b. closes_said (kind_of call) r || b) (stands_closed login old.seen k s.2.rests.stands)

  losing : old.lost ≡ false → new.lost ≡ true → closes_said (kind_of call) r ≡ true
  losing was is = elim (d.loses was is) [
    | inl e ↦ ap (closes_said (kind_of call)) e
    | inr e ↦ ap (closes_said (kind_of call)) e.0
  ]

  closed_so : (a b : Bool) → old.lost ≡ a → new.lost ≡ b → Standing a old.seen old.tape old.pending
      → b || new.seen.closed ≡ closes_said (kind_of call) r || (a || old.seen.closed)
  closed_so true true was is s = sym (or_true (closes_said (kind_of call) r))
  closed_so true false was is s =
      let same = (d.lost was).0 in
      let l : new.lost ≡ true = ap (λ (v : ConnSeen L). v.lost) same ∙ was in
      cc
  closed_so false true was is s = ap (λ b. b || old.seen.closed) (sym (losing was is))
  closed_so false false was is s = alive was is s

  -- it stands after it
  stood_so : (a b : Bool) → old.lost ≡ a → new.lost ≡ b → Standing a old.seen old.tape old.pending
      → Standing b new.seen new.tape new.pending
  stood_so a true was is s = d.pending
  stood_so true false was is s =
      let same = (d.lost was).0 in
      let l : new.lost ≡ true = ap (λ (v : ConnSeen L). v.lost) same ∙ was in
      cc
  stood_so false false was is s =
      let e = d.each was is s.0 s.1 s.2 in
      (s.0, e.0, subst (λ p. StandsFor s.0 new.seen new.tape p e.0) (sym d.pending) e.1)

  pub drive_closed : RestsAt old → is_closed new ≡ closes_said (kind_of call) r || is_closed old
  drive_closed s = closed_so old.lost new.lost refl refl s.0

  pub drive_rests : RestsAt old → RestsAt new
  drive_rests s = (stood_so old.lost new.lost refl refl s.0, d.pending)

-- an answer closes nothing
answered_open : (a : Answer) (c : CallKind) → is_quit c ≡ false → told_closes (told a) c ≡ false
answered_open answers.Ready c q = q
answered_open (answers.Row row) c q = refl
answered_open answers.SetEnd c q = refl
answered_open answers.NoSet c q = refl
answered_open (answers.Stmt statement) c q = refl
answered_open (answers.Flag flag) c q = refl

failed_closes : (e : Error) (c : CallKind) → is_connect c ≡ false → closes e ≡ closes_by e c
failed_closes (errors.Driver e) c q = refl
failed_closes (errors.Io e) c q = refl
failed_closes (errors.Server e) c q = sym q
failed_closes (errors.Url e) c q = refl
failed_closes (errors.Other e) c q = refl
failed_closes errors.NoMemory c q = refl

waited_closes : {A : Type 0} (answer_of : Answer → A) (c : CallKind) (q : Result Answer Error) → is_quit c ≡ false
    → is_connect c ≡ false → closes_in (waited_by answer_of q) ≡ closes_said c q
waited_closes answer_of c (Ok a) q n = sym (answered_open a c q)
waited_closes answer_of c (Err e) q n = failed_closes e c n

module _ {L A : Type 0} (look : L → Looks) (answer_of : Answer → A) (c : CallKind) (call : Call)
    (refuses : lost_result c ≡ Err connection_closed) (quits : is_quit (kind_of call) ≡ false)
    (connects : is_connect (kind_of call) ≡ false) (old new : ConnSeen L) (result : Result A Error) where
  -- after a call that waits
  pub wait_closes : RestsAt old → WaitIs look answer_of c call old new result → ClosesBy old new result
  wait_closes s w = (
    drive_closed look c call old new w.0 w.2 refuses s
        ∙ ap (λ b. b || is_closed old) (sym (ap closes_in w.1 ∙ waited_closes answer_of (kind_of call) w.0 quits connects)),
    drive_rests look c call old new w.0 w.2 refuses s,
  )
