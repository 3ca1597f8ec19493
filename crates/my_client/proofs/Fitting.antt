-- What a call returns is of its kind: each of its parts returns only that.
use Rattle.std.proofs.Common.{◌≡◌, ℕ, zero, suc, List, [], ◌∷◌, ◌++◌, length, nat_lt, Option, Some, None, Bool, true, false, ◌||◌, ◌&&◌, cond, refl, sym, ap, ◌∙◌, subst}
use Rattle.my_frame.specs.Front.{Front, Waiting, Broken, Whole}
use Rattle.my_handshake.specs.Version.{version_of}
use Rattle.my_reply.specs.declared.err.ErrPacket.{ErrPacket}
use Rattle.my_reply.specs.ErrPacket.{err_at}
use Rattle.my_reply.specs.declared.replies.PrepareOk.{PrepareOk}
use Rattle.my_reply.specs.Replies.{prepare_ok_at}
use Rattle.my_value.specs.RowParts.{RowParts}
use Rattle.my_params.specs.declared.params.Params.{Params}
use Rattle.my_statements.specs.Cache.{Held}
use Rattle.my_grammar.specs.declared.login.Login.{Login}
use Rattle.my_grammar.specs.declared.spot.Kind.{Kind}
use Rattle.my_grammar.specs.declared.spot.Kind.TheVariants as kinds
use Rattle.my_grammar.specs.Cut.{front_of, kind_of as payload_kind, is_over}
use Rattle.my_grammar.specs.Growth.{grow}
use Rattle.my_grammar.specs.Talk.{Talk, commands_in, context_of, limit_of, says, secret_in}
use Rattle.my_reading.specs.declared.call.Call.{Call}
use Rattle.my_reading.specs.declared.call.Call.TheVariants as calls
use Rattle.my_reading.specs.declared.call.CallKind.{CallKind}
use Rattle.my_reading.specs.declared.call.CallKind.TheVariants as call_kinds
use Rattle.my_reading.specs.declared.error.DriverError.{DriverError}
use Rattle.my_reading.specs.declared.error.ServerError.{ServerError}
use Rattle.my_reading.specs.declared.transaction.Trial.{Trial}
use Rattle.my_reading.specs.declared.transaction.Trial.TheVariants as trials
use Rattle.my_reading.specs.Calls.{kind_of, statement_in, text_in}
use Rattle.my_reading.specs.Commands.{arranging_texts, queried, setup_texts}
use Rattle.my_reading.specs.Course.{Part, All, Head, Item, Set, Rest, Command, Find, Check, Run, Reply, Keep, Give, Offered, Text, Flag, Renew, Drain, Undo, Refuse, Back, Step, Goes, Stops, Stop, Owes, Awaits, Returns, enough, step, step_of, unless_owed, with_front, reads as reads_front, run, after_payload, after_kind, after_err, dropped_at, is_drain, is_greeting, is_rows, unless_cached, unless_long, with_command, first_above, found, checked, executed, closing_of, offered, parts_of, parts_of_texts, parts_of_lists, parts_of_batch, parts_of_queries, undone, renewing, unless_refused, refused_at, returned, above}
use Rattle.my_reading.specs.Errors.{server_error}
use Rattle.my_reading.specs.Executions.{Values, Fitting, Unfitting, values_for}
use Rattle.my_reading.specs.Facts.{prepared_by}
use Rattle.my_reading.specs.Place.{Place, exchanges, facts_at, next_exchange, owed, terms_of, with_bytes, with_statements, with_talk}
use Rattle.my_reading.specs.Reading.{ReadCall, Reading, closed_answer, halt_of}
use Rattle.my_reading.specs.Rows.{row_of}
use Rattle.my_reading.specs.Statements.{held_in, is_cached, is_mixed_text, leaving, query_of, with_prepared}
use Rattle.my_reading.specs.Tape.{Span}
use Rattle.my_reading.specs.Told.{Told, ToldReady, ToldRow}
use Rattle.my_reading.specs.Transactions.{begin_refusal, begin_texts, is_given_up, rollback_text}
use Rattle.my_reading.specs.Versions.{can_reset}
use Rattle.my_session.specs.Fits.{may_be, may_lack_sets, prepares, reads, resets}
use Rattle.my_client.specs.Kept.{Asked, Kept}
use Rattle.my_client.specs.Reads.{newest_stop, stop_kept}
use Rattle.my_client.proofs.TapeRead.{open_reading, reading_before, span_open}
use Rattle.my_client.proofs.TapeRead.Lists.{one_read}

-- whether a call of this kind may return what this part returns
abbrev part_fits : CallKind → Part → Bool
part_fits c Item = reads c && may_lack_sets c
part_fits c Set = may_be c ToldReady && may_lack_sets c
part_fits c Find = prepares c
part_fits c Give = prepares c
part_fits c Offered = resets c
part_fits c (Flag flag) = resets c
part_fits c Back = false
part_fits c part = true

-- the parts that are always a call's last
abbrev ends_call : Part → Bool
ends_call Item = true
ends_call Set = true
ends_call Give = true
ends_call (Flag flag) = true
ends_call part = false

-- what these parts return; without a part the call is done
abbrev all_fit : CallKind → List Part → Bool
all_fit c [] = may_be c ToldReady
all_fit c (part ∷ parts) = part_fits c part && (ends_call part || all_fit c parts)

abbrev was_refused : Trial → Bool
was_refused (trials.Refused first) = true
was_refused trial = false

-- Parts that return what a call of this kind may, and those of a transaction that is rolled back since it couldn't be committed, which
-- return the server's error.
data Fits (c : CallKind) : List Part → Place → Type 0 where
  Forward : (parts : List Part) (p : Place) → all_fit c parts ≡ true → Fits c parts p
  Undoes : (p : Place) → was_refused p.trial ≡ true → Fits c (Undo ∷ Back ∷ []) p
  Reverts : (p : Place) → was_refused p.trial ≡ true → Fits c (Back ∷ []) p

-- a step that goes on has parts that fit, and one that returns, what fits
abbrev StopFits : CallKind → Stop → Type 0
StopFits c Owes = Unit {0}
StopFits c Awaits = Unit {0}
StopFits c (Returns t) = may_be c t ≡ true

abbrev StepFits : CallKind → Step → Type 0
StepFits c (Goes parts p) = Fits c parts p
StepFits c (Stops p s) = StopFits c s

first_holds : (a b : Bool) → (a && b) ≡ true → a ≡ true
first_holds true b e = refl
first_holds false b e = cc

second_holds : (a b : Bool) → (a && b) ≡ true → b ≡ true
second_holds true b e = e
second_holds false b e = cc

module _ (c : CallKind) (login : Login) where
  module _ (p : Place) where
    if_fits : (b : Bool) (x y : Step) → StepFits c x → StepFits c y → StepFits c (cond b x y)
    if_fits true x y f g = f
    if_fits false x y f g = g

    refused_fits : (x : Trial) (new : Place) (e : ServerError) → StepFits c (refused_at x new e)
    refused_fits trials.Off new e = refl
    refused_fits trials.On new e = Undoes _ refl
    refused_fits (trials.Refused first) new e = refl

    err_fits : (new : Place) (x : Option ErrPacket) → StepFits c (after_err login p new x)
    err_fits new None = refl
    err_fits new (Some e) = refused_fits p.trial new (server_error e)

    -- a transaction that couldn't be committed was rolled back
    returned_fits : (q : Place) (x : Trial) → was_refused x ≡ true → StepFits c (returned q x)
    returned_fits q trials.Off e = absurd (cc)
    returned_fits q trials.On e = absurd (cc)
    returned_fits q (trials.Refused first) e = refl

    module _ (parts : List Part) where
      -- the parts go on with the rest, or with this one again
      kind_fits : (x : Part) (k : Kind) (new : Place) (r : RowParts) → all_fit c (x ∷ parts) ≡ true → StepFits c (after_kind x parts k new (ToldRow r))
      kind_fits Head (kinds.Good status) new r e = Forward _ _ e
      kind_fits Item (kinds.Good status) new r e = first_holds (reads c) _ (first_holds _ _ e)
      kind_fits Item (kinds.End status) new r e = first_holds (reads c) _ (first_holds _ _ e)
      kind_fits Item kinds.Row new r e = first_holds (reads c) _ (first_holds _ _ e)
      kind_fits Set (kinds.Good status) new r e = first_holds (may_be c ToldReady) _ (first_holds _ _ e)
      kind_fits Back k new r e = absurd (cc)
      kind_fits part k new r e = Forward _ _ e

      dropped_fits : (new : Place) (x : Option ErrPacket) → all_fit c parts ≡ true → StepFits c (dropped_at login parts p new x)
      dropped_fits new None e = refl
      dropped_fits new (Some f) e = Forward _ _ e

      -- the payload in front, where only an ERR depends on the part
      module _ (part : Part) (goes : (new : Place) → new.trial ≡ p.trial → Fits c (part ∷ parts) new)
          (kinds_fit : (k : Kind) (new : Place) (r : RowParts) → new.trial ≡ p.trial → StepFits c (after_kind part parts k new (ToldRow r)))
          (drains : is_drain part ≡ true → all_fit c parts ≡ true) where
        failed_fits : (new : Place) (x : Option ErrPacket) (b : Bool) → is_drain part ≡ b → StepFits c (cond b (dropped_at login parts p new x) (after_err login p new x))
        failed_fits new x true e = dropped_fits new x (drains e)
        failed_fits new x false e = err_fits new x

        cached_fits : (x : Option PrepareOk) (new : Place) → new.trial ≡ p.trial → StepFits c (unless_cached login p x (Goes (part ∷ parts) new))
        cached_fits None new same = goes new same
        cached_fits (Some ok) new same = if_fits (is_cached p.statements ok.id) _ _ refl (goes new same)

        said_fits : (new : Place) → new.trial ≡ p.trial → (o : Option ℕ) → StepFits c (unless_long p (limit_of p.talk) o (Goes (part ∷ parts) new))
        said_fits new same None = goes new same
        said_fits new same (Some len) = refl

        payload_fits : (payload : List ℕ) (new : Place) → new.trial ≡ p.trial → (k : Kind) → StepFits c (after_payload login part parts p new payload k)
        payload_fits payload new same kinds.Bad = refl
        payload_fits payload new same kinds.Failed = failed_fits new (err_at (is_greeting (context_of p.talk).spot) payload) (is_drain part) refl
        payload_fits payload new same (kinds.Greets n) = said_fits new same (above (limit_of p.talk) (says login (secret_in p.talk) (kinds.Greets n) payload))
        payload_fits payload new same (kinds.Asks n) = said_fits new same (above (limit_of p.talk) (says login (secret_in p.talk) (kinds.Asks n) payload))
        payload_fits payload new same (kinds.Prepared params columns) = cached_fits (prepare_ok_at payload) new same
        payload_fits payload new same k = kinds_fit k new (row_of (context_of p.talk).rows (facts_at login p).columns payload) same

        front_fits : (x : Front) → StepFits c (with_front login part parts p x)
        front_fits Waiting = tt
        front_fits (Broken fault) = refl
        front_fits (Whole payload rest next) = payload_fits payload (with_talk p (grow (payload_kind p.talk payload) p.talk payload) rest) refl (payload_kind p.talk payload)

      reads_fit : (part : Part) → all_fit c (part ∷ parts) ≡ true → (is_drain part ≡ true → all_fit c parts ≡ true) → StepFits c (reads_front login part parts p)
      reads_fit part e drains =
          front_fits part (λ new same. Forward _ _ e) (λ k new r same. kind_fits part k new r e) drains (front_of p.talk p.unread)

      long_fits : (q : Place) (limit : ℕ) (x : Option ℕ) (next : Place) → Fits c parts next → StepFits c (unless_long q limit x (Goes parts next))
      long_fits q limit None next f = f
      long_fits q limit (Some len) next f = refl

      command_fits : (call : Call) (q : Place) (x : Option Talk) → all_fit c parts ≡ true → StepFits c (with_command call parts q x)
      command_fits call q None e = Forward _ _ e
      command_fits call q (Some t) e = long_fits q (limit_of t) (first_above (limit_of t) (commands_in t)) _ (Forward _ _ e)

      found_fits : (text : List ℕ) (x : Option Held) → prepares c ≡ true → all_fit c parts ≡ true → StepFits c (found parts p text x)
      found_fits text None f e = Forward _ _ e
      found_fits text (Some h) f e = f

      checked_fits : (x : Values) → all_fit c parts ≡ true → StepFits c (checked parts p x)
      checked_fits (Fitting values) e = Forward _ _ e
      checked_fits (Unfitting f) e = refl

      offered_fits : (b : Bool) → resets c ≡ true → all_fit c parts ≡ true → StepFits c (offered parts p b)
      offered_fits true f e = Forward _ _ e
      offered_fits false f e = f

      undone_fits : (call : Call) (b : Bool) → all_fit c parts ≡ true → StepFits c (undone login call parts p b)
      undone_fits call true e = command_fits call p (Some (queried (terms_of login (exchanges p)) rollback_text)) e
      undone_fits call false e = Forward _ _ e

      unless_fits : (x : Option DriverError) → all_fit c parts ≡ true → StepFits c (unless_refused parts p x)
      unless_fits None e = Forward _ _ e
      unless_fits (Some f) e = refl

    part_fits_so : (call : Call) (parts : List Part) → all_fit c parts ≡ true → StepFits c (step_of login call parts p)
    part_fits_so call [] e = e
    part_fits_so call (Command ∷ parts) e = command_fits parts call p (next_exchange login call p) e
    part_fits_so call (All ∷ parts) e = if_fits p.end_left _ _ (Forward _ _ e) (if_fits (is_over p.talk) _ _ (Forward _ _ e) (reads_fit parts All e (λ x. e)))
    part_fits_so call (Head ∷ parts) e = if_fits (is_rows (context_of p.talk).spot) _ _ (Forward _ _ e) (reads_fit parts Head e (λ x. e))
    part_fits_so call (Item ∷ parts) e =
        let f = first_holds (reads c && may_lack_sets c) _ e in
        if_fits p.end_left _ _ (first_holds (reads c) _ f) (if_fits (is_over p.talk) _ _ (second_holds (reads c) _ f) (reads_fit parts Item e (λ x. absurd (cc))))
    part_fits_so call (Set ∷ parts) e =
        let f = first_holds (may_be c ToldReady && may_lack_sets c) _ e in
        if_fits (p.end_left || is_rows (context_of p.talk).spot) _ _ (first_holds (may_be c ToldReady) _ f)
        (if_fits (is_over p.talk) _ _ (second_holds (may_be c ToldReady) _ f) (reads_fit parts Set e (λ x. absurd (cc))))
    part_fits_so call (Rest ∷ parts) e = if_fits p.end_left _ _ (Forward _ _ e) (if_fits (is_rows (context_of p.talk).spot) _ _ (reads_fit parts Rest e (λ x. e)) (Forward _ _ e))
    part_fits_so call (Find ∷ parts) e =
        if_fits (is_mixed_text (text_in call)) _ _ refl
        (found_fits parts (text_in call) (held_in p.statements (query_of (text_in call))) (first_holds (prepares c) _ e) (second_holds (prepares c) _ e))
    part_fits_so call (Check params ∷ parts) e = checked_fits parts (values_for (statement_in call) params) e
    part_fits_so call (Run params ∷ parts) e = command_fits parts call p (executed login call p params) e
    part_fits_so call (Reply ∷ parts) e = if_fits (is_over p.talk) _ _ (Forward _ _ e) (reads_fit parts Reply e (λ x. e))
    part_fits_so call (Keep ∷ parts) e =
        let f = facts_at login p in
        command_fits parts (calls.Prepare (text_in call)) (with_statements (with_prepared (query_of (text_in call)) (prepared_by f) f.reply.fields p.statements) p)
        (closing_of (terms_of login (exchanges p)) (leaving (query_of (text_in call)) (prepared_by f) p.statements)) e
    part_fits_so call (Give ∷ parts) e = first_holds (prepares c) _ e
    part_fits_so call (Offered ∷ parts) e = offered_fits parts (can_reset (version_of (facts_at login p).version)) (first_holds (resets c) _ e) (second_holds (resets c) _ e)
    part_fits_so call (Text text ∷ parts) e = command_fits parts call p (Some (queried (terms_of login (exchanges p)) text)) e
    part_fits_so call (Flag flag ∷ parts) e = first_holds (resets c) _ e
    part_fits_so call (Renew ∷ parts) e = command_fits parts call p (Some (renewing login call p (facts_at login p))) e
    part_fits_so call (Drain ∷ parts) e = if_fits p.end_left _ _ (Forward _ _ e) (if_fits (is_over p.talk) _ _ (Forward _ _ e) (reads_fit parts Drain e (λ x. e)))
    part_fits_so call (Undo ∷ parts) e = undone_fits parts call (is_given_up p.status) e
    part_fits_so call (Refuse opts ∷ parts) e = unless_fits parts (begin_refusal opts (version_of (facts_at login p).version) p.status) e
    part_fits_so call (Back ∷ parts) e = absurd (cc)
    part_fits_so call (part ∷ parts) e = Forward _ _ e

    -- the transaction is rolled back, and then the first error is returned
    back_kinds : (k : Kind) (new : Place) (r : RowParts) → was_refused new.trial ≡ true → StepFits c (after_kind Back [] k new (ToldRow r))
    back_kinds k new r f = Reverts new f

    back_fits : (call : Call) → was_refused p.trial ≡ true → StepFits c (step_of login call (Back ∷ []) p)
    back_fits call f =
        if_fits (is_over p.talk) _ _ (returned_fits p p.trial f)
        (front_fits [] Back (λ new same. Reverts new (ap was_refused same ∙ f)) (λ k new r same. back_kinds k new r (ap was_refused same ∙ f)) (λ x. absurd (cc)) (front_of p.talk p.unread))

    undo_fits : (call : Call) (b : Bool) → was_refused p.trial ≡ true → StepFits c (undone login call (Back ∷ []) p b)
    undo_fits call true f =
        let t : Talk = queried (terms_of login (exchanges p)) rollback_text in
        long_fits (Back ∷ []) p (limit_of t) (first_above (limit_of t) (commands_in t)) _ (Reverts _ f)
    undo_fits call false f = Reverts p f

    step_fits : (call : Call) (parts : List Part) → Fits c parts p → StepFits c (step login call parts p)
    unfolding step
    step_fits call parts w = by_owed (owed p)
      where
        by_parts : (parts : List Part) → Fits c parts p → StepFits c (step_of login call parts p)
        by_parts parts (Forward xs q e) = part_fits_so call parts e
        by_parts parts (Undoes q f) = undo_fits call (is_given_up p.status) f
        by_parts parts (Reverts q f) = back_fits call f

        by_owed : (x : List ℕ) → StepFits c (unless_owed x p (step_of login call parts p))
        by_owed [] = by_parts parts w
        by_owed (b ∷ bs) = tt

  run_fits : (n : ℕ) (call : Call) (x : Step) → StepFits c x → StopFits c (run n login call x).stop
  unfolding run
  run_fits zero call (Stops q s) f = f
  run_fits (suc n) call (Stops q s) f = f
  run_fits zero call (Goes parts q) f = tt
  run_fits (suc n) call (Goes parts q) f = run_fits n call (step login call parts q) (step_fits q call parts f)

-- the parts of each call
texts_fit : (texts : List (List ℕ)) → all_fit call_kinds.Connect (parts_of_texts texts) ≡ true
texts_fit [] = refl
texts_fit (text ∷ texts) = texts_fit texts

lists_fit : (lists : List Params) → all_fit call_kinds.Batch (parts_of_lists lists) ≡ true
lists_fit [] = refl
lists_fit (params ∷ lists) = lists_fit lists

batch_fits : (lists : List Params) → all_fit call_kinds.Batch (parts_of_batch lists) ≡ true
batch_fits [] = refl
batch_fits (params ∷ lists) = lists_fit lists

queries_fit : (c : CallKind) (texts : List (List ℕ)) (parts : List Part) → all_fit c parts ≡ true → all_fit c (parts_of_queries texts parts) ≡ true
queries_fit c [] parts e = e
queries_fit c (text ∷ texts) parts e = queries_fit c texts parts e

parts_fit : (login : Login) (call : Call) → all_fit (kind_of call) (parts_of login call) ≡ true
parts_fit login calls.Connect = texts_fit (arranging_texts login)
parts_fit login (calls.Batch statement lists) = batch_fits lists
parts_fit login calls.Reset = queries_fit call_kinds.Reset (setup_texts login) _ refl
parts_fit login (calls.ChangeUser change) = queries_fit call_kinds.ChangeUser (setup_texts login) _ refl
parts_fit login (calls.Begin opts) = queries_fit call_kinds.Begin (begin_texts opts) _ refl
parts_fit login calls.ResetForPool = queries_fit call_kinds.ResetForPool (setup_texts login) _ refl
parts_fit login _ = refl

closed_fits : (call : Call) → may_be (kind_of call) (closed_answer call) ≡ true
closed_fits calls.Connect = refl
closed_fits _ = refl

halt_fits : (login : Login) (closed : Bool) (s : Span) (p : Place) → StopFits (kind_of s.call) (halt_of login closed s p).stop
halt_fits login true s p = closed_fits s.call
halt_fits login false s p =
    let q : Place = with_bytes s.sent s.taken p in
    run_fits (kind_of s.call) login (enough login s.call q) s.call (Goes (parts_of login s.call) q) (Forward (parts_of login s.call) q (parts_fit login s.call))

newest_more : (cs : List ReadCall) (c : ReadCall) → newest_stop (cs ++ c ∷ []) ≡ Some c.halt.stop
newest_more [] c = refl
newest_more (x ∷ []) c = refl
newest_more (x ∷ y ∷ cs) c = newest_more (y ∷ cs) c

some_fits : (c : CallKind) (x : Stop) (t : Told) → StopFits c x → Some (Returns t) ≡ Some x → may_be c t ≡ true
some_fits c Owes t f e = absurd (cc)
some_fits c Awaits t f e = absurd (cc)
some_fits c (Returns u) t f e = let same : t ≡ u = cc in subst (λ (v : Told). may_be c v ≡ true) (sym same) f

-- what the open call returns is of its kind
pub answer_fits : (login : Login) (k : Kept) (a : Asked) (t : Told) → k.pending ≡ Some a → stop_kept login k ≡ Some (Returns t) → may_be (kind_of a.call) t ≡ true
answer_fits login k a t pending e =
    let r : Reading = reading_before login k a in
    let here : stop_kept login k ≡ Some (halt_of login r.closed (span_open k a) r.place).stop =
    ap (λ (x : Reading). newest_stop x.calls) (open_reading login k a pending) ∙ newest_more r.calls (one_read login r (span_open k a)) in
    some_fits (kind_of a.call) (halt_of login r.closed (span_open k a) r.place).stop t (halt_fits login r.closed (span_open k a) r.place) (sym e ∙ here)
