-- What a step of a call does to the exchanges and to the bytes: nothing, it reads a payload, or it begins an exchange.
use Rattle.std.proofs.Common.{◌≡◌, ℕ, length, nat_lt, List, [], ◌∷◌, Bool, true, false, cond, ◌||◌, Option, Some, None, refl}
use Rattle.my_flags.specs.declared.flags.CapabilityFlags.{CapabilityFlags}
use Rattle.my_frame.specs.Front.{Front, Waiting, Broken, Whole}
use Rattle.my_reply.specs.declared.err.ErrPacket.{ErrPacket}
use Rattle.my_reply.specs.ErrPacket.{err_at}
use Rattle.my_reply.specs.declared.replies.PrepareOk.{PrepareOk}
use Rattle.my_reply.specs.Replies.{prepare_ok_at}
use Rattle.my_grammar.specs.declared.login.Login.{Login}
use Rattle.my_grammar.specs.declared.spot.Kind.{Kind}
use Rattle.my_grammar.specs.declared.spot.Kind.TheVariants as kinds
use Rattle.my_grammar.specs.declared.spot.Terms.{Terms}
use Rattle.my_grammar.specs.Contexts.{is_bad}
use Rattle.my_grammar.specs.Cut.{front_of, is_over, kind_of as payload_kind}
use Rattle.my_grammar.specs.Growth.{grow}
use Rattle.my_grammar.specs.Talk.{Talk, commands_in, context_of, limit_of, says, secret_in}
use Rattle.my_handshake.specs.Version.{version_of}
use Rattle.my_reading.specs.declared.call.Call.{Call}
use Rattle.my_reading.specs.declared.call.Call.TheVariants.{Prepare}
use Rattle.my_reading.specs.declared.error.DriverError.{DriverError}
use Rattle.my_reading.specs.declared.error.Error.{Error}
use Rattle.my_reading.specs.declared.error.ServerError.{ServerError}
use Rattle.my_reading.specs.declared.transaction.Trial.{Trial}
use Rattle.my_reading.specs.declared.transaction.Trial.TheVariants as trials
use Rattle.my_reading.specs.Calls.{id_in, statement_in, text_in}
use Rattle.my_reading.specs.Commands.{queried}
use Rattle.my_reading.specs.Course.{Part, All, Head, Item, Set, Rest, Command, Find, Check, Run, Reply, Keep, Give, Learn, Offered, Text, Flag, Renew, Drain, Undo, Refuse, Back, Step, Goes, Stops, after_err, after_kind, after_payload, checked, closing_of, dropped_at, executed, failure, first_above, found, is_drain, is_greeting, is_rows, offered, reads, refused_at, renewing, returned, step, step_of, undone, unfit, unless_cached, unless_long, unless_owed, unless_refused, with_command, with_front, above}
use Rattle.my_reading.specs.Errors.{server_error}
use Rattle.my_reading.specs.Executions.{Values, Fitting, Unfitting, values_for}
use Rattle.my_reading.specs.Facts.{prepared_by}
use Rattle.my_reading.specs.Place.{Place, connects_in, exchanges, facts_at, next_exchange, owed, terms_of, with_exchange, with_statements, with_talk, without_end}
use Rattle.my_reading.specs.Statements.{Statements, held_in, is_cached, is_mixed_text, leaving, query_of, with_columns, with_prepared}
use Rattle.my_reading.specs.Told.{Told}
use Rattle.my_reading.specs.Transactions.{begin_refusal, is_given_up, rollback_text}
use Rattle.my_reading.specs.Versions.{can_reset}
use Rattle.my_statements.specs.Cache.{Held}
use Rattle.history_laws.proofs.Opening.{IsNew, closing_new, executed_new, opened_new, queried_new, some_new, renewing_new}

-- another place with the same exchanges and bytes
pub record IsAlike (p q : Place) : Type 0 where
  pub talk : q.talk ≡ p.talk
  pub older : q.older ≡ p.older
  pub unread : q.unread ≡ p.unread
  pub sent : q.sent ≡ p.sent
  pub call : q.call ≡ p.call

-- While bytes are owed nothing is read and nothing begins.
pub data Moved (p : Place) : Place → Type 0 where
  Alters : (q : Place) → IsAlike p q → Moved p q
  Takes : (q : Place) (k : Kind) (payload rest : List ℕ) (next : ℕ) → owed p ≡ [] → front_of p.talk p.unread ≡ Whole payload rest next → payload_kind p.talk payload ≡ k → is_bad k ≡ false
      → IsAlike (with_talk p (grow k p.talk payload) rest) q → Moved p q
  Begins : (q : Place) (call : Call) (t : Talk) → owed p ≡ [] → IsNew t → IsAlike (with_exchange p call t) q → Moved p q

abbrev pub place_of : Step → Place
place_of (Goes parts q) = q
place_of (Stops q s) = q

module _ (p : Place) (paid : owed p ≡ []) where
  stays : Moved p p
  stays = Alters p (record { talk = refl; older = refl; unread = refl; sent = refl; call = refl })

  alike : (q : Place) → IsAlike p q → Moved p q
  alike q a = Alters q a

  -- a payload is read
  module _ (login : Login) (part : Part) (parts : List Part) (payload rest : List ℕ) (next : ℕ) (front : front_of p.talk p.unread ≡ Whole payload rest next) where
    abbrev new : Kind → Place
    new k = with_talk p (grow k p.talk payload) rest

    took : (k : Kind) → payload_kind p.talk payload ≡ k → is_bad k ≡ false → (q : Place) → IsAlike (new k) q → Moved p q
    took k e good q a = Takes q k payload rest next paid front e good a

    refused_moves : payload_kind p.talk payload ≡ kinds.Failed → (x : Trial) (e : ServerError) → Moved p (place_of (refused_at x (new kinds.Failed) e))
    refused_moves i trials.Off e = took kinds.Failed i refl _ (record { talk = refl; older = refl; unread = refl; sent = refl; call = refl })
    refused_moves i trials.On e = took kinds.Failed i refl _ (record { talk = refl; older = refl; unread = refl; sent = refl; call = refl })
    refused_moves i (trials.Refused first) e = took kinds.Failed i refl _ (record { talk = refl; older = refl; unread = refl; sent = refl; call = refl })

    err_moves : payload_kind p.talk payload ≡ kinds.Failed → (o : Option ErrPacket) → Moved p (place_of (after_err login p (new kinds.Failed) o))
    err_moves i None = stays
    err_moves i (Some e) = refused_moves i p.trial (server_error e)

    dropped_moves : payload_kind p.talk payload ≡ kinds.Failed → (o : Option ErrPacket) → Moved p (place_of (dropped_at login parts p (new kinds.Failed) o))
    dropped_moves i None = stays
    dropped_moves i (Some e) = took kinds.Failed i refl _ (record { talk = refl; older = refl; unread = refl; sent = refl; call = refl })

    failed_moves : payload_kind p.talk payload ≡ kinds.Failed → (b : Bool) (o : Option ErrPacket) → Moved p (place_of (cond b (dropped_at login parts p (new kinds.Failed) o) (after_err login p (new kinds.Failed) o)))
    failed_moves i true o = dropped_moves i o
    failed_moves i false o = err_moves i o

    said_moves : (k : Kind) → payload_kind p.talk payload ≡ k → is_bad k ≡ false → (o : Option ℕ) → Moved p (place_of (unless_long p (limit_of p.talk) o (Goes (part ∷ parts) (new k))))
    said_moves k i good (Some len) = stays
    said_moves k i good None = took k i good _ (record { talk = refl; older = refl; unread = refl; sent = refl; call = refl })

    cached_moves : (m n : ℕ) → payload_kind p.talk payload ≡ kinds.Prepared m n → (o : Option PrepareOk) → Moved p (place_of (unless_cached login p o (Goes (part ∷ parts) (new (kinds.Prepared m n)))))
    cached_moves m n i None = took (kinds.Prepared m n) i refl _ (record { talk = refl; older = refl; unread = refl; sent = refl; call = refl })
    cached_moves m n i (Some ok) = by_id (is_cached p.statements ok.id)
      where
        by_id : (b : Bool) → Moved p (place_of (cond b (unfit login p) (Goes (part ∷ parts) (new (kinds.Prepared m n)))))
        by_id true = stays
        by_id false = took (kinds.Prepared m n) i refl _ (record { talk = refl; older = refl; unread = refl; sent = refl; call = refl })

    kind_moves : (x : Part) (k : Kind) (row : Told) → payload_kind p.talk payload ≡ k → is_bad k ≡ false → Moved p (place_of (after_kind x parts k (new k) row))
    kind_moves Head (kinds.Good s) row i good = took (kinds.Good s) i good _ (record { talk = refl; older = refl; unread = refl; sent = refl; call = refl })
    kind_moves Item (kinds.Good s) row i good = took (kinds.Good s) i good _ (record { talk = refl; older = refl; unread = refl; sent = refl; call = refl })
    kind_moves Item (kinds.End s) row i good = took (kinds.End s) i good _ (record { talk = refl; older = refl; unread = refl; sent = refl; call = refl })
    kind_moves Item kinds.Row row i good = took kinds.Row i good _ (record { talk = refl; older = refl; unread = refl; sent = refl; call = refl })
    kind_moves Set (kinds.Good s) row i good = took (kinds.Good s) i good _ (record { talk = refl; older = refl; unread = refl; sent = refl; call = refl })
    kind_moves part k row i good = took k i good _ (record { talk = refl; older = refl; unread = refl; sent = refl; call = refl })

    payload_moves : (k : Kind) → payload_kind p.talk payload ≡ k → Moved p (place_of (after_payload login part parts p (new k) payload k))
    payload_moves kinds.Bad i = stays
    payload_moves kinds.Failed i = failed_moves i (is_drain part) (err_at (is_greeting (context_of p.talk).spot) payload)
    payload_moves (kinds.Greets n) i = said_moves (kinds.Greets n) i refl (above (limit_of p.talk) (says login (secret_in p.talk) (kinds.Greets n) payload))
    payload_moves (kinds.Asks n) i = said_moves (kinds.Asks n) i refl (above (limit_of p.talk) (says login (secret_in p.talk) (kinds.Asks n) payload))
    payload_moves (kinds.Prepared m n) i = cached_moves m n i (prepare_ok_at payload)
    payload_moves k i = kind_moves part k _ i refl

  module _ (login : Login) (part : Part) (parts : List Part) where
    front_moves : (f : Front) → front_of p.talk p.unread ≡ f → Moved p (place_of (with_front login part parts p f))
    front_moves Waiting e = stays
    front_moves (Broken fault) e = stays
    front_moves (Whole payload rest next) e = payload_moves login part parts payload rest next e (payload_kind p.talk payload) refl

    reads_move : Moved p (place_of (reads login part parts p))
    reads_move = front_moves (front_of p.talk p.unread) refl

  -- an exchange begins from a place that is alike
  module _ (q : Place) (altered : IsAlike p q) (call : Call) (parts : List Part) where
    long_has : (t : Talk) → Moved p (with_exchange q call t) → (o : Option ℕ) → Moved p (place_of (unless_long q (limit_of t) o (Goes parts (with_exchange q call t))))
    long_has t m None = m
    long_has t m (Some n) = Alters q altered

    command_moves : ((t : Talk) → IsNew t → Moved p (with_exchange q call t)) → (x : Option Talk) → ((t : Talk) → x ≡ Some t → IsNew t) → Moved p (place_of (with_command call parts q x))
    command_moves begins None fresh = Alters q altered
    command_moves begins (Some t) fresh = long_has t (begins t (fresh t refl)) (first_above (limit_of t) (commands_in t))

  module _ (call : Call) (parts : List Part) where
    begins_here : (t : Talk) → IsNew t → Moved p (with_exchange p call t)
    begins_here t n = Begins (with_exchange p call t) call t paid n (record { talk = refl; older = refl; unread = refl; sent = refl; call = refl })

    here_moves : (x : Option Talk) → ((t : Talk) → x ≡ Some t → IsNew t) → Moved p (place_of (with_command call parts p x))
    here_moves x fresh = command_moves p (record { talk = refl; older = refl; unread = refl; sent = refl; call = refl }) call parts begins_here x fresh

    one_moves : (t : Talk) → IsNew t → Moved p (place_of (with_command call parts p (Some t)))
    one_moves t n = here_moves (Some t) (λ u e. some_new t u n e)

  module _ (login : Login) (c : Call) (parts : List Part) where
    if_moves : (b : Bool) (x y : Step) → Moved p (place_of x) → Moved p (place_of y) → Moved p (place_of (cond b x y))
    if_moves true x y m n = m
    if_moves false x y m n = n

    checked_moves : (v : Values) → Moved p (place_of (checked parts p v))
    checked_moves (Fitting values) = stays
    checked_moves (Unfitting e) = stays

    found_moves : (text : List ℕ) (h : Option Held) → Moved p (place_of (found parts p text h))
    found_moves text None = stays
    found_moves text (Some h) = Alters _ (record { talk = refl; older = refl; unread = refl; sent = refl; call = refl })

    offered_moves : (b : Bool) → Moved p (place_of (offered parts p b))
    offered_moves true = stays
    offered_moves false = stays

    undone_moves : (b : Bool) → Moved p (place_of (undone login c parts p b))
    undone_moves true = one_moves c parts (queried (terms_of login (exchanges p)) rollback_text) (queried_new (terms_of login (exchanges p)) rollback_text)
    undone_moves false = stays

    unless_moves : (x : Option DriverError) → Moved p (place_of (unless_refused parts p x))
    unless_moves None = stays
    unless_moves (Some e) = stays

    returned_moves : (x : Trial) → Moved p (place_of (returned p x))
    returned_moves trials.Off = stays
    returned_moves trials.On = stays
    returned_moves (trials.Refused first) = Alters _ (record { talk = refl; older = refl; unread = refl; sent = refl; call = refl })

    learned_moves : (b : Bool) (st : Statements) → Moved p (cond b (with_statements st p) p)
    learned_moves true st = Alters _ (record { talk = refl; older = refl; unread = refl; sent = refl; call = refl })
    learned_moves false st = stays

    kept_moves : (st : Statements) (terms : Terms) (x : Option ℕ) → Moved p (place_of (with_command (Prepare (text_in c)) parts (with_statements st p) (closing_of terms x)))
    kept_moves st terms x = command_moves (with_statements st p) (record { talk = refl; older = refl; unread = refl; sent = refl; call = refl }) (Prepare (text_in c)) parts
        (λ t n. Begins (with_exchange (with_statements st p) (Prepare (text_in c)) t) (Prepare (text_in c)) t paid n (record { talk = refl; older = refl; unread = refl; sent = refl; call = refl })) (closing_of terms x) (closing_new terms x)

  -- each part
  part_moves : (login : Login) (c : Call) (parts : List Part) → Moved p (place_of (step_of login c parts p))
  part_moves login c [] = stays
  part_moves login c (All ∷ parts) = if_moves login c parts p.end_left _ _ (Alters (without_end p) (record { talk = refl; older = refl; unread = refl; sent = refl; call = refl })) (if_moves login c parts (is_over p.talk) _ _ stays (reads_move login All parts))
  part_moves login c (Head ∷ parts) = if_moves login c parts (is_rows (context_of p.talk).spot) _ _ stays (reads_move login Head parts)
  part_moves login c (Item ∷ parts) = if_moves login c parts p.end_left _ _ (Alters (without_end p) (record { talk = refl; older = refl; unread = refl; sent = refl; call = refl })) (if_moves login c parts (is_over p.talk) _ _ stays (reads_move login Item parts))
  part_moves login c (Set ∷ parts) = if_moves login c parts (p.end_left || is_rows (context_of p.talk).spot) _ _ (Alters _ (record { talk = refl; older = refl; unread = refl; sent = refl; call = refl })) (if_moves login c parts (is_over p.talk) _ _ stays (reads_move login Set parts))
  part_moves login c (Rest ∷ parts) = if_moves login c parts p.end_left _ _ (Alters (without_end p) (record { talk = refl; older = refl; unread = refl; sent = refl; call = refl })) (if_moves login c parts (is_rows (context_of p.talk).spot) _ _ (reads_move login Rest parts) stays)
  part_moves login c (Command ∷ parts) = here_moves c parts (next_exchange login c p) (opened_new login (terms_of login (exchanges p)) p.statements c (connects_in (exchanges p)))
  part_moves login c (Find ∷ parts) = if_moves login c parts (is_mixed_text (text_in c)) _ _ stays (found_moves login c parts (text_in c) (held_in p.statements (query_of (text_in c))))
  part_moves login c (Check params ∷ parts) = checked_moves login c parts (values_for (statement_in c) params)
  part_moves login c (Run params ∷ parts) = here_moves c parts (executed login c p params) (executed_new (terms_of login (exchanges p)) p.statements (id_in c) (values_for (statement_in c) params))
  part_moves login c (Reply ∷ parts) = if_moves login c parts (is_over p.talk) _ _ stays (reads_move login Reply parts)
  part_moves login c (Keep ∷ parts) =
      let f = facts_at login p in
      kept_moves login c parts (with_prepared (query_of (text_in c)) (prepared_by f) f.reply.fields p.statements) (terms_of login (exchanges p)) (leaving (query_of (text_in c)) (prepared_by f) p.statements)
  part_moves login c (Give ∷ parts) = stays
  part_moves login c (Learn ∷ parts) = learned_moves login c parts (is_rows (context_of p.talk).spot) (with_columns (id_in c) (facts_at login p).columns p.statements)
  part_moves login c (Offered ∷ parts) = offered_moves login c parts (can_reset (version_of (facts_at login p).version))
  part_moves login c (Text text ∷ parts) = one_moves c parts (queried (terms_of login (exchanges p)) text) (queried_new (terms_of login (exchanges p)) text)
  part_moves login c (Flag flag ∷ parts) = stays
  part_moves login c (Renew ∷ parts) = one_moves c parts (renewing login c p (facts_at login p)) (renewing_new login c p)
  part_moves login c (Drain ∷ parts) = if_moves login c parts p.end_left _ _ (Alters (without_end p) (record { talk = refl; older = refl; unread = refl; sent = refl; call = refl })) (if_moves login c parts (is_over p.talk) _ _ stays (reads_move login Drain parts))
  part_moves login c (Undo ∷ parts) = undone_moves login c parts (is_given_up p.status)
  part_moves login c (Refuse opts ∷ parts) = unless_moves login c parts (begin_refusal opts (version_of (facts_at login p).version) p.status)
  part_moves login c (Back ∷ parts) = if_moves login c parts (is_over p.talk) _ _ (returned_moves login c parts p.trial) (reads_move login Back parts)
  part_moves login c (part ∷ parts) = Alters _ (record { talk = refl; older = refl; unread = refl; sent = refl; call = refl })

pub step_moves : (p : Place) (login : Login) (c : Call) (parts : List Part) → Moved p (place_of (step login c parts p))
unfolding step
step_moves p login c parts = by_owed (owed p) refl
  where
    by_owed : (x : List ℕ) → owed p ≡ x → Moved p (place_of (unless_owed x p (step_of login c parts p)))
    by_owed (b ∷ bytes) e = Alters p (record { talk = refl; older = refl; unread = refl; sent = refl; call = refl })
    by_owed [] e = part_moves p e login c parts
