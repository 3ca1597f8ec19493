-- Reading on leaves what was sent as it is.
use Rattle.std.proofs.Common.{◌≡◌, ℕ, zero, suc, List, [], ◌∷◌, ◌++◌, Bool, true, false, ◌||◌, Option, Some, None, if◌then◌else◌, refl, sym}
use Rattle.my_frame.specs.Front.{Front, Waiting, Broken, Whole}
use Rattle.my_reply.specs.declared.err.ErrPacket.{ErrPacket}
use Rattle.my_reply.specs.ErrPacket.{err_at}
use Rattle.my_reply.specs.declared.replies.PrepareOk.{PrepareOk}
use Rattle.my_reply.specs.Replies.{prepare_ok_at}
use Rattle.my_grammar.specs.declared.login.Login.{Login}
use Rattle.my_grammar.specs.declared.spot.Kind.{Kind}
use Rattle.my_grammar.specs.declared.spot.Kind.TheVariants as kinds
use Rattle.my_grammar.specs.Cut.{front_of, kind_of, is_over}
use Rattle.my_grammar.specs.Growth.{grow}
use Rattle.my_grammar.specs.Talk.{Talk, commands_in, context_of, limit_of, says, secret_in}
use Rattle.my_statements.specs.Cache.{Held}
use Rattle.my_reading.specs.declared.call.Call.{Call}
use Rattle.my_reading.specs.declared.call.Call.TheVariants as calls
use Rattle.my_reading.specs.declared.facts.Facts.{Facts}
use Rattle.my_reading.specs.Calls.{id_in, statement_in, text_in}
use Rattle.my_reading.specs.Course.{Part, All, Head, Item, Set, Rest, Command, Find, Check, Run, Reply, Keep, Give, Learn, Forget, Offered, Clear, Text, Flag, Undo, Undone, Refuse, Settle, GiveUp, Adopt, Renew, Drain, Try, Back, Step, Goes, Stops, checked, dropped_at, is_drain, renewing, executed, closing_of, first_above, found, learned, offered, refused_at, returned, unless_cached, undone, unless_long, unless_owed, unless_refused, step_of, step, run, enough, parts_of, with_command, with_front, after_payload, after_kind, after_err, is_greeting, is_rows, above}
use Rattle.my_handshake.specs.Version.{version_of}
use Rattle.my_reading.specs.Commands.{queried}
use Rattle.my_reading.specs.Executions.{Values, Fitting, Unfitting, values_for}
use Rattle.my_reading.specs.Facts.{prepared_by}
use Rattle.my_reading.specs.Place.{Place, exchanges, facts_at, owed, terms_of, with_talk, with_bytes, with_statements, next_exchange}
use Rattle.my_reading.specs.Reading.{halt_of}
use Rattle.my_reading.specs.Rows.{row_of}
use Rattle.my_reading.specs.Statements.{held_in, is_cached, is_mixed_text, leaving, query_of, with_columns}
use Rattle.my_reading.specs.Tape.{Span}
use Rattle.my_reading.specs.Told.{Told, ToldRow}
use Rattle.my_reading.specs.Transactions.{begin_refusal, is_given_up, rollback_text}
use Rattle.my_reading.specs.Versions.{can_reset}
use Rattle.my_reading.specs.declared.error.DriverError.{DriverError}
use Rattle.my_reading.specs.declared.error.ServerError.{ServerError}
use Rattle.my_reading.specs.declared.transaction.Trial.{Trial}
use Rattle.my_reading.specs.declared.transaction.Trial.TheVariants as trials
use Rattle.my_reading.specs.Errors.{server_error}
use Rattle.std.proofs.Common.{nat_lt, length}

-- the step leaves these bytes sent
abbrev Keeps : List ℕ → Step → Type 0
Keeps bytes (Goes parts p) = p.sent ≡ bytes
Keeps bytes (Stops p s) = p.sent ≡ bytes

unless_keeps : (bytes owed : List ℕ) (p : Place) (s : Step) → p.sent ≡ bytes → Keeps bytes s → Keeps bytes (unless_owed owed p s)
unless_keeps bytes [] p s e k = k
unless_keeps bytes (b ∷ bs) p s e k = e

either_keeps : (bytes : List ℕ) (b : Bool) (s t : Step) → Keeps bytes s → Keeps bytes t → Keeps bytes (if b then s else t)
either_keeps bytes true s t k l = k
either_keeps bytes false s t k l = l

module _ (login : Login) (call : Call) where
  long_keeps : (p : Place) (limit : ℕ) (o : Option ℕ) (s : Step) → Keeps p.sent s → Keeps p.sent (unless_long p limit o s)
  long_keeps p limit None s k = k
  long_keeps p limit (Some len) s k = refl

  command_keeps : (other : Call) (parts : List Part) (p : Place) (o : Option Talk) → Keeps p.sent (with_command other parts p o)
  command_keeps other parts p None = refl
  command_keeps other parts p (Some t) = long_keeps p (limit_of t) (first_above (limit_of t) (commands_in t)) _ refl

  kind_keeps : (part : Part) (parts : List Part) (k : Kind) (new : Place) (row : Told) → Keeps new.sent (after_kind part parts k new row)
  kind_keeps Head parts (kinds.Good status) new row = refl
  kind_keeps Item parts (kinds.Good status) new row = refl
  kind_keeps Item parts (kinds.End status) new row = refl
  kind_keeps Item parts kinds.Row new row = refl
  kind_keeps Set parts (kinds.Good status) new row = refl
  kind_keeps part parts k new row = refl

  refused_at_keeps : (sent : List ℕ) (trial : Trial) (new : Place) (e : ServerError) → new.sent ≡ sent → Keeps sent (refused_at trial new e)
  refused_at_keeps sent trials.Off new e same = same
  refused_at_keeps sent trials.On new e same = same
  refused_at_keeps sent (trials.Refused first) new e same = same

  returned_keeps : (p : Place) (t : Trial) → Keeps p.sent (returned p t)
  returned_keeps p trials.Off = refl
  returned_keeps p trials.On = refl
  returned_keeps p (trials.Refused first) = refl

  err_keeps : (p new : Place) (e : Option ErrPacket) → new.sent ≡ p.sent → Keeps p.sent (after_err login p new e)
  err_keeps p new None same = refl
  err_keeps p new (Some e) same = refused_at_keeps p.sent p.trial new (server_error e) same

  cached_keeps : (part : Part) (parts : List Part) (p new : Place) (reply : Option PrepareOk) → new.sent ≡ p.sent → Keeps p.sent (unless_cached login p reply (Goes (part ∷ parts) new))
  cached_keeps part parts p new None same = same
  cached_keeps part parts p new (Some ok) same = either_keeps p.sent (is_cached p.statements ok.id) _ _ refl same

  dropped_keeps : (parts : List Part) (p new : Place) (e : Option ErrPacket) → new.sent ≡ p.sent → Keeps p.sent (dropped_at login parts p new e)
  dropped_keeps parts p new None same = refl
  dropped_keeps parts p new (Some e) same = same

  payload_keeps : (part : Part) (parts : List Part) (p new : Place) (payload : List ℕ) (k : Kind) → new.sent ≡ p.sent → Keeps p.sent (after_payload login part parts p new payload k)
  payload_keeps part parts p new payload kinds.Bad same = refl
  payload_keeps part parts p new payload kinds.Failed same =
      let e = err_at (is_greeting (context_of p.talk).spot) payload in
      either_keeps p.sent (is_drain part) _ _ (dropped_keeps parts p new e same) (err_keeps p new e same)
  payload_keeps part parts p new payload (kinds.Greets offer) same = long_keeps p (limit_of p.talk) (above (limit_of p.talk) (says login (secret_in p.talk) (kinds.Greets offer) payload)) (Goes (part ∷ parts) new) same
  payload_keeps part parts p new payload (kinds.Asks ask) same = long_keeps p (limit_of p.talk) (above (limit_of p.talk) (says login (secret_in p.talk) (kinds.Asks ask) payload)) (Goes (part ∷ parts) new) same
  payload_keeps part parts p new payload (kinds.Prepared params columns) same = cached_keeps part parts p new (prepare_ok_at payload) same
  payload_keeps part parts p new payload k same =
      rw (sym same) (kind_keeps part parts k new (ToldRow (row_of (context_of p.talk).rows (facts_at login p).columns payload)))

  front_keeps : (part : Part) (parts : List Part) (p : Place) (f : Front) → Keeps p.sent (with_front login part parts p f)
  front_keeps part parts p Waiting = refl
  front_keeps part parts p (Broken fault) = refl
  front_keeps part parts p (Whole payload rest next) =
      payload_keeps part parts p (with_talk p (grow (kind_of p.talk payload) p.talk payload) rest) payload (kind_of p.talk payload) refl

  found_keeps : (parts : List Part) (p : Place) (text : List ℕ) (o : Option Held) → Keeps p.sent (found parts p text o)
  found_keeps parts p text None = refl
  found_keeps parts p text (Some h) = refl

  checked_keeps : (parts : List Part) (p : Place) (v : Values) → Keeps p.sent (checked parts p v)
  checked_keeps parts p (Fitting values) = refl
  checked_keeps parts p (Unfitting e) = refl

  offered_keeps : (parts : List Part) (p : Place) (b : Bool) → Keeps p.sent (offered parts p b)
  offered_keeps parts p true = refl
  offered_keeps parts p false = refl

  undone_keeps : (parts : List Part) (p : Place) (b : Bool) → Keeps p.sent (undone login call parts p b)
  undone_keeps parts p true = command_keeps call parts p (Some (queried (terms_of login (exchanges p)) rollback_text))
  undone_keeps parts p false = refl

  refused_keeps : (parts : List Part) (p : Place) (o : Option DriverError) → Keeps p.sent (unless_refused parts p o)
  refused_keeps parts p None = refl
  refused_keeps parts p (Some e) = refl

  learned_keeps : (p : Place) (facts : Facts) → (learned call p facts).sent ≡ p.sent
  learned_keeps p facts = by_rows (is_rows (context_of p.talk).spot)
    where
      by_rows : (b : Bool) → (if b then with_statements (with_columns (id_in call) facts.columns p.statements) p else p).sent ≡ p.sent
      by_rows true = refl
      by_rows false = refl

  of_keeps : (parts : List Part) (p : Place) → Keeps p.sent (step_of login call parts p)
  of_keeps [] p = refl
  of_keeps (Command ∷ parts) p = command_keeps call parts p (next_exchange login call p)
  of_keeps (All ∷ parts) p = either_keeps p.sent p.end_left _ _ refl (either_keeps p.sent (is_over p.talk) _ _ refl (front_keeps All parts p (front_of p.talk p.unread)))
  of_keeps (Head ∷ parts) p = either_keeps p.sent (is_rows (context_of p.talk).spot) _ _ refl (front_keeps Head parts p (front_of p.talk p.unread))
  of_keeps (Item ∷ parts) p = either_keeps p.sent p.end_left _ _ refl (either_keeps p.sent (is_over p.talk) _ _ refl (front_keeps Item parts p (front_of p.talk p.unread)))
  of_keeps (Set ∷ parts) p = either_keeps p.sent (p.end_left || is_rows (context_of p.talk).spot) _ _ refl (either_keeps p.sent (is_over p.talk) _ _ refl (front_keeps Set parts p (front_of p.talk p.unread)))
  of_keeps (Rest ∷ parts) p = either_keeps p.sent p.end_left _ _ refl (either_keeps p.sent (is_rows (context_of p.talk).spot) _ _ (front_keeps Rest parts p (front_of p.talk p.unread)) refl)
  of_keeps (Find ∷ parts) p = either_keeps p.sent (is_mixed_text (text_in call)) _ _ refl (found_keeps parts p (text_in call) (held_in p.statements (query_of (text_in call))))
  of_keeps (Check params ∷ parts) p = checked_keeps parts p (values_for (statement_in call) params)
  of_keeps (Run params ∷ parts) p = command_keeps call parts p (executed login call p params)
  of_keeps (Reply ∷ parts) p = either_keeps p.sent (is_over p.talk) _ _ refl (front_keeps Reply parts p (front_of p.talk p.unread))
  of_keeps (Keep ∷ parts) p = command_keeps (calls.Prepare (text_in call)) parts _ (closing_of (terms_of login (exchanges p)) (leaving (query_of (text_in call)) (prepared_by (facts_at login p)) p.statements))
  of_keeps (Give ∷ parts) p = refl
  of_keeps (Learn ∷ parts) p = learned_keeps p (facts_at login p)
  of_keeps (Forget ∷ parts) p = refl
  of_keeps (Offered ∷ parts) p = offered_keeps parts p (can_reset (version_of (facts_at login p).version))
  of_keeps (Clear ∷ parts) p = refl
  of_keeps (Text text ∷ parts) p = command_keeps call parts p (Some (queried (terms_of login (exchanges p)) text))
  of_keeps (Flag flag ∷ parts) p = refl
  of_keeps (Undo ∷ parts) p = undone_keeps parts p (is_given_up p.status)
  of_keeps (Undone ∷ parts) p = refl
  of_keeps (Refuse opts ∷ parts) p = refused_keeps parts p (begin_refusal opts (version_of (facts_at login p).version) p.status)
  of_keeps (Settle status ∷ parts) p = refl
  of_keeps (GiveUp ∷ parts) p = refl
  of_keeps (Adopt change ∷ parts) p = refl
  of_keeps (Renew ∷ parts) p = command_keeps call parts p (Some (renewing login call p (facts_at login p)))
  of_keeps (Drain ∷ parts) p = either_keeps p.sent p.end_left _ _ refl (either_keeps p.sent (is_over p.talk) _ _ refl (front_keeps Drain parts p (front_of p.talk p.unread)))
  of_keeps (Try ∷ parts) p = refl
  of_keeps (Back ∷ parts) p = either_keeps p.sent (is_over p.talk) _ _ (returned_keeps p p.trial) (front_keeps Back parts p (front_of p.talk p.unread))

  step_keeps : (parts : List Part) (p : Place) → Keeps p.sent (step login call parts p)
  unfolding step
  step_keeps parts p = unless_keeps p.sent (owed p) p (step_of login call parts p) refl (of_keeps parts p)

  run_keeps : (most : ℕ) (bytes : List ℕ) (s : Step) → Keeps bytes s → (run most login call s).place.sent ≡ bytes
  unfolding run
  run_keeps zero bytes (Goes parts p) k = k
  run_keeps zero bytes (Stops p s) k = k
  run_keeps (suc most) bytes (Goes parts p) k = run_keeps most bytes (step login call parts p) (rw (sym k) (step_keeps parts p))
  run_keeps (suc most) bytes (Stops p s) k = k

-- so after a call all bytes are sent that it sent, and those before
pub sent_after : (login : Login) (closed : Bool) (s : Span) (p : Place) → (halt_of login closed s p).place.sent ≡ p.sent ++ s.sent
sent_after login true s p = refl
sent_after login false s p = run_keeps login s.call (enough login s.call (with_bytes s.sent s.taken p)) (p.sent ++ s.sent) (Goes (parts_of login s.call) (with_bytes s.sent s.taken p)) refl
