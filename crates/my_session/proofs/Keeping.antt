-- What the steps of a call leave as it was: the account, but where a call changes it; and no more bytes are unread.
use Rattle.std.proofs.Common.{◌≡◌, ℕ, ◌≤◌, List, [], ◌∷◌, length, Option, Some, None, Bool, true, false, ◌||◌, cond, refl, subst, arith, ap}
use Rattle.std.proofs.lemmas.Bool.{false≢true}
use Rattle.my_frame.specs.Front.{Front, Waiting, Broken, Whole}
use Rattle.my_handshake.specs.Version.{version_of}
use Rattle.my_reply.specs.declared.err.ErrPacket.{ErrPacket}
use Rattle.my_reply.specs.declared.replies.PrepareOk.{PrepareOk}
use Rattle.my_reply.specs.ErrPacket.{err_at}
use Rattle.my_reply.specs.Replies.{prepare_ok_at}
use Rattle.my_statements.specs.Cache.{Held}
use Rattle.my_grammar.proofs.Cutting.Fronts.{takes_whole}
use Rattle.my_grammar.specs.declared.login.Login.{Login}
use Rattle.my_grammar.specs.declared.spot.Kind.{Kind}
use Rattle.my_grammar.specs.declared.spot.Kind.TheVariants as kinds
use Rattle.my_grammar.specs.Cut.{front_of, kind_of, is_over}
use Rattle.my_grammar.specs.Growth.{grow}
use Rattle.my_grammar.specs.Talk.{Talk, commands_in, context_of, limit_of, turns, number_of, says, secret_in}
use Rattle.my_reading.specs.declared.call.Call.{Call}
use Rattle.my_reading.specs.declared.call.Call.TheVariants.{Prepare}
use Rattle.my_reading.specs.declared.error.DriverError.{DriverError}
use Rattle.my_reading.specs.declared.error.ServerError.{ServerError}
use Rattle.my_reading.specs.declared.transaction.Trial.{Trial}
use Rattle.my_reading.specs.declared.transaction.Trial.TheVariants as trials
use Rattle.my_reading.specs.Calls.{statement_in, text_in}
use Rattle.my_reading.specs.Commands.{queried}
use Rattle.my_reading.specs.Course.{Part, All, Head, Item, Set, Rest, Command, Find, Check, Run, Reply, Keep, Give, Learn, Forget, Offered, Clear, Text, Flag, Adopt, Renew, Drain, Undo, Undone, Refuse, Settle, GiveUp, Try, Back, Step, Goes, Stops, step, step_of, unless_owed, after_kind, after_payload, refused_at, after_err, dropped_at, failed_at, is_greeting, is_rows, above, unless_long, unless_cached, with_front, reads, first_above, with_command, found, checked, executed, closing_of, learned, offered, undone, renewing, unless_refused, returned}
use Rattle.my_reading.specs.Errors.{server_error}
use Rattle.my_reading.specs.Executions.{Values, Fitting, Unfitting, values_for}
use Rattle.my_reading.specs.Facts.{prepared_by}
use Rattle.my_reading.specs.Leads.{Leads, Here, Then}
use Rattle.my_reading.specs.Place.{Place, exchanges, facts_at, next_exchange, owed, terms_of, with_statements, with_talk}
use Rattle.my_reading.specs.Rows.{row_of}
use Rattle.my_reading.specs.Statements.{held_in, is_cached, is_mixed_text, leaving, query_of, with_prepared}
use Rattle.my_reading.specs.Told.{Told, ToldRow}
use Rattle.my_reading.specs.Transactions.{begin_refusal, is_given_up, rollback_text}
use Rattle.my_reading.specs.Versions.{can_reset}
use Rattle.my_machine.specs.declared.progress.Progress.{Progress}
use Rattle.my_machine.specs.declared.stand.Stand.{Stand}
use Rattle.my_machine.specs.declared.step.Stop.{Stop}
use Rattle.my_machine.specs.Runs.{EachRuns, IsSomewhere}

-- none of these parts changes the account
abbrev pub calm : List Part → Bool
calm [] = true
calm (Adopt change ∷ parts) = false
calm (part ∷ parts) = calm parts

-- Where no part changes the account it stays, and no part that does comes. No more bytes are unread.
abbrev pub Leaves : List Part → Place → Step → Type 0
Leaves parts p (Goes more q) = (calm parts ≡ true → (calm more ≡ true) × (q.account ≡ p.account)) × (length q.unread ≤ length p.unread)
Leaves parts p (Stops q s) = (q.account ≡ p.account) × (length q.unread ≤ length p.unread)

-- the same part, or the next one, comes where the step was as long
abbrev SameUnread : Place → Type 0
SameUnread p = length p.unread ≤ length p.unread

same : (p : Place) → SameUnread p
same p = omega arith

either : (parts : List Part) (p : Place) (b : Bool) (x y : Step) → (b ≡ true → Leaves parts p x) → (b ≡ false → Leaves parts p y) → Leaves parts p (cond b x y)
either parts p true x y f g = f refl
either parts p false x y f g = g refl

module _ (part : Part) (parts : List Part) (p : Place) (t : Talk) (rest : List ℕ) (short : length rest ≤ length p.unread) where
  abbrev new : Place
  new = with_talk p t rest

  kind_leaves : (row : Told) (k : Kind) → Leaves (part ∷ parts) p (after_kind part parts k new row)
  kind_leaves row k = by_part part k
    where
      by_part : (part : Part) (k : Kind) → Leaves (part ∷ parts) p (after_kind part parts k new row)
      by_part All k = (λ c. (c, refl), short)
      by_part Command k = (λ c. (c, refl), short)
      by_part Rest k = (λ c. (c, refl), short)
      by_part Find k = (λ c. (c, refl), short)
      by_part (Check params) k = (λ c. (c, refl), short)
      by_part (Run params) k = (λ c. (c, refl), short)
      by_part Reply k = (λ c. (c, refl), short)
      by_part Keep k = (λ c. (c, refl), short)
      by_part Give k = (λ c. (c, refl), short)
      by_part Learn k = (λ c. (c, refl), short)
      by_part Forget k = (λ c. (c, refl), short)
      by_part Offered k = (λ c. (c, refl), short)
      by_part Clear k = (λ c. (c, refl), short)
      by_part (Text text) k = (λ c. (c, refl), short)
      by_part (Flag flag) k = (λ c. (c, refl), short)
      by_part (Adopt change) k = (λ c. (c, refl), short)
      by_part Renew k = (λ c. (c, refl), short)
      by_part Drain k = (λ c. (c, refl), short)
      by_part Undo k = (λ c. (c, refl), short)
      by_part Undone k = (λ c. (c, refl), short)
      by_part (Refuse opts) k = (λ c. (c, refl), short)
      by_part (Settle status) k = (λ c. (c, refl), short)
      by_part GiveUp k = (λ c. (c, refl), short)
      by_part Try k = (λ c. (c, refl), short)
      by_part Back k = (λ c. (c, refl), short)
      by_part Head (kinds.Good status) = (λ c. (c, refl), short)
      by_part Head _ = (λ c. (c, refl), short)
      by_part Item (kinds.Good status) = (refl, short)
      by_part Item kinds.Row = (refl, short)
      by_part Item (kinds.End status) = (refl, short)
      by_part Item _ = (λ c. (c, refl), short)
      by_part Set (kinds.Good status) = (refl, short)
      by_part Set _ = (λ c. (c, refl), short)

  refused_leaves : (x : Trial) (e : ServerError) → Leaves (part ∷ parts) p (refused_at x new e)
  refused_leaves trials.Off e = (refl, short)
  refused_leaves trials.On e = (λ c. (refl, refl), short)
  refused_leaves (trials.Refused first) e = (refl, short)

  err_leaves : (login : Login) (x : Option ErrPacket) → Leaves (part ∷ parts) p (after_err login p new x)
  err_leaves login None = (refl, same p)
  err_leaves login (Some e) = refused_leaves p.trial (server_error e)

  long_leaves : (o : Option ℕ) → Leaves (part ∷ parts) p (unless_long p (limit_of p.talk) o (Goes (part ∷ parts) new))
  long_leaves None = (λ c. (c, refl), short)
  long_leaves (Some len) = (refl, same p)

  cached_leaves : (login : Login) (x : Option PrepareOk) → Leaves (part ∷ parts) p (unless_cached login p x (Goes (part ∷ parts) new))
  cached_leaves login None = (λ c. (c, refl), short)
  cached_leaves login (Some ok) = by_id (is_cached p.statements ok.id) refl
    where
      by_id : (b : Bool) → is_cached p.statements ok.id ≡ b → Leaves (part ∷ parts) p (unless_cached login p (Some ok) (Goes (part ∷ parts) new))
      by_id true e = rw e (refl, same p)
      by_id false e = rw e (λ c. (c, refl), short)

dropped_leaves : (parts : List Part) (p : Place) (t : Talk) (rest : List ℕ) → length rest ≤ length p.unread → (login : Login) (x : Option ErrPacket)
    → Leaves (Drain ∷ parts) p (dropped_at login parts p (with_talk p t rest) x)
dropped_leaves parts p t rest short login None = (refl, same p)
dropped_leaves parts p t rest short login (Some e) = (λ c. (c, refl), short)

failed_leaves : (part : Part) (parts : List Part) (p : Place) (t : Talk) (rest : List ℕ) → length rest ≤ length p.unread → (login : Login) (x : Option ErrPacket)
    → Leaves (part ∷ parts) p (failed_at login part parts p (with_talk p t rest) x)
failed_leaves Drain parts p t rest short login x = dropped_leaves parts p t rest short login x
failed_leaves part parts p t rest short login x = err_leaves part parts p t rest short login x

payload_leaves : (part : Part) (parts : List Part) (p : Place) (t : Talk) (rest : List ℕ) → length rest ≤ length p.unread → (login : Login) (payload : List ℕ) (k : Kind)
    → Leaves (part ∷ parts) p (after_payload login part parts p (with_talk p t rest) payload k)
payload_leaves part parts p t rest short login payload k = by_kind k
  where
    by_kind : (k : Kind) → Leaves (part ∷ parts) p (after_payload login part parts p (with_talk p t rest) payload k)
    by_kind kinds.Bad = (refl, same p)
    by_kind kinds.Failed = failed_leaves part parts p t rest short login (err_at (is_greeting (context_of p.talk).spot) payload)
    by_kind (kinds.Greets n) = long_leaves part parts p t rest short (above (limit_of p.talk) (says login (secret_in p.talk) (kinds.Greets n) payload))
    by_kind (kinds.Asks n) = long_leaves part parts p t rest short (above (limit_of p.talk) (says login (secret_in p.talk) (kinds.Asks n) payload))
    by_kind (kinds.Prepared params columns) = cached_leaves part parts p t rest short login (prepare_ok_at payload)
    by_kind (kinds.Good status) = kind_leaves part parts p t rest short (ToldRow (row_of (context_of p.talk).rows (facts_at login p).columns payload)) (kinds.Good status)
    by_kind (kinds.Count n) = kind_leaves part parts p t rest short (ToldRow (row_of (context_of p.talk).rows (facts_at login p).columns payload)) (kinds.Count n)
    by_kind kinds.Column = kind_leaves part parts p t rest short (ToldRow (row_of (context_of p.talk).rows (facts_at login p).columns payload)) kinds.Column
    by_kind kinds.ColumnsDone = kind_leaves part parts p t rest short (ToldRow (row_of (context_of p.talk).rows (facts_at login p).columns payload)) kinds.ColumnsDone
    by_kind kinds.Row = kind_leaves part parts p t rest short (ToldRow (row_of (context_of p.talk).rows (facts_at login p).columns payload)) kinds.Row
    by_kind (kinds.End status) = kind_leaves part parts p t rest short (ToldRow (row_of (context_of p.talk).rows (facts_at login p).columns payload)) (kinds.End status)
    by_kind kinds.Parameter = kind_leaves part parts p t rest short (ToldRow (row_of (context_of p.talk).rows (facts_at login p).columns payload)) kinds.Parameter
    by_kind kinds.Field = kind_leaves part parts p t rest short (ToldRow (row_of (context_of p.talk).rows (facts_at login p).columns payload)) kinds.Field

reads_leaves : (login : Login) (part : Part) (parts : List Part) (p : Place) → Leaves (part ∷ parts) p (reads login part parts p)
reads_leaves login part parts p = by_front (front_of p.talk p.unread) refl
  where
    by_front : (x : Front) → front_of p.talk p.unread ≡ x → Leaves (part ∷ parts) p (with_front login part parts p x)
    by_front Waiting e = (refl, same p)
    by_front (Broken fault) e = (refl, same p)
    by_front (Whole payload rest next) e =
        let less = (takes_whole (number_of (turns p.talk)) (limit_of p.talk) p.unread payload rest next e).shorter in
        payload_leaves part parts p (grow (kind_of p.talk payload) p.talk payload) rest (omega (arith, less)) login payload (kind_of p.talk payload)

-- a command begins an exchange, where it isn't too long
command_leaves : (all : List Part) (call : Call) (parts : List Part) (p q : Place) → (calm all ≡ true → calm parts ≡ true) → q.account ≡ p.account → length q.unread ≤ length p.unread
    → (x : Option Talk) → Leaves all p (with_command call parts q x)
command_leaves all call parts p q on account short None = (λ c. (on c, account), short)
command_leaves all call parts p q on account short (Some t) = by_length (first_above (limit_of t) (commands_in t)) refl
  where
    by_length : (x : Option ℕ) → first_above (limit_of t) (commands_in t) ≡ x → Leaves all p (with_command call parts q (Some t))
    by_length None e = rw e (λ c. (on c, account), short)
    by_length (Some len) e = rw e (account, short)

found_leaves : (parts : List Part) (p : Place) (text : List ℕ) (x : Option Held) → Leaves (Find ∷ parts) p (found parts p text x)
found_leaves parts p text None = (λ c. (c, refl), same p)
found_leaves parts p text (Some h) = (refl, same p)

checked_leaves : (all parts : List Part) (p : Place) → (calm all ≡ true → calm parts ≡ true) → (x : Values) → Leaves all p (checked parts p x)
checked_leaves all parts p on (Fitting values) = (λ c. (on c, refl), same p)
checked_leaves all parts p on (Unfitting e) = (refl, same p)

offered_leaves : (parts : List Part) (p : Place) (b : Bool) → Leaves (Offered ∷ parts) p (offered parts p b)
offered_leaves parts p true = (λ c. (c, refl), same p)
offered_leaves parts p false = (refl, same p)

undone_leaves : (login : Login) (call : Call) (parts : List Part) (p : Place) (b : Bool) → Leaves (Undo ∷ parts) p (undone login call parts p b)
undone_leaves login call parts p true = command_leaves (Undo ∷ parts) call parts p p (λ c. c) refl (same p) (Some (queried (terms_of login (exchanges p)) rollback_text))
undone_leaves login call parts p false = (λ c. (c, refl), same p)

unbegun_leaves : (all parts : List Part) (p : Place) → (calm all ≡ true → calm parts ≡ true) → (x : Option DriverError) → Leaves all p (unless_refused parts p x)
unbegun_leaves all parts p on None = (λ c. (on c, refl), same p)
unbegun_leaves all parts p on (Some e) = (refl, same p)

returned_leaves : (parts : List Part) (p : Place) (x : Trial) → Leaves (Back ∷ parts) p (returned p x)
returned_leaves parts p trials.Off = (refl, same p)
returned_leaves parts p trials.On = (refl, same p)
returned_leaves parts p (trials.Refused first) = (refl, same p)

part_leaves : (login : Login) (call : Call) (parts : List Part) (p : Place) → Leaves parts p (step_of login call parts p)
part_leaves login call [] p = (refl, same p)
part_leaves login call (Command ∷ parts) p = command_leaves (Command ∷ parts) call parts p p (λ c. c) refl (same p) (next_exchange login call p)
part_leaves login call (All ∷ parts) p =
    either (All ∷ parts) p p.end_left _ _ (λ _. (λ c. (c, refl), same p)) (λ _. either (All ∷ parts) p (is_over p.talk) _ _ (λ _. (λ c. (c, refl), same p)) (λ _. reads_leaves login All parts p))
part_leaves login call (Head ∷ parts) p = either (Head ∷ parts) p (is_rows (context_of p.talk).spot) _ _ (λ _. (λ c. (c, refl), same p)) (λ _. reads_leaves login Head parts p)
part_leaves login call (Item ∷ parts) p =
    either (Item ∷ parts) p p.end_left _ _ (λ _. (refl, same p)) (λ _. either (Item ∷ parts) p (is_over p.talk) _ _ (λ _. (refl, same p)) (λ _. reads_leaves login Item parts p))
part_leaves login call (Set ∷ parts) p =
    either (Set ∷ parts) p (p.end_left || is_rows (context_of p.talk).spot) _ _ (λ _. (refl, same p))
    (λ _. either (Set ∷ parts) p (is_over p.talk) _ _ (λ _. (refl, same p)) (λ _. reads_leaves login Set parts p))
part_leaves login call (Rest ∷ parts) p =
    either (Rest ∷ parts) p p.end_left _ _ (λ _. (λ c. (c, refl), same p))
    (λ _. either (Rest ∷ parts) p (is_rows (context_of p.talk).spot) _ _ (λ _. reads_leaves login Rest parts p) (λ _. (λ c. (c, refl), same p)))
part_leaves login call (Find ∷ parts) p =
    either (Find ∷ parts) p (is_mixed_text (text_in call)) _ _ (λ _. (refl, same p)) (λ _. found_leaves parts p (text_in call) (held_in p.statements (query_of (text_in call))))
part_leaves login call (Check params ∷ parts) p = checked_leaves (Check params ∷ parts) parts p (λ c. c) (values_for (statement_in call) params)
part_leaves login call (Run params ∷ parts) p = command_leaves (Run params ∷ parts) call parts p p (λ c. c) refl (same p) (executed login call p params)
part_leaves login call (Reply ∷ parts) p = either (Reply ∷ parts) p (is_over p.talk) _ _ (λ _. (λ c. (c, refl), same p)) (λ _. reads_leaves login Reply parts p)
part_leaves login call (Keep ∷ parts) p =
    let f = facts_at login p in
    command_leaves (Keep ∷ parts) (Prepare (text_in call)) parts p (with_statements (with_prepared (query_of (text_in call)) (prepared_by f) f.reply.fields p.statements) p) (λ c. c) refl (same p)
    (closing_of (terms_of login (exchanges p)) (leaving (query_of (text_in call)) (prepared_by f) p.statements))
part_leaves login call (Give ∷ parts) p = (refl, same p)
part_leaves login call (Learn ∷ parts) p = by_rows (is_rows (context_of p.talk).spot) refl
  where
    by_rows : (b : Bool) → is_rows (context_of p.talk).spot ≡ b → Leaves (Learn ∷ parts) p (Goes parts (learned call p (facts_at login p)))
    by_rows true e = rw e (λ c. (c, refl), same p)
    by_rows false e = rw e (λ c. (c, refl), same p)
part_leaves login call (Offered ∷ parts) p = offered_leaves parts p (can_reset (version_of (facts_at login p).version))
part_leaves login call (Text text ∷ parts) p = command_leaves (Text text ∷ parts) call parts p p (λ c. c) refl (same p) (Some (queried (terms_of login (exchanges p)) text))
part_leaves login call (Flag flag ∷ parts) p = (refl, same p)
part_leaves login call (Adopt change ∷ parts) p = (λ c. absurd (false≢true c), same p)
part_leaves login call (Renew ∷ parts) p = command_leaves (Renew ∷ parts) call parts p p (λ c. c) refl (same p) (Some (renewing login call p (facts_at login p)))
part_leaves login call (Drain ∷ parts) p =
    either (Drain ∷ parts) p p.end_left _ _ (λ _. (λ c. (c, refl), same p)) (λ _. either (Drain ∷ parts) p (is_over p.talk) _ _ (λ _. (λ c. (c, refl), same p)) (λ _. reads_leaves login Drain parts p))
part_leaves login call (Undo ∷ parts) p = undone_leaves login call parts p (is_given_up p.status)
part_leaves login call (Refuse opts ∷ parts) p = unbegun_leaves (Refuse opts ∷ parts) parts p (λ c. c) (begin_refusal opts (version_of (facts_at login p).version) p.status)
part_leaves login call (Back ∷ parts) p = either (Back ∷ parts) p (is_over p.talk) _ _ (λ _. returned_leaves parts p p.trial) (λ _. reads_leaves login Back parts p)
part_leaves login call (part ∷ parts) p = (λ c. (c, refl), same p)

pub step_leaves : (login : Login) (call : Call) (parts : List Part) (p : Place) → Leaves parts p (step login call parts p)
unfolding step
step_leaves login call parts p = by_owed (owed p)
  where
    by_owed : (x : List ℕ) → Leaves parts p (unless_owed x p (step_of login call parts p))
    by_owed (b ∷ bytes) = (refl, same p)
    by_owed [] = part_leaves login call parts p

-- no more bytes are unread after a step, and after steps
step_shorter : (login : Login) (call : Call) (parts : List Part) (p : Place) (more : List Part) (q : Place) → step login call parts p ≡ Goes more q → length q.unread ≤ length p.unread
step_shorter login call parts p more q e = (subst (λ (x : Step). Leaves parts p x) e (step_leaves login call parts p)).1

pub leads_shorter : (login : Login) (call : Call) (parts : List Part) (p : Place) (rest : List Part) (q : Place) → Leads login call parts p rest q → length q.unread ≤ length p.unread
leads_shorter login call parts p rest q (Here a b) = same p
leads_shorter login call parts p rest q (Then a b c d e f one k) =
    let first = step_shorter login call parts p c d one in
    let later = leads_shorter login call c d rest q k in
    omega (arith, first, later)

-- so it is after the steps of a call
pub unread_after : (login : Login) (call : Call) (old now : Progress) (stop : Stop) (before new : Stand) → IsSomewhere login before → EachRuns login call old before stop now new
    → length new.unread ≤ length before.unread
unread_after login call old now stop before new here runs =
    let r = runs here.0 here.1 in
    let old_is : length before.unread ≡ length here.0.unread = ap (λ (s : Stand). length s.unread) here.1.stand_is in
    let new_is : length new.unread ≡ length r.end.unread = ap (λ (s : Stand). length s.unread) r.at.stand_is in
    let led = leads_shorter login call _ here.0 r.rest r.place r.leads in
    let last = (subst (λ (x : Step). Leaves r.rest r.place x) r.stops (step_leaves login call r.rest r.place)).1 in
    omega (arith, old_is, new_is, led, last)
