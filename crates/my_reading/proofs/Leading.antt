-- Each step that goes on leaves less to do, so that a call has steps enough.
use Rattle.std.proofs.Common.{◌≡◌, ℕ, suc, zero, ◌+◌, ◌*◌, ◌<◌, ◌≤◌, List, [], ◌∷◌, length, nat_lt, Option, Some, None, Bool, true, false, ◌||◌, cond, refl, ap, ◌∙◌, subst, arith}
use Rattle.my_frame.specs.Front.{Front, Waiting, Broken, Whole}
use Rattle.my_reply.specs.declared.err.ErrPacket.{ErrPacket}
use Rattle.my_reply.specs.ErrPacket.{err_at}
use Rattle.my_grammar.proofs.Cutting.Fronts.{takes_whole}
use Rattle.my_grammar.specs.declared.login.Login.{Login}
use Rattle.my_grammar.specs.declared.spot.Kind.{Kind}
use Rattle.my_grammar.specs.declared.spot.Kind.TheVariants as kinds
use Rattle.my_grammar.specs.Cut.{front_of, kind_of, is_over}
use Rattle.my_grammar.specs.Growth.{grow}
use Rattle.my_grammar.specs.Talk.{Talk, commands_in, context_of, limit_of, turns, number_of, says, secret_in}
use Rattle.my_reading.specs.declared.call.Call.{Call}
use Rattle.my_reading.specs.declared.error.DriverError.{DriverError}
use Rattle.my_reading.specs.declared.transaction.Trial.{Trial}
use Rattle.my_reading.specs.declared.transaction.Trial.TheVariants as trials
use Rattle.my_reading.specs.declared.call.Call.TheVariants.{Prepare}
use Rattle.my_reading.specs.Calls.{statement_in, text_in}
use Rattle.my_reading.specs.Course.{Part, All, Head, Item, Set, Rest, Command, Find, Check, Run, Reply, Keep, Give, Learn, Forget, Offered, Clear, Text, Flag, Adopt, Renew, Drain, Undo, Undone, Refuse, Settle, GiveUp, Try, Back, Stop, Step, Goes, Stops, step, step_of, unless_owed, with_front, reads, after_payload, after_kind, after_err, dropped_at, failed_at, is_drain, unless_cached, above, unless_long, unless_long_said, with_command, first_above, found, checked, executed, closing_of, learned, offered, undone, renewing, unless_refused, refused_at, returned, is_greeting, is_rows, parts_of, run, halt, enough}
use Rattle.my_handshake.specs.Version.{version_of}
use Rattle.my_reading.specs.Commands.{queried}
use Rattle.my_reading.specs.Executions.{Values, Fitting, Unfitting, values_for}
use Rattle.my_reading.specs.Leads.{Leads, Here, Then, LeadsToCourse}
use Rattle.my_reading.specs.Place.{Place, exchanges, without_end, with_statements, with_talk, owed, next_exchange, facts_at, terms_of}
use Rattle.my_reading.specs.Statements.{held_in, is_cached, is_mixed_text, leaving, query_of, with_prepared}
use Rattle.my_reading.specs.Facts.{prepared_by}
use Rattle.my_reply.specs.declared.replies.PrepareOk.{PrepareOk}
use Rattle.my_reply.specs.Replies.{prepare_ok_at}
use Rattle.my_statements.specs.Cache.{Held}
use Rattle.my_reading.specs.Rows.{row_of}
use Rattle.my_reading.specs.Errors.{server_error}
use Rattle.my_reading.specs.declared.error.ServerError.{ServerError}
use Rattle.my_reading.specs.Told.{Told, ToldRow}
use Rattle.my_reading.specs.Transactions.{begin_refusal, is_given_up, rollback_text}
use Rattle.my_reading.specs.Versions.{can_reset}

-- an end that is left counts as one
unfoldable pub weight : Bool → ℕ
weight false = 0
weight true = 1

unfoldable pub size : List Part → Place → ℕ
size parts p = suc (4 * length p.unread + 2 * length parts + weight p.end_left)

unfoldable pub size_of : Step → ℕ
size_of (Goes parts p) = size parts p
size_of (Stops p s) = 0

-- of two steps, each smaller where it is taken
either : (b : Bool) (x y : Step) (n : ℕ) → (b ≡ true → size_of x < n) → (b ≡ false → size_of y < n) → size_of (cond b x y) < n
either true x y n f g = f refl
either false x y n f g = g refl

module _ (part : Part) (parts : List Part) (p : Place) (t : Talk) (rest : List ℕ) where
  -- after a payload: the bytes that follow it, and all parts
  abbrev left : ℕ
  left = suc (4 * length rest + 2 * suc (length parts))

  -- after an ERR, in whose place two parts may come
  abbrev redone : ℕ
  redone = suc (4 * length rest + 4)

  abbrev new : Place
  new = with_talk p t rest

  kind_size : (row : Told) (k : Kind) → size_of (after_kind part parts k new row) ≤ left
  unfolding size_of size weight
  kind_size row k = by_part part k
    where
      by_part : (part : Part) (k : Kind) → size_of (after_kind part parts k new row) ≤ left
      by_part All k = omega arith
      by_part Command k = omega arith
      by_part Rest k = omega arith
      by_part Find k = omega arith
      by_part (Check params) k = omega arith
      by_part (Run params) k = omega arith
      by_part Reply k = omega arith
      by_part Keep k = omega arith
      by_part Give k = omega arith
      by_part Learn k = omega arith
      by_part Forget k = omega arith
      by_part Offered k = omega arith
      by_part Clear k = omega arith
      by_part (Text text) k = omega arith
      by_part (Flag flag) k = omega arith
      by_part (Adopt change) k = omega arith
      by_part Renew k = omega arith
      by_part Drain k = omega arith
      by_part Undo k = omega arith
      by_part Undone k = omega arith
      by_part (Refuse opts) k = omega arith
      by_part (Settle status) k = omega arith
      by_part GiveUp k = omega arith
      by_part Try k = omega arith
      by_part Back k = omega arith
      by_part Head (kinds.Good status) = omega arith
      by_part Head (kinds.Greets n) = omega arith
      by_part Head (kinds.Asks n) = omega arith
      by_part Head kinds.Failed = omega arith
      by_part Head (kinds.Count n) = omega arith
      by_part Head kinds.Column = omega arith
      by_part Head kinds.ColumnsDone = omega arith
      by_part Head kinds.Row = omega arith
      by_part Head (kinds.End status) = omega arith
      by_part Head (kinds.Prepared params columns) = omega arith
      by_part Head kinds.Parameter = omega arith
      by_part Head kinds.Field = omega arith
      by_part Head kinds.Bad = omega arith
      by_part Item (kinds.Good status) = omega arith
      by_part Item (kinds.Greets n) = omega arith
      by_part Item (kinds.Asks n) = omega arith
      by_part Item kinds.Failed = omega arith
      by_part Item (kinds.Count n) = omega arith
      by_part Item kinds.Column = omega arith
      by_part Item kinds.ColumnsDone = omega arith
      by_part Item kinds.Row = omega arith
      by_part Item (kinds.End status) = omega arith
      by_part Item (kinds.Prepared params columns) = omega arith
      by_part Item kinds.Parameter = omega arith
      by_part Item kinds.Field = omega arith
      by_part Item kinds.Bad = omega arith
      by_part Set (kinds.Good status) = omega arith
      by_part Set (kinds.Greets n) = omega arith
      by_part Set (kinds.Asks n) = omega arith
      by_part Set kinds.Failed = omega arith
      by_part Set (kinds.Count n) = omega arith
      by_part Set kinds.Column = omega arith
      by_part Set kinds.ColumnsDone = omega arith
      by_part Set kinds.Row = omega arith
      by_part Set (kinds.End status) = omega arith
      by_part Set (kinds.Prepared params columns) = omega arith
      by_part Set kinds.Parameter = omega arith
      by_part Set kinds.Field = omega arith
      by_part Set kinds.Bad = omega arith

  refused_size : (x : Trial) (e : ServerError) → size_of (refused_at x new e) ≤ redone
  unfolding size_of size weight
  refused_size trials.Off e = omega arith
  refused_size trials.On e = omega arith
  refused_size (trials.Refused first) e = omega arith

  err_size : (login : Login) (x : Option ErrPacket) → size_of (after_err login p new x) ≤ redone
  unfolding size_of
  err_size login None = omega arith
  err_size login (Some e) = refused_size p.trial (server_error e)

  dropped_size : (login : Login) (x : Option ErrPacket) → size_of (dropped_at login parts p new x) ≤ left
  unfolding size_of size weight
  dropped_size login None = omega arith
  dropped_size login (Some e) = omega arith

  failed_size : (login : Login) (x : Option ErrPacket) → size_of (failed_at login part parts p new x) ≤ left + 2
  unfolding size_of
  failed_size login x = by_drain (is_drain part)
    where
      by_drain : (b : Bool) → size_of (cond b (dropped_at login parts p new x) (after_err login p new x)) ≤ left + 2
      by_drain true = let here = dropped_size login x in omega (arith, here)
      by_drain false = let here = err_size login x in omega (arith, here)

  long_size : (o : Option ℕ) → size_of (unless_long p (limit_of p.talk) o (Goes (part ∷ parts) new)) ≤ left
  unfolding size_of size weight
  long_size None = omega arith
  long_size (Some len) = omega arith

  said_size : (login : Login) (k : Kind) (payload : List ℕ) → size_of (unless_long_said login p k payload (Goes (part ∷ parts) new)) ≤ left
  said_size login k payload = long_size (above (limit_of p.talk) (says login (secret_in p.talk) k payload))

  cached_size : (login : Login) (x : Option PrepareOk) → size_of (unless_cached login p x (Goes (part ∷ parts) new)) ≤ left
  unfolding size_of size weight
  cached_size login None = omega arith
  cached_size login (Some ok) = by_id (is_cached p.statements ok.id) refl
    where
      by_id : (b : Bool) → is_cached p.statements ok.id ≡ b → size_of (unless_cached login p (Some ok) (Goes (part ∷ parts) new)) ≤ left
      by_id true e = rw e (omega arith)
      by_id false e = rw e (omega arith)

  payload_size : (login : Login) (payload : List ℕ) (k : Kind) → size_of (after_payload login part parts p new payload k) ≤ left + 2
  unfolding size_of
  payload_size login payload kinds.Bad = omega arith
  payload_size login payload kinds.Failed = failed_size login (err_at (is_greeting (context_of p.talk).spot) payload)
  payload_size login payload (kinds.Greets n) = let here = said_size login (kinds.Greets n) payload in omega (arith, here)
  payload_size login payload (kinds.Asks n) = let here = said_size login (kinds.Asks n) payload in omega (arith, here)
  payload_size login payload (kinds.Good status) = let here = kind_size (ToldRow (row_of (context_of p.talk).rows (facts_at login p).columns payload)) (kinds.Good status) in omega (arith, here)
  payload_size login payload (kinds.Count n) = let here = kind_size (ToldRow (row_of (context_of p.talk).rows (facts_at login p).columns payload)) (kinds.Count n) in omega (arith, here)
  payload_size login payload kinds.Column = let here = kind_size (ToldRow (row_of (context_of p.talk).rows (facts_at login p).columns payload)) kinds.Column in omega (arith, here)
  payload_size login payload kinds.ColumnsDone = let here = kind_size (ToldRow (row_of (context_of p.talk).rows (facts_at login p).columns payload)) kinds.ColumnsDone in omega (arith, here)
  payload_size login payload kinds.Row = let here = kind_size (ToldRow (row_of (context_of p.talk).rows (facts_at login p).columns payload)) kinds.Row in omega (arith, here)
  payload_size login payload (kinds.End status) = let here = kind_size (ToldRow (row_of (context_of p.talk).rows (facts_at login p).columns payload)) (kinds.End status) in omega (arith, here)
  payload_size login payload (kinds.Prepared params columns) = let here = cached_size login (prepare_ok_at payload) in omega (arith, here)
  payload_size login payload kinds.Parameter = let here = kind_size (ToldRow (row_of (context_of p.talk).rows (facts_at login p).columns payload)) kinds.Parameter in omega (arith, here)
  payload_size login payload kinds.Field = let here = kind_size (ToldRow (row_of (context_of p.talk).rows (facts_at login p).columns payload)) kinds.Field in omega (arith, here)

-- a payload that is read is not empty of bytes
reads_size : (login : Login) (part : Part) (parts : List Part) (p : Place) → size_of (reads login part parts p) < suc (4 * length p.unread + 2 * suc (length parts))
unfolding size_of
reads_size login part parts p = by_front (front_of p.talk p.unread) refl
  where
    by_front : (x : Front) → front_of p.talk p.unread ≡ x → size_of (with_front login part parts p x) < suc (4 * length p.unread + 2 * suc (length parts))
    by_front Waiting e = omega arith
    by_front (Broken fault) e = omega arith
    by_front (Whole payload rest next) e =
        let short = (takes_whole (number_of (turns p.talk)) (limit_of p.talk) p.unread payload rest next e).shorter in
        let less = payload_size part parts p (grow (kind_of p.talk payload) p.talk payload) rest login payload (kind_of p.talk payload) in
        omega (arith, short, less)

command_size : (call : Call) (parts : List Part) (p : Place) (x : Option Talk) → size_of (with_command call parts p x) ≤ size parts p
unfolding size_of size weight
command_size call parts p None = omega arith
command_size call parts p (Some t) = by_length (first_above (limit_of t) (commands_in t)) refl
  where
    by_length : (x : Option ℕ) → first_above (limit_of t) (commands_in t) ≡ x → size_of (with_command call parts p (Some t)) ≤ size parts p
    by_length None e = rw e (omega arith)
    by_length (Some len) e = rw e (omega arith)

-- the parts of prepared statements read nothing
found_size : (parts : List Part) (p : Place) (text : List ℕ) (x : Option Held) → size_of (found parts p text x) ≤ size parts p
unfolding size_of size weight
found_size parts p text None = omega arith
found_size parts p text (Some h) = omega arith

checked_size : (parts : List Part) (p : Place) (x : Values) → size_of (checked parts p x) ≤ size parts p
unfolding size_of size weight
checked_size parts p (Fitting values) = omega arith
checked_size parts p (Unfitting e) = omega arith

offered_size : (parts : List Part) (p : Place) (b : Bool) → size_of (offered parts p b) ≤ size parts p
unfolding size_of size weight
offered_size parts p true = omega arith
offered_size parts p false = omega arith

-- so do those of transactions
undone_size : (login : Login) (call : Call) (parts : List Part) (p : Place) (b : Bool) → size_of (undone login call parts p b) ≤ size parts p
unfolding size_of size weight
undone_size login call parts p true = command_size call parts p (Some (queried (terms_of login (exchanges p)) rollback_text))
undone_size login call parts p false = omega arith

unbegun_size : (parts : List Part) (p : Place) (x : Option DriverError) → size_of (unless_refused parts p x) ≤ size parts p
unfolding size_of size weight
unbegun_size parts p None = omega arith
unbegun_size parts p (Some e) = omega arith

returned_size : (p : Place) (x : Trial) → size_of (returned p x) ≤ 0
unfolding size_of
returned_size p trials.Off = omega arith
returned_size p trials.On = omega arith
returned_size p (trials.Refused first) = omega arith

quiet_size : (parts : List Part) (p : Place) → p.end_left ≡ true → size parts (without_end p) < size parts p
unfolding size weight
quiet_size parts p e = let one : weight p.end_left ≡ 1 = ap weight e in omega (arith, one)

part_size : (login : Login) (call : Call) (parts : List Part) (p : Place) → size_of (step_of login call parts p) < size parts p
unfolding size_of size weight
part_size login call [] p = omega arith
part_size login call (Command ∷ parts) p = let here = command_size call parts p (next_exchange login call p) in omega (arith, here)
part_size login call (All ∷ parts) p =
    let here = reads_size login All parts p in
    either p.end_left _ _ _ (λ e. quiet_size (All ∷ parts) p e) (λ _. either (is_over p.talk) _ _ _ (λ _. omega arith) (λ _. omega (arith, here)))
part_size login call (Head ∷ parts) p =
    let here = reads_size login Head parts p in
    either (is_rows (context_of p.talk).spot) _ _ _ (λ _. omega arith) (λ _. omega (arith, here))
part_size login call (Item ∷ parts) p =
    let here = reads_size login Item parts p in
    either p.end_left _ _ _ (λ _. omega arith) (λ _. either (is_over p.talk) _ _ _ (λ _. omega arith) (λ _. omega (arith, here)))
part_size login call (Set ∷ parts) p =
    let here = reads_size login Set parts p in
    either (p.end_left || is_rows (context_of p.talk).spot) _ _ _ (λ _. omega arith) (λ _. either (is_over p.talk) _ _ _ (λ _. omega arith) (λ _. omega (arith, here)))
part_size login call (Rest ∷ parts) p =
    let here = reads_size login Rest parts p in
    either p.end_left _ _ _ (λ e. quiet_size (Rest ∷ parts) p e) (λ _. either (is_rows (context_of p.talk).spot) _ _ _ (λ _. omega (arith, here)) (λ _. omega arith))
part_size login call (Find ∷ parts) p =
    let here = found_size parts p (text_in call) (held_in p.statements (query_of (text_in call))) in
    either (is_mixed_text (text_in call)) _ _ _ (λ _. omega arith) (λ _. omega (arith, here))
part_size login call (Check params ∷ parts) p = let here = checked_size parts p (values_for (statement_in call) params) in omega (arith, here)
part_size login call (Run params ∷ parts) p = let here = command_size call parts p (executed login call p params) in omega (arith, here)
part_size login call (Reply ∷ parts) p =
    let here = reads_size login Reply parts p in
    either (is_over p.talk) _ _ _ (λ _. omega arith) (λ _. omega (arith, here))
part_size login call (Keep ∷ parts) p =
    let f = facts_at login p in
    let here = command_size (Prepare (text_in call)) parts (with_statements (with_prepared (query_of (text_in call)) (prepared_by f) f.reply.fields p.statements) p)
    (closing_of (terms_of login (exchanges p)) (leaving (query_of (text_in call)) (prepared_by f) p.statements)) in
    omega (arith, here)
part_size login call (Give ∷ parts) p = omega arith
part_size login call (Learn ∷ parts) p = by_rows (is_rows (context_of p.talk).spot) refl
  where
    by_rows : (b : Bool) → is_rows (context_of p.talk).spot ≡ b → size parts (learned call p (facts_at login p)) < size (Learn ∷ parts) p
    by_rows true e = rw e (omega arith)
    by_rows false e = rw e (omega arith)
part_size login call (Forget ∷ parts) p = omega arith
part_size login call (Offered ∷ parts) p = let here = offered_size parts p (can_reset (version_of (facts_at login p).version)) in omega (arith, here)
part_size login call (Clear ∷ parts) p = omega arith
part_size login call (Text text ∷ parts) p = let here = command_size call parts p (Some (queried (terms_of login (exchanges p)) text)) in omega (arith, here)
part_size login call (Flag flag ∷ parts) p = omega arith
part_size login call (Adopt change ∷ parts) p = omega arith
part_size login call (Renew ∷ parts) p = let here = command_size call parts p (Some (renewing login call p (facts_at login p))) in omega (arith, here)
part_size login call (Drain ∷ parts) p =
    let here = reads_size login Drain parts p in
    either p.end_left _ _ _ (λ e. quiet_size (Drain ∷ parts) p e) (λ _. either (is_over p.talk) _ _ _ (λ _. omega arith) (λ _. omega (arith, here)))
part_size login call (Undo ∷ parts) p = let here = undone_size login call parts p (is_given_up p.status) in omega (arith, here)
part_size login call (Undone ∷ parts) p = omega arith
part_size login call (Refuse opts ∷ parts) p = let here = unbegun_size parts p (begin_refusal opts (version_of (facts_at login p).version) p.status) in omega (arith, here)
part_size login call (Settle status ∷ parts) p = omega arith
part_size login call (GiveUp ∷ parts) p = omega arith
part_size login call (Try ∷ parts) p = omega arith
part_size login call (Back ∷ parts) p =
    let here = reads_size login Back parts p in
    let there = returned_size p p.trial in
    either (is_over p.talk) _ _ _ (λ _. omega (arith, there)) (λ _. omega (arith, here))

some_size : (parts : List Part) (p : Place) → 0 < size parts p
unfolding size
some_size parts p = omega arith

pub step_size : (login : Login) (call : Call) (parts : List Part) (p : Place) → size_of (step login call parts p) < size parts p
unfolding step size_of
step_size login call parts p = by_owed (owed p)
  where
    by_owed : (x : List ℕ) → size_of (unless_owed x p (step_of login call parts p)) < size parts p
    by_owed (b ∷ bytes) = some_size parts p
    by_owed [] = part_size login call parts p

stopped : (m : ℕ) (login : Login) (call : Call) (q : Place) (s : Stop) → run m login call (Stops q s) ≡ halt q s
unfolding run
stopped zero login call q s = refl
stopped (suc m) login call q s = refl

leads_to_run : (n : ℕ) (login : Login) (call : Call) (parts rest : List Part) (p r q : Place) (s : Stop) → size parts p ≤ n
    → Leads login call parts p rest r → step login call rest r ≡ Stops q s → run n login call (Goes parts p) ≡ halt q s
unfolding run size_of
leads_to_run zero login call parts rest p r q s h l e = let some = some_size parts p in absurd (omega (arith, some, h))
leads_to_run (suc n) login call parts rest p r q s h (Here a b) e = ap (run n login call) e ∙ stopped n login call q s
leads_to_run (suc n) login call parts rest p r q s h (Then a b more m d f one l) e =
    let less : size more m < size parts p = subst (λ x. size_of x < size parts p) one (step_size login call parts p) in
    ap (run n login call) one ∙ leads_to_run n login call more rest m r q s (omega (arith, less, h)) l e

pub leads_to_course : LeadsToCourse
unfolding size weight
leads_to_course login call p rest r q s l e = leads_to_run (enough login call p) login call (parts_of login call) rest p r q s (by_end p.end_left) l e
  where
    by_end : (u : Bool) → suc (4 * length p.unread + 2 * length (parts_of login call) + weight u) ≤ enough login call p
    by_end true = omega arith
    by_end false = omega arith
