-- Where a step of a call stops: for bytes at the place where it is, or it returns what its parts return.
use Rattle.std.proofs.Common.{◌≡◌, ℕ, zero, suc, List, [], ◌∷◌, length, nat_lt, Option, Some, None, Bool, true, false, ◌||◌, cond, refl, subst}
use Rattle.my_frame.specs.declared.fault.CodecFault.{CodecFault}
use Rattle.my_frame.specs.Front.{Front, Waiting, Broken, Whole}
use Rattle.my_handshake.specs.declared.version.ServerVersion.{ServerVersion}
use Rattle.my_handshake.specs.Version.{version_of}
use Rattle.my_reply.specs.declared.err.ErrPacket.{ErrPacket}
use Rattle.my_reply.specs.ErrPacket.{err_at}
use Rattle.my_reply.specs.declared.replies.PrepareOk.{PrepareOk}
use Rattle.my_reply.specs.Replies.{prepare_ok_at}
use Rattle.my_value.specs.RowParts.{RowParts}
use Rattle.my_opts_parts.specs.TransactionOptions.{TxView}
use Rattle.my_params.specs.declared.params.Params.{Params}
use Rattle.my_statements.specs.Cache.{Held}
use Rattle.my_statements.specs.Prepared.{StatementView}
use Rattle.my_grammar.specs.declared.login.Login.{Login}
use Rattle.my_grammar.specs.declared.spot.Kind.{Kind}
use Rattle.my_grammar.specs.declared.spot.Spot.{Spot}
use Rattle.my_grammar.specs.declared.spot.Kind.TheVariants as kinds
use Rattle.my_grammar.specs.Cut.{front_of, kind_of, is_over}
use Rattle.my_grammar.specs.Growth.{grow}
use Rattle.my_grammar.specs.Talk.{Talk, commands_in, context_of, limit_of, says, secret_in}
use Rattle.my_reading.specs.declared.call.Call.{Call}
use Rattle.my_reading.specs.declared.call.Call.TheVariants.{Prepare}
use Rattle.my_reading.specs.declared.error.DriverError.{DriverError}
use Rattle.my_reading.specs.declared.error.Error.TheVariants.{Driver, Server}
use Rattle.my_reading.specs.declared.error.ServerError.{ServerError}
use Rattle.my_reading.specs.declared.transaction.Trial.{Trial}
use Rattle.my_reading.specs.declared.transaction.Trial.TheVariants as trials
use Rattle.my_reading.specs.declared.transaction.TxStatus.{TxStatus}
use Rattle.my_reading.specs.Calls.{statement_in, text_in}
use Rattle.my_reading.specs.Commands.{queried}
use Rattle.my_reading.specs.Course.{Part, All, Head, Item, Set, Rest, Command, Find, Check, Run, Reply, Keep, Give, Offered, Text, Flag, Renew, Drain, Undo, Refuse, Back, Step, Goes, Stops, Stop, Owes, Awaits, Returns, step, step_of, unless_owed, with_front, reads, run, after_payload, after_kind, after_err, dropped_at, is_drain, is_greeting, is_rows, unfit, unless_cached, unless_long, with_command, first_above, found, checked, executed, closing_of, offered, undone, renewing, unless_refused, refused_at, returned, above}
use Rattle.my_reading.specs.Errors.{codec_error, invalid_data, mixed_params, server_error, unfit_error}
use Rattle.my_reading.specs.Executions.{Values, Fitting, Unfitting, values_for}
use Rattle.my_reading.specs.Facts.{prepared_by}
use Rattle.my_reading.specs.Leads.{Leads, Here, Then}
use Rattle.my_reading.specs.Place.{Place, exchanges, facts_at, next_exchange, owed, terms_of, with_statements, with_talk}
use Rattle.my_reading.specs.Rows.{row_of}
use Rattle.my_reading.specs.Statements.{held_in, is_cached, is_mixed_text, leaving, query_of, with_prepared}
use Rattle.my_reading.specs.Told.{Told, ToldReady, ToldRow, ToldEnd, ToldNone, ToldStatement, ToldFlag, ToldError}
use Rattle.my_reading.specs.Transactions.{begin_refusal, is_given_up, rollback_text}
use Rattle.my_reading.specs.Versions.{can_reset}

-- what the parts of calls return has this property
pub record AreTold (P : Told → Type 0) : Type 0 where
  pub ready : P ToldReady
  pub row : (r : RowParts) → P (ToldRow r)
  pub end : P ToldEnd
  pub none : P ToldNone
  pub statement : (s : StatementView) → P (ToldStatement s)
  pub flag : (b : Bool) → P (ToldFlag b)
  pub server : (e : ServerError) → P (ToldError (Server e))
  pub data_at : (place : ℕ) → P (ToldError (invalid_data place))
  pub misfit : (spot : Spot) (payload : List ℕ) (place : ℕ) → P (ToldError (unfit_error spot payload place))
  pub codec : (fault : CodecFault) → P (ToldError (codec_error fault))
  pub mixed : P (ToldError mixed_params)
  pub values : (statement : StatementView) (params : Params) (e : DriverError) → values_for statement params ≡ Unfitting e → P (ToldError (Driver e))
  pub begins : (opts : TxView) (v : ServerVersion) (status : TxStatus) (e : DriverError) → begin_refusal opts v status ≡ Some e → P (ToldError (Driver e))

-- a step that stops for bytes does so where it is
abbrev pub StopsSo : (Told → Type 0) → Place → Step → Type 0
StopsSo P p (Goes parts q) = Unit {0}
StopsSo P p (Stops q Owes) = q ≡ p
StopsSo P p (Stops q Awaits) = q ≡ p
StopsSo P p (Stops q (Returns t)) = P t

-- and so a whole call
abbrev pub TellsSo : (Told → Type 0) → Stop → Type 0
TellsSo P Owes = Unit {0}
TellsSo P Awaits = Unit {0}
TellsSo P (Returns t) = P t

module _ (P : Told → Type 0) (w : AreTold P) (login : Login) where
  module _ (p : Place) where
    if_stops : (b : Bool) (x y : Step) → StopsSo P p x → StopsSo P p y → StopsSo P p (cond b x y)
    if_stops true x y f g = f
    if_stops false x y f g = g

    unfit_stops : StopsSo P p (unfit login p)
    unfit_stops = w.data_at (facts_at login p).place

    module _ (parts : List Part) where
      kind_stops : (x : Part) (k : Kind) (new : Place) (r : RowParts) → StopsSo P p (after_kind x parts k new (ToldRow r))
      kind_stops Head (kinds.Good status) new r = tt
      kind_stops Item (kinds.Good status) new r = w.end
      kind_stops Item (kinds.End status) new r = w.end
      kind_stops Item kinds.Row new r = w.row r
      kind_stops Set (kinds.Good status) new r = w.ready
      kind_stops part k new r = tt

      refused_stops : (x : Trial) (new : Place) (e : ServerError) → StopsSo P p (refused_at x new e)
      refused_stops trials.Off new e = w.server e
      refused_stops trials.On new e = tt
      refused_stops (trials.Refused first) new e = w.server first

      err_stops : (new : Place) (x : Option ErrPacket) → StopsSo P p (after_err login p new x)
      err_stops new None = unfit_stops
      err_stops new (Some e) = refused_stops p.trial new (server_error e)

      dropped_stops : (new : Place) (x : Option ErrPacket) → StopsSo P p (dropped_at login parts p new x)
      dropped_stops new None = unfit_stops
      dropped_stops new (Some e) = tt

      cached_stops : (x : Option PrepareOk) (part : Part) (new : Place) → StopsSo P p (unless_cached login p x (Goes (part ∷ parts) new))
      cached_stops None part new = tt
      cached_stops (Some ok) part new = if_stops (is_cached p.statements ok.id) _ _ unfit_stops tt

      said_stops : (part : Part) (new : Place) (o : Option ℕ) → StopsSo P p (unless_long p (limit_of p.talk) o (Goes (part ∷ parts) new))
      said_stops part new None = tt
      said_stops part new (Some len) = w.codec _

      payload_stops : (part : Part) (payload : List ℕ) (new : Place) (k : Kind) → StopsSo P p (after_payload login part parts p new payload k)
      payload_stops part payload new kinds.Bad = w.misfit (context_of p.talk).spot payload (facts_at login p).place
      payload_stops part payload new kinds.Failed =
          let e = err_at (is_greeting (context_of p.talk).spot) payload in
          if_stops (is_drain part) _ _ (dropped_stops new e) (err_stops new e)
      payload_stops part payload new (kinds.Greets n) = said_stops part new (above (limit_of p.talk) (says login (secret_in p.talk) (kinds.Greets n) payload))
      payload_stops part payload new (kinds.Asks n) = said_stops part new (above (limit_of p.talk) (says login (secret_in p.talk) (kinds.Asks n) payload))
      payload_stops part payload new (kinds.Prepared params columns) = cached_stops (prepare_ok_at payload) part new
      payload_stops part payload new k = kind_stops part k new (row_of (context_of p.talk).rows (facts_at login p).columns payload)

      front_stops : (part : Part) (x : Front) → StopsSo P p (with_front login part parts p x)
      front_stops part Waiting = refl
      front_stops part (Broken fault) = w.codec fault
      front_stops part (Whole payload rest next) = payload_stops part payload (with_talk p (grow (kind_of p.talk payload) p.talk payload) rest) (kind_of p.talk payload)

      reads_stop : (part : Part) → StopsSo P p (reads login part parts p)
      reads_stop part = front_stops part (front_of p.talk p.unread)

      long_stops : (q : Place) (limit : ℕ) (x : Option ℕ) (next : Place) → StopsSo P p (unless_long q limit x (Goes parts next))
      long_stops q limit None next = tt
      long_stops q limit (Some len) next = w.codec _

      command_stops : (call : Call) (q : Place) (x : Option Talk) → StopsSo P p (with_command call parts q x)
      command_stops call q None = tt
      command_stops call q (Some t) = long_stops q (limit_of t) (first_above (limit_of t) (commands_in t)) _

      found_stops : (text : List ℕ) (x : Option Held) → StopsSo P p (found parts p text x)
      found_stops text None = tt
      found_stops text (Some h) = w.statement _

      checked_stops : (statement : StatementView) (params : Params) (x : Values) → values_for statement params ≡ x → StopsSo P p (checked parts p x)
      checked_stops statement params (Fitting values) is = tt
      checked_stops statement params (Unfitting e) is = w.values statement params e is

      offered_stops : (b : Bool) → StopsSo P p (offered parts p b)
      offered_stops true = tt
      offered_stops false = w.flag false

      undone_stops : (call : Call) (b : Bool) → StopsSo P p (undone login call parts p b)
      undone_stops call true = command_stops call p (Some (queried (terms_of login (exchanges p)) rollback_text))
      undone_stops call false = tt

      unless_stops : (opts : TxView) (v : ServerVersion) (status : TxStatus) (x : Option DriverError) → begin_refusal opts v status ≡ x → StopsSo P p (unless_refused parts p x)
      unless_stops opts v status None is = tt
      unless_stops opts v status (Some e) is = w.begins opts v status e is

    returned_stops : (x : Trial) → StopsSo P p (returned p x)
    returned_stops trials.Off = w.ready
    returned_stops trials.On = w.ready
    returned_stops (trials.Refused first) = w.server first

    part_stops : (call : Call) (parts : List Part) → StopsSo P p (step_of login call parts p)
    part_stops call [] = w.ready
    part_stops call (Command ∷ parts) = command_stops parts call p (next_exchange login call p)
    part_stops call (All ∷ parts) = if_stops p.end_left _ _ tt (if_stops (is_over p.talk) _ _ tt (reads_stop parts All))
    part_stops call (Head ∷ parts) = if_stops (is_rows (context_of p.talk).spot) _ _ tt (reads_stop parts Head)
    part_stops call (Item ∷ parts) = if_stops p.end_left _ _ w.end (if_stops (is_over p.talk) _ _ w.none (reads_stop parts Item))
    part_stops call (Set ∷ parts) = if_stops (p.end_left || is_rows (context_of p.talk).spot) _ _ w.ready (if_stops (is_over p.talk) _ _ w.none (reads_stop parts Set))
    part_stops call (Rest ∷ parts) = if_stops p.end_left _ _ tt (if_stops (is_rows (context_of p.talk).spot) _ _ (reads_stop parts Rest) tt)
    part_stops call (Find ∷ parts) = if_stops (is_mixed_text (text_in call)) _ _ w.mixed (found_stops parts (text_in call) (held_in p.statements (query_of (text_in call))))
    part_stops call (Check params ∷ parts) = checked_stops parts (statement_in call) params (values_for (statement_in call) params) refl
    part_stops call (Run params ∷ parts) = command_stops parts call p (executed login call p params)
    part_stops call (Reply ∷ parts) = if_stops (is_over p.talk) _ _ tt (reads_stop parts Reply)
    part_stops call (Keep ∷ parts) =
        let f = facts_at login p in
        command_stops parts (Prepare (text_in call)) (with_statements (with_prepared (query_of (text_in call)) (prepared_by f) f.reply.fields p.statements) p)
        (closing_of (terms_of login (exchanges p)) (leaving (query_of (text_in call)) (prepared_by f) p.statements))
    part_stops call (Give ∷ parts) = w.statement _
    part_stops call (Offered ∷ parts) = offered_stops parts (can_reset (version_of (facts_at login p).version))
    part_stops call (Text text ∷ parts) = command_stops parts call p (Some (queried (terms_of login (exchanges p)) text))
    part_stops call (Flag flag ∷ parts) = w.flag flag
    part_stops call (Renew ∷ parts) = command_stops parts call p (Some (renewing login call p (facts_at login p)))
    part_stops call (Drain ∷ parts) = if_stops p.end_left _ _ tt (if_stops (is_over p.talk) _ _ tt (reads_stop parts Drain))
    part_stops call (Undo ∷ parts) = undone_stops parts call (is_given_up p.status)
    part_stops call (Refuse opts ∷ parts) =
        let v = version_of (facts_at login p).version in
        unless_stops parts opts v p.status (begin_refusal opts v p.status) refl
    part_stops call (Back ∷ parts) = if_stops (is_over p.talk) _ _ (returned_stops p.trial) (reads_stop parts Back)
    part_stops call (part ∷ parts) = tt

    pub step_stops : (call : Call) (parts : List Part) → StopsSo P p (step login call parts p)
    unfolding step
    step_stops call parts = by_owed (owed p)
      where
        by_owed : (x : List ℕ) → StopsSo P p (unless_owed x p (step_of login call parts p))
        by_owed [] = part_stops call parts
        by_owed (b ∷ bs) = refl

  stop_tells : (p q : Place) (s : Stop) → StopsSo P p (Stops q s) → TellsSo P s
  stop_tells p q Owes f = tt
  stop_tells p q Awaits f = tt
  stop_tells p q (Returns t) f = f

  pub run_tells : (n : ℕ) (call : Call) (p : Place) (x : Step) → StopsSo P p x → TellsSo P (run n login call x).stop
  unfolding run
  run_tells zero call p (Stops q s) f = stop_tells p q s f
  run_tells (suc n) call p (Stops q s) f = stop_tells p q s f
  run_tells zero call p (Goes parts q) f = tt
  run_tells (suc n) call p (Goes parts q) f = run_tells n call q (step login call parts q) (step_stops q call parts)

-- a step that stops for bytes
any_told : AreTold (λ t. Unit {0})
any_told = record {
  ready = tt;
  row = λ r. tt;
  end = tt;
  none = tt;
  statement = λ s. tt;
  flag = λ b. tt;
  server = λ e. tt;
  data_at = λ n. tt;
  misfit = λ s p n. tt;
  codec = λ f. tt;
  mixed = tt;
  values = λ s p e is. tt;
  begins = λ o v s e is. tt;
}

pub owes_here : (login : Login) (call : Call) (parts : List Part) (p q : Place) → step login call parts p ≡ Stops q Owes → q ≡ p
owes_here login call parts p q e = subst (StopsSo (λ t. Unit {0}) p) e (step_stops (λ t. Unit {0}) any_told login p call parts)

pub awaits_here : (login : Login) (call : Call) (parts : List Part) (p q : Place) → step login call parts p ≡ Stops q Awaits → q ≡ p
awaits_here login call parts p q e = subst (StopsSo (λ t. Unit {0}) p) e (step_stops (λ t. Unit {0}) any_told login p call parts)

-- steps after steps
pub both_lead : (login : Login) (call : Call) (parts : List Part) (p : Place) (more : List Part) (q : Place) (rest : List Part) (r : Place)
    → Leads login call parts p more q → Leads login call more q rest r → Leads login call parts p rest r
both_lead login call parts p more q rest r (Here a b) l = l
both_lead login call parts p more q rest r (Then a b c d e f one k) l = Then a b c d rest r one (both_lead login call c d e f rest r k l)
