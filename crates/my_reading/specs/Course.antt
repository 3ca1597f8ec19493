-- What a call comes to over the bytes so far: the command table with the stops of each call.
-- MySQL client/server protocol, "Command Phase": the response of a command is read whole before the next command is sent.
use Rattle.std.specs.Prelude.{ℕ, zero, suc, ◌+◌, ◌*◌, nat_lt, List, [], ◌∷◌, length, Option, Some, None, Bool, true, false, ◌||◌, if◌then◌else◌}
use Rattle.my_frame.specs.declared.fault.CodecFault.TheVariants.{TooLarge}
use Rattle.my_frame.specs.Front.{Front, Waiting, Broken, Whole}
use Rattle.my_reply.specs.declared.err.ErrPacket.{ErrPacket}
use Rattle.my_reply.specs.ErrPacket.{err_at}
use Rattle.my_reply.specs.declared.replies.PrepareOk.{PrepareOk}
use Rattle.my_reply.specs.Replies.{prepare_ok_at}
use Rattle.my_grammar.specs.declared.login.Login.{Login}
use Rattle.my_grammar.specs.declared.spot.Kind.{Kind}
use Rattle.my_grammar.specs.declared.spot.Kind.TheVariants as kinds
use Rattle.my_grammar.specs.declared.spot.Spot.{Spot}
use Rattle.my_grammar.specs.declared.spot.Spot.TheVariants as spots
use Rattle.my_grammar.specs.Cut.{front_of, kind_of, is_over}
use Rattle.my_grammar.specs.Growth.{grow}
use Rattle.my_handshake.specs.Version.{version_of}
use Rattle.my_grammar.specs.declared.spot.Terms.{Terms}
use Rattle.my_grammar.specs.Talk.{Talk, commands_in, context_of, limit_of, says, secret_in}
use Rattle.my_statements.specs.Cache.{Held}
use Rattle.my_opts.specs.ChangeUser.{ChangeView}
use Rattle.my_opts_parts.specs.TransactionOptions.{TxView}
use Rattle.my_params.specs.declared.params.Params.{Params}
use Rattle.my_reading.specs.declared.call.Call.{Call}
use Rattle.my_reading.specs.declared.call.Call.TheVariants as calls
use Rattle.my_reading.specs.declared.error.DriverError.{DriverError}
use Rattle.my_reading.specs.declared.error.Error.{Error}
use Rattle.my_reading.specs.declared.error.Error.TheVariants.{Driver, Server}
use Rattle.my_reading.specs.declared.facts.Facts.{Facts}
use Rattle.my_reading.specs.declared.error.ServerError.{ServerError}
use Rattle.my_reading.specs.declared.transaction.Trial.{Trial}
use Rattle.my_reading.specs.declared.transaction.Trial.TheVariants as trials
use Rattle.my_reading.specs.declared.transaction.TxStatus.{TxStatus}
use Rattle.my_reading.specs.declared.transaction.TxStatus.TheVariants as txs
use Rattle.my_reading.specs.Accounts.{changed}
use Rattle.my_reading.specs.Calls.{kind_of as call_kind, id_in, statement_in, text_in}
use Rattle.my_reading.specs.Commands.{arranging_texts, closing, execution, queried, renewal, renews_by_reset, setup_texts}
use Rattle.my_reading.specs.Errors.{codec_error, invalid_data, mixed_params, server_error, unfit_error}
use Rattle.my_reading.specs.Executions.{Values, Fitting, Unfitting, values_for}
use Rattle.my_reading.specs.Facts.{prepared_by}
use Rattle.my_reading.specs.Place.{Place, exchanges, facts_at, owed, terms_of, without_end, with_account, with_end, with_statements, with_status, with_trial, with_taken, with_talk, with_exchange, next_exchange}
use Rattle.my_reading.specs.Statements.{cleared, held_in, is_cached, is_mixed_text, leaving, names_of, query_of, statement_with, with_columns, with_fetched, with_prepared, without_statement}
pub use Rattle.my_reading.specs.Place.{is_rows}
use Rattle.my_reading.specs.Rows.{row_of}
use Rattle.my_reading.specs.Told.{Told, ToldReady, ToldRow, ToldEnd, ToldNone, ToldStatement, ToldFlag, ToldError}
use Rattle.my_reading.specs.Transactions.{begin_refusal, begin_texts, commit_text, given_up, is_given_up, rollback_text, rolled_back}
use Rattle.my_reading.specs.Versions.{can_reset}

-- A part of a call: the rest of the newest exchange is read; it is read to the head of its first set, or to its next row or end; a stream
-- takes the set that is read or the next one; the rest of the set that is read is passed over, and its end; or the call's next command is
-- sent. Of prepared statements: the statement of the text is looked for; parameters are looked at; the statement of a batch is executed
-- with parameters; the reply to a statement to prepare is read; its statement is kept, and the one that has to go for it is closed; it is
-- returned; the columns of an execution's rows are learned; or a statement isn't kept any more. Of a reset: the server has the command, or
-- nothing is sent and `false` is returned; no statement is kept any more; a query of the client's own is sent; or a flag is returned. Of
-- a change of user: the options are changed; or the server's session is renewed. Of cleaning for a pool: the rest of the newest exchange is
-- read, and an ERR in it dropped. Of
-- transactions: one that was given up is rolled back, and then there is none; one is refused; it stands so from now on; it is given up; it
-- is to be committed; or it was rolled back since it couldn't be committed.
pub data Part : Type 0 where
  All : Part
  Head : Part
  Item : Part
  Set : Part
  Rest : Part
  Command : Part
  Find : Part
  Check : (params : Params) → Part
  Run : (params : Params) → Part
  Reply : Part
  Keep : Part
  Give : Part
  Learn : Part
  Forget : Part
  Offered : Part
  Clear : Part
  Text : (text : List ℕ) → Part
  Flag : (flag : Bool) → Part
  Adopt : (change : ChangeView) → Part
  Renew : Part
  Drain : Part
  Undo : Part
  Undone : Part
  Refuse : (opts : TxView) → Part
  Settle : (status : TxStatus) → Part
  GiveUp : Part
  Try : Part
  Back : Part

-- each query that sets a connection up is sent, and its response read whole
abbrev pub parts_of_texts : List (List ℕ) → List Part
parts_of_texts [] = []
parts_of_texts (text ∷ texts) = Command ∷ All ∷ parts_of_texts texts

-- Before its first command a call reads the rest of the newest exchange, and rolls a transaction back that was given up.
abbrev pub clean : List Part → List Part
clean parts = All ∷ Undo ∷ All ∷ Undone ∷ parts

-- the statement is executed with each of these parameters, and each response is read whole before the next ones are looked at
abbrev pub parts_of_lists : List Params → List Part
parts_of_lists [] = []
parts_of_lists (params ∷ lists) = Check params ∷ All ∷ Run params ∷ Head ∷ Learn ∷ All ∷ parts_of_lists lists

abbrev pub parts_of_batch : List Params → List Part
parts_of_batch [] = []
parts_of_batch (params ∷ lists) = Check params ∷ clean (Run params ∷ Head ∷ Learn ∷ All ∷ parts_of_lists lists)

-- Each of these queries of the client's own is sent, once the response before it was read whole, and so is the response to the last; then
-- come further parts.
abbrev pub parts_of_queries : List (List ℕ) → List Part → List Part
parts_of_queries [] parts = All ∷ parts
parts_of_queries (text ∷ texts) parts = All ∷ Text text ∷ parts_of_queries texts parts

-- the server's session is renewed and set up again, and no statement is kept
abbrev pub renewed : Login → List Part
renewed login = clean (Renew ∷ All ∷ Clear ∷ parts_of_queries (setup_texts login) [])

-- the command table: the parts of each call, in order
abbrev pub parts_of : Login → Call → List Part
parts_of login calls.Connect = All ∷ parts_of_texts (arranging_texts login)
parts_of login (calls.Query text) = clean (Command ∷ Head ∷ [])
parts_of login (calls.Prepare text) = Find ∷ clean (Command ∷ Reply ∷ Keep ∷ Give ∷ [])
parts_of login (calls.Execute statement params) = Check params ∷ clean (Command ∷ Head ∷ Learn ∷ [])
parts_of login (calls.Batch statement lists) = parts_of_batch lists
parts_of login (calls.CloseStmt id) = Forget ∷ clean (Command ∷ [])
parts_of login calls.NextRow = Item ∷ []
parts_of login calls.DropResult = All ∷ []
parts_of login calls.TakeSet = Set ∷ []
parts_of login calls.SkipTaken = Rest ∷ []
parts_of login calls.Ping = clean (Command ∷ All ∷ [])
parts_of login calls.Reset = Offered ∷ clean (Command ∷ All ∷ Clear ∷ parts_of_queries (setup_texts login) (Flag true ∷ []))
parts_of login (calls.ChangeUser change) = Adopt change ∷ renewed login
parts_of login (calls.Begin opts) = clean (Refuse opts ∷ parts_of_queries (begin_texts opts) (Settle txs.InTransaction ∷ []))
parts_of login calls.Commit = Try ∷ clean (Text commit_text ∷ All ∷ Settle txs.None ∷ [])
parts_of login calls.Rollback = Settle txs.RequiresRollback ∷ clean []
parts_of login calls.ForgetTransaction = GiveUp ∷ []
parts_of login calls.CleanForPool = Drain ∷ GiveUp ∷ clean []
parts_of login calls.ResetForPool = renewed login
parts_of login calls.Quit = clean (Command ∷ [])

-- where a call stops: bytes are to be sent, more bytes are awaited, or it returns this
pub data Stop : Type 0 where
  Owes : Stop
  Awaits : Stop
  Returns : (t : Told) → Stop

-- one step of a call: it goes on with these parts, or stops
pub data Step : Type 0 where
  Goes : (parts : List Part) (p : Place) → Step
  Stops : (p : Place) (s : Stop) → Step

abbrev pub return : Place → Told → Step
return p t = Stops p (Returns t)

abbrev pub failure : Place → Error → Step
failure p e = return p (ToldError e)

abbrev pub is_greeting : Spot → Bool
is_greeting (spots.Greeting rules) = true
is_greeting s = false

-- a payload that fits no case there
abbrev pub unfit : Login → Place → Step
unfit login p = failure p (invalid_data (facts_at login p).place)

-- the same where the client perhaps shows who it is: then the error says why it goes on no more
abbrev pub misfit : Login → Place → List ℕ → Step
misfit login p payload = failure p (unfit_error (context_of p.talk).spot payload (facts_at login p).place)

-- After a payload of this kind, with which the place is new: what the part comes to, or that it goes on. `row` is the payload as a row.
abbrev pub after_kind : Part → List Part → Kind → Place → Told → Step
after_kind Head parts (kinds.Good status) new row = Goes parts (with_end new)
after_kind Item parts (kinds.Good status) new row = return new ToldEnd
after_kind Item parts (kinds.End status) new row = return new ToldEnd
after_kind Item parts kinds.Row new row = return new row
after_kind Set parts (kinds.Good status) new row = return (with_taken (with_end new)) ToldReady
after_kind part parts k new row = Goes (part ∷ parts) new

-- An ERR ends the call. While a transaction is being committed it is rolled back first, and the first ERR is what the call returns.
abbrev pub refused_at : Trial → Place → ServerError → Step
refused_at trials.Off new e = failure new (Server e)
refused_at trials.On new e = Goes (Undo ∷ Back ∷ []) (with_trial (trials.Refused e) (with_status txs.RequiresRollback new))
refused_at (trials.Refused first) new e = failure (with_trial trials.Off new) (Server first)

abbrev pub after_err : Login → Place → Place → Option ErrPacket → Step
after_err login p new None = unfit login p
after_err login p new (Some e) = refused_at p.trial new (server_error e)

-- what is left is read for nobody: its ERR is dropped
abbrev pub dropped_at : Login → List Part → Place → Place → Option ErrPacket → Step
dropped_at login parts p new None = unfit login p
dropped_at login parts p new (Some e) = Goes (Drain ∷ parts) new

abbrev pub is_drain : Part → Bool
is_drain Drain = true
is_drain part = false

abbrev pub failed_at : Login → Part → List Part → Place → Place → Option ErrPacket → Step
failed_at login part parts p new e = if is_drain part then dropped_at login parts p new e else after_err login p new e

-- a statement that is prepared may not have the id of one that is still cached
abbrev pub unless_cached : Login → Place → Option PrepareOk → Step → Step
unless_cached login p None s = s
unless_cached login p (Some ok) s = if is_cached p.statements ok.id then unfit login p else s

-- what the client would say is above the limit, or the reading goes on so
abbrev pub unless_long : Place → ℕ → Option ℕ → Step → Step
unless_long p limit None s = s
unless_long p limit (Some len) s = failure p (codec_error (TooLarge len limit))

-- the length of what is said, where it is above the limit
abbrev pub above : ℕ → Option (List ℕ) → Option ℕ
above limit None = None
above limit (Some said) = if nat_lt limit (length said) then Some (length said) else None

-- the response to a greeting, or an answer in a chain, may be above the limit
abbrev pub unless_long_said : Login → Place → Kind → List ℕ → Step → Step
unless_long_said login p k payload s =
    unless_long p (limit_of p.talk) (above (limit_of p.talk) (says login (secret_in p.talk) k payload)) s

abbrev pub after_payload : Login → Part → List Part → Place → Place → List ℕ → Kind → Step
after_payload login part parts p new payload kinds.Bad = misfit login p payload
after_payload login part parts p new payload kinds.Failed = failed_at login part parts p new (err_at (is_greeting (context_of p.talk).spot) payload)
after_payload login part parts p new payload (kinds.Greets offer) = unless_long_said login p (kinds.Greets offer) payload (Goes (part ∷ parts) new)
after_payload login part parts p new payload (kinds.Asks ask) = unless_long_said login p (kinds.Asks ask) payload (Goes (part ∷ parts) new)
after_payload login part parts p new payload (kinds.Prepared params columns) = unless_cached login p (prepare_ok_at payload) (Goes (part ∷ parts) new)
after_payload login part parts p new payload k = after_kind part parts k new (ToldRow (row_of (context_of p.talk).rows (facts_at login p).columns payload))

-- what the unread bytes begin with
abbrev pub with_front : Login → Part → List Part → Place → Front → Step
with_front login part parts p Waiting = Stops p Awaits
with_front login part parts p (Broken fault) = failure p (codec_error fault)
with_front login part parts p (Whole payload rest next) =
    after_payload login part parts p (with_talk p (grow (kind_of p.talk payload) p.talk payload) rest) payload (kind_of p.talk payload)

-- the payload in front is read
abbrev pub reads : Login → Part → List Part → Place → Step
reads login part parts p = with_front login part parts p (front_of p.talk p.unread)

-- the length of the first of these that is above the limit
abbrev pub first_above : ℕ → List (List ℕ) → Option ℕ
first_above limit [] = None
first_above limit (c ∷ cs) = if nat_lt limit (length c) then Some (length c) else first_above limit cs

abbrev pub with_command : Call → List Part → Place → Option Talk → Step
with_command call parts p None = Goes parts p
with_command call parts p (Some t) = unless_long p (limit_of t) (first_above (limit_of t) (commands_in t)) (Goes parts (with_exchange p call t))

-- a statement that is cached is returned at once, as the one that was used last
abbrev pub found : List Part → Place → List ℕ → Option Held → Step
found parts p text None = Goes parts p
found parts p text (Some h) =
    return (with_statements (with_fetched (query_of text) p.statements) p) (ToldStatement (statement_with h.stmt (names_of text)))

-- a text with both names and marks is refused
abbrev pub looked_for : List Part → Place → List ℕ → Step
looked_for parts p text =
    if is_mixed_text text
    then failure p mixed_params
    else found parts p text (held_in p.statements (query_of text))

-- what is sent for the parameters, or why they are refused
abbrev pub checked : List Part → Place → Values → Step
checked parts p (Fitting values) = Goes parts p
checked parts p (Unfitting e) = failure p (Driver e)

-- the call's statement is executed with these parameters
abbrev pub executed : Login → Call → Place → Params → Option Talk
executed login call p params = execution (terms_of login (exchanges p)) p.statements (id_in call) (values_for (statement_in call) params)

-- the exchange in which the statement that has to go is closed
abbrev pub closing_of : Terms → Option ℕ → Option Talk
closing_of terms None = None
closing_of terms (Some id) = Some (closing terms id)

-- the statement is kept, and the one that has to go for it is closed
abbrev pub kept : Login → Call → List Part → Place → Facts → Step
kept login call parts p f =
    with_command (calls.Prepare (text_in call)) parts (with_statements (with_prepared (query_of (text_in call)) (prepared_by f) f.reply.fields p.statements) p)
    (closing_of (terms_of login (exchanges p)) (leaving (query_of (text_in call)) (prepared_by f) p.statements))

-- where rows follow, their columns are known from now on
abbrev pub learned : Call → Place → Facts → Place
learned call p f =
    if is_rows (context_of p.talk).spot
    then with_statements (with_columns (id_in call) f.columns p.statements) p
    else p

-- a server that can't reset its session is sent nothing
abbrev pub offered : List Part → Place → Bool → Step
offered parts p true = Goes parts p
offered parts p false = return p (ToldFlag false)

-- a query of the client's own
abbrev pub asked : Login → Call → List Part → Place → List ℕ → Step
asked login call parts p text = with_command call parts p (Some (queried (terms_of login (exchanges p)) text))

-- the exchange that renews the server's session
abbrev pub renewing : Login → Call → Place → Facts → Talk
renewing login call p f = renewal login (terms_of login (exchanges p)) f p.account (renews_by_reset (call_kind call) (version_of f.version))

-- a transaction that was given up is rolled back
abbrev pub undone : Login → Call → List Part → Place → Bool → Step
undone login call parts p true = asked login call parts p rollback_text
undone login call parts p false = Goes parts p

-- a transaction isn't begun
abbrev pub unless_refused : List Part → Place → Option DriverError → Step
unless_refused parts p None = Goes parts p
unless_refused parts p (Some e) = failure p (Driver e)

-- the transaction was rolled back since it couldn't be committed
abbrev pub returned : Place → Trial → Step
returned p (trials.Refused first) = failure (with_trial trials.Off (with_status (rolled_back p.status) p)) (Server first)
returned p t = return p ToldReady

-- what the first part comes to where nothing is owed; without a part the call is done
abbrev pub step_of : Login → Call → List Part → Place → Step
step_of login call [] p = return p ToldReady
step_of login call (Command ∷ parts) p = with_command call parts p (next_exchange login call p)
step_of login call (All ∷ parts) p =
    if p.end_left
    then Goes (All ∷ parts) (without_end p)
    else (if is_over p.talk then Goes parts p else reads login All parts p)
step_of login call (Head ∷ parts) p = if is_rows (context_of p.talk).spot then Goes parts p else reads login Head parts p
step_of login call (Item ∷ parts) p =
    if p.end_left
    then return (without_end p) ToldEnd
    else (if is_over p.talk then return p ToldNone else reads login Item parts p)
step_of login call (Set ∷ parts) p =
    if p.end_left || is_rows (context_of p.talk).spot
    then return (with_taken p) ToldReady
    else (if is_over p.talk then return p ToldNone else reads login Set parts p)
step_of login call (Rest ∷ parts) p =
    if p.end_left
    then Goes (Rest ∷ parts) (without_end p)
    else (if is_rows (context_of p.talk).spot then reads login Rest parts p else Goes parts p)
step_of login call (Find ∷ parts) p = looked_for parts p (text_in call)
step_of login call (Check params ∷ parts) p = checked parts p (values_for (statement_in call) params)
step_of login call (Run params ∷ parts) p = with_command call parts p (executed login call p params)
step_of login call (Reply ∷ parts) p = if is_over p.talk then Goes parts p else reads login Reply parts p
step_of login call (Keep ∷ parts) p = kept login call parts p (facts_at login p)
step_of login call (Give ∷ parts) p = return p (ToldStatement (statement_with (prepared_by (facts_at login p)) (names_of (text_in call))))
step_of login call (Learn ∷ parts) p = Goes parts (learned call p (facts_at login p))
step_of login call (Forget ∷ parts) p = Goes parts (with_statements (without_statement (id_in call) p.statements) p)
step_of login call (Offered ∷ parts) p = offered parts p (can_reset (version_of (facts_at login p).version))
step_of login call (Clear ∷ parts) p = Goes parts (with_statements (cleared p.statements) p)
step_of login call (Text text ∷ parts) p = asked login call parts p text
step_of login call (Flag flag ∷ parts) p = return p (ToldFlag flag)
step_of login call (Adopt change ∷ parts) p = Goes parts (with_account (changed change p.account) p)
step_of login call (Renew ∷ parts) p = with_command call parts p (Some (renewing login call p (facts_at login p)))
step_of login call (Drain ∷ parts) p =
    if p.end_left
    then Goes (Drain ∷ parts) (without_end p)
    else (if is_over p.talk then Goes parts p else reads login Drain parts p)
step_of login call (Undo ∷ parts) p = undone login call parts p (is_given_up p.status)
step_of login call (Undone ∷ parts) p = Goes parts (with_status (rolled_back p.status) p)
step_of login call (Refuse opts ∷ parts) p = unless_refused parts p (begin_refusal opts (version_of (facts_at login p).version) p.status)
step_of login call (Settle status ∷ parts) p = Goes parts (with_trial trials.Off (with_status status p))
step_of login call (GiveUp ∷ parts) p = Goes parts (with_status (given_up p.status) p)
step_of login call (Try ∷ parts) p = Goes parts (with_trial trials.On p)
step_of login call (Back ∷ parts) p = if is_over p.talk then returned p p.trial else reads login Back parts p

-- while bytes are owed nothing else is done
abbrev pub unless_owed : List ℕ → Place → Step → Step
unless_owed [] p s = s
unless_owed (b ∷ bytes) p s = Stops p Owes

unfoldable pub step : Login → Call → List Part → Place → Step
step login call parts p = unless_owed (owed p) p (step_of login call parts p)

-- where a call stops, and how
pub record Halt : Type 0 where
  pub place : Place
  pub stop : Stop

abbrev pub halt : Place → Stop → Halt
halt p s = record { place = p; stop = s }

-- n steps at most
unfoldable pub run : ℕ → Login → Call → Step → Halt
run most login call (Stops p s) = halt p s
run zero login call (Goes parts p) = halt p Awaits
run (suc most) login call (Goes parts p) = run most login call (step login call parts p)

-- More steps than a call can take: each reads a payload, in whose place two parts may come, passes over an end, or ends a part.
abbrev pub enough : Login → Call → Place → ℕ
enough login call p = suc (suc (4 * length p.unread + 2 * length (parts_of login call)))

-- What a call comes to from the place at which it began, with the bytes that were received since.
abbrev pub course : Login → Call → Place → Halt
course login call p = run (enough login call p) login call (Goes (parts_of login call) p)
