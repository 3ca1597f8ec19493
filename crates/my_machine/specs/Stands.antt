-- What the program knows where the reading stands, and what a step of a call does there.
use Rattle.std.specs.Prelude.{◌≡◌, ℕ, suc, nat_lt, List, [], ◌∷◌, ◌++◌, drop, length, min, slice_get, Option, Some, None, Bool, true, false, ◌&&◌, ◌||◌, if◌then◌else◌}
use Rattle.my_command.specs.declared.client.ClientPacket.{ClientPacket}
use Rattle.my_command.specs.declared.client.ClientPacket.TheVariants as packets
use Rattle.my_command.specs.Client.Packet.{client_bytes as packet_bytes}
use Rattle.my_frame.specs.declared.fault.CodecFault.TheVariants.{TooLarge}
use Rattle.my_frame.specs.Chunks.{chunks, number_after_payload}
use Rattle.my_frame.specs.Front.{Front, Waiting, Broken, Whole, front_at}
use Rattle.my_handshake.specs.Version.{version_of}
use Rattle.my_reply.specs.declared.err.ErrPacket.{ErrPacket}
use Rattle.my_reply.specs.ErrPacket.{err_at}
use Rattle.my_reply.specs.declared.replies.PrepareOk.{PrepareOk}
use Rattle.my_reply.specs.Replies.{prepare_ok_at}
use Rattle.my_opts.specs.ChangeUser.{ChangeView}
use Rattle.my_opts_parts.specs.TransactionOptions.{TxView}
use Rattle.my_params.specs.LongData.{ahead_of}
use Rattle.my_params.specs.Parameters.{body_of}
use Rattle.my_params.specs.declared.params.Params.{Params}
use Rattle.my_statements.specs.Prepared.{StatementView}
use Rattle.std.specs.Option.{option_map}
use Rattle.my_value.specs.RowParts.{RowParts}
use Rattle.my_grammar.specs.declared.account.Account.{Account}
use Rattle.my_grammar.specs.declared.login.Login.{Login}
use Rattle.my_grammar.specs.declared.spot.Kind.{Kind}
use Rattle.my_grammar.specs.declared.spot.Kind.TheVariants as kinds
use Rattle.my_grammar.specs.declared.spot.Spot.{Spot}
use Rattle.my_grammar.specs.declared.spot.Spot.TheVariants as spots
use Rattle.my_grammar.specs.Contexts.{context_after}
use Rattle.my_grammar.specs.Cut.{is_idle}
use Rattle.my_grammar.specs.Growth.{number_next, said}
use Rattle.my_grammar.specs.declared.spot.RowFormat.TheVariants.{Text, Binary}
use Rattle.my_grammar.specs.Kinds.{kind_there}
use Rattle.my_grammar.specs.Talk.{turns, number_of, commands_bytes, context_of, Fits, login_in, says, secret_in}
use Rattle.my_reading.specs.declared.answer.Answer.TheVariants as answers
use Rattle.my_reading.specs.declared.call.Call.{Call}
use Rattle.my_reading.specs.declared.call.Call.TheVariants as calls
use Rattle.my_reading.specs.declared.error.DriverError.{DriverError}
use Rattle.my_reading.specs.declared.error.Error.{Error}
use Rattle.my_reading.specs.declared.error.Error.TheVariants as errors
use Rattle.my_reading.specs.declared.error.ServerError.{ServerError}
use Rattle.my_reading.specs.declared.transaction.Trial.{Trial}
use Rattle.my_reading.specs.declared.transaction.Trial.TheVariants as trials
use Rattle.my_reading.specs.declared.transaction.TxStatus.{TxStatus}
use Rattle.my_reading.specs.declared.transaction.TxStatus.TheVariants as txs
use Rattle.my_reading.specs.Accounts.{changed}
use Rattle.my_reading.specs.Commands.{arranging_texts, change_stand, renewal_packet, renews_by_reset, simple_packet}
use Rattle.my_reading.specs.Calls.{id_in, is_connect, kind_of, text_in}
use Rattle.my_reading.specs.Course.{above, first_above, is_greeting, is_rows}
use Rattle.my_reading.specs.Executions.{Values, Fitting, Unfitting, values_for}
use Rattle.my_reading.specs.Statements.{Statements, cleared, held_in, is_cached, is_mixed_text, leaving, names_of, query_of, statement_with, with_columns, with_fetched, with_prepared, without_statement}
use Rattle.my_reading.specs.Errors.{codec_error, invalid_data, mixed_params, server_error, unfit_error}
use Rattle.my_reading.specs.Facts.{facts_after, prepared_by}
use Rattle.my_reading.specs.Place.{Place, exchanges, facts_at, client_side, connects_in}
use Rattle.my_reading.specs.Rows.{row_of}
use Rattle.my_reading.specs.Transactions.{begin_refusal, commit_text, given_up, is_given_up, rollback_text, rolled_back}
use Rattle.my_reading.specs.Versions.{can_reset}
use Rattle.my_machine.specs.declared.part.Part.{Part}
use Rattle.my_machine.specs.declared.part.Part.TheVariants as parts
use Rattle.my_machine.specs.declared.stand.Stand.{Stand}
use Rattle.my_machine.specs.declared.step.Step.{Step}
use Rattle.my_machine.specs.Parts.{change_at, executed_in, opts_at, params_at, setup_at, start_at}
use Rattle.my_machine.specs.declared.step.Step.TheVariants.{Stays, Passes, Reverts, Stops}
use Rattle.my_machine.specs.declared.step.Stop.TheVariants.{Owes, Awaits, Returns}
use Rattle.my_machine.specs.declared.step.Ending.TheVariants.{Answered, Failed}

-- what is known of a place after n of the queries that set the connection up, while these bytes are owed
abbrev pub stand_of : Login → Place → ℕ → List ℕ → Stand
stand_of login p n bytes = record {
  context = context_of p.talk;
  number = number_of (turns p.talk);
  facts = facts_at login p;
  texts = arranging_texts login;
  arranged = n;
  end_left = p.end_left;
  taken = p.taken;
  statements = p.statements;
  status = p.status;
  account = p.account;
  secret = secret_in p.talk;
  trial = p.trial;
  unread = p.unread;
  owed = bytes;
}

-- n of them were begun, or all of them and perhaps more
abbrev pub IsArranged : Login → Place → ℕ → Type 0
IsArranged login p n = (k : ℕ) × (connects_in (exchanges p) ≡ suc k) × (n ≡ min k (length (arranging_texts login)))

-- The program is at this place of a reading.
pub record IsAt (login : Login) (p : Place) (s : Stand) : Type 0 where
  pub stand_is : s ≡ stand_of login p s.arranged s.owed
  pub arranged_is : IsArranged login p s.arranged
  pub fits : Fits p.talk
  pub login_is : login_in login p.talk ≡ login
  pub owed_is : p.sent ++ s.owed ≡ client_side (exchanges p)

-- bytes are sent and received
abbrev pub with_bytes : List ℕ → List ℕ → Stand → Stand
with_bytes sent taken s = record {
  context = s.context;
  number = s.number;
  facts = s.facts;
  texts = s.texts;
  arranged = s.arranged;
  end_left = s.end_left;
  taken = s.taken;
  statements = s.statements;
  status = s.status;
  account = s.account;
  secret = s.secret;
  trial = s.trial;
  unread = s.unread ++ taken;
  owed = drop (length sent) s.owed;
}

-- other bytes are owed
abbrev pub with_owed : List ℕ → Stand → Stand
with_owed bytes s = record {
  context = s.context;
  number = s.number;
  facts = s.facts;
  texts = s.texts;
  arranged = s.arranged;
  end_left = s.end_left;
  taken = s.taken;
  statements = s.statements;
  status = s.status;
  account = s.account;
  secret = s.secret;
  trial = s.trial;
  unread = s.unread;
  owed = bytes;
}

-- an end is left, or none
abbrev pub with_end : Bool → Stand → Stand
with_end left s = record {
  context = s.context;
  number = s.number;
  facts = s.facts;
  texts = s.texts;
  arranged = s.arranged;
  end_left = left;
  taken = s.taken;
  statements = s.statements;
  status = s.status;
  account = s.account;
  secret = s.secret;
  trial = s.trial;
  unread = s.unread;
  owed = s.owed;
}

-- a stream takes the set
abbrev pub with_taken : Stand → Stand
with_taken s = record {
  context = s.context;
  number = s.number;
  facts = s.facts;
  texts = s.texts;
  arranged = s.arranged;
  end_left = s.end_left;
  taken = true;
  statements = s.statements;
  status = s.status;
  account = s.account;
  secret = s.secret;
  trial = s.trial;
  unread = s.unread;
  owed = s.owed;
}

-- other statements are known
abbrev pub with_known : Statements → Stand → Stand
with_known st s = record {
  context = s.context;
  number = s.number;
  facts = s.facts;
  texts = s.texts;
  arranged = s.arranged;
  end_left = s.end_left;
  taken = s.taken;
  statements = st;
  status = s.status;
  account = s.account;
  secret = s.secret;
  trial = s.trial;
  unread = s.unread;
  owed = s.owed;
}

-- the transaction stands so
abbrev pub with_status : TxStatus → Stand → Stand
with_status status s = record {
  context = s.context;
  number = s.number;
  facts = s.facts;
  texts = s.texts;
  arranged = s.arranged;
  end_left = s.end_left;
  taken = s.taken;
  statements = s.statements;
  status = status;
  account = s.account;
  secret = s.secret;
  trial = s.trial;
  unread = s.unread;
  owed = s.owed;
}

-- the options in force have this account
abbrev pub with_account : Account → Stand → Stand
with_account account s = record {
  context = s.context;
  number = s.number;
  facts = s.facts;
  texts = s.texts;
  arranged = s.arranged;
  end_left = s.end_left;
  taken = s.taken;
  statements = s.statements;
  status = s.status;
  account = account;
  secret = s.secret;
  trial = s.trial;
  unread = s.unread;
  owed = s.owed;
}

-- it is being committed, or isn't any more
abbrev pub with_trial : Trial → Stand → Stand
with_trial trial s = record {
  context = s.context;
  number = s.number;
  facts = s.facts;
  texts = s.texts;
  arranged = s.arranged;
  end_left = s.end_left;
  taken = s.taken;
  statements = s.statements;
  status = s.status;
  account = s.account;
  secret = s.secret;
  trial = trial;
  unread = s.unread;
  owed = s.owed;
}

-- a payload of this kind is read, and these bytes follow
abbrev pub heard : Login → Kind → List ℕ → List ℕ → Stand → Stand
heard login k payload rest s = record {
  context = context_after s.context k;
  number = number_next login s.secret k payload s.number;
  facts = facts_after k payload s.facts;
  texts = s.texts;
  arranged = s.arranged;
  end_left = false;
  taken = s.taken && is_rows (context_after s.context k).spot;
  statements = s.statements;
  status = s.status;
  account = s.account;
  secret = s.secret;
  trial = s.trial;
  unread = rest;
  owed = s.owed ++ said login s.secret k payload s.number;
}

-- the exchange of a command begins; in its chain, where it has one, the client answers by this password
abbrev pub asked : Spot → Option (List ℕ) → List ℕ → ℕ → Stand → Stand
asked spot secret command arranged s = record {
  context = record { spot = spot; rows = Text; columns = 0; terms = record { kept = s.context.terms.kept; limit = s.facts.settings.limit } };
  number = number_after_payload command 0;
  facts = s.facts;
  texts = s.texts;
  arranged = arranged;
  end_left = false;
  taken = false;
  statements = s.statements;
  status = s.status;
  account = s.account;
  secret = secret;
  trial = s.trial;
  unread = s.unread;
  owed = s.owed ++ chunks command 0;
}

-- the exchange of an execution begins, with what goes ahead of it
abbrev pub executed : List (List ℕ) → List ℕ → Stand → Stand
executed ahead command s = record {
  context = record { spot = spots.Head; rows = Binary; columns = 0; terms = record { kept = s.context.terms.kept; limit = s.facts.settings.limit } };
  number = number_after_payload command 0;
  facts = s.facts;
  texts = s.texts;
  arranged = s.arranged;
  end_left = false;
  taken = false;
  statements = s.statements;
  status = s.status;
  account = s.account;
  secret = None;
  trial = s.trial;
  unread = s.unread;
  owed = (s.owed ++ commands_bytes ahead) ++ chunks command 0;
}

-- a step, and where it leads
pub record Turn : Type 0 where
  pub does : Step
  pub stand : Stand

-- the code's step is this one
pub record IsTurn (t : Turn) (does : Step) (new : Stand) : Type 0 where
  pub does_is : t.does ≡ does
  pub stand_is : t.stand ≡ new

abbrev pub turn : Step → Stand → Turn
turn does s = record { does = does; stand = s }

abbrev pub failure : Error → Step
failure e = Stops (Returns (Failed e))

-- a payload that fits no case
abbrev pub unfit : Stand → Step
unfit s = failure (invalid_data s.facts.place)

-- the same where the client perhaps shows who it is
abbrev pub misfit : Stand → List ℕ → Step
misfit s payload = failure (unfit_error s.context.spot payload s.facts.place)

-- the part after a payload of this kind, which is this row
abbrev pub after_kind : Part → Kind → RowParts → Stand → Turn
after_kind parts.Head (kinds.Good status) row new = turn Passes (with_end true new)
after_kind parts.Item (kinds.Good status) row new = turn (Stops (Returns (Answered answers.SetEnd))) new
after_kind parts.Item (kinds.End status) row new = turn (Stops (Returns (Answered answers.SetEnd))) new
after_kind parts.Item kinds.Row row new = turn (Stops (Returns (Answered (answers.Row row)))) new
after_kind parts.Set (kinds.Good status) row new = turn (Stops (Returns (Answered answers.Ready))) (with_taken (with_end true new))
after_kind part k row new = turn Stays new

-- whether a payload of this kind is a row that is returned
abbrev pub is_item_row : Part → Kind → Bool
is_item_row parts.Item kinds.Row = true
is_item_row part k = false

-- An ERR ends the call. While a transaction is being committed it is rolled back first, and the first ERR is what the call returns.
abbrev pub refused_at : Trial → ServerError → Stand → Turn
refused_at trials.Off e new = turn (failure (errors.Server e)) new
refused_at trials.On e new = turn Reverts (with_trial (trials.Refused e) (with_status txs.RequiresRollback new))
refused_at (trials.Refused first) e new = turn (failure (errors.Server first)) (with_trial trials.Off new)

abbrev pub after_err : Option ErrPacket → Stand → Stand → Turn
after_err None s new = turn (unfit s) s
after_err (Some e) s new = refused_at s.trial (server_error e) new

-- what is left is read for nobody: its ERR is dropped
abbrev pub dropped_at : Option ErrPacket → Stand → Stand → Turn
dropped_at None s new = turn (unfit s) s
dropped_at (Some e) s new = turn Stays new

abbrev pub failed_at : Part → Option ErrPacket → Stand → Stand → Turn
failed_at parts.Drain e s new = dropped_at e s new
failed_at part e s new = after_err e s new

-- the response to a greeting, or an answer in a chain, may be above the limit: then it has this length
abbrev pub after_said : Option ℕ → Stand → Stand → Turn
after_said None s new = turn Stays new
after_said (Some len) s new = turn (failure (codec_error (TooLarge len s.context.terms.limit))) s

-- what the client says to a payload of this kind, where it is above the limit
abbrev pub said_above : Login → Kind → List ℕ → Stand → Option ℕ
said_above login k payload s = above s.context.terms.limit (says login s.secret k payload)

-- whether the id of a statement that was prepared is that of one that is still cached, where it may not be
abbrev pub is_cached_by : Option PrepareOk → Statements → Bool
is_cached_by None st = false
is_cached_by (Some ok) st = is_cached st ok.id

abbrev pub after_prepared : Option PrepareOk → Stand → Stand → Turn
after_prepared o s new = if is_cached_by o s.statements then turn (unfit s) s else turn Stays new

abbrev pub after_payload : Login → Part → List ℕ → Stand → Stand → Kind → Turn
after_payload login part payload s new kinds.Bad = turn (misfit s payload) s
after_payload login part payload s new kinds.Failed = failed_at part (err_at (is_greeting s.context.spot) payload) s new
after_payload login part payload s new (kinds.Greets offer) = after_said (said_above login (kinds.Greets offer) payload s) s new
after_payload login part payload s new (kinds.Asks ask) = after_said (said_above login (kinds.Asks ask) payload s) s new
after_payload login part payload s new (kinds.Prepared params columns) = after_prepared (prepare_ok_at payload) s new
after_payload login part payload s new k = after_kind part k (row_of s.context.rows s.facts.columns payload) new

-- a payload with the bytes that follow it
abbrev pub read_payload : Login → Part → List ℕ → List ℕ → Stand → Turn
read_payload login part payload rest s =
    after_payload login part payload s (heard login (kind_there s.context s.facts.columns payload) payload rest s) (kind_there s.context s.facts.columns payload)

abbrev pub with_front : Login → Part → Stand → Front → Turn
with_front login part s Waiting = turn (Stops Awaits) s
with_front login part s (Broken fault) = turn (failure (codec_error fault)) s
with_front login part s (Whole payload rest next) = read_payload login part payload rest s

-- the payload in front is read
abbrev pub reads : Login → Part → Stand → Turn
reads login part s = with_front login part s (front_at s.number s.context.terms.limit s.unread)

-- commands are sent, unless one of them, which is so long, is above the limit
abbrev pub unless_above : Option ℕ → Stand → Stand → Turn
unless_above None s new = turn Passes new
unless_above (Some len) s new = turn (failure (codec_error (TooLarge len s.facts.settings.limit))) s

abbrev pub asks_with : Spot → Option (List ℕ) → List ℕ → ℕ → Stand → Turn
asks_with spot secret command arranged s =
    unless_above (first_above s.facts.settings.limit (command ∷ [])) s (asked spot secret command arranged s)

abbrev pub asks : Spot → List ℕ → ℕ → Stand → Turn
asks spot command arranged s = asks_with spot None command arranged s

abbrev pub sends : List (List ℕ) → List ℕ → Stand → Turn
sends ahead command s = unless_above (first_above s.facts.settings.limit (ahead ++ command ∷ [])) s (executed ahead command s)

abbrev pub executes : ℕ → Values → Stand → Turn
executes id (Fitting values) s = sends (ahead_of id values) (body_of id values) s
executes id (Unfitting e) s = turn Passes s

-- it is executed with these parameters
abbrev pub executes_one : Option StatementView → Option Params → Stand → Turn
executes_one None params s = turn Passes s
executes_one (Some statement) None s = turn Passes s
executes_one (Some statement) (Some params) s = executes statement.inner.id (values_for statement params) s

abbrev pub closes : ℕ → Stand → Turn
closes id s = asks spots.Idle (packet_bytes (packets.CloseStatement id)) s.arranged s

-- how many of the queries that set the connection up were begun after an exchange of the call
abbrev pub arranged_after : Call → Stand → ℕ
arranged_after call s = if is_connect (kind_of call) && nat_lt s.arranged (length s.texts) then suc s.arranged else s.arranged

abbrev pub queries : Call → List ℕ → Stand → Turn
queries call text s = asks spots.Head (packet_bytes (packets.Query text)) (arranged_after call s) s

abbrev pub arranges : Option (List ℕ) → Stand → Turn
arranges None s = turn Passes s
arranges (Some text) s = asks spots.Head (packet_bytes (packets.Query text)) (suc s.arranged) s

-- a command that one OK or ERR answers
abbrev pub asks_simply : Option ClientPacket → Stand → Turn
asks_simply None s = turn Passes s
asks_simply (Some packet) s = asks spots.Single (packet_bytes packet) s.arranged s

-- the call's next command, where it sends one
abbrev pub commands : Call → Stand → Turn
commands calls.Connect s = arranges (slice_get s.texts s.arranged) s
commands (calls.Query text) s = queries (calls.Query text) text s
commands (calls.Prepare text) s = asks spots.Prepare (packet_bytes (packets.Prepare (query_of text))) s.arranged s
commands (calls.Execute statement params) s = executes statement.inner.id (values_for statement params) s
commands (calls.CloseStmt id) s = closes id s
commands calls.Quit s = asks spots.Idle (packet_bytes packets.Quit) s.arranged s
commands call s = asks_simply (simple_packet call) s

-- a statement that is cached is returned
abbrev pub finds_so : Option StatementView → Stand → Turn
finds_so None new = turn Passes new
finds_so (Some statement) new = turn (Stops (Returns (Answered (answers.Stmt statement)))) new

abbrev pub finds : List ℕ → Stand → Turn
finds text s =
    if is_mixed_text text
    then turn (failure mixed_params) s
    else finds_so (option_map (λ h. statement_with h.stmt (names_of text)) (held_in s.statements (query_of text))) (with_known (with_fetched (query_of text) s.statements) s)

abbrev pub checks : Values → Stand → Turn
checks (Fitting values) s = turn Passes s
checks (Unfitting e) s = turn (failure (errors.Driver e)) s

-- the parameters are looked at
abbrev pub checks_for : Option StatementView → Option Params → Stand → Turn
checks_for None params s = turn Passes s
checks_for (Some statement) None s = turn Passes s
checks_for (Some statement) (Some params) s = checks (values_for statement params) s

-- the statement that has to go is closed
abbrev pub closes_one : Option ℕ → Stand → Turn
closes_one None s = turn Passes s
closes_one (Some id) s = closes id s

-- the statement that was prepared of this text is kept
abbrev pub with_kept : List ℕ → Stand → Stand
with_kept query s = with_known (with_prepared query (prepared_by s.facts) s.facts.reply.fields s.statements) s

abbrev pub keeps : List ℕ → Stand → Turn
keeps text s = closes_one (leaving (query_of text) (prepared_by s.facts) s.statements) (with_kept (query_of text) s)

-- the statement that was prepared is returned
abbrev pub gives : List ℕ → Stand → Turn
gives text s = turn (Stops (Returns (Answered (answers.Stmt (statement_with (prepared_by s.facts) (names_of text)))))) s

abbrev pub learns : ℕ → Stand → Turn
learns id s = if is_rows s.context.spot then turn Passes (with_known (with_columns id s.facts.columns s.statements) s) else turn Passes s

-- a server that can't reset its session is sent nothing
abbrev pub offers : Bool → Stand → Turn
offers true s = turn Passes s
offers false s = turn (Stops (Returns (Answered (answers.Flag false)))) s

-- the payload by which the server's session is renewed
abbrev pub renewing_payload : Login → Stand → Bool → List ℕ
renewing_payload login s by_reset = packet_bytes (renewal_packet login s.context.terms.kept s.facts s.account by_reset)

-- whether that is by a reset
abbrev pub resets : Call → Stand → Bool
resets call s = renews_by_reset (kind_of call) (version_of s.facts.version)

-- the session is reset, or gets another user
abbrev pub renews_so : Login → Call → Stand → Bool → Turn
renews_so login call s true = asks spots.Single (renewing_payload login s true) (arranged_after call s) s
renews_so login call s false =
    asks_with (spots.Authentication (change_stand login s.facts)) s.account.password (renewing_payload login s false) (arranged_after call s) s

abbrev pub renews : Login → Call → Stand → Turn
renews login call s = renews_so login call s (resets call s)

-- a transaction that was given up is rolled back
abbrev pub undoes : Call → Bool → Stand → Turn
undoes call true s = queries call rollback_text s
undoes call false s = turn Passes s

-- a transaction isn't begun
abbrev pub refuses : Option DriverError → Stand → Turn
refuses None s = turn Passes s
refuses (Some e) s = turn (failure (errors.Driver e)) s

-- the transaction was rolled back since it couldn't be committed
abbrev pub returned : Trial → Stand → Turn
returned (trials.Refused first) s = turn (failure (errors.Server first)) (with_trial trials.Off (with_status (rolled_back s.status) s))
returned trial s = turn (Stops (Returns (Answered answers.Ready))) s

abbrev pub refuses_by : Option TxView → Stand → Turn
refuses_by None s = turn Passes s
refuses_by (Some opts) s = refuses (begin_refusal opts (version_of s.facts.version) s.status) s

-- the options are changed
abbrev pub adopts : Option ChangeView → Stand → Turn
adopts None s = turn Passes s
adopts (Some change) s = turn Passes (with_account (changed change s.account) s)

-- a query of the client's own is sent
abbrev pub queries_at : Call → Option (List ℕ) → Stand → Turn
queries_at call None s = turn Passes s
queries_at call (Some text) s = queries call text s

-- the first part, where nothing is owed
abbrev pub begins : Login → Call → Option Part → Stand → Turn
begins login call None s = turn (Stops (Returns (Answered answers.Ready))) s
begins login call (Some parts.Command) s = commands call s
begins login call (Some parts.All) s =
    if s.end_left
    then turn Stays (with_end false s)
    else (if is_idle s.context.spot then turn Passes s else reads login parts.All s)
begins login call (Some parts.Head) s = if is_rows s.context.spot then turn Passes s else reads login parts.Head s
begins login call (Some parts.Item) s =
    if s.end_left
    then turn (Stops (Returns (Answered answers.SetEnd))) (with_end false s)
    else (if is_idle s.context.spot then turn (Stops (Returns (Answered answers.NoSet))) s else reads login parts.Item s)
begins login call (Some parts.Set) s =
    if s.end_left || is_rows s.context.spot
    then turn (Stops (Returns (Answered answers.Ready))) (with_taken s)
    else (if is_idle s.context.spot then turn (Stops (Returns (Answered answers.NoSet))) s else reads login parts.Set s)
begins login call (Some parts.Rest) s =
    if s.end_left
    then turn Stays (with_end false s)
    else (if is_rows s.context.spot then reads login parts.Rest s else turn Passes s)
begins login call (Some parts.Find) s = finds (text_in call) s
begins login call (Some (parts.Check place)) s = checks_for (executed_in call) (params_at call place) s
begins login call (Some (parts.Run place)) s = executes_one (executed_in call) (params_at call place) s
begins login call (Some parts.Reply) s = if is_idle s.context.spot then turn Passes s else reads login parts.Reply s
begins login call (Some parts.Keep) s = keeps (text_in call) s
begins login call (Some parts.Give) s = gives (text_in call) s
begins login call (Some parts.Learn) s = learns (id_in call) s
begins login call (Some parts.Forget) s = turn Passes (with_known (without_statement (id_in call) s.statements) s)
begins login call (Some parts.Offered) s = offers (can_reset (version_of s.facts.version)) s
begins login call (Some parts.Clear) s = turn Passes (with_known (cleared s.statements) s)
begins login call (Some (parts.Text place)) s = queries_at call (setup_at login place) s
begins login call (Some (parts.Start place)) s = queries_at call (start_at call place) s
begins login call (Some (parts.Flag flag)) s = turn (Stops (Returns (Answered (answers.Flag flag)))) s
begins login call (Some parts.Adopt) s = adopts (change_at call) s
begins login call (Some parts.Renew) s = renews login call s
begins login call (Some parts.Drain) s =
    if s.end_left
    then turn Stays (with_end false s)
    else (if is_idle s.context.spot then turn Passes s else reads login parts.Drain s)
begins login call (Some parts.Undo) s = undoes call (is_given_up s.status) s
begins login call (Some parts.Undone) s = turn Passes (with_status (rolled_back s.status) s)
begins login call (Some parts.Refuse) s = refuses_by (opts_at call) s
begins login call (Some (parts.Settle status)) s = turn Passes (with_trial trials.Off (with_status status s))
begins login call (Some parts.GiveUp) s = turn Passes (with_status (given_up s.status) s)
begins login call (Some parts.Try) s = turn Passes (with_trial trials.On s)
begins login call (Some parts.Commit) s = queries call commit_text s
begins login call (Some parts.Back) s = if is_idle s.context.spot then returned s.trial s else reads login parts.Back s

-- while bytes are owed nothing else is done
abbrev pub unless_owed : List ℕ → Stand → Turn → Turn
unless_owed [] s t = t
unless_owed (b ∷ bytes) s t = turn (Stops Owes) s

-- a step of a call of which this part comes next
abbrev pub steps : Login → Call → Option Part → Stand → Turn
steps login call part s = unless_owed s.owed s (begins login call part s)
