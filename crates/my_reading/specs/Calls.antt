-- Calls: which one it is, and what it carries.
use Rattle.std.specs.Prelude.{ℕ, List, [], Bool, true, false}
use Rattle.my_opts.specs.ChangeUser.{ChangeView, no_change}
use Rattle.my_opts_parts.specs.TransactionOptions.{TxView, default_tx}
use Rattle.my_params.specs.declared.params.Params.{Params}
use Rattle.my_params.specs.declared.params.Params.TheVariants.{Empty}
use Rattle.my_statements.specs.Prepared.{StatementView}
use Rattle.my_reading.specs.declared.call.Call.{Call}
use Rattle.my_reading.specs.declared.call.Call.TheVariants as calls
use Rattle.my_reading.specs.declared.call.CallKind.{CallKind}
use Rattle.my_reading.specs.declared.call.CallKind.TheVariants.{Connect, Query, Prepare, Execute, Batch, CloseStmt, NextRow, DropResult, TakeSet, SkipTaken, Ping, Reset, ChangeUser, Begin, Commit, Rollback, ForgetTransaction, CleanForPool, ResetForPool, Quit}

abbrev pub kind_of : Call → CallKind
kind_of calls.Connect = Connect
kind_of (calls.Query text) = Query
kind_of (calls.Prepare text) = Prepare
kind_of (calls.Execute statement params) = Execute
kind_of (calls.Batch statement lists) = Batch
kind_of (calls.CloseStmt id) = CloseStmt
kind_of calls.NextRow = NextRow
kind_of calls.DropResult = DropResult
kind_of calls.TakeSet = TakeSet
kind_of calls.SkipTaken = SkipTaken
kind_of calls.Ping = Ping
kind_of calls.Reset = Reset
kind_of (calls.ChangeUser change) = ChangeUser
kind_of (calls.Begin opts) = Begin
kind_of calls.Commit = Commit
kind_of calls.Rollback = Rollback
kind_of calls.ForgetTransaction = ForgetTransaction
kind_of calls.CleanForPool = CleanForPool
kind_of calls.ResetForPool = ResetForPool
kind_of calls.Quit = Quit

-- a statement of no text
abbrev pub blank : StatementView
blank = record { inner = record { id = 0; connection_id = 0; num_params = 0; num_columns = 0; params = [] }; names = [] }

-- what a call carries: the text of a query or of a statement to prepare, the statement that is executed with its parameters, and the id of
-- the one that is closed, what a change of user changes, and how a transaction begins; nothing where it doesn't carry it. A batch carries parameters for each execution of
-- its statement.
abbrev pub text_in : Call → List ℕ
text_in (calls.Query text) = text
text_in (calls.Prepare text) = text
text_in _ = []

abbrev pub statement_in : Call → StatementView
statement_in (calls.Execute statement params) = statement
statement_in (calls.Batch statement lists) = statement
statement_in _ = blank

abbrev pub params_in : Call → Params
params_in (calls.Execute statement params) = params
params_in _ = Empty

abbrev pub lists_in : Call → List Params
lists_in (calls.Batch statement lists) = lists
lists_in _ = []

abbrev pub id_in : Call → ℕ
id_in (calls.Execute statement params) = statement.inner.id
id_in (calls.Batch statement lists) = statement.inner.id
id_in (calls.CloseStmt id) = id
id_in _ = 0

abbrev pub change_in : Call → ChangeView
change_in (calls.ChangeUser change) = change
change_in _ = no_change

abbrev pub opts_in : Call → TxView
opts_in (calls.Begin opts) = opts
opts_in _ = default_tx

-- the call of this kind, with what another call carries
abbrev pub call_of : CallKind → Call → Call
call_of Connect call = calls.Connect
call_of Query call = calls.Query (text_in call)
call_of Prepare call = calls.Prepare (text_in call)
call_of Execute call = calls.Execute (statement_in call) (params_in call)
call_of Batch call = calls.Batch (statement_in call) (lists_in call)
call_of CloseStmt call = calls.CloseStmt (id_in call)
call_of NextRow call = calls.NextRow
call_of DropResult call = calls.DropResult
call_of TakeSet call = calls.TakeSet
call_of SkipTaken call = calls.SkipTaken
call_of Ping call = calls.Ping
call_of Reset call = calls.Reset
call_of ChangeUser call = calls.ChangeUser (change_in call)
call_of Begin call = calls.Begin (opts_in call)
call_of Commit call = calls.Commit
call_of Rollback call = calls.Rollback
call_of ForgetTransaction call = calls.ForgetTransaction
call_of CleanForPool call = calls.CleanForPool
call_of ResetForPool call = calls.ResetForPool
call_of Quit call = calls.Quit

-- the calls that send a command of their own
abbrev pub asks : CallKind → Bool
asks Query = true
asks Prepare = true
asks Execute = true
asks Batch = true
asks CloseStmt = true
asks Ping = true
asks Reset = true
asks ChangeUser = true
asks Begin = true
asks Commit = true
asks Rollback = true
asks CleanForPool = true
asks ResetForPool = true
asks Quit = true
asks _ = false

abbrev pub is_connect : CallKind → Bool
is_connect Connect = true
is_connect _ = false

abbrev pub is_quit : CallKind → Bool
is_quit Quit = true
is_quit _ = false

-- the calls that have nothing to do on a closed session, which refuses all others
abbrev pub is_unrefused : CallKind → Bool
is_unrefused Quit = true
is_unrefused ForgetTransaction = true
is_unrefused _ = false
