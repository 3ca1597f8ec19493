-- Tapes that no client has.
use Rattle.std.specs.Prelude.{◌≡◌, ℕ, suc, pos, List, [], ◌∷◌, ◌++◌, length, codes, None, false, true}
use Rattle.my_value.specs.declared.value.Value.TheVariants.{Int}
use Rattle.my_params.specs.declared.params.Params.TheVariants.{Empty, Positional}
use Rattle.my_reading.specs.declared.call.Call.TheVariants.{Connect, Query, Prepare, Execute, Batch, CloseStmt, NextRow, DropResult, TakeSet, SkipTaken, Ping, ChangeUser, Begin, Commit, Rollback, ForgetTransaction, CleanForPool, Quit}
use Rattle.my_opts_parts.specs.TransactionOptions.{default_tx}
use Rattle.my_reading.specs.declared.error.DriverError.TheVariants.{NestedTransaction}
use Rattle.my_reading.specs.declared.error.Error.TheVariants.{Driver, Server}
use Rattle.my_reading.specs.declared.error.IoKind.TheVariants.{Link}
use Rattle.my_reading.specs.Endings.{AreCalls, IsTape, connects_first}
use Rattle.my_reading.specs.Errors.{connection_closed, mixed_params, io_error, unexpected_eof, invalid_data}
use Rattle.my_reading.specs.Told.{ToldReady, ToldRow, ToldEnd, ToldNone, ToldError, Dropped}
use Rattle.my_reading.specs.Reading.{reading}
use Rattle.my_reading.specs.Tape.{Span, Tape}
use Rattle.reading_laws.specs.Bytes.{root, frugal, orderly, connected, connected_to, connected_with, arranged, selected, prepared, prepared_plain, reset, begun, forgotten, pinged, changed, changes_to, to_bob, changes_with, cleaned, found, renewed, asking, ones, executes, closes, resets, starts, commits, rolls_back, sets_level, sets_access, starts_fully, reading_tx, full_tx, asked, asks, returned, call_with, row, one, end, fine, refusal, other_refusal, head, packet, response, greeting, all_sent, all_taken, calls_from, tape_with, tape_of}
use Rattle.reading_laws.specs.RightTapes.{curious, error, other_error, scramble, secretive}

-- the calls are on no tape of a client that logs in as root
abbrev pub NoTape : List Span → Type 0
NoTape ss = IsTape root (tape_of ss) → ⊥

-- The calls are read right, and the tape is none of a client that logs in as root: they don't stand in order.
pub record IsDisordered (t : Tape) : Type 0 where
  pub first : connects_first (reading root t).calls ≡ true
  pub calls : AreCalls root (reading root t).calls
  pub wrong : IsTape root t → ⊥

-- the same password for the nonce `tsrqponmlkjihgfedcba`
abbrev pub other_scramble : List ℕ
other_scramble = 231 ∷ 238 ∷ 155 ∷ 117 ∷ 128 ∷ 70 ∷ 10 ∷ 178 ∷ 202 ∷ 224 ∷ 157 ∷ 217 ∷ 184 ∷ 246 ∷ 193 ∷ 153 ∷ 145 ∷ 112 ∷ 70 ∷ 85 ∷ []

pub record AreWrong : Type 0 where
  -- a row of other cells than the payload's
  pub other_cells : NoTape (connected ∷ selected ∷ returned NextRow [] (one 3) (ToldRow (row (codes "2"))) ∷ [])
  -- a row, though no query was sent
  pub invented_row : NoTape (connected ∷ returned NextRow [] [] (ToldRow (row (codes "1"))) ∷ [])
  -- an end before the row that is there
  pub early_end : NoTape (connected ∷ selected ∷ returned NextRow [] (one 3 ++ end 4) ToldEnd ∷ [])
  -- nothing left, where the end of a lone OK is
  pub early_none : NoTape (connected ∷ asked (codes "DO 1") (fine 1 2) ∷ returned NextRow [] [] ToldNone ∷ [])
  -- a row that a cancelled drop passed over is returned again
  pub row_again : NoTape (connected ∷ selected ∷ returned DropResult [] (one 3) (Dropped false) ∷ returned NextRow [] [] (ToldRow (row (codes "1"))) ∷ [])
  -- a call that stays open though its row is there
  pub pending_answer : NoTape (connected ∷ selected ∷ call_with NextRow [] (one 3) None ∷ [])
  -- a quit that sent a query, one that sent nothing, and one that sent on a closed connection
  pub querying_quit : NoTape (connected ∷ returned Quit (asks (codes "SELECT 1")) [] ToldReady ∷ [])
  pub silent_quit : NoTape (connected ∷ returned Quit [] [] ToldReady ∷ [])
  pub second_quit : NoTape (connected ∷ returned Quit (packet 0 (1 ∷ [])) [] ToldReady ∷ returned Quit (packet 0 (1 ∷ [])) [] ToldReady ∷ [])
  -- a command other than the call's
  pub other_command : NoTape (connected ∷ returned (Query (codes "SELECT 1")) (asks (codes "SELECT 2")) head ToldReady ∷ [])
  -- a command after an earlier error
  pub command_after_error : NoTape (connected ∷ selected ∷ returned (Query (codes "SELECT 2")) (asks (codes "SELECT 2")) (refusal 3) (ToldError (Server error)) ∷ [])
  -- an answer before its response
  pub early_ready : NoTape (connected ∷ returned (Query (codes "SELECT 1")) (asks (codes "SELECT 1")) [] ToldReady ∷ [])
  -- a drop that read nothing
  pub idle_drop : NoTape (connected ∷ selected ∷ returned DropResult [] (one 3) ToldReady ∷ [])
  -- a fault or an end of the link where the row is there
  pub late_link_fault : NoTape (connected ∷ selected ∷ returned NextRow [] (one 3) (ToldError (io_error Link 4)) ∷ [])
  pub late_link_end : NoTape (connected ∷ selected ∷ returned NextRow [] (one 3) (ToldError (unexpected_eof 4)) ∷ [])
  -- a payload that fits is told as one that doesn't
  pub invented_fault : NoTape (connected ∷ selected ∷ returned NextRow [] (one 3) (ToldError (invalid_data 4)) ∷ [])
  -- a server's error is passed over
  pub lost_error : NoTape (connected ∷ selected ∷ returned NextRow [] (refusal 3) ToldNone ∷ [])
  -- a cancelled drop that awaits a further head and doesn't close
  pub open_cancel : NoTape (connected ∷ asked (codes "DO 1") (fine 1 10) ∷ returned DropResult [] [] (Dropped false) ∷ [])
  -- a query that is cancelled before the answer to its rollback and doesn't close
  pub cancelled_query : NoTape (connected ∷ begun ∷ forgotten ∷ returned (Query (codes "SELECT 1")) rolls_back [] (Dropped false) ∷ [])
  -- a set is taken, though nothing is left
  pub invented_set : NoTape (connected ∷ returned TakeSet [] [] ToldReady ∷ [])
  -- nothing left to be taken, where rows are
  pub lost_set : NoTape (connected ∷ selected ∷ returned TakeSet [] [] ToldNone ∷ [])
  -- a set is passed over, though its end wasn't read
  pub idle_skip : NoTape (connected ∷ selected ∷ returned TakeSet [] [] ToldReady ∷ returned SkipTaken [] (one 3) ToldReady ∷ [])
  -- a row that was passed over is returned again
  pub skipped_row : NoTape (connected ∷ selected ∷ returned TakeSet [] [] ToldReady ∷ returned SkipTaken [] (one 3 ++ end 4) ToldReady
      ∷ returned NextRow [] [] (ToldRow (row (codes "1"))) ∷ [])
  -- the next set is passed over, too
  pub skipped_on : NoTape (connected ∷ asked (codes "DO 1") (fine 1 10) ∷ returned TakeSet [] [] ToldReady ∷ returned SkipTaken [] (fine 2 2) ToldReady
      ∷ returned NextRow [] [] ToldNone ∷ [])
  -- a connection that is made before the settings' response
  pub half_set_up : IsTape curious (tape_of (returned Connect (response [] ++ asks (codes "SELECT @@max_allowed_packet,@@wait_timeout")) (greeting ++ fine 2 2) ToldReady ∷ [])) → ⊥
  -- a ping before connecting
  pub unconnected : NoTape (returned Ping (packet 0 (14 ∷ [])) (fine 1 2) ToldReady ∷ [])
  -- a statement is prepared again, though it is cached
  pub prepared_again : NoTape (connected ∷ prepared 1 ∷ prepared 1 ∷ [])
  -- another statement than the one that has to go is closed
  pub other_closed : IsTape frugal (tape_of (connected ∷ prepared_plain (codes "DO 1") 1 [] ∷ prepared_plain (codes "DO 2") 2 (closes 2) ∷ [])) → ⊥
  -- a statement gets the id of one that is cached
  pub cached_id : NoTape (connected ∷ prepared_plain (codes "DO 1") 1 [] ∷ prepared_plain (codes "DO 2") 1 [] ∷ [])
  -- a statement with another number of parameters than the server said
  pub other_number : NoTape (connected ∷ prepared 2 ∷ [])
  -- a row of an execution is read as text
  pub text_row : NoTape (connected ∷ prepared 1 ∷ returned (Execute (asking 1) (Positional (Int (pos 1) ∷ []))) executes head ToldReady
      ∷ returned NextRow [] (one 3) (ToldRow (row (codes "1"))) ∷ [])
  -- a statement is executed without its value
  pub unfitting_values : NoTape (connected ∷ prepared 1 ∷ returned (Execute (asking 1) Empty) executes (fine 1 2) ToldReady ∷ [])
  -- a batch sends its statement once, where it has two lists of parameters
  pub half_batch : NoTape (connected ∷ prepared 1 ∷ returned (Batch (asking 1) (ones 2)) executes (fine 1 2) ToldReady ∷ [])
  -- it is ready before its last response is read whole
  pub unread_batch : NoTape (connected ∷ prepared 1 ∷ returned (Batch (asking 1) (ones 1)) executes head ToldReady ∷ [])
  -- the end of a lone OK is left of it
  pub batch_with_end : NoTape (connected ∷ prepared 1 ∷ returned (Batch (asking 1) (ones 1)) executes (fine 1 2) ToldReady ∷ returned NextRow [] [] ToldEnd ∷ [])
  -- a statement is closed, and nothing is sent
  pub silent_close : NoTape (connected ∷ returned (CloseStmt 1) [] [] ToldReady ∷ [])
  -- a text with named parameters and marks closes the connection
  pub closing_text : NoTape (connected ∷ returned (Prepare (codes "?:a")) [] [] (ToldError mixed_params) ∷ returned NextRow [] [] (ToldError connection_closed) ∷ [])
  -- a session is said to be reset, though nothing was sent, or before the server's OK
  pub silent_reset : NoTape (connected ∷ reset [] [] true ∷ [])
  pub early_reset : NoTape (connected ∷ reset resets [] true ∷ [])
  -- nothing is sent to a server that has the command
  pub idle_reset : NoTape (connected ∷ reset [] [] false ∷ [])
  -- the queries that follow are sent in the other order; one of them isn't sent
  pub other_order : IsTape orderly (tape_of (arranged ∷ reset (resets ++ asks (codes "DO 1") ++ asks (codes "DO 2")) (fine 1 2 ++ fine 1 2 ++ fine 1 2) true ∷ [])) → ⊥
  pub half_reset : IsTape orderly (tape_of (arranged ∷ reset (resets ++ asks (codes "DO 2")) (fine 1 2 ++ fine 1 2) true ∷ [])) → ⊥
  -- a statement is found in the cache after a reset
  pub kept_over_reset : NoTape (connected ∷ prepared 1 ∷ reset resets (fine 1 2) true ∷ found ∷ [])
  -- a transaction that was given up isn't rolled back before the next command, or is rolled back twice
  pub not_undone : NoTape (connected ∷ begun ∷ forgotten ∷ pinged [] [] ∷ [])
  pub undone_twice : NoTape (connected ∷ begun ∷ forgotten ∷ pinged rolls_back (fine 1 2) ∷ pinged rolls_back (fine 1 2) ∷ [])
  -- one that the server didn't roll back is taken for rolled back
  pub undone_by_error : NoTape (connected ∷ begun ∷ forgotten ∷ returned Ping rolls_back (refusal 1) (ToldError (Server error)) ∷ pinged [] [] ∷ [])
  -- one is given up, and rolled back at once
  pub undone_early : NoTape (connected ∷ begun ∷ returned ForgetTransaction rolls_back (fine 1 2) ToldReady ∷ [])
  -- one begins in another one, or is refused where there is no other one
  pub begun_twice : NoTape (connected ∷ begun ∷ begun ∷ [])
  pub never_nested : NoTape (connected ∷ returned (Begin default_tx) [] [] (ToldError (Driver NestedTransaction)) ∷ [])
  -- the refusal closes the connection
  pub closing_refusal : NoTape (connected ∷ begun ∷ returned (Begin default_tx) [] [] (ToldError (Driver NestedTransaction)) ∷ returned NextRow [] [] (ToldError connection_closed) ∷ [])
  -- the level is sent after the transaction has begun; the first two queries are sent in the other order
  pub late_level : NoTape (connected ∷ returned (Begin full_tx) (sets_access ++ starts_fully ++ sets_level) (fine 1 2 ++ fine 1 2 ++ fine 1 2) ToldReady ∷ [])
  pub swapped_texts : NoTape (connected ∷ returned (Begin full_tx) (sets_access ++ sets_level ++ starts_fully) (fine 1 2 ++ fine 1 2 ++ fine 1 2) ToldReady ∷ [])
  -- a server of version 5.6.4 is told that one only reads
  pub told_old_server : NoTape (connected_to (codes "5.6.4") ∷ returned (Begin reading_tx) (sets_access ++ starts) (fine 1 2 ++ fine 1 2) ToldReady ∷ [])
  -- one has begun before the last OK
  pub early_begin : NoTape (connected ∷ returned (Begin reading_tx) (sets_access ++ starts) (fine 1 2) ToldReady ∷ [])
  -- one is rolled back, and nothing is sent
  pub silent_rollback : NoTape (connected ∷ begun ∷ returned Rollback [] [] ToldReady ∷ [])
  -- one is committed, though the server refused; or it isn't rolled back then; or the call returns before the answer to that
  pub committed_by_error : NoTape (connected ∷ begun ∷ returned Commit commits (refusal 1) ToldReady ∷ [])
  pub not_rolled_back : NoTape (connected ∷ begun ∷ returned Commit commits (refusal 1) (ToldError (Server error)) ∷ [])
  pub early_refusal : NoTape (connected ∷ begun ∷ returned Commit (commits ++ rolls_back) (refusal 1) (ToldError (Server error)) ∷ [])
  -- the refusal to roll it back is returned in place of the first one
  pub second_refusal : NoTape (connected ∷ begun ∷ returned Commit (commits ++ rolls_back) (refusal 1 ++ other_refusal 1) (ToldError (Server other_error)) ∷ [])
  -- one that was committed is rolled back; or isn't sent at all
  pub undone_commit : NoTape (connected ∷ begun ∷ returned Commit (commits ++ rolls_back) (fine 1 2 ++ fine 1 2) ToldReady ∷ [])
  pub silent_commit : NoTape (connected ∷ begun ∷ returned Commit [] [] ToldReady ∷ [])
  -- a connection gets another user than the change says, or is ready before the server's OK, or though the server refused
  pub old_user : NoTape (connected ∷ changed (changes_to (codes "root")) (fine 1 2) ∷ [])
  pub early_change : NoTape (connected ∷ changed (changes_to (codes "bob")) [] ∷ [])
  pub changed_by_error : NoTape (connected ∷ changed (changes_to (codes "bob")) (refusal 1) ∷ [])
  -- a statement is found in the cache after it
  pub kept_over_change : NoTape (connected ∷ prepared 1 ∷ changed (changes_to (codes "bob")) (fine 1 2) ∷ found ∷ [])
  -- the queries that set the connection up aren't sent after it
  pub not_set_up : IsTape orderly (tape_of (arranged ∷ changed (changes_to (codes "bob")) (fine 1 2) ∷ [])) → ⊥
  -- the password is proved for another nonce than the greeting's
  pub other_nonce : IsTape secretive (tape_of (connected_with scramble ∷ changed (changes_with other_scramble (codes "bob")) (fine 1 2) ∷ [])) → ⊥
  -- a pool cleans: the ERR in the rest of a set is returned; nothing is rolled back, though a transaction is open
  pub error_told : NoTape (connected ∷ selected ∷ returned CleanForPool [] (refusal 3) (ToldError (Server error)) ∷ [])
  pub still_in_transaction : NoTape (connected ∷ begun ∷ cleaned [] [] ∷ [])
  -- it is ready though the server refused to roll back
  pub clean_by_error : NoTape (connected ∷ begun ∷ cleaned rolls_back (refusal 1) ∷ [])
  -- it renews the session: a server of version 5.7.2 is to reset it; one that can reset it gets a user
  pub reset_of_old : NoTape (connected_to (codes "5.7.2") ∷ renewed resets (fine 1 2) ∷ [])
  pub changed_not_reset : NoTape (connected ∷ renewed (changes_to (codes "root")) (fine 1 2) ∷ [])
  -- a server of version 5.7.2 gets the user from before a change
  pub renewed_by_old : NoTape (connected_to (codes "5.7.2") ∷ changed (changes_to (codes "bob")) (fine 1 2) ∷ renewed (changes_to (codes "root")) (fine 1 2) ∷ [])
  -- so does a change that wasn't sent, since the server refused to roll back before it
  pub renewed_by_older : NoTape (connected_to (codes "5.7.2") ∷ begun ∷ forgotten ∷ returned (ChangeUser to_bob) rolls_back (refusal 1) (ToldError (Server error))
      ∷ renewed (rolls_back ++ changes_to (codes "root")) (fine 1 2 ++ fine 1 2) ∷ [])
  -- it is ready before the server's OK
  pub early_renewal : NoTape (connected ∷ renewed resets [] ∷ [])
  -- a statement is found in the cache after it
  pub kept_over_renewal : NoTape (connected ∷ prepared 1 ∷ renewed resets (fine 1 2) ∷ found ∷ [])
  -- a byte was received before the first call began
  pub byte_before : IsDisordered (record { sent = all_sent (connected ∷ []); taken = 0 ∷ all_taken (connected ∷ []); calls = calls_from 0 1 (connected ∷ []) })
  -- the OK of a ping answers a second one, too, which begins where the first one began
  pub answer_twice : IsDisordered (tape_with (connected ∷ pinged [] [] ∷ [])
      (calls_from 0 0 (connected ∷ pinged [] [] ∷ returned NextRow [] [] ToldNone ∷ []) ++ calls_from (length connected.sent) (length connected.taken) (pinged [] [] ∷ [])))
  -- a read is open, and the next one gets the row
  pub open_before : IsDisordered (tape_of (connected ∷ selected ∷ call_with NextRow [] [] None ∷ returned NextRow [] (one 3) (ToldRow (row (codes "1"))) ∷ []))
  -- a call begins after the tape's end
  pub beyond_end : IsDisordered (tape_with (connected ∷ [])
      (calls_from 0 0 (connected ∷ []) ++ calls_from (suc (length connected.sent)) (length connected.taken) (returned NextRow [] [] ToldNone ∷ [])))
  -- a ping finds the connection closed after an OK
  pub closing_ping : NoTape (connected ∷ pinged [] [] ∷ returned Ping [] [] (ToldError connection_closed) ∷ [])
  -- an empty payload is taken for the end of a set
  pub empty_end : NoTape (connected ∷ selected ∷ returned NextRow [] (packet 3 []) ToldEnd ∷ [])
  -- the statement that has to go isn't closed
  pub evicted_open : IsTape frugal (tape_of (connected ∷ prepared_plain (codes "DO 1") 1 [] ∷ prepared_plain (codes "DO 2") 2 [] ∷ [])) → ⊥
  -- a statement is found in the cache after it was closed
  pub kept_over_close : NoTape (connected ∷ prepared 1 ∷ returned (CloseStmt 1) (closes 1) [] ToldReady ∷ found ∷ [])
  -- bytes of no call
  pub bytes_alone : IsDisordered (tape_with (connected ∷ []) [])
