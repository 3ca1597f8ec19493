-- Tapes that a client may have.
use Rattle.std.specs.Prelude.{◌≡◌, ℕ, pos, List, [], ◌∷◌, ◌++◌, codes, Some, None, true, false}
use Rattle.std.specs.Str.Lossy.{utf8_lossy}
use Rattle.my_value.specs.declared.value.Value.TheVariants.{Int}
use Rattle.my_params.specs.declared.params.Params.TheVariants.{Empty, Positional}
use Rattle.my_grammar.specs.declared.login.Login.{Login}
use Rattle.my_reading.specs.declared.call.Call.TheVariants.{Connect, Query, Prepare, Execute, Batch, CloseStmt, NextRow, DropResult, TakeSet, SkipTaken, Ping, Reset, ChangeUser, Begin, Commit, CleanForPool, Quit}
use Rattle.my_reading.specs.declared.error.DriverError.TheVariants.{NestedTransaction, ReadOnlyTransNotSupported, StmtParamsMismatch}
use Rattle.my_reading.specs.declared.error.Error.TheVariants.{Driver, Server}
use Rattle.my_reading.specs.declared.error.ServerError.{ServerError}
use Rattle.my_reading.specs.Endings.{IsTape}
use Rattle.my_reading.specs.Errors.{connection_closed, mixed_params}
use Rattle.my_reading.specs.Place.{facts_at}
use Rattle.my_reading.specs.Reading.{reading}
use Rattle.my_reading.specs.Told.{ToldReady, ToldRow, ToldEnd, ToldNone, ToldError, Dropped}
use Rattle.reading_laws.specs.Bytes.{root, frugal, orderly, login_by, connected, connected_to, connected_with, arranged, selected, prepared, prepared_plain, reset, begun, committed, rolled_back, forgotten, pinged, changed, changes_to, changes_with, cleaned, found, renewed, to_bob, asking, ones, asked, asks, executes, closes, resets, commits, rolls_back, sets_level, sets_access, starts_fully, reading_tx, full_tx, set_up_queries, returned, call_with, row, row_with, one, binary_one, end, head, fine, refusal, other_refusal, column, packet, response, greeting, tape_of}

-- what the server's ERRs say
abbrev pub error : ServerError
error = record { code = 1045; state = utf8_lossy (codes "42000"); message = utf8_lossy (codes "no") }

abbrev pub other_error : ServerError
other_error = record { code = 1213; state = utf8_lossy (codes "40001"); message = utf8_lossy (codes "so") }

-- the answer to the settings' query: 67,108,864 bytes and 600 seconds
abbrev pub settings : List ℕ
settings = packet 1 (2 ∷ []) ++ column 2 ++ column 3 ++ packet 4 (8 ∷ codes "67108864" ++ 3 ∷ codes "600") ++ end 5

abbrev pub curious : Login
curious = login_by None None None

abbrev pub scramble : List ℕ
scramble = 18 ∷ 144 ∷ 157 ∷ 114 ∷ 216 ∷ 117 ∷ 82 ∷ 63 ∷ 140 ∷ 157 ∷ 109 ∷ 164 ∷ 76 ∷ 189 ∷ 58 ∷ 108 ∷ 28 ∷ 231 ∷ 148 ∷ 219 ∷ []

-- a user with the password `pw`
abbrev pub secretive : Login
secretive = login_by (Some (codes "pw")) (Some 4194304) (Some 28800)

pub record AreRight : Type 0 where
  -- a query with one row, its end, and nothing after it; then a ping and a quit
  pub row_read : IsTape root (tape_of (connected ∷ selected ∷ returned NextRow [] (one 3) (ToldRow (row (codes "1"))) ∷ returned NextRow [] (end 4) ToldEnd
      ∷ returned NextRow [] [] ToldNone ∷ returned Ping (packet 0 (14 ∷ [])) (fine 1 2) ToldReady ∷ returned Quit (packet 0 (1 ∷ [])) [] ToldReady ∷ []))
  -- a lone OK has an end
  pub lone_ok : IsTape root (tape_of (connected ∷ asked (codes "DO 1") (fine 1 2) ∷ returned NextRow [] [] ToldEnd ∷ returned NextRow [] [] ToldNone ∷ []))
  -- a query returns an earlier error, and sends nothing
  pub earlier_error : IsTape root (tape_of (connected ∷ selected ∷ returned (Query (codes "SELECT 2")) [] (refusal 3) (ToldError (Server error)) ∷ []))
  -- a read that is open, and one that was cancelled among rows, after which the next reads on
  pub read_open : IsTape root (tape_of (connected ∷ selected ∷ call_with NextRow [] [] (Some (Dropped false)) ∷ call_with NextRow [] (6 ∷ []) None ∷ []))
  -- a drop that is cancelled where a further head is awaited closes
  pub drop_cancelled : IsTape root (tape_of (connected ∷ asked (codes "DO 1") (fine 1 10) ∷ returned DropResult [] [] (Dropped true) ∷ returned NextRow [] [] (ToldError connection_closed) ∷ []))
  -- a stream takes a set, reads its row, and the rest of the set is passed over; then nothing is left to be taken
  pub set_taken : IsTape root (tape_of (connected ∷ selected ∷ returned TakeSet [] [] ToldReady ∷ returned NextRow [] (one 3) (ToldRow (row (codes "1")))
      ∷ returned SkipTaken [] (end 4) ToldReady ∷ returned TakeSet [] [] ToldNone ∷ []))
  -- a set without columns is taken and passed over, and the next one is read
  pub lone_taken : IsTape root (tape_of (connected ∷ asked (codes "DO 1") (fine 1 10) ∷ returned TakeSet [] [] ToldReady ∷ returned SkipTaken [] [] ToldReady
      ∷ returned NextRow [] (fine 2 2) ToldEnd ∷ []))
  -- the settings that the server was asked for, which hold then
  pub set_up : IsTape curious (tape_of (returned Connect (response [] ++ asks (codes "SELECT @@max_allowed_packet,@@wait_timeout")) (greeting ++ fine 2 2 ++ settings) ToldReady ∷ []))
  pub limit : (facts_at curious (reading curious (tape_of (returned Connect (response [] ++ asks (codes "SELECT @@max_allowed_packet,@@wait_timeout")) (greeting ++ fine 2 2 ++ settings) ToldReady ∷ []))).place).settings.limit ≡ 67108864
  -- a login with a password
  pub password : IsTape secretive (tape_of (connected_with scramble ∷ []))
  -- a statement is prepared, and executed with a row of the binary protocol; it is found in the cache, and closed
  pub executed : IsTape root (tape_of (connected ∷ prepared 1 ∷ returned (Execute (asking 1) (Positional (Int (pos 1) ∷ []))) executes head ToldReady
      ∷ returned NextRow [] (binary_one 3) (ToldRow (row_with (Int (pos 1)))) ∷ returned NextRow [] (end 4) ToldEnd
      ∷ found ∷ returned (CloseStmt 1) (closes 1) [] ToldReady ∷ []))
  -- a statement is executed twice in one call, and what each response has is read whole; then nothing is left
  pub batch : IsTape root (tape_of (connected ∷ prepared 1 ∷ returned (Batch (asking 1) (ones 2)) (executes ++ executes)
      (head ++ binary_one 3 ++ end 4 ++ fine 1 2) ToldReady ∷ returned NextRow [] [] ToldNone ∷ []))
  -- where it isn't executed at all, nothing is sent or read: a query's row is there still
  pub empty_batch : IsTape root (tape_of (connected ∷ selected ∷ returned (Batch (asking 1) []) [] [] ToldReady ∷ returned NextRow [] (one 3) (ToldRow (row (codes "1"))) ∷ []))
  -- the second parameters don't fit, after the first execution
  pub cut_batch : IsTape root (tape_of (connected ∷ prepared 1 ∷ returned (Batch (asking 1) (ones 1 ++ Empty ∷ [])) executes (fine 1 2) (ToldError (Driver (StmtParamsMismatch 1 0)))
      ∷ returned NextRow [] [] (ToldError connection_closed) ∷ []))
  -- where one statement is cached, the first is closed for a second one
  pub one_cached : IsTape frugal (tape_of (connected ∷ prepared_plain (codes "DO 1") 1 [] ∷ prepared_plain (codes "DO 2") 2 (closes 1) ∷ []))
  -- a text with named parameters and marks is refused, which leaves the connection open; values that don't fit a statement close it
  pub refused : IsTape root (tape_of (connected ∷ returned (Prepare (codes "?:a")) [] [] (ToldError mixed_params) ∷ prepared 1
      ∷ returned (Execute (asking 1) Empty) [] [] (ToldError (Driver (StmtParamsMismatch 1 0))) ∷ returned NextRow [] [] (ToldError connection_closed) ∷ []))
  -- a reset, after which the queries that set the connection up are sent from the last to the first
  pub reset_whole : IsTape orderly (tape_of (arranged ∷ reset (resets ++ set_up_queries) (fine 1 2 ++ fine 1 2 ++ fine 1 2) true ∷ []))
  -- a server of version 5.7.2 is sent nothing, and a query's row is there still
  pub not_reset : IsTape root (tape_of (connected_to (codes "5.7.2") ∷ selected ∷ reset [] [] false
      ∷ returned NextRow [] (one 3) (ToldRow (row (codes "1"))) ∷ []))
  -- after a reset the statement that was cached is prepared anew
  pub prepared_anew : IsTape root (tape_of (connected ∷ prepared 1 ∷ reset resets (fine 1 2) true ∷ prepared 1 ∷ []))
  -- where the server refuses it, the connection stays open, and the statement cached
  pub reset_refused : IsTape root (tape_of (connected ∷ prepared 1 ∷ returned Reset resets (refusal 1) (ToldError (Server error))
      ∷ found ∷ []))
  -- a transaction begins, a query is sent in it, and it is rolled back; then a ping sends no more than itself
  pub transaction : IsTape root (tape_of (connected ∷ begun ∷ asked (codes "DO 1") (fine 1 2) ∷ rolled_back ∷ pinged [] [] ∷ []))
  -- or it is committed
  pub commit : IsTape root (tape_of (connected ∷ begun ∷ asked (codes "DO 1") (fine 1 2) ∷ committed ∷ pinged [] [] ∷ []))
  -- where the server refuses to commit it, it is rolled back, and the call returns why
  pub not_committed : IsTape root (tape_of (connected ∷ begun ∷ returned Commit (commits ++ rolls_back) (refusal 1 ++ fine 1 2) (ToldError (Server error)) ∷ pinged [] [] ∷ []))
  -- where it refuses to roll it back, too, the call returns the first refusal, and the next command tries it again
  pub neither : IsTape root (tape_of (connected ∷ begun ∷ returned Commit (commits ++ rolls_back) (refusal 1 ++ other_refusal 1) (ToldError (Server error)) ∷ pinged rolls_back (fine 1 2) ∷ []))
  -- an ERR in the rest of a set leaves nothing to be committed
  pub rest_refused : IsTape root (tape_of (connected ∷ begun ∷ selected ∷ returned Commit rolls_back (refusal 3 ++ fine 1 2) (ToldError (Server error)) ∷ begun ∷ []))
  -- the level comes first, then whether it only reads
  pub begun_so : IsTape root (tape_of (connected ∷ returned (Begin full_tx) (sets_level ++ sets_access ++ starts_fully) (fine 1 2 ++ fine 1 2 ++ fine 1 2) ToldReady ∷ []))
  -- one that was given up is rolled back by the next command, once
  pub given_up : IsTape root (tape_of (connected ∷ begun ∷ forgotten ∷ pinged rolls_back (fine 1 2) ∷ pinged [] [] ∷ []))
  -- the rest of a set is read before
  pub rest_first : IsTape root (tape_of (connected ∷ begun ∷ selected ∷ forgotten ∷ returned Quit (rolls_back ++ packet 0 (1 ∷ [])) (one 3 ++ end 4 ++ fine 1 2) ToldReady ∷ []))
  -- where the server refuses that, the next command tries it again
  pub given_up_still : IsTape root (tape_of (connected ∷ begun ∷ forgotten ∷ returned Ping rolls_back (refusal 1) (ToldError (Server error)) ∷ pinged rolls_back (fine 1 2) ∷ []))
  -- of a batch only the first execution does so
  pub undone_once : IsTape root (tape_of (connected ∷ prepared 1 ∷ begun ∷ forgotten ∷ returned (Batch (asking 1) (ones 2)) (rolls_back ++ executes ++ executes) (fine 1 2 ++ fine 1 2 ++ fine 1 2) ToldReady ∷ []))
  -- a transaction in a transaction is refused, and the first one goes on
  pub not_nested : IsTape root (tape_of (connected ∷ begun ∷ returned (Begin full_tx) [] [] (ToldError (Driver NestedTransaction)) ∷ rolled_back ∷ []))
  -- a server of version 5.6.4 isn't told that one only reads, but may begin another one
  pub not_told : IsTape root (tape_of (connected_to (codes "5.6.4") ∷ returned (Begin reading_tx) [] [] (ToldError (Driver ReadOnlyTransNotSupported)) ∷ begun ∷ []))
  -- where the server refuses a query of it, none has begun
  pub begin_refused : IsTape root (tape_of (connected ∷ returned (Begin full_tx) (sets_level ++ sets_access) (fine 1 2 ++ refusal 1) (ToldError (Server error)) ∷ begun ∷ []))
  -- one is given up on a closed connection
  pub given_up_closed : IsTape root (tape_of (connected ∷ begun ∷ returned Quit (packet 0 (1 ∷ [])) [] ToldReady ∷ forgotten ∷ []))
  -- a connection gets the user `bob`
  pub user_changed : IsTape root (tape_of (connected ∷ changed (changes_to (codes "bob")) (fine 1 2) ∷ pinged [] [] ∷ []))
  -- its password stays, and the answer to the nonce of the greeting with it
  pub secret_kept : IsTape secretive (tape_of (connected_with scramble ∷ changed (changes_with scramble (codes "bob")) (fine 1 2) ∷ []))
  -- the queries that set the connection up are sent from the last to the first, and the statement that was cached is prepared anew
  pub set_up_anew : IsTape orderly (tape_of (arranged ∷ prepared 1 ∷ changed (changes_to (codes "bob") ++ set_up_queries) (fine 1 2 ++ fine 1 2 ++ fine 1 2) ∷ prepared 1 ∷ []))
  -- where the server refuses it, the connection stays open, and the statement cached
  pub change_refused : IsTape root (tape_of (connected ∷ prepared 1 ∷ returned (ChangeUser to_bob) (changes_to (codes "bob")) (refusal 1) (ToldError (Server error)) ∷ found ∷ pinged [] [] ∷ []))
  -- a pool cleans: the rest of a set is read
  pub rest_cleaned : IsTape root (tape_of (connected ∷ selected ∷ cleaned [] (one 3 ++ end 4) ∷ pinged [] [] ∷ []))
  -- an ERR in it is dropped
  pub error_cleaned : IsTape root (tape_of (connected ∷ selected ∷ cleaned [] (refusal 3) ∷ pinged [] [] ∷ []))
  -- an open transaction is rolled back, also after an ERR in the rest
  pub transaction_cleaned : IsTape root (tape_of (connected ∷ begun ∷ cleaned rolls_back (fine 1 2) ∷ pinged [] [] ∷ []))
  pub both_cleaned : IsTape root (tape_of (connected ∷ begun ∷ selected ∷ cleaned rolls_back (refusal 3 ++ fine 1 2) ∷ pinged [] [] ∷ []))
  -- where the server refuses that, the call returns why, and the next command tries it again
  pub not_cleaned : IsTape root (tape_of (connected ∷ begun ∷ returned CleanForPool rolls_back (refusal 1) (ToldError (Server error)) ∷ pinged rolls_back (fine 1 2) ∷ []))
  -- a pool renews the session: it is reset, and set up again; the statement that was cached is prepared anew
  pub renewed_by_reset : IsTape orderly (tape_of (arranged ∷ prepared 1 ∷ renewed (resets ++ set_up_queries) (fine 1 2 ++ fine 1 2 ++ fine 1 2) ∷ prepared 1 ∷ []))
  -- a server of version 5.7.2 gets the user of the options in force: `root`, or `bob` after a change
  pub renewed_by_change : IsTape root (tape_of (connected_to (codes "5.7.2") ∷ renewed (changes_to (codes "root")) (fine 1 2) ∷ []))
  pub renewed_by_new : IsTape root (tape_of (connected_to (codes "5.7.2") ∷ changed (changes_to (codes "bob")) (fine 1 2) ∷ renewed (changes_to (codes "bob")) (fine 1 2) ∷ []))
