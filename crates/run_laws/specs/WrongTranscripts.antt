-- Transcripts that no run has.
use Rattle.std.specs.Prelude.{List, [], ◌∷◌, ◌++◌, codes, None, Some, true, false}
use Rattle.my_opts_parts.specs.TransactionOptions.{default_tx}
use Rattle.my_reading.specs.declared.call.Call.TheVariants.{Query, NextRow, DropResult, Begin, Commit, Rollback, ForgetTransaction, Quit}
use Rattle.my_reading.specs.declared.error.Error.TheVariants.{Driver, Server}
use Rattle.my_reading.specs.declared.error.DriverError.TheVariants.{NestedTransaction}
use Rattle.my_reading.specs.declared.error.IoKind.TheVariants.{Link}
use Rattle.my_reading.specs.Errors.{connection_closed, io_error, unexpected_eof, invalid_data}
use Rattle.my_reading.specs.Told.{ToldReady, ToldRow, ToldEnd, ToldNone, ToldError}
use Rattle.my_reading.specs.Tape.{Span}
use Rattle.reading_laws.specs.Bytes.{root, connected, selected, asked, asks, returned, call_with, row, one, end, fine, refusal, head, packet, prepared, reset, changed, changes_to, found, begun, commits, forgotten, full_tx, other_refusal, pinged, reading_tx, rolls_back, sets_access, sets_level, starts, starts_fully}
use Rattle.reading_laws.specs.RightTapes.{error, other_error}
use Rattle.run_laws.specs.Shown.{NoFields, NoTranscript}

-- after `conn` these calls are in no transcript of a client that logs in as root
abbrev pub NoneShow : List Span → Type 0
NoneShow ss = NoTranscript root connected ss

-- a query whose rows and end were received with its head: the end says that there is a warning
abbrev pub early : Span
early = asked (codes "SELECT 1") (head ++ one 3 ++ packet 4 (254 ∷ 0 ∷ 0 ∷ 2 ∷ 0 ∷ 1 ∷ 0 ∷ []))

pub record AreWrong : Type 0 where
  -- `query`, `next`: a row of other cells than the payload's
  pub other_cells : NoneShow (selected ∷ returned NextRow [] (one 3) (ToldRow (row (codes "2"))) ∷ [])
  -- `next`: a row, though no query was sent
  pub invented_row : NoneShow (returned NextRow [] [] (ToldRow (row (codes "1"))) ∷ [])
  -- `query`, `next`: an end before the row that is there
  pub early_end : NoneShow (selected ∷ returned NextRow [] (one 3 ++ end 4) ToldEnd ∷ [])
  -- `query`, `next`: nothing left, where the end of a lone OK is
  pub early_none : NoneShow (asked (codes "DO 1") (fine 1 2) ∷ returned NextRow [] [] ToldNone ∷ [])
  -- `query`, `next`: pending, though its row is there
  pub pending_answer : NoneShow (selected ∷ call_with NextRow [] (one 3) None ∷ [])
  -- `quit`: it sent a query; it sent nothing; and a second one sent on a closed connection
  pub querying_quit : NoneShow (returned Quit (asks (codes "SELECT 1")) [] ToldReady ∷ [])
  pub silent_quit : NoneShow (returned Quit [] [] ToldReady ∷ [])
  pub second_quit : NoneShow (returned Quit (packet 0 (1 ∷ [])) [] ToldReady ∷ returned Quit (packet 0 (1 ∷ [])) [] ToldReady ∷ [])
  -- `reset`: the session was reset, though nothing was sent; and a server that has the command wasn't sent it
  pub silent_reset : NoneShow (reset [] [] true ∷ [])
  pub idle_reset : NoneShow (reset [] [] false ∷ [])
  -- `user`: another user than the step's was sent; ok before the server's, or though it refused; `prep`, `user`,
  -- `prep`: the statement is in the cache after it
  pub old_user : NoneShow (changed (changes_to (codes "root")) (fine 1 2) ∷ [])
  pub early_change : NoneShow (changed (changes_to (codes "bob")) [] ∷ [])
  pub changed_by_error : NoneShow (changed (changes_to (codes "bob")) (refusal 1) ∷ [])
  pub kept_over_change : NoneShow (prepared 1 ∷ changed (changes_to (codes "bob")) (fine 1 2) ∷ found ∷ [])
  -- `begin`, `forget`, `ping`: the transaction wasn't rolled back, or twice with a second `ping`; `begin`, `forget`:
  -- it was rolled back at once
  pub not_undone : NoneShow (begun ∷ forgotten ∷ pinged [] [] ∷ [])
  pub undone_twice : NoneShow (begun ∷ forgotten ∷ pinged rolls_back (fine 1 2) ∷ pinged rolls_back (fine 1 2) ∷ [])
  pub undone_early : NoneShow (begun ∷ returned ForgetTransaction rolls_back (fine 1 2) ToldReady ∷ [])
  -- `begin`, `begin`: both began one; `begin`: it is refused, though there is no other one; `begin`, `begin`, `next`:
  -- the refusal closed
  pub begun_twice : NoneShow (begun ∷ begun ∷ [])
  pub never_nested : NoneShow (returned (Begin default_tx) [] [] (ToldError (Driver NestedTransaction)) ∷ [])
  pub closing_refusal : NoneShow (begun ∷ returned (Begin default_tx) [] [] (ToldError (Driver NestedTransaction)) ∷ returned NextRow [] [] (ToldError connection_closed) ∷ [])
  -- `begin`: its queries were sent in another order; ok before the last response
  pub late_level : NoneShow (returned (Begin full_tx) (sets_access ++ starts_fully ++ sets_level) (fine 1 2 ++ fine 1 2 ++ fine 1 2) ToldReady ∷ [])
  pub swapped_texts : NoneShow (returned (Begin full_tx) (sets_access ++ sets_level ++ starts_fully) (fine 1 2 ++ fine 1 2 ++ fine 1 2) ToldReady ∷ [])
  pub early_begin : NoneShow (returned (Begin reading_tx) (sets_access ++ starts) (fine 1 2) ToldReady ∷ [])
  -- `begin`, `rollback`: nothing was sent
  pub silent_rollback : NoneShow (begun ∷ returned Rollback [] [] ToldReady ∷ [])
  -- `begin`, `commit`: ok, though the server refused; it isn't rolled back then; an error before the answer to that,
  -- or the second one in place of the first; it is rolled back though it was committed; nothing was sent
  pub committed_by_error : NoneShow (begun ∷ returned Commit commits (refusal 1) ToldReady ∷ [])
  pub not_rolled_back : NoneShow (begun ∷ returned Commit commits (refusal 1) (ToldError (Server error)) ∷ [])
  pub early_refusal : NoneShow (begun ∷ returned Commit (commits ++ rolls_back) (refusal 1) (ToldError (Server error)) ∷ [])
  pub second_refusal : NoneShow (begun ∷ returned Commit (commits ++ rolls_back) (refusal 1 ++ other_refusal 1) (ToldError (Server other_error)) ∷ [])
  pub undone_commit : NoneShow (begun ∷ returned Commit (commits ++ rolls_back) (fine 1 2 ++ fine 1 2) ToldReady ∷ [])
  pub silent_commit : NoneShow (begun ∷ returned Commit [] [] ToldReady ∷ [])
  -- `query`: another command was sent
  pub other_command : NoneShow (returned (Query (codes "SELECT 1")) (asks (codes "SELECT 2")) head ToldReady ∷ [])
  -- `query`, `query`: the second returned an earlier error, and sent its command
  pub command_after_error : NoneShow (selected
      ∷ returned (Query (codes "SELECT 2")) (asks (codes "SELECT 2")) (refusal 3) (ToldError (Server error)) ∷ [])
  -- `query`: ok before its response
  pub early_ready : NoneShow (returned (Query (codes "SELECT 1")) (asks (codes "SELECT 1")) [] ToldReady ∷ [])
  -- `query`, `drop`: ok, though the set's rest wasn't read
  pub idle_drop : NoneShow (selected ∷ returned DropResult [] (one 3) ToldReady ∷ [])
  -- `query`, `next`: a fault or an end of the link, or a payload that fits no case, where the row is there
  pub late_link_fault : NoneShow (selected ∷ returned NextRow [] (one 3) (ToldError (io_error Link 4)) ∷ [])
  pub late_link_end : NoneShow (selected ∷ returned NextRow [] (one 3) (ToldError (unexpected_eof 4)) ∷ [])
  pub invented_fault : NoneShow (selected ∷ returned NextRow [] (one 3) (ToldError (invalid_data 4)) ∷ [])
  -- `query`, `next`: the server's error is passed over
  pub lost_error : NoneShow (selected ∷ returned NextRow [] (refusal 3) ToldNone ∷ [])
  -- `prep`: a statement with two parameters, where the server said one; `prep`, `prep`: it is prepared again, though
  -- it is cached
  pub other_number : NoneShow (prepared 2 ∷ [])
  pub prepared_again : NoneShow (prepared 1 ∷ prepared 1 ∷ [])
  -- `query`, `fields`: those of an end that was received and not read
  pub unread_fields : NoFields root connected (early ∷ []) (Some (record { affected = 0; insert = 0; status = record { 0 = 2 }; warnings = 1; info = [] }))
