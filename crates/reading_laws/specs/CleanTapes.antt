-- Tapes after which a connection is clean, and others.
use Rattle.std.specs.Prelude.{ℕ, List, [], ◌∷◌, ◌++◌, codes, length, Some, None}
use Rattle.my_reading.specs.declared.call.Call.TheVariants.{DropResult, CleanForPool, ResetForPool, Quit}
use Rattle.my_reading.specs.Clean.{IsClean}
use Rattle.my_reading.specs.Tape.{Tape, TapeCall, Span}
use Rattle.my_reading.specs.Told.{ToldReady}
use Rattle.reading_laws.specs.Bytes.{root, connected, selected, begun, forgotten, rolled_back, cleaned, renewed, asked, returned, call_with, resets, rolls_back, one, end, fine, refusal, packet, tape_of}
use Rattle.reading_laws.specs.Cleaned.{IsOneMore}

-- after these calls the connection of a client that logs in as root is clean
abbrev pub IsCleanAfter : List Span → Type 0
IsCleanAfter ss = IsClean root (tape_of ss)

-- a new connection, and the same with its session renewed
abbrev pub fresh : Tape
fresh = tape_of (connected ∷ [])

abbrev pub fresh_anew : Tape
fresh_anew = tape_of (connected ∷ renewed resets (fine 1 2) ∷ [])

-- a renewal that began after this number of bytes
abbrev pub renewal : ℕ → ℕ → TapeCall
renewal sent taken = record { call = ResetForPool; sent_from = sent; taken_from = taken; ending = Some ToldReady }

pub record AreClean : Type 0 where
  -- a connection that was made, and one whose pool has cleaned it: from a row, from an ERR, from a transaction
  pub made : IsCleanAfter (connected ∷ [])
  pub read : IsCleanAfter (connected ∷ selected ∷ cleaned [] (one 3 ++ end 4) ∷ [])
  pub error_dropped : IsCleanAfter (connected ∷ selected ∷ cleaned [] (refusal 3) ∷ [])
  pub undone : IsCleanAfter (connected ∷ begun ∷ selected ∷ cleaned rolls_back (one 3 ++ end 4 ++ fine 1 2) ∷ [])
  -- one whose transaction was rolled back by a call
  pub back : IsCleanAfter (connected ∷ begun ∷ rolled_back ∷ [])
  -- one whose result was dropped, and one whose pool has renewed its session
  pub dropped : IsCleanAfter (connected ∷ selected ∷ returned DropResult [] (one 3 ++ end 4) ToldReady ∷ [])
  pub anew : IsCleanAfter (connected ∷ renewed resets (fine 1 2) ∷ [])
  -- the renewal is one call more, which begins where the connect call ends
  pub one_more : IsOneMore fresh (renewal (length fresh.sent) (length fresh.taken)) fresh_anew

pub record AreUnclean : Type 0 where
  -- a call is open, though all was read
  pub call_open : IsCleanAfter (connected ∷ selected ∷ call_with CleanForPool [] (one 3 ++ end 4) None ∷ []) → ⊥
  -- rows aren't read, nor is the end of a lone OK returned
  pub unread : IsCleanAfter (connected ∷ selected ∷ []) → ⊥
  pub end_left : IsCleanAfter (connected ∷ asked (codes "DO 1") (fine 1 2) ∷ []) → ⊥
  -- a transaction is open; or it was given up, and isn't rolled back
  pub in_transaction : IsCleanAfter (connected ∷ begun ∷ []) → ⊥
  pub given_up : IsCleanAfter (connected ∷ begun ∷ forgotten ∷ []) → ⊥
  -- a result was dropped, and a transaction is open
  pub dropped_inside : IsCleanAfter (connected ∷ begun ∷ selected ∷ returned DropResult [] (one 3 ++ end 4) ToldReady ∷ []) → ⊥
  -- one call more, but it began before the earlier one ended
  pub too_early : IsOneMore fresh (renewal 0 0) fresh_anew → ⊥
  -- the connection is closed
  pub closed : IsCleanAfter (connected ∷ returned Quit (packet 0 (1 ∷ [])) [] ToldReady ∷ []) → ⊥
