-- What one poll of a call does.
use Rattle.std.specs.Prelude.{ℕ, ◌≡◌, ◌≤◌, Option, None, true, false, is_some}
use Rattle.my_frame.specs.declared.limits.TheConstants.{MOST_TAKEN}
use Rattle.my_grammar.specs.declared.login.Login.{Login}
use Rattle.my_link.specs.Looks.{Looks}
use Rattle.my_link.specs.Met.{nothing_met}
use Rattle.my_link.specs.declared.met.Met.{Met}
use Rattle.my_reading.specs.declared.answer.Answer.TheVariants as answers
use Rattle.my_reading.specs.declared.call.Call.{Call}
use Rattle.my_reading.specs.declared.call.CallKind.{CallKind}
use Rattle.my_reading.specs.declared.call.CallKind.TheVariants.{ForgetTransaction, Quit}
use Rattle.my_reading.specs.declared.error.Error.TheVariants as errors
use Rattle.my_reading.specs.Errors.{connection_closed}
use Rattle.my_client.specs.declared.poll.After.{After}
use Rattle.my_client.specs.declared.poll.After.TheVariants.{Answered, Failed}
use Rattle.my_client.specs.Kept.{Kept}
use Rattle.my_client.specs.Lives.{Lives, made_in}
use Rattle.my_client.specs.Calls.{AfterFits, Does, PendsBy, pending_after}
use Rattle.my_client.specs.StandsFor.{StandsFor}
use Rattle.my_conn.specs.Conn.{ConnSeen, session_of}

-- a lost connection is closed
abbrev pub lost_answer : CallKind → After
lost_answer ForgetTransaction = Answered answers.Ready
lost_answer Quit = Answered answers.Ready
lost_answer _ = Failed connection_closed

-- One poll of a call, at this moment. For all that the connection may have done before there is what it did then: the
-- same, and this poll. A connection that runs out of memory is lost, and keeps no tape.
pub record CallIs {L : Type 0} (look : L → Looks) (now : ℕ) (c : CallKind) (call : Option Call) (old new : ConnSeen L) (m : Met)
    (after : After) : Type 0 where
  pub each : old.lost ≡ false → new.lost ≡ false → (login : Login) (k : Kept)
      → StandsFor login old.seen old.tape old.pending k
      → (end : Kept) × StandsFor login new.seen new.tape new.pending end
      × Does login call (look old.link) (look new.link) k end m after
  pub loses : old.lost ≡ false → new.lost ≡ true → (after ≡ Failed errors.NoMemory) × (new.tape ≡ None)
  pub lost : old.lost ≡ true → (new ≡ old) × (after ≡ lost_answer c)
  -- where the connection is lost, it met nothing
  pub unmet : new.lost ≡ true → m ≡ nothing_met
  -- the moment of the last whole payload
  pub lives : old.lost ≡ false → new.lost ≡ false → Lives now m.taken (session_of old) (session_of new)
  -- what the session was made with, also where the connection is lost
  pub made : made_in (session_of new) ≡ made_in (session_of old)
  -- where a tape was kept it is kept
  pub keeps : new.lost ≡ false → is_some new.tape ≡ is_some old.tape
  pub fixed : new.fixed ≡ old.fixed
  pub pending : new.pending ≡ pending_after c after
  pub fits : AfterFits c after
  pub pends : PendsBy after (look old.link) (look new.link) m
  pub within : m.taken ≤ MOST_TAKEN
