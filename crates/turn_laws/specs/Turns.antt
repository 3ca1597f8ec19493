-- Polls whose moves are in their turn, and polls whose moves aren't.
use Rattle.std.specs.Prelude.{ℕ, ◌≡◌, List, [], ◌∷◌, ◌++◌, length, Option, Some, None}
use Rattle.my_grammar.specs.declared.login.Login.{Login}
use Rattle.my_link.specs.declared.link.ReadItem.{ReadItem}
use Rattle.my_link.specs.declared.link.ReadItem.TheVariants.{Bytes, Turn}
use Rattle.my_link.specs.Looks.{Looks}
use Rattle.my_link.specs.Met.{nothing_met}
use Rattle.my_link.specs.Moves.{Move, Received, Sent, NoStop, ReadHold, WriteHold, ReadFault, WriteFault, LinkEnd}
use Rattle.my_link.specs.Outside.{no_counts}
use Rattle.my_opts_parts.specs.TransactionOptions.{default_tx}
use Rattle.my_reading.specs.declared.answer.Answer.TheVariants as answers
use Rattle.my_reading.specs.declared.call.Call.TheVariants as calls
use Rattle.my_reading.specs.Course.{Owes, Awaits, Returns}
use Rattle.my_reading.specs.Told.{Told}
use Rattle.my_client.specs.declared.poll.After.TheVariants as after
use Rattle.my_client.specs.declared.tape.DoneCall.{DoneCall}
use Rattle.my_client.specs.declared.tape.Said.TheVariants as says
use Rattle.my_client.specs.Kept.{Asked, Kept, first_asked, first_kept}
use Rattle.my_client.specs.Reads.{stop_kept}
use Rattle.my_client.specs.Polls.{moved_by, AreInTurn, comes_to, IsPolled}
use Rattle.reading_laws.specs.Bytes.{root, greeting, response, fine, starts, rolls_back, pings}

-- a transaction was given up, and a ping begins
abbrev pub sent_first : List ℕ
sent_first = response [] ++ starts

abbrev pub taken_first : List ℕ
taken_first = (greeting ++ fine 2 2) ++ fine 1 2

abbrev pub given_up : List DoneCall
given_up = record { call = calls.Connect; sent_from = 0; taken_from = 0; said = says.Answered answers.Ready }
    ∷ record {
      call = calls.Begin default_tx;
      sent_from = length (response []);
      taken_from = length (greeting ++ fine 2 2);
      said = says.Answered answers.Ready;
    }
    ∷ record {
      call = calls.ForgetTransaction;
      sent_from = length sent_first;
      taken_from = length taken_first;
      said = says.Answered answers.Ready;
    }
    ∷ []

abbrev pub ping_asked : Asked
ping_asked = record { call = calls.Ping; sent_from = length sent_first; taken_from = length taken_first; rows = None }

abbrev pub forgot : Kept
forgot = record { sent = sent_first; taken = taken_first; calls = given_up; pending = Some ping_asked }

-- No poll sends anything before the greeting was read.
abbrev pub NoEarlyLogin : Type 0
NoEarlyLogin = (ms : List Move) (offered : ℕ) (bytes : List ℕ) → AreInTurn root first_kept (ms ++ Sent offered bytes ∷ []) → ⊥

-- No poll sends the ping with the ROLLBACK, whose answer wasn't read.
abbrev pub NoEarlyPing : Type 0
NoEarlyPing = (ms : List Move) (offered : ℕ) → AreInTurn root forgot (ms ++ Sent offered (rolls_back ++ pings) ∷ []) → ⊥

-- The ROLLBACK by itself, its answer, the ping and its answer are in turn, the newest first.
abbrev pub PingInTurn : Type 0
PingInTurn = AreInTurn root forgot
    (Received (fine 1 2) ∷ Sent (length pings) pings ∷ Received (fine 1 2) ∷ Sent (length rolls_back) rolls_back ∷ [])

-- No poll reads or sends anything once the call returns.
abbrev pub NoReadingOn : Type 0
NoReadingOn = (login : Login) (k : Kept) (ms : List Move) (m : Move) (t : Told)
    → stop_kept login (moved_by k ms) ≡ Some (Returns t) → AreInTurn login k (m ∷ ms) → ⊥

-- A read's fault, the link's end and a read that isn't ready stop a poll only where the call awaits bytes, a write's only where it owes
-- some.
abbrev pub NoFaultOutOfTurn : Type 0
NoFaultOutOfTurn = (n place : ℕ) (t : Told) (o : Option Told)
    → (comes_to ReadFault (Some Owes) n place ≡ Some o → ⊥) × (comes_to ReadFault (Some (Returns t)) n place ≡ Some o → ⊥)
    × (comes_to WriteFault (Some Awaits) n place ≡ Some o → ⊥) × (comes_to WriteFault (Some (Returns t)) n place ≡ Some o → ⊥)
    × (comes_to LinkEnd (Some Owes) n place ≡ Some o → ⊥) × (comes_to LinkEnd (Some (Returns t)) n place ≡ Some o → ⊥)
    × (comes_to ReadHold (Some Owes) n place ≡ Some o → ⊥) × (comes_to ReadHold (Some (Returns t)) n place ≡ Some o → ⊥)
    × (comes_to WriteHold (Some Awaits) n place ≡ Some o → ⊥) × (comes_to WriteHold (Some (Returns t)) n place ≡ Some o → ⊥)
    × (comes_to NoStop (Some Owes) n place ≡ Some o → ⊥)

-- A right login is accepted: the greeting is read, the response is sent, which meets the turn, and the link isn't ready then.
abbrev pub planned : List ReadItem → List ℕ → Looks
planned items got = record { items = Some items; writes = Some []; got = Some got; counts = no_counts }

abbrev pub greeted : Kept
greeted = record { sent = response []; taken = greeting; calls = []; pending = Some first_asked }

abbrev pub RightLogin : Type 0
RightLogin = IsPolled root first_asked first_kept (planned (Bytes greeting ∷ Turn ∷ []) [])
    (record nothing_met { holds = 1; taken = length greeting })
    after.Pending greeted (record (planned [] (response [])) { counts = record no_counts { holds = 1 } })
