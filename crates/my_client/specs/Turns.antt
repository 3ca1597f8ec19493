-- What a turn of a poll, and a poll, do to whatever a connection may have done before.
use Rattle.std.specs.Prelude.{ℕ, ◌≡◌, ◌≢◌, ◌+◌, List, length, Option, Some}
use Rattle.my_frame.specs.declared.limits.TheConstants.{MOST_TAKEN}
use Rattle.my_grammar.specs.declared.login.Login.{Login}
use Rattle.my_link.specs.declared.met.Met.{Met}
use Rattle.my_link.specs.Looks.{Looks}
use Rattle.my_link.specs.Moves.{Move, Moves, Received, Sent, Leads, Stop as LinkStop, NoStop, ReadHold, WriteHold, ReadFault, WriteFault, LinkEnd, StopsAt}
use Rattle.my_reading.specs.declared.error.Error.{Error}
use Rattle.my_reading.specs.declared.error.Error.TheVariants.{NoMemory}
use Rattle.my_session.specs.declared.answer.SessionStep.TheVariants.{Fault}
use Rattle.my_session.specs.declared.opened.Opened.{Opened}
use Rattle.my_session.specs.Sessions.{Seen, IsStep}
use Rattle.my_client.specs.declared.poll.After.{After}
use Rattle.my_client.specs.declared.poll.After.TheVariants.{Pending}
use Rattle.my_client.specs.Ends.{kept_after}
use Rattle.my_client.specs.Kept.{Asked, Kept}
use Rattle.my_client.specs.Notes.{Agrees, with_sent, with_taken}
use Rattle.my_client.specs.declared.tape.Tape.{Tape}
use Rattle.my_client.specs.declared.poll.Halt.{Halt}
use Rattle.my_client.specs.declared.poll.Halt.TheVariants as halts
use Rattle.my_client.specs.declared.poll.Turn.{Turn}
use Rattle.my_client.specs.declared.poll.Turn.TheVariants as turns
use Rattle.my_client.specs.Polls.{AreInTurn, IsInTurn, comes_at, met_in, moved_by, told_of}
use Rattle.my_client.specs.Stands.{Stands, StandsAsked, Waits}

-- what stopped a poll, as the link has it
abbrev pub stop_at : Halt → LinkStop
stop_at halts.Ready = NoStop
stop_at halts.ReadHeld = ReadHold
stop_at halts.WriteHeld = WriteHold
stop_at halts.ReadFailed = ReadFault
stop_at halts.WriteFailed = WriteFault
stop_at halts.Ended = LinkEnd

-- a session's next step was this error, and no lack of memory
pub record FailsNow (s t : Seen) (e : Error) : Type 0 where
  pub some : e ≢ NoMemory
  pub step : (o : Opened) → s.opened ≡ Some o → IsStep o s t (Fault e)

-- bytes moved, and the notes have them; where the session stood for what was kept so, they moved in turn, and it stands for what is
-- kept now
pub record SentFor (stands : Login → Seen → Kept → Asked → Type 0) (notes : Kept → Type 0) (s t : Seen) (x y : Looks) (k : Kept) : Type 0 where
  pub offered : ℕ
  pub bytes : List ℕ
  pub moves : Moves (Sent offered bytes) x y
  pub noted : notes (with_sent k bytes)
  pub turn : (login : Login) (a : Asked) → stands login s k a → IsInTurn login k (Sent offered bytes)
  pub rests : (login : Login) (a : Asked) → stands login s k a → StandsAsked login t (with_sent k bytes) a

pub record TookFor (stands : Login → Seen → Kept → Asked → Type 0) (notes : Kept → Type 0) (s t : Seen) (x y : Looks) (k : Kept) (n : ℕ) : Type 0 where
  pub bytes : List ℕ
  pub count : length bytes ≡ n
  pub moves : Moves (Received bytes) x y
  pub noted : notes (with_taken k bytes)
  pub turn : (login : Login) (a : Asked) → stands login s k a → IsInTurn login k (Received bytes)
  pub rests : (login : Login) (a : Asked) → stands login s k a → StandsAsked login t (with_taken k bytes) a

-- where the call is still open it waits for its link
abbrev pub WaitsBy : Login → Seen → Kept → Asked → After → Type 0
WaitsBy login t k a Pending = Waits login t k a
WaitsBy login t k a after = Unit {0}

-- what the poll returned, where it had received n bytes, and room for more was left
pub record Over (login : Login) (t : Seen) (k : Kept) (a : Asked) (room : ℕ) (stop : LinkStop) (after : After) : Type 0 where
  pub comes : (n : ℕ) → n + room ≡ MOST_TAKEN → comes_at login k stop n ≡ Some (told_of after)
  pub stands : Stands login t (kept_after k a after)
  pub waits : WaitsBy login t k a after

pub record OverFor (stands : Login → Seen → Kept → Asked → Type 0) (notes : Kept → Type 0) (s t : Seen) (x y : Looks) (k : Kept) (room : ℕ) (stop : LinkStop) (after : After) : Type 0 where
  pub stops : StopsAt stop x y
  pub noted : notes k
  pub rests : (login : Login) (a : Asked) → stands login s k a → Over login t k a room stop after

abbrev pub TurnFor : (Login → Seen → Kept → Asked → Type 0) → (Kept → Type 0) → Seen → Seen → Looks → Looks → Kept → ℕ → Turn → Type 0
TurnFor stands notes s t x y k room turns.Sent = SentFor stands notes s t x y k
TurnFor stands notes s t x y k room (turns.Took n) = TookFor stands notes s t x y k n
TurnFor stands notes s t x y k room (turns.Over halt after) = OverFor stands notes s t x y k room (stop_at halt) after

-- how many bytes it received
abbrev pub took_by : Turn → ℕ
took_by (turns.Took n) = n
took_by turn = 0

-- for each kept thing with which the tape agreed
abbrev pub EachTurn : (Login → Seen → Kept → Asked → Type 0) → Seen → Seen → Looks → Looks → Option Tape → Option Tape → ℕ → Turn → Type 0
EachTurn stands s t x y p q room turn = (k : Kept) → Agrees p k → TurnFor stands (Agrees q) s t x y k room turn

-- Where the session stood for what was kept: each move was in turn, the poll returned what the reading says, and the session stands for
-- what is kept then.
pub record PollRests (login : Login) (t : Seen) (k : Kept) (a : Asked) (moves : List Move) (stop : LinkStop) (m : Met) (after : After) : Type 0 where
  pub turns : AreInTurn login k moves
  pub comes : comes_at login (moved_by k moves) stop m.taken ≡ Some (told_of after)
  pub stands : Stands login t (kept_after (moved_by k moves) a after)
  pub waits : WaitsBy login t (moved_by k moves) a after

-- What a poll did: the moves of its link, which the notes have, and what stopped it there.
pub record PollFor (notes : Kept → Type 0) (s t : Seen) (x y : Looks) (k : Kept) (m : Met) (after : After) : Type 0 where
  pub moves : List Move
  pub stop : LinkStop
  pub moved : Looks
  pub leads : Leads moves x moved
  pub stops : StopsAt stop moved y
  pub met : m ≡ met_in moves stop
  pub noted : notes (moved_by k moves)
  pub rests : (login : Login) (a : Asked) → StandsAsked login s k a → PollRests login t k a moves stop m after

abbrev pub EachPoll : Seen → Seen → Looks → Looks → Option Tape → Option Tape → Met → After → Type 0
EachPoll s t x y p q m after = (k : Kept) → Agrees p k → PollFor (Agrees q) s t x y k m after
