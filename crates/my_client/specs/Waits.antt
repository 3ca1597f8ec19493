-- What a call that waits does to a line, and a handshake that does.
use Rattle.std.specs.Prelude.{ℕ, ◌≡◌, ◌+◌, ◌<◌, ◌≤◌, ◌⊎◌, List, length, Option, Some, None, true, false}
use Rattle.std.specs.declared.result.Result.{Result}
use Rattle.std.specs.declared.result.Result.TheVariants.{Ok, Err}
use Rattle.my_frame.specs.declared.limits.TheConstants.{MOST_TAKEN}
use Rattle.my_grammar.specs.declared.login.Login.{Login}
use Rattle.my_link.specs.Looks.{Looks}
use Rattle.my_link.specs.Moves.{Leads, Move, Stop, StopsAt, received_by}
use Rattle.my_reading.specs.declared.answer.Answer.{Answer}
use Rattle.my_reading.specs.declared.answer.Answer.TheVariants.{Ready}
use Rattle.my_reading.specs.declared.call.Call.{Call}
use Rattle.my_reading.specs.declared.call.Call.TheVariants.{Connect}
use Rattle.my_reading.specs.declared.call.CallKind.{CallKind}
use Rattle.my_reading.specs.declared.error.DriverError.TheVariants.{TooLong}
use Rattle.my_reading.specs.declared.error.Error.{Error}
use Rattle.my_reading.specs.declared.error.Error.TheVariants as errors
use Rattle.my_reading.specs.Calls.{kind_of, is_unrefused}
use Rattle.my_reading.specs.Errors.{connection_closed}
use Rattle.my_reading.specs.Told.{Told, ToldError, told}
use Rattle.my_session.specs.Fits.{may_be}
use Rattle.my_client.specs.Made.{has_closed}
use Rattle.my_client.specs.declared.tape.Said.{Said}
use Rattle.my_client.specs.declared.tape.Said.TheVariants as says
use Rattle.my_client.specs.declared.tape.Tape.{Tape}
use Rattle.my_client.specs.Kept.{Kept, asked_by, asking, ended_by, made_of, nothing_kept}
use Rattle.my_session.specs.View.{View}
use Rattle.my_client.specs.Lives.{Lives}
use Rattle.my_client.specs.Polls.{AreInTurn, comes_at, moved_by}
use Rattle.my_client.specs.declared.handshake.TheConstants.{TOO_LONG}
use Rattle.my_client.specs.StandsFor.{StandsFor}

-- what a call returned
abbrev pub told_in : Result Answer Error → Told
told_in (Ok answer) = told answer
told_in (Err e) = ToldError e

abbrev pub said_in : Result Answer Error → Said
said_in (Ok answer) = says.Answered answer
said_in (Err e) = says.Failed e

-- an answer is one of the call's kind
abbrev pub ResultFits : CallKind → Result Answer Error → Type 0
ResultFits c (Ok answer) = may_be c (told answer) ≡ true
ResultFits c (Err e) = Unit {0}

-- After `k` this call began, and the link did these moves, each in its turn by the reading. They received `n` bytes.
-- Then the link stopped so, and the call returned what that says: an answer or error of the reading, or the link's
-- error.
pub record Driven (login : Login) (call : Call) (x y : Looks) (k : Kept) (n : ℕ) (r : Result Answer Error) (end : Kept)
    : Type 0 where
  pub moves : List Move
  pub stop : Stop
  pub moved : Looks
  pub leads : Leads moves x moved
  pub stops : StopsAt stop moved y
  pub turns : AreInTurn login (asking k call None) moves
  pub count : n ≡ length (received_by moves)
  pub comes : comes_at login (moved_by (asking k call None) moves) stop n ≡ Some (Some (told_in r))
  pub fits : ResultFits (kind_of call) r
  pub end_is : end ≡ ended_by (moved_by (asking k call None) moves) (asked_by k call) (said_in r)

-- a closed connection refuses each call that has something to do there
pub record DriveRefused (call : Call) (x y : Looks) (k : Kept) (n : ℕ) (r : Result Answer Error) (end : Kept) : Type 0 where
  pub closed : has_closed (made_of k.calls) ≡ true
  pub other : is_unrefused (kind_of call) ≡ false
  pub result_is : r ≡ Err connection_closed
  pub end_is : end ≡ ended_by (asking k call None) (asked_by k call) (says.Failed connection_closed)
  pub link_is : y ≡ x
  pub none : n ≡ 0

-- So far, over a link that was ready: after `k` this call began, and the link did these moves, each in its turn. They
-- received `n` bytes.
pub record Goes (login : Login) (call : Call) (x y : Looks) (k f : Kept) (n : ℕ) : Type 0 where
  pub moves : List Move
  pub leads : Leads moves x y
  pub turns : AreInTurn login (asking k call None) moves
  pub kept_is : f ≡ moved_by (asking k call None) moves
  pub count : n ≡ length (received_by moves)

-- the handshake, and nothing else, was done over the link, at this moment
pub record IsShaken (login : Login) (now : ℕ) (x y : Looks) (u v : View) (t : Option Tape) : Type 0 where
  pub end : Kept
  pub count : ℕ
  -- a handshake that received 2^40 bytes is polled no more, and one poll receives at most MOST_TAKEN
  pub bound : count < TOO_LONG + MOST_TAKEN
  pub stands : StandsFor login v.seen t None end
  pub driven : Driven login Connect x y nothing_kept count (Ok Ready) end
  pub lives : Lives now count u v

-- at least 2^40 bytes were received in the handshake without an answer
pub record IsTooLongFor (login : Login) (x y : Looks) : Type 0 where
  pub count : ℕ
  pub following : Kept
  pub goes : Goes login Connect x y nothing_kept following count
  pub long : TOO_LONG ≤ count
  -- it was given up no later
  pub bound : count < TOO_LONG + MOST_TAKEN

-- the handshake failed, with its cause
pub record IsUnshaken (login : Login) (x y : Looks) (e : Error) : Type 0 where
  pub end : Kept
  pub count : ℕ
  -- it was polled no more once 2^40 bytes were received
  pub bound : count < TOO_LONG + MOST_TAKEN
  pub driven : Driven login Connect x y nothing_kept count (Err e) end

-- Why no connection was made. Out of memory, nothing is said of the link.
abbrev pub WhyUnmade : Login → Looks → Looks → Error → Type 0
WhyUnmade login x y e = (e ≡ errors.NoMemory)
    ⊎ (((e ≡ errors.Driver TooLong) × IsTooLongFor login x y) ⊎ IsUnshaken login x y e)

-- what shaking hands returns
abbrev pub ShakesTo : Login → ℕ → Looks → Looks → View → View → Option Tape → Result (Unit {0}) Error → Type 0
ShakesTo login now x y u v t (Ok done) = IsShaken login now x y u v t
ShakesTo login now x y u v t (Err e) = WhyUnmade login x y e
