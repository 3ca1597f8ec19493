-- What polls keep is what the reading of the tape says: each byte that was sent is one of the exchanges.
use Rattle.std.specs.Prelude.{◌≡◌, List, length, Option, Some, None, Bool, true}
use Rattle.my_value.specs.RowParts.{RowParts}
use Rattle.my_grammar.specs.declared.login.Login.{Login}
use Rattle.my_link.specs.declared.met.Met.{Met}
use Rattle.my_link.specs.Looks.{Looks}
use Rattle.my_reading.specs.declared.call.Call.{Call}
use Rattle.my_reading.specs.Endings.{closes_cancelled}
use Rattle.my_reading.specs.Calls.{kind_of}
use Rattle.my_reading.specs.Place.{Place}
use Rattle.my_client.specs.declared.poll.After.{After}
use Rattle.my_client.specs.declared.tape.Said.TheVariants.{Cancelled}
use Rattle.my_client.specs.Kept.{Asked, Kept, asking, ended_by, nothing_kept}
use Rattle.my_client.specs.Reads.{EndedRead, IsRead, IsWaiting, place_kept}
use Rattle.my_client.specs.Polls.{IsPolled}
use Rattle.my_session.specs.Sessions.{Seen}
use Rattle.my_client.specs.Stands.{IsSaid, Stands}

-- The calls that ended are as the reading says. No call is open, and each byte that was sent is one of the exchanges.
pub record IsRest (login : Login) (k : Kept) : Type 0 where
  pub closed : Bool
  pub place : Place
  pub ended : EndedRead login k (length k.sent) (length k.taken) closed place
  pub said : IsSaid place

-- The same where a call is open, which did nothing on a closed connection.
pub record IsSoFar (login : Login) (k : Kept) (a : Asked) : Type 0 where
  pub closed : Bool
  pub before : Place
  pub ended : EndedRead login k a.sent_from a.taken_from closed before
  pub said : IsSaid (place_kept login k)
  pub quiet : closed ≡ true → (a.sent_from ≡ length k.sent) × (a.taken_from ≡ length k.taken)

abbrev pub IsExplainedBy : Login → Kept → Option Asked → Type 0
IsExplainedBy login k None = IsRest login k
IsExplainedBy login k (Some a) = IsSoFar login k a

abbrev pub IsExplained : Login → Kept → Type 0
IsExplained login k = IsExplainedBy login k k.pending

-- Before the first call it is so, and it stays so as a call begins, with each poll, and as a call is cancelled that waits for its link.
abbrev pub NothingIsExplained : Type 0
NothingIsExplained = (login : Login) → IsExplained login nothing_kept

abbrev pub BegunIsExplained : Type 0
BegunIsExplained = (login : Login) (k : Kept) (call : Call) (rows : Option (List RowParts)) → k.pending ≡ None → IsExplained login k
    → IsExplained login (asking k call rows)

abbrev pub PolledIsExplained : Type 0
PolledIsExplained = (login : Login) (a : Asked) (k : Kept) (x y : Looks) (u : Met) (after : After) (end : Kept)
    → k.pending ≡ Some a → IsExplained login k → IsPolled login a k x u after end y → IsExplained login end

abbrev pub CancelledIsExplained : Type 0
CancelledIsExplained = (login : Login) (a : Asked) (k : Kept) → k.pending ≡ Some a → IsExplained login k → IsWaiting login k
    → IsExplained login (ended_by k a (Cancelled (closes_cancelled (kind_of a.call) (place_kept login k))))

-- It says that each call ended, or is open, exactly as the reading of the tape says, where no call is open or the open one waits.
abbrev pub RestIsRead : Type 0
RestIsRead = (login : Login) (k : Kept) → k.pending ≡ None → IsExplained login k → IsRead login k

abbrev pub WaitingIsRead : Type 0
WaitingIsRead = (login : Login) (a : Asked) (k : Kept) → k.pending ≡ Some a → IsExplained login k → IsWaiting login k
    → IsRead login k

-- Where a session stands for what was kept, it is so.
abbrev pub StandsIsExplained : Type 0
StandsIsExplained = (login : Login) (s : Seen) (k : Kept) → Stands login s k → IsExplained login k
