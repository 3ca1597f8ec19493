-- What a poll returns is decided by its moves, by what stopped it at the link, and by the reading.
use Rattle.std.specs.Prelude.{ℕ, ◌≡◌, ◌≤◌, ◌⊎◌, List, Some}
use Rattle.my_frame.specs.declared.limits.TheConstants.{MOST_TAKEN}
use Rattle.my_grammar.specs.declared.login.Login.{Login}
use Rattle.my_link.specs.declared.met.Met.{Met}
use Rattle.my_link.specs.Looks.{Looks}
use Rattle.my_link.specs.Moves.{Stop as LinkStop, NoStop, ReadHold, WriteHold, ReadFault, WriteFault, LinkEnd}
use Rattle.my_reading.specs.declared.call.Call.{Call}
use Rattle.my_reading.specs.declared.error.DriverError.{DriverError}
use Rattle.my_reading.specs.declared.error.DriverError.TheVariants.{ConnectionClosed}
use Rattle.my_reading.specs.declared.error.Error.{Error}
use Rattle.my_reading.specs.declared.error.Error.TheVariants as errors
use Rattle.my_reading.specs.declared.error.IoError.{IoError}
use Rattle.my_reading.specs.declared.error.IoError.TheVariants as ios
use Rattle.my_reading.specs.declared.error.IoKind.{IoKind}
use Rattle.my_reading.specs.declared.error.IoKind.TheVariants as kinds
use Rattle.my_reading.specs.Course.{Part, Owes, Awaits, Returns, Stops, step}
use Rattle.my_reading.specs.Errors.{io_error, unexpected_eof}
use Rattle.my_reading.specs.Place.{Place}
use Rattle.my_reading.specs.Told.{Told, ToldError, ToldPassed, Dropped, told}
use Rattle.my_session.specs.Fits.{OwnDriver}
use Rattle.my_client.specs.declared.poll.After.{After}
use Rattle.my_client.specs.declared.poll.After.TheVariants.{Pending, Answered, Failed}
use Rattle.my_client.specs.Kept.{Asked, Kept}
use Rattle.my_client.specs.Reads.{ComesTo, facts_kept, stop_kept}
use Rattle.my_client.specs.Polls.{comes_at, moved_by, told_of, IsPolled}

-- Two polls with the same moves that stopped alike met the same, returned the same, and it is kept alike.
abbrev pub EachIsDecided : Type 0
EachIsDecided = (login : Login) (a : Asked) (k : Kept) (x y z w : Looks) (u v : Met) (p q : After) (e f : Kept)
    (one : IsPolled login a k x u p e y) (other : IsPolled login a k z v q f w) → one.moves ≡ other.moves → one.stop ≡ other.stop
    → (u ≡ v) × (p ≡ q) × (e ≡ f)

-- Where the call returns by its bytes, the link stopped nothing, and the poll returned that.
abbrev pub EachIsReturned : Type 0
EachIsReturned = (login : Login) (a : Asked) (k : Kept) (x y : Looks) (u : Met) (after : After) (e : Kept)
    (w : IsPolled login a k x u after e y) (t : Told)
    → ComesTo login (moved_by k w.moves) t → (w.stop ≡ NoStop) × (told_of after ≡ Some t)

-- why a poll returned what it did: of the reading with the bytes of its moves, by what stopped it, and how many bytes it received
abbrev pub IsPending : Login → Kept → LinkStop → ℕ → Type 0
IsPending login k ReadHold n = stop_kept login k ≡ Some Awaits
IsPending login k WriteHold n = stop_kept login k ≡ Some Owes
IsPending login k NoStop n = (stop_kept login k ≡ Some Awaits) × (MOST_TAKEN ≤ n)
IsPending login k stop n = ⊥

abbrev pub IsFailed : Login → Kept → LinkStop → Error → Type 0
IsFailed login k NoStop e = ComesTo login k (ToldError e)
IsFailed login k ReadFault e = (stop_kept login k ≡ Some Awaits) × (e ≡ io_error kinds.Link (facts_kept login k).place)
IsFailed login k WriteFault e = (stop_kept login k ≡ Some Owes) × (e ≡ io_error kinds.Link (facts_kept login k).place)
IsFailed login k LinkEnd e = (stop_kept login k ≡ Some Awaits) × (e ≡ unexpected_eof (facts_kept login k).place)
IsFailed login k stop e = ⊥

abbrev pub IsBecause : Login → Kept → LinkStop → ℕ → After → Type 0
IsBecause login k stop n Pending = IsPending login k stop n
IsBecause login k stop n (Answered answer) = (stop ≡ NoStop) × ComesTo login k (told answer)
IsBecause login k stop n (Failed e) = IsFailed login k stop e

-- Each poll has its cause, and where it has one that is what it returns.
abbrev pub EachHasCause : Type 0
EachHasCause = (login : Login) (k : Kept) (stop : LinkStop) (n : ℕ) (after : After)
    → (comes_at login k stop n ≡ Some (told_of after) → IsBecause login k stop n after)
    × (IsBecause login k stop n after → comes_at login k stop n ≡ Some (told_of after))

-- which errors the reading may return: a server's, a payload that fits no case or can't be cut, a text, values or a transaction that the
-- driver refuses, and any call but two on a closed connection
abbrev pub IsReadDriver : DriverError → Type 0
IsReadDriver e = OwnDriver e ⊎ (e ≡ ConnectionClosed)

abbrev pub IsReadKind : IoKind → Type 0
IsReadKind kinds.InvalidData = Unit {0}
IsReadKind kind = ⊥

abbrev pub IsReadIo : IoError → Type 0
IsReadIo (ios.Io fault) = IsReadKind fault.kind
IsReadIo (ios.Codec fault) = Unit {0}

abbrev pub IsReadError : Error → Type 0
IsReadError (errors.Driver e) = IsReadDriver e
IsReadError (errors.Io e) = IsReadIo e
IsReadError (errors.Server e) = Unit {0}
IsReadError (errors.Url e) = ⊥
IsReadError (errors.Other e) = ⊥
IsReadError errors.NoMemory = ⊥

abbrev pub IsReadTold : Told → Type 0
IsReadTold (ToldError e) = IsReadError e
IsReadTold (ToldPassed e) = ⊥
IsReadTold (Dropped closing) = ⊥
IsReadTold t = Unit {0}

-- Each step that returns returns one of them, and so does the newest call of what was kept.
abbrev pub EachStepReturns : Type 0
EachStepReturns = (login : Login) (call : Call) (parts : List Part) (p q : Place) (t : Told)
    → step login call parts p ≡ Stops q (Returns t) → IsReadTold t

abbrev pub EachCallReturns : Type 0
EachCallReturns = (login : Login) (k : Kept) (t : Told) → ComesTo login k t → IsReadTold t

-- What the reading returns is what some poll returns.
abbrev pub EachIsAnswer : Type 0
EachIsAnswer = (login : Login) (k : Kept) (t : Told) → ComesTo login k t → (after : After) × (told_of after ≡ Some t)

-- which errors a poll may return: those of the reading, a link's fault and a link's end
abbrev pub IsPollKind : IoKind → Type 0
IsPollKind kinds.Dial = ⊥
IsPollKind kind = Unit {0}

abbrev pub IsPollIo : IoError → Type 0
IsPollIo (ios.Io fault) = IsPollKind fault.kind
IsPollIo (ios.Codec fault) = Unit {0}

abbrev pub IsPollError : Error → Type 0
IsPollError (errors.Io e) = IsPollIo e
IsPollError e = IsReadError e

abbrev pub EachErrorIsOwn : Type 0
EachErrorIsOwn = (login : Login) (a : Asked) (k : Kept) (x y : Looks) (u : Met) (e : Error) (end : Kept)
    → IsPolled login a k x u (Failed e) end y → IsPollError e
