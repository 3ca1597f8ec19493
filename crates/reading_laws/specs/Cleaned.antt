-- How a pool's calls leave a connection.
use Rattle.std.specs.Prelude.{◌≡◌, ℕ, List, [], ◌∷◌, ◌++◌, length, Some, true}
use Rattle.my_opts.specs.ChangeUser.{ChangeView}
use Rattle.my_grammar.specs.declared.login.Login.{Login}
use Rattle.my_reading.specs.declared.call.Call.{Call}
use Rattle.my_reading.specs.declared.call.Call.TheVariants.{Connect, DropResult, ChangeUser, CleanForPool, ResetForPool}
use Rattle.my_reading.specs.declared.transaction.TxStatus.TheVariants.{None}
use Rattle.my_reading.specs.Clean.{IsClean, have_ended, is_read_whole}
use Rattle.my_reading.specs.Course.{Returns, course}
use Rattle.my_reading.specs.Endings.{IsTape}
use Rattle.my_reading.specs.Place.{Place}
use Rattle.my_reading.specs.Reading.{reading}
use Rattle.my_reading.specs.Tape.{Tape, TapeCall}
use Rattle.my_reading.specs.Told.{ToldReady}

-- each response was read whole, and there is no transaction
pub record IsCleanPlace (p : Place) : Type 0 where
  pub read : is_read_whole p ≡ true
  pub status : p.status ≡ None

-- and no statement is cached
pub record IsFreshPlace (p : Place) : Type 0 where
  pub clean : IsCleanPlace p
  pub uncached : p.statements.cache.list ≡ []

-- Where a call that begins at this place returns ready, it leaves one of this property.
abbrev pub Leaves : Login → Call → (Place → Type 0) → Place → Type 0
Leaves login call P p = (course login call p).stop ≡ Returns ToldReady → P (course login call p).place

-- A cleaning for a pool leaves a clean place, whatever was left of a response or of a transaction.
abbrev pub CleaningCleans : Type 0
CleaningCleans = (login : Login) (p : Place) → Leaves login CleanForPool IsCleanPlace p

-- Where there is no transaction, a session that is renewed is a fresh one: for a pool, and by a change of user.
abbrev pub RenewalRefreshes : Type 0
RenewalRefreshes = (login : Login) (p : Place) → p.status ≡ None → Leaves login ResetForPool IsFreshPlace p

abbrev pub ChangeRefreshes : Type 0
ChangeRefreshes = (login : Login) (change : ChangeView) (p : Place) → p.status ≡ None
    → Leaves login (ChangeUser change) IsFreshPlace p

-- Connecting leaves no transaction where there was none, and each response was read whole; so was what a drop leaves.
abbrev pub ConnectingCleans : Type 0
ConnectingCleans = (login : Login) (p : Place) → p.status ≡ None → Leaves login Connect IsCleanPlace p

abbrev pub DroppingReads : Type 0
DroppingReads = (login : Login) (p : Place) → Leaves login DropResult (λ q. is_read_whole q ≡ true) p

-- So a connection is clean where a cleaning that returned ready was its newest call.
abbrev pub CleanedIsClean : Type 0
CleanedIsClean = (login : Login) (t : Tape) (earlier : List TapeCall) (c : TapeCall)
    → IsTape login t → t.calls ≡ earlier ++ c ∷ [] → have_ended earlier ≡ true
    → c.call ≡ CleanForPool → c.ending ≡ Some ToldReady → IsClean login t

-- It is clean where its newest call was a connect call that returned ready.
abbrev pub ConnectedIsClean : Type 0
ConnectedIsClean = (login : Login) (t : Tape) (earlier : List TapeCall) (c : TapeCall)
    → IsTape login t → t.calls ≡ earlier ++ c ∷ []
    → c.call ≡ Connect → c.ending ≡ Some ToldReady → IsClean login t

-- It is clean where the rest of a result was dropped last, which returned ready, and there is no transaction.
abbrev pub DroppedIsClean : Type 0
DroppedIsClean = (login : Login) (t : Tape) (earlier : List TapeCall) (c : TapeCall)
    → IsTape login t → t.calls ≡ earlier ++ c ∷ [] → have_ended earlier ≡ true
    → c.call ≡ DropResult → c.ending ≡ Some ToldReady → (reading login t).place.status ≡ None → IsClean login t

-- A tape has one call more than another, which begins where that one ends.
pub record IsOneMore (s : Tape) (c : TapeCall) (t : Tape) : Type 0 where
  pub calls : t.calls ≡ s.calls ++ c ∷ []
  pub sent_from : c.sent_from ≡ length s.sent
  pub taken_from : c.taken_from ≡ length s.taken
  pub sent : List ℕ
  pub taken : List ℕ
  pub sent_is : t.sent ≡ s.sent ++ sent
  pub taken_is : t.taken ≡ s.taken ++ taken

-- One that was clean is clean after a renewal that returned ready.
abbrev pub RenewedIsClean : Type 0
RenewedIsClean = (login : Login) (s : Tape) (c : TapeCall) (t : Tape)
    → IsTape login t → IsOneMore s c t → IsClean login s
    → c.call ≡ ResetForPool → c.ending ≡ Some ToldReady → IsClean login t
