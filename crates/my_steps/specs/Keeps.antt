-- What holds of all connections' numbers between the steps.
use Rattle.std.specs.Prelude.{ℕ, ◌≡◌, suc, List, [], ◌∷◌, Option, Some, None, is_some, true, false}
use Rattle.my_grammar.specs.declared.login.Login.{Login}
use Rattle.my_reading.specs.Calls.{kind_of, is_connect}
use Rattle.my_reading.specs.declared.call.CallKind.{CallKind}
use Rattle.my_steps.specs.declared.slot.Slot.{Slot}
use Rattle.my_steps.specs.declared.slot.Slot.TheVariants.{Gone, Held, Connecting, There, Gathering, Ended}
use Rattle.my_client.specs.Conn.{kept_in}
use Rattle.my_client.specs.Kept.{Asked}
use Rattle.my_client.specs.Makes.{ConnectsFor}
use Rattle.my_client.specs.Reads.{IsRead}
use Rattle.my_client.specs.Stands.{Rests}
use Rattle.my_client.specs.StandsFor.{StandsFor}
use Rattle.my_client.specs.declared.texts.Making.TheVariants.{Shakes}
use Rattle.my_conn.specs.Conn.{ConnSeen}
use Rattle.my_conn.specs.Connects.{ConnectSeen}
use Rattle.my_link.specs.World.{Plans, SameFrom, SameLink}
use Rattle.my_steps.specs.Slot.{kept_of, kept_some}

-- on its tape an open call has no rows; it isn't the handshake
abbrev pub IsPlain : Option Asked → Type 0
IsPlain None = Unit {0}
IsPlain (Some a) = (a.rows ≡ None) × (is_connect (kind_of a.call) ≡ false)

-- A connection that isn't lost, and keeps a tape: its session stands where the reading of the tape does, and its open call
-- waits for its link.
pub record StandsBy {L : Type 0} (login : Login) (c : ConnSeen L) : Type 0 where
  pub alive : c.lost ≡ false
  pub taped : is_some c.tape ≡ true
  pub stands : StandsFor login c.seen c.tape c.pending (kept_of c)
  pub plain : IsPlain (kept_of c).pending

-- a connection whose handshake is open as this call, and which keeps a tape
pub record ShakesBy {L : Type 0} (login : Login) (c : ConnectSeen L) (a : Asked) : Type 0 where
  pub at : c.at ≡ Shakes
  pub taped : is_some c.tape ≡ true
  pub connects : ConnectsFor login c.seen c.tape (kept_some c.tape) a

-- between two polls
pub record ConnectsBy {L : Type 0} (login : Login) (c : ConnectSeen L) : Type 0 where
  pub asked : Asked
  pub shakes : ShakesBy login c asked
  pub rests : Rests login c.seen (kept_some c.tape)

-- a connection with an open call, which gathers rows
pub record GathersBy {L : Type 0} (login : Login) (c : ConnSeen L) : Type 0 where
  pub stands : StandsBy login c
  pub kind : CallKind
  pub pending : c.pending ≡ Some kind

abbrev pub IsStood : {L : Type 0} → Login → Slot L → Type 0
IsStood login Gone = Unit {0}
IsStood login Held = Unit {0}
IsStood login (Connecting c) = ConnectsBy login c
IsStood login (There c) = StandsBy login c
IsStood login (Gathering c rows) = GathersBy login c
IsStood login (Ended t l) = IsRead login (kept_in t)

abbrev pub AreStood : {L : Type 0} → Login → List (Slot L) → Type 0
AreStood login [] = Unit {0}
AreStood login (s ∷ ss) = IsStood login s × AreStood login ss

-- the plan of a link that is still to be dialed is the one that was told
abbrev pub IsAwaited : {L : Type 0} → Plans → Plans → ℕ → Slot L → Type 0
IsAwaited plans now n Gone = Unit {0}
IsAwaited plans now n Held = SameLink plans now n
IsAwaited plans now n (Connecting c) = Unit {0}
IsAwaited plans now n (There c) = Unit {0}
IsAwaited plans now n (Gathering c rows) = Unit {0}
IsAwaited plans now n (Ended t l) = Unit {0}

-- from this number on, those among them which no step took yet
abbrev pub AreAwaited : {L : Type 0} → Plans → Plans → ℕ → List (Slot L) → Type 0
AreAwaited plans now n [] = SameFrom n plans now
AreAwaited plans now n (s ∷ ss) = IsAwaited plans now n s × AreAwaited plans now (suc n) ss
