-- Where the program stands in the reading of a connection, beside the bytes that were sent.
use Rattle.std.specs.Prelude.{◌≡◌, ◌≤◌, ℕ, ◌+◌, ◌-◌, List, [], ◌++◌, drop, length, min, take, true}
use Rattle.std.specs.Bool.{Decides}
use Rattle.my_grammar.specs.declared.login.Login.{Login}
use Rattle.my_grammar.specs.Talk.{Fits, login_in}
use Rattle.my_reading.specs.Place.{Place, client_side, exchanges}
use Rattle.my_machine.specs.Stands.{IsArranged, stand_of, with_bytes as with_more, with_owed}
use Rattle.my_judge.specs.declared.stand.Stand.{Stand}

-- The program is at this place. By then the exchanges have said `told` of what was sent, as far as it is right, and the machine owes the rest.
pub record IsAt (login : Login) (p : Place) (s : Stand) : Type 0 where
  pub told : List ℕ
  pub machine_is : s.machine ≡ stand_of login p s.machine.arranged s.machine.owed
  pub arranged_is : IsArranged login p s.machine.arranged
  pub fits : Fits p.talk
  pub login_is : login_in login p.talk ≡ login
  pub owed_is : told ++ s.machine.owed ≡ client_side (exchanges p)
  pub sent_is : s.sent ≡ p.sent
  pub settled_is : s.settled ≡ length told
  pub within : s.settled ≤ length s.sent
  pub right_is : Decides s.right (take s.settled s.sent ≡ told)

-- some place is where the program is
abbrev pub IsSomewhere : Login → Stand → Type 0
IsSomewhere login s = (p : Place) × IsAt login p s

-- bytes are sent and received
abbrev pub with_bytes : List ℕ → List ℕ → Stand → Stand
with_bytes sent taken s = record { machine = with_more [] taken s.machine; sent = s.sent ++ sent; settled = s.settled; right = s.right }

-- how many bytes were sent that are owed
abbrev pub paired : Stand → ℕ
paired s = min (length s.sent - s.settled) (length s.machine.owed)

-- these bytes are paired
pub record Settles (old : Stand) (count : ℕ) (new : Stand) : Type 0 where
  pub count_is : count ≡ paired old
  pub machine_is : new.machine ≡ with_owed (drop count old.machine.owed) old.machine
  pub sent_is : new.sent ≡ old.sent
  pub settled_is : new.settled ≡ old.settled + count
  pub right_is : Decides new.right ((old.right ≡ true) × (take count (drop old.settled old.sent) ≡ take count old.machine.owed))
