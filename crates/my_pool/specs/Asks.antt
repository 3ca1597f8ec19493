-- What a poll of a request does, and what a new request needs.
use Rattle.std.specs.Prelude.{◌≡◌, ℕ, ◌+◌, ◌<◌, max, length, Bool, true, false, Option, Some}
use Rattle.my_pool_core.specs.declared.event.PollAnswer.{PollAnswer}
use Rattle.my_pool_core.specs.declared.event.PollAnswer.TheVariants.{Wait, Take, Dial, Closed, Full}
use Rattle.my_pool_core.specs.Counted.{idle}
use Rattle.my_pool_core.specs.Owners.{Token, number_in, token}
use Rattle.my_pool_core.specs.State.{State}
use Rattle.my_conn.specs.Conn.{ConnSeen}
use Rattle.my_pool.specs.Fit.{IsFit}
use Rattle.my_pool.specs.Pools.{Pool}
use Rattle.my_pool.specs.Stored.{IsThere}

abbrev pub is_wait : PollAnswer → Bool
is_wait Wait = true
is_wait (Take n) = false
is_wait (Dial n) = false
is_wait Closed = false
is_wait (Full waiting limit) = false

-- the connection that it takes is fit
abbrev pub GivesFit : {L : Type 0} → PollAnswer → Option (ConnSeen L) → Type 0
GivesFit Wait o = Unit {0}
GivesFit (Take n) o = IsThere IsFit o
GivesFit (Dial n) o = Unit {0}
GivesFit Closed o = Unit {0}
GivesFit (Full waiting limit) o = Unit {0}

-- where one is taken, fewer are idle
abbrev pub TakesOneLess : PollAnswer → State → State → Type 0
TakesOneLess Wait s t = Unit {0}
TakesOneLess (Take n) s t = idle t < idle s
TakesOneLess (Dial n) s t = Unit {0}
TakesOneLess Closed s t = Unit {0}
TakesOneLess (Full waiting limit) s t = Unit {0}

-- the request of an age has the connection of a number
pub record IsHolding {L : Type 0} (age n : ℕ) (p : Pool L) : Type 0 where
  pub has : Token
  pub held : token age p.state ≡ Some has
  pub number : number_in has ≡ Some n

-- the room that is wanted where one more request comes
abbrev pub room_wanted : State → ℕ
room_wanted s = length s.connections + max s.spare (length s.requests + 1)
