-- Two lists of events in which a request is given up, with what each event returns: as a pool has them, and as no pool has
-- them, where that request leaves something behind. The pool has one connection at most, with the number 7.
use Rattle.std.specs.Prelude.{◌≡◌, List, [], ◌∷◌, ◌++◌, false, None, Some}
use Rattle.my_pool_core.specs.declared.event.Answer.{Answer}
use Rattle.my_pool_core.specs.declared.event.Answer.TheVariants as returns
use Rattle.my_pool_core.specs.declared.event.Facts.{Facts}
use Rattle.my_pool_core.specs.declared.event.PollAnswer.{PollAnswer}
use Rattle.my_pool_core.specs.declared.event.PollAnswer.TheVariants.{Wait, Take, Dial}
use Rattle.my_pool_core.specs.declared.event.PoolEvent.{PoolEvent}
use Rattle.my_pool_core.specs.declared.event.PoolEvent.TheVariants.{Request, PollRequest, Cancel, Ready, GiveBack, TakeReturned, Decide}
use Rattle.my_pool_core.specs.declared.event.Verdict.TheVariants.{Keep}
use Rattle.my_pool_core.specs.declared.limits.Limits.{Limits}
use Rattle.my_pool_core.specs.Events.{new_pool}
use Rattle.my_pool_core.specs.Steps.{AllMay, answers}

abbrev pub one : Limits
one = record { max = 1; min = 1; bound = 1; inactive = 0; waiting = None }

-- a new pool may do these events, one after the other, and they return this
pub record Does (events : List PoolEvent) (returned : List Answer) : Type 0 where
  pub allowed : AllMay (new_pool one 7) events
  pub answered : answers (new_pool one 7) events ≡ returned

-- the request 0 leases the connection
abbrev pub leases : List PoolEvent
leases = Request ∷ PollRequest 0 0 ∷ Ready 0 7 ∷ []

abbrev pub leased : List Answer
leased = returns.Age 0 ∷ returns.Poll (Dial 7) ∷ returns.Done ∷ []

-- it comes back and is kept
abbrev pub clean : Facts
clean = record { link_closed = false; dirty = false; expired = false; reset = false; last_io = 0; ttl = 0; deadline = None }

abbrev pub keeps : List PoolEvent
keeps = GiveBack 7 ∷ TakeReturned ∷ Decide 7 clean 0 ∷ []

abbrev pub kept : List Answer
kept = returns.Done ∷ returns.Returned (Some 7) ∷ returns.Verdict Keep ∷ []

-- The requests 1 and 2 wait. The connection comes back, which wakes 1. Then 1 is given up, and 2 is polled.
abbrev pub gives_wake_up : List PoolEvent
gives_wake_up =
    leases ++ Request ∷ PollRequest 1 0 ∷ Request ∷ PollRequest 2 0 ∷ keeps ++ Cancel 1 ∷ PollRequest 2 0 ∷ []

abbrev pub wake_given_up : PollAnswer → List Answer
wake_given_up last =
    leased ++ returns.Age 1 ∷ returns.Poll Wait ∷ returns.Age 2 ∷ returns.Poll Wait ∷ kept
    ++ returns.Done ∷ returns.Poll last ∷ []

-- The connection is idle, and 1 looks whether it is still alive. Then 1 is given up, and 2 is polled.
abbrev pub gives_check_up : List PoolEvent
gives_check_up = leases ++ keeps ++ Request ∷ PollRequest 1 0 ∷ Cancel 1 ∷ Request ∷ PollRequest 2 0 ∷ []

abbrev pub check_given_up : PollAnswer → List Answer
check_given_up last =
    leased ++ kept ++ returns.Age 1 ∷ returns.Poll (Take 7) ∷ returns.Done ∷ returns.Age 2 ∷ returns.Poll last ∷ []
