-- Which requests an event wakes, and which wait after it.
use Rattle.std.specs.Prelude.{ℕ, Bool, true, false, ◌&&◌, ◌==◌, Option, find}
use Rattle.my_pool_core.specs.declared.event.PollAnswer.{PollAnswer}
use Rattle.my_pool_core.specs.declared.event.PollAnswer.TheVariants.{Wait}
use Rattle.my_pool_core.specs.declared.event.Verdict.{Verdict}
use Rattle.my_pool_core.specs.declared.event.Verdict.TheVariants.{Drop, Keep}
use Rattle.my_pool_core.specs.declared.event.PoolEvent.{PoolEvent}
use Rattle.my_pool_core.specs.declared.event.PoolEvent.TheVariants as events
use Rattle.my_pool_parts.specs.declared.request.Standing.{Standing}
use Rattle.my_pool_parts.specs.declared.request.Standing.TheVariants.{Asks, Waits, Woken, Dials, Checks}
use Rattle.my_pool_parts.specs.Lists.{found_is}
use Rattle.my_pool_parts.specs.Requests.{oldest_in, has_age, is_waiting, is_woken}
use Rattle.my_pool_core.specs.State.{State}
use Rattle.my_pool_core.specs.Events.{is_at_end, poll_request, decide, done}

-- whether the request of an age waits, and whether it was woken and not polled since
abbrev pub waits : ℕ → State → Bool
waits age s = found_is is_waiting (find (has_age age) s.requests)

abbrev pub is_awake : ℕ → State → Bool
is_awake age s = found_is is_woken (find (has_age age) s.requests)

abbrev pub oldest_waiting : State → Option ℕ
oldest_waiting s = oldest_in s.requests

abbrev pub is_oldest : ℕ → State → Bool
is_oldest age s = found_is (λ oldest. oldest == age) (oldest_waiting s)

-- a request that is given up hands its wake on where it was woken, or held a connection
abbrev pub hands_on : Standing → Bool
hands_on Asks = false
hands_on Waits = false
hands_on Woken = true
hands_on (Dials number) = true
hands_on (Checks number) = true

-- a connection that is let go or kept wakes a request
abbrev pub frees : Verdict → Bool
frees Drop = true
frees Keep = true
frees _ = false

-- whether an event wakes the request of an age: all that wait, the oldest one, or none
abbrev pub wakes : State → PoolEvent → ℕ → Bool
wakes s events.Request age = is_at_end s && waits age s
wakes s events.Close age = waits age s
wakes s (events.Cancel gone) age =
    found_is (λ r. hands_on r.standing) (find (has_age gone) s.requests) && is_oldest age s
wakes s (events.Failed failed number) age = is_oldest age s
wakes s (events.Detach number) age = is_oldest age s
wakes s (events.Decide number facts now) age = frees (decide number facts now s).answer && is_oldest age s
wakes s (events.Done number ok facts now) age = frees (done number ok facts now s).answer && is_oldest age s
wakes s (events.PollRequest polled now) age = false
wakes s (events.Ready gone number) age = false
wakes s (events.GiveBack number) age = false
wakes s events.TakeReturned age = false
wakes s (events.CheckTtl now) age = false
wakes s events.PollDisconnect age = false

-- whether an event polls or gives up the request of an age
abbrev pub is_turn_of : ℕ → PoolEvent → Bool
is_turn_of age (events.PollRequest polled now) = age == polled
is_turn_of age (events.Cancel gone) = age == gone
is_turn_of age _ = false

abbrev pub is_wait : PollAnswer → Bool
is_wait Wait = true
is_wait _ = false

-- whether the request of an age waits after an event by its own poll
abbrev pub begins_to_wait : State → PoolEvent → ℕ → Bool
begins_to_wait s (events.PollRequest polled now) age = age == polled && is_wait (poll_request polled now s).answer
begins_to_wait s _ age = false
