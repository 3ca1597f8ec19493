-- One event of a pool, whichever it is, and any list of events.
use Rattle.std.specs.Prelude.{◌≡◌, Bool, true, List, [], ◌∷◌}
use Rattle.my_pool_core.specs.declared.event.PoolEvent.{PoolEvent}
use Rattle.my_pool_core.specs.declared.event.PoolEvent.TheVariants.{Request, PollRequest, Cancel, Ready, Failed, GiveBack, Detach, TakeReturned, Decide, Done, CheckTtl, Close, PollDisconnect}
use Rattle.my_pool_core.specs.declared.event.Answer.{Answer}
use Rattle.my_pool_core.specs.declared.event.Answer.TheVariants.{Done as Nothing, Age, Poll, Returned, Verdict, Moved, Gone}
use Rattle.my_pool_core.specs.State.{State}
use Rattle.my_pool_core.specs.Events.{request, request_age, may_poll, poll_request, may_cancel, cancel, may_settle, ready, failed, may_give_back, give_back, detach, take_returned, may_decide, decide, may_done, done, check_ttl, check_ttl_moved, close, is_gone}

-- whether an event may happen
abbrev pub may : State → PoolEvent → Bool
may s Request = true
may s (PollRequest age now) = may_poll age s
may s (Cancel age) = may_cancel age s
may s (Ready age conn) = may_settle age conn s
may s (Failed age conn) = may_settle age conn s
may s (GiveBack conn) = may_give_back conn s
may s (Detach conn) = may_give_back conn s
may s TakeReturned = true
may s (Decide conn facts now) = may_decide conn s
may s (Done conn ok facts now) = may_done conn ok s
may s (CheckTtl now) = true
may s Close = true
may s PollDisconnect = true

-- the state after it
abbrev pub step : State → PoolEvent → State
step s Request = request s
step s (PollRequest age now) = (poll_request age now s).state
step s (Cancel age) = cancel age s
step s (Ready age conn) = ready age conn s
step s (Failed age conn) = failed age conn s
step s (GiveBack conn) = give_back conn s
step s (Detach conn) = detach conn s
step s TakeReturned = (take_returned s).state
step s (Decide conn facts now) = (decide conn facts now s).state
step s (Done conn ok facts now) = (done conn ok facts now s).state
step s (CheckTtl now) = check_ttl now s
step s Close = close s
step s PollDisconnect = s

-- what it returns
abbrev pub answer : State → PoolEvent → Answer
answer s Request = Age (request_age s)
answer s (PollRequest age now) = Poll ((poll_request age now s).answer)
answer s (Cancel age) = Nothing
answer s (Ready age conn) = Nothing
answer s (Failed age conn) = Nothing
answer s (GiveBack conn) = Nothing
answer s (Detach conn) = Nothing
answer s TakeReturned = Returned ((take_returned s).answer)
answer s (Decide conn facts now) = Verdict ((decide conn facts now s).answer)
answer s (Done conn ok facts now) = Verdict ((done conn ok facts now s).answer)
answer s (CheckTtl now) = Moved (check_ttl_moved now s)
answer s Close = Nothing
answer s PollDisconnect = Gone (is_gone s)

-- whether each event of a list may happen when its turn comes
abbrev pub AllMay : State → List PoolEvent → Type 0
AllMay s [] = Unit {0}
AllMay s (event ∷ events) = (may s event ≡ true) × AllMay (step s event) events

-- the state after a list of events
abbrev pub after : State → List PoolEvent → State
after s [] = s
after s (event ∷ events) = after (step s event) events

-- what a list of events returns, one after the other
abbrev pub answers : State → List PoolEvent → List Answer
answers s [] = []
answers s (event ∷ events) = answer s event ∷ answers (step s event) events
