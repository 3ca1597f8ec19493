-- What each event makes of a pool's state, and what it returns.
use Rattle.std.specs.Prelude.{ℕ, ◌+◌, ◌-◌, Bool, true, false, ◌||◌, ◌&&◌, ◌==◌, not, nat_lt, nat_le, max, Option, Some, None, List, [], ◌∷◌, ◌++◌, length, find, if◌then◌else◌}
use Rattle.std.specs.List.{list_any}
use Rattle.my_pool_parts.specs.declared.connection.Connection.{Connection}
use Rattle.my_pool_parts.specs.declared.connection.Place.{Place}
use Rattle.my_pool_parts.specs.declared.connection.Place.TheVariants.{Idle, Leased, Connecting, Checking, Returned, Cleaning, Resetting, Closing}
use Rattle.my_pool_parts.specs.declared.connection.Times.{Times}
use Rattle.my_pool_parts.specs.declared.request.Request.{Request}
use Rattle.my_pool_parts.specs.declared.request.Standing.{Standing}
use Rattle.my_pool_parts.specs.declared.request.Standing.TheVariants.{Asks, Waits, Woken, Dials, Checks}
use Rattle.my_pool_core.specs.declared.limits.Limits.{Limits}
use Rattle.my_pool_core.specs.declared.limits.Counts.{Counts}
use Rattle.my_pool_core.specs.declared.event.Facts.{Facts}
use Rattle.my_pool_core.specs.declared.event.PollAnswer.{PollAnswer}
use Rattle.my_pool_core.specs.declared.event.PollAnswer.TheVariants.{Wait, Take, Dial, Closed, Full}
use Rattle.my_pool_core.specs.declared.event.Verdict.{Verdict}
use Rattle.my_pool_core.specs.declared.event.Verdict.TheVariants.{Drop, Clean, Close, Reset, Keep}
use Rattle.my_frame.specs.Lists.{without}
use Rattle.my_pool_parts.specs.Lists.{found_is, how_many}
use Rattle.my_pool_parts.specs.Connections.{placed, has_number, is_idle, is_leased, is_cleaning, is_marked, is_resetting, is_closing, is_connecting, is_checking, mark_of_place, move_to, latest_usable, retire, lasting, outdated, next_to_clean}
use Rattle.my_pool_parts.specs.Requests.{with_last, has_waited, is_live, is_dialing, last_age, asking, has_age, is_free, holds, set_standing, set_waiting, ended, wake, wake_all, waits_up_to, may_dial, is_queued}
use Rattle.my_pool_core.specs.State.{State, one_more}

-- the counts of a new pool
abbrev pub no_counts : Counts
no_counts = record {
  create_failed = 0;
  discarded_unestablished_connection = 0;
  dirty_connection_return = 0;
  discarded_expired_connection = 0;
  resetting_connection = 0;
  discarded_superfluous_connection = 0;
  connection_returned_to_pool = 0;
  discarded_error_during_cleanup = 0;
}

-- a new pool
abbrev pub new_pool : Limits → ℕ → State
new_pool limits first = record {
  limits = limits;
  closed = false;
  settled = false;
  connections = [];
  requests = [];
  next_age = 0;
  next_number = first;
  spare = 0;
  counts = no_counts;
}

-- ---- a state and what an event returns ----

pub record Polled : Type 0 where
  pub state : State
  pub answer : PollAnswer

pub record Found : Type 0 where
  pub state : State
  pub answer : Option ℕ

pub record Decided : Type 0 where
  pub state : State
  pub answer : Verdict

-- ---- counts ----

abbrev pub creation_failed : Counts → Counts
creation_failed c = record c { create_failed = one_more c.create_failed }

abbrev pub unestablished : Counts → Counts
unestablished c = record c { discarded_unestablished_connection = one_more c.discarded_unestablished_connection }

abbrev pub dirty_return : Counts → Counts
dirty_return c = record c { dirty_connection_return = one_more c.dirty_connection_return }

abbrev pub outlived : Counts → Counts
outlived c = record c { discarded_expired_connection = one_more c.discarded_expired_connection }

abbrev pub being_reset : Counts → Counts
being_reset c = record c { resetting_connection = one_more c.resetting_connection }

abbrev pub superfluous : Counts → Counts
superfluous c = record c { discarded_superfluous_connection = one_more c.discarded_superfluous_connection }

abbrev pub kept : Counts → Counts
kept c = record c { connection_returned_to_pool = one_more c.connection_returned_to_pool }

abbrev pub cleanup_failed : Counts → Counts
cleanup_failed c = record c { discarded_error_during_cleanup = one_more c.discarded_error_during_cleanup }

-- ---- parts ----

-- how many connections are counted
abbrev pub counted : State → ℕ
counted s = length s.connections

-- the connection of this number is no longer counted, the requests are these, and then the oldest waiting one is woken
abbrev pub freed : ℕ → List Request → State → State
freed number rs s = record s {
  connections = without (has_number number) s.connections;
  requests = wake rs;
  spare = s.spare + 1;
}

abbrev pub moved : ℕ → Place → State → State
moved number place s = record s { connections = move_to number place s.connections }

-- whether no request holds the connection of this number
abbrev pub is_unheld : Connection → Bool
is_unheld c = not (is_connecting c || is_checking c)

abbrev pub may_move : ℕ → State → Bool
may_move number s = found_is is_unheld (find (has_number number) s.connections)

-- ---- the events of a request ----

-- whether ages or numbers have reached their last one: a number is left for each request that may still dial
abbrev pub is_at_end : State → Bool
is_at_end s =
    s.next_age == last_age || list_any (has_age last_age) s.requests
    || nat_le last_age (s.next_number + how_many may_dial s.requests)

-- the pool is closed, and each waiting request is woken
abbrev pub close : State → State
close s = record s { closed = true; requests = wake_all s.requests }

-- a new request; at the end of ages or numbers the pool is closed
abbrev pub request : State → State
request s =
    if is_at_end s
    then record s {
      closed = true;
      requests = with_last (wake_all s.requests);
      spare = max s.spare (length s.requests + 1);
    }
    else record s {
      requests = s.requests ++ asking s.next_age ∷ [];
      next_age = s.next_age + 1;
      spare = max s.spare (length s.requests + 1);
    }

-- and its age
abbrev pub request_age : State → ℕ
request_age s = if is_at_end s then last_age else s.next_age

-- a request is polled where it is live and has no connection
abbrev pub may_poll : ℕ → State → Bool
may_poll age s = found_is is_free (find (has_age age) s.requests)

-- whether the requests that wait are as many as may, so that one that never waited may not
abbrev pub is_full : Option ℕ → ℕ → Bool
is_full None queued = false
is_full (Some limit) queued = nat_le limit queued

abbrev pub full_answer : Option ℕ → ℕ → PollAnswer
full_answer None queued = Wait
full_answer (Some limit) queued = Full queued limit

-- a polled request waits; one that never waited ends where too many do
abbrev pub queued : ℕ → State → Polled
queued age s =
    if not (found_is has_waited (find (has_age age) s.requests))
    && is_full s.limits.waiting (how_many is_queued s.requests)
    then record {
      state = record s { requests = ended age s.requests };
      answer = full_answer s.limits.waiting (how_many is_queued s.requests);
    }
    else record { state = record s { requests = set_waiting age s.requests }; answer = Wait }

-- it takes an idle connection
abbrev pub taken : ℕ → ℕ → State → Polled
taken age number s = record {
  state = record s {
    connections = move_to number Checking s.connections;
    requests = set_standing age (Checks number) s.requests;
  };
  answer = Take number;
}

-- it makes the next connection
abbrev pub dialed : ℕ → State → Polled
dialed age s = record {
  state = record s {
    connections = s.connections ++ placed s.next_number Connecting ∷ [];
    requests = set_standing age (Dials s.next_number) s.requests;
    next_number = one_more s.next_number;
    spare = s.spare - 1;
  };
  answer = Dial s.next_number;
}

-- it looks for a connection where this is the latest usable idle one
abbrev pub sought : ℕ → Option ℕ → State → Polled
sought age (Some number) s = taken age number s
sought age None s = if nat_lt (length s.connections) s.limits.max then dialed age s else queued age s

-- a request is polled at a moment
abbrev pub poll_request : ℕ → ℕ → State → Polled
poll_request age now s =
    if s.closed then record { state = record s { requests = ended age s.requests }; answer = Closed }
    else if waits_up_to age s.requests then queued age s
    else sought age (latest_usable now s.connections) (record s { connections = retire now s.connections })

abbrev pub may_cancel : ℕ → State → Bool
may_cancel age s = found_is is_live (find (has_age age) s.requests)

-- one that was woken wakes the next, and one with a connection frees it
abbrev pub cancel_standing : Standing → ℕ → State → State
cancel_standing Asks age s = record s { requests = ended age s.requests }
cancel_standing Waits age s = record s { requests = ended age s.requests }
cancel_standing Woken age s = record s { requests = wake (ended age s.requests) }
cancel_standing (Dials number) age s =
    freed number (ended age s.requests) (record s { counts = creation_failed s.counts })
cancel_standing (Checks number) age s =
    freed number (ended age s.requests) (record s { counts = creation_failed s.counts })

abbrev pub cancel_found : Option Request → ℕ → State → State
cancel_found None age s = s
cancel_found (Some r) age s = cancel_standing r.standing age s

abbrev pub cancel : ℕ → State → State
cancel age s = cancel_found (find (has_age age) s.requests) age s

-- a request holds this connection
abbrev pub may_settle : ℕ → ℕ → State → Bool
may_settle age number s = found_is (holds number) (find (has_age age) s.requests)

-- its connection is good: it is leased, and the request ends
abbrev pub ready : ℕ → ℕ → State → State
ready age number s = record s {
  connections = move_to number Leased s.connections;
  requests = ended age s.requests;
}

-- a request that was making a connection ends, one that was looking at it has no connection again
abbrev pub let_go : ℕ → List Request → List Request
let_go age rs = if found_is is_dialing (find (has_age age) rs) then ended age rs else set_standing age Asks rs

-- it isn't: it is freed, and the request lets it go
abbrev pub failed : ℕ → ℕ → State → State
failed age number s = freed number (let_go age s.requests) (record s { counts = creation_failed s.counts })

-- ---- the events of a connection ----

abbrev pub may_give_back : ℕ → State → Bool
may_give_back number s = found_is is_leased (find (has_number number) s.connections)

-- a connection comes back
abbrev pub give_back : ℕ → State → State
give_back number s = moved number (Returned false) s

-- a connection is taken out of the pool for good
abbrev pub detach : ℕ → State → State
detach number s = freed number s.requests s

abbrev pub found_next : Option Connection → State → Found
found_next (Some c) s = record { state = moved c.number (Cleaning (mark_of_place c.place)) s; answer = Some c.number }
found_next None s = record {
  state = record s { settled = s.settled || (s.closed && length s.connections == 0) };
  answer = None;
}

-- the next connection to be cleaned; where there is none and a closed pool counts none, it is seen to be gone
abbrev pub take_returned : State → Found
take_returned s = found_next (next_to_clean s.closed s.connections) s

abbrev pub may_decide : ℕ → State → Bool
may_decide number s = found_is is_cleaning (find (has_number number) s.connections)

-- idle from now on
abbrev pub times_of : Facts → ℕ → Times
times_of facts now = record { since = now; deadline = facts.deadline; last_io = facts.last_io; ttl = facts.ttl }

abbrev pub resting : Facts → ℕ → Place
resting facts now = Idle (times_of facts now)

-- a connection is kept, unless enough are idle
abbrev pub keep : ℕ → Facts → ℕ → State → Decided
keep number facts now s =
    if nat_le s.limits.bound (how_many is_idle s.connections)
    then record { state = record (moved number Closing s) { counts = superfluous s.counts }; answer = Close }
    else record {
      state = record (moved number (resting facts now) s) { requests = wake s.requests; counts = kept s.counts };
      answer = Keep;
    }

-- what is to be done with a connection that is being cleaned
abbrev pub decide : ℕ → Facts → ℕ → State → Decided
decide number facts now s =
    if facts.link_closed
    then record { state = freed number s.requests (record s { counts = unestablished s.counts }); answer = Drop }
    else if facts.dirty
    then record { state = record s { counts = dirty_return s.counts }; answer = Clean }
    else if facts.expired || found_is is_marked (find (has_number number) s.connections) || s.closed
    then record { state = record (moved number Closing s) { counts = outlived s.counts }; answer = Close }
    else if facts.reset
    then record { state = record (moved number Resetting s) { counts = being_reset s.counts }; answer = Reset }
    else keep number facts now s

-- a reset, a close, or a cleaning that failed came to its end
abbrev pub may_finish : Bool → Connection → Bool
may_finish ok c = is_resetting c || is_closing c || (is_cleaning c && not ok)

abbrev pub may_done : ℕ → Bool → State → Bool
may_done number ok s = found_is (may_finish ok) (find (has_number number) s.connections)

-- a connection that was reset is kept, or closed with the pool; any other is freed
abbrev pub done : ℕ → Bool → Facts → ℕ → State → Decided
done number ok facts now s =
    if ok && found_is is_resetting (find (has_number number) s.connections)
    then (if s.closed
    then record { state = record (moved number Closing s) { counts = superfluous s.counts }; answer = Close }
    else keep number facts now s)
    else record {
      state = freed number s.requests (record s { counts = if ok then s.counts else cleanup_failed s.counts });
      answer = Drop;
    }

-- ---- the events of the pool ----

-- how many idle connections need not stay
abbrev pub above_min : State → ℕ
above_min s = how_many is_idle s.connections - s.limits.min

-- idle connections whose time is over are marked and returned
abbrev pub check_ttl : ℕ → State → State
check_ttl now s = record s {
  connections =
      lasting now s.limits.inactive (above_min s) 0 s.connections
      ++ outdated now s.limits.inactive (above_min s) 0 s.connections;
}

-- how many
abbrev pub check_ttl_moved : ℕ → State → ℕ
check_ttl_moved now s = length (outdated now s.limits.inactive (above_min s) 0 s.connections)

-- whether the pool is gone
abbrev pub is_gone : State → Bool
is_gone s = s.closed && length s.connections == 0 && s.settled

-- whether a poll gives a request a connection or a number
abbrev pub takes_place : PollAnswer → Bool
takes_place (Take number) = true
takes_place (Dial number) = true
takes_place _ = false
