-- What an event leaves of limits, ages and numbers.
use Rattle.std.proofs.Common.{◌≡◌, ℕ, ◌+◌, ◌<◌, Bool, true, false, cond, Option, Some, None, length, refl, sym, ap, ◌∙◌, arith}
use Rattle.std.specs.Prelude.{find, option_map, ◌&&◌, ◌||◌, not, nat_le, nat_lt}
use Rattle.std.proofs.lemmas.Bool.{lt-ltb}
use Rattle.my_pool_parts.specs.declared.connection.Connection.{Connection}
use Rattle.my_pool_core.specs.declared.event.Answer.{Answer}
use Rattle.my_pool_core.specs.declared.event.Answer.TheVariants.{Poll}
use Rattle.my_pool_core.specs.declared.event.Facts.{Facts}
use Rattle.my_pool_core.specs.declared.event.PollAnswer.{PollAnswer}
use Rattle.my_pool_core.specs.declared.event.PollAnswer.TheVariants.{Wait, Take, Dial, Closed, Full}
use Rattle.my_pool_core.specs.declared.event.PoolEvent.{PoolEvent}
use Rattle.my_pool_core.specs.declared.event.PoolEvent.TheVariants as events
use Rattle.my_pool_parts.specs.declared.request.Request.{Request}
use Rattle.my_pool_parts.specs.declared.request.Standing.{Standing}
use Rattle.my_pool_parts.specs.declared.request.Standing.TheVariants.{Asks, Waits, Woken, Dials, Checks}
use Rattle.my_pool_parts.specs.Lists.{found_is, how_many}
use Rattle.my_pool_parts.specs.Connections.{has_number, is_idle, is_marked, is_resetting, latest_usable, retire, next_to_clean}
use Rattle.my_pool_parts.specs.Requests.{last_age, has_age, is_free, is_queued, ended, waits_up_to, has_waited}
use Rattle.my_pool_core.specs.State.{State, one_more}
use Rattle.my_pool_core.specs.Events.{Polled, Decided, is_at_end, request, request_age, may_poll, is_full, full_answer, queued, sought, poll_request, cancel_found, cancel_standing, found_next, keep, decide, done}
use Rattle.my_pool_core.specs.Steps.{may, step, answer}
use Rattle.my_pool_core.specs.Sound.{IsSound, is_dialer}
use Rattle.my_pool_core.specs.Owners.{token, token_of, place_at}
use Rattle.my_pool_parts.proofs.Finding.{one, count-found}
use Rattle.my_pool_core.proofs.Kept.{if-keeps, found-req}
use Rattle.my_pool_core.proofs.Kept.Opening.{open-not-last, free-dialer}
use Rattle.my_pool_core.proofs.Keeping.{request-end, request-next}
use Rattle.my_pool_core.proofs.Asked.Stepping.{next-unborn}
use Rattle.my_pool_core.proofs.Placed.{none-there}
use Rattle.my_pool_core.proofs.Placed.Moves.{next-none}

-- ---- limits, ages and numbers ----

-- the limits and the next age stay, and this is the next number
pub record IsFrame (s t : State) (next : ℕ) : Type 0 where
  pub limits : t.limits ≡ s.limits
  pub age : t.next_age ≡ s.next_age
  pub number : t.next_number ≡ next

same-frame : (s : State) → IsFrame s s s.next_number
same-frame s = record { limits = refl; age = refl; number = refl }

abbrev number_after : PollAnswer → ℕ → ℕ
number_after (Dial n) next = one_more next
number_after _ next = next

abbrev IsPolledFrame : State → Polled → Type 0
IsPolledFrame s d = IsFrame s d.state (number_after d.answer s.next_number)

abbrev IsDecidedFrame : State → Decided → Type 0
IsDecidedFrame s d = IsFrame s d.state s.next_number

full-number : (limit : Option ℕ) (n next : ℕ) → number_after (full_answer limit n) next ≡ next
full-number None n next = refl
full-number (Some limit) n next = refl

queued-frame : (age : ℕ) (s t : State) → IsFrame s t s.next_number → IsPolledFrame s (queued age t)
queued-frame age s t f =
    if-keeps (λ (d : Polled). IsPolledFrame s d) (not (found_is has_waited (find (has_age age) t.requests)) && is_full t.limits.waiting (how_many is_queued t.requests)) _ _
    (λ _. record { limits = f.limits; age = f.age; number = f.number ∙ sym (full-number t.limits.waiting (how_many is_queued t.requests) s.next_number) })
    (λ _. record { limits = f.limits; age = f.age; number = f.number })

sought-frame : (age : ℕ) (s t : State) (o : Option ℕ) → IsFrame s t s.next_number → IsPolledFrame s (sought age o t)
sought-frame age s t (Some n) f = record { limits = f.limits; age = f.age; number = f.number }
sought-frame age s t None f =
    if-keeps (λ (d : Polled). IsPolledFrame s d) (nat_lt (length t.connections) t.limits.max) _ _
    (λ _. record { limits = f.limits; age = f.age; number = ap one_more f.number })
    (λ _. queued-frame age s t f)

poll-frame : (age now : ℕ) (s : State) → IsPolledFrame s (poll_request age now s)
poll-frame age now s =
    if-keeps (λ (d : Polled). IsPolledFrame s d) s.closed (record { state = record s { requests = ended age s.requests }; answer = Closed }) _
    (λ _. record { limits = refl; age = refl; number = refl })
    (λ _. if-keeps (λ (d : Polled). IsPolledFrame s d) (waits_up_to age s.requests) _ _
    (λ _. queued-frame age s s (same-frame s))
    (λ _. sought-frame age s (record s { connections = retire now s.connections }) (latest_usable now s.connections) (record { limits = refl; age = refl; number = refl })))

cancel-frame : (o : Option Request) (age : ℕ) (s : State) → IsFrame s (cancel_found o age s) s.next_number
cancel-frame None age s = same-frame s
cancel-frame (Some r) age s = by_standing r.standing
  where
    by_standing : (st : Standing) → IsFrame s (cancel_standing st age s) s.next_number
    by_standing Asks = record { limits = refl; age = refl; number = refl }
    by_standing Waits = record { limits = refl; age = refl; number = refl }
    by_standing Woken = record { limits = refl; age = refl; number = refl }
    by_standing (Dials n) = record { limits = refl; age = refl; number = refl }
    by_standing (Checks n) = record { limits = refl; age = refl; number = refl }

found-frame : (o : Option Connection) (s : State) → IsFrame s (found_next o s).state s.next_number
found-frame None s = record { limits = refl; age = refl; number = refl }
found-frame (Some c) s = record { limits = refl; age = refl; number = refl }

keep-frame : (n : ℕ) (facts : Facts) (now : ℕ) (s : State) → IsDecidedFrame s (keep n facts now s)
keep-frame n facts now s =
    if-keeps (λ (d : Decided). IsDecidedFrame s d) (nat_le s.limits.bound (how_many is_idle s.connections)) _ _
    (λ _. record { limits = refl; age = refl; number = refl })
    (λ _. record { limits = refl; age = refl; number = refl })

decide-frame : (n : ℕ) (facts : Facts) (now : ℕ) (s : State) → IsDecidedFrame s (decide n facts now s)
decide-frame n facts now s =
    if-keeps (λ (d : Decided). IsDecidedFrame s d) facts.link_closed _ _
    (λ _. record { limits = refl; age = refl; number = refl })
    (λ _. if-keeps (λ (d : Decided). IsDecidedFrame s d) facts.dirty _ _
    (λ _. record { limits = refl; age = refl; number = refl })
    (λ _. if-keeps (λ (d : Decided). IsDecidedFrame s d) (facts.expired || found_is is_marked (find (has_number n) s.connections) || s.closed) _ _
    (λ _. record { limits = refl; age = refl; number = refl })
    (λ _. if-keeps (λ (d : Decided). IsDecidedFrame s d) facts.reset _ _
    (λ _. record { limits = refl; age = refl; number = refl })
    (λ _. keep-frame n facts now s))))

done-frame : (n : ℕ) (ok : Bool) (facts : Facts) (now : ℕ) (s : State) → IsDecidedFrame s (done n ok facts now s)
done-frame n ok facts now s =
    if-keeps (λ (d : Decided). IsDecidedFrame s d) (ok && found_is is_resetting (find (has_number n) s.connections)) _ _
    (λ _. if-keeps (λ (d : Decided). IsDecidedFrame s d) s.closed _ _
    (λ _. record { limits = refl; age = refl; number = refl })
    (λ _. keep-frame n facts now s))
    (λ _. record { limits = refl; age = refl; number = refl })

-- the next number after an answer
abbrev number_by : Answer → ℕ → ℕ
number_by (Poll a) next = number_after a next
number_by _ next = next

frame : (s : State) (e : PoolEvent) → (e ≡ events.Request → ⊥) → IsFrame s (step s e) (number_by (answer s e) s.next_number)
frame s events.Request plain = absurd (plain refl)
frame s (events.PollRequest age now) plain = poll-frame age now s
frame s (events.Cancel age) plain = cancel-frame (find (has_age age) s.requests) age s
frame s (events.Ready age n) plain = record { limits = refl; age = refl; number = refl }
frame s (events.Failed age n) plain = record { limits = refl; age = refl; number = refl }
frame s (events.GiveBack n) plain = record { limits = refl; age = refl; number = refl }
frame s (events.Detach n) plain = record { limits = refl; age = refl; number = refl }
frame s events.TakeReturned plain = found-frame (next_to_clean s.closed s.connections) s
frame s (events.Decide n facts now) plain = decide-frame n facts now s
frame s (events.Done n ok facts now) plain = done-frame n ok facts now s
frame s (events.CheckTtl now) plain = record { limits = refl; age = refl; number = refl }
frame s events.Close plain = record { limits = refl; age = refl; number = refl }
frame s events.PollDisconnect plain = same-frame s

-- a request leaves the limits and the next number
request-frame : (s : State) → ((request s).limits ≡ s.limits) × ((request s).next_number ≡ s.next_number)
request-frame s = if-keeps (λ (t : State). (t.limits ≡ s.limits) × (t.next_number ≡ s.next_number)) (is_at_end s) _ _ (λ _. (refl, refl)) (λ _. (refl, refl))

pub limits-stay : (s : State) (e : PoolEvent) → (step s e).limits ≡ s.limits
limits-stay s events.Request = (request-frame s).0
limits-stay s e = (frame s e (λ k. cc)).limits

pub ages-stay : (s : State) (e : PoolEvent) → (e ≡ events.Request → ⊥) → (step s e).next_age ≡ s.next_age
ages-stay s e plain = (frame s e plain).age

pub age-new : (s : State) → is_at_end s ≡ false → request_age s ≡ s.next_age
age-new s e = ap (λ b. cond b last_age s.next_age) e

pub age-fresh : (s : State) → IsSound s → is_at_end s ≡ false → token (request_age s) s ≡ None
age-fresh s h e = ap (λ a. token a s) (age-new s e) ∙ ap (option_map (λ r. token_of r.standing)) (next-unborn s h e)

pub age-rises : (s : State) → is_at_end s ≡ false → (request s).next_age ≡ s.next_age + 1
age-rises s e = ap (λ t. t.next_age) (request-next s e)

pub age-last : (s : State) → is_at_end s ≡ true → request_age s ≡ last_age
age-last s e = ap (λ b. cond b last_age s.next_age) e

pub last-closes : (s : State) → is_at_end s ≡ true → (request s).closed ≡ true
last-closes s e = ap (λ t. t.closed) (request-end s e)

pub last-stays : (s : State) → is_at_end s ≡ true → (request s).next_age ≡ s.next_age
last-stays s e = ap (λ t. t.next_age) (request-end s e)

-- ---- numbers ----

abbrev IsDialed : ℕ → State → Polled → Type 0
IsDialed n s d = d.answer ≡ Dial n → (n ≡ s.next_number) × (s.closed ≡ false)

full-dials : (limit : Option ℕ) (q n : ℕ) → full_answer limit q ≡ Dial n → ⊥
full-dials None q n e = cc
full-dials (Some limit) q n e = cc

queued-dials : (age n : ℕ) (s t : State) → IsDialed n s (queued age t)
queued-dials age n s t =
    if-keeps (λ (d : Polled). IsDialed n s d) (not (found_is has_waited (find (has_age age) t.requests)) && is_full t.limits.waiting (how_many is_queued t.requests)) _ _
    (λ _ e. absurd (full-dials t.limits.waiting (how_many is_queued t.requests) n e))
    (λ _ e. absurd (cc))

sought-dials : (age now n : ℕ) (s : State) (o : Option ℕ) → s.closed ≡ false → IsDialed n s (sought age o (record s { connections = retire now s.connections }))
sought-dials age now n s (Some m) open_ = λ e. absurd (cc)
sought-dials age now n s None open_ =
    if-keeps (λ (d : Polled). IsDialed n s d) (nat_lt (length (retire now s.connections)) s.limits.max) _ _
    (λ _ e. (same s.next_number n e, open_))
    (λ _. queued-dials age n s (record s { connections = retire now s.connections }))
  where
    same : (m n : ℕ) → Dial m ≡ Dial n → n ≡ m
    same m n e = cc

poll-dials : (age now n : ℕ) (s : State) → IsDialed n s (poll_request age now s)
poll-dials age now n s =
    if-keeps (λ (d : Polled). IsDialed n s d) s.closed _ _
    (λ _ e. absurd (cc))
    (λ open_. if-keeps (λ (d : Polled). IsDialed n s d) (waits_up_to age s.requests) _ _
    (λ _. queued-dials age n s s)
    (λ _. sought-dials age now n s (latest_usable now s.connections) open_))

pub number-next : (s : State) (age now n : ℕ) → (poll_request age now s).answer ≡ Dial n → n ≡ s.next_number
number-next s age now n e = (poll-dials age now n s e).0

pub number-fresh : (s : State) (age now n : ℕ) → IsSound s → (poll_request age now s).answer ≡ Dial n → place_at n s ≡ None
number-fresh s age now n h e = ap (λ i. place_at i s) (number-next s age now n e) ∙ none-there s.next_number s.connections (next-none s h)

-- a number is left for a request that dials
below-last : (s : State) (age : ℕ) → IsSound s → may_poll age s ≡ true → s.closed ≡ false → s.next_number < last_age
below-last s age h may open_ =
    let f = found-req is_free age s.requests may in
    let other = open-not-last s age f.0 h open_ f.1 in
    let dialer : one (is_dialer f.0) ≡ 1 = free-dialer f.0 f.2 ∙ ap (λ b. one (not b)) other in
    omega (arith, h.numbers_left, dialer, count-found is_dialer (has_age age) s.requests f.0 f.1)

pub number-rises : (s : State) (age now n : ℕ) → IsSound s → may_poll age s ≡ true → (poll_request age now s).answer ≡ Dial n → (poll_request age now s).state.next_number ≡ n + 1
number-rises s age now n h may e =
    let d = poll-dials age now n s e in
    (poll-frame age now s).number ∙ ap (λ a. number_after a s.next_number) e
    ∙ ap (λ b. cond b (s.next_number + 1) s.next_number) (lt-ltb s.next_number last_age (below-last s age h may d.1))
    ∙ ap (λ k. k + 1) (sym d.0)

undialed : (a : Answer) (next : ℕ) → ((n : ℕ) → a ≡ Poll (Dial n) → ⊥) → number_by a next ≡ next
undialed (Poll Wait) next none = refl
undialed (Poll (Take n)) next none = refl
undialed (Poll (Dial n)) next none = absurd (none n refl)
undialed (Poll Closed) next none = refl
undialed (Poll (Full waiting limit)) next none = refl
undialed a next none = refl

pub numbers-stay : (s : State) (e : PoolEvent) → ((n : ℕ) → answer s e ≡ Poll (Dial n) → ⊥) → (step s e).next_number ≡ s.next_number
numbers-stay s events.Request none = (request-frame s).1
numbers-stay s e none = (frame s e (λ k. cc)).number ∙ undialed (answer s e) s.next_number none
