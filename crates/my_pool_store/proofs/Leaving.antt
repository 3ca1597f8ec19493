-- How many connections may still go: only a request adds to them, and one that goes is one fewer.
use Rattle.std.proofs.Common.{◌≡◌, ℕ, ◌+◌, ◌-◌, ◌≤◌, ◌<◌, Bool, true, false, Option, Some, None, List, length, refl, sym, ap, ◌∙◌, arith, subst}
use Rattle.std.specs.Prelude.{find, option_map, ◌&&◌, ◌||◌, not, nat_le, nat_lt, if◌then◌else◌}
use Rattle.std.specs.List.{list_any}
use Rattle.my_frame.specs.Lists.{without}
use Rattle.my_pool_parts.specs.declared.connection.Connection.{Connection}
use Rattle.my_pool_parts.specs.declared.connection.Place.TheVariants.{Connecting, Checking}
use Rattle.my_pool_parts.specs.declared.request.Request.{Request}
use Rattle.my_pool_parts.specs.declared.request.Standing.{Standing}
use Rattle.my_pool_parts.specs.declared.request.Standing.TheVariants.{Asks, Waits, Woken, Dials, Checks}
use Rattle.my_pool_parts.specs.Connections.{placed, has_number, is_idle, is_marked, is_resetting, latest_usable, next_to_clean, retire}
use Rattle.my_pool_parts.specs.Lists.{found_is, how_many}
use Rattle.my_pool_parts.specs.Requests.{ended, has_age, has_waited, is_live, is_queued, last_age, may_dial, waits_up_to, wake}
use Rattle.my_pool_parts.proofs.Finding.{count-le-length, shorter-where-any}
use Rattle.my_pool_core.specs.declared.event.Facts.{Facts}
use Rattle.my_pool_core.specs.declared.event.PoolEvent.{PoolEvent}
use Rattle.my_pool_core.specs.declared.event.PoolEvent.TheVariants as events
use Rattle.my_pool_core.specs.declared.event.Verdict.TheVariants.{Drop}
use Rattle.my_pool_core.specs.Counted.{room}
use Rattle.my_pool_core.specs.Events.{Decided, Found, Polled, cancel, cancel_found, cancel_standing, decide, done, failed, found_next, is_at_end, is_full, keep, may_cancel, may_decide, may_done, may_settle, poll_request, queued, request, sought, take_returned}
use Rattle.my_pool_core.specs.Owners.{Token, number_in, token, token_of}
use Rattle.my_pool_core.specs.Sound.{IsSound, is_dialer}
use Rattle.my_pool_core.specs.State.{State}
use Rattle.my_pool_core.specs.Steps.{may, step}
use Rattle.my_pool_core.proofs.Always.{sound-step}
use Rattle.my_pool_core.proofs.Keeping.{cancel-is, decide-moves, done-moves, found-there, held-there, last-dialers, low, low-sound, movable-there, next-dialers, request-end, request-next}
use Rattle.my_pool_core.proofs.Kept.{found-req, if-keeps, sound-failed}
use Rattle.my_pool_core.proofs.Kept.Fewer.{FewerRequests, ended-fewer, fewer-requests}
use Rattle.my_pool_core.proofs.Kept.Holding.{checking-found, connecting-found}
use Rattle.my_pool_core.proofs.Kept.Quiet.{IsAt, wake-quiet}
use Rattle.my_pool_core.proofs.Placed.Counts.{room-stays}
use Rattle.my_pool_store.specs.Leaving.{leaving}

-- ---- no event makes more of them but a request ----

-- the state with other room
abbrev spared : ℕ → State → State
spared n s = record s { spare = n }

-- as little of it as its requests want
abbrev tight : State → State
tight s = spared (how_many is_dialer s.requests) s

tight-sound : (s : State) → IsSound s → IsSound (tight s)
tight-sound s h = record {
  few = h.few;
  few_idle = h.few_idle;
  once = h.once;
  numbered = h.numbered;
  rising = h.rising;
  ages_left = h.ages_left;
  born = h.born;
  made = h.made;
  looked_at = h.looked_at;
  marked = h.marked;
  numbers_left = h.numbers_left;
  room = omega arith;
  none_waits = h.none_waits;
  settled = h.settled;
  last_closes = h.last_closes;
  last_asks = h.last_asks;
}

tight-may : (s : State) (e : PoolEvent) → may s e ≡ true → may (tight s) e ≡ true
tight-may s events.Request m = m
tight-may s (events.PollRequest age now) m = m
tight-may s (events.Cancel age) m = m
tight-may s (events.Ready age n) m = m
tight-may s (events.Failed age n) m = m
tight-may s (events.GiveBack n) m = m
tight-may s (events.Detach n) m = m
tight-may s events.TakeReturned m = m
tight-may s (events.Decide n facts now) m = m
tight-may s (events.Done n ok facts now) m = m
tight-may s (events.CheckTtl now) m = m
tight-may s events.Close m = m
tight-may s events.PollDisconnect m = m

-- the same connections and requests
record Alike (s t : State) : Type 0 where
  connections : t.connections ≡ s.connections
  requests : t.requests ≡ s.requests

both-ways : {A : Type 0} (R : A → A → Type 0) (b : Bool) (x y u v : A) → R x u → R y v → R (if b then x else y) (if b then u else v)
both-ways R true x y u v p q = p
both-ways R false x y u v p q = q

abbrev AlikePolled : Polled → Polled → Type 0
AlikePolled d e = Alike d.state e.state

abbrev AlikeDecided : Decided → Decided → Type 0
AlikeDecided d e = Alike d.state e.state

-- events don't look at the room
module _ (n : ℕ) where
  queued-alike : (age : ℕ) (s : State) → AlikePolled (queued age s) (queued age (spared n s))
  queued-alike age s =
      both-ways AlikePolled (not (found_is has_waited (find (has_age age) s.requests)) && is_full s.limits.waiting (how_many is_queued s.requests)) _ _ _ _
      (record { connections = refl; requests = refl })
      (record { connections = refl; requests = refl })

  sought-alike : (age : ℕ) (o : Option ℕ) (s : State) → AlikePolled (sought age o s) (sought age o (spared n s))
  sought-alike age (Some m) s = record { connections = refl; requests = refl }
  sought-alike age None s =
      both-ways AlikePolled (nat_lt (length s.connections) s.limits.max) _ _ _ _
      (record { connections = refl; requests = refl })
      (queued-alike age s)

  poll-alike : (age now : ℕ) (s : State) → AlikePolled (poll_request age now s) (poll_request age now (spared n s))
  poll-alike age now s =
      both-ways AlikePolled s.closed _ _ _ _
      (record { connections = refl; requests = refl })
      (both-ways AlikePolled (waits_up_to age s.requests) _ _ _ _ (queued-alike age s) (sought-alike age (latest_usable now s.connections) (record s { connections = retire now s.connections })))

  standing-alike : (st : Standing) (age : ℕ) (s : State) → Alike (cancel_standing st age s) (cancel_standing st age (spared n s))
  standing-alike Asks age s = record { connections = refl; requests = refl }
  standing-alike Waits age s = record { connections = refl; requests = refl }
  standing-alike Woken age s = record { connections = refl; requests = refl }
  standing-alike (Dials m) age s = record { connections = refl; requests = refl }
  standing-alike (Checks m) age s = record { connections = refl; requests = refl }

  cancel-alike : (o : Option Request) (age : ℕ) (s : State) → Alike (cancel_found o age s) (cancel_found o age (spared n s))
  cancel-alike None age s = record { connections = refl; requests = refl }
  cancel-alike (Some r) age s = standing-alike r.standing age s

  found-alike : (o : Option Connection) (s : State) → Alike (found_next o s).state (found_next o (spared n s)).state
  found-alike None s = record { connections = refl; requests = refl }
  found-alike (Some c) s = record { connections = refl; requests = refl }

  keep-alike : (m : ℕ) (facts : Facts) (now : ℕ) (s : State) → AlikeDecided (keep m facts now s) (keep m facts now (spared n s))
  keep-alike m facts now s =
      both-ways AlikeDecided (nat_le s.limits.bound (how_many is_idle s.connections)) _ _ _ _
      (record { connections = refl; requests = refl })
      (record { connections = refl; requests = refl })

  decide-alike : (m : ℕ) (facts : Facts) (now : ℕ) (s : State) → AlikeDecided (decide m facts now s) (decide m facts now (spared n s))
  decide-alike m facts now s =
      both-ways AlikeDecided facts.link_closed _ _ _ _
      (record { connections = refl; requests = refl })
      (both-ways AlikeDecided facts.dirty _ _ _ _
      (record { connections = refl; requests = refl })
      (both-ways AlikeDecided (facts.expired || found_is is_marked (find (has_number m) s.connections) || s.closed) _ _ _ _
      (record { connections = refl; requests = refl })
      (both-ways AlikeDecided facts.reset _ _ _ _
      (record { connections = refl; requests = refl })
      (keep-alike m facts now s))))

  done-alike : (m : ℕ) (ok : Bool) (facts : Facts) (now : ℕ) (s : State) → AlikeDecided (done m ok facts now s) (done m ok facts now (spared n s))
  done-alike m ok facts now s =
      both-ways AlikeDecided (ok && found_is is_resetting (find (has_number m) s.connections)) _ _ _ _
      (both-ways AlikeDecided s.closed _ _ _ _
      (record { connections = refl; requests = refl })
      (keep-alike m facts now s))
      (record { connections = refl; requests = refl })

  step-alike : (s : State) (e : PoolEvent) → (e ≡ events.Request → ⊥) → Alike (step s e) (step (spared n s) e)
  step-alike s events.Request plain = absurd (plain refl)
  step-alike s (events.PollRequest age now) plain = poll-alike age now s
  step-alike s (events.Cancel age) plain = cancel-alike (find (has_age age) s.requests) age s
  step-alike s (events.Ready age m) plain = record { connections = refl; requests = refl }
  step-alike s (events.Failed age m) plain = record { connections = refl; requests = refl }
  step-alike s (events.GiveBack m) plain = record { connections = refl; requests = refl }
  step-alike s (events.Detach m) plain = record { connections = refl; requests = refl }
  step-alike s events.TakeReturned plain = found-alike (next_to_clean s.closed s.connections) s
  step-alike s (events.Decide m facts now) plain = decide-alike m facts now s
  step-alike s (events.Done m ok facts now) plain = done-alike m ok facts now s
  step-alike s (events.CheckTtl now) plain = record { connections = refl; requests = refl }
  step-alike s events.Close plain = record { connections = refl; requests = refl }
  step-alike s events.PollDisconnect plain = record { connections = refl; requests = refl }

-- a state that wants all of its room is sound after each event, and has the same room
pub leaving-stays : (s : State) (e : PoolEvent) → IsSound s → may s e ≡ true → (e ≡ events.Request → ⊥) → leaving (step s e) ≤ leaving s
leaving-stays s e h m plain =
    let t = tight s in
    let sound = tight-sound s h in
    let after = sound-step t e sound (tight-may s e m) in
    let same : room (step t e) ≡ room t = room-stays t e sound (tight-may s e m) plain in
    let alike = step-alike (how_many is_dialer s.requests) s e plain in
    let counted : length (step t e).connections ≡ length (step s e).connections = ap length alike.connections in
    let dialers : how_many is_dialer (step t e).requests ≡ how_many is_dialer (step s e).requests = ap (how_many is_dialer) alike.requests in
    omega (arith, after.room, same, counted, dialers)

-- ---- one that goes is one fewer ----

abbrev OneFewer : State → State → Type 0
OneFewer s t = leaving t + 1 ≤ leaving s

freed-leaves : (m : ℕ) (rs : List Request) (s : State) → list_any (has_number m) s.connections ≡ true → how_many is_dialer rs ≤ how_many is_dialer s.requests
    → length (without (has_number m) s.connections) + how_many is_dialer (wake rs) + 1 ≤ leaving s
freed-leaves m rs s there few = omega (arith, shorter-where-any (has_number m) s.connections there, few, (wake-quiet rs).fewer.dialers)

pub failed-leaves : (age n : ℕ) (s : State) → IsSound s → may_settle age n s ≡ true → OneFewer s (failed age n s)
failed-leaves age n s h m =
    let few : (last_age - how_many is_dialer s.requests) + how_many is_dialer (failed age n s).requests ≤ last_age = (sound-failed age n (low s) (low-sound s h) m).numbers_left in
    let gone : length (failed age n s).connections + 1 ≡ length s.connections = shorter-where-any (has_number n) s.connections (held-there age n s h m) in
    omega (arith, few, gone, h.numbers_left)

standing-leaves : (st : Standing) (w : Bool) (age n : ℕ) (s : State) → IsSound s → IsAt age w st s.requests → number_in (token_of st) ≡ Some n → OneFewer s (cancel_standing st age s)
standing-leaves Asks w age n s h e k = absurd (cc)
standing-leaves Waits w age n s h e k = absurd (cc)
standing-leaves Woken w age n s h e k = absurd (cc)
standing-leaves (Dials m) w age n s h e k = freed-leaves m (ended age s.requests) s (found-there m s.connections (placed m Connecting) (connecting-found s age m w h e)) (ended-fewer age s.requests).dialers
standing-leaves (Checks m) w age n s h e k = freed-leaves m (ended age s.requests) s (found-there m s.connections (placed m Checking) (checking-found s age m w h e)) (ended-fewer age s.requests).dialers

pub cancel-leaves : (age n : ℕ) (t : Token) (s : State) → IsSound s → may_cancel age s ≡ true → token age s ≡ Some t → number_in t ≡ Some n → OneFewer s (cancel age s)
cancel-leaves age n t s h m e k =
    let f = found-req is_live age s.requests m in
    let held : Some (token_of f.0.standing) ≡ Some t = ap (option_map (λ (r : Request). token_of r.standing)) (sym f.1) ∙ e in
    let is : token_of f.0.standing ≡ t = cc in
    subst (λ u. OneFewer s u) (sym (cancel-is age s f.0 f.1))
    (standing-leaves f.0.standing f.0.waited age n s h (f.1 ∙ ap (λ r. Some r) f.3) (ap number_in is ∙ k))

keep-stays : (n : ℕ) (facts : Facts) (now : ℕ) (s : State) → (keep n facts now s).answer ≡ Drop → ⊥
keep-stays n facts now s =
    if-keeps (λ (d : Decided). d.answer ≡ Drop → ⊥) (nat_le s.limits.bound (how_many is_idle s.connections)) _ _
    (λ _ e. cc)
    (λ _ e. cc)

abbrev Goes : State → Decided → Type 0
Goes s d = d.answer ≡ Drop → OneFewer s d.state

pub decide-leaves : (n : ℕ) (facts : Facts) (now : ℕ) (s : State) → may_decide n s ≡ true → Goes s (decide n facts now s)
decide-leaves n facts now s m =
    let there = movable-there n s (decide-moves n s m) in
    if-keeps (λ (d : Decided). Goes s d) facts.link_closed _ _
    (λ _ e. freed-leaves n s.requests s there (omega arith))
    (λ _. if-keeps (λ (d : Decided). Goes s d) facts.dirty _ _
    (λ _ e. absurd (cc))
    (λ _. if-keeps (λ (d : Decided). Goes s d) (facts.expired || found_is is_marked (find (has_number n) s.connections) || s.closed) _ _
    (λ _ e. absurd (cc))
    (λ _. if-keeps (λ (d : Decided). Goes s d) facts.reset _ _
    (λ _ e. absurd (cc))
    (λ _ e. absurd (keep-stays n facts now s e)))))

pub done-leaves : (n : ℕ) (ok : Bool) (facts : Facts) (now : ℕ) (s : State) → may_done n ok s ≡ true → Goes s (done n ok facts now s)
done-leaves n ok facts now s m =
    if-keeps (λ (d : Decided). Goes s d) (ok && found_is is_resetting (find (has_number n) s.connections)) _ _
    (λ _. if-keeps (λ (d : Decided). Goes s d) s.closed _ _
    (λ _ e. absurd (cc))
    (λ _ e. absurd (keep-stays n facts now s e)))
    (λ _ e. freed-leaves n s.requests s (movable-there n s (done-moves n ok s m)) (omega arith))

-- ---- one more request adds one at most ----

pub request-leaves : (s : State) → leaving (request s) ≤ length s.connections + (length s.requests + 1)
request-leaves s =
    elim (is_at_end s) as (λ b. is_at_end s ≡ b → leaving (request s) ≤ length s.connections + (length s.requests + 1)) [
      | true ↦ λ e. omega (arith, ap leaving (request-end s e), last-dialers s.requests, count-le-length is_dialer s.requests)
      | false ↦ λ e. omega (arith, ap leaving (request-next s e), next-dialers s.next_age s.requests, count-le-length may_dial s.requests)
    ] refl
