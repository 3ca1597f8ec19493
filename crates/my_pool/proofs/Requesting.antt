-- What an exchange keeps after the events of a request.
use Rattle.std.proofs.Common.{◌≡◌, ◌⊎◌, cond, ℕ, ◌+◌, ◌≤◌, max, length, Bool, true, false, Option, Some, None, List, [], refl, sym, ap, ◌∙◌, arith, subst, inl, inr}
use Rattle.std.specs.Prelude.{find, option_map, ◌==◌, if◌then◌else◌}
use Rattle.std.specs.List.{list_all}
use Rattle.std.proofs.lemmas.Bool.{eqb-true, eq-eqb}
use Rattle.my_pool_parts.specs.declared.connection.Place.{Place}
use Rattle.my_pool_parts.specs.declared.connection.Place.TheVariants.{Connecting, Checking}
use Rattle.my_pool_parts.specs.declared.connection.Times.{Times}
use Rattle.my_pool_parts.specs.Lists.{how_many, found_is}
use Rattle.my_pool_parts.specs.Connections.{is_over}
use Rattle.my_pool_parts.proofs.Finding.{count-le-length}
use Rattle.my_pool_core.specs.declared.event.PollAnswer.{PollAnswer}
use Rattle.my_pool_core.specs.declared.event.PollAnswer.TheVariants.{Wait, Take, Dial, Closed, Full}
use Rattle.my_pool_core.specs.declared.event.PoolEvent.{PoolEvent}
use Rattle.my_pool_core.specs.declared.event.PoolEvent.TheVariants as events
use Rattle.my_pool_core.specs.Counted.{room}
use Rattle.my_pool_core.specs.Events.{cancel, failed, may_cancel, poll_request, request, request_age, is_at_end}
use Rattle.my_pool_parts.specs.declared.request.Request.{Request}
use Rattle.my_pool_parts.specs.Requests.{has_age, is_live}
use Rattle.my_pool_core.specs.Moves.{IsMove, IsAging, MayReturn, PolledPlaces, CancelledPlaces, failed_token, polled_token}
use Rattle.my_pool_core.specs.Owners.{Token, Free, Making, Looking, number_in, token, token_of, place_at, is_held_place}
use Rattle.my_pool_core.specs.Sound.{IsSound, IsCovered, is_dialer}
use Rattle.my_pool_core.specs.State.{State}
use Rattle.my_pool_core.specs.Wakes.{waits}
use Rattle.my_pool_core.proofs.Always.{sound-step, covered-step}
use Rattle.my_pool_core.proofs.Keeping.{request-end, request-next}
use Rattle.my_pool_core.proofs.Placed.Moves.{places-move}
use Rattle.my_pool_core.proofs.Placed.Staying.{making-place, looking-place}
use Rattle.my_pool_core.proofs.Asked.Tokens.{may-cancel, may-poll, may-settle, tokens-move}
use Rattle.my_pool_core.proofs.Asked.Wakes.{waiting-are}
use Rattle.my_client.specs.declared.tape.Tape.{Tape}
use Rattle.my_conn.specs.Conn.{ConnSeen}
use Rattle.my_pool.specs.Asks.{GivesFit, room_wanted}
use Rattle.my_pool.specs.Fit.{IsFit, IsStill as IsStillConn}
use Rattle.my_pool_store.specs.Leaving.{leaving}
use Rattle.my_pool_store.specs.Noted.{IsNoted, Replays}
use Rattle.my_pool_store.specs.Shelves.{Shelved, Entry, kept_at, left_by, taken_by, without_number}
use Rattle.my_pool.specs.Stored.{Stored, IsStored, IsThere, IsWhole, IsResting}
use Rattle.my_pool_store.specs.Woken.{Called, waiting}
use Rattle.my_pool_store.proofs.Keeping.{out-there, out-others, out-once}
use Rattle.my_pool_store.proofs.Calling.{filter-all, filter-fewer}
use Rattle.my_pool_store.proofs.Leaving.{request-leaves}
use Rattle.my_pool_store.proofs.Noting.{replays-on}
use Rattle.my_pool.proofs.Wholes.{stored-moved, stored-still}

at-least : (m n : ℕ) → n ≤ max m n
at-least m n = omega arith

-- room after a request is what is wanted
pub request-room : (s : State) → room (request s) ≡ room_wanted s
request-room s =
    elim (is_at_end s) as (λ b. is_at_end s ≡ b → room (request s) ≡ room_wanted s) [
      | true ↦ λ e. ap room (request-end s e)
      | false ↦ λ e. ap room (request-next s e)
    ] refl

-- a request holds its connection
pub held-place : (age n : ℕ) (t : Token) (s : State) → IsSound s → token age s ≡ Some t → number_in t ≡ Some n → (place_at n s ≡ Some Connecting) ⊎ (place_at n s ≡ Some Checking)
held-place age n Free s h e k = absurd (cc)
held-place age n (Making m) s h e k = inl (subst (λ i. place_at i s ≡ Some Connecting) (some-is m n k) (making-place s age m h e))
  where
    some-is : (a b : ℕ) → Some a ≡ Some b → a ≡ b
    some-is a b e = cc
held-place age n (Looking m) s h e k = inr (subst (λ i. place_at i s ≡ Some Checking) (some-is m n k) (looking-place s age m h e))
  where
    some-is : (a b : ℕ) → Some a ≡ Some b → a ≡ b
    some-is a b e = cc

module _ {L : Type 0} where
  -- ---- a connection that a request has isn't kept ----

  pub held-absent : (age n : ℕ) (t : Token) (s : State) (kept : List (Entry (ConnSeen L))) → IsSound s → IsStored s kept → token age s ≡ Some t → number_in t ≡ Some n → kept_at n kept ≡ None
  held-absent age n t s kept h st e k =
      elim (held-place age n t s h e k) [
        | inl p ↦ subst (λ q. Stored q (kept_at n kept)) p (st.each n)
        | inr p ↦ subst (λ q. Stored q (kept_at n kept)) p (st.each n)
      ]

  -- one that is given away, or goes, isn't kept then either
  pub holding-stored : (from : Place → Bool) (n : ℕ) (p : Option Place) (s t : State) (kept : List (Entry (ConnSeen L))) → IsStored s kept → IsMove from n p s t → ((k : Option (ConnSeen L)) → k ≡ None → Stored p k) → kept_at n kept ≡ None → IsStored t kept
  holding-stored from n p s t kept st mv fits out =
      stored-moved from n p s t kept kept st mv (fits (kept_at n kept) out) (λ m k. refl) st.once

  -- ---- idle ones are returned ----

  resting-still : (times : Times) (k : Option (ConnSeen L)) → IsThere (IsResting times) k → IsThere IsStillConn k
  resting-still times None e = e
  resting-still times (Some c) e = e.fit.still

  resting-fit : (times : Times) (k : Option (ConnSeen L)) → IsThere (IsResting times) k → IsThere IsFit k
  resting-fit times None e = e
  resting-fit times (Some c) e = e.fit

  returned-fits : (test : Times → Bool) (marked : Bool) (p q : Option Place) (k : Option (ConnSeen L)) → MayReturn test marked p q → Stored p k → Stored q k
  returned-fits test marked p q k (inl e) h = subst (λ x. Stored x k) (sym e) h
  returned-fits test marked p q k (inr x) h = subst (λ y. Stored y k) (sym x.3) (resting-still x.0 k (subst (λ y. Stored y k) x.1 h))

  pub aged-stored : (test : Times → Bool) (marked : Bool) (s t : State) (kept : List (Entry (ConnSeen L))) → IsStored s kept → IsAging test marked s t → IsStored t kept
  aged-stored test marked s t kept st a = record { each = λ m. returned-fits test marked (place_at m s) (place_at m t) (kept_at m kept) (a.each m) (st.each m); once = st.once }

  -- ---- a polled request ----

  -- what it takes is fit
  pub poll-gives : (answer : PollAnswer) (now : ℕ) (s t : State) (kept : List (Entry (ConnSeen L))) → IsStored s kept → PolledPlaces now answer s t → GivesFit answer (taken_by answer kept)
  poll-gives Wait now s t kept st p = tt
  poll-gives (Take n) now s t kept st p = resting-fit p.times (kept_at n kept) (subst (λ q. Stored q (kept_at n kept)) p.moves.before (st.each n))
  poll-gives (Dial n) now s t kept st p = tt
  poll-gives Closed now s t kept st p = tt
  poll-gives (Full waiting limit) now s t kept st p = tt

  pub poll-stored : (answer : PollAnswer) (now : ℕ) (s t : State) (kept : List (Entry (ConnSeen L))) → IsStored s kept → PolledPlaces now answer s t → IsStored t (left_by answer kept)
  poll-stored Wait now s t kept st p = aged-stored (is_over now) false s t kept st p
  poll-stored Closed now s t kept st p = stored-still s t kept st p
  poll-stored (Full waiting limit) now s t kept st p = aged-stored (is_over now) false s t kept st p
  poll-stored (Take n) now s t kept st p = record {
    once = λ m. out-once n m kept (st.once m);
    each = λ m.
        elim (m == n) as (λ b. (m == n) ≡ b → Stored (place_at m t) (kept_at m (without_number n kept))) [
          | true ↦ λ k.
              let same : m ≡ n = eqb-true m n k in
              subst (λ i. Stored (place_at i t) (kept_at i (without_number n kept))) (sym same) (subst (λ q. Stored q (kept_at n (without_number n kept))) (sym p.moves.there) (out-there n kept (st.once n)))
          | false ↦ λ k.
              subst (λ o. Stored (place_at m t) o) (sym (out-others n m kept k)) (returned-fits (is_over now) false (place_at m s) (place_at m t) (kept_at m kept) (p.moves.others m k) (st.each m))
        ] refl;
  }
  poll-stored (Dial n) now s t kept st p = record {
    once = st.once;
    each = λ m.
        elim (m == n) as (λ b. (m == n) ≡ b → Stored (place_at m t) (kept_at m kept)) [
          | true ↦ λ k.
              let same : m ≡ n = eqb-true m n k in
              let absent : kept_at n kept ≡ None = subst (λ q. Stored q (kept_at n kept)) p.before (st.each n) in
              subst (λ i. Stored (place_at i t) (kept_at i kept)) (sym same) (subst (λ q. Stored q (kept_at n kept)) (sym p.there) absent)
          | false ↦ λ k. returned-fits (is_over now) false (place_at m s) (place_at m t) (kept_at m kept) (p.others m k) (st.each m)
        ] refl;
  }

  -- ---- a request is given up, or begins ----

  cancelled-stored : (age : ℕ) (hold : Token) (s t : State) (kept : List (Entry (ConnSeen L))) → IsSound s → IsStored s kept → token age s ≡ Some hold → CancelledPlaces (Some hold) s t → IsStored t kept
  cancelled-stored age Free s t kept h st e p = stored-still s t kept st p
  cancelled-stored age (Making n) s t kept h st e p = holding-stored is_held_place n None s t kept st p (λ k o. o) (held-absent age n (Making n) s kept h st e refl)
  cancelled-stored age (Looking n) s t kept h st e p = holding-stored is_held_place n None s t kept st p (λ k o. o) (held-absent age n (Looking n) s kept h st e refl)

  pub cancel-stored : (age : ℕ) (hold : Token) (s : State) (kept : List (Entry (ConnSeen L))) → IsSound s → IsStored s kept → token age s ≡ Some hold → IsStored (cancel age s) kept
  cancel-stored age hold s kept h st e =
      cancelled-stored age hold s (cancel age s) kept h st e (subst (λ o. CancelledPlaces o s (cancel age s)) e (places-move s (events.Cancel age) h (may-cancel s age hold e)))

  pub whole-request : (start s t : State) (shelf shelf' : Shelved (ConnSeen L)) (wakers wakers' wakers'' : Called) (told told' : Option (List PoolEvent)) (gone gone' : Shelved Tape)
      → IsWhole start s shelf wakers told gone → t ≡ request s
      → shelf'.kept ≡ shelf.kept → room_wanted s ≤ shelf'.room
      → wakers'.ages ≡ wakers.ages → room_wanted s ≤ wakers'.room
      → wakers''.ages ≡ waiting t wakers'.ages → wakers''.room ≡ wakers'.room → IsNoted told events.Request told'
      → length gone'.kept + room_wanted s ≤ gone'.room
      → IsWhole start t shelf' wakers'' told' gone'
  whole-request start s t shelf shelf' wakers wakers' wakers'' told told' gone gone' w at kept shelf_room ages waker_room called same noted gone_room =
      let r : room t ≡ room_wanted s = ap room at ∙ request-room s in
      record {
        sound = subst IsSound (sym at) (sound-step s events.Request w.sound refl);
        covered = subst IsCovered (sym at) (covered-step s events.Request w.sound w.covered refl);
        shelf_room = omega (arith, r, shelf_room);
        waker_room = omega (arith, r, waker_room, same);
        gone_room = omega (arith, gone_room, ap leaving at, request-leaves s, at-least s.spare (length s.requests + 1));
        stored = subst (λ es. IsStored t es) (sym kept) (subst (λ u. IsStored u shelf.kept) (sym at) (stored-still s (request s) shelf.kept w.stored (places-move s events.Request w.sound refl)));
        called = ap (list_all (λ a. waits a t)) called ∙ filter-all (λ a. waits a t) wakers'.ages;
        called_once = λ age. omega (arith, ap (how_many (λ a. a == age)) called, ap (how_many (λ a. a == age)) ages, filter-fewer (λ a. waits a t) (λ a. a == age) wakers'.ages, w.called_once age);
        replayed = subst (λ u. Replays start told' u) (sym at) (replays-on start s events.Request told told' w.replayed refl noted);
      }

  -- ---- room is made ----

  pub whole-room : (start s : State) (shelf shelf' : Shelved (ConnSeen L)) (wakers wakers' : Called) (told : Option (List PoolEvent)) (gone gone' : Shelved Tape) → IsWhole start s shelf wakers told gone → shelf'.kept ≡ shelf.kept → shelf.room ≤ shelf'.room → wakers'.ages ≡ wakers.ages → wakers.room ≤ wakers'.room
      → gone'.kept ≡ gone.kept → gone.room ≤ gone'.room → IsWhole start s shelf' wakers' told gone'
  whole-room start s shelf shelf' wakers wakers' told gone gone' w kept more ages more' tapes more'' = record {
    sound = w.sound;
    covered = w.covered;
    shelf_room = omega (arith, w.shelf_room, more);
    waker_room = omega (arith, w.waker_room, more');
    gone_room = omega (arith, w.gone_room, ap length tapes, more'');
    stored = subst (λ es. IsStored s es) (sym kept) w.stored;
    called = ap (list_all (λ a. waits a s)) ages ∙ w.called;
    called_once = λ age. omega (arith, ap (how_many (λ a. a == age)) ages, w.called_once age);
    replayed = w.replayed;
  }

  -- ---- the tapes are taken ----

  pub whole-taken : (start s : State) (shelf : Shelved (ConnSeen L)) (wakers : Called) (told : Option (List PoolEvent)) (gone gone' : Shelved Tape) → IsWhole start s shelf wakers told gone → gone'.kept ≡ [] → room_wanted s ≤ gone'.room → IsWhole start s shelf wakers told gone'
  whole-taken start s shelf wakers told gone gone' w none more = record {
    sound = w.sound;
    covered = w.covered;
    shelf_room = w.shelf_room;
    waker_room = w.waker_room;
    gone_room = omega (arith, ap length none, more, count-le-length is_dialer s.requests, at-least s.spare (length s.requests + 1));
    stored = w.stored;
    called = w.called;
    called_once = w.called_once;
    replayed = w.replayed;
  }

-- ---- what a request has after its own events ----

own-age : (age : ℕ) (t u : Option Token) → (if age == age then t else u) ≡ t
own-age age t u = ap (λ b. cond b t u) (eq-eqb age age refl)

pub request-holds : (s : State) → IsSound s → token (request_age s) (request s) ≡ Some Free
request-holds s h = tokens-move s events.Request (request_age s) h refl ∙ own-age (request_age s) (Some Free) (token (request_age s) s)

pub failed-own : (age n : ℕ) (t : Token) (s : State) → IsSound s → token age s ≡ Some t → number_in t ≡ Some n → token age (failed age n s) ≡ failed_token age (token age s)
failed-own age n t s h e k = tokens-move s (events.Failed age n) age h (may-settle s age n t e k) ∙ own-age age (failed_token age (token age s)) (token age s)

pub polled-own : (age now : ℕ) (s : State) → IsSound s → token age s ≡ Some Free → token age (poll_request age now s).state ≡ polled_token age (poll_request age now s).answer
polled-own age now s h e = tokens-move s (events.PollRequest age now) age h (may-poll s age e) ∙ own-age age (polled_token age (poll_request age now s).answer) (token age s)

live-token : (o : Option Request) → found_is is_live o ≡ true → (t : Token) × (option_map (λ r. token_of r.standing) o ≡ Some t)
live-token None e = absurd (cc)
live-token (Some r) e = (token_of r.standing, refl)

pub live-holds : (age : ℕ) (s : State) → may_cancel age s ≡ true → (t : Token) × (token age s ≡ Some t)
live-holds age s e = live-token (find (has_age age) s.requests) e

-- one that waits after its own poll
pub polled-waits : (age now : ℕ) (s : State) → IsSound s → token age s ≡ Some Free → (poll_request age now s).answer ≡ Wait → waits age (poll_request age now s).state ≡ true
polled-waits age now s h e w =
    waiting-are s (events.PollRequest age now) age h (may-poll s age e)
    ∙ rw (w, eq-eqb age age refl) refl
