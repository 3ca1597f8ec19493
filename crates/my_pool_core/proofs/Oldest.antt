-- A request takes a place only before each that waits; one that waits waits again when it is polled; a pool that is gone
-- counts none.
use Rattle.std.proofs.Common.{◌≡◌, ℕ, ◌<◌, ◌≤◌, Bool, true, false, cond, Option, Some, None, List, [], ◌∷◌, length, refl, sym, ap, ◌∙◌, arith}
use Rattle.std.specs.Prelude.{◌==◌, ◌&&◌, ◌||◌, not, nat_le, find}
use Rattle.std.specs.List.{All, AllByRecursion}
use Rattle.std.proofs.lemmas.List.Elements.{All-from_recursion}
use Rattle.std.proofs.lemmas.Bool.{eqb-true, leb-false, le-leb}
use Rattle.my_pool_parts.specs.declared.request.Request.{Request}
use Rattle.my_pool_parts.specs.Lists.{how_many, found_is}
use Rattle.my_pool_parts.specs.Requests.{has_age, is_waiting, is_woken, is_queued, waits_up_to, has_waited}
use Rattle.my_pool_core.specs.State.{State}
use Rattle.my_pool_core.specs.Events.{Polled, queued, poll_request, takes_place, is_full, full_answer, is_gone}
use Rattle.my_pool_core.specs.declared.event.PollAnswer.TheVariants.{Wait}
use Rattle.my_pool_core.specs.Sound.{IsSound, is_unmarked}
use Rattle.my_pool_core.specs.Wakes.{waits}
use Rattle.my_pool_parts.proofs.Finding.{one, count-found}
use Rattle.my_pool_core.proofs.Kept.Moving.{both}
use Rattle.my_pool_core.proofs.Kept.{if-keeps, found-req}

full-takes-none : (limit : Option ℕ) (n : ℕ) → takes_place (full_answer limit n) ≡ false
full-takes-none None n = refl
full-takes-none (Some limit) n = refl

queued-takes-none : (age : ℕ) (s : State) → takes_place (queued age s).answer ≡ false
queued-takes-none age s =
    if-keeps (λ (d : Polled). takes_place d.answer ≡ false) (not (found_is has_waited (find (has_age age) s.requests)) && is_full s.limits.waiting (how_many is_queued s.requests)) _ _
    (λ _. full-takes-none s.limits.waiting (how_many is_queued s.requests))
    (λ _. refl)

all-younger : (age : ℕ) (rs : List Request) → waits_up_to age rs ≡ false → AllByRecursion (λ r. is_waiting r ≡ true → age < r.age) rs
all-younger age [] e = tt
all-younger age (r ∷ rs) e =
    let n = neither (is_waiting r && nat_le r.age age) (waits_up_to age rs) e in
    (λ waits. leb-false r.age age (sym (ap (λ b. b && nat_le r.age age) waits) ∙ n.0), all-younger age rs n.1)
  where
    neither : (a b : Bool) → (a || b) ≡ false → (a ≡ false) × (b ≡ false)
    neither true b e = absurd (cc)
    neither false b e = (refl, e)

pub oldest-first : (s : State) (age now : ℕ) → takes_place (poll_request age now s).answer ≡ true → All (λ r. is_waiting r ≡ true → age < r.age) s.requests
oldest-first s age now =
    if-keeps (λ (d : Polled). takes_place d.answer ≡ true → All (λ r. is_waiting r ≡ true → age < r.age) s.requests) s.closed _ _
    (λ _ e. absurd (cc))
    (λ _. if-keeps (λ (d : Polled). takes_place d.answer ≡ true → All (λ r. is_waiting r ≡ true → age < r.age) s.requests) (waits_up_to age s.requests) _ _
    (λ _ e. let none = queued-takes-none age s in absurd (cc))
    (λ none e. All-from_recursion (λ r. is_waiting r ≡ true → age < r.age) s.requests (all-younger age s.requests none)))

-- one that waits is one that waits and is at least as old as itself
waits-itself : (age : ℕ) (rs : List Request) → found_is is_waiting (find (has_age age) rs) ≡ true → waits_up_to age rs ≡ true
waits-itself age [] e = absurd (cc)
waits-itself age (r ∷ rs) e =
    elim (has_age age r) as (λ b. has_age age r ≡ b → found_is is_waiting (cond b (Some r) (find (has_age age) rs)) ≡ true → ((is_waiting r && nat_le r.age age) || waits_up_to age rs) ≡ true) [
      | true ↦ λ k w. ap (λ b. b || waits_up_to age rs) (ap (λ b. b && nat_le r.age age) w ∙ le-leb r.age age (omega (arith, eqb-true r.age age k)))
      | false ↦ λ k w. either-way (is_waiting r && nat_le r.age age) (waits_up_to age rs) (waits-itself age rs w)
    ] refl e
  where
    either-way : (a b : Bool) → b ≡ true → (a || b) ≡ true
    either-way true b e = refl
    either-way false b e = e

-- it counts as having waited
marked-waited : (waits woken waited : Bool) → waits ≡ true → one ((waits || woken) && not waited) ≤ 0 → waited ≡ true
marked-waited true woken true e le = refl
marked-waited true woken false e le = absurd (omega (arith, le))
marked-waited false woken waited e le = absurd (cc)

queued-waits : (age : ℕ) (s : State) → found_is has_waited (find (has_age age) s.requests) ≡ true → (queued age s).answer ≡ Wait
queued-waits age s waited =
    if-keeps (λ (d : Polled). d.answer ≡ Wait) (not (found_is has_waited (find (has_age age) s.requests)) && is_full s.limits.waiting (how_many is_queued s.requests)) _ _
    (λ k. let new = (both (not (found_is has_waited (find (has_age age) s.requests))) (is_full s.limits.waiting (how_many is_queued s.requests)) k).0 in
    let never : not true ≡ true = ap not (sym waited) ∙ new in absurd (cc))
    (λ _. refl)

pub waits-again : (s : State) (age now : ℕ) → IsSound s → waits age s ≡ true → (poll_request age now s).answer ≡ Wait
waits-again s age now sound w =
    let it = found-req is_waiting age s.requests w in
    let unmarked = count-found is_unmarked (has_age age) s.requests it.0 it.1 in
    let waited = ap (found_is has_waited) it.1 ∙ marked-waited (is_waiting it.0) (is_woken it.0) it.0.waited it.2 (omega (arith, unmarked, sound.marked)) in
    let some = count-found is_waiting (has_age age) s.requests it.0 it.1 in
    let one_waits : one (is_waiting it.0) ≡ 1 = ap one it.2 in
    if-keeps (λ (d : Polled). d.answer ≡ Wait) s.closed _ _
    (λ shut. absurd (omega (arith, sound.none_waits shut, some, one_waits)))
    (λ _. if-keeps (λ (d : Polled). d.answer ≡ Wait) (waits_up_to age s.requests) _ _
    (λ _. queued-waits age s waited)
    (λ none. let up = waits-itself age s.requests w in absurd (cc)))

pub gone-empty : (s : State) → is_gone s ≡ true → length s.connections ≡ 0
gone-empty s e = eqb-true (length s.connections) 0 (both s.closed (length s.connections == 0) (both (s.closed && length s.connections == 0) s.settled e).0).1
