-- A request begins, waits, or comes to hold a connection.
use Rattle.std.proofs.Common.{◌≡◌, ℕ, ◌+◌, ◌-◌, ◌≤◌, ◌<◌, Bool, true, false, cond, Some, List, [], ◌∷◌, ◌++◌, length, refl, ap, ◌∙◌, arith, subst, max, length-append}
use Rattle.std.specs.Prelude.{find, ◌==◌, ◌&&◌, ◌||◌, not, nat_le, if◌then◌else◌}
use Rattle.std.specs.List.{list_any}
use Rattle.std.proofs.lemmas.Bool.{eqb-true, leb-false, lt-ltb, lt-leb, leb-true, le-leb, eqb-false}
use Rattle.std.proofs.lemmas.Bool.Decides.{nat_tests}
use Rattle.my_pool_parts.specs.declared.connection.Place.TheVariants.{Idle, Connecting, Checking}
use Rattle.my_pool_parts.specs.declared.connection.Times.{Times}
use Rattle.my_pool_parts.specs.declared.request.Request.{Request}
use Rattle.my_pool_parts.specs.declared.request.Standing.{Standing}
use Rattle.my_pool_parts.specs.declared.request.Standing.TheVariants.{Asks, Waits, Woken, Dials, Checks}
use Rattle.my_pool_parts.specs.Lists.{how_many}
use Rattle.my_pool_parts.specs.Connections.{placed, has_number, is_idle, move_to}
use Rattle.my_pool_parts.specs.Requests.{last_age, asking, has_age, is_waiting, is_waiting_standing, is_free, may_dial, standing_as, now_waiting, set_standing, set_waiting, ended, roused, wake_all, with_last}
use Rattle.my_pool_core.specs.State.{State, one_more}
use Rattle.my_pool_core.specs.Events.{is_at_end, close, request}
use Rattle.my_pool_core.specs.Sound.{IsSound, dials, checks, connects, is_checked, is_unnumbered, is_unborn, is_unmarked, is_dialer, is_last_busy}
use Rattle.my_pool_parts.proofs.Finding.{one, count-change, count-found, count-push, count-map-same, count-either, count-implies, count-le-length, none-counted}
use Rattle.my_pool_core.proofs.Kept.Fewer.{sound_after, same-connections, move-fewer, move-count}
use Rattle.my_pool_parts.proofs.Finding.Rising.{rising-map, rising-push}
use Rattle.my_pool_core.proofs.Kept.Quiet.{req, ended-quiet}
use Rattle.my_pool_core.proofs.Kept.Holding.{found-change-fewer}

-- ---- what is known of a request without a connection ----

pub free-dials : (r : Request) → is_free r ≡ true → (m : ℕ) → one (dials m r) ≡ 0
free-dials r e m = by_standing r.age r.waited r.standing e
  where
    by_standing : (a : ℕ) (w : Bool) (st : Standing) → is_free (req a w st) ≡ true → one (dials m (req a w st)) ≡ 0
    by_standing a w Asks k = refl
    by_standing a w Waits k = refl
    by_standing a w Woken k = refl
    by_standing a w (Dials n) k = absurd (cc)
    by_standing a w (Checks n) k = refl

pub free-checks : (r : Request) → is_free r ≡ true → (m : ℕ) → one (checks m r) ≡ 0
free-checks r e m = by_standing r.age r.waited r.standing e
  where
    by_standing : (a : ℕ) (w : Bool) (st : Standing) → is_free (req a w st) ≡ true → one (checks m (req a w st)) ≡ 0
    by_standing a w Asks k = refl
    by_standing a w Waits k = refl
    by_standing a w Woken k = refl
    by_standing a w (Dials n) k = refl
    by_standing a w (Checks n) k = absurd (cc)

pub free-dialer : (r : Request) → is_free r ≡ true → one (is_dialer r) ≡ one (not (r.age == last_age))
free-dialer r e = by_standing r.age r.waited r.standing e
  where
    by_standing : (a : ℕ) (w : Bool) (st : Standing) → is_free (req a w st) ≡ true → one (is_dialer (req a w st)) ≡ one (not (a == last_age))
    by_standing a w Asks k = refl
    by_standing a w Waits k = refl
    by_standing a w Woken k = refl
    by_standing a w (Dials n) k = absurd (cc)
    by_standing a w (Checks n) k = refl

-- an open pool's requests have other ages than the last one
pub open-not-last : (s : State) (age : ℕ) (r : Request) → IsSound s → s.closed ≡ false → find (has_age age) s.requests ≡ Some r → (r.age == last_age) ≡ false
open-not-last s age r h open_ e =
    elim (r.age == last_age) as (λ b. (r.age == last_age) ≡ b → b ≡ false) [
      | true ↦ λ k.
          let some : 0 < how_many (has_age last_age) s.requests = omega (arith, ap one k, count-found (has_age last_age) (has_age age) s.requests r e) in
          let shut = h.last_closes some in
          absurd (cc)
      | false ↦ λ k. refl
    ] refl

-- ---- a polled request waits or ends ----

pub sound-ended : (s : State) (age : ℕ) (r : Request) → IsSound s → find (has_age age) s.requests ≡ Some r → is_free r ≡ true → (s.closed ≡ true → how_many is_waiting (ended age s.requests) ≡ 0)
    → IsSound (record s { requests = ended age s.requests })
sound-ended s age r h e free wait =
    let q = ended-quiet age s.requests r e (free-dials r free) (free-checks r free) in
    sound_after s s.connections (ended age s.requests) s.spare s.settled s.counts h (same-connections s.connections) q.fewer h.few_idle
    (λ m. q.dials m ∙ h.made m) (λ m. q.checks m ∙ h.looked_at m) wait (omega arith) h.settled

pub sound-waits : (s : State) (age : ℕ) (r : Request) → IsSound s → s.closed ≡ false → find (has_age age) s.requests ≡ Some r → is_free r ≡ true
    → IsSound (record s { requests = set_waiting age s.requests })
sound-waits s age r h open_ e free =
    let last : one (is_last_busy (now_waiting r)) ≡ 0 = ap one (open-not-last s age r h open_ e) in
    sound_after s s.connections (set_waiting age s.requests) s.spare s.settled s.counts h (same-connections s.connections)
    (found-change-fewer age now_waiting s.requests r e (λ r. refl) (omega arith) (omega (arith, free-dialer r free)) (omega (arith, last)))
    h.few_idle
    (λ m. let d = count-change (dials m) (has_age age) now_waiting s.requests r e in omega (arith, d, free-dials r free m, h.made m))
    (λ m. let d = count-change (checks m) (has_age age) now_waiting s.requests r e in omega (arith, d, free-checks r free m, h.looked_at m))
    (λ shut. absurd (cc)) (omega arith) h.settled

-- ---- a polled request comes to hold a connection ----

pub sound-takes : (s : State) (age n : ℕ) (r : Request) (times : Times) → IsSound s → s.closed ≡ false → find (has_age age) s.requests ≡ Some r → is_free r ≡ true
    → find (has_number n) s.connections ≡ Some (placed n (Idle times))
    → IsSound (record s { connections = move_to n Checking s.connections; requests = set_standing age (Checks n) s.requests })
sound-takes s age n r times h open_ e free found =
    let other = open-not-last s age r h open_ e in
    let fewer = move-fewer n Checking (Idle times) s.connections found in
    let last : one (is_last_busy (standing_as (Checks n) r)) ≡ 0 = ap one other in
    sound_after s (move_to n Checking s.connections) (set_standing age (Checks n) s.requests) s.spare s.settled s.counts h fewer
    (found-change-fewer age (standing_as (Checks n)) s.requests r e (λ r. refl) (omega arith) (omega (arith, free-dialer r free)) (omega (arith, last)))
    (omega (arith, h.few_idle, move-count is_idle n Checking (Idle times) s.connections found))
    (λ m. omega (arith, count-change (dials m) (has_age age) (standing_as (Checks n)) s.requests r e, free-dials r free m, h.made m, move-count (connects m) n Checking (Idle times) s.connections found))
    (λ m. omega (arith, count-change (checks m) (has_age age) (standing_as (Checks n)) s.requests r e, free-checks r free m, h.looked_at m, move-count (is_checked m) n Checking (Idle times) s.connections found))
    (λ shut. absurd (cc)) (omega arith) (λ g. ((h.settled g).0, omega (arith, fewer.shorter, (h.settled g).1)))

-- a number is at least itself
numbered-next : (next n : ℕ) → one (n == next) ≤ one (nat_le next n)
numbered-next next n = grind (arith, nat_tests)

later-number : (next n : ℕ) → one (nat_le (next + 1) n) ≤ one (nat_le next n)
later-number next n = grind (arith, nat_tests)

own-number : (next : ℕ) → one (nat_le (next + 1) next) ≡ 0
own-number next = grind (arith, nat_tests)

one-more-below : (n : ℕ) → n < last_age → one_more n ≡ n + 1
one-more-below n lt = ap (λ b. cond b (n + 1) n) (lt-ltb n last_age lt)

pub sound-dials : (s : State) (age : ℕ) (r : Request) → IsSound s → s.closed ≡ false → find (has_age age) s.requests ≡ Some r → is_free r ≡ true
    → length s.connections < s.limits.max
    → IsSound (record s {
      connections = s.connections ++ placed s.next_number Connecting ∷ [];
      requests = set_standing age (Dials s.next_number) s.requests;
      next_number = one_more s.next_number;
      spare = s.spare - 1;
    })
sound-dials s age r h open_ e free room =
    let n = s.next_number in
    let other = open-not-last s age r h open_ e in
    let dialer : one (is_dialer r) ≡ 1 = free-dialer r free ∙ ap (λ b. one (not b)) other in
    let last : one (is_last_busy (standing_as (Dials n) r)) ≡ 0 = ap one other in
    let fewer = found-change-fewer age (standing_as (Dials n)) s.requests r e (λ r. refl) (omega arith) (omega arith) (omega (arith, last)) in
    let left = count-change is_dialer (has_age age) (standing_as (Dials n)) s.requests r e in
    let some = count-found is_dialer (has_age age) s.requests r e in
    let next : one_more n ≡ n + 1 = one-more-below n (omega (arith, h.numbers_left, some, dialer)) in
    record {
      few = omega (arith, length-append s.connections (placed n Connecting ∷ []));
      few_idle = omega (arith, h.few_idle, count-push is_idle s.connections (placed n Connecting));
      once = λ m.
          elim (n == m) as (λ b. (n == m) ≡ b → how_many (has_number m) (s.connections ++ placed n Connecting ∷ []) ≤ 1) [
            | true ↦ λ k.
                let same : n ≡ m = eqb-true n m k in
                let few = count-implies (has_number m) (is_unnumbered n) (λ c. subst (λ k. one (c.number == k) ≤ one (nat_le n c.number)) same (numbered-next n c.number)) s.connections in
                omega (arith, few, h.numbered, ap one k, count-push (has_number m) s.connections (placed n Connecting))
            | false ↦ λ k. omega (arith, h.once m, ap one k, count-push (has_number m) s.connections (placed n Connecting))
          ] refl;
      numbered = rw next (omega (arith, h.numbered, own-number n, count-push (is_unnumbered (n + 1)) s.connections (placed n Connecting), count-implies (is_unnumbered (n + 1)) (is_unnumbered n) (λ c. later-number n c.number) s.connections));
      rising = fewer.rising h.rising;
      ages_left = h.ages_left;
      born = omega (arith, h.born, fewer.ages (λ a. nat_le s.next_age a && not (a == last_age)));
      made = λ m. omega (arith, count-change (dials m) (has_age age) (standing_as (Dials n)) s.requests r e, free-dials r free m, h.made m, count-push (connects m) s.connections (placed n Connecting));
      looked_at = λ m. omega (arith, count-change (checks m) (has_age age) (standing_as (Dials n)) s.requests r e, free-checks r free m, h.looked_at m, count-push (is_checked m) s.connections (placed n Connecting));
      marked = omega (arith, h.marked, fewer.unmarked);
      numbers_left = rw next (omega (arith, h.numbers_left, left, dialer));
      room = omega (arith, h.room, left, dialer);
      none_waits = λ shut. absurd (cc);
      settled = λ g. absurd (let shut = (h.settled g).0 in cc);
      last_closes = λ live. h.last_closes (omega (arith, live, fewer.ages (λ a. a == last_age)));
      last_asks = omega (arith, h.last_asks, fewer.last);
    }

-- ---- the pool is closed ----

wake-all-same : (q : Request → Bool) → ((a : ℕ) (w : Bool) → q (req a w Woken) ≡ q (req a w Waits)) → (rs : List Request) → how_many q (wake_all rs) ≡ how_many q rs
wake-all-same q same rs = count-map-same q roused (λ r. by_standing r.age r.waited r.standing) rs
  where
    by_standing : (a : ℕ) (w : Bool) (st : Standing) → q (if is_waiting_standing st then req a w Woken else req a w st) ≡ q (req a w st)
    by_standing a w Waits = same a w
    by_standing a w Asks = refl
    by_standing a w Woken = refl
    by_standing a w (Dials n) = refl
    by_standing a w (Checks n) = refl

none-waits : (rs : List Request) → how_many is_waiting (wake_all rs) ≡ 0
none-waits [] = refl
none-waits (r ∷ rs) = omega (arith, none-waits rs, by_standing r.age r.waited r.standing)
  where
    by_standing : (a : ℕ) (w : Bool) (st : Standing) → one (is_waiting (if is_waiting_standing st then req a w Woken else req a w st)) ≡ 0
    by_standing a w Waits = refl
    by_standing a w Asks = refl
    by_standing a w Woken = refl
    by_standing a w (Dials n) = refl
    by_standing a w (Checks n) = refl

age-kept : (r : Request) → (if is_waiting r then standing_as Woken r else r).age ≡ r.age
age-kept r = elim (is_waiting r) as (λ b. (if b then standing_as Woken r else r).age ≡ r.age) [ true ↦ refl | false ↦ refl ]

pub sound-close : (s : State) → IsSound s → IsSound (close s)
sound-close s h =
    let rs = s.requests in
    let ages = λ (q : ℕ → Bool). count-map-same (λ r. q r.age) roused (λ r. ap q (age-kept r)) rs in
    let dialers = wake-all-same is_dialer (λ a w. refl) rs in
    record {
      few = h.few;
      few_idle = h.few_idle;
      once = h.once;
      numbered = h.numbered;
      rising = rising-map roused age-kept 0 rs h.rising;
      ages_left = h.ages_left;
      born = ages (λ a. nat_le s.next_age a && not (a == last_age)) ∙ h.born;
      made = λ m. wake-all-same (dials m) (λ a w. refl) rs ∙ h.made m;
      looked_at = λ m. wake-all-same (checks m) (λ a w. refl) rs ∙ h.looked_at m;
      marked = wake-all-same is_unmarked (λ a w. refl) rs ∙ h.marked;
      numbers_left = omega (arith, h.numbers_left, dialers);
      room = omega (arith, h.room, dialers);
      none_waits = λ _. none-waits rs;
      settled = λ g. (refl, (h.settled g).1);
      last_closes = λ _. refl;
      last_asks = wake-all-same is_last_busy (λ a w. refl) rs ∙ h.last_asks;
    }

-- ---- a request begins ----

-- an age that isn't below the next one is the last one
beyond : (next a : ℕ) → one (nat_le next a) ≤ one (nat_le next a && not (a == last_age)) + one (a == last_age)
beyond next a = elim (nat_le next a) as (λ b. one b ≤ one (b && not (a == last_age)) + one (a == last_age)) [
  | true ↦ elim (a == last_age) as (λ b. 1 ≤ one (true && not b) + one b) [ true ↦ omega arith | false ↦ omega arith ]
  | false ↦ omega arith
]

later-unborn : (next a : ℕ) → one (nat_le (next + 1) a && not (a == last_age)) ≤ one (nat_le next a && not (a == last_age))
later-unborn next a =
    elim (nat_le (next + 1) a) as (λ b. nat_le (next + 1) a ≡ b → one (b && not (a == last_age)) ≤ one (nat_le next a && not (a == last_age))) [
      | true ↦ λ e.
          let le : next + 1 ≤ a = leb-true (next + 1) a e in
          let k : nat_le next a ≡ true = le-leb next a (omega arith) in
          let same : one (nat_le next a && not (a == last_age)) ≡ one (true && not (a == last_age)) = ap (λ b. one (b && not (a == last_age))) k in
          omega arith
      | false ↦ λ e. omega arith
    ] refl

-- where the last age isn't live, none is beyond
none-beyond : (s : State) → IsSound s → list_any (has_age last_age) s.requests ≡ false → how_many (λ r. nat_le s.next_age r.age) s.requests ≡ 0
none-beyond s h none = omega (
  arith,
  h.born,
  none-counted (has_age last_age) s.requests none,
  count-either (λ r. nat_le s.next_age r.age) (is_unborn s.next_age) (has_age last_age) (λ r. beyond s.next_age r.age) s.requests,
)

-- the request of the last age, in a closed pool
pub sound-last : (s : State) (spare : ℕ) → IsSound s → s.closed ≡ true → s.spare ≤ spare → IsSound (record s { requests = with_last s.requests; spare = spare })
sound-last s spare h shut room =
    elim (list_any (has_age last_age) s.requests) as (λ b. list_any (has_age last_age) s.requests ≡ b → IsSound (record s { requests = cond b s.requests (s.requests ++ asking last_age ∷ []); spare = spare })) [
      | true ↦ λ _. record {
        few = h.few;
        few_idle = h.few_idle;
        once = h.once;
        numbered = h.numbered;
        rising = h.rising;
        ages_left = h.ages_left;
        born = h.born;
        made = h.made;
        looked_at = h.looked_at;
        marked = h.marked;
        numbers_left = h.numbers_left;
        room = omega (arith, h.room, room);
        none_waits = h.none_waits;
        settled = h.settled;
        last_closes = h.last_closes;
        last_asks = h.last_asks;
      }
      | false ↦ λ none.
          let rs = s.requests in
          let young = none-beyond s h none in
          let above = count-implies (λ r. nat_le last_age r.age) (λ r. nat_le s.next_age r.age) (λ r. at-least s.next_age last_age r.age h.ages_left) rs in
          let q = asking last_age in
          record {
            few = h.few;
            few_idle = h.few_idle;
            once = h.once;
            numbered = h.numbered;
            rising = rising-push last_age 0 rs (omega arith) h.rising (omega (arith, young, above));
            ages_left = h.ages_left;
            born = omega (arith, h.born, count-push (is_unborn s.next_age) rs q, unborn-last s.next_age);
            made = λ m. omega (arith, h.made m, count-push (dials m) rs q);
            looked_at = λ m. omega (arith, h.looked_at m, count-push (checks m) rs q);
            marked = omega (arith, h.marked, count-push is_unmarked rs q);
            numbers_left = omega (arith, h.numbers_left, count-push is_dialer rs q);
            room = omega (arith, h.room, room, count-push is_dialer rs q);
            none_waits = λ k. omega (arith, h.none_waits k, count-push is_waiting rs q);
            settled = h.settled;
            last_closes = λ _. shut;
            last_asks = omega (arith, h.last_asks, count-push is_last_busy rs q);
          }
    ] refl
  where
    at-least : (next last a : ℕ) → next ≤ last → one (nat_le last a) ≤ one (nat_le next a)
    at-least next last a le = elim (nat_le last a) as (λ b. nat_le last a ≡ b → one b ≤ one (nat_le next a)) [
      | true ↦ λ e.
          let far : last ≤ a = leb-true last a e in
          let k : one (nat_le next a) ≡ 1 = ap one (le-leb next a (omega arith)) in
          omega arith
      | false ↦ λ e. omega arith
    ] refl

    unborn-last : (next : ℕ) → one (nat_le next last_age && not (last_age == last_age)) ≡ 0
    unborn-last next = elim (nat_le next last_age) as (λ b. one (b && not (last_age == last_age)) ≡ 0) [ true ↦ refl | false ↦ refl ]

-- the three tests of the end, none of which passes
not-ended : (a b c : Bool) → (a || b || c) ≡ false → (a ≡ false) × (b ≡ false) × (c ≡ false)
not-ended true b c e = absurd (cc)
not-ended false true c e = absurd (cc)
not-ended false false true e = absurd (cc)
not-ended false false false e = (refl, refl, refl)

at-most-one : (b : Bool) → one b ≤ 1
at-most-one true = omega arith
at-most-one false = omega arith

dialer-may : (r : Request) → one (is_dialer r) ≤ one (may_dial r)
dialer-may r = elim (may_dial r) as (λ b. one (b && not (r.age == last_age)) ≤ one b) [ true ↦ at-most-one (not (r.age == last_age)) | false ↦ omega arith ]

below-last : (a : ℕ) → a ≤ last_age → (a == last_age) ≡ false → a < last_age
below-last a le e = let ne : a ≡ last_age → ⊥ = eqb-false a last_age e in omega arith

unborn-new : (a : ℕ) → one (nat_le (a + 1) a && not (a == last_age)) ≡ 0
unborn-new a = ap (λ b. one (b && not (a == last_age))) (lt-leb (a + 1) a (omega arith))

pub sound-request : (s : State) → IsSound s → IsSound (request s)
sound-request s h =
    let rs = s.requests in
    let a = s.next_age in
    let q = asking a in
    let spare = max s.spare (length rs + 1) in
    elim (is_at_end s) as (λ b. is_at_end s ≡ b → IsSound (cond b
    (record s { closed = true; requests = with_last (wake_all rs); spare = spare })
    (record s { requests = rs ++ q ∷ []; next_age = a + 1; spare = spare }))) [
      | true ↦ λ _. sound-last (close s) spare (sound-close s h) refl (omega arith)
      | false ↦ λ e.
          let n = not-ended (a == last_age) (list_any (has_age last_age) rs) (nat_le last_age (s.next_number + how_many may_dial rs)) e in
          let young = none-beyond s h n.1 in
          let numbers : s.next_number + how_many may_dial rs < last_age = leb-false last_age (s.next_number + how_many may_dial rs) n.2 in
          let fewer = count-implies is_dialer may_dial (λ r. dialer-may r) rs in
          let other : one (a == last_age) ≡ 0 = ap one n.0 in
          let below : a < last_age = below-last a h.ages_left n.0 in
          record {
            few = h.few;
            few_idle = h.few_idle;
            once = h.once;
            numbered = h.numbered;
            rising = rising-push a 0 rs (omega arith) h.rising young;
            ages_left = omega arith;
            born = omega (arith, h.born, count-push (is_unborn (a + 1)) rs q, unborn-new a, count-implies (is_unborn (a + 1)) (is_unborn a) (λ r. later-unborn a r.age) rs);
            made = λ m. omega (arith, h.made m, count-push (dials m) rs q);
            looked_at = λ m. omega (arith, h.looked_at m, count-push (checks m) rs q);
            marked = omega (arith, h.marked, count-push is_unmarked rs q);
            numbers_left = omega (arith, numbers, fewer, count-push is_dialer rs q, at-most-one (is_dialer q));
            room = omega (arith, h.room, count-push is_dialer rs q, at-most-one (is_dialer q), count-le-length is_dialer rs);
            none_waits = λ k. omega (arith, h.none_waits k, count-push is_waiting rs q);
            settled = h.settled;
            last_closes = λ live. h.last_closes (omega (arith, live, count-push (has_age last_age) rs q, other));
            last_asks = omega (arith, h.last_asks, count-push is_last_busy rs q);
          }
    ] refl
