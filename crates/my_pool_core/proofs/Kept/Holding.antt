-- A request that makes or looks at a connection lets it go.
use Rattle.std.proofs.Common.{◌≡◌, ℕ, ◌+◌, ◌≤◌, ◌<◌, Bool, true, false, cond, Some, List, refl, ap, ◌∙◌, arith}
use Rattle.std.specs.Prelude.{find, ◌==◌, ◌&&◌, ◌||◌, not}
use Rattle.std.proofs.lemmas.Bool.{eq-eqb}
use Rattle.my_pool_parts.specs.declared.connection.Connection.{Connection}
use Rattle.my_pool_parts.specs.declared.connection.Place.{Place}
use Rattle.my_pool_parts.specs.declared.connection.Place.TheVariants.{Idle, Leased, Connecting, Checking, Returned, Cleaning, Resetting, Closing}
use Rattle.my_pool_parts.specs.declared.request.Request.{Request}
use Rattle.my_pool_parts.specs.declared.request.Standing.{Standing}
use Rattle.my_pool_parts.specs.declared.request.Standing.TheVariants.{Asks, Waits, Woken, Dials, Checks}
use Rattle.my_pool_core.specs.declared.limits.Counts.{Counts}
use Rattle.my_frame.specs.Lists.{without}
use Rattle.my_pool_parts.specs.Lists.{change_first, how_many}
use Rattle.my_pool_parts.specs.Connections.{placed, has_number, is_idle, is_connecting, is_connecting_place, is_checking, is_checking_place, move_to}
use Rattle.my_pool_parts.specs.Requests.{last_age, has_age, is_waiting, is_waiting_standing, is_asking_standing, is_dialing_standing, is_checking_standing, is_free, standing_as, set_standing, ended, wake}
use Rattle.my_pool_core.specs.State.{State}
use Rattle.my_pool_core.specs.Sound.{IsSound, dials, checks, connects, is_checked, is_unmarked, is_dialer, is_last_busy}
use Rattle.my_pool_parts.proofs.Finding.{one, count-without, count-without-le, count-change, count-change-less, count-found, found-once}
use Rattle.my_pool_core.proofs.Kept.Fewer.{FewerConnections, FewerRequests, sound_after, found-placed, move-fewer, move-count, freed-fewer, fewer-requests, ended-fewer}
use Rattle.my_pool_parts.proofs.Finding.Rising.{rising-change}
use Rattle.my_pool_core.proofs.Kept.Quiet.{IsAt, req, wake-quiet}

-- ---- what is known of a request that holds a connection ----

connecting-is : (p : Place) → is_connecting_place p ≡ true → p ≡ Connecting
connecting-is Connecting e = refl
connecting-is (Idle times) e = absurd (cc)
connecting-is Leased e = absurd (cc)
connecting-is Checking e = absurd (cc)
connecting-is (Returned marked) e = absurd (cc)
connecting-is (Cleaning marked) e = absurd (cc)
connecting-is Resetting e = absurd (cc)
connecting-is Closing e = absurd (cc)

checking-is : (p : Place) → is_checking_place p ≡ true → p ≡ Checking
checking-is Checking e = refl
checking-is (Idle times) e = absurd (cc)
checking-is Leased e = absurd (cc)
checking-is Connecting e = absurd (cc)
checking-is (Returned marked) e = absurd (cc)
checking-is (Cleaning marked) e = absurd (cc)
checking-is Resetting e = absurd (cc)
checking-is Closing e = absurd (cc)

pub connecting-found : (s : State) (age n : ℕ) (w : Bool) → IsSound s → IsAt age w (Dials n) s.requests → find (has_number n) s.connections ≡ Some (placed n Connecting)
connecting-found s age n w h e =
    let itself : one (n == n) ≡ 1 = ap one (eq-eqb n n refl) in
    let some : 0 < how_many (connects n) s.connections = omega (arith, itself, count-found (dials n) (has_age age) s.requests (req age w (Dials n)) e, h.made n) in
    let y = found-once is_connecting (has_number n) s.connections (h.once n) some in
    y.1 ∙ ap (λ c. Some c) (found-placed n s.connections y.0 y.1 ∙ ap (placed n) (connecting-is y.0.place y.2))

pub checking-found : (s : State) (age n : ℕ) (w : Bool) → IsSound s → IsAt age w (Checks n) s.requests → find (has_number n) s.connections ≡ Some (placed n Checking)
checking-found s age n w h e =
    let itself : one (n == n) ≡ 1 = ap one (eq-eqb n n refl) in
    let some : 0 < how_many (is_checked n) s.connections = omega (arith, itself, count-found (checks n) (has_age age) s.requests (req age w (Checks n)) e, h.looked_at n) in
    let y = found-once is_checking (has_number n) s.connections (h.once n) some in
    y.1 ∙ ap (λ c. Some c) (found-placed n s.connections y.0 y.1 ∙ ap (placed n) (checking-is y.0.place y.2))

held-busy : (st : Standing) → not (is_dialing_standing st || is_checking_standing st) ≡ false → is_asking_standing st ≡ false
held-busy (Dials n) e = refl
held-busy (Checks n) e = refl
held-busy Asks e = absurd (cc)
held-busy Waits e = absurd (cc)
held-busy Woken e = absurd (cc)

pub holder-not-last : (s : State) (age : ℕ) (w : Bool) (st : Standing) → IsSound s → IsAt age w st s.requests → is_free (req age w st) ≡ false → (age == last_age) ≡ false
holder-not-last s age w st h e held =
    elim (age == last_age) as (λ b. (age == last_age) ≡ b → b ≡ false) [
      | true ↦ λ k.
          let a : one (is_last_busy (req age w st)) ≡ 1 = ap (λ b. one (not b && (age == last_age))) (held-busy st held) ∙ ap one k in
          absurd (omega (arith, a, h.last_asks, count-found is_last_busy (has_age age) s.requests (req age w st) e))
      | false ↦ λ k. refl
    ] refl

pub ended-count : (q : Request → Bool) (age : ℕ) (rs : List Request) (r : Request) → find (has_age age) rs ≡ Some r → (age == last_age) ≡ false → how_many q (ended age rs) + one (q r) ≡ how_many q rs
ended-count q age rs r e other =
    elim (age == last_age) as (λ b. b ≡ false → how_many q (cond b rs (without (has_age age) rs)) + one (q r) ≡ how_many q rs) [
      | true ↦ λ k. absurd (cc)
      | false ↦ λ k. count-without q (has_age age) rs r e
    ] other

pub ended-less : (q : Request → Bool) (age : ℕ) (rs : List Request) → how_many q (ended age rs) ≤ how_many q rs
ended-less q age rs = elim (age == last_age) as (λ b. how_many q (cond b rs (without (has_age age) rs)) ≤ how_many q rs) [
  | true ↦ omega arith
  | false ↦ count-without-le q (has_age age) rs
]

woken-waiting : (a : ℕ) (w : Bool) (st : Standing) → is_waiting_standing st ≡ true → one (is_waiting (req a w Woken)) ≤ one (is_waiting (req a w st))
woken-waiting a w st e = omega arith

pub wake-waiting : (rs : List Request) → how_many is_waiting (wake rs) ≤ how_many is_waiting rs
wake-waiting rs = count-change-less is_waiting is_waiting (standing_as Woken) (λ r e. woken-waiting r.age r.waited r.standing e) rs

-- ---- the connection goes with the request ----

-- a connection of which a request lets go, and the request
pub sound-let-go : (s : State) (age n : ℕ) (w : Bool) (st : Standing) (p : Place) (ds : List Connection) (qs : List Request) (spare : ℕ) (counts : Counts)
    → IsSound s
    → ((m : ℕ) → one (dials m (req age w st)) ≡ one (connects m (placed n p)))
    → ((m : ℕ) → one (checks m (req age w st)) ≡ one (is_checked m (placed n p)))
    → FewerConnections s.connections ds → how_many is_idle ds ≤ how_many is_idle s.connections
    → ((m : ℕ) → how_many (connects m) ds + one (connects m (placed n p)) ≡ how_many (connects m) s.connections)
    → ((m : ℕ) → how_many (is_checked m) ds + one (is_checked m (placed n p)) ≡ how_many (is_checked m) s.connections)
    → FewerRequests s.requests qs
    → ((m : ℕ) → how_many (dials m) qs + one (dials m (req age w st)) ≡ how_many (dials m) s.requests)
    → ((m : ℕ) → how_many (checks m) qs + one (checks m (req age w st)) ≡ how_many (checks m) s.requests)
    → how_many is_waiting qs ≤ how_many is_waiting s.requests
    → s.spare ≤ spare
    → IsSound (record s { connections = ds; requests = qs; spare = spare; counts = counts })
sound-let-go s age n w st p ds qs spare counts h as_made as_looked fewer idle cm cl fewer_requests rm rl wait room =
    sound_after s ds qs spare s.settled counts h fewer fewer_requests (omega (arith, h.few_idle, idle))
    (λ m. omega (arith, as_made m, cm m, rm m, h.made m))
    (λ m. omega (arith, as_looked m, cl m, rl m, h.looked_at m))
    (λ k. omega (arith, h.none_waits k, wait)) room
    (λ g. ((h.settled g).0, omega (arith, fewer.shorter, (h.settled g).1)))

-- the request ends, and its connection is freed
pub sound-drop-held : (s : State) (age n : ℕ) (w : Bool) (st : Standing) (p : Place) (counts : Counts)
    → IsSound s → IsAt age w st s.requests → is_free (req age w st) ≡ false
    → ((m : ℕ) → one (dials m (req age w st)) ≡ one (connects m (placed n p)))
    → ((m : ℕ) → one (checks m (req age w st)) ≡ one (is_checked m (placed n p)))
    → find (has_number n) s.connections ≡ Some (placed n p)
    → IsSound (record s { connections = without (has_number n) s.connections; requests = wake (ended age s.requests); spare = s.spare + 1; counts = counts })
sound-drop-held s age n w st p counts h e held as_made as_looked found =
    let other = holder-not-last s age w st h e held in
    let wq = wake-quiet (ended age s.requests) in
    sound-let-go s age n w st p (without (has_number n) s.connections) (wake (ended age s.requests)) (s.spare + 1) counts h as_made as_looked
    (freed-fewer n s.connections) (count-without-le is_idle (has_number n) s.connections)
    (λ m. count-without (connects m) (has_number n) s.connections (placed n p) found)
    (λ m. count-without (is_checked m) (has_number n) s.connections (placed n p) found)
    (fewer-requests s.requests (ended age s.requests) (wake (ended age s.requests)) (ended-fewer age s.requests) wq.fewer)
    (λ m. omega (arith, wq.dials m, ended-count (dials m) age s.requests (req age w st) e other))
    (λ m. omega (arith, wq.checks m, ended-count (checks m) age s.requests (req age w st) e other))
    (omega (arith, wake-waiting (ended age s.requests), ended-less is_waiting age s.requests)) (omega arith)

-- the request ends, and its connection is handed out
pub sound-hand-out : (s : State) (age n : ℕ) (w : Bool) (st : Standing) (p : Place)
    → IsSound s → IsAt age w st s.requests → is_free (req age w st) ≡ false
    → ((m : ℕ) → one (dials m (req age w st)) ≡ one (connects m (placed n p)))
    → ((m : ℕ) → one (checks m (req age w st)) ≡ one (is_checked m (placed n p)))
    → find (has_number n) s.connections ≡ Some (placed n p)
    → IsSound (record s { connections = move_to n Leased s.connections; requests = ended age s.requests })
sound-hand-out s age n w st p h e held as_made as_looked found =
    let other = holder-not-last s age w st h e held in
    sound-let-go s age n w st p (move_to n Leased s.connections) (ended age s.requests) s.spare s.counts h as_made as_looked
    (move-fewer n Leased p s.connections found)
    (omega (arith, move-count is_idle n Leased p s.connections found))
    (λ m. omega (arith, move-count (connects m) n Leased p s.connections found))
    (λ m. omega (arith, move-count (is_checked m) n Leased p s.connections found))
    (ended-fewer age s.requests)
    (λ m. ended-count (dials m) age s.requests (req age w st) e other)
    (λ m. ended-count (checks m) age s.requests (req age w st) e other)
    (ended-less is_waiting age s.requests) (omega arith)

-- a change of the request that is found by its age
pub found-change-fewer : (age : ℕ) (f : Request → Request) (rs : List Request) (r : Request) → find (has_age age) rs ≡ Some r
    → ((r : Request) → (f r).age ≡ r.age)
    → one (is_unmarked (f r)) ≤ one (is_unmarked r) → one (is_dialer (f r)) ≤ one (is_dialer r) → one (is_last_busy (f r)) ≤ one (is_last_busy r)
    → FewerRequests rs (change_first (has_age age) f rs)
found-change-fewer age f rs r e same unmarked dialers last = record {
  rising = rising-change (has_age age) f same 0 rs;
  ages = λ q. count-change-less (λ r. q r.age) (has_age age) f (λ r _. let k : one (q (f r).age) ≡ one (q r.age) = ap (λ a. one (q a)) (same r) in omega arith) rs;
  unmarked = omega (arith, unmarked, count-change is_unmarked (has_age age) f rs r e);
  dialers = omega (arith, dialers, count-change is_dialer (has_age age) f rs r e);
  last = omega (arith, last, count-change is_last_busy (has_age age) f rs r e);
}

-- a request that looked at a connection has none again, and the connection is freed
pub sound-unchecked : (s : State) (age n : ℕ) (w : Bool) (counts : Counts)
    → IsSound s → IsAt age w (Checks n) s.requests
    → IsSound (record s { connections = without (has_number n) s.connections; requests = wake (set_standing age Asks s.requests); spare = s.spare + 1; counts = counts })
sound-unchecked s age n w counts h e =
    let found = checking-found s age n w h e in
    let rs = set_standing age Asks s.requests in
    let wq = wake-quiet rs in
    sound-let-go s age n w (Checks n) Checking (without (has_number n) s.connections) (wake rs) (s.spare + 1) counts h (λ m. refl) (λ m. refl)
    (freed-fewer n s.connections) (count-without-le is_idle (has_number n) s.connections)
    (λ m. count-without (connects m) (has_number n) s.connections (placed n Checking) found)
    (λ m. count-without (is_checked m) (has_number n) s.connections (placed n Checking) found)
    (fewer-requests s.requests rs (wake rs)
    (found-change-fewer age (standing_as Asks) s.requests (req age w (Checks n)) e (λ r. refl) (omega arith) (omega arith) (omega arith))
    wq.fewer)
    (λ m. omega (arith, wq.dials m, count-change (dials m) (has_age age) (standing_as Asks) s.requests (req age w (Checks n)) e))
    (λ m. omega (arith, wq.checks m, count-change (checks m) (has_age age) (standing_as Asks) s.requests (req age w (Checks n)) e))
    (omega (arith, wake-waiting rs, count-change is_waiting (has_age age) (standing_as Asks) s.requests (req age w (Checks n)) e)) (omega arith)
