-- Events that add neither a connection nor a request.
use Rattle.std.proofs.Common.{◌≡◌, ℕ, ◌+◌, ◌≤◌, Bool, true, false, cond, Some, List, [], ◌∷◌, length, ap, arith}
use Rattle.std.specs.Prelude.{find, ◌==◌, ◌&&◌, not, nat_le}
use Rattle.my_pool_parts.specs.declared.connection.Connection.{Connection}
use Rattle.my_pool_parts.specs.declared.connection.Place.{Place}
use Rattle.my_pool_parts.specs.declared.request.Request.{Request}
use Rattle.my_pool_core.specs.declared.limits.Counts.{Counts}
use Rattle.my_frame.specs.Lists.{without}
use Rattle.my_pool_parts.specs.Lists.{change_first, how_many}
use Rattle.my_pool_parts.specs.Connections.{placed, has_number, is_idle, move_to}
use Rattle.my_pool_parts.specs.Requests.{last_age, has_age, is_waiting, ended, IsRising}
use Rattle.my_pool_core.specs.State.{State}
use Rattle.my_pool_core.specs.Sound.{IsSound, dials, checks, connects, is_checked, is_unmarked, is_dialer, is_last_busy}
use Rattle.my_frame.proofs.Finding.{found-passes}
use Rattle.my_pool_parts.proofs.Finding.{one, count-without, count-without-le, count-change-less, count-push, length-without, shorter-without}
use Rattle.my_pool_parts.proofs.Finding.Rising.{rising-without, rising-change}
use Rattle.std.proofs.Common.{length-append}
use Rattle.std.proofs.lemmas.Bool.{eqb-true}

-- not more connections, and no new number
pub record FewerConnections (cs ds : List Connection) : Type 0 where
  pub shorter : length ds ≤ length cs
  pub numbers : (q : ℕ → Bool) → how_many (λ c. q c.number) ds ≤ how_many (λ c. q c.number) cs

-- not more requests, and no new age
pub record FewerRequests (rs qs : List Request) : Type 0 where
  pub rising : IsRising 0 rs → IsRising 0 qs
  pub ages : (q : ℕ → Bool) → how_many (λ r. q r.age) qs ≤ how_many (λ r. q r.age) rs
  pub unmarked : how_many is_unmarked qs ≤ how_many is_unmarked rs
  pub dialers : how_many is_dialer qs ≤ how_many is_dialer rs
  pub last : how_many is_last_busy qs ≤ how_many is_last_busy rs

pub sound_after : (s : State) (ds : List Connection) (qs : List Request) (spare : ℕ) (settled : Bool) (counts : Counts)
    → IsSound s → FewerConnections s.connections ds → FewerRequests s.requests qs
    → how_many is_idle ds ≤ s.limits.bound
    → ((n : ℕ) → how_many (dials n) qs ≡ how_many (connects n) ds)
    → ((n : ℕ) → how_many (checks n) qs ≡ how_many (is_checked n) ds)
    → (s.closed ≡ true → how_many is_waiting qs ≡ 0)
    → s.spare ≤ spare
    → (settled ≡ true → (s.closed ≡ true) × (length ds ≡ 0))
    → IsSound (record s { connections = ds; requests = qs; spare = spare; settled = settled; counts = counts })
sound_after s ds qs spare settled counts h c r idle made looked wait room gone = record {
  few = omega (arith, h.few, c.shorter);
  few_idle = idle;
  once = λ n. omega (arith, h.once n, c.numbers (λ m. m == n));
  numbered = omega (arith, h.numbered, c.numbers (λ m. nat_le s.next_number m));
  rising = r.rising h.rising;
  ages_left = h.ages_left;
  born = omega (arith, h.born, r.ages (λ a. nat_le s.next_age a && not (a == last_age)));
  made = made;
  looked_at = looked;
  marked = omega (arith, h.marked, r.unmarked);
  numbers_left = omega (arith, h.numbers_left, r.dialers);
  room = omega (arith, h.room, r.dialers, room);
  none_waits = wait;
  settled = gone;
  last_closes = λ live. h.last_closes (omega (arith, live, r.ages (λ a. a == last_age)));
  last_asks = omega (arith, h.last_asks, r.last);
}

-- ---- a connection that is moved or freed ----

-- a connection that is found by a number has it
pub found-placed : (n : ℕ) (cs : List Connection) (c : Connection) → find (has_number n) cs ≡ Some c → c ≡ placed n c.place
found-placed n cs c e = ap (λ m. placed m c.place) (eqb-true c.number n (found-passes (has_number n) cs c e))

pub move-fewer : (n : ℕ) (p p0 : Place) (cs : List Connection) → find (has_number n) cs ≡ Some (placed n p0) → FewerConnections cs (move_to n p cs)
move-fewer n p p0 cs e = record {
  shorter = omega (arith, length-append (without (has_number n) cs) (placed n p ∷ []), length-without (has_number n) cs (placed n p0) e);
  numbers = λ q. omega (arith, count-push (λ c. q c.number) (without (has_number n) cs) (placed n p), count-without (λ c. q c.number) (has_number n) cs (placed n p0) e);
}

pub move-count : (q : Connection → Bool) (n : ℕ) (p p0 : Place) (cs : List Connection) → find (has_number n) cs ≡ Some (placed n p0) → how_many q (move_to n p cs) + one (q (placed n p0)) ≡ how_many q cs + one (q (placed n p))
move-count q n p p0 cs e = omega (arith, count-push q (without (has_number n) cs) (placed n p), count-without q (has_number n) cs (placed n p0) e)

-- places of which a test tells nothing
pub move-same : (k : Place → Bool) (m n : ℕ) (p p0 : Place) (cs : List Connection) → find (has_number n) cs ≡ Some (placed n p0) → k p0 ≡ false → k p ≡ false → how_many (λ c. k c.place && has_number m c) (move_to n p cs) ≡ how_many (λ c. k c.place && has_number m c) cs
move-same k m n p p0 cs e was is =
    let a : one (k p0 && (n == m)) ≡ 0 = ap (λ b. one (b && (n == m))) was in
    let b : one (k p && (n == m)) ≡ 0 = ap (λ b. one (b && (n == m))) is in
    omega (arith, move-count (λ c. k c.place && has_number m c) n p p0 cs e, a, b)

pub freed-fewer : (n : ℕ) (cs : List Connection) → FewerConnections cs (without (has_number n) cs)
freed-fewer n cs = record {
  shorter = shorter-without (has_number n) cs;
  numbers = λ q. count-without-le (λ c. q c.number) (has_number n) cs;
}

pub freed-same : (k : Place → Bool) (m n : ℕ) (p0 : Place) (cs : List Connection) → find (has_number n) cs ≡ Some (placed n p0) → k p0 ≡ false → how_many (λ c. k c.place && has_number m c) (without (has_number n) cs) ≡ how_many (λ c. k c.place && has_number m c) cs
freed-same k m n p0 cs e was =
    let a : one (k p0 && (n == m)) ≡ 0 = ap (λ b. one (b && (n == m))) was in
    omega (arith, count-without (λ c. k c.place && has_number m c) (has_number n) cs (placed n p0) e, a)

pub same-connections : (cs : List Connection) → FewerConnections cs cs
same-connections cs = record { shorter = omega arith; numbers = λ q. omega arith }

pub fewer-connections : (cs ds es : List Connection) → FewerConnections cs ds → FewerConnections ds es → FewerConnections cs es
fewer-connections cs ds es h k = record { shorter = omega (arith, h.shorter, k.shorter); numbers = λ q. omega (arith, h.numbers q, k.numbers q) }

-- ---- requests that are woken, wait, hold nothing any more, or end ----

pub same-requests : (rs : List Request) → FewerRequests rs rs
same-requests rs = record { rising = λ h. h; ages = λ q. omega arith; unmarked = omega arith; dialers = omega arith; last = omega arith }

pub fewer-requests : (rs qs os : List Request) → FewerRequests rs qs → FewerRequests qs os → FewerRequests rs os
fewer-requests rs qs os h k = record {
  rising = λ up. k.rising (h.rising up);
  ages = λ q. omega (arith, h.ages q, k.ages q);
  unmarked = omega (arith, h.unmarked, k.unmarked);
  dialers = omega (arith, h.dialers, k.dialers);
  last = omega (arith, h.last, k.last);
}

pub ended-fewer : (age : ℕ) (rs : List Request) → FewerRequests rs (ended age rs)
ended-fewer age rs = elim (age == last_age) as (λ b. FewerRequests rs (cond b rs (without (has_age age) rs))) [
  | true ↦ same-requests rs
  | false ↦ record {
    rising = rising-without (has_age age) 0 rs;
    ages = λ q. count-without-le (λ r. q r.age) (has_age age) rs;
    unmarked = count-without-le is_unmarked (has_age age) rs;
    dialers = count-without-le is_dialer (has_age age) rs;
    last = count-without-le is_last_busy (has_age age) rs;
  }
]

-- a change that keeps the age, and neither adds an unmarked request, nor a dialer, nor a connection of the last age
pub changed-fewer : (key : Request → Bool) (f : Request → Request) (rs : List Request)
    → ((r : Request) → (f r).age ≡ r.age)
    → ((r : Request) → key r ≡ true → one (is_unmarked (f r)) ≤ one (is_unmarked r))
    → ((r : Request) → key r ≡ true → one (is_dialer (f r)) ≤ one (is_dialer r))
    → ((r : Request) → key r ≡ true → one (is_last_busy (f r)) ≤ one (is_last_busy r))
    → FewerRequests rs (change_first key f rs)
changed-fewer key f rs age unmarked dialers last = record {
  rising = rising-change key f age 0 rs;
  ages = λ q. count-change-less (λ r. q r.age) key f (λ r _. let e : one (q (f r).age) ≡ one (q r.age) = ap (λ a. one (q a)) (age r) in omega arith) rs;
  unmarked = count-change-less is_unmarked key f unmarked rs;
  dialers = count-change-less is_dialer key f dialers rs;
  last = count-change-less is_last_busy key f last rs;
}
