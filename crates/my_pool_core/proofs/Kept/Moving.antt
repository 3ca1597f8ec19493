-- Connections that nobody holds are moved, freed, returned.
use Rattle.std.proofs.Common.{◌≡◌, ℕ, ◌+◌, ◌≤◌, Bool, true, false, cond, Some, List, [], ◌∷◌, ◌++◌, length, refl, sym, ap, ◌∙◌, arith}
use Rattle.std.specs.Prelude.{find, ◌==◌, ◌&&◌, not}
use Rattle.std.specs.List.{list_any}
use Rattle.my_pool_parts.specs.declared.connection.Connection.{Connection}
use Rattle.my_pool_parts.specs.declared.connection.Place.{Place}
use Rattle.my_pool_parts.specs.declared.connection.Place.TheVariants.{Idle, Leased, Connecting, Checking, Returned, Cleaning, Resetting, Closing}
use Rattle.my_pool_parts.specs.declared.connection.Times.{Times}
use Rattle.my_pool_parts.specs.declared.request.Request.{Request}
use Rattle.my_pool_core.specs.declared.limits.Counts.{Counts}
use Rattle.my_frame.specs.Lists.{without}
use Rattle.my_pool_parts.specs.Lists.{how_many}
use Rattle.my_pool_parts.specs.Connections.{placed, has_number, is_idle, is_idle_place, is_usable, is_left, is_connecting_place, is_checking_place, move_to, unexpired, expired, retire, is_outdated, lasting, outdated}
use Rattle.my_pool_parts.specs.Requests.{is_waiting}
use Rattle.my_pool_core.specs.State.{State}
use Rattle.my_pool_core.specs.Sound.{IsSound, connects, is_checked}
use Rattle.my_pool_parts.proofs.Finding.{one, count-without-le, count-append, count-push}
use Rattle.my_pool_core.proofs.Kept.Fewer.{FewerConnections, same-requests, sound_after, move-fewer, move-same, freed-fewer, freed-same}
use Rattle.my_pool_core.proofs.Kept.Quiet.{QuietRequests}

-- a connection that nobody holds changes its place
pub sound-move : (s : State) (n : ℕ) (p p0 : Place) (qs : List Request) (counts : Counts)
    → IsSound s → find (has_number n) s.connections ≡ Some (placed n p0)
    → is_connecting_place p0 ≡ false → is_checking_place p0 ≡ false → is_connecting_place p ≡ false → is_checking_place p ≡ false
    → QuietRequests s.requests qs → (s.closed ≡ true → how_many is_waiting qs ≡ 0)
    → how_many is_idle (move_to n p s.connections) ≤ s.limits.bound
    → IsSound (record s { connections = move_to n p s.connections; requests = qs; counts = counts })
sound-move s n p p0 qs counts h e wasc wask isc isk quiet wait idle =
    let fewer = move-fewer n p p0 s.connections e in
    sound_after s (move_to n p s.connections) qs s.spare s.settled counts h fewer quiet.fewer idle
    (λ m. quiet.dials m ∙ h.made m ∙ sym (move-same is_connecting_place m n p p0 s.connections e wasc isc))
    (λ m. quiet.checks m ∙ h.looked_at m ∙ sym (move-same is_checking_place m n p p0 s.connections e wask isk))
    wait (omega arith) (λ g. ((h.settled g).0, omega (arith, fewer.shorter, (h.settled g).1)))

-- a connection that nobody holds is freed
pub sound-free : (s : State) (n : ℕ) (p0 : Place) (qs : List Request) (counts : Counts)
    → IsSound s → find (has_number n) s.connections ≡ Some (placed n p0)
    → is_connecting_place p0 ≡ false → is_checking_place p0 ≡ false
    → QuietRequests s.requests qs → (s.closed ≡ true → how_many is_waiting qs ≡ 0)
    → IsSound (record s { connections = without (has_number n) s.connections; requests = qs; spare = s.spare + 1; counts = counts })
sound-free s n p0 qs counts h e wasc wask quiet wait =
    let fewer = freed-fewer n s.connections in
    sound_after s (without (has_number n) s.connections) qs (s.spare + 1) s.settled counts h fewer quiet.fewer
    (omega (arith, h.few_idle, count-without-le is_idle (has_number n) s.connections))
    (λ m. quiet.dials m ∙ h.made m ∙ sym (freed-same is_connecting_place m n p0 s.connections e wasc))
    (λ m. quiet.checks m ∙ h.looked_at m ∙ sym (freed-same is_checking_place m n p0 s.connections e wask))
    wait (omega arith) (λ g. ((h.settled g).0, omega (arith, fewer.shorter, (h.settled g).1)))

-- ---- idle connections that are returned ----

pub both : (a b : Bool) → (a && b) ≡ true → (a ≡ true) × (b ≡ true)
both true true e = (refl, refl)
both true false e = absurd (cc)
both false b e = absurd (cc)

pub not-true : (b : Bool) → not b ≡ true → b ≡ false
not-true true e = absurd (cc)
not-true false e = refl

left-is : (now : ℕ) (c : Connection) (cs : List Connection) → is_left now c cs ≡ true → (is_idle c ≡ true) × (is_usable now c ≡ false)
left-is now c cs e =
    let x = both (is_idle c && not (is_usable now c)) (not (list_any (is_usable now) cs)) e in
    let y = both (is_idle c) (not (is_usable now c)) x.0 in
    (y.0, not-true (is_usable now c) y.1)

-- what is said of retiring holds where a test tells no expired idle connection from a returned one
pub retire-count : (q : Connection → Bool) (now : ℕ) → ((c : Connection) → is_idle c ≡ true → is_usable now c ≡ false → q (placed c.number (Returned false)) ≡ q c) → (cs : List Connection) → how_many q (unexpired now cs) + how_many q (expired now cs) ≡ how_many q cs
retire-count q now same [] = omega arith
retire-count q now same (c ∷ cs) =
    elim (is_left now c cs) as (λ b. is_left now c cs ≡ b → how_many q (cond b (unexpired now cs) (c ∷ unexpired now cs)) + how_many q (cond b (expired now cs ++ placed c.number (Returned false) ∷ []) (expired now cs)) ≡ one (q c) + how_many q cs) [
      | true ↦ λ e. let i = left-is now c cs e in omega (arith, retire-count q now same cs, count-push q (expired now cs) (placed c.number (Returned false)), ap one (same c i.0 i.1))
      | false ↦ λ e. omega (arith, retire-count q now same cs)
    ] refl

pub retire-same : (q : Connection → Bool) (now : ℕ) → ((c : Connection) → is_idle c ≡ true → is_usable now c ≡ false → q (placed c.number (Returned false)) ≡ q c) → (cs : List Connection) → how_many q (retire now cs) ≡ how_many q cs
retire-same q now same cs = count-append q (unexpired now cs) (expired now cs) ∙ retire-count q now same cs

pub none-expired-idle : (now : ℕ) (cs : List Connection) → how_many is_idle (expired now cs) ≡ 0
none-expired-idle now [] = refl
none-expired-idle now (c ∷ cs) =
    elim (is_left now c cs) as (λ b. how_many is_idle (cond b (expired now cs ++ placed c.number (Returned false) ∷ []) (expired now cs)) ≡ 0) [
      | true ↦ omega (arith, none-expired-idle now cs, count-push is_idle (expired now cs) (placed c.number (Returned false)))
      | false ↦ none-expired-idle now cs
    ]

unexpired-less : (q : Connection → Bool) (now : ℕ) (cs : List Connection) → how_many q (unexpired now cs) ≤ how_many q cs
unexpired-less q now [] = omega arith
unexpired-less q now (c ∷ cs) =
    elim (is_left now c cs) as (λ b. how_many q (cond b (unexpired now cs) (c ∷ unexpired now cs)) ≤ one (q c) + how_many q cs) [
      | true ↦ omega (arith, unexpired-less q now cs)
      | false ↦ omega (arith, unexpired-less q now cs)
    ]

pub retire-idle : (now : ℕ) (cs : List Connection) → how_many is_idle (retire now cs) ≤ how_many is_idle cs
retire-idle now cs = omega (arith, count-append is_idle (unexpired now cs) (expired now cs), none-expired-idle now cs, unexpired-less is_idle now cs)

placed-blind : (k : Place → Bool) (m n : ℕ) (p : Place) (marked : Bool) → ((times : Times) → k (Idle times) ≡ false) → k (Returned marked) ≡ false → is_idle_place p ≡ true → (k (Returned marked) && (n == m)) ≡ (k p && (n == m))
placed-blind k m n (Idle times) marked was is e = ap (λ b. b && (n == m)) (is ∙ sym (was times))
placed-blind k m n Leased marked was is e = absurd (cc)
placed-blind k m n Connecting marked was is e = absurd (cc)
placed-blind k m n Checking marked was is e = absurd (cc)
placed-blind k m n (Returned mk) marked was is e = absurd (cc)
placed-blind k m n (Cleaning mk) marked was is e = absurd (cc)
placed-blind k m n Resetting marked was is e = absurd (cc)
placed-blind k m n Closing marked was is e = absurd (cc)

-- a test on places that passes neither idle nor returned ones
pub idle-blind : (k : Place → Bool) (m : ℕ) (marked : Bool) → ((times : Times) → k (Idle times) ≡ false) → k (Returned marked) ≡ false
    → (c : Connection) → is_idle c ≡ true → (k (Returned marked) && (c.number == m)) ≡ (k c.place && has_number m c)
idle-blind k m marked was is c e = placed-blind k m c.number c.place marked was is e

pub all-count : (cs : List Connection) → how_many (λ c. true) cs ≡ length cs
all-count [] = refl
all-count (c ∷ cs) = omega (arith, all-count cs)

pub retire-fewer : (now : ℕ) (cs : List Connection) → FewerConnections cs (retire now cs)
retire-fewer now cs = record {
  shorter = omega (arith, all-count cs, all-count (retire now cs), retire-same (λ c. true) now (λ c i u. refl) cs);
  numbers = λ q. let e = retire-same (λ c. q c.number) now (λ c i u. refl) cs in omega (arith, e);
}

pub sound-retire : (s : State) (now : ℕ) → IsSound s → IsSound (record s { connections = retire now s.connections })
sound-retire s now h =
    let fewer = retire-fewer now s.connections in
    sound_after s (retire now s.connections) s.requests s.spare s.settled s.counts h fewer (same-requests s.requests)
    (omega (arith, h.few_idle, retire-idle now s.connections))
    (λ m. h.made m ∙ sym (retire-same (connects m) now (λ c i u. idle-blind is_connecting_place m false (λ _. refl) refl c i) s.connections))
    (λ m. h.looked_at m ∙ sym (retire-same (is_checked m) now (λ c i u. idle-blind is_checking_place m false (λ _. refl) refl c i) s.connections))
    h.none_waits (omega arith) (λ g. ((h.settled g).0, omega (arith, fewer.shorter, (h.settled g).1)))

-- ---- idle connections whose time is over ----

outdated-idle : (now inactive many moved : ℕ) (p : Place) → is_outdated now inactive many moved p ≡ true → is_idle_place p ≡ true
outdated-idle now inactive many moved (Idle times) e = refl
outdated-idle now inactive many moved Leased e = e
outdated-idle now inactive many moved Connecting e = e
outdated-idle now inactive many moved Checking e = e
outdated-idle now inactive many moved (Returned marked) e = e
outdated-idle now inactive many moved (Cleaning marked) e = e
outdated-idle now inactive many moved Resetting e = e
outdated-idle now inactive many moved Closing e = e

pub lasting-count : (q : Connection → Bool) (now inactive many moved : ℕ) → ((c : Connection) → is_idle c ≡ true → q (placed c.number (Returned true)) ≡ q c) → (cs : List Connection) → how_many q (lasting now inactive many moved cs) + how_many q (outdated now inactive many moved cs) ≡ how_many q cs
lasting-count q now inactive many moved same [] = omega arith
lasting-count q now inactive many moved same (c ∷ cs) =
    elim (is_outdated now inactive many moved c.place) as (λ b. is_outdated now inactive many moved c.place ≡ b → how_many q (cond b (lasting now inactive many (moved + 1) cs) (c ∷ lasting now inactive many moved cs)) + how_many q (cond b (placed c.number (Returned true) ∷ outdated now inactive many (moved + 1) cs) (outdated now inactive many moved cs)) ≡ one (q c) + how_many q cs) [
      | true ↦ λ e. omega (arith, lasting-count q now inactive many (moved + 1) same cs, ap one (same c (outdated-idle now inactive many moved c.place e)))
      | false ↦ λ e. omega (arith, lasting-count q now inactive many moved same cs)
    ] refl

none-outdated-idle : (now inactive many moved : ℕ) (cs : List Connection) → how_many is_idle (outdated now inactive many moved cs) ≡ 0
none-outdated-idle now inactive many moved [] = refl
none-outdated-idle now inactive many moved (c ∷ cs) =
    elim (is_outdated now inactive many moved c.place) as (λ b. how_many is_idle (cond b (placed c.number (Returned true) ∷ outdated now inactive many (moved + 1) cs) (outdated now inactive many moved cs)) ≡ 0) [
      | true ↦ omega (arith, none-outdated-idle now inactive many (moved + 1) cs)
      | false ↦ none-outdated-idle now inactive many moved cs
    ]

lasting-less : (q : Connection → Bool) (now inactive many moved : ℕ) (cs : List Connection) → how_many q (lasting now inactive many moved cs) ≤ how_many q cs
lasting-less q now inactive many moved [] = omega arith
lasting-less q now inactive many moved (c ∷ cs) =
    elim (is_outdated now inactive many moved c.place) as (λ b. how_many q (cond b (lasting now inactive many (moved + 1) cs) (c ∷ lasting now inactive many moved cs)) ≤ one (q c) + how_many q cs) [
      | true ↦ omega (arith, lasting-less q now inactive many (moved + 1) cs)
      | false ↦ omega (arith, lasting-less q now inactive many moved cs)
    ]

-- those that stay, and then those that don't
abbrev pub swept : ℕ → ℕ → ℕ → List Connection → List Connection
swept now inactive many cs = lasting now inactive many 0 cs ++ outdated now inactive many 0 cs

pub swept-same : (q : Connection → Bool) (now inactive many : ℕ) → ((c : Connection) → is_idle c ≡ true → q (placed c.number (Returned true)) ≡ q c) → (cs : List Connection) → how_many q (swept now inactive many cs) ≡ how_many q cs
swept-same q now inactive many same cs = count-append q (lasting now inactive many 0 cs) (outdated now inactive many 0 cs) ∙ lasting-count q now inactive many 0 same cs

pub swept-idle : (now inactive many : ℕ) (cs : List Connection) → how_many is_idle (swept now inactive many cs) ≤ how_many is_idle cs
swept-idle now inactive many cs = omega (arith, count-append is_idle (lasting now inactive many 0 cs) (outdated now inactive many 0 cs), none-outdated-idle now inactive many 0 cs, lasting-less is_idle now inactive many 0 cs)

pub swept-fewer : (now inactive many : ℕ) (cs : List Connection) → FewerConnections cs (swept now inactive many cs)
swept-fewer now inactive many cs = record {
  shorter = omega (arith, all-count cs, all-count (swept now inactive many cs), swept-same (λ c. true) now inactive many (λ c i. refl) cs);
  numbers = λ q. let e = swept-same (λ c. q c.number) now inactive many (λ c i. refl) cs in omega (arith, e);
}

pub sound-swept : (s : State) (now many : ℕ) → IsSound s → IsSound (record s { connections = swept now s.limits.inactive many s.connections })
sound-swept s now many h =
    let fewer = swept-fewer now s.limits.inactive many s.connections in
    sound_after s (swept now s.limits.inactive many s.connections) s.requests s.spare s.settled s.counts h fewer (same-requests s.requests)
    (omega (arith, h.few_idle, swept-idle now s.limits.inactive many s.connections))
    (λ m. h.made m ∙ sym (swept-same (connects m) now s.limits.inactive many (λ c i. idle-blind is_connecting_place m true (λ _. refl) refl c i) s.connections))
    (λ m. h.looked_at m ∙ sym (swept-same (is_checked m) now s.limits.inactive many (λ c i. idle-blind is_checking_place m true (λ _. refl) refl c i) s.connections))
    h.none_waits (omega arith) (λ g. ((h.settled g).0, omega (arith, fewer.shorter, (h.settled g).1)))
