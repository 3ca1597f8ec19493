-- The wakers after a polled request: there is room for one more where it waits.
use Rattle.std.proofs.Common.{◌≡◌, ℕ, ◌+◌, ◌<◌, ◌≤◌, Bool, true, false, cond, Option, Some, None, List, [], ◌∷◌, ◌++◌, length, refl, sym, ap, ◌∙◌, arith, subst, zero, suc}
use Rattle.std.specs.Prelude.{find, ◌==◌, ◌&&◌, not}
use Rattle.std.specs.List.{filter, list_all}
use Rattle.std.proofs.lemmas.Bool.{eqb-true, eq-eqb}
use Rattle.my_frame.specs.Lists.{without}
use Rattle.my_pool_parts.specs.declared.request.Request.{Request}
use Rattle.my_pool_parts.specs.declared.request.Standing.{Standing}
use Rattle.my_pool_parts.specs.declared.request.Standing.TheVariants.{Asks, Waits, Woken, Dials, Checks}
use Rattle.my_pool_parts.specs.Lists.{how_many, found_is}
use Rattle.my_pool_parts.specs.Requests.{has_age, is_waiting, is_waiting_standing, is_dialing_standing, last_age, may_dial}
use Rattle.my_pool_parts.proofs.Finding.{one, count-without, count-without-le, count-either, count-push}
use Rattle.my_pool_core.specs.Counted.{room}
use Rattle.my_pool_core.specs.Sound.{IsSound, is_dialer}
use Rattle.my_pool_core.specs.State.{State}
use Rattle.my_pool_core.proofs.Kept.Moving.{both}
use Rattle.my_pool_core.specs.Wakes.{waits}
use Rattle.my_pool_store.specs.Woken.{waiting, kept_for}
use Rattle.my_pool_store.proofs.Finding.{find-other}

pub filter-all : {X : Type 0} (p : X → Bool) (xs : List X) → list_all p (filter p xs) ≡ true
filter-all p [] = refl
filter-all {X} p (x ∷ xs) =
    elim (p x) as (λ b. p x ≡ b → list_all p (cond b (x ∷ filter p xs) (filter p xs)) ≡ true) [
      | true ↦ λ e. rw e (filter-all p xs)
      | false ↦ λ e. filter-all p xs
    ] refl

pub filter-fewer : {X : Type 0} (p q : X → Bool) (xs : List X) → how_many q (filter p xs) ≤ how_many q xs
filter-fewer p q [] = omega arith
filter-fewer {X} p q (x ∷ xs) =
    elim (p x) as (λ b. how_many q (cond b (x ∷ filter p xs) (filter p xs)) ≤ one (q x) + how_many q xs) [
      | true ↦ omega (arith, filter-fewer p q xs)
      | false ↦ omega (arith, filter-fewer p q xs)
    ]

abbrev is-age : ℕ → ℕ → Bool
is-age age a = a == age

-- of a list of requests
abbrev waits-in : List Request → ℕ → Bool
waits-in rs age = found_is is_waiting (find (has_age age) rs)

-- a request that is taken out tells nothing of other ages
all-without : (a : ℕ) (rs : List Request) (ages : List ℕ) → how_many (is-age a) ages ≡ 0 → list_all (waits-in rs) ages ≡ true → list_all (waits-in (without (has_age a) rs)) ages ≡ true
all-without a rs [] none all = refl
all-without a rs (b ∷ bs) none all =
    let h = both (waits-in rs b) (list_all (waits-in rs) bs) all in
    elim (b == a) as (λ t. (b == a) ≡ t → one t + how_many (is-age a) bs ≡ 0 → (waits-in (without (has_age a) rs) b && list_all (waits-in (without (has_age a) rs)) bs) ≡ true) [
      | true ↦ λ t k. absurd (omega arith)
      | false ↦ λ t k.
          let here : waits-in (without (has_age a) rs) b ≡ true = ap (found_is is_waiting) (find-other (λ (r : Request). r.age) a b rs t) ∙ h.0 in
          rw here (all-without a rs bs (omega arith) h.1)
    ] refl none

found-waiting : (o : Option Request) → found_is is_waiting o ≡ true → (r : Request) × (o ≡ Some r) × (is_waiting r ≡ true)
found-waiting None e = absurd (cc)
found-waiting (Some r) e = (r, refl, e)

-- ages that stand once, and all wait, are no more than the requests that wait
pub few-waiting : (ages : List ℕ) (rs : List Request) → ((age : ℕ) → how_many (is-age age) ages ≤ 1) → list_all (waits-in rs) ages ≡ true → length ages ≤ how_many is_waiting rs
few-waiting [] rs once all = omega arith
few-waiting (a ∷ as_) rs once all =
    let h = both (waits-in rs a) (list_all (waits-in rs) as_) all in
    let f = found-waiting (find (has_age a) rs) h.0 in
    let itself : one (a == a) ≡ 1 = ap one (eq-eqb a a refl) in
    let none : how_many (is-age a) as_ ≡ 0 = omega (arith, itself, once a) in
    let rest = few-waiting as_ (without (has_age a) rs) (λ b. omega (arith, once b)) (all-without a rs as_ none h.1) in
    omega (arith, rest, ap one f.2, count-without is_waiting (has_age a) rs f.0 f.1)

waiting-dials : (st : Standing) → is_waiting_standing st ≡ true → not (is_dialing_standing st) ≡ true
waiting-dials Asks e = absurd (cc)
waiting-dials Waits e = refl
waiting-dials Woken e = absurd (cc)
waiting-dials (Dials n) e = absurd (cc)
waiting-dials (Checks n) e = absurd (cc)

waiting-is : (r : Request) → one (is_waiting r) ≤ one (is_dialer r) + one (has_age last_age r)
waiting-is r =
    elim (is_waiting r) as (λ w. is_waiting r ≡ w → one w ≤ one (is_dialer r) + one (has_age last_age r)) [
      | true ↦ λ e.
          let m : may_dial r ≡ true = waiting-dials r.standing e in
          elim (r.age == last_age) as (λ b. (r.age == last_age) ≡ b → 1 ≤ one (may_dial r && not b) + one b) [
            | true ↦ λ k. omega arith
            | false ↦ λ k. rw m (omega arith)
          ] refl
      | false ↦ λ e. omega arith
    ] refl

-- those that wait have room
pub waiting-room : (s : State) → IsSound s → how_many is_waiting s.requests ≤ s.spare
waiting-room s h =
    elim s.closed as (λ b. s.closed ≡ b → how_many is_waiting s.requests ≤ s.spare) [
      | true ↦ λ shut. omega (arith, h.none_waits shut)
      | false ↦ λ open_.
          let all = count-either is_waiting is_dialer (has_age last_age) waiting-is s.requests in
          elim (how_many (has_age last_age) s.requests == 0) as (λ b. (how_many (has_age last_age) s.requests == 0) ≡ b → how_many is_waiting s.requests ≤ s.spare) [
            | true ↦ λ k. let zero = eqb-true (how_many (has_age last_age) s.requests) 0 k in omega (arith, h.room)
            | false ↦ λ k. absurd (let shut = h.last_closes (not-zero (how_many (has_age last_age) s.requests) k) in cc)
          ] refl
    ] refl
  where
    not-zero : (n : ℕ) → (n == 0) ≡ false → 0 < n
    not-zero zero e = absurd (cc)
    not-zero (suc n) e = omega arith

-- ---- a polled request's waker ----

forgotten : (age : ℕ) (ages : List ℕ) → how_many (is-age age) ages ≤ 1 → how_many (is-age age) (without (is-age age) ages) ≡ 0
forgotten age [] h = refl
forgotten age (a ∷ as_) h =
    elim (a == age) as (λ b. (a == age) ≡ b → one b + how_many (is-age age) as_ ≤ 1 → how_many (is-age age) (cond b as_ (a ∷ without (is-age age) as_)) ≡ 0) [
      | true ↦ λ e k. omega arith
      | false ↦ λ e k. omega (arith, ap one e, forgotten age as_ (omega arith))
    ] refl h

-- the ages of those that wait still, but for this one
abbrev pub left-of : ℕ → State → List ℕ → List ℕ
left-of age s ages = waiting s (without (λ a. a == age) ages)

left-once : (age b : ℕ) (s : State) (ages : List ℕ) → how_many (is-age b) ages ≤ 1 → how_many (is-age b) (left-of age s ages) ≤ 1
left-once age b s ages h = omega (arith, h, filter-fewer (λ a. waits a s) (is-age b) (without (is-age age) ages), count-without-le (is-age b) (is-age age) ages)

left-none : (age : ℕ) (s : State) (ages : List ℕ) → how_many (is-age age) ages ≤ 1 → how_many (is-age age) (left-of age s ages) ≡ 0
left-none age s ages h = omega (arith, forgotten age ages h, filter-fewer (λ a. waits a s) (is-age age) (without (is-age age) ages))

-- there is room for the waker of one that waits
pub waker-room : (age k : ℕ) (t : State) (ages : List ℕ) → IsSound t → room t ≤ k → ((b : ℕ) → how_many (is-age b) ages ≤ 1) → waits age t ≡ true → length (left-of age t ages) < k
waker-room age k t ages h reserved once w =
    let left = left-of age t ages in
    let apart : (b : ℕ) → how_many (is-age b) (age ∷ left) ≤ 1 = λ b.
    elim (age == b) as (λ k. (age == b) ≡ k → one k + how_many (is-age b) left ≤ 1) [
      | true ↦ λ k. let same : age ≡ b = eqb-true age b k in omega (arith, subst (λ i. how_many (is-age i) left ≡ 0) same (left-none age t ages (once age)))
      | false ↦ λ k. omega (arith, left-once age b t ages (once b))
    ] refl
    in
    let all : list_all (waits-in t.requests) (age ∷ left) ≡ true = rw w (filter-all (λ a. waits a t) (without (λ a. a == age) ages)) in
    omega (arith, few-waiting (age ∷ left) t.requests apart all, waiting-room t h, reserved)

all-push : (p : ℕ → Bool) (xs : List ℕ) (x : ℕ) → list_all p xs ≡ true → p x ≡ true → list_all p (xs ++ x ∷ []) ≡ true
all-push p [] x all e = rw e refl
all-push p (y ∷ ys) x all e = let h = both (p y) (list_all p ys) all in rw h.0 (all-push p ys x h.1 e)

pub kept-waits : (age : ℕ) (keeps : Bool) (s : State) (ages : List ℕ) → (keeps ≡ true → waits age s ≡ true) → list_all (λ a. waits a s) (kept_for age keeps (left-of age s ages)) ≡ true
kept-waits age true s ages w = all-push (λ a. waits a s) (left-of age s ages) age (filter-all (λ a. waits a s) (without (λ a. a == age) ages)) (w refl)
kept-waits age false s ages w = filter-all (λ a. waits a s) (without (λ a. a == age) ages)

pub kept-once : (age b : ℕ) (keeps : Bool) (s : State) (ages : List ℕ) → ((c : ℕ) → how_many (is-age c) ages ≤ 1) → how_many (is-age b) (kept_for age keeps (left-of age s ages)) ≤ 1
kept-once age b false s ages once = left-once age b s ages (once b)
kept-once age b true s ages once =
    elim (age == b) as (λ k. (age == b) ≡ k → how_many (is-age b) (left-of age s ages ++ age ∷ []) ≤ 1) [
      | true ↦ λ k. let same : age ≡ b = eqb-true age b k in omega (arith, ap one k, count-push (is-age b) (left-of age s ages) age, subst (λ i. how_many (is-age i) (left-of age s ages) ≡ 0) same (left-none age s ages (once age)))
      | false ↦ λ k. omega (arith, ap one k, count-push (is-age b) (left-of age s ages) age, left-once age b s ages (once b))
    ] refl
