-- Who still waits after an event, and that its wakers are those of whoever does.
use Rattle.std.proofs.Common.{◌≡◌, ℕ, ◌+◌, ◌≤◌, Bool, true, false, cond, None, List, [], ◌∷◌, refl, sym, ap, ◌∙◌, arith, subst}
use Rattle.std.specs.Prelude.{◌==◌, ◌||◌, ◌&&◌, not}
use Rattle.std.specs.List.{list_all}
use Rattle.my_frame.specs.Lists.{without}
use Rattle.my_pool_parts.specs.Lists.{how_many}
use Rattle.my_pool_parts.proofs.Finding.{one}
use Rattle.my_pool_core.specs.declared.event.PoolEvent.{PoolEvent}
use Rattle.my_pool_core.specs.declared.event.PoolEvent.TheVariants as events
use Rattle.my_pool_core.specs.Events.{is_at_end, request}
use Rattle.my_pool_core.specs.Sound.{IsSound}
use Rattle.my_pool_core.specs.State.{State}
use Rattle.my_pool_core.specs.Steps.{may, step}
use Rattle.my_pool_core.specs.Wakes.{waits, wakes, is_oldest, is_turn_of, begins_to_wait, oldest_waiting}
use Rattle.my_pool_core.proofs.Always.{sound-step}
use Rattle.my_pool_core.proofs.Asked.Wakes.{waiting-are}
use Rattle.my_pool_core.proofs.Kept.Moving.{both}
use Rattle.my_pool_core.proofs.Placed.Frame.{last-closes}
use Rattle.my_pool_store.specs.Woken.{waiting, WaitBeside, called_at, called_closed}
use Rattle.my_pool_store.proofs.Waking.{all-wait, called-waiting, closed-waiting}

abbrev is-age : ℕ → ℕ → Bool
is-age age a = a == age

-- what each of these has, each has that has it where those have
all-on : (P Q : ℕ → Bool) (ages : List ℕ) → ((a : ℕ) → P a ≡ true → Q a ≡ true) → list_all P ages ≡ true → list_all Q ages ≡ true
all-on P Q [] on all = refl
all-on P Q (a ∷ more) on all = let h = both (P a) (list_all P more) all in rw (on a h.0) (all-on P Q more on h.1)

-- one that waits, that the event doesn't wake and whose turn it isn't, waits on
waits-on : (s : State) (e : PoolEvent) (a : ℕ) → IsSound s → may s e ≡ true → wakes s e a ≡ false → is_turn_of a e ≡ false → waits a s ≡ true → waits a (step s e) ≡ true
waits-on s e a h m w t k = waiting-are s e a h m ∙ rw (k, w, t) (either (begins_to_wait s e a))
  where
    either : (b : Bool) → (b || true) ≡ true
    either true = refl
    either false = refl

-- ---- an event that wakes nobody ----

abbrev pub WakesNone : State → PoolEvent → Type 0
WakesNone s e = (a : ℕ) → wakes s e a ≡ false

abbrev pub TurnOfNone : PoolEvent → Type 0
TurnOfNone e = (a : ℕ) → is_turn_of a e ≡ false

pub quiet-ages : (s t : State) (e : PoolEvent) (ages : List ℕ) → IsSound s → may s e ≡ true → t ≡ step s e → WakesNone s e → TurnOfNone e → list_all (λ a. waits a s) ages ≡ true → ages ≡ waiting t ages
quiet-ages s t e ages h m at w turn all =
    all-wait t ages (subst (λ u. list_all (λ a. waits a u) ages ≡ true) (sym at)
    (all-on (λ a. waits a s) (λ a. waits a (step s e)) ages (λ a k. waits-on s e a h m (w a) (turn a) k) all))

-- ---- an event that wakes the oldest at most ----

abbrev pub WakesOldest : State → PoolEvent → Type 0
WakesOldest s e = (a : ℕ) → is_oldest a s ≡ false → wakes s e a ≡ false

oldest-on : (s : State) (e : PoolEvent) (a : ℕ) → IsSound s → may s e ≡ true → WakesOldest s e → is_turn_of a e ≡ false → waits a s ≡ true → (is_oldest a s || waits a (step s e)) ≡ true
oldest-on s e a h m w turn k = by-it (is_oldest a s) refl
  where
    by-it : (b : Bool) → is_oldest a s ≡ b → (b || waits a (step s e)) ≡ true
    by-it true i = refl
    by-it false i = waits-on s e a h m (w a i) turn k

-- it wakes it, or nobody
pub at-most-oldest : (s : State) (b : Bool) (a : ℕ) → is_oldest a s ≡ false → (b && is_oldest a s) ≡ false
at-most-oldest s true a k = k
at-most-oldest s false a k = refl

pub oldest-ages : (s t : State) (e : PoolEvent) (ages : List ℕ) → IsSound s → may s e ≡ true → t ≡ step s e → WakesOldest s e → TurnOfNone e
    → ((a : ℕ) → how_many (is-age a) ages ≤ 1) → list_all (λ a. waits a s) ages ≡ true → called_at (oldest_waiting s) t ages ≡ waiting t ages
oldest-ages s t e ages h m at w turn once all =
    called-waiting t (oldest_waiting s) ages once (subst (λ u. WaitBeside (oldest_waiting s) u ages) (sym at)
    (all-on (λ a. waits a s) (λ a. is_oldest a s || waits a (step s e)) ages (λ a k. oldest-on s e a h m w (turn a) k) all))

-- ---- a request's own turn ----

-- without its own age, none is of it
pub others-left : (P : ℕ → Bool) (age : ℕ) (ages : List ℕ) → how_many (is-age age) ages ≤ 1 → list_all P ages ≡ true → list_all (λ a. P a && not (is-age age a)) (without (is-age age) ages) ≡ true
others-left P age [] few all = refl
others-left P age (a ∷ more) few all = by-it (λ f. others-left P age more f h.1) (is-age age a) refl few
  where
    h : (P a ≡ true) × (list_all P more ≡ true)
    h = both (P a) (list_all P more) all

    others : (more : List ℕ) → how_many (is-age age) more ≡ 0 → list_all P more ≡ true → list_all (λ a. P a && not (is-age age a)) more ≡ true
    others [] none all = refl
    others (b ∷ bs) none all =
        let k = both (P b) (list_all P bs) all in
        (elim (is-age age b) as (λ x. is-age age b ≡ x → one x + how_many (is-age age) bs ≡ 0 → (P b && not (is-age age b) && list_all (λ a. P a && not (is-age age a)) bs) ≡ true) [
          | true ↦ λ e n. absurd (omega (arith, n))
          | false ↦ λ e n. rw (k.0, e) (others bs (omega (arith, n)) k.1)
        ]) refl none

    by-it : (how_many (is-age age) more ≤ 1 → list_all (λ a. P a && not (is-age age a)) (without (is-age age) more) ≡ true) → (b : Bool) → is-age age a ≡ b → one b + how_many (is-age age) more ≤ 1 → list_all (λ a. P a && not (is-age age a)) (cond b more (a ∷ without (is-age age) more)) ≡ true
    by-it rest true e few = others more (omega (arith, few)) h.1
    by-it rest false e few = rw (h.0, e) (rest (omega (arith, few)))

not-false : (b : Bool) → not b ≡ true → b ≡ false
not-false true e = absurd (cc)
not-false false e = refl

pub own-ages : (s t : State) (e : PoolEvent) (age : ℕ) (ages : List ℕ) → IsSound s → may s e ≡ true → t ≡ step s e → WakesNone s e → ((a : ℕ) → is_turn_of a e ≡ is-age age a)
    → how_many (is-age age) ages ≤ 1 → list_all (λ a. waits a s) ages ≡ true → without (is-age age) ages ≡ waiting t (without (is-age age) ages)
own-ages s t e age ages h m at w turn few all =
    all-wait t (without (is-age age) ages) (subst (λ u. list_all (λ a. waits a u) (without (is-age age) ages) ≡ true) (sym at)
    (all-on (λ a. waits a s && not (is-age age a)) (λ a. waits a (step s e)) (without (is-age age) ages)
    (λ a k. let b = both (waits a s) (not (is-age age a)) k in waits-on s e a h m (w a) (turn a ∙ not-false (is-age age a) b.1) b.0)
    (others-left (λ a. waits a s) age ages few all)))

pub own-oldest : (s t : State) (e : PoolEvent) (age : ℕ) (ages : List ℕ) → IsSound s → may s e ≡ true → t ≡ step s e → WakesOldest s e → ((a : ℕ) → is_turn_of a e ≡ is-age age a)
    → ((a : ℕ) → how_many (is-age a) ages ≤ 1) → ((a : ℕ) → how_many (is-age a) (without (is-age age) ages) ≤ 1) → list_all (λ a. waits a s) ages ≡ true
    → called_at (oldest_waiting s) t (without (is-age age) ages) ≡ waiting t (without (is-age age) ages)
own-oldest s t e age ages h m at w turn once left all =
    called-waiting t (oldest_waiting s) (without (is-age age) ages) left (subst (λ u. WaitBeside (oldest_waiting s) u (without (is-age age) ages)) (sym at)
    (all-on (λ a. waits a s && not (is-age age a)) (λ a. is_oldest a s || waits a (step s e)) (without (is-age age) ages)
    (λ a k. let b = both (waits a s) (not (is-age age a)) k in oldest-on s e a h m w (turn a ∙ not-false (is-age age a) b.1) b.0)
    (others-left (λ a. waits a s) age ages (once age) all)))

-- ---- an event that may close the pool ----

pub close-ages : (s t : State) (ages : List ℕ) → IsSound s → t ≡ step s events.Close → called_closed t ages ≡ waiting t ages
close-ages s t ages h at =
    closed-waiting t ages (subst IsSound (sym at) (sound-step s events.Close h refl)) (λ open_. absurd (let shut : t.closed ≡ true = ap (λ u. u.closed) at in cc))

pub request-ages : (s t : State) (ages : List ℕ) → IsSound s → t ≡ request s → list_all (λ a. waits a s) ages ≡ true → called_closed t ages ≡ waiting t ages
request-ages s t ages h at all =
    closed-waiting t ages (subst IsSound (sym at) (sound-step s events.Request h refl)) by-end
  where
    by-end : t.closed ≡ false → WaitBeside None t ages
    by-end open_ = subst (λ u. list_all (λ a. waits a u) ages ≡ true) (sym at)
        (all-on (λ a. waits a s) (λ a. waits a (request s)) ages (λ a k. waits-on s events.Request a h refl (awake a) refl k) all)
      where
        ends : (b : Bool) → is_at_end s ≡ b → b ≡ false
        ends true e = absurd (let shut : t.closed ≡ true = ap (λ u. u.closed) at ∙ last-closes s e in cc)
        ends false e = refl

        awake : (a : ℕ) → (is_at_end s && waits a s) ≡ false
        awake a = rw (ends (is_at_end s) refl) refl
