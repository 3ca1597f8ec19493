-- The woken requests before the first waiting one.
use Rattle.std.proofs.Common.{◌≡◌, ℕ, ◌+◌, ◌≤◌, ◌<◌, Bool, true, false, cond, Some, List, [], ◌∷◌, ◌++◌, refl, ap, ◌∙◌, arith, subst}
use Rattle.std.specs.Prelude.{find, ◌==◌, ◌&&◌, ◌||◌, nat_le}
use Rattle.std.proofs.lemmas.Bool.{eqb-true, lt-leb}
use Rattle.my_pool_parts.specs.declared.request.Request.{Request}
use Rattle.my_pool_parts.specs.declared.request.Standing.TheVariants.{Woken}
use Rattle.my_frame.specs.Lists.{without}
use Rattle.my_pool_parts.specs.Lists.{change_first, how_many}
use Rattle.my_pool_parts.specs.Requests.{last_age, has_age, is_waiting, is_woken, standing_as, now_waiting, set_waiting, ended, wake, waits_up_to, IsRising}
use Rattle.my_pool_core.specs.Sound.{woken_first}
use Rattle.my_pool_parts.proofs.Finding.{one}

-- waking adds one where one waits
pub front-wake : (rs : List Request) → 0 < how_many is_waiting rs → woken_first rs + 1 ≤ woken_first (wake rs)
front-wake [] some = absurd (omega arith)
front-wake (r ∷ rs) some =
    elim (is_waiting r) as (λ b. is_waiting r ≡ b → 0 < one b + how_many is_waiting rs → cond b 0 (one (is_woken r) + woken_first rs) + 1 ≤ woken_first (cond b (standing_as Woken r ∷ rs) (r ∷ wake rs))) [
      | true ↦ λ e k. omega arith
      | false ↦ λ e k.
          let some_after : 0 < how_many is_waiting rs = omega arith in
          let after : woken_first (r ∷ wake rs) ≡ one (is_woken r) + woken_first (wake rs) = ap (λ b. cond b 0 (one (is_woken r) + woken_first (wake rs))) e in
          omega (arith, after, front-wake rs some_after)
    ] refl some

-- taking one out loses at most itself
pub front-without : (key : Request → Bool) (rs : List Request) (r : Request) → find key rs ≡ Some r → woken_first rs ≤ woken_first (without key rs) + one (is_woken r)
front-without key [] r e = absurd (cc)
front-without key (x ∷ rs) r e =
    elim (key x) as (λ b. cond b (Some x) (find key rs) ≡ Some r → cond (is_waiting x) 0 (one (is_woken x) + woken_first rs) ≤ woken_first (cond b rs (x ∷ without key rs)) + one (is_woken r)) [
      | true ↦ λ k. let same : x ≡ r = cc in subst (λ y. cond (is_waiting x) 0 (one (is_woken x) + woken_first rs) ≤ woken_first rs + one (is_woken y)) same (at-most (is_waiting x) (one (is_woken x)) (woken_first rs))
      | false ↦ λ k. elim (is_waiting x) as (λ b. cond b 0 (one (is_woken x) + woken_first rs) ≤ cond b 0 (one (is_woken x) + woken_first (without key rs)) + one (is_woken r)) [
        | true ↦ omega arith
        | false ↦ omega (arith, front-without key rs r k)
      ]
    ] e
  where
    at-most : (b : Bool) (w n : ℕ) → cond b 0 (w + n) ≤ n + w
    at-most true w n = omega arith
    at-most false w n = omega arith

pub front-ended : (age : ℕ) (rs : List Request) (r : Request) → find (has_age age) rs ≡ Some r → woken_first rs ≤ woken_first (ended age rs) + one (is_woken r)
front-ended age rs r e = elim (age == last_age) as (λ b. woken_first rs ≤ woken_first (cond b rs (without (has_age age) rs)) + one (is_woken r)) [
  | true ↦ omega arith
  | false ↦ front-without (has_age age) rs r e
]

-- changing one that then doesn't wait loses at most itself
pub front-change : (key : Request → Bool) (f : Request → Request) (rs : List Request) (r : Request) → find key rs ≡ Some r → ((r : Request) → is_waiting (f r) ≡ false) → woken_first rs ≤ woken_first (change_first key f rs) + one (is_woken r)
front-change key f [] r e quiet = absurd (cc)
front-change key f (x ∷ rs) r e quiet =
    elim (key x) as (λ b. cond b (Some x) (find key rs) ≡ Some r → cond (is_waiting x) 0 (one (is_woken x) + woken_first rs) ≤ woken_first (cond b (f x ∷ rs) (x ∷ change_first key f rs)) + one (is_woken r)) [
      | true ↦ λ k. let same : x ≡ r = cc in
          let after : woken_first (f x ∷ rs) ≡ one (is_woken (f x)) + woken_first rs = ap (λ b. cond b 0 (one (is_woken (f x)) + woken_first rs)) (quiet x) in
          subst (λ y. cond (is_waiting x) 0 (one (is_woken x) + woken_first rs) ≤ woken_first (f x ∷ rs) + one (is_woken y)) same
          (omega (arith, after, at-most (is_waiting x) (one (is_woken x)) (woken_first rs)))
      | false ↦ λ k. elim (is_waiting x) as (λ b. cond b 0 (one (is_woken x) + woken_first rs) ≤ cond b 0 (one (is_woken x) + woken_first (change_first key f rs)) + one (is_woken r)) [
        | true ↦ omega arith
        | false ↦ omega (arith, front-change key f rs r k quiet)
      ]
    ] e
  where
    at-most : (b : Bool) (w n : ℕ) → cond b 0 (w + n) ≤ n + w
    at-most true w n = omega arith
    at-most false w n = omega arith

-- more after
pub front-push : (rs qs : List Request) → woken_first rs ≤ woken_first (rs ++ qs)
front-push [] qs = omega arith
front-push (r ∷ rs) qs = elim (is_waiting r) as (λ b. cond b 0 (one (is_woken r) + woken_first rs) ≤ cond b 0 (one (is_woken r) + woken_first (rs ++ qs))) [
  | true ↦ omega arith
  | false ↦ omega (arith, front-push rs qs)
]

-- in rising order no request that is at most an age comes after one above it
none-after : (age low : ℕ) (rs : List Request) → age < low → IsRising low rs → waits_up_to age rs ≡ false
none-after age low [] lt h = refl
none-after age low (r ∷ rs) lt h =
    let above : nat_le r.age age ≡ false = lt-leb r.age age (omega (arith, h.0)) in
    let here : (is_waiting r && nat_le r.age age) ≡ false = and-false (is_waiting r) (nat_le r.age age) above in
    ap (λ b. b || waits_up_to age rs) here ∙ none-after age (r.age + 1) rs (omega (arith, h.0)) h.1
  where
    and-false : (a b : Bool) → b ≡ false → (a && b) ≡ false
    and-false true b e = e
    and-false false b e = refl

-- one that waits after another changes nothing
pub front-late : (age low : ℕ) (rs : List Request) → IsRising low rs → waits_up_to age rs ≡ true → woken_first rs ≤ woken_first (set_waiting age rs)
front-late age low [] h e = absurd (cc)
front-late age low (r ∷ rs) h e =
    elim (is_waiting r) as (λ b. is_waiting r ≡ b → ((b && nat_le r.age age) || waits_up_to age rs) ≡ true → cond b 0 (one (is_woken r) + woken_first rs) ≤ woken_first (set_waiting age (r ∷ rs))) [
      | true ↦ λ _ _. omega arith
      | false ↦ λ w k.
          elim (r.age == age) as (λ b. (r.age == age) ≡ b → one (is_woken r) + woken_first rs ≤ woken_first (cond b (now_waiting r ∷ rs) (r ∷ set_waiting age rs))) [
            | true ↦ λ same.
                let at : r.age ≡ age = eqb-true r.age age same in
                let none = none-after age (r.age + 1) rs (omega arith) h.1 in
                absurd (cc)
            | false ↦ λ _.
                let after : woken_first (r ∷ set_waiting age rs) ≡ one (is_woken r) + woken_first (set_waiting age rs) = ap (λ b. cond b 0 (one (is_woken r) + woken_first (set_waiting age rs))) w in
                omega (arith, after, front-late age (r.age + 1) rs h.1 k)
          ] refl
    ] refl e
