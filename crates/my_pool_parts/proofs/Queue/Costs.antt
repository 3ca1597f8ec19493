-- What bounds the steps: an event makes the list of requests no longer, and wakes one that waits after another.
use Rattle.std.proofs.Common.{◌≡◌, ℕ, ◌+◌, ◌*◌, ◌^◌, ◌<◌, ◌≤◌, true, false, cond, List, [], ◌∷◌, ◌++◌, length, length-append, zero, suc, refl, ap, ◌∙◌, arith}
use Rattle.std.specs.Prelude.{◌==◌}
use Rattle.std.specs.List.{list_any}
use Rattle.std.proofs.Math.Nat.{pow-suc}
use Rattle.my_pool_parts.specs.declared.request.Request.{Request}
use Rattle.my_pool_parts.specs.declared.request.Standing.TheVariants.{Woken}
use Rattle.my_frame.specs.Lists.{without}
use Rattle.my_pool_parts.specs.Lists.{how_many}
use Rattle.my_pool_parts.specs.Requests.{last_age, asking, has_age, is_waiting, standing_as, ended, wake, with_last}
use Rattle.my_pool_parts.proofs.Finding.{shorter-without, length-change, count-append}

pub ended-short : (age : ℕ) (rs : List Request) → length (ended age rs) ≤ length rs
ended-short age rs = elim (age == last_age) as (λ b. length (cond b rs (without (has_age age) rs)) ≤ length rs) [ true ↦ omega arith | false ↦ shorter-without (has_age age) rs ]

pub wake-long : (rs : List Request) → length (wake rs) ≡ length rs
wake-long rs = length-change is_waiting (standing_as Woken) rs

-- one that is woken takes its own steps, and leaves those of the others
pub woken-once : (left all k : ℕ) → left < all → left * k + k ≤ all * k
woken-once left zero k lt = absurd (omega arith)
woken-once zero (suc all) k lt = omega arith
woken-once (suc left) (suc all) k lt = omega (arith, woken-once left all k (omega arith))

-- the request of the last age doesn't wait when it comes, and makes the list longer by one at most
waiting-last : (rs : List Request) → how_many is_waiting (with_last rs) ≡ how_many is_waiting rs
waiting-last rs = elim (list_any (has_age last_age) rs) as (λ b. how_many is_waiting (cond b rs (rs ++ asking last_age ∷ [])) ≡ how_many is_waiting rs) [ true ↦ refl | false ↦ omega (arith, count-append is_waiting rs (asking last_age ∷ [])) ]

pub last-few : (rs : List Request) (d : ℕ) → length rs < 2 ^ d → length (with_last rs) < 2 ^ (d + 1)
last-few rs d lt = omega (arith, longer, twice, lt)
  where
    longer : length (with_last rs) ≤ length rs + 1
    longer = elim (list_any (has_age last_age) rs) as (λ b. length (cond b rs (rs ++ asking last_age ∷ [])) ≤ length rs + 1) [ true ↦ omega arith | false ↦ omega (arith, length-append rs (asking last_age ∷ [])) ]

    next : d + 1 ≡ suc d
    next = omega arith

    twice : 2 ^ (d + 1) ≡ 2 ^ d * 2
    twice = ap (λ n. 2 ^ n) next ∙ pow-suc 2 d

pub woken-last : (rs : List Request) (d : ℕ) → how_many is_waiting (with_last rs) * (3 * (d + 1) + 2) ≡ how_many is_waiting rs * (3 * d + 5)
woken-last rs d = ap (λ n. n * (3 * (d + 1) + 2)) (waiting-last rs) ∙ ap (λ k. how_many is_waiting rs * k) same
  where
    same : 3 * (d + 1) + 2 ≡ 3 * d + 5
    same = omega arith
