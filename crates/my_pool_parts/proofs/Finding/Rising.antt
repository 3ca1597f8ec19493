-- Requests in rising order of their ages stay so.
use Rattle.std.proofs.Common.{◌≡◌, ℕ, ◌+◌, ◌≤◌, ◌<◌, Bool, true, false, cond, List, [], ◌∷◌, ◌++◌, refl, arith, map, subst, sym}
use Rattle.std.specs.Prelude.{nat_le}
use Rattle.my_pool_parts.specs.declared.request.Request.{Request}
use Rattle.my_frame.specs.Lists.{without}
use Rattle.my_pool_parts.specs.Lists.{change_first, how_many}
use Rattle.my_pool_parts.specs.Requests.{asking, IsRising}
use Rattle.my_pool_parts.proofs.Finding.{one}
use Rattle.std.proofs.lemmas.Bool.{leb-false}

pub rising-lower : (low lower : ℕ) (rs : List Request) → lower ≤ low → IsRising low rs → IsRising lower rs
rising-lower low lower [] le h = tt
rising-lower low lower (r ∷ rs) le h = (omega (arith, h.0), h.1)

pub rising-without : (key : Request → Bool) (low : ℕ) (rs : List Request) → IsRising low rs → IsRising low (without key rs)
rising-without key low [] h = tt
rising-without key low (r ∷ rs) h =
    elim (key r) as (λ b. IsRising low (cond b rs (r ∷ without key rs))) [
      | true ↦ rising-lower (r.age + 1) low rs (omega (arith, h.0)) h.1
      | false ↦ (h.0, rising-without key (r.age + 1) rs h.1)
    ]

pub rising-change : (key : Request → Bool) (f : Request → Request) → ((r : Request) → (f r).age ≡ r.age) → (low : ℕ) (rs : List Request) → IsRising low rs → IsRising low (change_first key f rs)
rising-change key f same low [] h = tt
rising-change key f same low (r ∷ rs) h =
    elim (key r) as (λ b. IsRising low (cond b (f r ∷ rs) (r ∷ change_first key f rs))) [
      | true ↦ subst (λ a. (low ≤ a) × IsRising (a + 1) rs) (sym (same r)) h
      | false ↦ (h.0, rising-change key f same (r.age + 1) rs h.1)
    ]

pub rising-map : (f : Request → Request) → ((r : Request) → (f r).age ≡ r.age) → (low : ℕ) (rs : List Request) → IsRising low rs → IsRising low (map f rs)
rising-map f same low [] h = tt
rising-map f same low (r ∷ rs) h = subst (λ a. (low ≤ a) × IsRising (a + 1) (map f rs)) (sym (same r)) (h.0, rising-map f same (r.age + 1) rs h.1)

-- above each that is there
pub rising-push : (age low : ℕ) (rs : List Request) → low ≤ age → IsRising low rs → how_many (λ r. nat_le age r.age) rs ≡ 0 → IsRising low (rs ++ asking age ∷ [])
rising-push age low [] le h none = (le, tt)
rising-push age low (r ∷ rs) le h none =
    let rest : how_many (λ (r : Request). nat_le age r.age) rs ≡ 0 = omega arith in
    let above : nat_le age r.age ≡ false = elim (nat_le age r.age) as (λ b. one b + how_many (λ r. nat_le age r.age) rs ≡ 0 → b ≡ false) [ true ↦ λ n. absurd (omega arith) | false ↦ λ _. refl ] none in
    let below : r.age < age = leb-false age r.age above in
    (h.0, rising-push age (r.age + 1) rs (omega arith) h.1 rest)
