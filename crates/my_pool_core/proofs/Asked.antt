-- The request of an age after each change of the requests.
pub mod Stepping
pub mod Tokens
pub mod Wakes
pub mod Lasting
use Rattle.std.proofs.Common.{◌≡◌, ℕ, ◌+◌, ◌≤◌, ◌<◌, Bool, true, false, cond, Option, Some, None, List, [], ◌∷◌, refl, sym, ap, ◌∙◌, arith}
use Rattle.std.specs.Prelude.{find, option_map, ◌==◌, if◌then◌else◌}
use Rattle.std.proofs.lemmas.Bool.{eqb-true}
use Rattle.std.proofs.lemmas.Bool.Decides.{nat_tests}
use Rattle.my_pool_parts.specs.declared.request.Request.{Request}
use Rattle.my_pool_parts.specs.declared.request.Standing.TheVariants.{Woken}
use Rattle.my_frame.specs.Lists.{without}
use Rattle.my_pool_parts.specs.Lists.{change_first, found_is}
use Rattle.my_pool_parts.specs.Requests.{last_age, has_age, is_waiting, standing_as, ended, roused, wake, wake_all, IsRising, oldest_in}
use Rattle.my_pool_parts.proofs.Finding.Keyed.{other-number, find-left}

-- ---- one request changes ----

pub find-changed : (age : ℕ) (f : Request → Request) → ((r : Request) → (f r).age ≡ r.age) → (rs : List Request) → find (has_age age) (change_first (has_age age) f rs) ≡ option_map f (find (has_age age) rs)
find-changed age f same [] = refl
find-changed age f same (r ∷ rs) =
    elim (has_age age r) as (λ b. has_age age r ≡ b → find (has_age age) (cond b (f r ∷ rs) (r ∷ change_first (has_age age) f rs)) ≡ option_map f (cond b (Some r) (find (has_age age) rs))) [
      | true ↦ λ e. ap (λ a. cond (a == age) (Some (f r)) (find (has_age age) rs)) (same r) ∙ ap (λ b. cond b (Some (f r)) (find (has_age age) rs)) e
      | false ↦ λ e. ap (λ b. cond b (Some r) (find (has_age age) (change_first (has_age age) f rs))) e ∙ find-changed age f same rs
    ] refl

pub find-unchanged : (age b : ℕ) (f : Request → Request) → ((r : Request) → (f r).age ≡ r.age) → (rs : List Request) → (b == age) ≡ false → find (has_age b) (change_first (has_age age) f rs) ≡ find (has_age b) rs
find-unchanged age b f same [] e = refl
find-unchanged age b f same (r ∷ rs) e =
    elim (has_age age r) as (λ k. has_age age r ≡ k → find (has_age b) (cond k (f r ∷ rs) (r ∷ change_first (has_age age) f rs)) ≡ cond (has_age b r) (Some r) (find (has_age b) rs)) [
      | true ↦ λ k.
          let here : has_age b r ≡ false = other-number r.age age b e k in
          let there : has_age b (f r) ≡ false = ap (λ n. n == b) (same r) ∙ here in
          ap (λ t. cond t (Some (f r)) (find (has_age b) rs)) there ∙ sym (ap (λ t. cond t (Some r) (find (has_age b) rs)) here)
      | false ↦ λ k. ap (cond (has_age b r) (Some r)) (find-unchanged age b f same rs e)
    ] refl

-- ---- one request ends ----

-- in rising order none below the first is there
pub find-below : (low b : ℕ) (rs : List Request) → IsRising low rs → b < low → find (has_age b) rs ≡ None
find-below low b [] h k = refl
find-below low b (r ∷ rs) h k =
    let here : has_age b r ≡ false = let le = h.0 in grind (arith, nat_tests) in
    ap (λ t. cond t (Some r) (find (has_age b) rs)) here ∙ find-below (r.age + 1) b rs h.1 (omega (arith, h.0))

find-gone : (low age : ℕ) (rs : List Request) → IsRising low rs → find (has_age age) (without (has_age age) rs) ≡ None
find-gone low age [] h = refl
find-gone low age (r ∷ rs) h =
    elim (has_age age r) as (λ t. has_age age r ≡ t → find (has_age age) (cond t rs (r ∷ without (has_age age) rs)) ≡ None) [
      | true ↦ λ e. let same : r.age ≡ age = eqb-true r.age age e in find-below (r.age + 1) age rs h.1 (omega arith)
      | false ↦ λ e. ap (λ t. cond t (Some r) (find (has_age age) (without (has_age age) rs))) e ∙ find-gone (r.age + 1) age rs h.1
    ] refl

-- the request of an age that ended: gone, but for the last one
abbrev pub ended_request : ℕ → Option Request → Option Request
ended_request age o = if age == last_age then o else None

pub find-ended : (age : ℕ) (rs : List Request) → IsRising 0 rs → find (has_age age) (ended age rs) ≡ ended_request age (find (has_age age) rs)
find-ended age rs h =
    elim (age == last_age) as (λ t. find (has_age age) (cond t rs (without (has_age age) rs)) ≡ cond t (find (has_age age) rs) None) [
      | true ↦ refl
      | false ↦ find-gone 0 age rs h
    ]

pub find-unended : (age b : ℕ) (rs : List Request) → (b == age) ≡ false → find (has_age b) (ended age rs) ≡ find (has_age b) rs
find-unended age b rs e =
    elim (age == last_age) as (λ t. find (has_age b) (cond t rs (without (has_age age) rs)) ≡ find (has_age b) rs) [
      | true ↦ refl
      | false ↦ find-left (λ (r : Request). r.age) age b rs e
    ]

-- ---- the oldest one is woken, or all are ----

abbrev pub is_oldest_in : ℕ → List Request → Bool
is_oldest_in b rs = found_is (λ oldest. oldest == b) (oldest_in rs)

-- the oldest waiting one isn't below the first
oldest-above : (low b : ℕ) (rs : List Request) → IsRising low rs → is_oldest_in b rs ≡ true → low ≤ b
oldest-above low b [] h e = absurd (cc)
oldest-above low b (r ∷ rs) h e =
    elim (is_waiting r) as (λ w. found_is (λ oldest. oldest == b) (option_map (λ r. r.age) (cond w (Some r) (find is_waiting rs))) ≡ true → low ≤ b) [
      | true ↦ λ k. let same : r.age ≡ b = eqb-true r.age b k in omega (arith, h.0)
      | false ↦ λ k. omega (arith, h.0, oldest-above (r.age + 1) b rs h.1 k)
    ] e

not-oldest : (low b : ℕ) (rs : List Request) → IsRising low rs → b < low → is_oldest_in b rs ≡ false
not-oldest low b rs h lt =
    elim (is_oldest_in b rs) as (λ t. is_oldest_in b rs ≡ t → t ≡ false) [
      | true ↦ λ e. absurd (omega (arith, oldest-above low b rs h e))
      | false ↦ λ e. refl
    ] refl

-- a request that is woken where a test says so and it waits
abbrev pub roused_if : Bool → Request → Request
roused_if wakes r = if wakes then roused r else r

pub find-woken : (low b : ℕ) (rs : List Request) → IsRising low rs → find (has_age b) (wake rs) ≡ option_map (roused_if (is_oldest_in b rs)) (find (has_age b) rs)
find-woken low b [] h = refl
find-woken low b (r ∷ rs) h =
    elim (is_waiting r) as (λ w. is_waiting r ≡ w → find (has_age b) (cond w (standing_as Woken r ∷ rs) (r ∷ wake rs)) ≡ option_map (roused_if (found_is (λ oldest. oldest == b) (option_map (λ r. r.age) (cond w (Some r) (find is_waiting rs))))) (cond (has_age b r) (Some r) (find (has_age b) rs))) [
      | true ↦ λ e.
          elim (has_age b r) as (λ k. cond k (Some (standing_as Woken r)) (find (has_age b) rs) ≡ option_map (roused_if k) (cond k (Some r) (find (has_age b) rs))) [
            | true ↦ ap (λ w. Some (cond w (standing_as Woken r) r)) (sym e)
            | false ↦ sym (unchanged (find (has_age b) rs))
          ]
      | false ↦ λ e.
          elim (has_age b r) as (λ k. has_age b r ≡ k → cond k (Some r) (find (has_age b) (wake rs)) ≡ option_map (roused_if (is_oldest_in b rs)) (cond k (Some r) (find (has_age b) rs))) [
            | true ↦ λ k.
                let same : r.age ≡ b = eqb-true r.age b k in
                ap (λ w. Some (roused_if w r)) (sym (not-oldest (r.age + 1) b rs h.1 (omega arith)))
            | false ↦ λ k. find-woken (r.age + 1) b rs h.1
          ] refl
    ] refl
  where
    unchanged : (o : Option Request) → option_map (roused_if false) o ≡ o
    unchanged None = refl
    unchanged (Some r) = refl

pub roused-age : (r : Request) → (roused r).age ≡ r.age
roused-age r = elim (is_waiting r) as (λ b. (cond b (standing_as Woken r) r).age ≡ r.age) [ true ↦ refl | false ↦ refl ]

pub find-all-woken : (b : ℕ) (rs : List Request) → find (has_age b) (wake_all rs) ≡ option_map roused (find (has_age b) rs)
find-all-woken b [] = refl
find-all-woken b (r ∷ rs) =
    ap (λ a. cond (a == b) (Some (roused r)) (find (has_age b) (wake_all rs))) (roused-age r)
    ∙ elim (has_age b r) as (λ k. cond k (Some (roused r)) (find (has_age b) (wake_all rs)) ≡ option_map roused (cond k (Some r) (find (has_age b) rs))) [
      | true ↦ refl
      | false ↦ find-all-woken b rs
    ]
