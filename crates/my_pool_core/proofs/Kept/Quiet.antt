-- Requests of which none begins or ends to hold a connection.
use Rattle.std.proofs.Common.{◌≡◌, ℕ, ◌≤◌, Bool, true, false, cond, Some, List, refl, ◌∙◌, arith}
use Rattle.std.specs.Prelude.{find, ◌==◌}
use Rattle.my_pool_parts.specs.declared.request.Request.{Request}
use Rattle.my_pool_parts.specs.declared.request.Standing.{Standing}
use Rattle.my_pool_parts.specs.declared.request.Standing.TheVariants.{Asks, Waits, Woken, Dials, Checks}
use Rattle.my_frame.specs.Lists.{without}
use Rattle.my_pool_parts.specs.Lists.{how_many}
use Rattle.my_pool_parts.specs.Requests.{last_age, has_age, is_waiting, is_waiting_standing, standing_as, ended, wake}
use Rattle.my_pool_core.specs.Sound.{dials, checks, is_unmarked, is_dialer, is_last_busy}
use Rattle.my_pool_parts.proofs.Finding.{one, count-without, count-change-same}
use Rattle.my_pool_core.proofs.Kept.Fewer.{FewerRequests, same-requests, fewer-requests, ended-fewer, changed-fewer}

pub record QuietRequests (rs qs : List Request) : Type 0 where
  pub fewer : FewerRequests rs qs
  pub dials : (n : ℕ) → how_many (dials n) qs ≡ how_many (dials n) rs
  pub checks : (n : ℕ) → how_many (checks n) qs ≡ how_many (checks n) rs

pub quiet-same : (rs : List Request) → QuietRequests rs rs
quiet-same rs = record { fewer = same-requests rs; dials = λ n. refl; checks = λ n. refl }

pub quiet-quiet : (rs qs os : List Request) → QuietRequests rs qs → QuietRequests qs os → QuietRequests rs os
quiet-quiet rs qs os h k = record {
  fewer = fewer-requests rs qs os h.fewer k.fewer;
  dials = λ n. k.dials n ∙ h.dials n;
  checks = λ n. k.checks n ∙ h.checks n;
}

-- a request with these parts
abbrev pub req : ℕ → Bool → Standing → Request
req age waited standing = record { age = age; waited = waited; standing = standing }

-- one that waits is woken: what tests tell of it
woken-unmarked : (a : ℕ) (w : Bool) (st : Standing) → is_waiting_standing st ≡ true → one (is_unmarked (req a w Woken)) ≤ one (is_unmarked (req a w st))
woken-unmarked a w Waits e = omega arith
woken-unmarked a w Asks e = absurd (cc)
woken-unmarked a w Woken e = absurd (cc)
woken-unmarked a w (Dials n) e = absurd (cc)
woken-unmarked a w (Checks n) e = absurd (cc)

woken-dialer : (a : ℕ) (w : Bool) (st : Standing) → is_waiting_standing st ≡ true → one (is_dialer (req a w Woken)) ≤ one (is_dialer (req a w st))
woken-dialer a w Waits e = omega arith
woken-dialer a w Asks e = absurd (cc)
woken-dialer a w Woken e = absurd (cc)
woken-dialer a w (Dials n) e = absurd (cc)
woken-dialer a w (Checks n) e = absurd (cc)

woken-last : (a : ℕ) (w : Bool) (st : Standing) → is_waiting_standing st ≡ true → one (is_last_busy (req a w Woken)) ≤ one (is_last_busy (req a w st))
woken-last a w Waits e = omega arith
woken-last a w Asks e = absurd (cc)
woken-last a w Woken e = absurd (cc)
woken-last a w (Dials n) e = absurd (cc)
woken-last a w (Checks n) e = absurd (cc)

woken-dials : (n a : ℕ) (w : Bool) (st : Standing) → is_waiting_standing st ≡ true → dials n (req a w Woken) ≡ dials n (req a w st)
woken-dials n a w Waits e = refl
woken-dials n a w Asks e = absurd (cc)
woken-dials n a w Woken e = absurd (cc)
woken-dials n a w (Dials m) e = absurd (cc)
woken-dials n a w (Checks m) e = absurd (cc)

woken-checks : (n a : ℕ) (w : Bool) (st : Standing) → is_waiting_standing st ≡ true → checks n (req a w Woken) ≡ checks n (req a w st)
woken-checks n a w Waits e = refl
woken-checks n a w Asks e = absurd (cc)
woken-checks n a w Woken e = absurd (cc)
woken-checks n a w (Dials m) e = absurd (cc)
woken-checks n a w (Checks m) e = absurd (cc)

pub wake-quiet : (rs : List Request) → QuietRequests rs (wake rs)
wake-quiet rs = record {
  fewer = changed-fewer is_waiting (standing_as Woken) rs (λ r. refl)
      (λ r e. woken-unmarked r.age r.waited r.standing e)
      (λ r e. woken-dialer r.age r.waited r.standing e)
      (λ r e. woken-last r.age r.waited r.standing e);
  dials = λ n. count-change-same (dials n) is_waiting (standing_as Woken) (λ r e. woken-dials n r.age r.waited r.standing e) rs;
  checks = λ n. count-change-same (checks n) is_waiting (standing_as Woken) (λ r e. woken-checks n r.age r.waited r.standing e) rs;
}

-- ---- a request that is found by its age ----

abbrev pub IsAt : ℕ → Bool → Standing → List Request → Type 0
IsAt age waited standing rs = find (has_age age) rs ≡ Some (req age waited standing)

-- the end of one that holds nothing
pub ended-quiet : (age : ℕ) (rs : List Request) (r : Request) → find (has_age age) rs ≡ Some r → ((n : ℕ) → one (dials n r) ≡ 0) → ((n : ℕ) → one (checks n r) ≡ 0) → QuietRequests rs (ended age rs)
ended-quiet age rs r e d c = record {
  fewer = ended-fewer age rs;
  dials = λ n. elim (age == last_age) as (λ b. how_many (dials n) (cond b rs (without (has_age age) rs)) ≡ how_many (dials n) rs) [
    | true ↦ refl
    | false ↦ omega (arith, count-without (dials n) (has_age age) rs r e, d n)
  ];
  checks = λ n. elim (age == last_age) as (λ b. how_many (checks n) (cond b rs (without (has_age age) rs)) ≡ how_many (checks n) rs) [
    | true ↦ refl
    | false ↦ omega (arith, count-without (checks n) (has_age age) rs r e, c n)
  ];
}
