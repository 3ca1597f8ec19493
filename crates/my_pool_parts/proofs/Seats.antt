-- The live requests in a map by age: what is found, changed, taken out and put in there is so in the list of the requests.
pub mod Kept
use Rattle.std.proofs.Common.{◌≡◌, ℕ, ◌+◌, ◌≤◌, ◌<◌, Bool, true, false, cond, Option, Some, None, List, [], ◌∷◌, ◌++◌, length, get_or, set, map, zero, suc, refl, sym, ap, ◌∙◌, subst, arith}
use Rattle.std.specs.Prelude.{find, remove, option_map, is_some, ◌==◌, ◌||◌}
use Rattle.std.specs.declared.cmp.Ordering.{Ordering}
use Rattle.std.specs.declared.cmp.Ordering.TheVariants.{Less, Equal, Greater}
use Rattle.std.specs.Ordering.{nat_cmp, is_eq, match_ordering}
use Rattle.std.specs.List.{list_any}
use Rattle.std.specs.Map.{lookup, remove_entry, set_value}
use Rattle.std.specs.BTreeMap.{is_at, insert_entry}
use Rattle.std.proofs.lemmas.Bool.Decides.{nat_tests}
use Rattle.std.proofs.lemmas.Bool.{eqb-true}
use Rattle.my_pool_parts.specs.declared.request.Request.{Request}
use Rattle.my_pool_parts.specs.declared.seat.Seat.{Seat}
use Rattle.my_frame.specs.Lists.{without}
use Rattle.my_pool_parts.specs.Lists.{change_first}
use Rattle.my_pool_parts.specs.Requests.{asking, has_age, IsRising}
use Rattle.my_pool_parts.specs.Live.{requests_of, slots_of, IsKeyed}

-- the map looks for a key as the list for an age
same-test : (age k a : ℕ) → k ≡ a → is_eq (nat_cmp age k) ≡ (a == age)
same-test age k a e = grind (arith, nat_tests)

pub found-in : (age : ℕ) (es : List (ℕ × Seat)) → IsKeyed es → option_map (λ s. s.request) (lookup (is_at (nat_cmp age)) es) ≡ find (has_age age) (requests_of es)
found-in age [] h = refl
found-in age (e ∷ es) h =
    ap (λ b. option_map (λ (s : Seat). s.request) (cond b (Some e.1) (lookup (is_at (nat_cmp age)) es))) (same-test age e.0 e.1.request.age h.0)
    ∙ elim (e.1.request.age == age) as (λ b. option_map (λ (s : Seat). s.request) (cond b (Some e.1) (lookup (is_at (nat_cmp age)) es)) ≡ cond b (Some e.1.request) (find (has_age age) (requests_of es))) [ true ↦ refl | false ↦ found-in age es h.1 ]

pub any-in : (age : ℕ) (es : List (ℕ × Seat)) → IsKeyed es → is_some (lookup (is_at (nat_cmp age)) es) ≡ list_any (has_age age) (requests_of es)
any-in age [] h = refl
any-in age (e ∷ es) h =
    ap (λ b. is_some (cond b (Some e.1) (lookup (is_at (nat_cmp age)) es))) (same-test age e.0 e.1.request.age h.0)
    ∙ elim (e.1.request.age == age) as (λ b. is_some (cond b (Some e.1) (lookup (is_at (nat_cmp age)) es)) ≡ (b || list_any (has_age age) (requests_of es))) [ true ↦ refl | false ↦ any-in age es h.1 ]

-- the entry of an age, which is at this index
pub record IsSeatAt (es : List (ℕ × Seat)) (age i : ℕ) (seat : Seat) : Type 0 where
  pub within : i < length es
  pub entry : (d : ℕ × Seat) → get_or es i d ≡ (age, seat)
  pub changes : (f : Request → Request) → change_first (has_age age) f (requests_of es) ≡ set (requests_of es) i (f seat.request)
  pub leaves : without (has_age age) (requests_of es) ≡ remove (requests_of es) i
  pub written : (next : Seat) → set_value (is_at (nat_cmp age)) es next ≡ set es i (age, next)
  pub taken : remove_entry (is_at (nat_cmp age)) es ≡ remove es i

-- a key that is found isn't below those that rise from a number on
found-above : (low age : ℕ) (es : List (ℕ × Seat)) (seat : Seat) → IsKeyed es → IsRising low (requests_of es) → lookup (is_at (nat_cmp age)) es ≡ Some seat → low ≤ age
found-above low age [] seat k h e = absurd (cc)
found-above low age (x ∷ es) seat k h e =
    elim (x.1.request.age == age) as (λ b. (x.1.request.age == age) ≡ b → cond b (Some x.1) (lookup (is_at (nat_cmp age)) es) ≡ Some seat → low ≤ age) [
      | true ↦ λ t q. omega (arith, h.0, eqb-true x.1.request.age age t)
      | false ↦ λ t q. omega (arith, h.0, found-above (x.1.request.age + 1) age es seat k.1 h.1 q)
    ] refl (ap (λ b. cond b (Some x.1) (lookup (is_at (nat_cmp age)) es)) (sym (same-test age x.0 x.1.request.age k.0)) ∙ e)

some-is : (a b : Seat) → ◌≡◌ {A = Option Seat} (Some a) (Some b) → a ≡ b
some-is a b q = cc

pair-is : (x : ℕ × Seat) (n : ℕ) (s : Seat) → x.0 ≡ n → x.1 ≡ s → x ≡ (n, s)
pair-is x n s p q = ap (λ m. (m, x.1)) p ∙ ap (λ t. (n, t)) q

pub seat-at : (low age : ℕ) (es : List (ℕ × Seat)) (seat : Seat) → IsKeyed es → IsRising low (requests_of es) → lookup (is_at (nat_cmp age)) es ≡ Some seat → (i : ℕ) × IsSeatAt es age i seat
seat-at low age [] seat k h e = absurd (cc)
seat-at low age (x ∷ es) seat k h e = by_order (nat_cmp age x.0) refl (seat-at (x.1.request.age + 1) age es seat k.1 h.1)
  where
    by_order : (o : Ordering) → nat_cmp age x.0 ≡ o → (lookup (is_at (nat_cmp age)) es ≡ Some seat → (i : ℕ) × IsSeatAt es age i seat) → (i : ℕ) × IsSeatAt (x ∷ es) age i seat
    by_order Equal o rest =
        let same : x.0 ≡ age = grind (arith, nat_tests) in
        let found : x.1 ≡ seat = some-is x.1 seat (sym (ap (λ r. cond (is_eq r) (Some x.1) (lookup (is_at (nat_cmp age)) es)) o) ∙ e) in
        let key : (x.1.request.age == age) ≡ true = grind (arith, nat_tests) in (
          zero,
          record {
            within = omega arith;
            entry = λ d. pair-is x age seat same found;
            changes = λ f. ap (λ b. cond b (f x.1.request ∷ requests_of es) (x.1.request ∷ change_first (has_age age) f (requests_of es))) key ∙ ap (λ (s : Seat). f s.request ∷ requests_of es) found;
            leaves = ap (λ b. cond b (requests_of es) (x.1.request ∷ without (has_age age) (requests_of es))) key;
            written = λ next. ap (λ r. cond (is_eq r) ((x.0, next) ∷ es) (x ∷ set_value (is_at (nat_cmp age)) es next)) o ∙ ap (λ n. (n, next) ∷ es) same;
            taken = ap (λ r. cond (is_eq r) es (x ∷ remove_entry (is_at (nat_cmp age)) es)) o;
          },
        )
    by_order Less o rest =
        let below : age < x.0 = grind (arith, nat_tests) in
        let later : lookup (is_at (nat_cmp age)) es ≡ Some seat = sym (ap (λ r. cond (is_eq r) (Some x.1) (lookup (is_at (nat_cmp age)) es)) o) ∙ e in
        absurd (omega (arith, below, k.0, found-above (x.1.request.age + 1) age es seat k.1 h.1 later))
    by_order Greater o rest =
        let later : lookup (is_at (nat_cmp age)) es ≡ Some seat = sym (ap (λ r. cond (is_eq r) (Some x.1) (lookup (is_at (nat_cmp age)) es)) o) ∙ e in
        let key : (x.1.request.age == age) ≡ false = grind (arith, nat_tests) in
        let r = rest later in (
          suc r.0,
          record {
            within = omega (arith, r.1.within);
            entry = r.1.entry;
            changes = λ f. ap (λ b. cond b (f x.1.request ∷ requests_of es) (x.1.request ∷ change_first (has_age age) f (requests_of es))) key ∙ ap (λ xs. x.1.request ∷ xs) (r.1.changes f);
            leaves = ap (λ b. cond b (requests_of es) (x.1.request ∷ without (has_age age) (requests_of es))) key ∙ ap (λ xs. x.1.request ∷ xs) r.1.leaves;
            written = λ next. ap (λ r. cond (is_eq r) ((x.0, next) ∷ es) (x ∷ set_value (is_at (nat_cmp age)) es next)) o ∙ ap (λ xs. x ∷ xs) (r.1.written next);
            taken = ap (λ r. cond (is_eq r) es (x ∷ remove_entry (is_at (nat_cmp age)) es)) o ∙ ap (λ xs. x ∷ xs) r.1.taken;
          },
        )

-- one that is younger than each goes to the end
pub put-last : (low age : ℕ) (es : List (ℕ × Seat)) (next : Seat) → IsKeyed es → IsRising low (requests_of es ++ asking age ∷ []) → insert_entry nat_cmp es age next ≡ es ++ (age, next) ∷ []
put-last low age [] next k h = refl
put-last low age (x ∷ es) next k h =
    let above = last-above (x.1.request.age + 1) age (requests_of es) h.1 in
    let o : nat_cmp age x.0 ≡ Greater = grind (arith, nat_tests) in
    ap (λ r. match_ordering r ((age, next) ∷ x ∷ es) ((x.0, next) ∷ es) (x ∷ insert_entry nat_cmp es age next)) o ∙ ap (λ xs. x ∷ xs) (put-last (x.1.request.age + 1) age es next k.1 h.1)
  where
    last-above : (low age : ℕ) (rs : List Request) → IsRising low (rs ++ asking age ∷ []) → low ≤ age
    last-above low age [] h = h.0
    last-above low age (r ∷ rs) h = omega (arith, h.0, last-above (r.age + 1) age rs h.1)
