-- The least number at a kind of place, where a map of linked places is gone through in the order of the numbers.
use Rattle.std.proofs.Common.{◌≡◌, ℕ, ◌≤◌, ◌<◌, Bool, true, false, cond, Option, Some, None, List, [], ◌∷◌, refl, sym, ap, ◌∙◌, arith, subst, nat_eq, option_map, min}
use Rattle.std.specs.Prelude.{nat_le, ◌&&◌}
use Rattle.std.specs.declared.cmp.Ordering.TheVariants.{Less}
use Rattle.std.specs.declared.ops.Bound.TheVariants.{Included, Unbounded}
use Rattle.std.specs.Ordering.{nat_cmp}
use Rattle.std.specs.List.{AllByRecursion, filter}
use Rattle.std.specs.List.Sorted.{IsStrictlySortedBy}
use Rattle.std.specs.Map.{lookup, keys_of}
use Rattle.std.specs.BTreeMap.{is_at}
use Rattle.std.specs.BTreeMap.Range.{range_contains, entries_between}
use Rattle.std.proofs.lemmas.Bool.Decides.{nat_tests}
use Rattle.std.proofs.lemmas.List.Kept.{IsStrictlySortedBy-filter}
use Rattle.std.proofs.lemmas.Option.{none-some, same_Some}
use Rattle.std.proofs.lemmas.Map.Entries.{lookup-filter-keys}
use Rattle.std.proofs.lemmas.Map.Keys.{sorted_head, sorted_tail}
use Rattle.my_pool_parts.specs.declared.connection.Place.{Place}
use Rattle.my_pool_parts.specs.declared.connection.PlaceKind.{PlaceKind}
use Rattle.my_pool_parts.specs.declared.node.Node.{Node}
use Rattle.my_pool_parts.specs.Connections.{is_kind, placed}
use Rattle.my_pool_parts.specs.Next.{lesser, least_at}
use Rattle.my_pool_parts.specs.Lists.{found_is}
use Rattle.my_pool_parts.specs.Arrived.{IsApart, counted}
use Rattle.my_pool_parts.specs.Linked.{node_at, IsLinked}
use Rattle.my_pool_parts.proofs.Order.{same-number, at_first, backwards, least-back}
use Rattle.my_pool_parts.proofs.Linked.{at-number, number-same, linked-found}

-- whether a number is at a kind of place, and not below one
abbrev pub fits : PlaceKind → ℕ → ℕ → Option Place → Bool
fits kind from n None = false
fits kind from n (Some p) = nat_le from n && is_kind kind p

-- ---- in a list of places ----

first-place : (e : ℕ × Option Place) (es : List (ℕ × Option Place)) → lookup (nat_eq e.0) (e ∷ es) ≡ Some e.1
first-place e es = ap (λ t. cond t (Some e.1) (lookup (nat_eq e.0) es)) (number-same e.0)

later-place : (n : ℕ) (e : ℕ × Option Place) (es : List (ℕ × Option Place)) (p : Option Place) → lookup (nat_eq e.0) es ≡ None → lookup (nat_eq n) es ≡ Some p → lookup (nat_eq n) (e ∷ es) ≡ Some p
later-place n e es p none is =
    elim (nat_eq n e.0) as (λ t. nat_eq n e.0 ≡ t → cond t (Some e.1) (lookup (nat_eq n) es) ≡ Some p) [
      | true ↦ λ t. absurd (none-some p (sym (subst (λ k. lookup (nat_eq k) es ≡ None) (same-number n e.0 t) none) ∙ is))
      | false ↦ λ t. is
    ] refl

none-fits : (kind : PlaceKind) (from : ℕ) (es : List (ℕ × Option Place)) (acc : Option ℕ) → IsApart es → ((n : ℕ) (p : Option Place) → lookup (nat_eq n) es ≡ Some p → fits kind from n p ≡ false) → least_at kind from acc (backwards es) ≡ acc
none-fits kind from [] acc apart h = refl
none-fits kind from (e ∷ es) acc apart h =
    let rest = none-fits kind from es acc apart.1 (λ n p is. h n p (later-place n e es p apart.0 is)) in
    elim e.1 as (λ p. fits kind from e.0 p ≡ false → least_at kind from acc (at_first e.0 p (backwards es)) ≡ acc) [
      | None ↦ λ t. rest
      | Some p ↦ λ t. ap (λ b. least_at kind from (cond b (Some (lesser acc e.0)) acc) (backwards es)) t ∙ rest
    ] (h e.0 e.1 (first-place e es))

-- none that fits is below k
abbrev NoneBelow : PlaceKind → ℕ → ℕ → List (ℕ × Option Place) → Type 0
NoneBelow kind from k es = (n : ℕ) (p : Option Place) → lookup (nat_eq n) es ≡ Some p → fits kind from n p ≡ true → k ≤ n

least-stays : (kind : PlaceKind) (from k : ℕ) (es : List (ℕ × Option Place)) → IsApart es → NoneBelow kind from k es → least_at kind from (Some k) (backwards es) ≡ Some k
least-stays kind from k [] apart h = refl
least-stays kind from k (e ∷ es) apart h =
    let rest = least-stays kind from k es apart.1 (λ n p is. h n p (later-place n e es p apart.0 is)) in
    elim e.1 as (λ p. (fits kind from e.0 p ≡ true → k ≤ e.0) → least_at kind from (Some k) (at_first e.0 p (backwards es)) ≡ Some k) [
      | None ↦ λ t. rest
      | Some p ↦ λ t. elim (nat_le from e.0 && is_kind kind p) as (λ b. (b ≡ true → k ≤ e.0) → least_at kind from (cond b (Some (min k e.0)) (Some k)) (backwards es) ≡ Some k) [
        | true ↦ λ f. ap (λ m. least_at kind from (Some m) (backwards es)) (low k e.0 (f refl)) ∙ rest
        | false ↦ λ f. rest
      ] t
    ] (h e.0 e.1 (first-place e es))
  where
    low : (k m : ℕ) → k ≤ m → min k m ≡ k
    low k m le = omega arith

lesser-low : (acc : Option ℕ) (k m : ℕ) → lesser acc k ≡ k → k ≤ m → lesser (Some (lesser acc m)) k ≡ k
lesser-low None k m e le = omega arith
lesser-low (Some a) k m e le = omega (arith, e)

least-fits : (kind : PlaceKind) (from k : ℕ) (p : Option Place) (es : List (ℕ × Option Place)) (acc : Option ℕ) → IsApart es → lesser acc k ≡ k → lookup (nat_eq k) es ≡ Some p → fits kind from k p ≡ true → NoneBelow kind from k es
    → least_at kind from acc (backwards es) ≡ Some k
least-fits kind from k p [] acc apart low at fit h = absurd (cc)
least-fits kind from k p (e ∷ es) acc apart low at fit h =
    let later : NoneBelow kind from k es = λ n q is. h n q (later-place n e es q apart.0 is) in
    elim (nat_eq k e.0) as (λ t. nat_eq k e.0 ≡ t → cond t (Some e.1) (lookup (nat_eq k) es) ≡ Some p → least_at kind from acc (at_first e.0 e.1 (backwards es)) ≡ Some k) [
      | true ↦ λ t is. own e.1 (same-number k e.0 t) (subst (λ q. fits kind from k q ≡ true) (sym (same_Some e.1 p is)) fit) (least-stays kind from k es apart.1 later)
      | false ↦ λ t is. other e.1 (h e.0 e.1 (first-place e es)) (λ a lo. least-fits kind from k p es a apart.1 lo is fit later)
    ] refl at
  where
    own : (q : Option Place) → e.0 ≡ k → fits kind from k q ≡ true → least_at kind from (Some k) (backwards es) ≡ Some k → least_at kind from acc (at_first e.0 q (backwards es)) ≡ Some k
    own None same f rest = absurd (cc)
    own (Some q) same f rest =
        ap (λ m. least_at kind from acc (placed m q ∷ backwards es)) same
        ∙ ap (λ b. least_at kind from (cond b (Some (lesser acc k)) acc) (backwards es)) f ∙ ap (λ m. least_at kind from (Some m) (backwards es)) low ∙ rest

    other : (q : Option Place) → (fits kind from e.0 q ≡ true → k ≤ e.0) → ((a : Option ℕ) → lesser a k ≡ k → least_at kind from a (backwards es) ≡ Some k) → least_at kind from acc (at_first e.0 q (backwards es)) ≡ Some k
    other None f rest = rest acc low
    other (Some q) f rest =
        elim (nat_le from e.0 && is_kind kind q) as (λ b. (b ≡ true → k ≤ e.0) → least_at kind from (cond b (Some (lesser acc e.0)) acc) (backwards es) ≡ Some k) [
          | true ↦ λ g. rest (Some (lesser acc e.0)) (lesser-low acc k e.0 low (g refl))
          | false ↦ λ g. rest acc low
        ] f

-- ---- what is left of a map, in the order of the numbers ----

-- it has each place that fits
pub record IsAhead (es : List (ℕ × Option Place)) (kind : PlaceKind) (from : ℕ) (m : List (ℕ × Node)) : Type 0 where
  pub apart : IsApart es
  pub sorted : IsStrictlySortedBy nat_cmp (keys_of m)
  pub inside : (n : ℕ) (d : Node) → node_at m n ≡ Some d → (lookup (nat_eq n) es ≡ Some d.place) × (nat_le from n ≡ true)
  pub left : (n : ℕ) (p : Option Place) → lookup (nat_eq n) es ≡ Some p → fits kind from n p ≡ true → (d : Node) × (node_at m n ≡ Some d) × (d.place ≡ p)

in-range : (from n : ℕ) → range_contains nat_cmp (Included from) Unbounded n ≡ nat_le from n
in-range from n = grind (arith, nat_tests)

ranged : (from n : ℕ) (m : List (ℕ × Node)) → node_at (entries_between nat_cmp (Included from) Unbounded m) n ≡ cond (nat_le from n) (node_at m n) None
ranged from n m = lookup-filter-keys (is_at (nat_cmp n)) (range_contains nat_cmp (Included from) Unbounded) (nat_le from n) (λ k t. in-range from k ∙ sym (ap (nat_le from) (same-number k n (sym (at-number n k) ∙ t)))) m

fits-from : (kind : PlaceKind) (from n : ℕ) (p : Option Place) → fits kind from n p ≡ true → nat_le from n ≡ true
fits-from kind from n None f = absurd (cc)
fits-from kind from n (Some p) f = elim (nat_le from n) as (λ t. (t && is_kind kind p) ≡ true → t ≡ true) [ true ↦ λ k. refl | false ↦ λ k. k ] f

filter-keys : (p : ℕ → Bool) (es : List (ℕ × Node)) → keys_of (filter (λ (e : ℕ × Node). p e.0) es) ≡ filter p (keys_of es)
filter-keys p [] = refl
filter-keys p (e ∷ es) = elim (p e.0) as (λ t. keys_of (cond t (e ∷ filter (λ (e : ℕ × Node). p e.0) es) (filter (λ (e : ℕ × Node). p e.0) es)) ≡ cond t (e.0 ∷ filter p (keys_of es)) (filter p (keys_of es))) [
  | true ↦ ap (λ ks. e.0 ∷ ks) (filter-keys p es)
  | false ↦ filter-keys p es
]

mapped : (o : Option Node) (p : Option Place) → option_map (λ (d : Node). d.place) o ≡ Some p → (d : Node) × (o ≡ Some d) × (d.place ≡ p)
mapped None p e = absurd (cc)
mapped (Some d) p e = (d, refl, same_Some d.place p e)

-- from a number on, all of it is left
pub ahead-all : {m : List (ℕ × Node)} {newest : Option ℕ} {es : List (ℕ × Option Place)} (kind : PlaceKind) (from : ℕ) (rest : List (ℕ × Node)) → IsLinked m newest es → IsStrictlySortedBy nat_cmp (keys_of m)
    → rest ≡ entries_between nat_cmp (Included from) Unbounded m → IsAhead es kind from rest
ahead-all {m} {newest} {es} kind from rest h sorted is =
    let test = range_contains nat_cmp (Included from) Unbounded in
    subst (IsAhead es kind from) (sym is) (record {
      apart = h.apart;
      sorted = subst (IsStrictlySortedBy nat_cmp) (sym (filter-keys test m)) (IsStrictlySortedBy-filter nat_cmp test (keys_of m) sorted);
      inside = λ n d at. elim (nat_le from n) as (λ t. cond t (node_at m n) None ≡ Some d → (lookup (nat_eq n) es ≡ Some d.place) × (t ≡ true)) [
        | true ↦ λ k. (linked-found n h ∙ ap (option_map (λ (x : Node). x.place)) k, refl)
        | false ↦ λ k. absurd (none-some d k)
      ] (sym (ranged from n m) ∙ at);
      left = λ n p at f.
          let d = mapped (node_at m n) p (sym (linked-found n h) ∙ at) in
          (d.0, ranged from n m ∙ ap (λ t. cond t (node_at m n) None) (fits-from kind from n p f) ∙ d.1, d.2);
    })

-- what is found in the rest is above the first
above-first : (n k : ℕ) (d : Node) (m : List (ℕ × Node)) → AllByRecursion (λ y. nat_cmp n y ≡ Less) (keys_of m) → node_at m k ≡ Some d → n < k
above-first n k d [] h at = absurd (cc)
above-first n k d (e ∷ m) h at =
    elim (is_at (nat_cmp k) e.0) as (λ t. is_at (nat_cmp k) e.0 ≡ t → cond t (Some e.1) (node_at m k) ≡ Some d → n < k) [
      | true ↦ λ t q. below n e.0 k h.0 (same-number e.0 k (sym (at-number k e.0) ∙ t))
      | false ↦ λ t q. above-first n k d m h.1 q
    ] refl at
  where
    below : (n m k : ℕ) → nat_cmp n m ≡ Less → k ≡ m → n < k
    below n m k h e = grind (arith, nat_tests)

other-at : (n k : ℕ) → n < k → is_at (nat_cmp k) n ≡ false
other-at n k lt = grind (arith, nat_tests)

fits-found : (kind : PlaceKind) (from n : ℕ) (p : Option Place) → nat_le from n ≡ true → found_is (is_kind kind) p ≡ true → fits kind from n p ≡ true
fits-found kind from n None le is = absurd (cc)
fits-found kind from n (Some p) le is = ap (λ t. t && is_kind kind p) le ∙ is

fits-unfound : (kind : PlaceKind) (from n : ℕ) (p : Option Place) → found_is (is_kind kind) p ≡ false → fits kind from n p ≡ false
fits-unfound kind from n None is = refl
fits-unfound kind from n (Some p) is = elim (nat_le from n) as (λ t. (t && is_kind kind p) ≡ false) [ true ↦ is | false ↦ refl ]

-- the first one doesn't fit
pub ahead-next : (es : List (ℕ × Option Place)) (kind : PlaceKind) (from n : ℕ) (d : Node) (m : List (ℕ × Node)) → IsAhead es kind from ((n, d) ∷ m) → found_is (is_kind kind) d.place ≡ false → IsAhead es kind from m
ahead-next es kind from n d m h misses = record {
  apart = h.apart;
  sorted = sorted_tail nat_cmp n (keys_of m) h.sorted;
  inside = λ k x at. h.inside k x (ap (λ t. cond t (Some d) (node_at m k)) (other-at n k (above-first n k x m (sorted_head nat_cmp n (keys_of m) h.sorted) at)) ∙ at);
  left = λ k p at f.
      let x = h.left k p at f in
      elim (is_at (nat_cmp k) n) as (λ t. is_at (nat_cmp k) n ≡ t → cond t (Some d) (node_at m k) ≡ Some x.0 → (y : Node) × (node_at m k ≡ Some y) × (y.place ≡ p)) [
        | true ↦ λ t q. absurd (isnt (fits kind from k p) f (subst (λ i. fits kind from i p ≡ false) (sym (same-number n k (sym (at-number k n) ∙ t))) (subst (λ o. fits kind from n o ≡ false) (ap (λ (y : Node). y.place) (same_Some d x.0 q) ∙ x.2) (fits-unfound kind from n d.place misses))))
        | false ↦ λ t q. (x.0, q, x.2)
      ] refl x.1;
}
  where
    isnt : (b : Bool) → b ≡ true → b ≡ false → ⊥
    isnt b t f = absurd (cc)

-- it fits
pub ahead-first : (es : List (ℕ × Option Place)) (kind : PlaceKind) (from n : ℕ) (d : Node) (m : List (ℕ × Node)) → IsAhead es kind from ((n, d) ∷ m) → found_is (is_kind kind) d.place ≡ true → least_at kind from None (counted es) ≡ Some n
ahead-first es kind from n d m h is =
    let there = h.inside n d (ap (λ t. cond t (Some d) (node_at m n)) (at-number n n ∙ number-same n)) in
    least-back kind from es None ∙ least-fits kind from n d.place es None h.apart refl there.0 (fits-found kind from n d.place there.1 is) (λ k q e f.
    let x = h.left k q e f in
    elim (is_at (nat_cmp k) n) as (λ t. is_at (nat_cmp k) n ≡ t → cond t (Some d) (node_at m k) ≡ Some x.0 → n ≤ k) [
      | true ↦ λ t r. same-low n k (same-number n k (sym (at-number k n) ∙ t))
      | false ↦ λ t r. omega (arith, above-first n k x.0 m (sorted_head nat_cmp n (keys_of m) h.sorted) r)
    ] refl x.1)
  where
    same-low : (n k : ℕ) → k ≡ n → n ≤ k
    same-low n k e = omega (arith, e)

-- nothing is left
pub ahead-none : (es : List (ℕ × Option Place)) (kind : PlaceKind) (from : ℕ) → IsAhead es kind from [] → least_at kind from None (counted es) ≡ None
ahead-none es kind from h =
    least-back kind from es None ∙ none-fits kind from es None h.apart (λ n p at. elim (fits kind from n p) as (λ t. fits kind from n p ≡ t → t ≡ false) [
      | true ↦ λ t. let x = h.left n p at t in absurd (none-some x.0 x.1)
      | false ↦ λ t. refl
    ] refl)
