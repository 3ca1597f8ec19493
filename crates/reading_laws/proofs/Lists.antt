-- What the steps of a cache leave in it.
use Rattle.std.proofs.Common.{◌≡◌, ℕ, zero, suc, ◌≤◌, ◌<◌, nat_eq, Bool, true, false, cond, ◌||◌, Option, Some, None, List, [], ◌∷◌, length, take, slice_index_or, ◌⊎◌, inl, inr, refl, sym, ap, subst, ◌∙◌, arith}
use Rattle.std.proofs.lemmas.Bool.Decides.{nat_tests}
use Rattle.std.specs.Cmp.{nat_eq_equiv}
use Rattle.std.specs.List.{Contains, find, list_any}
use Rattle.std.specs.Option.{option_map_or}
use Rattle.my_frame.specs.Lists.{without}
use Rattle.my_statements.specs.Cache.{Cached, Held, has_id, has_query, in_front, with_first}
use Rattle.my_reading.proofs.Keeping.{new_is_first, one_leaves}
use Rattle.my_reading.specs.Statements.{is_held, leaving_for, with_new}

same_id : (a b : ℕ) → nat_eq a b ≡ true → a ≡ b
same_id a b e = grind (arith, nat_tests)

or_right : (a b : Bool) → b ≡ true → (a || b) ≡ true
or_right true b e = refl
or_right false b e = e

-- A statement that isn't kept any more is the only one that goes.
pub any_left : (i id : ℕ) (hs : List Held) → list_any (has_id i) hs ≡ true → (list_any (has_id i) (without (has_id id) hs) ≡ true) ⊎ (i ≡ id)
any_left i id [] e = inl e
any_left i id (h ∷ hs) e = by_first (λ k. any_left i id hs k) (has_id id h) (has_id i h) refl refl e
  where
    further : has_id i h ≡ false → (list_any (has_id i) (without (has_id id) hs) ≡ true) ⊎ (i ≡ id) → ((has_id i h || list_any (has_id i) (without (has_id id) hs)) ≡ true) ⊎ (i ≡ id)
    further c (inl w) = inl (or_right (has_id i h) _ w)
    further c (inr s) = inr s

    by_first : (list_any (has_id i) hs ≡ true → (list_any (has_id i) (without (has_id id) hs) ≡ true) ⊎ (i ≡ id)) → (b c : Bool) → has_id id h ≡ b → has_id i h ≡ c
        → (c || list_any (has_id i) hs) ≡ true → (list_any (has_id i) (cond b hs (h ∷ without (has_id id) hs)) ≡ true) ⊎ (i ≡ id)
    by_first go true true a c e = inr (same_id i h.stmt.id c ∙ sym (same_id id h.stmt.id a))
    by_first go true false a c e = inl e
    by_first go false true a c e = inl (ap (λ x. x || list_any (has_id i) (without (has_id id) hs)) c)
    by_first go false false a c e = further c (go e)

pub few_left : (test : Held → Bool) (hs : List Held) → length (without test hs) ≤ length hs
few_left test [] = omega arith
few_left test (h ∷ hs) = by_first (few_left test hs) (test h)
  where
    by_first : length (without test hs) ≤ length hs → (b : Bool) → length (cond b hs (h ∷ without test hs)) ≤ length (h ∷ hs)
    by_first less true = omega arith
    by_first less false = omega (arith, less)

-- One that is put in front is there, and so are the others.
any_taken : (test other : Held → Bool) (hs : List Held) (h : Held) → find test hs ≡ Some h → list_any other hs ≡ true → (other h || list_any other (without test hs)) ≡ true
any_taken test other [] h f e = absurd (cc)
any_taken test other (g ∷ gs) h f e = by_first (λ i k. any_taken test other gs h i k) (test g) (other g) refl f e
  where
    past : (a b : Bool) → (a || b) ≡ true → (c : Bool) → (a || (c || b)) ≡ true
    past true b e c = refl
    past false b e c = or_right c b e

    by_first : (find test gs ≡ Some h → list_any other gs ≡ true → (other h || list_any other (without test gs)) ≡ true)
        → (b c : Bool) → other g ≡ c → cond b (Some g) (find test gs) ≡ Some h → (c || list_any other gs) ≡ true
        → (other h || list_any other (cond b gs (g ∷ without test gs))) ≡ true
    by_first go true c is f e = let same : g ≡ h = cc in subst (λ x. (other x || list_any other gs) ≡ true) same (subst (λ x. (x || list_any other gs) ≡ true) (sym is) e)
    by_first go false true is f e = or_right (other h) _ (ap (λ x. x || list_any other (without test gs)) is)
    by_first go false false is f e = past (other h) (list_any other (without test gs)) (go f e) (other g)

pub any_fronted : (test other : Held → Bool) (hs : List Held) → list_any other hs ≡ true → list_any other (in_front test hs) ≡ true
any_fronted test other hs e = by_find (find test hs) refl
  where
    by_find : (o : Option Held) → find test hs ≡ o → list_any other (option_map_or (λ h. h ∷ without test hs) o hs) ≡ true
    by_find None f = e
    by_find (Some h) f = any_taken test other hs h f e

few_taken : (test : Held → Bool) (hs : List Held) (h : Held) → find test hs ≡ Some h → suc (length (without test hs)) ≤ length hs
few_taken test [] h f = absurd (cc)
few_taken test (g ∷ gs) h f = by_first (λ k. few_taken test gs h k) (test g) f
  where
    by_first : (find test gs ≡ Some h → suc (length (without test gs)) ≤ length gs) → (b : Bool) → cond b (Some g) (find test gs) ≡ Some h
        → suc (length (cond b gs (g ∷ without test gs))) ≤ suc (length gs)
    by_first go true f = omega arith
    by_first go false f = let less = go f in omega (arith, less)

pub few_fronted : (test : Held → Bool) (hs : List Held) → length (in_front test hs) ≤ length hs
few_fronted test hs = by_find (find test hs) refl
  where
    by_find : (o : Option Held) → find test hs ≡ o → length (option_map_or (λ h. h ∷ without test hs) o hs) ≤ length hs
    by_find None f = omega arith
    by_find (Some h) f = few_taken test hs h f

-- Where a statement is put, each of the others is there still or has to go.
any_contains : (test : Held → Bool) (hs : List Held) → list_any test hs ≡ true → (s : Held) × Contains hs s × (test s ≡ true)
any_contains test [] e = absurd (cc)
any_contains test (h ∷ hs) e = by_first (λ k. any_contains test hs k) (test h) refl e
  where
    by_first : (list_any test hs ≡ true → (s : Held) × Contains hs s × (test s ≡ true)) → (b : Bool) → test h ≡ b → (b || list_any test hs) ≡ true
        → (s : Held) × Contains (h ∷ hs) s × (test s ≡ true)
    by_first go true is e = (h, (zero, omega arith, refl), is)
    by_first go false is e = let w = go e in let less = w.1.1 in (w.0, (suc w.1.0, omega (arith, less), w.1.2), w.2)

contains_any : (test : Held → Bool) (hs : List Held) (k : ℕ) (s : Held) → k < length hs → slice_index_or hs k s ≡ s → test s ≡ true → list_any test hs ≡ true
contains_any test [] k s less e is = absurd (omega (arith, less))
contains_any test (h ∷ hs) zero s less e is = ap (λ x. x || list_any test hs) (ap test e ∙ is)
contains_any test (h ∷ hs) (suc k) s less e is = or_right (test h) _ (contains_any test hs k s (omega (arith, less)) e is)

pub stays_or_leaves : (h : Held) (c : Cached) (i : ℕ) → length c.list ≤ c.capacity → list_any (has_id i) c.list ≡ true
    → (list_any (has_id i) (with_new h c).list ≡ true) ⊎ (leaving_for h c ≡ Some i)
stays_or_leaves h c i few e = further (one_leaves h w.0 c few w.1)
  where
    w : (s : Held) × Contains c.list s × (has_id i s ≡ true)
    w = any_contains (has_id i) c.list e

    further : Contains (with_new h c).list w.0 ⊎ (leaving_for h c ≡ Some w.0.stmt.id) → (list_any (has_id i) (with_new h c).list ≡ true) ⊎ (leaving_for h c ≡ Some i)
    further (inl x) = inl (contains_any (has_id i) (with_new h c).list x.0 w.0 x.1 x.2 w.2)
    further (inr x) = inr (x ∙ ap Some (sym (same_id i w.0.stmt.id w.2)))

few_of : (n : ℕ) (hs : List Held) → length (take n hs) ≤ n
few_of zero hs = omega arith
few_of (suc n) [] = omega arith
few_of (suc n) (h ∷ hs) = let less = few_of n hs in omega (arith, less)

pub new_few : (h : Held) (c : Cached) → length c.list ≤ c.capacity → (length (with_new h c).list ≤ c.capacity) × ((with_new h c).capacity ≡ c.capacity)
new_few h c few = by_held (is_held h c)
  where
    by_held : (b : Bool) → (length (cond {A = Cached} b c (with_first h c)).list ≤ c.capacity) × ((cond {A = Cached} b c (with_first h c)).capacity ≡ c.capacity)
    by_held true = (few, refl)
    by_held false = (few_of c.capacity (h ∷ c.list), refl)

-- where none is found none passes
none_passes : (test : Held → Bool) (hs : List Held) → find test hs ≡ None → list_any test hs ≡ false
none_passes test [] e = refl
none_passes test (h ∷ hs) e = by_first (λ k. none_passes test hs k) (test h) e
  where
    by_first : (find test hs ≡ None → list_any test hs ≡ false) → (b : Bool) → cond b (Some h) (find test hs) ≡ None → (b || list_any test hs) ≡ false
    by_first go true e = absurd (cc)
    by_first go false e = go e

-- A statement that is put is there, unless none is kept.
pub new_is_there : (h : Held) (c : Cached) → find (has_query h.query) c.list ≡ None → list_any (has_id h.stmt.id) c.list ≡ false
    → (list_any (has_id h.stmt.id) (with_new h c).list ≡ true) ⊎ (c.capacity ≡ 0)
new_is_there h c none fresh = by_capacity c.capacity refl
  where
    by_capacity : (n : ℕ) → c.capacity ≡ n → (list_any (has_id h.stmt.id) (with_new h c).list ≡ true) ⊎ (c.capacity ≡ 0)
    by_capacity zero e = inr e
    by_capacity (suc n) e =
        let apart : is_held h c ≡ false = ap (λ x. x || list_any (has_id h.stmt.id) c.list) (none_passes (has_query h.query) c.list none) ∙ fresh in
        let w = new_is_first h c apart (omega (arith, e)) in
        inl (ap (λ hs. list_any (has_id h.stmt.id) hs) w.1 ∙ ap (λ x. x || list_any (has_id h.stmt.id) w.0) (nat_eq_equiv.refl h.stmt.id))
