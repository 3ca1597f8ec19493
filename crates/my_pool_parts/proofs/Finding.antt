-- Counting in a list of which the first element that passes a test is taken out or changed.
pub mod Rising
pub mod Keyed
use Rattle.std.proofs.Common.{◌≡◌, ℕ, ◌+◌, ◌≤◌, ◌<◌, Bool, true, false, cond, Some, None, List, [], ◌∷◌, ◌++◌, length, refl, sym, ap, ◌∙◌, arith, map, subst, suc, zero-add}
use Rattle.std.specs.Prelude.{find, count_by, ◌&&◌, ◌||◌, not, nat_lt}
use Rattle.std.proofs.Math.ListN.{set}
use Rattle.std.proofs.Common.{get_or}
use Rattle.std.proofs.lemmas.Bool.{ltb-true, ltb-false}
use Rattle.std.specs.List.{list_any, position, position_or_len, remove}
use Rattle.std.proofs.lemmas.List.Recursion.{is_count_by}
use Rattle.my_frame.specs.Lists.{without}
use Rattle.my_pool_parts.specs.Lists.{change_first, how_many, found_is}

-- one where it passes
abbrev pub one : Bool → ℕ
one b = cond b 1 0

pub count-without : {X : Type 0} (q key : X → Bool) (xs : List X) (y : X) → find key xs ≡ Some y → how_many q (without key xs) + one (q y) ≡ how_many q xs
count-without q key [] y e = absurd (cc)
count-without q key (x ∷ xs) y e =
    elim (key x) as (λ b. cond b (Some x) (find key xs) ≡ Some y → how_many q (cond b xs (x ∷ without key xs)) + one (q y) ≡ one (q x) + how_many q xs) [
      | true ↦ λ h. let s : x ≡ y = cc in rw s (omega arith)
      | false ↦ λ h. omega (arith, count-without q key xs y h)
    ] e

pub length-without : {X : Type 0} (key : X → Bool) (xs : List X) (y : X) → find key xs ≡ Some y → length (without key xs) + 1 ≡ length xs
length-without key [] y e = absurd (cc)
length-without key (x ∷ xs) y e =
    elim (key x) as (λ b. cond b (Some x) (find key xs) ≡ Some y → length (cond b xs (x ∷ without key xs)) + 1 ≡ length (x ∷ xs)) [
      | true ↦ λ h. omega arith
      | false ↦ λ h. omega (arith, length-without key xs y h)
    ] e

pub count-without-le : {X : Type 0} (q key : X → Bool) (xs : List X) → how_many q (without key xs) ≤ how_many q xs
count-without-le q key [] = omega arith
count-without-le q key (x ∷ xs) =
    elim (key x) as (λ b. how_many q (cond b xs (x ∷ without key xs)) ≤ one (q x) + how_many q xs) [
      | true ↦ omega arith
      | false ↦ omega (arith, count-without-le q key xs)
    ]

pub count-change : {X : Type 0} (q key : X → Bool) (f : X → X) (xs : List X) (y : X) → find key xs ≡ Some y → how_many q (change_first key f xs) + one (q y) ≡ how_many q xs + one (q (f y))
count-change q key f [] y e = absurd (cc)
count-change q key f (x ∷ xs) y e =
    elim (key x) as (λ b. cond b (Some x) (find key xs) ≡ Some y → how_many q (cond b (f x ∷ xs) (x ∷ change_first key f xs)) + one (q y) ≡ one (q x) + how_many q xs + one (q (f y))) [
      | true ↦ λ h. let s : x ≡ y = cc in rw s (omega arith)
      | false ↦ λ h. omega (arith, count-change q key f xs y h)
    ] e

-- the change tells nothing to q
pub count-change-same : {X : Type 0} (q key : X → Bool) (f : X → X) → ((x : X) → key x ≡ true → q (f x) ≡ q x) → (xs : List X) → how_many q (change_first key f xs) ≡ how_many q xs
count-change-same q key f same [] = refl
count-change-same q key f same (x ∷ xs) =
    elim (key x) as (λ b. key x ≡ b → how_many q (cond b (f x ∷ xs) (x ∷ change_first key f xs)) ≡ one (q x) + how_many q xs) [
      | true ↦ λ h. ap (λ b. one b + how_many q xs) (same x h)
      | false ↦ λ h. ap (λ n. one (q x) + n) (count-change-same q key f same xs)
    ] refl

-- what is changed no longer passes
pub count-change-less : {X : Type 0} (q key : X → Bool) (f : X → X) → ((x : X) → key x ≡ true → one (q (f x)) ≤ one (q x)) → (xs : List X) → how_many q (change_first key f xs) ≤ how_many q xs
count-change-less q key f less [] = omega arith
count-change-less q key f less (x ∷ xs) =
    elim (key x) as (λ b. key x ≡ b → how_many q (cond b (f x ∷ xs) (x ∷ change_first key f xs)) ≤ one (q x) + how_many q xs) [
      | true ↦ λ h. omega (arith, less x h)
      | false ↦ λ h. omega (arith, count-change-less q key f less xs)
    ] refl

pub length-change : {X : Type 0} (key : X → Bool) (f : X → X) (xs : List X) → length (change_first key f xs) ≡ length xs
length-change key f [] = refl
length-change key f (x ∷ xs) =
    elim (key x) as (λ b. length (cond b (f x ∷ xs) (x ∷ change_first key f xs)) ≡ length (x ∷ xs)) [
      | true ↦ refl
      | false ↦ omega (arith, length-change key f xs)
    ]

pub count-append : {X : Type 0} (q : X → Bool) (xs ys : List X) → how_many q (xs ++ ys) ≡ how_many q xs + how_many q ys
count-append q [] ys = omega arith
count-append q (x ∷ xs) ys = omega (arith, count-append q xs ys)

pub count-push : {X : Type 0} (q : X → Bool) (xs : List X) (x : X) → how_many q (xs ++ x ∷ []) ≡ how_many q xs + one (q x)
count-push q xs x = count-append q xs (x ∷ []) ∙ omega arith

pub count-map-same : {X : Type 0} (q : X → Bool) (f : X → X) → ((x : X) → q (f x) ≡ q x) → (xs : List X) → how_many q (map f xs) ≡ how_many q xs
count-map-same q f same [] = refl
count-map-same q f same (x ∷ xs) = omega (arith, ap one (same x), count-map-same q f same xs)

-- one that is found counts
pub count-found : {X : Type 0} (q key : X → Bool) (xs : List X) (y : X) → find key xs ≡ Some y → one (q y) ≤ how_many q xs
count-found q key xs y e = omega (arith, count-without q key xs y e)

-- where none is found, none is changed
pub change-none : {X : Type 0} (key : X → Bool) (f : X → X) (xs : List X) → find key xs ≡ None → change_first key f xs ≡ xs
change-none key f [] e = refl
change-none key f (x ∷ xs) e =
    elim (key x) as (λ b. cond b (Some x) (find key xs) ≡ None → cond b (f x ∷ xs) (x ∷ change_first key f xs) ≡ x ∷ xs) [
      | true ↦ λ h. absurd (cc)
      | false ↦ λ h. ap (λ ys. x ∷ ys) (change-none key f xs h)
    ] e

-- none passes where none is found
pub count-none : {X : Type 0} (key : X → Bool) (xs : List X) → find key xs ≡ None → how_many key xs ≡ 0
count-none key [] e = refl
count-none key (x ∷ xs) e =
    elim (key x) as (λ b. cond b (Some x) (find key xs) ≡ None → one b + how_many key xs ≡ 0) [
      | true ↦ λ h. absurd (cc)
      | false ↦ λ h. omega (arith, count-none key xs h)
    ] e

-- as std counts
pub count-std : {X : Type 0} (q : X → Bool) (xs : List X) → how_many q xs ≡ count_by q xs
count-std q xs = is_count_by (how_many q) q refl (λ x xs. elim (q x) as (λ b. one b + how_many q xs ≡ cond b (1 + how_many q xs) (how_many q xs)) [ true ↦ refl | false ↦ zero-add _ ]) xs

pub shorter-without : {X : Type 0} (key : X → Bool) (xs : List X) → length (without key xs) ≤ length xs
shorter-without key [] = omega arith
shorter-without key (x ∷ xs) =
    elim (key x) as (λ b. length (cond b xs (x ∷ without key xs)) ≤ length (x ∷ xs)) [
      | true ↦ omega arith
      | false ↦ omega (arith, shorter-without key xs)
    ]

pub count-and : {X : Type 0} (q key : X → Bool) (xs : List X) → how_many (λ x. q x && key x) xs ≤ how_many key xs
count-and q key [] = omega arith
count-and q key (x ∷ xs) =
    elim (q x) as (λ b. one (b && key x) + how_many (λ x. q x && key x) xs ≤ one (key x) + how_many key xs) [
      | true ↦ omega (arith, count-and q key xs)
      | false ↦ omega (arith, count-and q key xs)
    ]

-- the one that passes, where one passes that may pass
pub found-once : {X : Type 0} (q key : X → Bool) (xs : List X) → how_many key xs ≤ 1 → 0 < how_many (λ x. q x && key x) xs → (y : X) × (find key xs ≡ Some y) × (q y ≡ true)
found-once q key [] once some = absurd (omega arith)
found-once q key (x ∷ xs) once some =
    elim (key x) as (λ b. key x ≡ b → one b + how_many key xs ≤ 1 → 0 < one (q x && b) + how_many (λ x. q x && key x) xs → (y : _) × (cond b (Some x) (find key xs) ≡ Some y) × (q y ≡ true)) [
      | true ↦ λ _ few s. (
        x,
        refl,
        elim (q x) as (λ a. 0 < one (a && true) + how_many (λ x. q x && key x) xs → a ≡ true) [
          | true ↦ λ _. refl
          | false ↦ λ t. absurd (omega (arith, count-and q key xs))
        ] s,
      )
      | false ↦ λ _ few s. found-once q key xs (omega arith) (elim (q x) as (λ a. 0 < one (a && false) + how_many (λ x. q x && key x) xs → 0 < how_many (λ x. q x && key x) xs) [ true ↦ λ t. omega arith | false ↦ λ t. omega arith ] s)
    ] refl once some

-- what passes one test passes another, or one of two
pub count-either : {X : Type 0} (p q k : X → Bool) → ((x : X) → one (p x) ≤ one (q x) + one (k x)) → (xs : List X) → how_many p xs ≤ how_many q xs + how_many k xs
count-either p q k le [] = omega arith
count-either p q k le (x ∷ xs) = omega (arith, le x, count-either p q k le xs)

pub count-implies : {X : Type 0} (p q : X → Bool) → ((x : X) → one (p x) ≤ one (q x)) → (xs : List X) → how_many p xs ≤ how_many q xs
count-implies p q le [] = omega arith
count-implies p q le (x ∷ xs) = omega (arith, le x, count-implies p q le xs)

pub count-le-length : {X : Type 0} (p : X → Bool) (xs : List X) → how_many p xs ≤ length xs
count-le-length p [] = omega arith
count-le-length p (x ∷ xs) = elim (p x) as (λ b. one b + how_many p xs ≤ length (x ∷ xs)) [ true ↦ omega (arith, count-le-length p xs) | false ↦ omega (arith, count-le-length p xs) ]

-- a test that no element passes
pub none-counted : {X : Type 0} (p : X → Bool) (xs : List X) → list_any p xs ≡ false → how_many p xs ≡ 0
none-counted p [] e = refl
none-counted p (x ∷ xs) e =
    elim (p x) as (λ b. (b || list_any p xs) ≡ false → one b + how_many p xs ≡ 0) [
      | true ↦ λ k. absurd (cc)
      | false ↦ λ k. omega (arith, none-counted p xs k)
    ] e

-- a test that some element passes
pub some-counted : {X : Type 0} (p : X → Bool) (xs : List X) → list_any p xs ≡ true → 0 < how_many p xs
some-counted p [] e = absurd (cc)
some-counted p (x ∷ xs) e =
    elim (p x) as (λ b. (b || list_any p xs) ≡ true → 0 < one b + how_many p xs) [
      | true ↦ λ k. omega arith
      | false ↦ λ k. omega (arith, some-counted p xs k)
    ] e

-- ---- by the place of the first element that passes ----

next-place : (n : ℕ) → 1 + n ≡ suc n
next-place n = omega arith

pub without-at : {X : Type 0} (key : X → Bool) (xs : List X) → position_or_len key xs < length xs → without key xs ≡ remove xs (position_or_len key xs)
without-at key [] lt = absurd (omega arith)
without-at key (x ∷ xs) lt =
    elim (key x) as (λ b. cond (not b) (1 + position_or_len key xs) 0 < length (x ∷ xs) → cond b xs (x ∷ without key xs) ≡ remove (x ∷ xs) (cond (not b) (1 + position_or_len key xs) 0)) [
      | true ↦ λ l. refl
      | false ↦ λ l. subst (λ n. x ∷ without key xs ≡ remove (x ∷ xs) n) (sym (next-place (position_or_len key xs))) (ap (λ ys. x ∷ ys) (without-at key xs (omega arith)))
    ] lt

pub found-get : {X : Type 0} (key : X → Bool) (xs : List X) (d : X) → position_or_len key xs < length xs → find key xs ≡ Some (get_or xs (position_or_len key xs) d)
found-get key [] d lt = absurd (omega arith)
found-get key (x ∷ xs) d lt =
    elim (key x) as (λ b. cond (not b) (1 + position_or_len key xs) 0 < length (x ∷ xs) → cond b (Some x) (find key xs) ≡ Some (get_or (x ∷ xs) (cond (not b) (1 + position_or_len key xs) 0) d)) [
      | true ↦ λ l. refl
      | false ↦ λ l. subst (λ n. find key xs ≡ Some (get_or (x ∷ xs) n d)) (sym (next-place (position_or_len key xs))) (found-get key xs d (omega arith))
    ] lt

pub nothing-there : {X : Type 0} (key : X → Bool) (xs : List X) → length xs ≤ position_or_len key xs → list_any key xs ≡ false
nothing-there key [] le = refl
nothing-there key (x ∷ xs) le =
    elim (key x) as (λ b. length (x ∷ xs) ≤ cond (not b) (1 + position_or_len key xs) 0 → (b || list_any key xs) ≡ false) [
      | true ↦ λ l. absurd (omega arith)
      | false ↦ λ l. nothing-there key xs (omega arith)
    ] le

pub without-none : {X : Type 0} (key : X → Bool) (xs : List X) → list_any key xs ≡ false → without key xs ≡ xs
without-none key [] e = refl
without-none key (x ∷ xs) e =
    elim (key x) as (λ b. (b || list_any key xs) ≡ false → cond b xs (x ∷ without key xs) ≡ x ∷ xs) [
      | true ↦ λ k. absurd (cc)
      | false ↦ λ k. ap (λ ys. x ∷ ys) (without-none key xs k)
    ] e

-- what `position` tells
pub position-is : {X : Type 0} (key : X → Bool) (xs : List X) (i : ℕ) → position key xs ≡ Some i → (i < length xs) × (position_or_len key xs ≡ i)
position-is key xs i e =
    elim (nat_lt (position_or_len key xs) (length xs)) as (λ b. nat_lt (position_or_len key xs) (length xs) ≡ b → cond b (Some (position_or_len key xs)) None ≡ Some i → (i < length xs) × (position_or_len key xs ≡ i)) [
      | true ↦ λ k h.
          let lt : position_or_len key xs < length xs = ltb-true (position_or_len key xs) (length xs) k in
          let same : position_or_len key xs ≡ i = cc in
          (omega arith, same)
      | false ↦ λ k h. absurd (cc)
    ] refl e

pub position-isnt : {X : Type 0} (key : X → Bool) (xs : List X) → position key xs ≡ None → list_any key xs ≡ false
position-isnt key xs e =
    elim (nat_lt (position_or_len key xs) (length xs)) as (λ b. nat_lt (position_or_len key xs) (length xs) ≡ b → cond b (Some (position_or_len key xs)) None ≡ None → list_any key xs ≡ false) [
      | true ↦ λ k h. absurd (cc)
      | false ↦ λ k h. nothing-there key xs (ltb-false (position_or_len key xs) (length xs) k)
    ] refl e

pub without-position : {X : Type 0} (key : X → Bool) (xs : List X) (i : ℕ) → position key xs ≡ Some i → without key xs ≡ remove xs i
without-position key xs i e =
    let p = position-is key xs i e in
    without-at key xs (omega (arith, p.0, p.1)) ∙ ap (remove xs) p.1

pub without-nothing : {X : Type 0} (key : X → Bool) (xs : List X) → position key xs ≡ None → without key xs ≡ xs
without-nothing key xs e = without-none key xs (position-isnt key xs e)

-- what is found is there
pub found-any : {X : Type 0} (t key : X → Bool) (xs : List X) → found_is t (find key xs) ≡ true → list_any key xs ≡ true
found-any t key [] e = e
found-any t key (x ∷ xs) e =
    elim (key x) as (λ b. found_is t (cond b (Some x) (find key xs)) ≡ true → (b || list_any key xs) ≡ true) [
      | true ↦ λ k. refl
      | false ↦ λ k. found-any t key xs k
    ] e

pub shorter-where-any : {X : Type 0} (key : X → Bool) (xs : List X) → list_any key xs ≡ true → length (without key xs) + 1 ≡ length xs
shorter-where-any key [] e = absurd (cc)
shorter-where-any key (x ∷ xs) e =
    elim (key x) as (λ b. (b || list_any key xs) ≡ true → length (cond b xs (x ∷ without key xs)) + 1 ≡ length (x ∷ xs)) [
      | true ↦ λ k. omega arith
      | false ↦ λ k. omega (arith, shorter-where-any key xs k)
    ] e

pub find-position : {X : Type 0} (key : X → Bool) (xs : List X) (i : ℕ) (d : X) → position key xs ≡ Some i → find key xs ≡ Some (get_or xs i d)
find-position key xs i d e =
    let p = position-is key xs i e in
    found-get key xs d (omega (arith, p.0, p.1)) ∙ ap (λ n. Some (get_or xs n d)) p.1

none-found : {X : Type 0} (key : X → Bool) (xs : List X) → list_any key xs ≡ false → find key xs ≡ None
none-found key [] e = refl
none-found key (x ∷ xs) e = elim (key x) as (λ b. (b || list_any key xs) ≡ false → cond b (Some x) (find key xs) ≡ None) [ true ↦ λ k. absurd (cc) | false ↦ λ k. none-found key xs k ] e

pub find-nothing : {X : Type 0} (key : X → Bool) (xs : List X) → position key xs ≡ None → find key xs ≡ None
find-nothing key xs e = none-found key xs (position-isnt key xs e)

no-place : {X : Type 0} (key : X → Bool) (xs : List X) → list_any key xs ≡ false → length xs ≤ position_or_len key xs
no-place key [] e = omega arith
no-place key (x ∷ xs) e = elim (key x) as (λ b. (b || list_any key xs) ≡ false → length (x ∷ xs) ≤ cond (not b) (1 + position_or_len key xs) 0) [ true ↦ λ k. absurd (cc) | false ↦ λ k. omega (arith, no-place key xs k) ] e

pub any-position : {X : Type 0} (key : X → Bool) (xs : List X) (i : ℕ) → position key xs ≡ Some i → list_any key xs ≡ true
any-position key xs i e =
    elim (list_any key xs) as (λ b. list_any key xs ≡ b → b ≡ true) [
      | true ↦ λ _. refl
      | false ↦ λ k.
          let p = position-is key xs i e in
          absurd (omega (arith, p.0, p.1, no-place key xs k))
    ] refl
