-- A queue in parts: what is read, added or taken out in one of them is so in the whole.
use Rattle.std.proofs.Common.{◌≡◌, ℕ, ◌+◌, ◌-◌, ◌<◌, ◌≤◌, Bool, true, false, cond, Some, None, List, [], ◌∷◌, ◌++◌, length, get_or, set, drop, zero, suc, refl, sym, ap, ◌∙◌, subst, arith, length-append, append-nil, append_assoc, ◌*◌, max}
use Rattle.std.specs.Prelude.{◌==◌, ◌||◌, not, nat_le, slice_get, position}
use Rattle.std.specs.List.{list_any, position_or_len}
use Rattle.std.proofs.lemmas.Bool.Decides.{nat_tests}
use Rattle.my_frame.specs.Lists.{without}
use Rattle.my_pool_parts.specs.Lists.{how_many}
use Rattle.my_pool_parts.specs.Row.{strung, last_room, stands_in, more_room}
use Rattle.my_pool_parts.proofs.Finding.{one, count-append, some-counted, position-is}

-- ---- lists ----

any-append : {X : Type 0} (p : X → Bool) (xs ys : List X) → list_any p (xs ++ ys) ≡ (list_any p xs || list_any p ys)
any-append p [] ys = refl
any-append p (x ∷ xs) ys =
    elim (p x) as (λ b. (b || list_any p (xs ++ ys)) ≡ ((b || list_any p xs) || list_any p ys)) [
      | true ↦ refl
      | false ↦ any-append p xs ys
    ]

pub any-drop : {X : Type 0} (p : X → Bool) (k : ℕ) (xs : List X) → list_any p (drop k xs) ≡ true → list_any p xs ≡ true
any-drop p zero xs e = e
any-drop p (suc k) [] e = e
any-drop p (suc k) (x ∷ xs) e = elim (p x) as (λ b. (b || list_any p xs) ≡ true) [
  | true ↦ refl
  | false ↦ any-drop p k xs e
]

without-left : {X : Type 0} (p : X → Bool) (xs ys : List X) → list_any p xs ≡ true → without p (xs ++ ys) ≡ without p xs ++ ys
without-left p [] ys e = absurd (cc)
without-left p (x ∷ xs) ys e =
    elim (p x) as (λ b. (b || list_any p xs) ≡ true → cond b (xs ++ ys) (x ∷ without p (xs ++ ys)) ≡ cond b xs (x ∷ without p xs) ++ ys) [
      | true ↦ λ h. refl
      | false ↦ λ h. ap (λ zs. x ∷ zs) (without-left p xs ys h)
    ] e

without-right : {X : Type 0} (p : X → Bool) (xs ys : List X) → how_many p xs ≡ 0 → without p (xs ++ ys) ≡ xs ++ without p ys
without-right p [] ys e = refl
without-right p (x ∷ xs) ys e =
    elim (p x) as (λ b. one b + how_many p xs ≡ 0 → cond b (xs ++ ys) (x ∷ without p (xs ++ ys)) ≡ x ∷ (xs ++ without p ys)) [
      | true ↦ λ h. absurd (omega arith)
      | false ↦ λ h. ap (λ zs. x ∷ zs) (without-right p xs ys (omega arith))
    ] e

get-left : {X : Type 0} (xs ys : List X) (i : ℕ) → i < length xs → slice_get (xs ++ ys) i ≡ slice_get xs i
get-left [] ys i lt = absurd (omega arith)
get-left (x ∷ xs) ys zero lt = refl
get-left (x ∷ xs) ys (suc i) lt = get-left xs ys i (omega arith)

get-right : {X : Type 0} (xs ys : List X) (i : ℕ) → length xs ≤ i → slice_get (xs ++ ys) i ≡ slice_get ys (i - length xs)
get-right [] ys i le = ap (slice_get ys) (omega arith)
get-right (x ∷ xs) ys zero le = absurd (omega arith)
get-right (x ∷ xs) ys (suc i) le = let same : i - length xs ≡ suc i - length (x ∷ xs) = omega arith in get-right xs ys i (omega arith) ∙ ap (slice_get ys) same

-- one that is read is there
pub get-some : {X : Type 0} (xs : List X) (i : ℕ) (d : X) → i < length xs → slice_get xs i ≡ Some (get_or xs i d)
get-some [] i d lt = absurd (omega arith)
get-some (x ∷ xs) zero d lt = refl
get-some (x ∷ xs) (suc i) d lt = get-some xs i d (omega arith)

pub get-none : {X : Type 0} (xs : List X) → slice_get xs 0 ≡ None → length xs ≡ 0
get-none [] e = refl
get-none (x ∷ xs) e = absurd (cc)

pub get-is : {X : Type 0} (xs : List X) (i : ℕ) (x : X) → slice_get xs i ≡ Some x → (x ≡ get_or xs i x) × (i < length xs)
get-is [] i x e = absurd (cc)
get-is (y ∷ xs) zero x e = let same : x ≡ y = cc in (same, omega arith)
get-is (y ∷ xs) (suc i) x e = let rest = get-is xs i x e in (rest.0, omega (arith, rest.1))

module _ {P X : Type 0} (items : P → List X) where
  -- ---- what is read ----

  pub part-read : (parts : List P) (part : P) (rest : List P) (i : ℕ) → parts ≡ part ∷ rest → i < length (items part) → slice_get (strung items parts) i ≡ slice_get (items part) i
  part-read parts part rest i e lt = ap (λ ps. slice_get (strung items ps) i) e ∙ get-left (items part) (strung items rest) i lt

  pub part-passed : (parts : List P) (part : P) (rest : List P) (i : ℕ) → parts ≡ part ∷ rest → length (items part) ≤ i → slice_get (strung items parts) i ≡ slice_get (strung items rest) (i - length (items part))
  part-passed parts part rest i e le = ap (λ ps. slice_get (strung items ps) i) e ∙ get-right (items part) (strung items rest) i le

  -- ---- what is added ----

  pub strung-set : (parts : List P) (k : ℕ) (old new : P) (x : X) → suc k ≡ length parts → old ≡ get_or parts k old → items new ≡ items old ++ x ∷ [] → strung items (set parts k new) ≡ strung items parts ++ x ∷ []
  strung-set [] k old new x last e same = absurd (omega arith)
  strung-set (p ∷ []) zero old new x last e same = append-nil (items new) ∙ same ∙ ap (λ q. items q ++ x ∷ []) e ∙ ap (λ ys. ys ++ x ∷ []) (sym (append-nil (items p)))
  strung-set (p ∷ q ∷ ps) zero old new x last e same = absurd (omega arith)
  strung-set (p ∷ ps) (suc k) old new x last e same = ap (λ ys. items p ++ ys) (strung-set ps k old new x (omega arith) e same) ∙ sym (append_assoc (items p) (strung items ps) (x ∷ []))

  pub strung-more : (parts : List P) (new : P) → items new ≡ [] → strung items (parts ++ new ∷ []) ≡ strung items parts
  strung-more [] new e = append-nil (items new) ∙ e
  strung-more (p ∷ ps) new e = ap (λ ys. items p ++ ys) (strung-more ps new e)

  pub part-short : (parts : List P) (k : ℕ) (part : P) → k < length parts → part ≡ get_or parts k part → length (items part) ≤ length (strung items parts)
  part-short [] k part lt e = absurd (omega arith)
  part-short (p ∷ ps) zero part lt e = omega (arith, ap (λ q. length (items q)) e, length-append (items p) (strung items ps))
  part-short (p ∷ ps) (suc k) part lt e = omega (arith, part-short ps k part (omega arith) e, length-append (items p) (strung items ps))

module _ {P : Type 0} (room : P → ℕ) where
  pub last-room : (parts : List P) (k : ℕ) (part : P) → suc k ≡ length parts → part ≡ get_or parts k part → last_room room parts ≡ room part
  last-room [] k part last e = absurd (omega arith)
  last-room (p ∷ []) zero part last e = ap room (sym e)
  last-room (p ∷ []) (suc k) part last e = absurd (omega arith)
  last-room (p ∷ q ∷ ps) zero part last e = absurd (omega arith)
  last-room (p ∷ q ∷ ps) (suc k) part last e = last-room (q ∷ ps) k part (omega arith) e

  pub room-some : (parts : List P) → 0 < last_room room parts → 0 < length parts
  room-some [] lt = absurd (omega arith)
  room-some (p ∷ ps) lt = omega arith

  pub room-read : (parts : List P) (part : P) → slice_get parts (length parts - 1) ≡ Some part → last_room room parts ≡ room part
  room-read [] part e = absurd (cc)
  room-read (p ∷ []) part e = let same : p ≡ part = cc in ap room same
  room-read (p ∷ q ∷ ps) part e =
      let at : length (p ∷ q ∷ ps) - 1 ≡ suc (length (q ∷ ps) - 1) = omega arith in
      room-read (q ∷ ps) part (ap (slice_get (p ∷ q ∷ ps)) (sym at) ∙ e)

  pub room-set : (parts : List P) (k : ℕ) (old new : P) → old ≡ get_or parts k old → room new ≡ room old → last_room room (set parts k new) ≡ last_room room parts
  room-set [] k old new e same = refl
  room-set (p ∷ []) zero old new e same = same ∙ ap room e
  room-set (p ∷ []) (suc k) old new e same = refl
  room-set (p ∷ q ∷ ps) zero old new e same = refl
  room-set (p ∷ q ∷ []) (suc zero) old new e same = room-set (q ∷ []) zero old new e same
  room-set (p ∷ q ∷ []) (suc (suc k)) old new e same = refl
  room-set (p ∷ q ∷ r ∷ ps) (suc zero) old new e same = refl
  room-set (p ∷ q ∷ r ∷ ps) (suc (suc k)) old new e same = room-set (q ∷ r ∷ ps) (suc k) old new e same

  pub room-more : (parts : List P) (new : P) → last_room room (parts ++ new ∷ []) ≡ room new
  room-more [] new = refl
  room-more (p ∷ []) new = refl
  room-more (p ∷ q ∷ ps) new = room-more (q ∷ ps) new

-- ---- what is taken out ----

module _ {P : Type 0} (items : P → List ℕ) where
  pub stands-there : (n : ℕ) (parts : List P) (k : ℕ) → stands_in items n parts k ≡ true → k < length parts
  stands-there n [] k e = absurd (cc)
  stands-there n (p ∷ ps) zero e = omega arith
  stands-there n (p ∷ ps) (suc k) e = omega (arith, stands-there n ps k e)

  -- it is counted, and no more often in its part
  pub stands-once : (n : ℕ) (parts : List P) (k : ℕ) (part : P) → part ≡ get_or parts k part → stands_in items n parts k ≡ true → how_many (λ m. m == n) (items part) ≤ how_many (λ m. m == n) (strung items parts)
  stands-once n [] k part e h = absurd (cc)
  stands-once n (p ∷ ps) zero part e h = omega (arith, ap (λ q. how_many (λ m. m == n) (items q)) e, count-append (λ m. m == n) (items p) (strung items ps))
  stands-once n (p ∷ ps) (suc k) part e h = omega (arith, stands-once n ps k part e h, count-append (λ m. m == n) (items p) (strung items ps))

  pub stands-counted : (n : ℕ) (parts : List P) (k : ℕ) → stands_in items n parts k ≡ true → list_any (λ m. m == n) (strung items parts) ≡ true
  stands-counted n [] k h = absurd (cc)
  stands-counted n (p ∷ ps) zero h = any-append (λ m. m == n) (items p) (strung items ps) ∙ ap (λ b. b || list_any (λ m. m == n) (strung items ps)) h
  stands-counted n (p ∷ ps) (suc k) h = any-append (λ m. m == n) (items p) (strung items ps) ∙ ap (λ b. list_any (λ m. m == n) (items p) || b) (stands-counted n ps k h) ∙ or-true (list_any (λ m. m == n) (items p))
    where
      or-true : (b : Bool) → (b || true) ≡ true
      or-true true = refl
      or-true false = refl

  pub strung-without : (n : ℕ) (parts : List P) (k : ℕ) (old new : P) → old ≡ get_or parts k old → stands_in items n parts k ≡ true → how_many (λ m. m == n) (strung items parts) ≤ 1 → items new ≡ without (λ m. m == n) (items old) → strung items (set parts k new) ≡ without (λ m. m == n) (strung items parts)
  strung-without n [] k old new e h once same = absurd (cc)
  strung-without n (p ∷ ps) zero old new e h once same =
      ap (λ xs. xs ++ strung items ps) (same ∙ ap (λ q. without (λ m. m == n) (items q)) e) ∙ sym (without-left (λ m. m == n) (items p) (strung items ps) h)
  strung-without n (p ∷ ps) (suc k) old new e h once same =
      let all = count-append (λ m. m == n) (items p) (strung items ps) in
      let some = some-counted (λ m. m == n) (strung items ps) (stands-counted n ps k h) in
      ap (λ ys. items p ++ ys) (strung-without n ps k old new e h (omega (arith, all, once)) same) ∙ sym (without-right (λ m. m == n) (items p) (strung items ps) (omega (arith, all, some, once)))

  -- ---- where it is found ----

  first-stands : (key : P → Bool) (n : ℕ) (parts : List P) → ((p : P) → key p ≡ true → list_any (λ m. m == n) (items p) ≡ true) → position_or_len key parts < length parts → stands_in items n parts (position_or_len key parts) ≡ true
  first-stands key n [] means lt = absurd (omega arith)
  first-stands key n (p ∷ ps) means lt =
      elim (key p) as (λ b. key p ≡ b → cond (not b) (1 + position_or_len key ps) 0 < length (p ∷ ps) → stands_in items n (p ∷ ps) (cond (not b) (1 + position_or_len key ps) 0) ≡ true) [
        | true ↦ λ t l. means p t
        | false ↦ λ t l.
            let next : 1 + position_or_len key ps ≡ suc (position_or_len key ps) = omega arith in
            subst (λ k. stands_in items n (p ∷ ps) k ≡ true) (sym next) (first-stands key n ps means (omega arith))
      ] refl lt

  pub position-stands : (key : P → Bool) (n : ℕ) (parts : List P) (k : ℕ) → ((p : P) → key p ≡ true → list_any (λ m. m == n) (items p) ≡ true) → position key parts ≡ Some k → stands_in items n parts k ≡ true
  position-stands key n parts k means e =
      let at = position-is key parts k e in
      subst (λ i. stands_in items n parts i ≡ true) at.1 (first-stands key n parts means (omega (arith, at.0, at.1)))

  pub nowhere : (n : ℕ) (parts : List P) → list_any (λ part. list_any (λ m. m == n) (items part)) parts ≡ false → list_any (λ m. m == n) (strung items parts) ≡ false
  nowhere n [] e = refl
  nowhere n (p ∷ ps) e =
      any-append (λ m. m == n) (items p) (strung items ps)
      ∙ elim (list_any (λ m. m == n) (items p)) as (λ b. (b || list_any (λ part. list_any (λ m. m == n) (items part)) ps) ≡ false → (b || list_any (λ m. m == n) (strung items ps)) ≡ false) [
        | true ↦ λ h. absurd (cc)
        | false ↦ λ h. nowhere n ps h
      ] e

-- ---- its room ----

pub grows-to : (before room n : ℕ) → before < room → n ≡ max room (2 * before) → n ≡ more_room before room
grows-to before room n lt e =
    let no : nat_le room before ≡ false = grind (arith, nat_tests) in
    e ∙ ap (λ b. cond b before (max room (2 * before))) (sym no)
