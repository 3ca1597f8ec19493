-- What a map of places has at a number, and the connections in the order of their arrival.
use Rattle.std.proofs.Common.{◌≡◌, ℕ, ◌+◌, ◌-◌, ◌<◌, Bool, true, false, cond, Option, Some, None, List, [], ◌∷◌, ◌++◌, refl, sym, ap, ◌∙◌, arith, subst, nat_eq, option_map, reverse}
use Rattle.std.specs.Prelude.{find, ◌==◌, ◌||◌, ◌&&◌, nat_le}
use Rattle.std.specs.List.{list_any}
use Rattle.std.specs.Map.{lookup, remove_entry}
use Rattle.std.specs.Option.{IsSome}
use Rattle.std.proofs.lemmas.Option.{none-some}
use Rattle.std.proofs.lemmas.Grind.{reverse_onto}
use Rattle.my_frame.proofs.Finding.{without-unfound}
use Rattle.std.proofs.lemmas.Bool.Decides.{nat_tests}
use Rattle.my_pool_parts.specs.declared.connection.Connection.{Connection}
use Rattle.my_pool_parts.specs.declared.connection.Place.{Place}
use Rattle.my_pool_parts.specs.declared.connection.PlaceKind.{PlaceKind}
use Rattle.my_pool_parts.specs.Connections.{has_number, placed, is_kind}
use Rattle.my_pool_parts.specs.Next.{lesser, least_at}
use Rattle.my_frame.specs.Lists.{without}
use Rattle.my_pool_parts.specs.Arrived.{then_at, counted, IsApart, IsArrived}

-- ---- lists with one more at the end ----

pub without-snoc : {X : Type 0} (key : X → Bool) (xs : List X) (y : X) → key y ≡ false → without key (xs ++ y ∷ []) ≡ without key xs ++ y ∷ []
without-snoc key [] y e = ap (λ b. cond b [] (y ∷ [])) e
without-snoc key (x ∷ xs) y e =
    elim (key x) as (λ b. cond b (xs ++ y ∷ []) (x ∷ without key (xs ++ y ∷ [])) ≡ cond b xs (x ∷ without key xs) ++ y ∷ []) [
      | true ↦ refl
      | false ↦ ap (λ zs. x ∷ zs) (without-snoc key xs y e)
    ]

pub without-last : {X : Type 0} (key : X → Bool) (xs : List X) (y : X) → key y ≡ true → list_any key xs ≡ false → without key (xs ++ y ∷ []) ≡ xs
without-last key [] y e n = ap (λ b. cond b [] (y ∷ [])) e
without-last key (x ∷ xs) y e n =
    elim (key x) as (λ b. (b || list_any key xs) ≡ false → cond b (xs ++ y ∷ []) (x ∷ without key (xs ++ y ∷ [])) ≡ x ∷ xs) [
      | true ↦ λ h. absurd (cc)
      | false ↦ λ h. ap (λ zs. x ∷ zs) (without-last key xs y e h)
    ] n

pub any-snoc : {X : Type 0} (key : X → Bool) (xs : List X) (y : X) → list_any key xs ≡ false → key y ≡ false → list_any key (xs ++ y ∷ []) ≡ false
any-snoc key [] y n e = ap (λ b. b || false) e
any-snoc key (x ∷ xs) y n e =
    elim (key x) as (λ b. (b || list_any key xs) ≡ false → (b || list_any key (xs ++ y ∷ [])) ≡ false) [
      | true ↦ λ h. absurd (cc)
      | false ↦ λ h. any-snoc key xs y h e
    ] n

pub without-absent : {X : Type 0} (key : X → Bool) (xs : List X) → list_any key xs ≡ false → without key xs ≡ xs
without-absent key [] n = refl
without-absent key (x ∷ xs) n =
    elim (key x) as (λ b. (b || list_any key xs) ≡ false → cond b xs (x ∷ without key xs) ≡ x ∷ xs) [
      | true ↦ λ h. absurd (cc)
      | false ↦ λ h. ap (λ zs. x ∷ zs) (without-absent key xs h)
    ] n

pub find-absent : {X : Type 0} (key : X → Bool) (xs : List X) → list_any key xs ≡ false → find key xs ≡ None
find-absent key [] n = refl
find-absent key (x ∷ xs) n =
    elim (key x) as (λ b. (b || list_any key xs) ≡ false → cond b (Some x) (find key xs) ≡ None) [
      | true ↦ λ h. absurd (cc)
      | false ↦ λ h. find-absent key xs h
    ] n

pub find-snoc-other : {X : Type 0} (key : X → Bool) (xs : List X) (y : X) → key y ≡ false → find key (xs ++ y ∷ []) ≡ find key xs
find-snoc-other key [] y e = ap (λ b. cond b (Some y) None) e
find-snoc-other key (x ∷ xs) y e = ap (cond (key x) (Some x)) (find-snoc-other key xs y e)

pub find-snoc-last : {X : Type 0} (key : X → Bool) (xs : List X) (y : X) → list_any key xs ≡ false → key y ≡ true → find key (xs ++ y ∷ []) ≡ Some y
find-snoc-last key [] y n e = ap (λ b. cond b (Some y) None) e
find-snoc-last key (x ∷ xs) y n e =
    elim (key x) as (λ b. (b || list_any key xs) ≡ false → cond b (Some x) (find key (xs ++ y ∷ [])) ≡ Some y) [
      | true ↦ λ h. absurd (cc)
      | false ↦ λ h. find-snoc-last key xs y h e
    ] n

-- ---- numbers ----

flip : (n k : ℕ) (b : Bool) → nat_eq n k ≡ b → (k == n) ≡ b
flip n k true e = grind (arith, nat_tests)
flip n k false e = grind (arith, nat_tests)

pub same-number : (n k : ℕ) → nat_eq n k ≡ true → k ≡ n
same-number n k e = grind (arith, nat_tests)

pub other-test : (n m k : ℕ) → nat_eq n m ≡ false → nat_eq n k ≡ true → nat_eq m k ≡ false
other-test n m k e f = grind (arith, nat_tests)

-- ---- the map ----

pub removed-none : (n : ℕ) (es : List (ℕ × Option Place)) → IsApart es → lookup (nat_eq n) (remove_entry (nat_eq n) es) ≡ None
removed-none n [] h = refl
removed-none n (e ∷ es) h =
    elim (nat_eq n e.0) as (λ b. nat_eq n e.0 ≡ b → lookup (nat_eq n) (cond b es (e ∷ remove_entry (nat_eq n) es)) ≡ None) [
      | true ↦ λ t. subst (λ k. lookup (nat_eq k) es ≡ None) (same-number n e.0 t) h.0
      | false ↦ λ t. ap (λ b. cond b (Some e.1) (lookup (nat_eq n) (remove_entry (nat_eq n) es))) t ∙ removed-none n es h.1
    ] refl

pub removed-other : (n m : ℕ) (es : List (ℕ × Option Place)) → nat_eq n m ≡ false → lookup (nat_eq m) (remove_entry (nat_eq n) es) ≡ lookup (nat_eq m) es
removed-other n m [] d = refl
removed-other n m (e ∷ es) d =
    elim (nat_eq n e.0) as (λ b. nat_eq n e.0 ≡ b → lookup (nat_eq m) (cond b es (e ∷ remove_entry (nat_eq n) es)) ≡ cond (nat_eq m e.0) (Some e.1) (lookup (nat_eq m) es)) [
      | true ↦ λ t. sym (ap (λ b. cond b (Some e.1) (lookup (nat_eq m) es)) (other-test n m e.0 d t))
      | false ↦ λ t. ap (cond (nat_eq m e.0) (Some e.1)) (removed-other n m es d)
    ] refl

-- what has no entry has none in what is left
none-left : (n m : ℕ) (es : List (ℕ × Option Place)) → lookup (nat_eq m) es ≡ None → lookup (nat_eq m) (remove_entry (nat_eq n) es) ≡ None
none-left n m [] h = refl
none-left n m (e ∷ es) h =
    elim (nat_eq m e.0) as (λ b. nat_eq m e.0 ≡ b → cond b (Some e.1) (lookup (nat_eq m) es) ≡ None → lookup (nat_eq m) (cond (nat_eq n e.0) es (e ∷ remove_entry (nat_eq n) es)) ≡ None) [
      | true ↦ λ t k. absurd (cc)
      | false ↦ λ t k. elim (nat_eq n e.0) as (λ b. lookup (nat_eq m) (cond b es (e ∷ remove_entry (nat_eq n) es)) ≡ None) [
        | true ↦ k
        | false ↦ ap (λ b. cond b (Some e.1) (lookup (nat_eq m) (remove_entry (nat_eq n) es))) t ∙ none-left n m es k
      ]
    ] refl h

pub apart-left : (n : ℕ) (es : List (ℕ × Option Place)) → IsApart es → IsApart (remove_entry (nat_eq n) es)
apart-left n [] h = h
apart-left n (e ∷ es) h =
    elim (nat_eq n e.0) as (λ b. IsApart (cond b es (e ∷ remove_entry (nat_eq n) es))) [
      | true ↦ h.1
      | false ↦ (none-left n e.0 es h.0, apart-left n es h.1)
    ]

-- ---- the connections ----

pub absent : (n : ℕ) (es : List (ℕ × Option Place)) → lookup (nat_eq n) es ≡ None → list_any (has_number n) (counted es) ≡ false
absent n [] h = refl
absent n (e ∷ es) h =
    elim (nat_eq n e.0) as (λ b. nat_eq n e.0 ≡ b → cond b (Some e.1) (lookup (nat_eq n) es) ≡ None → list_any (has_number n) (then_at (counted es) e.0 e.1) ≡ false) [
      | true ↦ λ t k. absurd (cc)
      | false ↦ λ t k. elim e.1 as (λ p. list_any (has_number n) (then_at (counted es) e.0 p) ≡ false) [
        | None ↦ absent n es k
        | Some p ↦ any-snoc (has_number n) (counted es) (placed e.0 p) (absent n es k) (flip n e.0 false t)
      ]
    ] refl h

-- the place at a number
abbrev pub joined : Option (Option Place) → Option Place
joined None = None
joined (Some p) = p

pub found : (n : ℕ) (es : List (ℕ × Option Place)) → IsApart es → option_map (λ c. c.place) (find (has_number n) (counted es)) ≡ joined (lookup (nat_eq n) es)
found n [] h = refl
found n (e ∷ es) h =
    elim (nat_eq n e.0) as (λ b. nat_eq n e.0 ≡ b → option_map (λ c. c.place) (find (has_number n) (then_at (counted es) e.0 e.1)) ≡ joined (cond b (Some e.1) (lookup (nat_eq n) es))) [
      | true ↦ λ t. let none : list_any (has_number n) (counted es) ≡ false = absent n es (subst (λ k. lookup (nat_eq k) es ≡ None) (same-number n e.0 t) h.0) in
          elim e.1 as (λ p. option_map (λ c. c.place) (find (has_number n) (then_at (counted es) e.0 p)) ≡ p) [
            | None ↦ ap (option_map (λ c. c.place)) (find-absent (has_number n) (counted es) none)
            | Some p ↦ ap (option_map (λ c. c.place)) (find-snoc-last (has_number n) (counted es) (placed e.0 p) none (flip n e.0 true t))
          ]
      | false ↦ λ t. elim e.1 as (λ p. option_map (λ c. c.place) (find (has_number n) (then_at (counted es) e.0 p)) ≡ joined (lookup (nat_eq n) es)) [
        | None ↦ found n es h.1
        | Some p ↦ ap (option_map (λ c. c.place)) (find-snoc-other (has_number n) (counted es) (placed e.0 p) (flip n e.0 false t)) ∙ found n es h.1
      ]
    ] refl

pub counted-left : (n : ℕ) (es : List (ℕ × Option Place)) → IsApart es → counted (remove_entry (nat_eq n) es) ≡ without (has_number n) (counted es)
counted-left n [] h = refl
counted-left n (e ∷ es) h =
    elim (nat_eq n e.0) as (λ b. nat_eq n e.0 ≡ b → counted (cond b es (e ∷ remove_entry (nat_eq n) es)) ≡ without (has_number n) (then_at (counted es) e.0 e.1)) [
      | true ↦ λ t. let none : list_any (has_number n) (counted es) ≡ false = absent n es (subst (λ k. lookup (nat_eq k) es ≡ None) (same-number n e.0 t) h.0) in
          elim e.1 as (λ p. counted es ≡ without (has_number n) (then_at (counted es) e.0 p)) [
            | None ↦ sym (without-absent (has_number n) (counted es) none)
            | Some p ↦ sym (without-last (has_number n) (counted es) (placed e.0 p) (flip n e.0 true t) none)
          ]
      | false ↦ λ t. elim e.1 as (λ p. then_at (counted (remove_entry (nat_eq n) es)) e.0 p ≡ without (has_number n) (then_at (counted es) e.0 p)) [
        | None ↦ counted-left n es h.1
        | Some p ↦ ap (λ cs. cs ++ placed e.0 p ∷ []) (counted-left n es h.1) ∙ sym (without-snoc (has_number n) (counted es) (placed e.0 p) (flip n e.0 false t))
      ]
    ] refl

-- ---- what holds of the map ----

find-any : {X : Type 0} (key : X → Bool) (xs : List X) → list_any key xs ≡ true → (x : X) × (find key xs ≡ Some x)
find-any {X} key [] e = absurd (cc)
find-any {X} key (x ∷ xs) e =
    elim (key x) as (λ b. (b || list_any key xs) ≡ true → (y : X) × (cond b (Some x) (find key xs) ≡ Some y)) [
      | true ↦ λ h. (x, refl)
      | false ↦ λ h. find-any key xs h
    ] e

unjoin : (o : Option (Option Place)) (p : Place) → joined o ≡ Some p → o ≡ Some (Some p)
unjoin None p e = absurd (cc)
unjoin (Some None) p e = absurd (cc)
unjoin (Some (Some q)) p e = ap (λ o. Some o) e

pub some-is : {X : Type 0} (o : Option X) (x : X) → o ≡ Some x → IsSome o
some-is None x e = absurd (cc)
some-is (Some y) x e = refl

pub some-mapped : {X Y : Type 0} (f : X → Y) (o : Option X) → IsSome (option_map f o) → IsSome o
some-mapped f None h = h
some-mapped f (Some x) h = refl

-- a counted number has a place
pub there : (n : ℕ) (es : List (ℕ × Option Place)) → IsApart es → list_any (has_number n) (counted es) ≡ true → (p : Place) × (lookup (nat_eq n) es ≡ Some (Some p))
there n es h any =
    let x = find-any (has_number n) (counted es) any in
    let p = x.0.place in
    (p, unjoin (lookup (nat_eq n) es) p (sym (found n es h) ∙ ap (option_map (λ c. c.place)) x.1))

pub unmapped : {X Y : Type 0} (f : X → Y) (o : Option X) → option_map f o ≡ None → o ≡ None
unmapped f None e = refl
unmapped f (Some x) e = absurd (cc)

-- a number that may come isn't counted
pub coming-absent : (n : ℕ) (es : List (ℕ × Option Place)) → IsApart es → lookup (nat_eq n) es ≡ Some None → find (has_number n) (counted es) ≡ None
coming-absent n es h e = unmapped (λ c. c.place) (find (has_number n) (counted es)) (found n es h ∙ ap joined e)

pub counted-coming : (n : ℕ) (es : List (ℕ × Option Place)) → IsApart es → lookup (nat_eq n) es ≡ Some None → counted (remove_entry (nat_eq n) es) ≡ counted es
counted-coming n es h e =
    counted-left n es h ∙ without-unfound (has_number n) (counted es) (unmapped (λ c. c.place) (find (has_number n) (counted es)) (found n es h ∙ ap joined e))

turned : (m n : ℕ) → nat_eq m n ≡ false → nat_eq n m ≡ false
turned m n e = grind (arith, nat_tests)

pub put-other : (n m : ℕ) (v : Option Place) (es : List (ℕ × Option Place)) → nat_eq m n ≡ false → lookup (nat_eq m) ((n, v) ∷ remove_entry (nat_eq n) es) ≡ lookup (nat_eq m) es
put-other n m v es d = ap (λ b. cond b (Some v) (lookup (nat_eq m) (remove_entry (nat_eq n) es))) d ∙ removed-other n m es (turned m n d)

differ : (n m : ℕ) (es : List (ℕ × Option Place)) (x y : Option (Option Place)) → lookup (nat_eq n) es ≡ x → lookup (nat_eq m) es ≡ y → (x ≡ y → ⊥) → nat_eq m n ≡ false
differ n m es x y e f apart =
    elim (nat_eq m n) as (λ b. nat_eq m n ≡ b → b ≡ false) [
      | true ↦ λ t. absurd (apart (sym e ∙ ap (λ k. lookup (nat_eq k) es) (same-number m n t) ∙ f))
      | false ↦ λ t. refl
    ] refl

pub apart-put : (n : ℕ) (v : Option Place) (es : List (ℕ × Option Place)) → IsApart es → IsApart ((n, v) ∷ remove_entry (nat_eq n) es)
apart-put n v es h = (removed-none n es h, apart-left n es h)

placed-isnt : (p : Place) → Some (Some p) ≡ Some None → ⊥
placed-isnt p e = absurd (cc)

placed-isnt-none : (p : Place) → Some (Some p) ≡ None → ⊥
placed-isnt-none p e = absurd (cc)

-- a counted one that moves
pub arrived-moved : (n : ℕ) (p q : Place) (es : List (ℕ × Option Place)) (next coming : ℕ) → IsArrived es next coming → lookup (nat_eq n) es ≡ Some (Some p) → IsArrived ((n, Some q) ∷ remove_entry (nat_eq n) es) next coming
arrived-moved n p q es next coming h at = record {
  apart = apart-put n (Some q) es h.apart;
  limited = h.limited;
  ready = λ m a b. put-other n m (Some q) es (differ n m es (Some (Some p)) (Some None) at (h.ready m a b) (placed-isnt p)) ∙ h.ready m a b;
  fresh = λ m a. put-other n m (Some q) es (differ n m es (Some (Some p)) None at (h.fresh m a) (placed-isnt-none p)) ∙ h.fresh m a;
  earlier = λ m a e. (elim (nat_eq m n) as (λ b. nat_eq m n ≡ b → cond b (Some (Some q)) (lookup (nat_eq m) (remove_entry (nat_eq n) es)) ≡ Some None → ⊥) [
    | true ↦ λ t k. placed-isnt q k
    | false ↦ λ t k. h.earlier m a (sym (removed-other n m es (turned m n t)) ∙ k)
  ]) refl e;
}

-- and one that is taken out
pub arrived-left : (n : ℕ) (p : Place) (es : List (ℕ × Option Place)) (next coming : ℕ) → IsArrived es next coming → lookup (nat_eq n) es ≡ Some (Some p) → IsArrived (remove_entry (nat_eq n) es) next coming
arrived-left n p es next coming h at = record {
  apart = apart-left n es h.apart;
  limited = h.limited;
  ready = λ m a b. removed-other n m es (turned m n (differ n m es (Some (Some p)) (Some None) at (h.ready m a b) (placed-isnt p))) ∙ h.ready m a b;
  fresh = λ m a. none-left n m es (h.fresh m a);
  earlier = λ m a e. (elim (nat_eq m n) as (λ b. nat_eq m n ≡ b → ⊥) [
    | true ↦ λ t. none-some None (sym (removed-none n es h.apart) ∙ ap (λ k. lookup (nat_eq k) (remove_entry (nat_eq n) es)) (same-number m n t) ∙ e)
    | false ↦ λ t. h.earlier m a (sym (removed-other n m es (turned m n t)) ∙ e)
  ]) refl;
}

apart-above : (m n : ℕ) → n < m → nat_eq m n ≡ false
apart-above m n lt = grind (arith, nat_tests)

-- the next one comes
pub arrived-next : (q : Place) (es : List (ℕ × Option Place)) (next coming : ℕ) → IsArrived es next coming → 0 < coming → IsArrived ((next, Some q) ∷ remove_entry (nat_eq next) es) (next + 1) (coming - 1)
arrived-next q es next coming h some = record {
  apart = apart-put next (Some q) es h.apart;
  limited = omega (arith, h.limited);
  ready = λ m a b. put-other next m (Some q) es (apart-above m next (omega arith)) ∙ h.ready m (omega arith) (omega arith);
  fresh = λ m a. put-other next m (Some q) es (apart-above m next (omega arith)) ∙ h.fresh m (omega arith);
  earlier = λ m a e. (elim (nat_eq m next) as (λ b. nat_eq m next ≡ b → cond b (Some (Some q)) (lookup (nat_eq m) (remove_entry (nat_eq next) es)) ≡ Some None → ⊥) [
    | true ↦ λ t k. placed-isnt q k
    | false ↦ λ t k. h.earlier m (grind (arith, nat_tests)) (sym (removed-other next m es (turned m next t)) ∙ k)
  ]) refl e;
}

pub next-there : (es : List (ℕ × Option Place)) (next coming : ℕ) → IsArrived es next coming → 0 < coming → lookup (nat_eq next) es ≡ Some None
next-there es next coming h some = h.ready next (omega arith) (omega arith)

-- ---- the connections from the last one on ----

abbrev pub at_first : ℕ → Option Place → List Connection → List Connection
at_first n None cs = cs
at_first n (Some p) cs = placed n p ∷ cs

abbrev pub backwards : List (ℕ × Option Place) → List Connection
backwards [] = []
backwards (e ∷ es) = at_first e.0 e.1 (backwards es)

pub backwards-snoc : (es : List (ℕ × Option Place)) (n : ℕ) (p : Option Place) → backwards (es ++ (n, p) ∷ []) ≡ backwards es ++ at_first n p []
backwards-snoc [] n p = refl
backwards-snoc (e ∷ es) n p =
    elim e.1 as (λ q. at_first e.0 q (backwards (es ++ (n, p) ∷ [])) ≡ at_first e.0 q (backwards es) ++ at_first n p []) [
      | None ↦ backwards-snoc es n p
      | Some q ↦ ap (λ cs. placed e.0 q ∷ cs) (backwards-snoc es n p)
    ]

pub counted-back : (es : List (ℕ × Option Place)) → counted es ≡ reverse (backwards es)
counted-back [] = refl
counted-back (e ∷ es) =
    elim e.1 as (λ q. then_at (counted es) e.0 q ≡ reverse (at_first e.0 q (backwards es))) [
      | None ↦ counted-back es
      | Some q ↦ ap (λ cs. cs ++ placed e.0 q ∷ []) (counted-back es) ∙ sym (reverse_onto (backwards es) (placed e.0 q) [])
    ]

-- ---- the least number ----

-- the least number after one more connection
abbrev pub after_one : PlaceKind → ℕ → Connection → Option ℕ → Option ℕ
after_one kind from c acc = cond (nat_le from c.number && is_kind kind c.place) (Some (lesser acc c.number)) acc

lesser-swap : (acc : Option ℕ) (m n : ℕ) → lesser (Some (lesser acc m)) n ≡ lesser (Some (lesser acc n)) m
lesser-swap None m n = omega arith
lesser-swap (Some a) m n = omega arith

one-swap : (kind : PlaceKind) (from : ℕ) (c d : Connection) (acc : Option ℕ) → after_one kind from c (after_one kind from d acc) ≡ after_one kind from d (after_one kind from c acc)
one-swap kind from c d acc =
    elim (nat_le from c.number && is_kind kind c.place) as (λ a. cond a (Some (lesser (cond (nat_le from d.number && is_kind kind d.place) (Some (lesser acc d.number)) acc) c.number)) (cond (nat_le from d.number && is_kind kind d.place) (Some (lesser acc d.number)) acc)
    ≡ cond (nat_le from d.number && is_kind kind d.place) (Some (lesser (cond a (Some (lesser acc c.number)) acc) d.number)) (cond a (Some (lesser acc c.number)) acc)) [
      | true ↦ elim (nat_le from d.number && is_kind kind d.place) as (λ b. Some (lesser (cond b (Some (lesser acc d.number)) acc) c.number) ≡ cond b (Some (lesser (Some (lesser acc c.number)) d.number)) (Some (lesser acc c.number))) [
        | true ↦ ap (λ k. Some k) (lesser-swap acc d.number c.number)
        | false ↦ refl
      ]
      | false ↦ refl
    ]

least-swap : (kind : PlaceKind) (from : ℕ) (c : Connection) (xs : List Connection) (acc : Option ℕ) → least_at kind from (after_one kind from c acc) xs ≡ after_one kind from c (least_at kind from acc xs)
least-swap kind from c [] acc = refl
least-swap kind from c (x ∷ xs) acc = ap (λ a. least_at kind from a xs) (one-swap kind from x c acc) ∙ least-swap kind from c xs (after_one kind from x acc)

least-snoc : (kind : PlaceKind) (from : ℕ) (xs : List Connection) (c : Connection) (acc : Option ℕ) → least_at kind from acc (xs ++ c ∷ []) ≡ after_one kind from c (least_at kind from acc xs)
least-snoc kind from [] c acc = refl
least-snoc kind from (x ∷ xs) c acc = least-snoc kind from xs c (after_one kind from x acc)

-- it is the same from the last connection on
pub least-back : (kind : PlaceKind) (from : ℕ) (es : List (ℕ × Option Place)) (acc : Option ℕ) → least_at kind from acc (counted es) ≡ least_at kind from acc (backwards es)
least-back kind from [] acc = refl
least-back kind from (e ∷ es) acc =
    elim e.1 as (λ q. least_at kind from acc (then_at (counted es) e.0 q) ≡ least_at kind from acc (at_first e.0 q (backwards es))) [
      | None ↦ least-back kind from es acc
      | Some q ↦ least-snoc kind from (counted es) (placed e.0 q) acc ∙ ap (after_one kind from (placed e.0 q)) (least-back kind from es acc) ∙ sym (least-swap kind from (placed e.0 q) (backwards es) acc)
    ]
