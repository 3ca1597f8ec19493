-- The numbers of those that pass a test, as a connection leaves its place and goes to the end.
use Rattle.std.proofs.Common.{◌≡◌, ℕ, ◌+◌, ◌-◌, ◌≤◌, ◌<◌, zero, suc, Bool, true, false, cond, Option, Some, None, List, [], ◌∷◌, ◌++◌, length, refl, sym, ap, ◌∙◌, arith, option_map, get_or, take, OnSome, is_some, append-nil, length-append}
use Rattle.std.specs.Prelude.{find, ◌==◌, ◌||◌}
use mir.Val.{bool_byte}
use Rattle.std.specs.List.{list_any}
use Rattle.std.proofs.lemmas.Bool.Decides.{nat_tests}
use Rattle.my_pool_parts.specs.declared.connection.Connection.{Connection}
use Rattle.my_pool_parts.specs.declared.connection.Place.{Place}
use Rattle.my_pool_parts.specs.declared.connection.Place.TheVariants.{Connecting}
use Rattle.my_pool_parts.specs.Connections.{has_number, placed, is_idle, is_returned, is_leased, is_at_work, is_leased_place, is_working_place, is_idle_place, is_returned_place, move_to}
use Rattle.my_frame.specs.Lists.{without}
use Rattle.my_pool_parts.specs.Lists.{how_many, found_is}
use Rattle.my_frame.proofs.Finding.{found-passes, without-unfound}
use Rattle.my_pool_parts.proofs.Finding.{one, count-without, count-push, count-le-length, length-without, without-none, some-counted, count-without-le, count-none}
use Rattle.my_pool_parts.proofs.Order.{find-absent, unmapped}
use Rattle.my_pool_parts.specs.Stored.{numbers_at, IsStored}

-- with one more at the end
pub numbers-snoc : (t : Connection → Bool) (xs : List Connection) (y : Connection) → numbers_at t (xs ++ y ∷ []) ≡ numbers_at t xs ++ cond (t y) (y.number ∷ []) []
numbers-snoc t [] y = refl
numbers-snoc t (x ∷ xs) y =
    elim (t x) as (λ b. cond b (x.number ∷ numbers_at t (xs ++ y ∷ [])) (numbers_at t (xs ++ y ∷ [])) ≡ cond b (x.number ∷ numbers_at t xs) (numbers_at t xs) ++ cond (t y) (y.number ∷ []) []) [
      | true ↦ ap (λ ns. x.number ∷ ns) (numbers-snoc t xs y)
      | false ↦ numbers-snoc t xs y
    ]

pub numbers-length : (t : Connection → Bool) (xs : List Connection) → length (numbers_at t xs) ≡ how_many t xs
numbers-length t [] = refl
numbers-length t (x ∷ xs) =
    elim (t x) as (λ b. length (cond b (x.number ∷ numbers_at t xs) (numbers_at t xs)) ≡ one b + how_many t xs) [
      | true ↦ omega (arith, numbers-length t xs)
      | false ↦ omega (arith, numbers-length t xs)
    ]

pub numbers-once : (t : Connection → Bool) (n : ℕ) (xs : List Connection) → how_many (λ m. m == n) (numbers_at t xs) ≤ how_many (has_number n) xs
numbers-once t n [] = omega arith
numbers-once t n (x ∷ xs) =
    elim (t x) as (λ b. how_many (λ m. m == n) (cond b (x.number ∷ numbers_at t xs) (numbers_at t xs)) ≤ one (has_number n x) + how_many (has_number n) xs) [
      | true ↦ omega (arith, numbers-once t n xs)
      | false ↦ omega (arith, numbers-once t n xs)
    ]

any-count : {X : Type 0} (p : X → Bool) (xs : List X) → how_many p xs ≡ 0 → list_any p xs ≡ false
any-count p [] e = refl
any-count p (x ∷ xs) e =
    elim (p x) as (λ b. one b + how_many p xs ≡ 0 → (b || list_any p xs) ≡ false) [
      | true ↦ λ h. absurd (omega arith)
      | false ↦ λ h. any-count p xs (omega arith)
    ] e

pub none-any : {X : Type 0} (p : X → Bool) (xs : List X) → how_many p xs ≡ 0 → list_any p xs ≡ false
none-any p xs e = any-count p xs e

-- one that passes leaves
numbers-without : (t : Connection → Bool) (n : ℕ) (xs : List Connection) → how_many (has_number n) xs ≤ 1 → numbers_at t (without (has_number n) xs) ≡ without (λ m. m == n) (numbers_at t xs)
numbers-without t n [] h = refl
numbers-without t n (x ∷ xs) h =
    elim (has_number n x) as (λ k. has_number n x ≡ k → one k + how_many (has_number n) xs ≤ 1 → numbers_at t (cond k xs (x ∷ without (has_number n) xs)) ≡ without (λ m. m == n) (cond (t x) (x.number ∷ numbers_at t xs) (numbers_at t xs))) [
      | true ↦ λ e l. elim (t x) as (λ b. numbers_at t xs ≡ without (λ m. m == n) (cond b (x.number ∷ numbers_at t xs) (numbers_at t xs))) [
        | true ↦ ap (λ k. cond k (numbers_at t xs) (x.number ∷ without (λ m. m == n) (numbers_at t xs))) (sym e)
        | false ↦ sym (without-none (λ m. m == n) (numbers_at t xs) (any-count (λ m. m == n) (numbers_at t xs) (omega (arith, numbers-once t n xs))))
      ]
      | false ↦ λ e l. elim (t x) as (λ b. cond b (x.number ∷ numbers_at t (without (has_number n) xs)) (numbers_at t (without (has_number n) xs)) ≡ without (λ m. m == n) (cond b (x.number ∷ numbers_at t xs) (numbers_at t xs))) [
        | true ↦ ap (λ ns. x.number ∷ ns) (numbers-without t n xs (omega arith)) ∙ ap (λ k. cond k (numbers_at t xs) (x.number ∷ without (λ m. m == n) (numbers_at t xs))) (sym e)
        | false ↦ numbers-without t n xs (omega arith)
      ]
    ] refl h

-- and one that doesn't
numbers-beside : (t : Connection → Bool) (n : ℕ) (xs : List Connection) (c : Connection) → find (has_number n) xs ≡ Some c → t c ≡ false → numbers_at t (without (has_number n) xs) ≡ numbers_at t xs
numbers-beside t n [] c f e = refl
numbers-beside t n (x ∷ xs) c f e =
    elim (has_number n x) as (λ k. cond k (Some x) (find (has_number n) xs) ≡ Some c → numbers_at t (cond k xs (x ∷ without (has_number n) xs)) ≡ cond (t x) (x.number ∷ numbers_at t xs) (numbers_at t xs)) [
      | true ↦ λ h. let same : x ≡ c = cc in ap (λ b. cond b (x.number ∷ numbers_at t xs) (numbers_at t xs)) (sym (ap t same ∙ e))
      | false ↦ λ h. ap (λ ns. cond (t x) (x.number ∷ ns) ns) (numbers-beside t n xs c h e)
    ] f

-- what a queue is once a connection has left it, where it stood in it
pub leaves : (p : Place → Bool) (n : ℕ) (cs : List Connection) (queue : List ℕ) (was : Bool) → queue ≡ numbers_at (λ c. p c.place) cs → how_many (has_number n) cs ≤ 1
    → was ≡ found_is p (option_map (λ c. c.place) (find (has_number n) cs)) → cond was (without (λ m. m == n) queue) queue ≡ numbers_at (λ c. p c.place) (without (has_number n) cs)
leaves p n cs queue true q h e = ap (λ ns. without (λ m. m == n) ns) q ∙ sym (numbers-without (λ c. p c.place) n cs h)
leaves p n cs queue false q h e =
    (elim (find (has_number n) cs) as (λ o. find (has_number n) cs ≡ o → false ≡ found_is p (option_map (λ c. c.place) o) → queue ≡ numbers_at (λ c. p c.place) (without (has_number n) cs)) [
      | None ↦ λ f k. q ∙ ap (numbers_at (λ c. p c.place)) (sym (without-unfound (has_number n) cs f))
      | Some c ↦ λ f k. q ∙ sym (numbers-beside (λ c. p c.place) n cs c f (sym k))
    ]) refl e

pub queue-once : (t : Connection → Bool) (n : ℕ) (cs : List Connection) (queue : List ℕ) → queue ≡ numbers_at t cs → how_many (has_number n) cs ≤ 1 → how_many (λ m. m == n) queue ≤ 1
queue-once t n cs queue q h = omega (arith, numbers-once t n cs, ap (how_many (λ m. m == n)) q)

pub found-there : {X : Type 0} (key : X → Bool) (xs : List X) → list_any key xs ≡ true → (x : X) × (find key xs ≡ Some x)
found-there {X} key [] e = absurd (cc)
found-there {X} key (x ∷ xs) e =
    elim (key x) as (λ b. (b || list_any key xs) ≡ true → (y : X) × (cond b (Some x) (find key xs) ≡ Some y)) [
      | true ↦ λ h. (x, refl)
      | false ↦ λ h. found-there key xs h
    ] e

-- there is room in a queue that a connection has left
pub queue-room : (t : Connection → Bool) (n : ℕ) (cs : List Connection) (queue : List ℕ) (room : ℕ) → list_any (has_number n) cs ≡ true → queue ≡ numbers_at t (without (has_number n) cs) → length cs ≤ room → length queue < room
queue-room t n cs queue room any q few =
    let x = found-there (has_number n) cs any in
    omega (arith, ap length q, numbers-length t (without (has_number n) cs), count-le-length t (without (has_number n) cs), length-without (has_number n) cs x.0 x.1)

-- one at such a place is counted
pub one-counted : (q : Place → Bool) (n : ℕ) (cs : List Connection) (count : ℕ) (was : Bool) → count ≡ how_many (λ c. q c.place) cs → was ≡ found_is q (option_map (λ c. c.place) (find (has_number n) cs)) → one was ≤ count
one-counted q n cs count was l e =
    (elim (find (has_number n) cs) as (λ o. find (has_number n) cs ≡ o → was ≡ found_is q (option_map (λ c. c.place) o) → one was ≤ count) [
      | None ↦ λ f k. omega (arith, ap one k)
      | Some c ↦ λ f k. omega (arith, l, ap one k, count-without (λ c. q c.place) (has_number n) cs c f)
    ]) refl e

-- a count after a connection left
left-count : (q : Connection → Bool) (n : ℕ) (cs : List Connection) (was : Bool) → list_any (has_number n) cs ≡ true → was ≡ found_is q (find (has_number n) cs) → how_many q (without (has_number n) cs) + one was ≡ how_many q cs
left-count q n cs was any e =
    let x = found-there (has_number n) cs any in
    omega (arith, count-without q (has_number n) cs x.0 x.1, ap one (e ∙ ap (found_is q) x.1))

placed-found : (p : Place → Bool) (o : Option Connection) → found_is p (option_map (λ c. c.place) o) ≡ found_is (λ c. p c.place) o
placed-found p None = refl
placed-found p (Some c) = refl

own-number : (n m : ℕ) (place : Place) (c : Connection) → has_number n c ≡ true → has_number m (placed n place) ≡ has_number m c
own-number n m place c e = let same : c.number ≡ n = grind (arith, nat_tests) in ap (λ k. k == m) (sym same)

-- what holds after a connection was taken out
pub stored-left : (n : ℕ) (cs : List Connection) (idle returned idle' returned' : List ℕ) (count leased leased' working working' room ir rr ir' rr' : ℕ) (was worked : Bool) → IsStored cs idle returned count leased working room ir rr
    → list_any (has_number n) cs ≡ true → was ≡ found_is is_leased_place (option_map (λ c. c.place) (find (has_number n) cs)) → leased' + one was ≡ leased
    → worked ≡ found_is is_working_place (option_map (λ c. c.place) (find (has_number n) cs)) → working' + one worked ≡ working
    → idle' ≡ numbers_at is_idle (without (has_number n) cs) → returned' ≡ numbers_at is_returned (without (has_number n) cs) → ir' ≡ ir → rr' ≡ rr
    → IsStored (without (has_number n) cs) idle' returned' (count - 1) leased' working' room ir' rr'
stored-left n cs idle returned idle' returned' count leased leased' working working' room ir rr ir' rr' was worked h any w l w2 l2 i r a b =
    let x = found-there (has_number n) cs any in
    record {
      once = λ m. omega (arith, h.once m, count-without-le (has_number m) (has_number n) cs);
      idle_are = i;
      returned_are = r;
      counted = omega (arith, h.counted, length-without (has_number n) cs x.0 x.1);
      leased_are = omega (arith, l, h.leased_are, left-count is_leased n cs was any (w ∙ placed-found is_leased_place (find (has_number n) cs)));
      working_are = omega (arith, l2, h.working_are, left-count is_at_work n cs worked any (w2 ∙ placed-found is_working_place (find (has_number n) cs)));
      few = omega (arith, h.few, length-without (has_number n) cs x.0 x.1);
      small = h.small;
      idle_fit = omega (arith, h.idle_fit, a);
      returned_fit = omega (arith, h.returned_fit, b);
    }

-- and after it moved
pub stored-moved : (n : ℕ) (place : Place) (cs : List Connection) (idle returned idle' returned' : List ℕ) (count leased leased' working working' room ir rr ir' rr' : ℕ) (was worked : Bool) → IsStored cs idle returned count leased working room ir rr
    → list_any (has_number n) cs ≡ true → was ≡ found_is is_leased_place (option_map (λ c. c.place) (find (has_number n) cs)) → leased' + one was ≡ leased + one (is_leased_place place)
    → worked ≡ found_is is_working_place (option_map (λ c. c.place) (find (has_number n) cs)) → working' + one worked ≡ working + one (is_working_place place)
    → idle' ≡ numbers_at is_idle (without (has_number n) cs) ++ cond (is_idle_place place) (n ∷ []) []
    → returned' ≡ numbers_at is_returned (without (has_number n) cs) ++ cond (is_returned_place place) (n ∷ []) [] → ir' ≡ ir → rr' ≡ rr
    → IsStored (move_to n place cs) idle' returned' count leased' working' room ir' rr'
stored-moved n place cs idle returned idle' returned' count leased leased' working working' room ir rr ir' rr' was worked h any w l w2 l2 i r a b =
    let x = found-there (has_number n) cs any in
    let left = without (has_number n) cs in
    let passes = found-passes (has_number n) cs x.0 x.1 in
    record {
      once = λ m. omega (arith, h.once m, count-push (has_number m) left (placed n place), count-without (has_number m) (has_number n) cs x.0 x.1, ap one (own-number n m place x.0 passes));
      idle_are = i ∙ sym (numbers-snoc is_idle left (placed n place));
      returned_are = r ∙ sym (numbers-snoc is_returned left (placed n place));
      counted = omega (arith, h.counted, length-without (has_number n) cs x.0 x.1, count-length left (placed n place));
      leased_are = omega (arith, l, h.leased_are, left-count is_leased n cs was any (w ∙ placed-found is_leased_place (find (has_number n) cs)), count-push is_leased left (placed n place));
      working_are = omega (arith, l2, h.working_are, left-count is_at_work n cs worked any (w2 ∙ placed-found is_working_place (find (has_number n) cs)), count-push is_at_work left (placed n place));
      few = omega (arith, h.few, length-without (has_number n) cs x.0 x.1, count-length left (placed n place));
      small = h.small;
      idle_fit = omega (arith, h.idle_fit, a);
      returned_fit = omega (arith, h.returned_fit, b);
    }
  where
    count-length : {X : Type 0} (xs : List X) (y : X) → length (xs ++ y ∷ []) ≡ length xs + 1
    count-length [] y = refl
    count-length (x ∷ xs) y = omega (arith, count-length xs y)

last-counted : (n : ℕ) (k : ℕ) (q : List ℕ) (d : ℕ) → k + 1 ≡ length q → get_or q k d ≡ n → 0 < how_many (λ m. m == n) q
last-counted n zero [] d l e = absurd (omega arith)
last-counted n zero (x ∷ q) d l e = let t : (x == n) ≡ true = grind (arith, nat_tests) in omega (arith, ap one t)
last-counted n (suc k) [] d l e = absurd (omega arith)
last-counted n (suc k) (x ∷ q) d l e = omega (arith, last-counted n k q d (omega arith) e)

-- the last one leaves
pub without-back : (n k : ℕ) (q : List ℕ) (d : ℕ) → how_many (λ m. m == n) q ≤ 1 → k + 1 ≡ length q → get_or q k d ≡ n → without (λ m. m == n) q ≡ take k q
without-back n zero [] d h l e = absurd (omega arith)
without-back n zero (x ∷ []) d h l e = let t : (x == n) ≡ true = grind (arith, nat_tests) in ap (λ b. cond b [] (x ∷ [])) t
without-back n zero (x ∷ y ∷ q) d h l e = absurd (omega arith)
without-back n (suc k) [] d h l e = absurd (omega arith)
without-back n (suc k) (x ∷ q) d h l e =
    (elim (x == n) as (λ b. (x == n) ≡ b → one b + how_many (λ m. m == n) q ≤ 1 → cond b q (x ∷ without (λ m. m == n) q) ≡ x ∷ take k q) [
      | true ↦ λ t g. absurd (omega (arith, last-counted n k q d (omega arith) e))
      | false ↦ λ t g. ap (λ ms. x ∷ ms) (without-back n k q d (omega arith) (omega arith) e)
    ]) refl h

pub on-some : {X P : Type 0} (o : Option X) (x : X) → o ≡ Some x → OnSome o P → P
on-some None x e p = absurd (cc)
on-some (Some y) x e p = p

-- a truth as a number
pub byte-one : (b : Bool) → bool_byte b ≡ one b
byte-one true = refl
byte-one false = refl

pub one-le : (b : Bool) → one b ≤ 1
one-le true = omega arith
one-le false = omega arith

-- ---- one that is found ----

pub any-found : {X : Type 0} (key : X → Bool) (xs : List X) (x : X) → find key xs ≡ Some x → list_any key xs ≡ true
any-found key [] x e = absurd (cc)
any-found key (y ∷ xs) x e =
    elim (key y) as (λ b. cond b (Some y) (find key xs) ≡ Some x → (b || list_any key xs) ≡ true) [
      | true ↦ λ h. refl
      | false ↦ λ h. any-found key xs x h
    ] e

numbered : (n k : ℕ) → (k == n) ≡ true → k ≡ n
numbered n k e = grind (arith, nat_tests)

pub found-whole : (n : ℕ) (cs : List Connection) (p : Place) → option_map (λ c. c.place) (find (has_number n) cs) ≡ Some p → find (has_number n) cs ≡ Some (placed n p)
found-whole n [] p e = absurd (cc)
found-whole n (c ∷ cs) p e =
    (elim (has_number n c) as (λ b. has_number n c ≡ b → option_map (λ c. c.place) (cond b (Some c) (find (has_number n) cs)) ≡ Some p → cond b (Some c) (find (has_number n) cs) ≡ Some (placed n p)) [
      | true ↦ λ t h. let at : c.place ≡ p = cc in ap (λ k. Some (placed k c.place)) (numbered n c.number t) ∙ ap (λ r. Some (placed n r)) at
      | false ↦ λ t h. found-whole n cs p h
    ]) refl e

pub nowhere : (n : ℕ) (cs : List Connection) → option_map (λ c. c.place) (find (has_number n) cs) ≡ None → find (has_number n) cs ≡ None
nowhere n cs e = unmapped (λ c. c.place) (find (has_number n) cs) e

self-number : (n : ℕ) → (n == n) ≡ true
self-number n = grind (arith, nat_tests)

counts-found : {X : Type 0} (key : X → Bool) (xs : List X) → list_any key xs ≡ true → 0 < how_many key xs
counts-found key xs e = some-counted key xs e

any-of-find : {X : Type 0} (t key : X → Bool) (xs : List X) → find t xs ≡ find key xs → list_any t xs ≡ true → list_any key xs ≡ true
any-of-find t key xs e any = let x = found-there t xs any in any-found key xs x.0 (sym e ∙ x.1)

-- the first of a queue is the first that passes
pub front-is : (t : Connection → Bool) (cs : List Connection) (d : ℕ) → 0 < length (numbers_at t cs) → ((n : ℕ) → how_many (has_number n) cs ≤ 1)
    → (find t cs ≡ find (has_number (get_or (numbers_at t cs) 0 d)) cs) × (list_any t cs ≡ true)
front-is t [] d some once = absurd (omega arith)
front-is t (c ∷ cs) d some once =
    (elim (t c) as (λ b. 0 < length (cond b (c.number ∷ numbers_at t cs) (numbers_at t cs)) → (cond b (Some c) (find t cs) ≡ cond (has_number (get_or (cond b (c.number ∷ numbers_at t cs) (numbers_at t cs)) 0 d) c) (Some c) (find (has_number (get_or (cond b (c.number ∷ numbers_at t cs) (numbers_at t cs)) 0 d)) cs)) × ((b || list_any t cs) ≡ true)) [
      | true ↦ λ s. (sym (ap (λ k. cond k (Some c) (find (has_number c.number) cs)) (self-number c.number)), refl)
      | false ↦ λ s.
          let n = get_or (numbers_at t cs) 0 d in
          let go = front-is t cs d s (λ m. omega (arith, once m)) in
          let some = counts-found (has_number n) cs (any-of-find t (has_number n) cs go.0 go.1) in
          (go.0 ∙ sym (ap (λ k. cond k (Some c) (find (has_number n) cs)) (other n some)), go.1)
    ]) some
  where
    other : (n : ℕ) → 0 < how_many (has_number n) cs → has_number n c ≡ false
    other n some = (elim (has_number n c) as (λ b. one b + how_many (has_number n) cs ≤ 1 → b ≡ false) [
      | true ↦ λ h. absurd (omega arith)
      | false ↦ λ h. refl
    ]) (once n)

-- what holds once the next one came
pub stored-next : (n : ℕ) (cs : List Connection) (idle returned : List ℕ) (count leased working room ir rr : ℕ) → IsStored cs idle returned count leased working room ir rr → find (has_number n) cs ≡ None → length cs < room
    → IsStored (cs ++ placed n Connecting ∷ []) idle returned (count + 1) leased working room ir rr
stored-next n cs idle returned count leased working room ir rr h none few = record {
  once = λ m. once-more m;
  idle_are = h.idle_are ∙ sym (append-nil (numbers_at is_idle cs)) ∙ sym (numbers-snoc is_idle cs (placed n Connecting));
  returned_are = h.returned_are ∙ sym (append-nil (numbers_at is_returned cs)) ∙ sym (numbers-snoc is_returned cs (placed n Connecting));
  counted = omega (arith, h.counted, length-append cs (placed n Connecting ∷ []));
  leased_are = omega (arith, h.leased_are, count-push is_leased cs (placed n Connecting));
  working_are = omega (arith, h.working_are, count-push is_at_work cs (placed n Connecting));
  few = omega (arith, few, length-append cs (placed n Connecting ∷ []));
  small = h.small;
  idle_fit = h.idle_fit;
  returned_fit = h.returned_fit;
}
  where
    zero-there : how_many (has_number n) cs ≡ 0
    zero-there = count-none (has_number n) cs none

    once-more : (m : ℕ) → how_many (has_number m) (cs ++ placed n Connecting ∷ []) ≤ 1
    once-more m = (elim (n == m) as (λ b. (n == m) ≡ b → how_many (has_number m) (cs ++ placed n Connecting ∷ []) ≤ 1) [
      | true ↦ λ t. omega (arith, count-push (has_number m) cs (placed n Connecting), ap one t, zero-there, ap (λ k. how_many (has_number k) cs) (numbered m n t))
      | false ↦ λ t. omega (arith, count-push (has_number m) cs (placed n Connecting), ap one t, h.once m)
    ]) refl

pub any-where-some : {X : Type 0} (key : X → Bool) (xs : List X) → is_some (find key xs) ≡ true → list_any key xs ≡ true
any-where-some key [] e = absurd (cc)
any-where-some key (y ∷ xs) e =
    elim (key y) as (λ b. is_some (cond b (Some y) (find key xs)) ≡ true → (b || list_any key xs) ≡ true) [
      | true ↦ λ h. refl
      | false ↦ λ h. any-where-some key xs h
    ] e

pub none-where-not : {X : Type 0} (key : X → Bool) (xs : List X) → is_some (find key xs) ≡ false → find key xs ≡ None
none-where-not key xs e = nothing (find key xs) e
  where
    nothing : {X : Type 0} (o : Option X) → is_some o ≡ false → o ≡ None
    nothing None e = refl
    nothing (Some x) e = absurd (cc)

-- where a queue is empty
pub empty-none : (t : Connection → Bool) (cs : List Connection) (queue : List ℕ) → queue ≡ numbers_at t cs → length queue ≡ 0 → list_any t cs ≡ false
empty-none t cs queue q e = none-any t cs (omega (arith, ap length q, numbers-length t cs))

pub empty-find : (t : Connection → Bool) (cs : List Connection) (queue : List ℕ) → queue ≡ numbers_at t cs → length queue ≡ 0 → find t cs ≡ None
empty-find t cs queue q e = find-absent t cs (empty-none t cs queue q e)

pub some-placed : (key : Connection → Bool) (cs : List Connection) → is_some (find key cs) ≡ is_some (option_map (λ c. c.place) (find key cs))
some-placed key cs = mapped (find key cs)
  where
    mapped : (o : Option Connection) → is_some o ≡ is_some (option_map (λ c. c.place) o)
    mapped None = refl
    mapped (Some c) = refl
