-- Where the connection of a number is after each change of the connections.
pub mod Moves
pub mod Homes
pub mod Staying
pub mod Counts
pub mod Frame
pub mod Allowing
pub mod Verdicts
use Rattle.std.proofs.Common.{◌≡◌, ℕ, ◌+◌, ◌≤◌, Bool, true, false, cond, Option, Some, None, List, [], ◌∷◌, ◌++◌, refl, sym, ap, ◌∙◌, arith, inl, inr, subst}
use Rattle.std.proofs.lemmas.List.{append_assoc, append-nil}
use Rattle.std.specs.Prelude.{find, option_map, ◌==◌, ◌&&◌, ◌||◌, not, nat_lt, ◌-◌}
use Rattle.std.specs.List.{list_any}
use Rattle.std.proofs.lemmas.Bool.{eq-eqb}
use Rattle.my_pool_parts.specs.declared.connection.Connection.{Connection}
use Rattle.my_pool_parts.specs.declared.connection.Place.{Place}
use Rattle.my_pool_parts.specs.declared.connection.Place.TheVariants.{Idle, Leased, Connecting, Checking, Returned, Cleaning, Resetting, Closing}
use Rattle.my_pool_parts.specs.declared.connection.Times.{Times}
use Rattle.my_frame.specs.Lists.{without}
use Rattle.my_pool_parts.specs.Lists.{how_many}
use Rattle.my_pool_parts.specs.Connections.{placed, has_number, is_idle, is_idle_place, is_usable, is_usable_place, is_past, is_over, is_left, move_to, unexpired, expired, retire, is_outdated, lasting, outdated}
use Rattle.my_pool_core.specs.Moves.{MayReturn, is_aged}
use Rattle.my_pool_parts.proofs.Finding.{one}
use Rattle.my_pool_parts.proofs.Finding.Keyed.{unlike, none-found, find-left, find-gone, find-pushed, find-new, find-past}
use Rattle.my_pool_core.proofs.Kept.Moving.{both, not-true, retire-same, lasting-count}

-- where the connection of a number is, in a list
abbrev pub place_in : ℕ → List Connection → Option Place
place_in n cs = option_map (λ c. c.place) (find (has_number n) cs)

abbrev number_of : Connection → ℕ
number_of c = c.number

-- ---- one connection moves, goes or comes ----

pub moved-there : (n : ℕ) (p : Place) (cs : List Connection) → how_many (has_number n) cs ≤ 1 → place_in n (move_to n p cs) ≡ Some p
moved-there n p cs h = ap (option_map (λ c. c.place)) (find-new number_of n (without (has_number n) cs) [] (placed n p) (find-gone number_of n cs h) (eq-eqb n n refl))

pub moved-others : (n m : ℕ) (p : Place) (cs : List Connection) → (m == n) ≡ false → place_in m (move_to n p cs) ≡ place_in m cs
moved-others n m p cs e =
    ap (option_map (λ c. c.place)) (find-pushed number_of m (without (has_number n) cs) (placed n p) (unlike n m e) ∙ find-left number_of n m cs e)

pub gone-there : (n : ℕ) (cs : List Connection) → how_many (has_number n) cs ≤ 1 → place_in n (without (has_number n) cs) ≡ None
gone-there n cs h = ap (option_map (λ c. c.place)) (find-gone number_of n cs h)

pub gone-others : (n m : ℕ) (cs : List Connection) → (m == n) ≡ false → place_in m (without (has_number n) cs) ≡ place_in m cs
gone-others n m cs e = ap (option_map (λ c. c.place)) (find-left number_of n m cs e)

pub new-there : (n : ℕ) (p : Place) (cs : List Connection) → how_many (has_number n) cs ≡ 0 → place_in n (cs ++ placed n p ∷ []) ≡ Some p
new-there n p cs e = ap (option_map (λ c. c.place)) (find-new number_of n cs [] (placed n p) (none-found number_of n cs e) (eq-eqb n n refl))

pub new-others : (n m : ℕ) (p : Place) (cs : List Connection) → (m == n) ≡ false → place_in m (cs ++ placed n p ∷ []) ≡ place_in m cs
new-others n m p cs e = ap (option_map (λ c. c.place)) (find-pushed number_of m cs (placed n p) (unlike n m e))

pub none-there : (n : ℕ) (cs : List Connection) → how_many (has_number n) cs ≡ 0 → place_in n cs ≡ None
none-there n cs e = ap (option_map (λ c. c.place)) (none-found number_of n cs e)

-- ---- idle connections that are returned ----

abbrev Once : ℕ → List Connection → Type 0
Once n cs = how_many (has_number n) cs ≤ 1

-- an idle place that passes a test by its times
abbrev IsIdleWith : (Times → Bool) → Place → Type 0
IsIdleWith test p = (times : Times) × (p ≡ Idle times) × (test times ≡ true)

-- one that was idle comes after a list in which it isn't, returned
returned-last : (test : Times → Bool) (marked : Bool) (n : ℕ) (c : Connection) (front back : List Connection) → IsIdleWith test c.place → has_number n c ≡ true → how_many (has_number n) front ≡ 0
    → MayReturn test marked (Some c.place) (place_in n (front ++ placed c.number (Returned marked) ∷ back))
returned-last test marked n c front back idle at none =
    inr (idle.0, ap (λ p. Some p) idle.1, idle.2, ap (option_map (λ c. c.place)) (find-new number_of n front back (placed c.number (Returned marked)) (none-found number_of n front none) at))

expired-is : (now : ℕ) (p : Place) → is_idle_place p ≡ true → is_usable_place now p ≡ false → IsIdleWith (is_over now) p
expired-is now (Idle times) i u = (times, refl, over (is_over now times) u)
  where
    over : (b : Bool) → not b ≡ false → b ≡ true
    over true e = refl
    over false e = absurd (cc)
expired-is now Leased i u = absurd (cc)
expired-is now Connecting i u = absurd (cc)
expired-is now Checking i u = absurd (cc)
expired-is now (Returned marked) i u = absurd (cc)
expired-is now (Cleaning marked) i u = absurd (cc)
expired-is now Resetting i u = absurd (cc)
expired-is now Closing i u = absurd (cc)

left-is : (now : ℕ) (c : Connection) (cs : List Connection) → is_left now c cs ≡ true → IsIdleWith (is_over now) c.place
left-is now c cs e =
    let x = both (is_idle c && not (is_usable now c)) (not (list_any (is_usable now) cs)) e in
    let y = both (is_idle c) (not (is_usable now c)) x.0 in
    expired-is now c.place y.0 (not-true (is_usable now c) y.1)

-- one that stays where it is, before a list that ages
stays-first : (test : Times → Bool) (marked : Bool) (n : ℕ) (c : Connection) (cs ds : List Connection) → MayReturn test marked (place_in n cs) (place_in n ds) → MayReturn test marked (place_in n (c ∷ cs)) (place_in n (c ∷ ds))
stays-first test marked n c cs ds before =
    elim (has_number n c) as (λ b. MayReturn test marked (option_map (λ c. c.place) (cond b (Some c) (find (has_number n) cs))) (option_map (λ c. c.place) (cond b (Some c) (find (has_number n) ds)))) [
      | true ↦ inl refl
      | false ↦ before
    ]

-- one that is returned, and comes between two lists, of which the first hasn't its number
goes-after : (test : Times → Bool) (marked : Bool) (n : ℕ) (c : Connection) (cs front back : List Connection) → IsIdleWith test c.place → Once n (c ∷ cs) → how_many (has_number n) front ≤ how_many (has_number n) cs
    → MayReturn test marked (place_in n cs) (place_in n (front ++ back))
    → MayReturn test marked (place_in n (c ∷ cs)) (place_in n (front ++ placed c.number (Returned marked) ∷ back))
goes-after test marked n c cs front back idle h few before =
    elim (has_number n c) as (λ b. has_number n c ≡ b → one b + how_many (has_number n) cs ≤ 1 → MayReturn test marked (option_map (λ c. c.place) (cond b (Some c) (find (has_number n) cs))) (place_in n (front ++ placed c.number (Returned marked) ∷ back))) [
      | true ↦ λ e k. returned-last test marked n c front back idle e (omega (arith, few))
      | false ↦ λ e k. subst (λ o. MayReturn test marked (place_in n cs) (option_map (λ c. c.place) o)) (sym (find-past number_of n front back (placed c.number (Returned marked)) e)) before
    ] refl h

pub retired-places : (now n : ℕ) (cs : List Connection) → Once n cs → MayReturn (is_over now) false (place_in n cs) (place_in n (retire now cs))
retired-places now n [] h = inl refl
retired-places now n (c ∷ cs) h =
    let before = retired-places now n cs (omega (arith, h)) in
    elim (is_left now c cs) as (λ b. is_left now c cs ≡ b → MayReturn (is_over now) false (place_in n (c ∷ cs)) (place_in n (cond b (unexpired now cs) (c ∷ unexpired now cs) ++ cond b (expired now cs ++ placed c.number (Returned false) ∷ []) (expired now cs)))) [
      | true ↦ λ e.
          subst (λ ds. MayReturn (is_over now) false (place_in n (c ∷ cs)) (place_in n ds)) (append_assoc (unexpired now cs) (expired now cs) (placed c.number (Returned false) ∷ []))
          (goes-after (is_over now) false n c cs (retire now cs) [] (left-is now c cs e) h (omega (arith, retire-same (has_number n) now (λ c i u. refl) cs))
          (subst (λ ds. MayReturn (is_over now) false (place_in n cs) (place_in n ds)) (sym (append-nil (retire now cs))) before))
      | false ↦ λ e. stays-first (is_over now) false n c cs (retire now cs) before
    ] refl

aged-is : (now inactive many moved : ℕ) (p : Place) → is_outdated now inactive many moved p ≡ true → IsIdleWith (is_aged now inactive) p
aged-is now inactive many moved (Idle times) e = (times, refl, aged (is_past now times.deadline) (nat_lt moved many) (nat_lt inactive (now - times.since)) e)
  where
    aged : (a b c : Bool) → (a || (b && c)) ≡ true → (a || c) ≡ true
    aged true b c e = refl
    aged false true c e = e
    aged false false c e = absurd (cc)
aged-is now inactive many moved Leased e = absurd (cc)
aged-is now inactive many moved Connecting e = absurd (cc)
aged-is now inactive many moved Checking e = absurd (cc)
aged-is now inactive many moved (Returned marked) e = absurd (cc)
aged-is now inactive many moved (Cleaning marked) e = absurd (cc)
aged-is now inactive many moved Resetting e = absurd (cc)
aged-is now inactive many moved Closing e = absurd (cc)

pub swept-places : (now inactive many moved n : ℕ) (cs : List Connection) → Once n cs → MayReturn (is_aged now inactive) true (place_in n cs) (place_in n (lasting now inactive many moved cs ++ outdated now inactive many moved cs))
swept-places now inactive many moved n [] h = inl refl
swept-places now inactive many moved n (c ∷ cs) h =
    elim (is_outdated now inactive many moved c.place) as (λ b. is_outdated now inactive many moved c.place ≡ b → MayReturn (is_aged now inactive) true (place_in n (c ∷ cs)) (place_in n (cond b (lasting now inactive many (moved + 1) cs) (c ∷ lasting now inactive many moved cs) ++ cond b (placed c.number (Returned true) ∷ outdated now inactive many (moved + 1) cs) (outdated now inactive many moved cs)))) [
      | true ↦ λ e.
          goes-after (is_aged now inactive) true n c cs (lasting now inactive many (moved + 1) cs) (outdated now inactive many (moved + 1) cs) (aged-is now inactive many moved c.place e) h
          (omega (arith, lasting-count (has_number n) now inactive many (moved + 1) (λ c i. refl) cs))
          (swept-places now inactive many (moved + 1) n cs (omega (arith, h)))
      | false ↦ λ e. stays-first (is_aged now inactive) true n c cs (lasting now inactive many moved cs ++ outdated now inactive many moved cs) (swept-places now inactive many moved n cs (omega (arith, h)))
    ] refl
