-- The ages that wait still, where one may have been woken.
use Rattle.std.proofs.Common.{◌≡◌, ℕ, ◌+◌, ◌≤◌, Bool, true, false, cond, Option, Some, None, List, [], ◌∷◌, refl, sym, ap, ◌∙◌, arith}
use Rattle.std.specs.Prelude.{find, ◌==◌, ◌||◌, ◌&&◌}
use Rattle.std.specs.List.{filter, list_all}
use Rattle.std.proofs.lemmas.Bool.{eqb-true}
use Rattle.my_frame.specs.Lists.{without}
use Rattle.my_pool_parts.specs.Lists.{how_many}
use Rattle.my_frame.proofs.Finding.{found-passes}
use Rattle.my_pool_parts.specs.declared.request.Request.{Request}
use Rattle.my_pool_parts.specs.Lists.{found_is}
use Rattle.my_pool_parts.specs.Requests.{has_age, is_waiting}
use Rattle.my_pool_parts.proofs.Finding.{one, count-found}
use Rattle.my_pool_core.specs.Sound.{IsSound}
use Rattle.my_pool_core.specs.State.{State}
use Rattle.my_pool_core.proofs.Kept.Moving.{both}
use Rattle.my_pool_core.specs.Wakes.{waits}
use Rattle.my_pool_store.specs.Woken.{waiting, WaitBeside, called_at, called_closed}
use Rattle.my_pool_store.proofs.Finding.{swap}

abbrev is-age : ℕ → ℕ → Bool
is-age age a = a == age

second-holds : (a b : Bool) → a ≡ false → (a || b) ≡ true → b ≡ true
second-holds true b n e = absurd (cc)
second-holds false b n e = e

module _ (s : State) where
  -- each waits
  pub all-wait : (ages : List ℕ) → WaitBeside None s ages → ages ≡ waiting s ages
  all-wait [] all = refl
  all-wait (a ∷ more) all =
      let h = both (false || waits a s) (list_all (λ b. false || waits b s) more) all in
      ap (λ bs. a ∷ bs) (all-wait more h.1) ∙ sym (ap (λ b. cond b (a ∷ waiting s more) (waiting s more)) h.0)

  -- so does the one of the age
  pub it-waits : (age : ℕ) (ages : List ℕ) → waits age s ≡ true → WaitBeside (Some age) s ages → ages ≡ waiting s ages
  it-waits age [] w all = refl
  it-waits age (a ∷ more) w all =
      let h = both ((age == a) || waits a s) (list_all (λ b. (age == b) || waits b s) more) all in
      let here : waits a s ≡ true = either (age == a) refl h.0 in
      ap (λ bs. a ∷ bs) (it-waits age more w h.1) ∙ sym (ap (λ b. cond b (a ∷ waiting s more) (waiting s more)) here)
    where
      either : (b : Bool) → (age == a) ≡ b → (b || waits a s) ≡ true → waits a s ≡ true
      either true k e = ap (λ x. waits x s) (sym (eqb-true age a k)) ∙ w
      either false k e = e

  -- those without the age wait
  others-wait : (age : ℕ) (ages : List ℕ) → how_many (is-age age) ages ≡ 0 → WaitBeside (Some age) s ages → ages ≡ waiting s ages
  others-wait age [] none all = refl
  others-wait age (a ∷ more) none all =
      let h = both ((age == a) || waits a s) (list_all (λ b. (age == b) || waits b s) more) all in
      let other : (a == age) ≡ false = elim (a == age) as (λ b. one b + how_many (is-age age) more ≡ 0 → b ≡ false) [
        | true ↦ λ k. absurd (omega (arith, k))
        | false ↦ λ k. refl
      ] none in
      let rest : how_many (is-age age) more ≡ 0 = omega (arith, none) in
      let here : waits a s ≡ true = second-holds (age == a) (waits a s) (swap a age other) h.0 in
      ap (λ bs. a ∷ bs) (others-wait age more rest h.1) ∙ sym (ap (λ b. cond b (a ∷ waiting s more) (waiting s more)) here)

  -- it waits no more, and is taken out
  pub woken-goes : (age : ℕ) (ages : List ℕ) → how_many (is-age age) ages ≤ 1 → waits age s ≡ false → WaitBeside (Some age) s ages → without (is-age age) ages ≡ waiting s ages
  woken-goes age [] few w all = refl
  woken-goes age (a ∷ more) few w all = by-age (λ f. woken-goes age more f w h.1) (a == age) refl few
    where
      h : (((age == a) || waits a s) ≡ true) × (list_all (λ b. (age == b) || waits b s) more ≡ true)
      h = both ((age == a) || waits a s) (list_all (λ b. (age == b) || waits b s) more) all

      by-age : (how_many (is-age age) more ≤ 1 → without (is-age age) more ≡ waiting s more) → (b : Bool) → (a == age) ≡ b → one b + how_many (is-age age) more ≤ 1 → cond b more (a ∷ without (is-age age) more) ≡ waiting s (a ∷ more)
      by-age rest true k few =
          let gone : waits a s ≡ false = ap (λ x. waits x s) (eqb-true a age k) ∙ w in
          let none : how_many (is-age age) more ≡ 0 = omega (arith, few) in
          others-wait age more none h.1 ∙ sym (ap (λ b. cond b (a ∷ waiting s more) (waiting s more)) gone)
      by-age rest false k few =
          let here : waits a s ≡ true = second-holds (age == a) (waits a s) (swap a age k) h.0 in
          let fewer : how_many (is-age age) more ≤ 1 = omega (arith, few) in
          ap (λ bs. a ∷ bs) (rest fewer) ∙ sym (ap (λ b. cond b (a ∷ waiting s more) (waiting s more)) here)

  -- in a closed pool nobody waits
  pub nobody-waits : IsSound s → s.closed ≡ true → (ages : List ℕ) → [] ≡ waiting s ages
  nobody-waits h shut [] = refl
  nobody-waits h shut (a ∷ more) =
      let none : waits a s ≡ false = found-none (find (has_age a) s.requests) refl in
      nobody-waits h shut more ∙ sym (ap (λ b. cond b (a ∷ waiting s more) (waiting s more)) none)
    where
      found-none : (o : Option Request) → find (has_age a) s.requests ≡ o → found_is is_waiting o ≡ false
      found-none None e = refl
      found-none (Some r) e = (elim (is_waiting r) as (λ b. one b ≤ how_many is_waiting s.requests → b ≡ false) [
        | true ↦ λ k. absurd (omega (arith, k, h.none_waits shut))
        | false ↦ λ k. refl
      ]) (count-found is_waiting (has_age a) s.requests r e)

-- ---- so it is after a call ----

pub called-waiting : (s : State) (age : Option ℕ) (ages : List ℕ) → ((a : ℕ) → how_many (is-age a) ages ≤ 1) → WaitBeside age s ages → called_at age s ages ≡ waiting s ages
called-waiting s None ages once all = all-wait s ages all
called-waiting s (Some age) ages once all = by-it (waits age s) refl
  where
    by-it : (b : Bool) → waits age s ≡ b → cond b ages (without (is-age age) ages) ≡ waiting s ages
    by-it true k = it-waits s age ages k all
    by-it false k = woken-goes s age ages (once age) k all

pub closed-waiting : (s : State) (ages : List ℕ) → IsSound s → (s.closed ≡ false → WaitBeside None s ages) → called_closed s ages ≡ waiting s ages
closed-waiting s ages h all = by-closed s.closed refl
  where
    by-closed : (b : Bool) → s.closed ≡ b → cond b [] ages ≡ waiting s ages
    by-closed true k = nobody-waits s h k ages
    by-closed false k = all-wait s ages (all k)
