-- What is kept of a number where a connection is put back, or taken out.
use Rattle.std.proofs.Common.{◌≡◌, ℕ, ◌+◌, ◌<◌, ◌≤◌, true, false, cond, Option, Some, None, List, [], ◌∷◌, ◌++◌, length, refl, sym, ap, ◌∙◌, arith, subst}
use Rattle.std.specs.Prelude.{find, option_map, ◌==◌}
use Rattle.std.proofs.lemmas.Bool.{eqb-true, eq-eqb}
use Rattle.my_frame.specs.Lists.{without}
use Rattle.my_pool_parts.specs.declared.connection.Connection.{Connection}
use Rattle.my_pool_parts.specs.Lists.{how_many}
use Rattle.my_pool_parts.specs.Connections.{has_number}
use Rattle.my_pool_parts.proofs.Finding.{one, length-without, count-without-le, count-push}
use Rattle.my_pool_store.specs.Shelves.{Entry, entry, has, kept_at, without_number}
use Rattle.my_pool_store.proofs.Finding.{find-other, swap}

abbrev pub IsCounted : List Connection → ℕ → Type 0
IsCounted cs n = (c : Connection) × (find (has_number n) cs ≡ Some c)

module _ {C : Type 0} where
  pub none-kept : (n : ℕ) (es : List (Entry C)) → kept_at n es ≡ None → how_many (has n) es ≡ 0
  none-kept n [] e = refl
  none-kept n (x ∷ xs) e =
      elim (has n x) as (λ b. option_map (λ (e : Entry C). e.conn) (cond b (Some x) (find (has n) xs)) ≡ None → one b + how_many (has n) xs ≡ 0) [
        | true ↦ λ h. absurd (cc)
        | false ↦ λ h. omega (arith, none-kept n xs h)
      ] e

  kept-none : (n : ℕ) (es : List (Entry C)) → how_many (has n) es ≡ 0 → kept_at n es ≡ None
  kept-none n [] e = refl
  kept-none n (x ∷ xs) e =
      elim (has n x) as (λ b. one b + how_many (has n) xs ≡ 0 → option_map (λ (e : Entry C). e.conn) (cond b (Some x) (find (has n) xs)) ≡ None) [
        | true ↦ λ h. absurd (omega arith)
        | false ↦ λ h. kept-none n xs (omega arith)
      ] e

  -- ---- one is put back ----

  pub put-there : (n : ℕ) (v : C) (es : List (Entry C)) → kept_at n es ≡ None → kept_at n (es ++ entry n v ∷ []) ≡ Some v
  put-there n v [] e = ap (λ b. option_map (λ (e : Entry C). e.conn) (cond b (Some (entry n v)) None)) (eq-eqb n n refl)
  put-there n v (x ∷ xs) e =
      elim (has n x) as (λ b. option_map (λ (e : Entry C). e.conn) (cond b (Some x) (find (has n) xs)) ≡ None → option_map (λ (e : Entry C). e.conn) (cond b (Some x) (find (has n) (xs ++ entry n v ∷ []))) ≡ Some v) [
        | true ↦ λ h. absurd (cc)
        | false ↦ λ h. put-there n v xs h
      ] e

  find-put : (n m : ℕ) (v : C) (es : List (Entry C)) → (m == n) ≡ false → find (has m) (es ++ entry n v ∷ []) ≡ find (has m) es
  find-put n m v [] e = rw (swap m n e) refl
  find-put n m v (x ∷ xs) e = ap (cond (has m x) (Some x)) (find-put n m v xs e)

  pub put-others : (n m : ℕ) (v : C) (es : List (Entry C)) → (m == n) ≡ false → kept_at m (es ++ entry n v ∷ []) ≡ kept_at m es
  put-others n m v es e = ap (option_map (λ (e : Entry C). e.conn)) (find-put n m v es e)

  pub put-once : (n m : ℕ) (v : C) (es : List (Entry C)) → kept_at n es ≡ None → how_many (has m) es ≤ 1 → how_many (has m) (es ++ entry n v ∷ []) ≤ 1
  put-once n m v es e h =
      elim (n == m) as (λ b. (n == m) ≡ b → how_many (has m) (es ++ entry n v ∷ []) ≤ 1) [
        | true ↦ λ k.
            let same : n ≡ m = eqb-true n m k in
            let zero : how_many (has m) es ≡ 0 = none-kept m es (subst (λ i. kept_at i es ≡ None) same e) in
            omega (arith, count-push (has m) es (entry n v), zero, ap one k)
        | false ↦ λ k. omega (arith, count-push (has m) es (entry n v), ap one k, h)
      ] refl

  -- ---- one is taken out ----

  pub out-others : (n m : ℕ) (es : List (Entry C)) → (m == n) ≡ false → kept_at m (without_number n es) ≡ kept_at m es
  out-others n m es e = ap (option_map (λ (e : Entry C). e.conn)) (find-other (λ (e : Entry C). e.number) n m es e)

  pub out-there : (n : ℕ) (es : List (Entry C)) → how_many (has n) es ≤ 1 → kept_at n (without_number n es) ≡ None
  out-there n [] h = refl
  out-there n (x ∷ xs) h =
      elim (has n x) as (λ b. has n x ≡ b → one b + how_many (has n) xs ≤ 1 → kept_at n (cond b xs (x ∷ without (has n) xs)) ≡ None) [
        | true ↦ λ e k. kept-none n xs (omega arith)
        | false ↦ λ e k. rw e (out-there n xs (omega arith))
      ] refl h

  pub out-once : (n m : ℕ) (es : List (Entry C)) → how_many (has m) es ≤ 1 → how_many (has m) (without_number n es) ≤ 1
  out-once n m es h = omega (arith, count-without-le (has m) (has n) es, h)

  -- ---- there are no more than are counted ----

  -- the numbers stand once, and each is counted
  pub few-kept : (es : List (Entry C)) (cs : List Connection) → ((n : ℕ) → how_many (has n) es ≤ 1) → ((n : ℕ) → 0 < how_many (has n) es → IsCounted cs n) → length es ≤ length cs
  few-kept [] cs once counted = omega arith
  few-kept (x ∷ xs) cs once counted =
      let n = x.number in
      let itself : one (n == n) ≡ 1 = ap one (eq-eqb n n refl) in
      let c = counted n (omega (arith, itself)) in
      let rest = few-kept xs (without (has_number n) cs)
      (λ m. omega (arith, once m))
      (λ m some.
      let other : (m == n) ≡ false = elim (m == n) as (λ b. (m == n) ≡ b → b ≡ false) [
        | true ↦ λ k. let same : m ≡ n = eqb-true m n k in absurd (let h = once n in let s = subst (λ i. 0 < how_many (has i) xs) same some in omega (arith, itself))
        | false ↦ λ k. refl
      ] refl in
      let d = counted m (omega arith) in
      (d.0, find-other (λ (c : Connection). c.number) n m cs other ∙ d.1))
      in
      omega (arith, rest, length-without (has_number n) cs c.0 c.1)
