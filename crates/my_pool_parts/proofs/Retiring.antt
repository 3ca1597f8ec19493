-- The idle connections from the latest on, up to one that may be used.
use Rattle.std.proofs.Common.{◌≡◌, ℕ, Bool, true, false, cond, Some, None, List, [], ◌∷◌, ◌++◌, refl, ap, ◌∙◌}
use Rattle.std.specs.Prelude.{◌&&◌, ◌||◌, not}
use Rattle.std.specs.List.{list_any}
use Rattle.my_pool_parts.specs.declared.connection.Connection.{Connection}
use Rattle.my_pool_parts.specs.Connections.{placed, returned, is_idle, is_usable, is_left, unexpired, expired, retire, latest_usable}

any-front : (now : ℕ) (front rest : List Connection) → list_any (is_usable now) rest ≡ true → list_any (is_usable now) (front ++ rest) ≡ true
any-front now [] rest e = e
any-front now (c ∷ front) rest e =
    elim (is_usable now c) as (λ b. (b || list_any (is_usable now) (front ++ rest)) ≡ true) [ true ↦ refl | false ↦ any-front now front rest e ]

not-left : (a b u : Bool) → u ≡ true → (a && not b && not u) ≡ false
not-left true true u e = refl
not-left true false true e = refl
not-left true false false e = absurd (cc)
not-left false b u e = refl

-- a step at a connection that stays
stays : (now : ℕ) (c : Connection) (cs : List Connection) → is_left now c cs ≡ false → retire now (c ∷ cs) ≡ c ∷ retire now cs
stays now c cs e = ap (λ b. cond b (unexpired now cs) (c ∷ unexpired now cs) ++ cond b (expired now cs ++ placed c.number (returned false) ∷ []) (expired now cs)) e

pub retire-front : (now : ℕ) (front rest : List Connection) → list_any (is_usable now) rest ≡ true → retire now (front ++ rest) ≡ front ++ retire now rest
retire-front now [] rest e = refl
retire-front now (c ∷ front) rest e =
    stays now c (front ++ rest) (not-left (is_idle c) (is_usable now c) (list_any (is_usable now) (front ++ rest)) (any-front now front rest e))
    ∙ ap (λ cs. c ∷ cs) (retire-front now front rest e)

pub latest-front : (now : ℕ) (front rest : List Connection) → list_any (is_usable now) rest ≡ true → latest_usable now (front ++ rest) ≡ latest_usable now rest
latest-front now [] rest e = refl
latest-front now (c ∷ front) rest e =
    ap (λ b. cond b (latest_usable now (front ++ rest)) (cond (is_usable now c) (Some c.number) None)) (any-front now front rest e)
    ∙ latest-front now front rest e

-- the latest usable one
pub retire-usable : (now : ℕ) (c : Connection) (cs : List Connection) → is_usable now c ≡ true → retire now (c ∷ cs) ≡ c ∷ retire now cs
retire-usable now c cs u = stays now c cs (usable (is_idle c) (is_usable now c) (list_any (is_usable now) cs) u)
  where
    usable : (a b u : Bool) → b ≡ true → (a && not b && not u) ≡ false
    usable true true u e = refl
    usable true false u e = absurd (cc)
    usable false b u e = refl

pub latest-usable : (now : ℕ) (c : Connection) (cs : List Connection) → is_usable now c ≡ true → list_any (is_usable now) cs ≡ false → latest_usable now (c ∷ cs) ≡ Some c.number
latest-usable now c cs u e =
    ap (λ b. cond b (latest_usable now cs) (cond (is_usable now c) (Some c.number) None)) e ∙ ap (λ b. cond b (Some c.number) None) u

pub none-latest : (now : ℕ) (cs : List Connection) → list_any (is_usable now) cs ≡ false → latest_usable now cs ≡ None
none-latest now [] e = refl
none-latest now (c ∷ cs) e =
    let x = neither (is_usable now c) (list_any (is_usable now) cs) e in
    ap (λ b. cond b (latest_usable now cs) (cond (is_usable now c) (Some c.number) None)) x.1 ∙ ap (λ b. cond b (Some c.number) None) x.0
  where
    neither : (a b : Bool) → (a || b) ≡ false → (a ≡ false) × (b ≡ false)
    neither true b e = absurd (cc)
    neither false b e = (refl, e)
