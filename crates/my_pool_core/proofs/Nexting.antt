-- The least number at a kind of place is the one that a look through the connections finds.
use Rattle.std.proofs.Common.{◌≡◌, ℕ, ◌+◌, ◌≤◌, ◌<◌, Bool, true, false, Option, Some, None, List, [], ◌∷◌, refl, sym, ap, ◌∙◌, arith, min, subst, inl, inr}
use Rattle.std.specs.Prelude.{find, option_map, ◌&&◌, nat_le, MatchOption, if◌then◌else◌, ◌⊎◌}
use Rattle.std.proofs.lemmas.Bool.{eqb-true, eq-eqb, leb-true, leb-false, le-leb}
use Rattle.my_pool_parts.specs.declared.connection.Connection.{Connection}
use Rattle.my_pool_parts.specs.declared.connection.PlaceKind.{PlaceKind}
use Rattle.my_pool_parts.specs.Lists.{how_many, found_is}
use Rattle.my_pool_parts.specs.Connections.{has_number, is_kind}
use Rattle.my_pool_core.specs.State.{State}
use Rattle.my_pool_core.specs.Sound.{IsSound}
use Rattle.my_pool_core.specs.Owners.{is_at, IsNextAt, IsNoneAt}
use Rattle.my_pool_parts.specs.Next.{lesser, least_at}
use Rattle.my_frame.proofs.Finding.{found-passes}
use Rattle.my_pool_parts.proofs.Finding.{one, count-found, found-once}
use Rattle.my_pool_core.proofs.Kept.Moving.{both}

-- a connection of a list that isn't below a number and is at a kind of place
abbrev passes : PlaceKind → ℕ → Connection → Bool
passes kind from c = nat_le from c.number && is_kind kind c.place

abbrev counts : PlaceKind → ℕ → ℕ → List Connection → ℕ
counts kind from n cs = how_many (λ c. passes kind from c && has_number n c) cs

-- what is found was found before or is there, and is above neither
pub record IsLeast (kind : PlaceKind) (from : ℕ) (found : Option ℕ) (cs : List Connection) (n : ℕ) : Type 0 where
  pub there : (found ≡ Some n) ⊎ (0 < counts kind from n cs)
  pub before : (m : ℕ) → found ≡ Some m → n ≤ m
  pub others : (m : ℕ) → 0 < counts kind from m cs → n ≤ m

pub record IsNothing (kind : PlaceKind) (from : ℕ) (found : Option ℕ) (cs : List Connection) : Type 0 where
  pub before : found ≡ None
  pub none : (m : ℕ) → counts kind from m cs ≡ 0

abbrev Finds : PlaceKind → ℕ → Option ℕ → List Connection → Option ℕ → Type 0
Finds kind from found cs None = IsNothing kind from found cs
Finds kind from found cs (Some n) = IsLeast kind from found cs n

-- one more that doesn't pass
passed : (kind : PlaceKind) (from : ℕ) (found : Option ℕ) (c : Connection) (cs : List Connection) (o : Option ℕ) → passes kind from c ≡ false → Finds kind from found cs o → Finds kind from found (c ∷ cs) o
passed kind from found c cs None e f = record { before = f.before; none = λ m. omega (arith, f.none m, none m) }
  where
    none : (m : ℕ) → one (passes kind from c && has_number m c) ≡ 0
    none m = ap (λ b. one (b && has_number m c)) e
passed kind from found c cs (Some n) e f = record {
  there = elim f.there [ inl k ↦ inl k | inr k ↦ inr (omega (arith, k)) ];
  before = f.before;
  others = λ m k. f.others m (omega (arith, k, ap (λ b. one (b && has_number m c)) e));
}

-- the lesser one
lesser-new : (found : Option ℕ) (k : ℕ) → lesser found k ≤ k
lesser-new None k = omega arith
lesser-new (Some m) k = omega arith

lesser-old : (found : Option ℕ) (k m : ℕ) → found ≡ Some m → lesser found k ≤ m
lesser-old None k m e = absurd (cc)
lesser-old (Some x) k m e = let same : x ≡ m = cc in omega arith

lesser-is : (found : Option ℕ) (k : ℕ) → (found ≡ Some (lesser found k)) ⊎ (k ≡ lesser found k)
lesser-is None k = inr refl
lesser-is (Some m) k = elim (nat_le m k) as (λ b. nat_le m k ≡ b → (Some m ≡ Some (min m k)) ⊎ (k ≡ min m k)) [
  | true ↦ λ e. let le : m ≤ k = leb-true m k e in let same : m ≡ min m k = omega arith in inl (ap (λ n. Some n) same)
  | false ↦ λ e. let gt : k < m = leb-false m k e in inr (omega arith)
] refl

-- one more that passes
taken : (kind : PlaceKind) (from : ℕ) (found : Option ℕ) (c : Connection) (cs : List Connection) (o : Option ℕ) → passes kind from c ≡ true → Finds kind from (Some (lesser found c.number)) cs o → Finds kind from found (c ∷ cs) o
taken kind from found c cs None e f = absurd (let k = f.before in cc)
taken kind from found c cs (Some n) e f =
    let low = f.before (lesser found c.number) refl in
    record {
      there = elim f.there [
        | inl k ↦
            let same : lesser found c.number ≡ n = cc in
            elim (lesser-is found c.number) [
              | inl old ↦ inl (old ∙ ap (λ i. Some i) same)
              | inr new ↦
                  let at : one (passes kind from c && has_number n c) ≡ 1 = ap (λ b. one (b && has_number n c)) e ∙ ap one (eq-eqb c.number n (new ∙ same)) in
                  inr (omega (arith, at))
            ]
        | inr k ↦ inr (omega (arith, k))
      ];
      before = λ m k. omega (arith, low, lesser-old found c.number m k);
      others = λ m.
          elim (has_number m c) as (λ b. has_number m c ≡ b → 0 < one (passes kind from c && b) + counts kind from m cs → n ≤ m) [
            | true ↦ λ k _. let same : c.number ≡ m = eqb-true c.number m k in omega (arith, low, lesser-new found c.number)
            | false ↦ λ _ k. f.others m (omega (arith, k, none (passes kind from c)))
          ] refl;
    }
  where
    none : (b : Bool) → one (b && false) ≡ 0
    none true = refl
    none false = refl

finds : (kind : PlaceKind) (from : ℕ) (found : Option ℕ) (cs : List Connection) → Finds kind from found cs (least_at kind from found cs)
finds kind from None [] = record { before = refl; none = λ m. refl }
finds kind from (Some n) [] = record { there = inl refl; before = λ m e. (let same : n ≡ m = cc in omega arith); others = λ m k. absurd (omega arith) }
finds kind from found (c ∷ cs) =
    elim (passes kind from c) as (λ b. passes kind from c ≡ b → Finds kind from found (c ∷ cs) (least_at kind from (if b then Some (lesser found c.number) else found) cs)) [
      | true ↦ λ e. taken kind from found c cs (least_at kind from (Some (lesser found c.number)) cs) e (finds kind from (Some (lesser found c.number)) cs)
      | false ↦ λ e. passed kind from found c cs (least_at kind from found cs) e (finds kind from found cs)
    ] refl

-- ---- by number ----

place-counts : (kind : PlaceKind) (from n : ℕ) (s : State) (o : Option Connection) → find (has_number n) s.connections ≡ o → from ≤ n → found_is (is_kind kind) (option_map (λ c. c.place) o) ≡ true → 0 < counts kind from n s.connections
place-counts kind from n s None e le k = absurd (cc)
place-counts kind from n s (Some c) e le k =
    let at = found-passes (has_number n) s.connections c e in
    let above : nat_le from c.number ≡ true = ap (λ i. nat_le from i) (eqb-true c.number n at) ∙ le-leb from n le in
    let it : one (passes kind from c && has_number n c) ≡ 1 = ap (λ b. one (b && is_kind kind c.place && has_number n c)) above ∙ ap (λ b. one (true && b && has_number n c)) k ∙ ap one at in
    omega (arith, it, count-found (λ c. passes kind from c && has_number n c) (has_number n) s.connections c e)

next-found : (kind : PlaceKind) (from : ℕ) (s : State) (o : Option ℕ) → IsSound s → Finds kind from None s.connections o → MatchOption o (IsNoneAt kind from s) (λ n. IsNextAt kind from n s)
next-found kind from s None h f = record { none = λ m le. none m le (is_at kind m s) refl }
  where
    none : (m : ℕ) → from ≤ m → (b : Bool) → is_at kind m s ≡ b → is_at kind m s ≡ false
    none m le true k = absurd (omega (arith, f.none m, place-counts kind from m s (find (has_number m) s.connections) refl le k))
    none m le false k = k
next-found kind from s (Some n) h f =
    let some : 0 < counts kind from n s.connections = elim f.there [ inl k ↦ absurd (cc) | inr k ↦ k ] in
    let y = found-once (passes kind from) (has_number n) s.connections (h.once n) some in
    let p = both (nat_le from y.0.number) (is_kind kind y.0.place) y.2 in
    let at : y.0.number ≡ n = eqb-true y.0.number n (found-passes (has_number n) s.connections y.0 y.1) in
    let le = leb-true from y.0.number p.0 in
    record {
      above = omega (arith, le, at);
      there = ap (λ o. found_is (is_kind kind) (option_map (λ c. c.place) o)) y.1 ∙ p.1;
      least = λ m le k. f.others m (place-counts kind from m s (find (has_number m) s.connections) refl le k);
    }

pub next-is : (kind : PlaceKind) (from : ℕ) (s : State) (o : Option ℕ) → IsSound s → o ≡ least_at kind from None s.connections → MatchOption o (IsNoneAt kind from s) (λ n. IsNextAt kind from n s)
next-is kind from s o h e = subst (λ o. MatchOption o (IsNoneAt kind from s) (λ n. IsNextAt kind from n s)) (sym e) (next-found kind from s (least_at kind from None s.connections) h (finds kind from None s.connections))
