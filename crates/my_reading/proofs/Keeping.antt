-- What a cache of statements keeps where a new one is put.
use Rattle.std.proofs.Common.{◌≡◌, ℕ, zero, suc, ◌<◌, ◌≤◌, List, [], ◌∷◌, length, take, slice_get, slice_index_or, Bool, true, false, cond, Option, Some, None, ◌⊎◌, inl, inr, refl, ap, arith}
use Rattle.std.specs.List.{Contains}
use Rattle.std.specs.Option.{option_map}
use Rattle.my_statements.specs.declared.statement.StmtInner.{StmtInner}
use Rattle.my_statements.specs.Cache.{Cached, Held, last_of_full, with_first}
use Rattle.my_reading.specs.Statements.{is_held, leaving_for, with_new}

first_if : (b : Bool) (h : Held) (c : Cached) → b ≡ false → 0 < c.capacity → (rest : List Held) × ((cond {A = Cached} b c (with_first h c)).list ≡ h ∷ rest)
first_if true h c e some = cc
first_if false h c e some = by_capacity c.capacity some
  where
    by_capacity : (n : ℕ) → 0 < n → (rest : List Held) × (take n (h ∷ c.list) ≡ h ∷ rest)
    by_capacity zero some = absurd (omega arith)
    by_capacity (suc n) some = (take n c.list, refl)

pub new_is_first : (h : Held) (c : Cached) → is_held h c ≡ false → 0 < c.capacity → (rest : List Held) × ((with_new h c).list ≡ h ∷ rest)
new_is_first h c e some = first_if (is_held h c) h c e some

-- of one too many all but the last are taken
taken_or_last : (n k : ℕ) (hs : List Held) (s : Held) → length hs ≤ suc n → k < length hs → slice_index_or hs k s ≡ s
    → Contains (take n hs) s ⊎ (slice_get hs n ≡ Some s)
taken_or_last zero k [] s few less e = absurd (omega arith)
taken_or_last (suc n) k [] s few less e = absurd (omega arith)
taken_or_last zero zero (h ∷ hs) s few less e = inr (ap Some e)
taken_or_last zero (suc k) (h ∷ hs) s few less e = absurd (omega arith)
taken_or_last (suc n) zero (h ∷ hs) s few less e = inl (zero, omega arith, e)
taken_or_last (suc n) (suc k) (h ∷ hs) s few less e = further (taken_or_last n k hs s (omega arith) (omega arith) e)
  where
    further : Contains (take n hs) s ⊎ (slice_get hs n ≡ Some s) → Contains (take (suc n) (h ∷ hs)) s ⊎ (slice_get (h ∷ hs) (suc n) ≡ Some s)
    further (inl w) = let less = w.1 in inl (suc w.0, omega (arith, less), w.2)
    further (inr f) = inr f

abbrev id_of : Option Held → Option ℕ
id_of o = option_map (λ (s : StmtInner). s.id) (option_map (λ (h : Held). h.stmt) o)

leaves_if : (b : Bool) (h s : Held) (c : Cached) → length c.list ≤ c.capacity → Contains c.list s
    → Contains (cond {A = Cached} b c (with_first h c)).list s ⊎ (cond {A = Option ℕ} b None (id_of (last_of_full c.capacity c.list)) ≡ Some s.stmt.id)
leaves_if true h s c few w = inl w
leaves_if false h s c few w = by_capacity c.capacity few
  where
    by_capacity : (n : ℕ) → length c.list ≤ n → Contains (take n (h ∷ c.list)) s ⊎ (id_of (last_of_full n c.list) ≡ Some s.stmt.id)
    by_capacity zero few = let less = w.1 in absurd (omega (arith, less))
    by_capacity (suc n) few = by_place (taken_or_last n w.0 c.list s few w.1 w.2)
      where
        by_place : Contains (take n c.list) s ⊎ (slice_get c.list n ≡ Some s) → Contains (take (suc n) (h ∷ c.list)) s ⊎ (id_of (slice_get c.list n) ≡ Some s.stmt.id)
        by_place (inl x) = let less = x.1 in inl (suc x.0, omega (arith, less), x.2)
        by_place (inr e) = inr (ap id_of e)

pub one_leaves : (h s : Held) (c : Cached) → length c.list ≤ c.capacity → Contains c.list s
    → Contains (with_new h c).list s ⊎ (leaving_for h c ≡ Some s.stmt.id)
one_leaves h s c few w = leaves_if (is_held h c) h s c few w
