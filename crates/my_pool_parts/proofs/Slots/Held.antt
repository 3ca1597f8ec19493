-- Where a held slot stands in the tree.
use Rattle.std.proofs.Common.{◌≡◌, ℕ, ◌<◌, ◌≤◌, Option, Some, None, List, length, get_or, take, length-take, refl, ap, ◌∙◌, arith}
use Rattle.std.specs.Option.{IsSome}
use Rattle.std.proofs.lemmas.List.{get_or_read, get_or-take}
use Rattle.my_pool_parts.specs.declared.entry.Entry.{Entry}
use Rattle.my_pool_parts.specs.Ages.{age_of}
use Rattle.my_pool_parts.specs.Tree.{nobody, entry_at, slot_at, age_at, IsLinked}
use Rattle.my_pool_parts.proofs.Slots.Links.{get-some-within}

pub record IsHeldAt (ages : List (Option ℕ)) (es : List Entry) (slot place : ℕ) : Type 0 where
  pub reserved : slot < length ages
  pub within : place < length es
  pub same : slot_at es place ≡ slot

-- the place of a held slot that was read, where the ages are those that callers see
pub held-at : {ages seen : List (Option ℕ)} {places : List ℕ} {es : List Entry} (slot place : ℕ) → IsLinked ages places es → ages ≡ seen → IsSome (age_of seen slot) → place ≡ get_or places slot place → IsHeldAt ages es slot place
held-at {ages} {seen} {places} {es} slot place h view some read =
    let age = some-of (age_of seen slot) some in
    let held = ap (λ xs. age_of xs slot) view ∙ age.1 in
    let wide = get-some-within ages slot age.0 held in
    let is = get_or_read places slot place (omega (arith, wide, h.sizes)) read 0 in
    record {
      reserved = wide;
      within = omega (arith, is, h.within slot age.0 held);
      same = ap (slot_at es) is ∙ h.found slot age.0 held;
    }
  where
    some-of : (o : Option ℕ) → IsSome o → (a : ℕ) × (o ≡ Some a)
    some-of None h = absurd (cc)
    some-of (Some a) h = (a, refl)

-- what is left of a tree whose end was cut off
pub front-age : (es front : List Entry) (n k : ℕ) → front ≡ take n es → k < n → age_at front k ≡ age_at es k
front-age es front n k e lt = ap (λ (x : Entry). x.age) (ap (λ xs. entry_at xs k) e ∙ get_or-take n es k nobody lt)

pub front-length : (es front : List Entry) (n : ℕ) → front ≡ take n es → n ≤ length es → length front ≡ n
front-length es front n e le = omega (arith, ap length e, length-take n es)
