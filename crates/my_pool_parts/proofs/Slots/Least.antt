-- The first entry of a tree that keeps to the order is the oldest one.
use Rattle.std.proofs.Common.{◌≡◌, ℕ, ◌-◌, ◌/◌, ◌<◌, ◌≤◌, Option, Some, None, List, length, get_or, set, get_or-set_same, get_or-set_other, zero, suc, sym, ap, ◌∙◌, subst, arith, inl, inr}
use Rattle.std.proofs.lemmas.Bool.{cases_eq}
use Rattle.my_pool_parts.specs.declared.entry.Entry.{Entry}
use Rattle.my_pool_parts.specs.Ages.{age_of, AreDistinct, IsLeast}
use Rattle.my_pool_parts.specs.Tree.{slot_at, age_at, IsLinked, IsOrdered}
use Rattle.my_pool_parts.proofs.Slots.{gone}

-- by halving an index, at most `fuel` times
first-oldest : (n : ℕ) (age : ℕ → ℕ) → IsOrdered n age → (fuel i : ℕ) → i ≤ fuel → i < n → age 0 ≤ age i
first-oldest n age ordered zero i le lt = let e : i ≡ 0 = omega arith in subst (λ k. age 0 ≤ age k) (sym e) (omega arith)
first-oldest n age ordered (suc fuel) i le lt = elim (cases_eq i 0) [
  | inl e ↦ subst (λ k. age 0 ≤ age k) (sym e) (omega arith)
  | inr ne ↦
      let p = (i - 1) / 2 in
      let h = ordered p i (omega arith) (omega arith) lt in
      let up = first-oldest n age ordered fuel p (omega arith) (omega arith) in
      omega (arith, h, up)
]

-- the age that holds a slot is its entry's
age-found : {ages : List (Option ℕ)} {places : List ℕ} {es : List Entry} (s a : ℕ) → IsLinked ages places es → age_of ages s ≡ Some a → age_at es (get_or places s 0) ≡ a
age-found {ages} {places} {es} s a h e =
    let there = h.held (get_or places s 0) (h.within s a e) in
    let back = ap (age_of ages) (h.found s a e) in
    let same : ◌≡◌ {A = Option ℕ} (Some (age_at es (get_or places s 0))) (Some a) = sym there ∙ back ∙ e in
    cc

pub first-is-least : {ages : List (Option ℕ)} {places : List ℕ} {es : List Entry} (n : ℕ) → n ≡ length es → IsLinked ages places es → IsOrdered n (age_at es) → AreDistinct ages → 0 < n → IsLeast ages (slot_at es 0) (age_at es 0)
first-is-least {ages} {places} {es} n len h ordered distinct some =
    let first = h.held 0 (omega arith) in
    record {
      holds = first;
      least = λ s a ne e.
          let i = get_or places s 0 in
          let age = age-found s a h e in
          let le = first-oldest n (age_at es) ordered i i (omega arith) (omega (arith, h.within s a e)) in
          elim (cases_eq (age_at es 0) a) [
            | inl same ↦ absurd (ne (distinct s (slot_at es 0) a e (subst (λ x. age_of ages (slot_at es 0) ≡ Some x) same first)))
            | inr other ↦ omega (arith, le, age)
          ];
    }

-- the ages that are left differ
pub distinct-freed : (ages : List (Option ℕ)) (s : ℕ) → s < length ages → AreDistinct ages → AreDistinct (set ages s None)
distinct-freed ages s wide h = λ t u a et eu. h t u a (gone ages s t a wide et).1 (gone ages s u a wide eu).1

-- an age that is new differs from each
pub distinct-held : (ages : List (Option ℕ)) (s age : ℕ) → s < length ages → ((t : ℕ) → age_of ages t ≡ Some age → ⊥) → AreDistinct ages → AreDistinct (set ages s (Some age))
distinct-held ages s age wide fresh h = λ t u a et eu.
    let same = get_or-set_same ages s (Some age) None wide in
    let there = λ (v : ℕ) (e : v ≡ s) (f : age_of (set ages s (Some age)) v ≡ Some a). age-is (ap (age_of (set ages s (Some age))) e) same f in
    elim (cases_eq t s) [
      | inl e ↦ elim (cases_eq u s) [
        | inl f ↦ e ∙ sym f
        | inr nu ↦ absurd (fresh u (sym (get_or-set_other ages s u (Some age) None nu) ∙ eu ∙ ap Some (there t e et)))
      ]
      | inr nt ↦ elim (cases_eq u s) [
        | inl f ↦ absurd (fresh t (sym (get_or-set_other ages s t (Some age) None nt) ∙ et ∙ ap Some (there u f eu)))
        | inr nu ↦ h t u a (sym (get_or-set_other ages s t (Some age) None nt) ∙ et) (sym (get_or-set_other ages s u (Some age) None nu) ∙ eu)
      ]
    ]
  where
    age-is : {x y : Option ℕ} {age a : ℕ} → x ≡ y → y ≡ Some age → x ≡ Some a → a ≡ age
    age-is {x} {y} {age} {a} e f g = cc
