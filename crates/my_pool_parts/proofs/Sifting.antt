-- The order of a tree's ages, and what it becomes when an entry changes its place with the one before or after it.
pub mod Depth
use Rattle.std.proofs.Common.{◌≡◌, ◌≢◌, ℕ, ◌+◌, ◌*◌, ◌<◌, ◌≤◌, List, sym, ap, ◌∙◌, subst, arith, inl, inr}
use Rattle.std.proofs.lemmas.Bool.{cases_eq}
use Rattle.my_pool_parts.specs.declared.entry.Entry.{Entry}
use Rattle.my_pool_parts.specs.Tree.{age_at, IsSwapped, IsOrdered, IsOrderedBut, IsAbove, IsBelow}

-- the ages at two indices have changed their places
pub record Traded (age new : ℕ → ℕ) (i j : ℕ) : Type 0 where
  pub first : new i ≡ age j
  pub second : new j ≡ age i
  pub others : (k : ℕ) → k ≢ i → k ≢ j → new k ≡ age k

pub traded : {xs ys : List Entry} {i j : ℕ} → IsSwapped xs ys i j → Traded (age_at xs) (age_at ys) i j
traded {xs} {ys} {i} {j} s = record {
  first = ap (λ (e : Entry). e.age) s.first;
  second = ap (λ (e : Entry). e.age) s.second;
  others = λ k ni nj. ap (λ (e : Entry). e.age) (s.others k ni nj);
}

pub ordered-from-parts : {n : ℕ} {age : ℕ → ℕ} {i : ℕ} → IsOrderedBut n age i → IsAbove n age i → IsBelow age i → IsOrdered n age
ordered-from-parts {n} {age} {i} but above below = λ p c lo hi lt.
    elim (cases_eq c i) [
      | inl e ↦ subst (λ x. age p ≤ age x) (sym e) (below p (omega arith) (omega arith))
      | inr nc ↦ elim (cases_eq p i) [
        | inl e ↦ subst (λ x. age x ≤ age c) (sym e) (above c (omega arith) (omega arith) lt)
        | inr np ↦ but.others p c lo hi lt np nc
      ]
    ]

-- the one before it is the only one before it
pub below-parent : (age : ℕ → ℕ) (i p : ℕ) → 2 * p + 1 ≤ i → i ≤ 2 * p + 2 → age p ≤ age i → IsBelow age i
below-parent age i p lo hi le = λ q qlo qhi. let e : p ≡ q = omega arith in subst (λ x. age x ≤ age i) e le

pub below-root : (age : ℕ → ℕ) (i : ℕ) → i ≡ 0 → IsBelow age i
below-root age i e = λ q qlo qhi. absurd (omega arith)

-- one step up
pub up-but : {n : ℕ} {age new : ℕ → ℕ} {i p : ℕ} → 2 * p + 1 ≤ i → i ≤ 2 * p + 2 → i < n → IsOrderedBut n age i → age i < age p → Traded age new i p → IsOrderedBut n new p
up-but {n} {age} {new} {i} {p} lo hi lt but older t = record {
  others = λ q c qlo qhi clt nq nc.
      elim (cases_eq q i) [
        | inl e ↦
            let a = ap new e ∙ t.first in
            let b = t.others c (λ h. absurd (omega arith)) nc in
            let h = but.over p c lo hi (omega arith) (omega arith) clt in
            omega (arith, a, b, h)
        | inr ni ↦ elim (cases_eq c i) [
          | inl e ↦ absurd (nq (omega arith))
          | inr nci ↦
              let a = t.others q ni nq in
              let b = t.others c nci nc in
              let h = but.others q c qlo qhi clt ni nci in
              omega (arith, a, b, h)
        ]
      ];
  over = λ q c qlo qhi clo chi clt.
      let a = t.others q (λ h. absurd (omega arith)) (λ h. absurd (omega arith)) in
      let top = but.others q p qlo qhi (omega arith) (λ h. absurd (omega arith)) (λ h. absurd (omega arith)) in
      elim (cases_eq c i) [
        | inl e ↦ let b = ap new e ∙ t.first in omega (arith, a, b, top)
        | inr nci ↦
            let b = t.others c nci (λ h. absurd (omega arith)) in
            let h = but.others p c clo chi clt (λ h. absurd (omega arith)) nci in
            omega (arith, a, b, top, h)
      ];
}

pub up-above : {n : ℕ} {age new : ℕ → ℕ} {i p : ℕ} → 2 * p + 1 ≤ i → i ≤ 2 * p + 2 → i < n → IsOrderedBut n age i → age i < age p → Traded age new i p → IsAbove n new p
up-above {n} {age} {new} {i} {p} lo hi lt but older t = λ c clo chi clt.
    elim (cases_eq c i) [
      | inl e ↦ let b = ap new e ∙ t.first in omega (arith, t.second, b, older)
      | inr nci ↦
          let b = t.others c nci (λ h. absurd (omega arith)) in
          let h = but.others p c clo chi clt (λ h. absurd (omega arith)) nci in
          omega (arith, t.second, b, h, older)
    ]

-- an entry older than the one before it is no younger than those after it
pub above-older : {n : ℕ} {age : ℕ → ℕ} {i p : ℕ} → 2 * p + 1 ≤ i → i ≤ 2 * p + 2 → IsOrderedBut n age i → age i < age p → IsAbove n age i
above-older {n} {age} {i} {p} lo hi but older = λ c clo chi clt. let h = but.over p c lo hi clo chi clt in omega (arith, h, older)

-- one step down, to the older one of those after it
pub down-but : {n : ℕ} {age new : ℕ → ℕ} {i b : ℕ} → 2 * i + 1 ≤ b → b ≤ 2 * i + 2 → b < n → IsOrderedBut n age i → ((c : ℕ) → 2 * i + 1 ≤ c → c ≤ 2 * i + 2 → c < n → age b ≤ age c) → Traded age new i b → IsOrderedBut n new b
down-but {n} {age} {new} {i} {b} lo hi lt but least t = record {
  others = λ q c qlo qhi clt nq nc.
      elim (cases_eq q i) [
        | inl e ↦
            let x = ap new e ∙ t.first in
            let y = t.others c (λ h. absurd (omega arith)) nc in
            let h = least c (omega arith) (omega arith) clt in
            omega (arith, x, y, h)
        | inr ni ↦
            let x = t.others q ni nq in
            elim (cases_eq c i) [
              | inl e ↦
                  let y = ap new e ∙ t.first in
                  let h = but.over q b (omega arith) (omega arith) lo hi lt in
                  omega (arith, x, y, h)
              | inr nci ↦
                  let y = t.others c nci nc in
                  let h = but.others q c qlo qhi clt ni nci in
                  omega (arith, x, y, h)
            ]
      ];
  over = λ q c qlo qhi clo chi clt.
      let e : q ≡ i = omega arith in
      let x = ap new e ∙ t.first in
      let y = t.others c (λ h. absurd (omega arith)) (λ h. absurd (omega arith)) in
      let h = but.others b c clo chi clt (λ h. absurd (omega arith)) (λ h. absurd (omega arith)) in
      omega (arith, x, y, h);
}

pub down-below : {age new : ℕ → ℕ} {i b : ℕ} → 2 * i + 1 ≤ b → b ≤ 2 * i + 2 → age b < age i → Traded age new i b → IsBelow new b
down-below {age} {new} {i} {b} lo hi older t = λ q qlo qhi.
    let e : q ≡ i = omega arith in
    let x = ap new e ∙ t.first in
    omega (arith, x, t.second, older)

-- where nothing follows it
pub above-leaf : {n : ℕ} (age : ℕ → ℕ) {i : ℕ} → n ≤ 2 * i + 1 → IsAbove n age i
above-leaf {n} age {i} le = λ c clo chi clt. absurd (omega arith)

-- where the oldest after it is no older
pub above-least : {n : ℕ} {age : ℕ → ℕ} {i b : ℕ} → ((c : ℕ) → 2 * i + 1 ≤ c → c ≤ 2 * i + 2 → c < n → age b ≤ age c) → age i ≤ age b → IsAbove n age i
above-least {n} {age} {i} {b} least le = λ c clo chi clt. let h = least c clo chi clt in omega (arith, h, le)

-- the last entry, which now stands at an index, goes down or up from there
pub but-removed : {n last : ℕ} {age new : ℕ → ℕ} {i : ℕ} → n ≡ last + 1 → i < n → IsOrdered n age → Traded age new i last → IsOrderedBut last new i
but-removed {n} {last} {age} {new} {i} len lt ordered t = record {
  others = λ q c qlo qhi clt nq nc.
      let x = t.others q nq (λ h. absurd (omega arith)) in
      let y = t.others c nc (λ h. absurd (omega arith)) in
      let h = ordered q c qlo qhi (omega arith) in
      omega (arith, x, y, h);
  over = λ q c qlo qhi clo chi clt.
      let x = t.others q (λ h. absurd (omega arith)) (λ h. absurd (omega arith)) in
      let y = t.others c (λ h. absurd (omega arith)) (λ h. absurd (omega arith)) in
      let h = ordered q i qlo qhi (omega arith) in
      let k = ordered i c clo chi (omega arith) in
      omega (arith, x, y, h, k);
}

-- a new last entry
pub but-added : {n : ℕ} {age new : ℕ → ℕ} → IsOrdered n age → ((k : ℕ) → k < n → new k ≡ age k) → IsOrderedBut (n + 1) new n
but-added {n} {age} {new} ordered same = record {
  others = λ q c qlo qhi clt nq nc.
      let x = same q (omega arith) in
      let y = same c (omega arith) in
      let h = ordered q c qlo qhi (omega arith) in
      omega (arith, x, y, h);
  over = λ q c qlo qhi clo chi clt. absurd (omega arith);
}

-- the same ages
pub ordered-same : {n : ℕ} {age new : ℕ → ℕ} → IsOrdered n age → ((k : ℕ) → k < n → new k ≡ age k) → IsOrdered n new
ordered-same {n} {age} {new} ordered same = λ q c qlo qhi clt.
    let x = same q (omega arith) in
    let y = same c clt in
    let h = ordered q c qlo qhi clt in
    omega (arith, x, y, h)

pub but-same : {n : ℕ} {age new : ℕ → ℕ} {i : ℕ} → i < n → IsOrderedBut n age i → ((k : ℕ) → k < n → new k ≡ age k) → IsOrderedBut n new i
but-same {n} {age} {new} {i} lt but same = record {
  others = λ q c qlo qhi clt nq nc.
      let x = same q (omega arith) in
      let y = same c clt in
      let h = but.others q c qlo qhi clt nq nc in
      omega (arith, x, y, h);
  over = λ q c qlo qhi clo chi clt.
      let x = same q (omega arith) in
      let y = same c clt in
      let h = but.over q c qlo qhi clo chi clt in
      omega (arith, x, y, h);
}
