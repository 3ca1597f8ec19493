-- The links between slots and entries stay when two entries change their places.
use Rattle.std.proofs.Common.{◌≡◌, ◌≢◌, ℕ, ◌<◌, Option, Some, None, List, [], ◌∷◌, length, get_or, set, length-set, get_or-set_same, get_or-set_other, zero, suc, sym, ap, ◌∙◌, subst, arith, inl, inr}
use Rattle.std.proofs.lemmas.Bool.{cases_eq}
use Rattle.std.proofs.lemmas.List.{get_or_read}
use Rattle.my_pool_parts.specs.declared.entry.Entry.{Entry}
use Rattle.my_pool_parts.specs.Ages.{age_of}
use Rattle.my_pool_parts.specs.Tree.{nobody, entry_at, slot_at, age_at, IsLinked, IsSwapped}

pub get-some-within : (xs : List (Option ℕ)) (i a : ℕ) → get_or xs i None ≡ Some a → i < length xs
get-some-within [] i a e = absurd (cc)
get-some-within (x ∷ xs) zero a e = omega arith
get-some-within (x ∷ xs) (suc i) a e = omega (arith, get-some-within xs i a e)

-- a slot of an entry is reserved
pub slot-within : {ages : List (Option ℕ)} {places : List ℕ} {es : List Entry} (i : ℕ) → IsLinked ages places es → i < length es → slot_at es i < length places
slot-within {ages} {places} {es} i h lt = omega (arith, get-some-within ages (slot_at es i) (age_at es i) (h.held i lt), h.sizes)

-- where an entry came from, and where it went to
pub record Moved (xs : List Entry) (ys : List Entry) (ps : List ℕ) (from to : ℕ) : Type 0 where
  pub from_in : from < length xs
  pub to_in : to < length xs
  pub same : entry_at ys to ≡ entry_at xs from
  pub place : get_or ps (slot_at xs from) 0 ≡ to

pub record Links (ages : List (Option ℕ)) (places : List ℕ) (xs : List Entry) (ys : List Entry) (ps : List ℕ) (i j : ℕ) : Type 0 where
  pub linked : IsLinked ages places xs
  pub i_in : i < length xs
  pub j_in : j < length xs
  pub swapped : IsSwapped xs ys i j
  pub len : length ps ≡ length places
  pub at_first : get_or ps (slot_at xs i) 0 ≡ j
  pub at_second : get_or ps (slot_at xs j) 0 ≡ i
  pub at_others : (s : ℕ) → s ≢ slot_at xs i → s ≢ slot_at xs j → get_or ps s 0 ≡ get_or places s 0

pub apart : {ages : List (Option ℕ)} {places : List ℕ} {xs : List Entry} (i k : ℕ) → IsLinked ages places xs → i < length xs → k < length xs → k ≢ i → slot_at xs k ≢ slot_at xs i
apart {ages} {places} {xs} i k h li lk ne e = ne (sym (h.placed k lk) ∙ ap (λ s. get_or places s 0) e ∙ h.placed i li)

stays : {ages : List (Option ℕ)} {places : List ℕ} {xs ys : List Entry} {ps : List ℕ} {i j : ℕ} → Links ages places xs ys ps i j → (k : ℕ) → k < length xs → k ≢ i → k ≢ j → Moved xs ys ps k k
stays {ages} {places} {xs} {ys} {ps} {i} {j} l k lt ni nj = record {
  from_in = lt;
  to_in = lt;
  same = l.swapped.others k ni nj;
  place = l.at_others (slot_at xs k) (apart i k l.linked l.i_in lt ni) (apart j k l.linked l.j_in lt nj) ∙ l.linked.placed k lt;
}

source : {ages : List (Option ℕ)} {places : List ℕ} {xs ys : List Entry} {ps : List ℕ} {i j : ℕ} → Links ages places xs ys ps i j → (k : ℕ) → k < length xs → (m : ℕ) × Moved xs ys ps m k
source {ages} {places} {xs} {ys} {ps} {i} {j} l k lt =
    elim (cases_eq k i) [
      | inl e ↦ (j, record { from_in = l.j_in; to_in = lt; same = ap (entry_at ys) e ∙ l.swapped.first; place = l.at_second ∙ sym e })
      | inr ni ↦ elim (cases_eq k j) [
        | inl e ↦ (i, record { from_in = l.i_in; to_in = lt; same = ap (entry_at ys) e ∙ l.swapped.second; place = l.at_first ∙ sym e })
        | inr nj ↦ (k, stays l k lt ni nj)
      ]
    ]

target : {ages : List (Option ℕ)} {places : List ℕ} {xs ys : List Entry} {ps : List ℕ} {i j : ℕ} → Links ages places xs ys ps i j → (k : ℕ) → k < length xs → (m : ℕ) × Moved xs ys ps k m
target {ages} {places} {xs} {ys} {ps} {i} {j} l k lt =
    elim (cases_eq k i) [
      | inl e ↦ (j, record { from_in = lt; to_in = l.j_in; same = l.swapped.second ∙ ap (entry_at xs) (sym e); place = ap (λ n. get_or ps (slot_at xs n) 0) e ∙ l.at_first })
      | inr ni ↦ elim (cases_eq k j) [
        | inl e ↦ (i, record { from_in = lt; to_in = l.i_in; same = l.swapped.first ∙ ap (entry_at xs) (sym e); place = ap (λ n. get_or ps (slot_at xs n) 0) e ∙ l.at_second })
        | inr nj ↦ (k, stays l k lt ni nj)
      ]
    ]

-- what holds of an entry's place in the old tree holds of its place in the new one
pub linked-swapped : {ages : List (Option ℕ)} {places : List ℕ} {xs ys : List Entry} {ps : List ℕ} {i j : ℕ} → Links ages places xs ys ps i j → IsLinked ages ps ys
linked-swapped {ages} {places} {xs} {ys} {ps} {i} {j} l = record {
  sizes = l.len ∙ l.linked.sizes;
  held = λ k lt.
      let m = source l k (omega (arith, l.swapped.len)) in
      subst (λ (e : Entry). age_of ages e.slot ≡ Some e.age) (sym m.1.same) (l.linked.held m.0 m.1.from_in);
  placed = λ k lt.
      let m = source l k (omega (arith, l.swapped.len)) in
      ap (λ (e : Entry). get_or ps e.slot 0) m.1.same ∙ m.1.place;
  within = λ s a h.
      let m = target l (get_or places s 0) (l.linked.within s a h) in
      let e = ap (λ n. get_or ps n 0) (sym (l.linked.found s a h)) ∙ m.1.place in
      omega (arith, e, m.1.to_in, l.swapped.len);
  found = λ s a h.
      let m = target l (get_or places s 0) (l.linked.within s a h) in
      let e = ap (λ n. get_or ps n 0) (sym (l.linked.found s a h)) ∙ m.1.place in
      ap (slot_at ys) e ∙ ap (λ (x : Entry). x.slot) m.1.same ∙ l.linked.found s a h;
  counted = l.swapped.len ∙ l.linked.counted;
}

-- an entry that was read
pub read-entry : (es : List Entry) (i : ℕ) (x : Entry) → i < length es → x ≡ get_or es i x → x ≡ entry_at es i
read-entry es i x lt e = get_or_read es i x lt e nobody

pub swapped-set : (es : List Entry) (i j : ℕ) (a b : Entry) → i < length es → j < length es → a ≡ entry_at es i → b ≡ entry_at es j → IsSwapped es (set (set es i b) j a) i j
swapped-set es i j a b li lj ea eb =
    let lj2 : j < length (set es i b) = omega (arith, length-set es i b) in
    record {
      len = length-set (set es i b) j a ∙ length-set es i b;
      first = elim (cases_eq i j) [
        | inl e ↦ ap (entry_at (set (set es i b) j a)) e ∙ get_or-set_same (set es i b) j a nobody lj2 ∙ ea ∙ ap (entry_at es) e
        | inr ne ↦ get_or-set_other (set es i b) j i a nobody ne ∙ get_or-set_same es i b nobody li ∙ eb
      ];
      second = get_or-set_same (set es i b) j a nobody lj2 ∙ ea;
      others = λ k ni nj. get_or-set_other (set es i b) j k a nobody nj ∙ get_or-set_other es i k b nobody ni;
    }

pub links-set : {ages : List (Option ℕ)} {places : List ℕ} {es : List Entry} (i j : ℕ) (a b : Entry) → IsLinked ages places es → i < length es → j < length es → a ≡ entry_at es i → b ≡ entry_at es j → Links ages places es (set (set es i b) j a) (set (set places b.slot i) a.slot j) i j
links-set {ages} {places} {es} i j a b h li lj ea eb =
    let sa : a.slot ≡ slot_at es i = ap (λ (e : Entry). e.slot) ea in
    let sb : b.slot ≡ slot_at es j = ap (λ (e : Entry). e.slot) eb in
    let wa : a.slot < length (set places b.slot i) = omega (arith, length-set places b.slot i, slot-within i h li, sa) in
    let wb : b.slot < length places = omega (arith, slot-within j h lj, sb) in
    record {
      linked = h;
      i_in = li;
      j_in = lj;
      swapped = swapped-set es i j a b li lj ea eb;
      len = length-set (set places b.slot i) a.slot j ∙ length-set places b.slot i;
      at_first = ap (λ s. get_or (set (set places b.slot i) a.slot j) s 0) (sym sa) ∙ get_or-set_same (set places b.slot i) a.slot j 0 wa;
      at_second = ap (λ s. get_or (set (set places b.slot i) a.slot j) s 0) (sym sb) ∙ elim (cases_eq b.slot a.slot) [
        | inl e ↦ ap (λ s. get_or (set (set places b.slot i) a.slot j) s 0) e ∙ get_or-set_same (set places b.slot i) a.slot j 0 wa ∙ sym (h.placed j lj) ∙ ap (λ s. get_or places s 0) (sym sb ∙ e ∙ sa) ∙ h.placed i li
        | inr ne ↦ get_or-set_other (set places b.slot i) a.slot b.slot j 0 ne ∙ get_or-set_same places b.slot i 0 wb
      ];
      at_others = λ s ns nt. get_or-set_other (set places b.slot i) a.slot s j 0 (λ e. ns (e ∙ sa)) ∙ get_or-set_other places b.slot s i 0 (λ e. nt (e ∙ sb));
    }
