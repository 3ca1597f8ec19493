-- The links between slots and entries stay when an entry is added, when the last one leaves, and when slots are added.
pub mod Links
pub mod Held
pub mod Least
use Rattle.std.proofs.Common.{◌≡◌, ◌≢◌, ℕ, ◌+◌, ◌-◌, ◌<◌, ◌≤◌, ◌++◌, Option, Some, None, List, [], ◌∷◌, length, get_or, set, take, length-set, length-append, length-take, get_or-set_same, get_or-set_other, zero, suc, refl, sym, ap, ◌∙◌, subst, arith, inl, inr}
use Rattle.std.specs.Prelude.{replicate}
use Rattle.std.proofs.lemmas.Bool.{cases_eq, cases_lt}
use Rattle.std.proofs.lemmas.List.{get_or_append_left, take_all, get_or-take, get_or-replicate, get_or_past, length-replicate, length_push, get_or_push}
use Rattle.my_pool_parts.specs.declared.entry.Entry.{Entry}
use Rattle.my_pool_parts.specs.Ages.{age_of, how_many}
use Rattle.my_pool_parts.specs.Tree.{entry, nobody, entry_at, slot_at, age_at, IsLinked}
use Rattle.my_pool_parts.proofs.Slots.Links.{get-some-within, apart}

abbrev no_age : Option ℕ
no_age = None

abbrev no_place : ℕ
no_place = 0

pub how_many-hold : (ages : List (Option ℕ)) (s a : ℕ) → s < length ages → age_of ages s ≡ None → how_many (set ages s (Some a)) ≡ how_many ages + 1
how_many-hold [] s a lt e = absurd (omega arith)
how_many-hold (None ∷ xs) zero a lt e = omega arith
how_many-hold (Some b ∷ xs) zero a lt e = absurd (cc)
how_many-hold (None ∷ xs) (suc s) a lt e = omega (arith, how_many-hold xs s a (omega arith) e)
how_many-hold (Some b ∷ xs) (suc s) a lt e = omega (arith, how_many-hold xs s a (omega arith) e)

pub how_many-free : (ages : List (Option ℕ)) (s a : ℕ) → age_of ages s ≡ Some a → how_many (set ages s None) + 1 ≡ how_many ages
how_many-free [] s a e = absurd (cc)
how_many-free (None ∷ xs) zero a e = absurd (cc)
how_many-free (Some b ∷ xs) zero a e = omega arith
how_many-free (None ∷ xs) (suc s) a e = omega (arith, how_many-free xs s a e)
how_many-free (Some b ∷ xs) (suc s) a e = omega (arith, how_many-free xs s a e)

pub how_many-room : (ages : List (Option ℕ)) (s : ℕ) → s < length ages → age_of ages s ≡ None → how_many ages < length ages
how_many-room [] s lt e = absurd (omega arith)
how_many-room (None ∷ xs) zero lt e = omega (arith, how_many-all xs)
  where
    how_many-all : (ages : List (Option ℕ)) → how_many ages ≤ length ages
    how_many-all [] = omega arith
    how_many-all (None ∷ xs) = omega (arith, how_many-all xs)
    how_many-all (Some a ∷ xs) = omega (arith, how_many-all xs)
how_many-room (Some b ∷ xs) zero lt e = absurd (cc)
how_many-room (None ∷ xs) (suc s) lt e = omega (arith, how_many-room xs s (omega arith) e)
how_many-room (Some b ∷ xs) (suc s) lt e = omega (arith, how_many-room xs s (omega arith) e)

how_many-more : (ages : List (Option ℕ)) (k : ℕ) → how_many (ages ++ replicate k None) ≡ how_many ages
how_many-more [] zero = refl
how_many-more [] (suc k) = how_many-more [] k
how_many-more (None ∷ xs) k = omega (arith, how_many-more xs k)
how_many-more (Some a ∷ xs) k = omega (arith, how_many-more xs k)

-- a held slot isn't one that is free
held-apart : (ages : List (Option ℕ)) (s t a : ℕ) → age_of ages s ≡ Some a → age_of ages t ≡ None → s ≢ t
held-apart ages s t a e f same = let g = ap (age_of ages) same in absurd (cc)

pub linked-added : {ages : List (Option ℕ)} {places : List ℕ} {es : List Entry} (slot age : ℕ) → IsLinked ages places es → slot < length ages → age_of ages slot ≡ None → IsLinked (set ages slot (Some age)) (set places slot (length es)) (es ++ entry slot age ∷ [])
linked-added {ages} {places} {es} slot age h lt free =
    let new = entry slot age in
    let all = es ++ new ∷ [] in
    let ages' = set ages slot (Some age) in
    let places' = set places slot (length es) in
    let len : length all ≡ length es + 1 = length_push es new in
    let wide : slot < length places = omega (arith, h.sizes) in
    let last : entry_at all (length es) ≡ new = get_or_push es new nobody (length es) refl in
    let kept = λ (k : ℕ) (l : k < length es). get_or_append_left es (new ∷ []) nobody k l in
    let away = λ (k : ℕ) (l : k < length es). held-apart ages (slot_at es k) slot (age_at es k) (h.held k l) free in
    record {
      sizes = length-set places slot (length es) ∙ h.sizes ∙ sym (length-set ages slot (Some age));
      held = λ k l. elim (cases_lt k (length es)) [
        | inl below ↦ subst (λ (e : Entry). age_of ages' e.slot ≡ Some e.age) (sym (kept k below)) (get_or-set_other ages slot (slot_at es k) (Some age) None (away k below) ∙ h.held k below)
        | inr above ↦
            let e : k ≡ length es = omega (arith, len) in
            subst (λ (x : Entry). age_of ages' x.slot ≡ Some x.age) (sym (ap (entry_at all) e ∙ last)) (get_or-set_same ages slot (Some age) None lt)
      ];
      placed = λ k l. elim (cases_lt k (length es)) [
        | inl below ↦ ap (λ (e : Entry). get_or places' e.slot 0) (kept k below) ∙ get_or-set_other places slot (slot_at es k) (length es) 0 (away k below) ∙ h.placed k below
        | inr above ↦
            let e : k ≡ length es = omega (arith, len) in
            ap (λ (x : Entry). get_or places' x.slot 0) (ap (entry_at all) e ∙ last) ∙ get_or-set_same places slot (length es) 0 wide ∙ sym e
      ];
      within = λ s a e. elim (cases_eq s slot) [
        | inl same ↦ omega (arith, len, ap (λ n. get_or places' n 0) same, get_or-set_same places slot (length es) 0 wide)
        | inr ne ↦ omega (arith, len, get_or-set_other places slot s (length es) 0 ne, h.within s a (sym (get_or-set_other ages slot s (Some age) None ne) ∙ e))
      ];
      found = λ s a e. elim (cases_eq s slot) [
        | inl same ↦ ap (slot_at all) (ap (λ n. get_or places' n 0) same ∙ get_or-set_same places slot (length es) 0 wide) ∙ ap (λ (x : Entry). x.slot) last ∙ sym same
        | inr ne ↦
            let old = sym (get_or-set_other ages slot s (Some age) None ne) ∙ e in
            ap (slot_at all) (get_or-set_other places slot s (length es) 0 ne) ∙ ap (λ (x : Entry). x.slot) (kept (get_or places s 0) (h.within s a old)) ∙ h.found s a old
      ];
      counted = omega (arith, len, how_many-hold ages slot age lt free, h.counted);
    }

-- a slot that is held when one was freed is another one
pub gone : (ages : List (Option ℕ)) (slot s a : ℕ) → slot < length ages → age_of (set ages slot None) s ≡ Some a → (s ≢ slot) × (age_of ages s ≡ Some a)
gone ages slot s a wide e =
    elim (cases_eq s slot) [
      | inl same ↦ let f = ap (age_of (set ages slot None)) same in let g = get_or-set_same ages slot None None wide in absurd (cc)
      | inr ne ↦ (ne, sym (get_or-set_other ages slot s None None ne) ∙ e)
    ]

-- all but the last
pub linked-dropped : {ages : List (Option ℕ)} {places : List ℕ} {es : List Entry} (last : ℕ) → IsLinked ages places es → length es ≡ last + 1 → IsLinked (set ages (slot_at es last) None) places (take last es)
linked-dropped {ages} {places} {es} last h count =
    let slot = slot_at es last in
    let rest = take last es in
    let ages' = set ages slot None in
    let at_last : last < length es = omega arith in
    let holds = h.held last at_last in
    let wide = get-some-within ages slot (age_at es last) holds in
    let len : length rest ≡ last = omega (arith, length-take last es) in
    let kept = λ (k : ℕ) (l : k < last). get_or-take last es k nobody l in
    let away = λ (k : ℕ) (l : k < last). apart last k h at_last (omega arith) (omega arith) in
    let other = λ (s a : ℕ) (e : age_of ages' s ≡ Some a). gone ages slot s a wide e in
    let stays = λ (s a : ℕ) (e : age_of ages' s ≡ Some a). before s (get_or places s 0) (other s a e).0 (h.within s a (other s a e).1) (h.found s a (other s a e).1) in
    record {
      sizes = h.sizes ∙ sym (length-set ages slot None);
      held = λ k l.
          let below : k < last = omega (arith, len) in
          subst (λ (e : Entry). age_of ages' e.slot ≡ Some e.age) (sym (kept k below)) (get_or-set_other ages slot (slot_at es k) None None (away k below) ∙ h.held k (omega arith));
      placed = λ k l.
          let below : k < last = omega (arith, len) in
          ap (λ (e : Entry). get_or places e.slot 0) (kept k below) ∙ h.placed k (omega arith);
      within = λ s a e. omega (arith, len, stays s a e);
      found = λ s a e. ap (λ (x : Entry). x.slot) (kept (get_or places s 0) (stays s a e)) ∙ h.found s a (other s a e).1;
      counted = omega (arith, len, how_many-free ages slot (age_at es last) holds, h.counted);
    }
  where
    before : (s k : ℕ) → s ≢ slot_at es last → k < length es → slot_at es k ≡ s → k < last
    before s k ne lt e = elim (cases_eq k last) [
      | inl same ↦ absurd (ne (sym e ∙ ap (slot_at es) same))
      | inr other ↦ omega arith
    ]

-- more slots
pub linked-grown : {ages : List (Option ℕ)} {places : List ℕ} {es : List Entry} (k : ℕ) → IsLinked ages places es → IsLinked (ages ++ replicate k None) (places ++ replicate k 0) es
linked-grown {ages} {places} {es} k h =
    let old = λ (s a : ℕ) (e : age_of (ages ++ replicate k None) s ≡ Some a). was ages s a e in
    record {
      sizes = omega (arith, length-append places (replicate k 0), length-append ages (replicate k no_age), length-replicate k no_place, length-replicate k no_age, h.sizes);
      held = λ i l. get_or_append_left ages (replicate k None) None (slot_at es i) (get-some-within ages (slot_at es i) (age_at es i) (h.held i l)) ∙ h.held i l;
      placed = λ i l. get_or_append_left places (replicate k 0) 0 (slot_at es i) (omega (arith, h.sizes, get-some-within ages (slot_at es i) (age_at es i) (h.held i l))) ∙ h.placed i l;
      within = λ s a e. omega (arith, same s a e, h.within s a (old s a e));
      found = λ s a e. ap (slot_at es) (same s a e) ∙ h.found s a (old s a e);
      counted = h.counted ∙ sym (how_many-more ages k);
    }
  where
    was : (ages : List (Option ℕ)) (s a : ℕ) → age_of (ages ++ replicate k None) s ≡ Some a → age_of ages s ≡ Some a
    was [] s a e = elim (cases_lt s k) [
      | inl below ↦ let n = get_or-replicate k s no_age None below in absurd (cc)
      | inr past ↦ let n = get_or_past (replicate k no_age) s None (omega (arith, length-replicate k no_age)) in absurd (cc)
    ]
    was (x ∷ xs) zero a e = e
    was (x ∷ xs) (suc s) a e = was xs s a e

    same : (s a : ℕ) → age_of (ages ++ replicate k None) s ≡ Some a → get_or (places ++ replicate k 0) s 0 ≡ get_or places s 0
    same s a e = get_or_append_left places (replicate k 0) 0 s (omega (arith, h.sizes, get-some-within ages s a (was ages s a e)))

-- the same lists
pub linked-as : {ages bges : List (Option ℕ)} {places qlaces : List ℕ} {es fs : List Entry} → IsLinked ages places es → ages ≡ bges → places ≡ qlaces → es ≡ fs → IsLinked bges qlaces fs
linked-as {ages} {bges} {places} {qlaces} {es} {fs} h a p e = subst (λ xs. IsLinked bges qlaces xs) e (subst (λ ps. IsLinked bges ps es) p (subst (λ xs. IsLinked xs places es) a h))

-- a list that got room and was filled up
pub refilled : {X : Type 0} (xs mid : List X) {ys : List X} (n : ℕ) (v : X) → mid ≡ xs → ys ≡ mid ++ replicate (n - length mid) v → ys ≡ xs ++ replicate (n - length xs) v
refilled {X} xs mid n v same e = e ∙ ap (λ (zs : List X). zs ++ replicate (n - length zs) v) same
