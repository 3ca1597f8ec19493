-- The slots of the requests beside those of the heap, on plain lists.
pub mod Lived
pub mod Waking
pub mod Costs
use Rattle.std.proofs.Common.{◌≡◌, ℕ, ◌+◌, ◌-◌, ◌<◌, ◌≤◌, ◌⊎◌, ◌++◌, Option, Some, None, List, [], ◌∷◌, length, get_or, set, take, drop, length-set, length-append, get_or-set_same, get_or-set_other, zero, suc, refl, sym, ap, ◌∙◌, subst, arith, inl, inr}
use Rattle.std.specs.Prelude.{replicate, remove}
use Rattle.std.proofs.lemmas.Bool.{cases_eq, cases_lt}
use Rattle.std.proofs.lemmas.List.{get_or_append_left, get_or-append-add, get_or_past, length_push, get_or_push, take-set, drop-set-lt}
use Rattle.std.proofs.lemmas.List.Edits.{length-remove, get_or-remove_below, get_or-remove_above}
use Rattle.my_pool_parts.specs.Ages.{age_of, how_many}
use Rattle.my_pool_parts.specs.Live.{IsQueue}

-- one where an age is there
abbrev weight : Option ℕ → ℕ
weight None = 0
weight (Some a) = 1

pub held-within : (xs : List (Option ℕ)) (s a : ℕ) → age_of xs s ≡ Some a → s < length xs
held-within [] s a e = absurd (cc)
held-within (x ∷ xs) zero a e = omega arith
held-within (x ∷ xs) (suc s) a e = omega (arith, held-within xs s a e)

count-set : (xs : List (Option ℕ)) (i : ℕ) (v : Option ℕ) → i < length xs → how_many (set xs i v) + weight (age_of xs i) ≡ how_many xs + weight v
count-set [] i v lt = absurd (omega arith)
count-set (None ∷ xs) zero None lt = omega arith
count-set (None ∷ xs) zero (Some b) lt = omega arith
count-set (Some a ∷ xs) zero None lt = omega arith
count-set (Some a ∷ xs) zero (Some b) lt = omega arith
count-set (None ∷ xs) (suc i) v lt = omega (arith, count-set xs i v (omega arith))
count-set (Some a ∷ xs) (suc i) v lt = omega (arith, count-set xs i v (omega arith))

count-remove : (xs : List (Option ℕ)) (i : ℕ) → i < length xs → how_many (remove xs i) + weight (age_of xs i) ≡ how_many xs
count-remove [] i lt = absurd (omega arith)
count-remove (None ∷ xs) zero lt = omega arith
count-remove (Some a ∷ xs) zero lt = omega arith
count-remove (None ∷ xs) (suc i) lt = omega (arith, count-remove xs i (omega arith))
count-remove (Some a ∷ xs) (suc i) lt = omega (arith, count-remove xs i (omega arith))

count-free : (xs : List (Option ℕ)) (k : ℕ) → how_many (xs ++ replicate k None) ≡ how_many xs
count-free [] zero = refl
count-free [] (suc k) = count-free [] k
count-free (None ∷ xs) k = count-free xs k
count-free (Some a ∷ xs) k = omega (arith, count-free xs k)

age-free : (xs : List (Option ℕ)) (k s : ℕ) → age_of (xs ++ replicate k None) s ≡ age_of xs s
age-free [] zero s = refl
age-free [] (suc k) zero = refl
age-free [] (suc k) (suc s) = age-free [] k s
age-free (x ∷ xs) k zero = refl
age-free (x ∷ xs) k (suc s) = age-free xs k s

-- the age of one request changes
pub queue-set : {ages held : List (Option ℕ)} {slots : List ℕ} (i : ℕ) (v : Option ℕ) → IsQueue ages slots held → i < length ages → IsQueue (set ages i v) slots (set held (get_or slots i 0) v)
queue-set {ages} {held} {slots} i v h lt =
    let slot = get_or slots i 0 in
    let wide : i < length slots = omega (arith, h.few) in
    let there : slot < length held = omega (arith, h.reserved i wide, h.full) in
    record {
      few = omega (arith, length-set ages i v, h.few);
      full = omega (arith, length-set held slot v, h.full);
      reserved = h.reserved;
      apart = h.apart;
      linked = λ k l. elim (cases_eq k i) [
        | inl e ↦ ap (λ n. age_of (set held slot v) (get_or slots n 0)) e ∙ get_or-set_same held slot v None there ∙ sym (get_or-set_same ages i v None lt) ∙ ap (age_of (set ages i v)) (sym e)
        | inr ne ↦ get_or-set_other held slot (get_or slots k 0) v None (λ e. ne (h.apart k i l wide e)) ∙ h.linked k l ∙ sym (get_or-set_other ages i k v None ne)
      ];
      found = λ s a e. elim (cases_eq s slot) [
        | inl same ↦ (i, wide, sym same)
        | inr ne ↦ h.found s a (sym (get_or-set_other held slot s v None ne) ∙ e)
      ];
      counted = omega (arith, count-set held slot v there, count-set ages i v lt, h.counted, ap weight (h.linked i wide));
    }

-- ---- the slot of a request that ends goes to the end ----

-- where each slot stood before
record Source (ages : List (Option ℕ)) (slots : List ℕ) (i k : ℕ) (m : ℕ) : Type 0 where
  m_in : m < length slots
  same : get_or (remove slots i ++ get_or slots i 0 ∷ []) k 0 ≡ get_or slots m 0
  age : age_of (remove ages i) k ≡ age_of ages m
  where_ : ((k < i) × (m ≡ k)) ⊎ (((i ≤ k) × (k + 1 < length slots) × (m ≡ k + 1)) ⊎ ((k + 1 ≡ length slots) × (m ≡ i)))

source : {ages held : List (Option ℕ)} {slots : List ℕ} (i k : ℕ) → IsQueue ages slots held → i < length ages → age_of ages i ≡ None → k < length slots → (m : ℕ) × Source ages slots i k m
source {ages} {held} {slots} i k h lt free l =
    let wide : i < length slots = omega (arith, h.few) in
    let rest = remove slots i in
    let last = get_or slots i 0 in
    let len = length-remove slots i wide in
    elim (cases_lt k i) [
      | inl below ↦ (
        k,
        record {
          m_in = l;
          same = get_or_append_left rest (last ∷ []) 0 k (omega (arith, len)) ∙ get_or-remove_below slots i 0 k below wide;
          age = get_or-remove_below ages i None k below lt;
          where_ = inl (below, refl);
        },
      )
      | inr above ↦ elim (cases_lt (k + 1) (length slots)) [
        | inl inner ↦ (
          k + 1,
          record {
            m_in = inner;
            same = get_or_append_left rest (last ∷ []) 0 k (omega (arith, len)) ∙ get_or-remove_above slots i 0 k above wide;
            age = get_or-remove_above ages i None k above lt;
            where_ = inr (inl (above, inner, refl));
          },
        )
        | inr end ↦ (
          i,
          record {
            m_in = wide;
            same = get_or_push rest last 0 k (omega (arith, len));
            age = get_or-remove_above ages i None k above lt ∙ get_or_past ages (k + 1) None (omega (arith, h.few)) ∙ sym free;
            where_ = inr (inr (omega arith, refl));
          },
        )
      ]
    ]

-- where it stands now
target : (n i m : ℕ) → i < n → m < n → (k : ℕ) × (k < n) × (((k < i) × (m ≡ k)) ⊎ (((i ≤ k) × (k + 1 < n) × (m ≡ k + 1)) ⊎ ((k + 1 ≡ n) × (m ≡ i))))
target n i m li lm = elim (cases_lt m i) [
  | inl below ↦ (m, lm, inl (below, refl))
  | inr above ↦ elim (cases_eq m i) [
    | inl e ↦ (n - 1, omega arith, inr (inr (omega arith, e)))
    | inr ne ↦ (m - 1, omega arith, inr (inl (omega arith, omega arith, omega arith)))
  ]
]

same-source : (n i k l a b : ℕ) → a ≡ b
    → ((k < i) × (a ≡ k)) ⊎ (((i ≤ k) × (k + 1 < n) × (a ≡ k + 1)) ⊎ ((k + 1 ≡ n) × (a ≡ i)))
    → ((l < i) × (b ≡ l)) ⊎ (((i ≤ l) × (l + 1 < n) × (b ≡ l + 1)) ⊎ ((l + 1 ≡ n) × (b ≡ i))) → k ≡ l
same-source n i k l a b e (inl p) (inl q) = omega arith
same-source n i k l a b e (inl p) (inr (inl q)) = omega arith
same-source n i k l a b e (inl p) (inr (inr q)) = omega arith
same-source n i k l a b e (inr (inl p)) (inl q) = omega arith
same-source n i k l a b e (inr (inl p)) (inr (inl q)) = omega arith
same-source n i k l a b e (inr (inl p)) (inr (inr q)) = omega arith
same-source n i k l a b e (inr (inr p)) (inl q) = omega arith
same-source n i k l a b e (inr (inr p)) (inr (inl q)) = omega arith
same-source n i k l a b e (inr (inr p)) (inr (inr q)) = omega arith

same-target : (n i k m w : ℕ)
    → ((k < i) × (m ≡ k)) ⊎ (((i ≤ k) × (k + 1 < n) × (m ≡ k + 1)) ⊎ ((k + 1 ≡ n) × (m ≡ i)))
    → ((k < i) × (w ≡ k)) ⊎ (((i ≤ k) × (k + 1 < n) × (w ≡ k + 1)) ⊎ ((k + 1 ≡ n) × (w ≡ i))) → i < n → m ≡ w
same-target n i k m w (inl p) (inl q) lt = omega arith
same-target n i k m w (inl p) (inr (inl q)) lt = omega arith
same-target n i k m w (inl p) (inr (inr q)) lt = omega arith
same-target n i k m w (inr (inl p)) (inl q) lt = omega arith
same-target n i k m w (inr (inl p)) (inr (inl q)) lt = omega arith
same-target n i k m w (inr (inl p)) (inr (inr q)) lt = omega arith
same-target n i k m w (inr (inr p)) (inl q) lt = omega arith
same-target n i k m w (inr (inr p)) (inr (inl q)) lt = omega arith
same-target n i k m w (inr (inr p)) (inr (inr q)) lt = omega arith

queue-rotated : {ages held : List (Option ℕ)} {slots : List ℕ} (i : ℕ) → IsQueue ages slots held → i < length ages → age_of ages i ≡ None → IsQueue (remove ages i) (remove slots i ++ get_or slots i 0 ∷ []) held
queue-rotated {ages} {held} {slots} i h lt free =
    let wide : i < length slots = omega (arith, h.few) in
    let last = get_or slots i 0 in
    let new = remove slots i ++ last ∷ [] in
    let len : length new ≡ length slots = omega (arith, length_push (remove slots i) last, length-remove slots i wide) in
    let from = λ (k : ℕ) (l : k < length new). source i k h lt free (omega (arith, len)) in
    record {
      few = omega (arith, len, length-remove ages i lt, h.few);
      full = omega (arith, len, h.full);
      reserved = λ k l. let m = from k l in omega (arith, m.1.same, h.reserved m.0 m.1.m_in, len);
      apart = λ k j lk lj e.
          let a = from k lk in
          let b = from j lj in
          same-source (length slots) i k j a.0 b.0 (h.apart a.0 b.0 a.1.m_in b.1.m_in (sym a.1.same ∙ e ∙ b.1.same)) a.1.where_ b.1.where_;
      linked = λ k l. let m = from k l in ap (age_of held) m.1.same ∙ h.linked m.0 m.1.m_in ∙ sym m.1.age;
      found = λ s a e.
          let f = h.found s a e in
          let t = target (length slots) i f.0 wide f.1 in
          let l : t.0 < length new = omega (arith, t.1, len) in
          let m = from t.0 l in
          let same = same-target (length slots) i t.0 m.0 f.0 m.1.where_ t.2 wide in
          (t.0, l, m.1.same ∙ ap (λ n. get_or slots n 0) same ∙ f.2);
      counted = omega (arith, h.counted, count-remove ages i lt, ap weight free);
    }

-- a request ends, and its slot is free
pub queue-removed : {ages held : List (Option ℕ)} {slots : List ℕ} (i : ℕ) → IsQueue ages slots held → i < length ages → IsQueue (remove ages i) (remove slots i ++ get_or slots i 0 ∷ []) (set held (get_or slots i 0) None)
queue-removed {ages} {held} {slots} i h lt =
    let none = queue-set i None h lt in
    let wide : i < length (set ages i None) = omega (arith, length-set ages i (let n : Option ℕ = None in n)) in
    let same : remove (set ages i None) i ≡ remove ages i = ap (λ xs. xs ++ drop (suc i) (set ages i None)) (take-set ages i None) ∙ ap (λ xs. take i ages ++ xs) (drop-set-lt (suc i) ages i None (omega arith)) in
    subst (λ xs. IsQueue xs (remove slots i ++ get_or slots i 0 ∷ []) (set held (get_or slots i 0) None)) same (queue-rotated i none wide (get_or-set_same ages i None None lt))

-- ---- more slots and more requests ----

pub queue-more : {ages held : List (Option ℕ)} {slots : List ℕ} (k : ℕ) → IsQueue ages slots held → IsQueue ages slots (held ++ replicate k None)
queue-more {ages} {held} {slots} k h = record {
  few = h.few;
  full = omega (arith, length-append held (replicate k (let n : Option ℕ = None in n)), h.full);
  reserved = h.reserved;
  apart = h.apart;
  linked = λ i l. age-free held k (get_or slots i 0) ∙ h.linked i l;
  found = λ s a e. h.found s a (sym (age-free held k s) ∙ e);
  counted = count-free held k ∙ h.counted;
}

pub queue-slot : {ages held : List (Option ℕ)} {slots : List ℕ} → IsQueue ages slots held → length slots < length held → IsQueue ages (slots ++ length slots ∷ []) held
queue-slot {ages} {held} {slots} h room =
    let n = length slots in
    let new = slots ++ n ∷ [] in
    let len = length_push slots n in
    let last : get_or new n 0 ≡ n = get_or_push slots n 0 n refl in
    let kept = λ (k : ℕ) (l : k < n). get_or_append_left slots (n ∷ []) 0 k l in
    let ends = λ (k : ℕ) (l : k < length new) (above : n ≤ k). let e : k ≡ n = omega (arith, len) in e in
    record {
      few = omega (arith, len, h.few);
      full = omega (arith, len);
      reserved = λ k l. elim (cases_lt k n) [
        | inl below ↦ omega (arith, kept k below, h.reserved k below, len)
        | inr above ↦ omega (arith, ap (λ x. get_or new x 0) (ends k l above), last, len)
      ];
      apart = λ k j lk lj e. elim (cases_lt k n) [
        | inl kb ↦ elim (cases_lt j n) [
          | inl jb ↦ h.apart k j kb jb (sym (kept k kb) ∙ e ∙ kept j jb)
          | inr ja ↦ absurd (omega (arith, kept k kb, h.reserved k kb, e, ap (λ x. get_or new x 0) (ends j lj ja), last))
        ]
        | inr ka ↦ elim (cases_lt j n) [
          | inl jb ↦ absurd (omega (arith, kept j jb, h.reserved j jb, e, ap (λ x. get_or new x 0) (ends k lk ka), last))
          | inr ja ↦ omega (arith, ends k lk ka, ends j lj ja)
        ]
      ];
      linked = λ k l. elim (cases_lt k n) [
        | inl below ↦ ap (age_of held) (kept k below) ∙ h.linked k below
        | inr above ↦
            let e = ends k l above in
            ap (age_of held) (ap (λ x. get_or new x 0) e ∙ last) ∙ free h ∙ sym (get_or_past ages k None (omega (arith, e, h.few)))
      ];
      found = λ s a e. let f = h.found s a e in (f.0, omega (arith, f.1, len), kept f.0 f.1 ∙ f.2);
      counted = h.counted;
    }
  where
    free : IsQueue ages slots held → age_of held (length slots) ≡ None
    free q = by_age (age_of held (length slots)) refl
      where
        by_age : (o : Option ℕ) → age_of held (length slots) ≡ o → o ≡ None
        by_age None e = refl
        by_age (Some a) e = let f = q.found (length slots) a e in absurd (omega (arith, q.reserved f.0 f.1, f.2))

-- a request that doesn't wait
pub queue-pushed : {ages held : List (Option ℕ)} {slots : List ℕ} → IsQueue ages slots held → length ages < length slots → IsQueue (ages ++ None ∷ []) slots held
queue-pushed {ages} {held} {slots} h room = record {
  few = omega (arith, length_push ages (let n : Option ℕ = None in n), room);
  full = h.full;
  reserved = h.reserved;
  apart = h.apart;
  linked = λ i l. h.linked i l ∙ sym (age-free ages 1 i);
  found = h.found;
  counted = h.counted ∙ sym (count-free ages 1);
}

-- ---- the last slot comes in front of others that are free ----

-- where each slot stood before, and where it stands now
record Turn (ages : List (Option ℕ)) (old new : List ℕ) (a k : ℕ) : Type 0 where
  m : ℕ
  m_in : m < length old
  same : get_or new k 0 ≡ get_or old m 0
  age : age_of ages k ≡ age_of ages m
  where_ : ((k < a) × (m ≡ k)) ⊎ (((k ≡ a) × (m + 1 ≡ length old)) ⊎ ((a < k) × (k ≡ m + 1)))

turn : (ages : List (Option ℕ)) (xs ys : List ℕ) (s k : ℕ) → length ages ≤ length xs → k < length xs + length ys + 1 → Turn ages (xs ++ (ys ++ s ∷ [])) ((xs ++ s ∷ []) ++ ys) (length xs) k
turn ages xs ys s k few l =
    let a = length xs in
    let n = length ys in
    let long : length (xs ++ (ys ++ s ∷ [])) ≡ a + n + 1 = omega (arith, length-append xs (ys ++ s ∷ []), length_push ys s) in
    let front = length_push xs s in
    elim (cases_lt k a) [
      | inl below ↦ record {
        m = k;
        m_in = omega (arith, long);
        same = get_or_append_left (xs ++ s ∷ []) ys 0 k (omega (arith, front)) ∙ get_or_append_left xs (s ∷ []) 0 k below ∙ sym (get_or_append_left xs (ys ++ s ∷ []) 0 k below);
        age = refl;
        where_ = inl (below, refl);
      }
      | inr above ↦ elim (cases_eq k a) [
        | inl e ↦ record {
          m = a + n;
          m_in = omega (arith, long);
          same = get_or_append_left (xs ++ s ∷ []) ys 0 k (omega (arith, front)) ∙ get_or_push xs s 0 k (sym e) ∙ sym (get_or-append-add xs (ys ++ s ∷ []) n 0 ∙ get_or_push ys s 0 n refl);
          age = get_or_past ages k None (omega (arith, few)) ∙ sym (get_or_past ages (a + n) None (omega (arith, few)));
          where_ = inr (inl (e, omega (arith, long)));
        }
        | inr ne ↦
            let j = k - (a + 1) in
            let here : k ≡ length (xs ++ s ∷ []) + j = omega (arith, front) in
            let there : k - 1 ≡ a + j = omega arith in
            record {
              m = k - 1;
              m_in = omega (arith, long);
              same = ap (λ i. get_or ((xs ++ s ∷ []) ++ ys) i 0) here ∙ get_or-append-add (xs ++ s ∷ []) ys j 0
                  ∙ sym (ap (λ i. get_or (xs ++ (ys ++ s ∷ [])) i 0) there ∙ get_or-append-add xs (ys ++ s ∷ []) j 0 ∙ get_or_append_left ys (s ∷ []) 0 j (omega arith));
              age = get_or_past ages k None (omega (arith, few)) ∙ sym (get_or_past ages (k - 1) None (omega (arith, few)));
              where_ = inr (inr (omega arith, omega arith));
            }
      ]
    ]

turned-from : (a n m : ℕ) → m < n → a < n → (k : ℕ) × (k < n) × (((k < a) × (m ≡ k)) ⊎ (((k ≡ a) × (m + 1 ≡ n)) ⊎ ((a < k) × (k ≡ m + 1))))
turned-from a n m l la = elim (cases_lt m a) [
  | inl below ↦ (m, l, inl (below, refl))
  | inr above ↦ elim (cases_eq (m + 1) n) [
    | inl e ↦ (a, la, inr (inl (refl, e)))
    | inr ne ↦ (m + 1, omega arith, inr (inr (omega arith, refl)))
  ]
]

turned-once : (a n k l p q : ℕ) → p ≡ q → p < n → q < n
    → ((k < a) × (p ≡ k)) ⊎ (((k ≡ a) × (p + 1 ≡ n)) ⊎ ((a < k) × (k ≡ p + 1)))
    → ((l < a) × (q ≡ l)) ⊎ (((l ≡ a) × (q + 1 ≡ n)) ⊎ ((a < l) × (l ≡ q + 1))) → k < n → l < n → k ≡ l
turned-once a n k l p q e lp lq (inl x) (inl y) lk ll = omega arith
turned-once a n k l p q e lp lq (inl x) (inr (inl y)) lk ll = omega arith
turned-once a n k l p q e lp lq (inl x) (inr (inr y)) lk ll = omega arith
turned-once a n k l p q e lp lq (inr (inl x)) (inl y) lk ll = omega arith
turned-once a n k l p q e lp lq (inr (inl x)) (inr (inl y)) lk ll = omega arith
turned-once a n k l p q e lp lq (inr (inl x)) (inr (inr y)) lk ll = omega arith
turned-once a n k l p q e lp lq (inr (inr x)) (inl y) lk ll = omega arith
turned-once a n k l p q e lp lq (inr (inr x)) (inr (inl y)) lk ll = omega arith
turned-once a n k l p q e lp lq (inr (inr x)) (inr (inr y)) lk ll = omega arith

turned-back : (a n k p q : ℕ) → k < n
    → ((k < a) × (p ≡ k)) ⊎ (((k ≡ a) × (p + 1 ≡ n)) ⊎ ((a < k) × (k ≡ p + 1)))
    → ((k < a) × (q ≡ k)) ⊎ (((k ≡ a) × (q + 1 ≡ n)) ⊎ ((a < k) × (k ≡ q + 1))) → p ≡ q
turned-back a n k p q l (inl x) (inl y) = omega arith
turned-back a n k p q l (inl x) (inr (inl y)) = omega arith
turned-back a n k p q l (inl x) (inr (inr y)) = omega arith
turned-back a n k p q l (inr (inl x)) (inl y) = omega arith
turned-back a n k p q l (inr (inl x)) (inr (inl y)) = omega arith
turned-back a n k p q l (inr (inl x)) (inr (inr y)) = omega arith
turned-back a n k p q l (inr (inr x)) (inl y) = omega arith
turned-back a n k p q l (inr (inr x)) (inr (inl y)) = omega arith
turned-back a n k p q l (inr (inr x)) (inr (inr y)) = omega arith

pub queue-turned : {ages held : List (Option ℕ)} (xs ys : List ℕ) (s : ℕ) → IsQueue ages (xs ++ (ys ++ s ∷ [])) held → length ages ≤ length xs → IsQueue ages ((xs ++ s ∷ []) ++ ys) held
queue-turned {ages} {held} xs ys s h few =
    let a = length xs in
    let old = xs ++ (ys ++ s ∷ []) in
    let new = (xs ++ s ∷ []) ++ ys in
    let n = a + length ys + 1 in
    let long : length old ≡ n = omega (arith, length-append xs (ys ++ s ∷ []), length_push ys s) in
    let len : length new ≡ n = omega (arith, length-append (xs ++ s ∷ []) ys, length_push xs s) in
    let from = λ (k : ℕ) (l : k < length new). turn ages xs ys s k few (omega (arith, len)) in
    record {
      few = omega (arith, len, few);
      full = omega (arith, len, long, h.full);
      reserved = λ k l. let t = from k l in omega (arith, t.same, h.reserved t.m t.m_in, len, long);
      apart = λ k j lk lj e.
          let t = from k lk in
          let u = from j lj in
          turned-once a (length old) k j t.m u.m (h.apart t.m u.m t.m_in u.m_in (sym t.same ∙ e ∙ u.same)) t.m_in u.m_in t.where_ u.where_ (omega (arith, len, long)) (omega (arith, len, long));
      linked = λ k l. let t = from k l in ap (age_of held) t.same ∙ h.linked t.m t.m_in ∙ sym t.age;
      found = λ slot age e.
          let f = h.found slot age e in
          let b = turned-from a (length old) f.0 f.1 (omega (arith, long)) in
          let l : b.0 < length new = omega (arith, b.1, len, long) in
          let t = from b.0 l in
          let same = turned-back a (length old) b.0 t.m f.0 b.1 t.where_ b.2 in
          (b.0, l, t.same ∙ ap (λ i. get_or old i 0) same ∙ f.2);
      counted = h.counted;
    }
