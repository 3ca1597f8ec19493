-- Levels of a list: what is read, written, added or dropped in one of them is so in the list of all.
use Rattle.std.proofs.Common.{◌≡◌, ℕ, ◌+◌, ◌-◌, ◌*◌, ◌^◌, ◌<◌, ◌≤◌, List, [], ◌∷◌, ◌++◌, Vec, vec_capacity, length, get_or, set, take, zero, suc, refl, sym, ap, ◌∙◌, subst, arith, length-append, length-set, length-take, append-nil, append_assoc, pow-suc, mul_assoc, mul_left_comm, pow_mono, pow_pos, inl, inr}
use Rattle.std.proofs.lemmas.List.{get_or_append_left, get_or-append-add, set-append_left, take-append-le, length_push}
use Rattle.std.proofs.lemmas.Bool.{cases_lt}
use Rattle.my_pool_parts.specs.Row.{joined, IsFilled, room_of}

-- how many elements stand before a level, where the first one has room for `size`
abbrev pub start : ℕ → ℕ → ℕ
start size zero = 0
start size (suc k) = size + start (2 * size) k

double : (size k : ℕ) → size * 2 ^ suc k ≡ (2 * size) * 2 ^ k
double size k = ap (λ p. size * p) (omega (arith, pow-suc 2 k)) ∙ mul_left_comm size 2 (2 ^ k) ∙ sym (mul_assoc 2 size (2 ^ k))

pub start-is : (size k : ℕ) → start size k + size ≡ size * 2 ^ k
start-is size zero = omega arith
start-is size (suc k) = omega (arith, start-is (2 * size) k, double size k)

-- where an index is, by its level and what is left of it
pub start-at : (i k o : ℕ) → o + 2 ^ k ≡ i + 1 → start 1 k + o ≡ i
start-at i k o e = omega (arith, start-is 1 k)

set-past : {X : Type 0} (xs ys : List X) (i : ℕ) (v : X) → set (xs ++ ys) (length xs + i) v ≡ xs ++ set ys i v
set-past {X} [] ys i v = ap (λ k. set ys k v) (omega arith)
set-past {X} (x ∷ xs) ys i v = let at : length (x ∷ xs) + i ≡ suc (length xs + i) = omega arith in ap (λ k. set (x ∷ xs ++ ys) k v) at ∙ ap (λ zs. x ∷ zs) (set-past xs ys i v)

take-past : {X : Type 0} (xs ys : List X) (m : ℕ) → take (length xs + m) (xs ++ ys) ≡ xs ++ take m ys
take-past {X} [] ys m = ap (λ k. take k ys) (omega arith)
take-past {X} (x ∷ xs) ys m = let at : length (x ∷ xs) + m ≡ suc (length xs + m) = omega arith in ap (λ k. take k (x ∷ xs ++ ys)) at ∙ ap (λ zs. x ∷ zs) (take-past xs ys m)

module _ {X Z : Type 0} where
  pub joined-length : (ls : List (Vec X Z)) (size n : ℕ) → IsFilled size n ls → length (joined ls) ≡ n
  joined-length [] size n h = sym h
  joined-length (l ∷ ls) size n h = omega (arith, length-append l.items (joined ls), h.0, joined-length ls (2 * size) (n - size) h.1.1)

  -- there is room for the elements
  pub filled-fits : (ls : List (Vec X Z)) (size n : ℕ) → IsFilled size n ls → n ≤ start size (length ls)
  filled-fits [] size n h = omega arith
  filled-fits (l ∷ ls) size n h = omega (arith, filled-fits ls (2 * size) (n - size) h.1.1)

  nothing : (ls : List (Vec X Z)) (size : ℕ) → IsFilled size 0 ls → joined ls ≡ []
  nothing [] size h = refl
  nothing (l ∷ ls) size h = ap (λ xs. xs ++ joined ls) (empty l.items (omega arith)) ∙ nothing ls (2 * size) (subst (λ n. IsFilled (2 * size) n ls) (omega arith) h.1.1)
    where
      empty : (xs : List X) → length xs ≡ 0 → xs ≡ []
      empty [] e = refl
      empty (x ∷ xs) e = absurd (omega arith)

  -- ---- what is read ----

  pub level-there : (ls : List (Vec X Z)) (size n k o : ℕ) → IsFilled size n ls → start size k + o < n → k < length ls
  level-there [] size n k o h lt = absurd (omega arith)
  level-there (l ∷ ls) size n zero o h lt = omega arith
  level-there (l ∷ ls) size n (suc k) o h lt = omega (arith, level-there ls (2 * size) (n - size) k o h.1.1 (omega arith))

  pub offset-there : (ls : List (Vec X Z)) (size n k o : ℕ) (l : Vec X Z) → IsFilled size n ls → start size k + o < n → o < size * 2 ^ k → l ≡ get_or ls k l → o < length l.items
  offset-there [] size n k o l h lt within e = absurd (omega arith)
  offset-there (x ∷ ls) size n zero o l h lt within e = omega (arith, h.0, ap (λ (v : Vec X Z). length v.items) e)
  offset-there (x ∷ ls) size n (suc k) o l h lt within e = offset-there ls (2 * size) (n - size) k o l h.1.1 (omega arith) (omega (arith, double size k)) e

  pub read-there : (ls : List (Vec X Z)) (size n k o : ℕ) (l : Vec X Z) (d : X) → IsFilled size n ls → start size k + o < n → o < size * 2 ^ k → l ≡ get_or ls k l → get_or (joined ls) (start size k + o) d ≡ get_or l.items o d
  read-there [] size n k o l d h lt within e = absurd (omega arith)
  read-there (x ∷ ls) size n zero o l d h lt within e =
      let at : start size zero + o ≡ o = omega arith in
      ap (λ i. get_or (x.items ++ joined ls) i d) at ∙ get_or_append_left x.items (joined ls) d o (omega (arith, h.0)) ∙ ap (λ (v : Vec X Z). get_or v.items o d) (sym e)
  read-there (x ∷ ls) size n (suc k) o l d h lt within e =
      let full : length x.items ≡ size = omega (arith, h.0) in
      let at : size + start (2 * size) k + o ≡ length x.items + (start (2 * size) k + o) = omega arith in
      ap (λ i. get_or (x.items ++ joined ls) i d) at ∙ get_or-append-add x.items (joined ls) (start (2 * size) k + o) d
      ∙ read-there ls (2 * size) (n - size) k o l d h.1.1 (omega arith) (omega (arith, double size k)) e

  -- ---- what is written ----

  pub written-filled : (ls : List (Vec X Z)) (size n k o : ℕ) (l new : Vec X Z) (v : X) → IsFilled size n ls → l ≡ get_or ls k l → new.items ≡ set l.items o v → vec_capacity l ≤ vec_capacity new → IsFilled size n (set ls k new)
  written-filled [] size n k o l new v h e same cap = h
  written-filled (x ∷ ls) size n zero o l new v h e same cap = (omega (arith, ap length same, length-set l.items o v, ap (λ (v : Vec X Z). length v.items) e, h.0), (omega (arith, h.1.0, ap (λ (v : Vec X Z). vec_capacity v) e), h.1.1))
  written-filled (x ∷ ls) size n (suc k) o l new v h e same cap = (h.0, (h.1.0, written-filled ls (2 * size) (n - size) k o l new v h.1.1 e same cap))

  pub written-joined : (ls : List (Vec X Z)) (size n k o : ℕ) (l new : Vec X Z) (v : X) → IsFilled size n ls → start size k + o < n → o < size * 2 ^ k → l ≡ get_or ls k l → new.items ≡ set l.items o v → joined (set ls k new) ≡ set (joined ls) (start size k + o) v
  written-joined [] size n k o l new v h lt within e same = absurd (omega arith)
  written-joined (x ∷ ls) size n zero o l new v h lt within e same =
      let at : start size zero + o ≡ o = omega arith in
      ap (λ xs. xs ++ joined ls) (same ∙ ap (λ (y : Vec X Z). set y.items o v) e) ∙ sym (ap (λ i. set (x.items ++ joined ls) i v) at ∙ set-append_left x.items (joined ls) o v (omega (arith, h.0)))
  written-joined (x ∷ ls) size n (suc k) o l new v h lt within e same =
      let full : length x.items ≡ size = omega (arith, h.0) in
      let at : size + start (2 * size) k + o ≡ length x.items + (start (2 * size) k + o) = omega arith in
      ap (λ ys. x.items ++ ys) (written-joined ls (2 * size) (n - size) k o l new v h.1.1 (omega arith) (omega (arith, double size k)) e same)
      ∙ sym (ap (λ i. set (x.items ++ joined ls) i v) at ∙ set-past x.items (joined ls) (start (2 * size) k + o) v)

  -- ---- what is added ----

  pub push-room : (ls : List (Vec X Z)) (size n k o : ℕ) (l : Vec X Z) → IsFilled size n ls → start size k + o ≡ n → o < size * 2 ^ k → k < length ls → l ≡ get_or ls k l → length l.items < vec_capacity l
  push-room [] size n k o l h at within lt e = absurd (omega arith)
  push-room (x ∷ ls) size n zero o l h at within lt e = omega (arith, h.0, h.1.0, ap (λ (v : Vec X Z). length v.items) e, ap (λ (v : Vec X Z). vec_capacity v) e)
  push-room (x ∷ ls) size n (suc k) o l h at within lt e = push-room ls (2 * size) (n - size) k o l h.1.1 (omega arith) (omega (arith, double size k)) (omega arith) e

  pub pushed-filled : (ls : List (Vec X Z)) (size n k o : ℕ) (l new : Vec X Z) (v : X) → IsFilled size n ls → start size k + o ≡ n → o < size * 2 ^ k → k < length ls → l ≡ get_or ls k l → new.items ≡ l.items ++ v ∷ [] → vec_capacity l ≤ vec_capacity new → IsFilled size (n + 1) (set ls k new)
  pushed-filled [] size n k o l new v h at within lt e same cap = absurd (omega arith)
  pushed-filled (x ∷ ls) size n zero o l new v h at within lt e same cap = (
    omega (arith, ap length same, length_push l.items v, ap (λ (v : Vec X Z). length v.items) e, h.0),
    (omega (arith, h.1.0, ap (λ (v : Vec X Z). vec_capacity v) e), subst (λ m. IsFilled (2 * size) m ls) (omega arith) h.1.1),
  )
  pushed-filled (x ∷ ls) size n (suc k) o l new v h at within lt e same cap = (
    omega (arith, h.0),
    (h.1.0, subst (λ m. IsFilled (2 * size) m (set ls k new)) (omega arith) (pushed-filled ls (2 * size) (n - size) k o l new v h.1.1 (omega arith) (omega (arith, double size k)) (omega arith) e same cap)),
  )

  pub pushed-joined : (ls : List (Vec X Z)) (size n k o : ℕ) (l new : Vec X Z) (v : X) → IsFilled size n ls → start size k + o ≡ n → o < size * 2 ^ k → k < length ls → l ≡ get_or ls k l → new.items ≡ l.items ++ v ∷ [] → joined (set ls k new) ≡ joined ls ++ v ∷ []
  pushed-joined [] size n k o l new v h at within lt e same = absurd (omega arith)
  pushed-joined (x ∷ ls) size n zero o l new v h at within lt e same =
      let rest = nothing ls (2 * size) (subst (λ m. IsFilled (2 * size) m ls) (omega arith) h.1.1) in
      ap (λ ys. new.items ++ ys) rest ∙ append-nil new.items ∙ same ∙ ap (λ (y : Vec X Z). y.items ++ v ∷ []) e
      ∙ sym (ap (λ xs. xs ++ v ∷ []) (ap (λ ys. x.items ++ ys) rest ∙ append-nil x.items))
  pushed-joined (x ∷ ls) size n (suc k) o l new v h at within lt e same =
      ap (λ ys. x.items ++ ys) (pushed-joined ls (2 * size) (n - size) k o l new v h.1.1 (omega arith) (omega (arith, double size k)) (omega arith) e same)
      ∙ sym (append_assoc x.items (joined ls) (v ∷ []))

  -- ---- what is dropped ----

  pub dropped-filled : (ls : List (Vec X Z)) (size n k o : ℕ) (l new : Vec X Z) → IsFilled size (n + 1) ls → start size k + o ≡ n → o < size * 2 ^ k → l ≡ get_or ls k l → new.items ≡ take (length l.items - 1) l.items → vec_capacity l ≤ vec_capacity new → IsFilled size n (set ls k new)
  dropped-filled [] size n k o l new h at within e same cap = absurd (omega arith)
  dropped-filled (x ∷ ls) size n zero o l new h at within e same cap = (
    omega (arith, ap length same, length-take (length l.items - 1) l.items, ap (λ (v : Vec X Z). length v.items) e, h.0),
    (omega (arith, h.1.0, ap (λ (v : Vec X Z). vec_capacity v) e), subst (λ m. IsFilled (2 * size) m ls) (omega arith) h.1.1),
  )
  dropped-filled (x ∷ ls) size n (suc k) o l new h at within e same cap = (
    omega (arith, h.0),
    (h.1.0, dropped-filled ls (2 * size) (n - size) k o l new (subst (λ m. IsFilled (2 * size) m ls) (omega arith) h.1.1) (omega arith) (omega (arith, double size k)) e same cap),
  )

  pub dropped-joined : (ls : List (Vec X Z)) (size n k o : ℕ) (l new : Vec X Z) → IsFilled size (n + 1) ls → start size k + o ≡ n → o < size * 2 ^ k → l ≡ get_or ls k l → new.items ≡ take (length l.items - 1) l.items → joined (set ls k new) ≡ take n (joined ls)
  dropped-joined [] size n k o l new h at within e same = absurd (omega arith)
  dropped-joined (x ∷ ls) size n zero o l new h at within e same =
      let rest = nothing ls (2 * size) (subst (λ m. IsFilled (2 * size) m ls) (omega arith) h.1.1) in
      let count : length l.items - 1 ≡ n = omega (arith, h.0, ap (λ (v : Vec X Z). length v.items) e) in
      ap (λ ys. new.items ++ ys) rest ∙ append-nil new.items ∙ same ∙ ap (λ m. take m l.items) count ∙ ap (λ (y : Vec X Z). take n y.items) e
      ∙ sym (take-append-le n x.items (joined ls) (omega (arith, h.0)))
  dropped-joined (x ∷ ls) size n (suc k) o l new h at within e same =
      let full : length x.items + (n - size) ≡ n = omega (arith, h.0) in
      ap (λ ys. x.items ++ ys) (dropped-joined ls (2 * size) (n - size) k o l new (subst (λ m. IsFilled (2 * size) m ls) (omega arith) h.1.1) (omega arith) (omega (arith, double size k)) e same)
      ∙ sym (take-past x.items (joined ls) (n - size)) ∙ ap (λ m. take m (x.items ++ joined ls)) full

  -- ---- one more level ----

  pub grown-filled : (ls : List (Vec X Z)) (size n : ℕ) (new : Vec X Z) → IsFilled size n ls → new.items ≡ [] → size * 2 ^ length ls ≤ vec_capacity new → IsFilled size n (ls ++ new ∷ [])
  grown-filled [] size n new h e cap = (omega (arith, ap length e), (omega arith, omega arith))
  grown-filled (l ∷ ls) size n new h e cap = (h.0, (h.1.0, grown-filled ls (2 * size) (n - size) new h.1.1 e (omega (arith, double size (length ls)))))

  pub grown-joined : (ls : List (Vec X Z)) (new : Vec X Z) → new.items ≡ [] → joined (ls ++ new ∷ []) ≡ joined ls
  grown-joined [] new e = append-nil new.items ∙ e
  grown-joined (l ∷ ls) new e = ap (λ ys. l.items ++ ys) (grown-joined ls new e)

-- a level that an index below the room is in is there
pub level-within : (i k count : ℕ) → i < room_of count → 2 ^ k ≤ i + 1 → k < count
level-within i k count lt low = elim (cases_lt k count) [
  | inl below ↦ below
  | inr above ↦ absurd (omega (arith, pow_mono above))
]

pub room-small : (count : ℕ) → count ≤ 63 → room_of count < 2 ^ 63
room-small count le = omega (arith, pow_mono le, pow_pos count)

-- the elements have room
pub filled-room : {X Z : Type 0} (ls : List (Vec X Z)) (n : ℕ) → IsFilled 1 n ls → n ≤ room_of (length ls)
filled-room ls n h = omega (arith, filled-fits ls 1 n h, start-is 1 (length ls))

-- what is known of the level and the offset of an index of an element
pub record Spotted {X Z : Type 0} (ls : List (Vec X Z)) (n i k o : ℕ) : Type 0 where
  pub at : start 1 k + o ≡ i
  pub before : start 1 k + o < n
  pub within : o < 1 * 2 ^ k
  pub there : k < length ls

pub spotted : {X Z : Type 0} (ls : List (Vec X Z)) (n i k o : ℕ) → IsFilled 1 n ls → i < n → o + 2 ^ k ≡ i + 1 → o < 2 ^ k → Spotted ls n i k o
spotted ls n i k o h lt whole within =
    let at = start-at i k o whole in
    record {
      at = at;
      before = omega (arith, at, lt);
      within = omega (arith, within);
      there = level-there ls 1 n k o h (omega (arith, at, lt));
    }

-- each index of an element is small
pub index-small : {X Z : Type 0} (ls : List (Vec X Z)) (n i : ℕ) → IsFilled 1 n ls → length ls ≤ 63 → i < n → i < 2 ^ 63
index-small ls n i h le lt = omega (arith, lt, filled-room ls n h, room-small (length ls) le)

-- there are not more levels than the size of one allows
pub few-levels : (count : ℕ) → 2 ^ count < 2 ^ 63 → count + 1 ≤ 63
few-levels count lt = elim (cases_lt count 63) [
  | inl below ↦ omega arith
  | inr above ↦ absurd (omega (arith, pow_mono above))
]

pub room-more : (count : ℕ) → room_of (count + 1) ≡ 2 * room_of count + 1
room-more count =
    let same : count + 1 ≡ suc count = omega arith in
    omega (arith, ap (λ k. 2 ^ k) same, pow-suc 2 count, pow_pos count)
