-- The live requests with their queue: what a request that changes, ends or comes leaves.
use Rattle.std.proofs.Common.{◌≡◌, ℕ, ◌+◌, ◌^◌, ◌<◌, ◌≤◌, ◌++◌, Bool, true, false, cond, Option, Some, None, List, [], ◌∷◌, length, get_or, set, take, drop, map, zero, suc, refl, sym, ap, ◌∙◌, subst, arith, inl, inr}
use Rattle.std.specs.Prelude.{remove}
use Rattle.std.proofs.lemmas.Bool.{cases_eq, cases_lt}
use Rattle.std.proofs.lemmas.List.{length-map, get_or_read, map-set, map-append, take-map, drop-map}
use Rattle.my_pool_parts.specs.Ages.{age_of, how_many as how_many_held}
use Rattle.my_pool_parts.specs.declared.request.Request.{Request}
use Rattle.my_pool_parts.specs.Lists.{how_many}
use Rattle.my_pool_parts.specs.Requests.{asking, is_waiting, is_dialing, is_queued, IsRising}
use Rattle.my_pool_parts.specs.Live.{age_if, IsQueue, IsLive}
use Rattle.my_pool_parts.proofs.Finding.{one, count-le-length, count-push}
use Rattle.my_pool_parts.proofs.Finding.Rising.{rising-lower}
use Rattle.my_pool_parts.proofs.Queue.{queue-set, queue-removed, queue-pushed}

-- ---- counts at a place ----

count-at : (p : Request → Bool) (rs : List Request) (i : ℕ) (d : Request) → i < length rs → one (p (get_or rs i d)) ≤ how_many p rs
count-at p [] i d lt = absurd (omega arith)
count-at p (r ∷ rs) zero d lt = omega arith
count-at p (r ∷ rs) (suc i) d lt = omega (arith, count-at p rs i d (omega arith))

count-set : (p : Request → Bool) (rs : List Request) (i : ℕ) (x d : Request) → i < length rs → how_many p (set rs i x) + one (p (get_or rs i d)) ≡ how_many p rs + one (p x)
count-set p [] i x d lt = absurd (omega arith)
count-set p (r ∷ rs) zero x d lt = omega arith
count-set p (r ∷ rs) (suc i) x d lt = omega (arith, count-set p rs i x d (omega arith))

count-remove : (p : Request → Bool) (rs : List Request) (i : ℕ) (d : Request) → i < length rs → how_many p (remove rs i) + one (p (get_or rs i d)) ≡ how_many p rs
count-remove p [] i d lt = absurd (omega arith)
count-remove p (r ∷ rs) zero d lt = omega arith
count-remove p (r ∷ rs) (suc i) d lt = omega (arith, count-remove p rs i d (omega arith))

-- ---- order ----

rising-low : (low : ℕ) (rs : List Request) (j : ℕ) (d : Request) → IsRising low rs → j < length rs → low ≤ (get_or rs j d).age
rising-low low [] j d h lt = absurd (omega arith)
rising-low low (r ∷ rs) zero d h lt = h.0
rising-low low (r ∷ rs) (suc j) d h lt = omega (arith, h.0, rising-low (r.age + 1) rs j d h.1 (omega arith))

rising-at : (low : ℕ) (rs : List Request) (i j : ℕ) (d : Request) → IsRising low rs → i < j → j < length rs → (get_or rs i d).age < (get_or rs j d).age
rising-at low [] i j d h lt within = absurd (omega arith)
rising-at low (r ∷ rs) i zero d h lt within = absurd (omega arith)
rising-at low (r ∷ rs) zero (suc j) d h lt within = omega (arith, rising-low (r.age + 1) rs j d h.1 (omega arith))
rising-at low (r ∷ rs) (suc i) (suc j) d h lt within = rising-at (r.age + 1) rs i j d h.1 (omega arith) (omega arith)

rising-set : (low : ℕ) (rs : List Request) (i : ℕ) (x d : Request) → i < length rs → x.age ≡ (get_or rs i d).age → IsRising low rs → IsRising low (set rs i x)
rising-set low [] i x d lt e h = absurd (omega arith)
rising-set low (r ∷ rs) zero x d lt e h = subst (λ a. (low ≤ a) × IsRising (a + 1) rs) (sym e) h
rising-set low (r ∷ rs) (suc i) x d lt e h = (h.0, rising-set (r.age + 1) rs i x d (omega arith) e h.1)

rising-remove : (low : ℕ) (rs : List Request) (i : ℕ) → i < length rs → IsRising low rs → IsRising low (remove rs i)
rising-remove low [] i lt h = absurd (omega arith)
rising-remove low (r ∷ rs) zero lt h = rising-lower (r.age + 1) low rs (omega (arith, h.0)) h.1
rising-remove low (r ∷ rs) (suc i) lt h = (h.0, rising-remove (r.age + 1) rs i (omega arith) h.1)

same-place : (rs : List Request) (i j : ℕ) (d : Request) → IsRising 0 rs → i < length rs → j < length rs → (get_or rs i d).age ≡ (get_or rs j d).age → i ≡ j
same-place rs i j d h li lj e = elim (cases_lt i j) [
  | inl lt ↦ absurd (omega (arith, e, rising-at 0 rs i j d h lt lj))
  | inr ge ↦ elim (cases_eq i j) [
    | inl same ↦ same
    | inr ne ↦ absurd (omega (arith, e, rising-at 0 rs j i d h (omega arith) li))
  ]
]

-- ---- ages of those that wait ----

pub record IsWaitingAt (rs : List Request) (i a : ℕ) (d : Request) : Type 0 where
  pub within : i < length rs
  pub waits : is_waiting (get_or rs i d) ≡ true
  pub age : (get_or rs i d).age ≡ a

pub waiting-at : (rs : List Request) (i a : ℕ) (d : Request) → age_of (map age_if rs) i ≡ Some a → IsWaitingAt rs i a d
waiting-at [] i a d e = absurd (cc)
waiting-at (r ∷ rs) zero a d e = elim (is_waiting r) as (λ b. is_waiting r ≡ b → cond b (Some r.age) None ≡ Some a → IsWaitingAt (r ∷ rs) zero a d) [
  | true ↦ λ w q. record { within = omega arith; waits = w; age = cc }
  | false ↦ λ w q. absurd (cc)
] refl e
waiting-at (r ∷ rs) (suc i) a d e = let h = waiting-at rs i a d e in record { within = omega (arith, h.within); waits = h.waits; age = h.age }

-- an age holds its own slot alone
pub live-alone : {rs : List Request} {slots : List ℕ} {held : List (Option ℕ)} {dialing queued : ℕ} (i age : ℕ) (d : Request) → IsLive rs slots held dialing queued → i < length rs → age ≡ (get_or rs i d).age → (s : ℕ) → age_of held s ≡ Some age → s ≡ get_or slots i 0
live-alone {rs} {slots} {held} {dialing} {queued} i age d h lt is s e =
    let f = h.queue.found s age e in
    let at = sym (h.queue.linked f.0 f.1) ∙ ap (age_of held) f.2 ∙ e in
    let w = waiting-at rs f.0 age d at in
    let same = same-place rs f.0 i d h.rising w.within lt (w.age ∙ is) in
    sym f.2 ∙ ap (λ n. get_or slots n 0) same

pub live-same : {rs : List Request} {slots : List ℕ} {held : List (Option ℕ)} {dialing queued : ℕ} (i : ℕ) (d : Request) → IsLive rs slots held dialing queued → i < length rs → (a : ℕ) → age_of held (get_or slots i 0) ≡ Some a → a ≡ (get_or rs i d).age
live-same {rs} {slots} {held} {dialing} {queued} i d h lt a e =
    let wide : i < length slots = omega (arith, h.queue.few, length-map rs age_if) in
    sym (waiting-at rs i a d (sym (h.queue.linked i wide) ∙ e)).age

pub live-slot : {rs : List Request} {slots : List ℕ} {held : List (Option ℕ)} {dialing queued : ℕ} (i : ℕ) → IsLive rs slots held dialing queued → i < length rs → (i < length slots) × (get_or slots i 0 < length held)
live-slot {rs} {slots} {held} {dialing} {queued} i h lt =
    let wide : i < length slots = omega (arith, h.queue.few, length-map rs age_if) in
    (wide, omega (arith, h.queue.reserved i wide, h.queue.full))

pub record IsRecount (old next : Bool) (count new : ℕ) : Type 0 where
  pub was : Bool
  pub is : Bool
  pub was_is : was ≡ old
  pub is_is : is ≡ next
  pub same : new + one was ≡ count + one is

recount : {old next : Bool} {count new : ℕ} → IsRecount old next count new → new + one old ≡ count + one next
recount {old} {next} {count} {new} r = omega (arith, r.same, ap one r.was_is, ap one r.is_is)

-- it was counted
pub live-counted : (p : Request → Bool) (rs : List Request) (i count : ℕ) (d old : Request) (was : Bool) → i < length rs → old ≡ get_or rs i d → was ≡ p old → count ≡ how_many p rs → one was ≤ count
live-counted p rs i count d old was lt e w c = omega (arith, count-at p rs i d lt, ap one (w ∙ ap p e), c)

pub live-few : (p : Request → Bool) (rs : List Request) (count limit : ℕ) → count ≡ how_many p rs → length rs < limit → count < limit
live-few p rs count limit c lt = omega (arith, c, count-le-length p rs)

-- the request at a place changes
pub live-set : {rs : List Request} {slots : List ℕ} {held after : List (Option ℕ)} {dialing queued dialing' queued' : ℕ} (i : ℕ) (next old d : Request) → IsLive rs slots held dialing queued → i < length rs → old ≡ get_or rs i d → next.age ≡ (get_or rs i d).age
    → after ≡ set held (get_or slots i 0) (age_if next) → IsRecount (is_dialing old) (is_dialing next) dialing dialing' → IsRecount (is_queued old) (is_queued next) queued queued' → IsLive (set rs i next) slots after dialing' queued'
live-set {rs} {slots} {held} {after} {dialing} {queued} {dialing'} {queued'} i next old d h lt is age e di qu =
    record {
      rising = rising-set 0 rs i next d lt age h.rising;
      dialing_counted = omega (arith, count-set is_dialing rs i next d lt, h.dialing_counted, recount di, ap (λ r. one (is_dialing r)) is);
      queued_counted = omega (arith, count-set is_queued rs i next d lt, h.queued_counted, recount qu, ap (λ r. one (is_queued r)) is);
      queue = subst (λ hs. IsQueue (map age_if (set rs i next)) slots hs) (sym e) (subst (λ ages. IsQueue ages slots (set held (get_or slots i 0) (age_if next))) (sym (map-set age_if rs i next)) (queue-set i (age_if next) h.queue (omega (arith, lt, length-map rs age_if))));
    }

map-remove : (rs : List Request) (i : ℕ) → map age_if (remove rs i) ≡ remove (map age_if rs) i
map-remove rs i = map-append age_if (take i rs) (drop (suc i) rs) ∙ ap (λ xs. xs ++ map age_if (drop (suc i) rs)) (sym (take-map age_if i rs)) ∙ ap (λ xs. take i (map age_if rs) ++ xs) (sym (drop-map age_if (suc i) rs))

-- the request at a place ends
pub live-removed : {rs : List Request} {slots : List ℕ} {held after : List (Option ℕ)} {dialing queued dialing' queued' : ℕ} (i : ℕ) (old d : Request) → IsLive rs slots held dialing queued → i < length rs → old ≡ get_or rs i d
    → after ≡ set held (get_or slots i 0) None → IsRecount (is_dialing old) false dialing dialing' → IsRecount (is_queued old) false queued queued' → IsLive (remove rs i) (remove slots i ++ get_or slots i 0 ∷ []) after dialing' queued'
live-removed {rs} {slots} {held} {after} {dialing} {queued} {dialing'} {queued'} i old d h lt is e di qu =
    let new = remove slots i ++ get_or slots i 0 ∷ [] in
    record {
      rising = rising-remove 0 rs i lt h.rising;
      dialing_counted = omega (arith, count-remove is_dialing rs i d lt, h.dialing_counted, recount di, ap (λ r. one (is_dialing r)) is);
      queued_counted = omega (arith, count-remove is_queued rs i d lt, h.queued_counted, recount qu, ap (λ r. one (is_queued r)) is);
      queue = subst (λ hs. IsQueue (map age_if (remove rs i)) new hs) (sym e) (subst (λ ages. IsQueue ages new (set held (get_or slots i 0) None)) (sym (map-remove rs i)) (queue-removed i h.queue (omega (arith, lt, length-map rs age_if))));
    }

-- a request comes
pub live-added : {rs : List Request} {slots : List ℕ} {held : List (Option ℕ)} {dialing queued : ℕ} (age : ℕ) → IsLive rs slots held dialing queued → length rs < length slots → IsRising 0 (rs ++ asking age ∷ []) → IsLive (rs ++ asking age ∷ []) slots held dialing queued
live-added {rs} {slots} {held} {dialing} {queued} age h room rising =
    record {
      rising = rising;
      dialing_counted = omega (arith, count-push is_dialing rs (asking age), h.dialing_counted);
      queued_counted = omega (arith, count-push is_queued rs (asking age), h.queued_counted);
      queue = subst (λ ages. IsQueue ages slots held) (sym (map-append age_if rs (asking age ∷ []))) (queue-pushed h.queue (omega (arith, room, length-map rs age_if)));
    }

pub live-queue : {rs : List Request} {slots fresh : List ℕ} {held after : List (Option ℕ)} {dialing queued : ℕ} → IsLive rs slots held dialing queued → IsQueue (map age_if rs) fresh after → IsLive rs fresh after dialing queued
live-queue {rs} {slots} {fresh} {held} {after} {dialing} {queued} h q = record { rising = h.rising; dialing_counted = h.dialing_counted; queued_counted = h.queued_counted; queue = q }

-- what was read at an index before a request changes there or ends
pub record IsReadAt (rs : List Request) (slots : List ℕ) (held : List (Option ℕ)) (i slot : ℕ) (old d : Request) : Type 0 where
  pub within : i < length rs
  pub old_is : old ≡ get_or rs i d
  pub slot_is : slot ≡ get_or slots i 0
  pub reserved : slot < length held
  pub alone : (s : ℕ) → age_of held s ≡ Some old.age → s ≡ slot
  pub same : (a : ℕ) → age_of held slot ≡ Some a → a ≡ old.age

pub read-at : {rs seen : List Request} {slots : List ℕ} {held : List (Option ℕ)} {dialing queued : ℕ} (i slot : ℕ) (old d : Request) → IsLive rs slots held dialing queued → rs ≡ seen → i < length seen → old ≡ get_or rs i old → slot ≡ get_or slots i slot → IsReadAt rs slots held i slot old d
read-at {rs} {seen} {slots} {held} {dialing} {queued} i slot old d h view lt eo es =
    let within : i < length rs = omega (arith, lt, ap length view) in
    let w = live-slot i h within in
    let o = get_or_read rs i old within eo d in
    let s = get_or_read slots i slot w.0 es 0 in
    let age = ap (λ (r : Request). r.age) o in
    record {
      within = within;
      old_is = o;
      slot_is = s;
      reserved = omega (arith, s, w.1);
      alone = λ t e. live-alone i old.age d h within age t e ∙ sym s;
      same = λ a e. live-same i d h within a (sym (ap (age_of held) s) ∙ e) ∙ sym age;
    }

-- no more wait than there are
pub held-few : {rs seen : List Request} {slots : List ℕ} {held : List (Option ℕ)} {dialing queued : ℕ} (d : ℕ) → IsLive rs slots held dialing queued → rs ≡ seen → length seen < 2 ^ d → how_many_held held < 2 ^ d
held-few {rs} {seen} {slots} {held} {dialing} {queued} d h view lt = omega (arith, ap length view, h.queue.counted, few rs)
  where
    few : (rs : List Request) → how_many_held (map age_if rs) ≤ length rs
    few [] = omega arith
    few (r ∷ rs) = elim (is_waiting r) as (λ b. how_many_held (cond b (Some r.age) None ∷ map age_if rs) ≤ length (r ∷ rs)) [ true ↦ omega (arith, few rs) | false ↦ omega (arith, few rs) ]

-- the same lists
pub live-as : {rs seen : List Request} {slots same : List ℕ} {held : List (Option ℕ)} {dialing queued : ℕ} → IsLive rs slots held dialing queued → rs ≡ seen → slots ≡ same → IsLive seen same held dialing queued
live-as {rs} {seen} {slots} {same} {held} {dialing} {queued} h e f = subst (λ ss. IsLive seen ss held dialing queued) f (subst (λ xs. IsLive xs slots held dialing queued) e h)
