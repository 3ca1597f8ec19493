-- The oldest waiting request is that of the heap's least age.
use Rattle.std.proofs.Common.{◌≡◌, ℕ, ◌+◌, ◌<◌, ◌≤◌, ◌++◌, Bool, true, false, cond, Option, Some, None, List, [], ◌∷◌, length, get_or, map, zero, suc, refl, sym, ap, ◌∙◌, subst, arith, inl, inr}
use Rattle.std.specs.Prelude.{find, option_map, MatchOption, nat_le, ◌||◌, ◌&&◌, ◌==◌, not, if◌then◌else◌}
use Rattle.std.specs.List.{list_any}
use Rattle.std.proofs.lemmas.Bool.{cases_eq, ne_eqb, eq-eqb, leb-false, lt-leb}
use Rattle.std.proofs.lemmas.List.{map-append}
use Rattle.my_pool_parts.specs.Ages.{age_of, IsLeast, how_many as how_many_held}
use Rattle.my_pool_parts.specs.declared.request.Request.{Request}
use Rattle.my_pool_parts.specs.declared.request.Standing.TheVariants.{Woken}
use Rattle.my_pool_parts.specs.Lists.{how_many, change_first}
use Rattle.my_pool_parts.specs.Requests.{last_age, asking, has_age, is_waiting, is_dialing, may_dial, standing_as, roused, wake, wake_all, waits_up_to, with_last, IsRising, oldest_in}
use Rattle.my_pool_parts.specs.Live.{age_if, IsLive}
use Rattle.my_pool_parts.proofs.Queue.{held-within}
use Rattle.my_pool_parts.proofs.Finding.{one}

pub count-waiting : (rs : List Request) → how_many_held (map age_if rs) ≡ how_many is_waiting rs
count-waiting [] = refl
count-waiting (r ∷ rs) = elim (is_waiting r) as (λ b. how_many_held (cond b (Some r.age) None ∷ map age_if rs) ≡ cond b 1 0 + how_many is_waiting rs) [ true ↦ omega (arith, count-waiting rs) | false ↦ omega (arith, count-waiting rs) ]

pub count-may-dial : (rs : List Request) → how_many may_dial rs + how_many is_dialing rs ≡ length rs
count-may-dial [] = refl
count-may-dial (r ∷ rs) = elim (is_dialing r) as (λ b. (cond (not b) 1 0 + how_many may_dial rs) + (cond b 1 0 + how_many is_dialing rs) ≡ length (r ∷ rs)) [ true ↦ omega (arith, count-may-dial rs) | false ↦ omega (arith, count-may-dial rs) ]

-- one that waits has this age, and none that waits is older
pub record IsOldest (rs : List Request) (a : ℕ) : Type 0 where
  pub place : ℕ
  pub there : age_of (map age_if rs) place ≡ Some a
  pub least : (j b : ℕ) → age_of (map age_if rs) j ≡ Some b → a ≤ b

same-some : (a b : ℕ) → ◌≡◌ {A = Option ℕ} (Some a) (Some b) → a ≡ b
same-some a b e = cc

pub oldest : {rs : List Request} {slots : List ℕ} {held : List (Option ℕ)} {dialing queued : ℕ} (slot a : ℕ) → IsLive rs slots held dialing queued → IsLeast held slot a → IsOldest rs a
oldest {rs} {slots} {held} {dialing} {queued} slot a h l =
    let f = h.queue.found slot a l.holds in
    record {
      place = f.0;
      there = sym (h.queue.linked f.0 f.1) ∙ ap (age_of held) f.2 ∙ l.holds;
      least = λ j b e.
          let wide : j < length slots = omega (arith, held-within (map age_if rs) j b e, h.queue.few) in
          let at = h.queue.linked j wide ∙ e in
          elim (cases_eq (get_or slots j 0) slot) [
            | inl same ↦ let k = same-some a b (sym l.holds ∙ ap (age_of held) (sym same) ∙ at) in omega (arith, k)
            | inr ne ↦ omega (arith, l.least (get_or slots j 0) b ne at)
          ];
    }

-- a later request isn't older
later : (low : ℕ) (rs : List Request) (j b : ℕ) → IsRising low rs → age_of (map age_if rs) j ≡ Some b → low ≤ b
later low [] j b h e = absurd (cc)
later low (r ∷ rs) zero b h e = elim (is_waiting r) as (λ w. cond w (Some r.age) None ≡ Some b → low ≤ b) [ true ↦ λ q. omega (arith, h.0, same-some r.age b q) | false ↦ λ q. absurd (cc) ] e
later low (r ∷ rs) (suc j) b h e = omega (arith, h.0, later (r.age + 1) rs j b h.1 e)

rest : (r : Request) (rs : List Request) (a place : ℕ) → age_of (map age_if (r ∷ rs)) (suc place) ≡ Some a → ((j b : ℕ) → age_of (map age_if (r ∷ rs)) j ≡ Some b → a ≤ b) → IsOldest rs a
rest r rs a place e least = record { place = place; there = e; least = λ j b q. least (suc j) b q }

-- the first that waits is the one of that age
pub wakes-oldest : (f : Request → Request) (low : ℕ) (rs : List Request) (a : ℕ) → IsRising low rs → IsOldest rs a → change_first is_waiting f rs ≡ change_first (has_age a) f rs
wakes-oldest f low rs a h o = by_place low rs o.place h o.there o.least
  where
    here : (r : Request) (rs : List Request) → r.age ≡ a → is_waiting r ≡ true → change_first is_waiting f (r ∷ rs) ≡ change_first (has_age a) f (r ∷ rs)
    here r rs e w = ap (λ b. cond b (f r ∷ rs) (r ∷ change_first is_waiting f rs)) w ∙ sym (ap (λ b. cond b (f r ∷ rs) (r ∷ change_first (has_age a) f rs)) (eq-eqb r.age a e))

    by_place : (low : ℕ) (rs : List Request) (place : ℕ) → IsRising low rs → age_of (map age_if rs) place ≡ Some a → ((j b : ℕ) → age_of (map age_if rs) j ≡ Some b → a ≤ b) → change_first is_waiting f rs ≡ change_first (has_age a) f rs
    by_place low [] place h e least = absurd (cc)
    by_place low (r ∷ rs) zero h e least = elim (is_waiting r) as (λ w. is_waiting r ≡ w → cond w (Some r.age) None ≡ Some a → change_first is_waiting f (r ∷ rs) ≡ change_first (has_age a) f (r ∷ rs)) [
      | true ↦ λ w q. here r rs (same-some r.age a q) w
      | false ↦ λ w q. absurd (cc)
    ] refl e
    by_place low (r ∷ rs) (suc place) h e least =
        let above = later (r.age + 1) rs place a h.1 e in
        let quiet = not-waiting r rs place above least in
        let other : (r.age == a) ≡ false = ne_eqb r.age a (λ q. absurd (omega (arith, above, q))) in
        ap (λ b. cond b (f r ∷ rs) (r ∷ change_first is_waiting f rs)) quiet ∙ ap (λ xs. r ∷ xs) (by_place (r.age + 1) rs place h.1 e (λ j b q. least (suc j) b q)) ∙ sym (ap (λ b. cond b (f r ∷ rs) (r ∷ change_first (has_age a) f rs)) other)
      where
        not-waiting : (r : Request) (rs : List Request) (place : ℕ) → r.age + 1 ≤ a → ((j b : ℕ) → age_of (map age_if (r ∷ rs)) j ≡ Some b → a ≤ b) → is_waiting r ≡ false
        not-waiting r rs place above least = elim (is_waiting r) as (λ w. is_waiting r ≡ w → w ≡ false) [
          | true ↦ λ w. absurd (omega (arith, above, least 0 r.age (ap (λ b. cond b (Some r.age) None) w)))
          | false ↦ λ w. refl
        ] refl

-- and it is the age of that one
pub oldest-age : (low : ℕ) (rs : List Request) (a : ℕ) → IsRising low rs → IsOldest rs a → oldest_in rs ≡ Some a
oldest-age low rs a h o = by_place low rs o.place h o.there o.least
  where
    split : (r : Request) (rs : List Request) → oldest_in (r ∷ rs) ≡ (if is_waiting r then Some r.age else oldest_in rs)
    split r rs = elim (is_waiting r) as (λ b. option_map (λ r. r.age) (cond b (Some r) (find is_waiting rs)) ≡ cond b (Some r.age) (oldest_in rs)) [ true ↦ refl | false ↦ refl ]

    by_place : (low : ℕ) (rs : List Request) (place : ℕ) → IsRising low rs → age_of (map age_if rs) place ≡ Some a → ((j b : ℕ) → age_of (map age_if rs) j ≡ Some b → a ≤ b) → oldest_in rs ≡ Some a
    by_place low [] place h e least = absurd (cc)
    by_place low (r ∷ rs) zero h e least = split r rs ∙ elim (is_waiting r) as (λ w. cond w (Some r.age) None ≡ Some a → cond w (Some r.age) (oldest_in rs) ≡ Some a) [
      | true ↦ λ q. q
      | false ↦ λ q. absurd (cc)
    ] e
    by_place low (r ∷ rs) (suc place) h e least =
        let above = later (r.age + 1) rs place a h.1 e in
        let rest = by_place (r.age + 1) rs place h.1 e (λ j b q. least (suc j) b q) in
        split r rs ∙ elim (is_waiting r) as (λ w. is_waiting r ≡ w → cond w (Some r.age) (oldest_in rs) ≡ Some a) [
          | true ↦ λ w. absurd (omega (arith, above, least 0 r.age (ap (λ b. cond b (Some r.age) None) w)))
          | false ↦ λ w. rest
        ] refl

-- ---- where none waits ----

none-here : (w : Bool) (n : ℕ) → one w + n ≡ 0 → (w ≡ false) × (n ≡ 0)
none-here true n e = absurd (omega arith)
none-here false n e = (refl, omega arith)

pub wakes-none : (f : Request → Request) (rs : List Request) → how_many is_waiting rs ≡ 0 → change_first is_waiting f rs ≡ rs
wakes-none f [] e = refl
wakes-none f (r ∷ rs) e =
    let n = none-here (is_waiting r) (how_many is_waiting rs) e in
    ap (λ b. cond b (f r ∷ rs) (r ∷ change_first is_waiting f rs)) n.0 ∙ ap (λ xs. r ∷ xs) (wakes-none f rs n.1)

pub oldest-none : (rs : List Request) → how_many is_waiting rs ≡ 0 → oldest_in rs ≡ None
oldest-none [] e = refl
oldest-none (r ∷ rs) e =
    let n = none-here (is_waiting r) (how_many is_waiting rs) e in
    ap (λ b. option_map (λ r. r.age) (cond b (Some r) (find is_waiting rs))) n.0 ∙ oldest-none rs n.1

pub oldest-as : {rs seen : List Request} {slots : List ℕ} {held : List (Option ℕ)} {dialing queued : ℕ} (o : Option ℕ) → IsLive rs slots held dialing queued → rs ≡ seen
    → MatchOption o (how_many_held held ≡ 0) (λ a. (slot : ℕ) × IsLeast held slot a) → o ≡ oldest_in seen
oldest-as {rs} {seen} None h same none = sym (oldest-none rs (sym (count-waiting rs) ∙ sym h.queue.counted ∙ none)) ∙ ap oldest_in same
oldest-as {rs} {seen} (Some a) h same l = sym (oldest-age 0 rs a h.rising (oldest l.0 a h l.1)) ∙ ap oldest_in same

pub waits-none : (age : ℕ) (rs : List Request) → how_many is_waiting rs ≡ 0 → waits_up_to age rs ≡ false
waits-none age [] e = refl
waits-none age (r ∷ rs) e =
    let n = none-here (is_waiting r) (how_many is_waiting rs) e in
    ap (λ b. (b && nat_le r.age age) || waits_up_to age rs) n.0 ∙ waits-none age rs n.1

pub all-awake : (rs : List Request) → how_many is_waiting rs ≡ 0 → wake_all rs ≡ rs
all-awake [] e = refl
all-awake (r ∷ rs) e =
    let n = none-here (is_waiting r) (how_many is_waiting rs) e in
    ap (λ b. cond b (standing_as Woken r) r ∷ map roused rs) n.0 ∙ ap (λ xs. r ∷ xs) (all-awake rs n.1)

-- ---- waking one after another ----

pub wake-fewer : (rs : List Request) → 0 < how_many is_waiting rs → how_many is_waiting (wake rs) < how_many is_waiting rs
wake-fewer [] lt = absurd (omega arith)
wake-fewer (r ∷ rs) lt = elim (is_waiting r) as (λ b. is_waiting r ≡ b → 0 < one b + how_many is_waiting rs → how_many is_waiting (cond b (standing_as Woken r ∷ rs) (r ∷ change_first is_waiting (standing_as Woken) rs)) < one b + how_many is_waiting rs) [
  | true ↦ λ w l. omega arith
  | false ↦ λ w l. omega (arith, ap one w, wake-fewer rs (omega arith))
] refl lt

pub wake-all-wake : (rs : List Request) → wake_all (wake rs) ≡ wake_all rs
wake-all-wake [] = refl
wake-all-wake (r ∷ rs) = elim (is_waiting r) as (λ b. is_waiting r ≡ b → wake_all (cond b (standing_as Woken r ∷ rs) (r ∷ change_first is_waiting (standing_as Woken) rs)) ≡ cond b (standing_as Woken r) r ∷ map roused rs) [
  | true ↦ λ w. refl
  | false ↦ λ w. ap (λ b. cond b (standing_as Woken r) r ∷ wake_all (wake rs)) w ∙ ap (λ xs. r ∷ xs) (wake-all-wake rs)
] refl

-- ---- whether one waits up to an age ----

some-up-to : (age a : ℕ) (rs : List Request) (place : ℕ) → nat_le a age ≡ true → age_of (map age_if rs) place ≡ Some a → waits_up_to age rs ≡ true
some-up-to age a [] place le e = absurd (cc)
some-up-to age a (r ∷ rs) zero le e = elim (is_waiting r) as (λ w. cond w (Some r.age) None ≡ Some a → ((w && nat_le r.age age) || waits_up_to age rs) ≡ true) [
  | true ↦ λ q. ap (λ b. b || waits_up_to age rs) (ap (λ n. nat_le n age) (same-some r.age a q) ∙ le)
  | false ↦ λ q. absurd (cc)
] e
some-up-to age a (r ∷ rs) (suc place) le e = ap (λ b. (is_waiting r && nat_le r.age age) || b) (some-up-to age a rs place le e) ∙ or-true (is_waiting r && nat_le r.age age)
  where
    or-true : (b : Bool) → (b || true) ≡ true
    or-true true = refl
    or-true false = refl

none-up-to : (age a : ℕ) (rs : List Request) → nat_le a age ≡ false → ((j b : ℕ) → age_of (map age_if rs) j ≡ Some b → a ≤ b) → waits_up_to age rs ≡ false
none-up-to age a [] gt least = refl
none-up-to age a (r ∷ rs) gt least =
    ap (λ b. b || waits_up_to age rs) (first (is_waiting r) refl) ∙ none-up-to age a rs gt (λ j b e. least (suc j) b e)
  where
    first : (w : Bool) → is_waiting r ≡ w → (is_waiting r && nat_le r.age age) ≡ false
    first false e = ap (λ b. b && nat_le r.age age) e
    first true e =
        let le = least 0 r.age (ap (λ b. cond b (Some r.age) None) e) in
        ap (λ b. b && nat_le r.age age) e ∙ lt-leb r.age age (omega (arith, le, leb-false a age gt))

pub waits-oldest : (age a : ℕ) (rs : List Request) → IsOldest rs a → nat_le a age ≡ waits_up_to age rs
waits-oldest age a rs o = by_test (nat_le a age) refl
  where
    by_test : (b : Bool) → nat_le a age ≡ b → nat_le a age ≡ waits_up_to age rs
    by_test true e = e ∙ sym (some-up-to age a rs o.place e o.there)
    by_test false e = e ∙ sym (none-up-to age a rs e o.least)

-- ---- the last one ----

roused-age : (r : Request) → (roused r).age ≡ r.age
roused-age r = elim (is_waiting r) as (λ b. (cond b (standing_as Woken r) r).age ≡ r.age) [ true ↦ refl | false ↦ refl ]

last-awake : (rs : List Request) → list_any (has_age last_age) (wake_all rs) ≡ list_any (has_age last_age) rs
last-awake [] = refl
last-awake (r ∷ rs) = ap (λ a. (a == last_age) || list_any (has_age last_age) (wake_all rs)) (roused-age r) ∙ ap (λ b. (r.age == last_age) || b) (last-awake rs)

-- the last request comes before or after all are woken
pub wake-all-last : (rs : List Request) → wake_all (with_last rs) ≡ with_last (wake_all rs)
wake-all-last rs =
    elim (list_any (has_age last_age) rs) as (λ b. wake_all (cond b rs (rs ++ asking last_age ∷ [])) ≡ cond b (wake_all rs) (wake_all rs ++ asking last_age ∷ [])) [
      | true ↦ refl
      | false ↦ map-append roused rs (asking last_age ∷ [])
    ]
    ∙ ap (λ b. cond b (wake_all rs) (wake_all rs ++ asking last_age ∷ [])) (sym (last-awake rs))

-- who is woken keeps its age
pub rising-awake : (low : ℕ) (rs : List Request) → IsRising low (wake_all rs) → IsRising low rs
rising-awake low [] h = tt
rising-awake low (r ∷ rs) h =
    let k = subst (λ a. (low ≤ a) × IsRising (a + 1) (wake_all rs)) (roused-age r) h in
    (k.0, rising-awake (r.age + 1) rs k.1)
