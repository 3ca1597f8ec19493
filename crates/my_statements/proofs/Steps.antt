-- What each call makes of the statements by number and of the index of their texts.
use Rattle.std.proofs.Common.{◌≡◌, ℕ, zero, suc, ◌-◌, ◌≤◌, ◌<◌, Bool, true, false, cond, Some, None, List, [], ◌∷◌, refl, sym, ap, ◌∙◌, length, arith, subst, map, nat_eq}
use Rattle.std.specs.Prelude.{take, slice_get, Option}
use Rattle.std.specs.Option.{is_some, option_map, option_map_or}
use Rattle.std.specs.List.{find, list_any}
use Rattle.std.specs.Map.{lookup, lookup_entry, remove_entry}
use Rattle.std.specs.HashMap.{HashMap, get}
use Rattle.std.specs.Cmp.{nat_eq_equiv}
use Rattle.std.specs.Cmp.Lexicographic.{bytes_decides}
use Rattle.lru.specs.LruCache.{LruCache, lru_cache, promoted, put_entries, displaced}
use Rattle.my_frame.specs.Lists.{without}
use Rattle.my_frame.proofs.Finding.{found-passes}
use Rattle.my_statements.specs.Cache.{Held, cached, has_query, has_id, in_front, with_first, last_of_full}
use Rattle.my_statements.specs.Indexed.{AreApart, Finds, IsIndexed, at_numbers, list_of}
use Rattle.my_statements.proofs.Numbered.{lookup-numbered, entry-numbered, remove-numbered, values-numbered, promoted-numbered, take-numbered}
use Rattle.my_statements.proofs.Apart.{same_text, text-symm, none-found, found-fails, apart-without, find-without, query-as-id, last-out, none-out, length-without, apart-in_front}

abbrev Texts : Type 0 → Type 0
Texts S = HashMap (List ℕ) ℕ S

pub indexed : {S : Type 0} (hs : List Held) (cap : ℕ) (ids : Texts S) (keeps : Bool) → AreApart hs → length hs ≤ cond keeps cap 0 → 0 < cap → Finds ids hs
    → IsIndexed (lru_cache (at_numbers hs) cap) ids keeps
indexed hs cap ids keeps a few some found =
    let same = values-numbered hs in
    record {
      numbered = ap at_numbers (sym same);
      apart = subst AreApart (sym same) a;
      few = subst (λ gs. length gs ≤ cond keeps cap 0) (sym same) few;
      some = some;
      found = subst (Finds ids) (sym same) found;
    }

-- the one of a number is found
pub found-at : (n : ℕ) (c : LruCache ℕ Held) → c.entries ≡ at_numbers (list_of c) → lookup (nat_eq n) c.entries ≡ find (has_id n) (list_of c)
found-at n c e = ap (lookup (nat_eq n)) e ∙ lookup-numbered n (list_of c)

pub popped : (n : ℕ) (c : LruCache ℕ Held) → c.entries ≡ at_numbers (list_of c) → lru_cache (remove_entry (nat_eq n) c.entries) c.cap ≡ lru_cache (at_numbers (without (has_id n) (list_of c))) c.cap
popped n c e = ap (λ es. lru_cache es c.cap) (ap (remove_entry (nat_eq n)) e ∙ remove-numbered n (list_of c))

-- the index without the text of the one that is taken out
pub finds-without : {S : Type 0} (n : ℕ) (hs : List Held) (h : Held) (ids new : Texts S) → AreApart hs → find (has_id n) hs ≡ Some h → Finds ids hs
    → ((q : List ℕ) → get same_text new q ≡ cond (same_text h.query q) None (get same_text ids q)) → Finds new (without (has_id n) hs)
finds-without n hs h ids new a e found is q =
    is q ∙ ap (λ o. cond (same_text h.query q) None o) (found q)
    ∙ (elim (same_text h.query q) as (λ b. cond b None (option_map (λ g. g.stmt.id) (find (has_query q) hs)) ≡ option_map (λ g. g.stmt.id) (cond b None (find (has_query q) hs))) [
      | true ↦ refl
      | false ↦ refl
    ])
    ∙ ap (option_map (λ g. g.stmt.id)) (sym (find-without n hs h a e q))

pub removed : {S : Type 0} (n : ℕ) (c : LruCache ℕ Held) (ids new : Texts S) (keeps : Bool) → IsIndexed c ids keeps → Finds new (without (has_id n) (list_of c))
    → IsIndexed (lru_cache (remove_entry (nat_eq n) c.entries) c.cap) new keeps
removed n c ids new keeps i found =
    rw (popped n c i.numbered)
    (indexed (without (has_id n) (list_of c)) c.cap new keeps (apart-without (has_id n) (list_of c) i.apart) (omega (arith, i.few, length-without (has_id n) (list_of c))) i.some found)

pub left-of : (n : ℕ) (c : LruCache ℕ Held) → c.entries ≡ at_numbers (list_of c) → list_of (lru_cache (remove_entry (nat_eq n) c.entries) c.cap) ≡ without (has_id n) (list_of c)
left-of n c e = ap list_of (popped n c e) ∙ values-numbered (without (has_id n) (list_of c))

-- Looking one up by its text.
pub front-same : (q : List ℕ) (hs : List Held) (h : Held) → AreApart hs → find (has_query q) hs ≡ Some h → in_front (has_id h.stmt.id) hs ≡ in_front (has_query q) hs
front-same q hs h a e =
    let by_id = query-as-id q hs h a e in
    rw e (rw by_id.0 (ap (λ gs. h ∷ gs) (sym by_id.1)))

pub length-out : (n : ℕ) (gs : List Held) (h : Held) → find (has_id n) gs ≡ Some h → suc (length (without (has_id n) gs)) ≤ length gs
length-out n [] h e = absurd (cc)
length-out n (g ∷ gs) h e =
    elim (has_id n g) as (λ b. cond b (Some g) (find (has_id n) gs) ≡ Some h → suc (length (cond b gs (g ∷ without (has_id n) gs))) ≤ suc (length gs)) [
      | true ↦ λ f. omega arith
      | false ↦ λ f. omega (arith, length-out n gs h f)
    ] e

pub length-front : (n : ℕ) (hs : List Held) → length (in_front (has_id n) hs) ≤ length hs
length-front n hs =
    elim (find (has_id n) hs) as (λ o. find (has_id n) hs ≡ o → length (option_map_or (λ h. h ∷ without (has_id n) hs) o hs) ≤ length hs) [
      | None ↦ λ e. omega arith
      | Some h ↦ λ e. length-out n hs h e
    ] refl

pub finds-front : {S : Type 0} (q : List ℕ) (hs : List Held) (h : Held) (ids : Texts S) → AreApart hs → find (has_query q) hs ≡ Some h → Finds ids hs → Finds ids (in_front (has_query q) hs)
finds-front q hs h ids a e found t =
    let by_id = query-as-id q hs h a e in
    found t ∙ ap (option_map (λ g. g.stmt.id)) (sym (rw e (rw by_id.1 (rw (find-without h.stmt.id hs h a by_id.0 t) (rw (text-symm h.query t)
    (elim (has_query t h) as (λ b. has_query t h ≡ b → cond b (Some h) (cond b None (find (has_query t) hs)) ≡ find (has_query t) hs) [
      | true ↦ λ k.
          let same : q ≡ t = (bytes_decides q h.query).0 (found-passes (has_query q) hs h e) ∙ sym ((bytes_decides t h.query).0 k) in
          sym e ∙ ap (λ u. find (has_query u) hs) same
      | false ↦ λ k. refl
    ] refl))))))

pub fetched-is : {S : Type 0} (q : List ℕ) (h : Held) (c : LruCache ℕ Held) (ids : Texts S) (keeps : Bool) → IsIndexed c ids keeps → find (has_query q) (list_of c) ≡ Some h
    → lru_cache (promoted (nat_eq h.stmt.id) c.entries) c.cap ≡ lru_cache (at_numbers (in_front (has_query q) (list_of c))) c.cap
fetched-is q h c ids keeps i e =
    ap (λ es. lru_cache es c.cap) (ap (promoted (nat_eq h.stmt.id)) i.numbered ∙ promoted-numbered h.stmt.id (list_of c) ∙ ap at_numbers (front-same q (list_of c) h i.apart e))

pub fetched-indexed : {S : Type 0} (q : List ℕ) (h : Held) (c : LruCache ℕ Held) (ids : Texts S) (keeps : Bool) → IsIndexed c ids keeps → find (has_query q) (list_of c) ≡ Some h
    → IsIndexed (lru_cache (promoted (nat_eq h.stmt.id) c.entries) c.cap) ids keeps
fetched-indexed q h c ids keeps i e =
    rw (fetched-is q h c ids keeps i e)
    (indexed (in_front (has_query q) (list_of c)) c.cap ids keeps (apart-in_front q (list_of c) i.apart)
    (subst (λ gs. length gs ≤ cond keeps c.cap 0) (front-same q (list_of c) h i.apart e) (omega (arith, i.few, length-front h.stmt.id (list_of c))))
    i.some (finds-front q (list_of c) h ids i.apart e i.found))

-- Putting one.
pub put-is : (h : Held) (c : LruCache ℕ Held) → c.entries ≡ at_numbers (list_of c) → list_any (has_id h.stmt.id) (list_of c) ≡ false
    → put_entries nat_eq c h.stmt.id h ≡ at_numbers (h ∷ take (c.cap - 1) (list_of c))
put-is h c e fresh =
    let none : lookup_entry (nat_eq h.stmt.id) c.entries ≡ None = ap (lookup_entry (nat_eq h.stmt.id)) e ∙ entry-numbered h.stmt.id (list_of c) ∙ ap (option_map (λ g. (g.stmt.id, g))) (none-found (has_id h.stmt.id) (list_of c) fresh) in
    rw none (ap (λ es. (h.stmt.id, h) ∷ es) (ap (take (c.cap - 1)) e ∙ take-numbered (c.cap - 1) (list_of c)))

pub the-one : (o : Option Held) (n : ℕ) → option_map (λ h. h.stmt.id) o ≡ Some n → (h : Held) × (o ≡ Some h) × (h.stmt.id ≡ n)
the-one None n e = absurd (cc)
the-one (Some h) n e = let s : h.stmt.id ≡ n = cc in (h, refl, s)

get-numbered : (k : ℕ) (hs : List Held) → slice_get (at_numbers hs) k ≡ option_map (λ h. (h.stmt.id, h)) (slice_get hs k)
get-numbered k [] = refl
get-numbered zero (h ∷ hs) = refl
get-numbered (suc k) (h ∷ hs) = get-numbered k hs

-- the one that has to go
pub displaced-is : (h : Held) (c : LruCache ℕ Held) → c.entries ≡ at_numbers (list_of c) → list_any (has_id h.stmt.id) (list_of c) ≡ false
    → displaced nat_eq c h.stmt.id h ≡ option_map (λ g. (g.stmt.id, g)) (slice_get (list_of c) (c.cap - 1))
displaced-is h c e fresh =
    let none : lookup (nat_eq h.stmt.id) c.entries ≡ None = found-at h.stmt.id c e ∙ none-found (has_id h.stmt.id) (list_of c) fresh in
    rw none (ap (λ es. slice_get es (c.cap - 1)) e ∙ get-numbered (c.cap - 1) (list_of c))

length-none : (n : ℕ) (hs : List Held) → slice_get hs n ≡ None → length hs ≤ n
length-none n [] e = omega arith
length-none zero (h ∷ hs) e = absurd (cc)
length-none (suc n) (h ∷ hs) e = omega (arith, length-none n hs e)

pub finds-put : {S : Type 0} (h : Held) (hs : List Held) (ids new : Texts S) (key : List ℕ) (n : ℕ) → Finds ids hs → key ≡ h.query → n ≡ h.stmt.id
    → ((q : List ℕ) → get same_text new q ≡ cond (same_text key q) (Some n) (get same_text ids q)) → Finds new (h ∷ hs)
finds-put h hs ids new key n found text number is q =
    is q ∙ ap (λ o. cond (same_text key q) (Some n) o) (found q)
    ∙ ap (λ k. cond (same_text k q) (Some n) (option_map (λ g. g.stmt.id) (find (has_query q) hs))) text
    ∙ ap (λ m. cond (same_text h.query q) (Some m) (option_map (λ g. g.stmt.id) (find (has_query q) hs))) number
    ∙ ap (λ b. cond b (Some h.stmt.id) (option_map (λ g. g.stmt.id) (find (has_query q) hs))) (text-symm h.query q)
    ∙ (elim (has_query q h) as (λ b. cond b (Some h.stmt.id) (option_map (λ g. g.stmt.id) (find (has_query q) hs)) ≡ option_map (λ g. g.stmt.id) (cond b (Some h) (find (has_query q) hs))) [
      | true ↦ refl
      | false ↦ refl
    ])

-- what is displaced is nothing, or the last one
pub nothing-out : (o : Option Held) → option_map {U = ℕ × Held} (λ g. (g.stmt.id, g)) o ≡ None → o ≡ None
nothing-out None e = refl
nothing-out (Some h) e = absurd (cc)

pub one-out : (o : Option Held) (e : ℕ × Held) → option_map (λ g. (g.stmt.id, g)) o ≡ Some e → o ≡ Some e.1
one-out None e s = absurd (cc)
one-out (Some h) e s = let t : (h.stmt.id, h) ≡ e = cc in ap (λ p. Some p.1) t

pub put-indexed : {S : Type 0} (h : Held) (c : LruCache ℕ Held) (ids new : Texts S) (keeps : Bool) → IsIndexed c ids keeps → keeps ≡ true
    → list_any (has_query h.query) (list_of c) ≡ false → list_any (has_id h.stmt.id) (list_of c) ≡ false
    → slice_get (list_of c) (c.cap - 1) ≡ None → Finds new (h ∷ list_of c)
    → IsIndexed (lru_cache (put_entries nat_eq c h.stmt.id h) c.cap) new keeps
put-indexed h c ids new keeps i k text number last found =
    rw (put-is h c i.numbered number) (rw (none-out (c.cap - 1) (list_of c) last)
    (indexed (h ∷ list_of c) c.cap new keeps (text, number, i.apart)
    (rw k (omega (arith, length-none (c.cap - 1) (list_of c) last, i.some))) i.some found))

-- the same, where the last one has to go
pub put-out : {S : Type 0} (h last : Held) (c : LruCache ℕ Held) (ids more new : Texts S) (keeps : Bool) → IsIndexed c ids keeps → keeps ≡ true
    → list_any (has_query h.query) (list_of c) ≡ false → list_any (has_id h.stmt.id) (list_of c) ≡ false
    → slice_get (list_of c) (c.cap - 1) ≡ Some last → Finds more (h ∷ list_of c)
    → ((q : List ℕ) → get same_text new q ≡ cond (same_text last.query q) None (get same_text more q))
    → IsIndexed (lru_cache (put_entries nat_eq c h.stmt.id h) c.cap) new keeps
put-out h last c ids more new keeps i k text number at found is =
    let hs = list_of c in
    let full : length hs ≤ c.cap = subst (λ b. length hs ≤ cond b c.cap 0) k i.few in
    let out = last-out (c.cap - 1) hs last i.apart (omega (arith, full, i.some)) at in
    let other : has_id last.stmt.id h ≡ false = nat_eq_equiv.symm last.stmt.id h.stmt.id ∙ found-fails (has_id last.stmt.id) (has_id h.stmt.id) hs last number out.0 in
    let there : find (has_id last.stmt.id) (h ∷ hs) ≡ Some last = rw other out.0 in
    let left : without (has_id last.stmt.id) (h ∷ hs) ≡ h ∷ without (has_id last.stmt.id) hs = rw other refl in
    let rest = without (has_id last.stmt.id) (h ∷ hs) in
    rw (put-is h c i.numbered number) (rw out.1 (subst (λ gs. IsIndexed (lru_cache (at_numbers gs) c.cap) new keeps) left
    (indexed rest c.cap new keeps (apart-without (has_id last.stmt.id) (h ∷ hs) (text, number, i.apart))
    (subst (λ b. length rest ≤ cond b c.cap 0) (sym k) (omega (arith, length-out last.stmt.id (h ∷ hs) last there, full))) i.some
    (finds-without last.stmt.id (h ∷ hs) last more new (text, number, i.apart) there found is))))

-- out of memory, the index is as it was
pub finds-again : {S : Type 0} (h : Held) (hs : List Held) (ids more new : Texts S) → AreApart hs
    → list_any (has_query h.query) hs ≡ false → list_any (has_id h.stmt.id) hs ≡ false → Finds more (h ∷ hs)
    → ((q : List ℕ) → get same_text new q ≡ cond (same_text h.query q) None (get same_text more q)) → Finds new hs
finds-again h hs ids more new a text number found is =
    let there : find (has_id h.stmt.id) (h ∷ hs) ≡ Some h = rw (nat_eq_equiv.refl h.stmt.id) refl in
    let left : without (has_id h.stmt.id) (h ∷ hs) ≡ hs = rw (nat_eq_equiv.refl h.stmt.id) refl in
    subst (Finds new) left (finds-without h.stmt.id (h ∷ hs) h more new (text, number, a) there found is)

pub first-is : (h : Held) (hs : List Held) (cap : ℕ) (keeps : Bool) → keeps ≡ true → 0 < cap → take (cond keeps cap 0) (h ∷ hs) ≡ h ∷ take (cap - 1) hs
first-is h hs zero keeps k some = absurd (omega (arith, some))
first-is h hs (suc cap) keeps k some = let less : cap ≡ suc cap - 1 = omega arith in rw k (ap (λ n. h ∷ take n hs) less)

pub last-is : (hs : List Held) (cap : ℕ) (keeps : Bool) → keeps ≡ true → 0 < cap → last_of_full (cond keeps cap 0) hs ≡ slice_get hs (cap - 1)
last-is hs zero keeps k some = absurd (omega (arith, some))
last-is hs (suc cap) keeps k some = let less : cap ≡ suc cap - 1 = omega arith in rw k (ap (slice_get hs) less)

pub put-view : (h : Held) (c : LruCache ℕ Held) (keeps : Bool) → c.entries ≡ at_numbers (list_of c) → keeps ≡ true → 0 < c.cap → list_any (has_id h.stmt.id) (list_of c) ≡ false
    → cached (list_of (lru_cache (put_entries nat_eq c h.stmt.id h) c.cap)) (cond keeps c.cap 0) ≡ with_first h (cached (list_of c) (cond keeps c.cap 0))
put-view h c keeps e k some number =
    ap (λ l. cached l (cond keeps c.cap 0)) (ap (λ es. map (λ e. e.1) es) (put-is h c e number) ∙ values-numbered (h ∷ take (c.cap - 1) (list_of c)) ∙ sym (first-is h (list_of c) c.cap keeps k some))

-- what a put is of these values
pub put-as : (h v : Held) (n : ℕ) (c : LruCache ℕ Held) → n ≡ h.stmt.id → v ≡ h → lru_cache (put_entries nat_eq c n v) c.cap ≡ lru_cache (put_entries nat_eq c h.stmt.id h) c.cap
put-as h v n c number same = ap (λ m. lru_cache (put_entries nat_eq c m v) c.cap) number ∙ ap (λ w. lru_cache (put_entries nat_eq c h.stmt.id w) c.cap) same

pub displaced-as : (h v : Held) (n : ℕ) (c : LruCache ℕ Held) → n ≡ h.stmt.id → v ≡ h → displaced nat_eq c n v ≡ displaced nat_eq c h.stmt.id h
displaced-as h v n c number same = ap (λ m. displaced nat_eq c m v) number ∙ ap (λ w. displaced nat_eq c h.stmt.id w) same

pub some-mapped : (o : Option Held) → is_some (option_map (λ h. h.stmt.id) o) ≡ is_some o
some-mapped None = refl
some-mapped (Some h) = refl
