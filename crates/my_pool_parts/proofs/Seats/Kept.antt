-- The map of the live requests beside the heap and the free slots: what a request that changes, ends or comes leaves.
use Rattle.std.proofs.Common.{◌≡◌, ℕ, ◌+◌, ◌^◌, ◌-◌, ◌<◌, ◌≤◌, Bool, false, Option, Some, None, List, [], ◌∷◌, ◌++◌, length, get_or, set, map, zero, suc, refl, sym, ap, ◌∙◌, subst, arith, append_assoc, length-append, length-set, take, drop}
use Rattle.std.specs.Prelude.{remove}
use Rattle.std.specs.Ordering.{nat_cmp}
use Rattle.std.specs.Map.{lookup, remove_entry, set_value}
use Rattle.std.specs.BTreeMap.{is_at, insert_entry}
use Rattle.std.proofs.lemmas.List.{length-map, get_or-map, map-set, map-append, get_or_append_left, set-get_or, take-map, drop-map, length_push, take_all, take_more}
use Rattle.std.proofs.lemmas.List.Edits.{remove-append_left, length-remove}
use Rattle.my_pool_parts.specs.declared.request.Request.{Request}
use Rattle.my_pool_parts.specs.declared.seat.Seat.{Seat}
use Rattle.my_frame.specs.Lists.{without}
use Rattle.my_pool_parts.specs.Lists.{how_many, change_first}
use Rattle.my_pool_parts.specs.Requests.{asking, has_age, is_dialing, is_queued, IsRising}
use Rattle.my_pool_parts.specs.Live.{age_if, IsQueue, requests_of, slots_of, IsKeyed, IsSeated}
use Rattle.my_pool_parts.proofs.Finding.{one}
use Rattle.my_pool_parts.proofs.Queue.{queue-turned}
use Rattle.my_pool_parts.proofs.Queue.Lived.{IsReadAt, read-at, IsRecount, live-set, live-removed, live-added, live-queue, live-as, live-counted, live-few}
use Rattle.my_pool_parts.proofs.Seats.{IsSeatAt, seat-at, put-last}

abbrev pub seat : Request → ℕ → Seat
seat request slot = record { request = request; slot = slot }

-- what was found in the map: its place there, and what the heap holds of it
pub record IsFound (es : List (ℕ × Seat)) (free : List ℕ) (held : List (Option ℕ)) (age : ℕ) (here : Seat) : Type 0 where
  pub i : ℕ
  pub there : IsSeatAt es age i here
  pub age_is : here.request.age ≡ age
  pub read : (d : Request) → IsReadAt (requests_of es) (slots_of es ++ free) held i here.slot here.request d

keyed-at : (es : List (ℕ × Seat)) (i : ℕ) (d : ℕ × Seat) → IsKeyed es → i < length es → (get_or es i d).0 ≡ (get_or es i d).1.request.age
keyed-at [] i d h lt = absurd (omega arith)
keyed-at (e ∷ es) zero d h lt = h.0
keyed-at (e ∷ es) (suc i) d h lt = keyed-at es i d h.1 (omega arith)

pub found : {es : List (ℕ × Seat)} {free : List ℕ} {room : ℕ} {held : List (Option ℕ)} {dialing queued : ℕ} (age : ℕ) (here : Seat) → IsSeated es free room held dialing queued → lookup (is_at (nat_cmp age)) es ≡ Some here → IsFound es free held age here
found {es} {free} {room} {held} {dialing} {queued} age here h e =
    let p = seat-at 0 age es here h.keyed h.live.rising e in
    let i = p.0 in
    let pair = p.1.entry (age, here) in
    let rs = get_or-map (λ (e : ℕ × Seat). e.1.request) es i (age, here) here.request p.1.within ∙ ap (λ (e : ℕ × Seat). e.1.request) pair in
    let ss = get_or-map (λ (e : ℕ × Seat). e.1.slot) es i (age, here) here.slot p.1.within ∙ ap (λ (e : ℕ × Seat). e.1.slot) pair in
    let long : i < length (slots_of es) = omega (arith, p.1.within, length-map es (λ (e : ℕ × Seat). e.1.slot)) in
    record {
      i = i;
      there = p.1;
      age_is = sym (sym (ap (λ (e : ℕ × Seat). e.0) pair) ∙ keyed-at es i (age, here) h.keyed p.1.within ∙ ap (λ (e : ℕ × Seat). e.1.request.age) pair);
      read = λ d. read-at i here.slot here.request d h.live refl (omega (arith, p.1.within, length-map es (λ (e : ℕ × Seat). e.1.request))) (sym rs) (sym (get_or_append_left (slots_of es) free here.slot i long ∙ ss));
    }

-- it was counted where it passes a test
pub found-counted : (p : Request → Bool) {es : List (ℕ × Seat)} {free : List ℕ} {held : List (Option ℕ)} {age : ℕ} {here : Seat} (count : ℕ) (was : Bool) → IsFound es free held age here → was ≡ p here.request → count ≡ how_many p (requests_of es) → one was ≤ count
found-counted p {es} {free} {held} {age} {here} count was f w c = live-counted p (requests_of es) f.i count here.request here.request was (f.read here.request).within (f.read here.request).old_is w c

keyed-set : (es : List (ℕ × Seat)) (i : ℕ) (next : Seat) → IsKeyed es → IsKeyed (set es i (next.request.age, next))
keyed-set [] i next h = h
keyed-set (e ∷ es) zero next h = (refl, h.1)
keyed-set (e ∷ es) (suc i) next h = (h.0, keyed-set es i next h.1)

keyed-remove : (es : List (ℕ × Seat)) (i : ℕ) → i < length es → IsKeyed es → IsKeyed (remove es i)
keyed-remove [] i lt h = absurd (omega arith)
keyed-remove (e ∷ es) zero lt h = h.1
keyed-remove (e ∷ es) (suc i) lt h = (h.0, keyed-remove es i (omega arith) h.1)

keyed-push : (es : List (ℕ × Seat)) (age : ℕ) (next : Seat) → age ≡ next.request.age → IsKeyed es → IsKeyed (es ++ (age, next) ∷ [])
keyed-push [] age next e h = (e, tt)
keyed-push (x ∷ es) age next e h = (h.0, keyed-push es age next e h.1)

-- a request in the map gets another standing
pub seated-changed : {es fs : List (ℕ × Seat)} {free : List ℕ} {room : ℕ} {held after : List (Option ℕ)} {dialing queued dialing' queued' age : ℕ} {here : Seat} (next : Request) → IsSeated es free room held dialing queued → IsFound es free held age here → next.age ≡ age
    → fs ≡ set_value (is_at (nat_cmp age)) es (seat next here.slot) → after ≡ set held here.slot (age_if next) → IsRecount (is_dialing here.request) (is_dialing next) dialing dialing' → IsRecount (is_queued here.request) (is_queued next) queued queued' → IsSeated fs free room after dialing' queued'
seated-changed {es} {fs} {free} {room} {held} {after} {dialing} {queued} {dialing'} {queued'} {age} {here} next h f same e a di qu =
    let i = f.i in
    let r = f.read next in
    let new = seat next here.slot in
    let is : fs ≡ set es i (age, new) = e ∙ f.there.written new in
    let own = same ∙ sym f.age_is ∙ ap (λ (q : Request). q.age) r.old_is in
    let live = live-set i next here.request next h.live r.within r.old_is own (a ∙ ap (λ s. set held s (age_if next)) r.slot_is) di qu in
    let rs : set (requests_of es) i next ≡ requests_of fs = sym (ap requests_of is ∙ map-set (λ (e : ℕ × Seat). e.1.request) es i (age, new)) in
    let here_slot : here.slot ≡ get_or (slots_of es) i 0 = r.slot_is ∙ get_or_append_left (slots_of es) free 0 i (omega (arith, f.there.within, length-map es (λ (e : ℕ × Seat). e.1.slot))) in
    let ss : slots_of es ≡ slots_of fs = sym (ap slots_of is ∙ map-set (λ (e : ℕ × Seat). e.1.slot) es i (age, new) ∙ ap (set (slots_of es) i) here_slot ∙ set-get_or (slots_of es) i 0) in
    record {
      keyed = subst IsKeyed (sym is) (subst (λ n. IsKeyed (set es i (n, new))) same (keyed-set es i new h.keyed));
      live = live-as live rs (ap (λ xs. xs ++ free) ss);
      roomy = omega (arith, ap length is, length-set es i (age, new), h.roomy);
      small = h.small;
    }

pub changed-list : {es fs : List (ℕ × Seat)} {free : List ℕ} {held : List (Option ℕ)} {age : ℕ} {here : Seat} (f : Request → Request) (next : Request) → IsFound es free held age here → f here.request ≡ next
    → fs ≡ set_value (is_at (nat_cmp age)) es (seat next here.slot) → requests_of fs ≡ change_first (has_age age) f (requests_of es)
changed-list {es} {fs} {free} {held} {age} {here} f next h is e =
    ap requests_of (e ∙ h.there.written (seat next here.slot)) ∙ map-set (λ (e : ℕ × Seat). e.1.request) es h.i (age, seat next here.slot) ∙ ap (set (requests_of es) h.i) (sym is) ∙ sym (h.there.changes f)

map-remove : {X : Type 0} (f : ℕ × Seat → X) (es : List (ℕ × Seat)) (i : ℕ) → map f (remove es i) ≡ remove (map f es) i
map-remove f es i = map-append f (take i es) (drop (suc i) es) ∙ ap (λ xs. xs ++ map f (drop (suc i) es)) (sym (take-map f i es)) ∙ ap (λ xs. take i (map f es) ++ xs) (sym (drop-map f (suc i) es))

-- a request leaves the map, and its slot is free
pub seated-ended : {es fs : List (ℕ × Seat)} {free next : List ℕ} {room : ℕ} {held after : List (Option ℕ)} {dialing queued dialing' queued' age : ℕ} {here : Seat} (more : ℕ) → IsSeated es free room held dialing queued → IsFound es free held age here
    → fs ≡ remove_entry (is_at (nat_cmp age)) es → next ≡ free ++ here.slot ∷ [] → more ≡ room → after ≡ set held here.slot None → IsRecount (is_dialing here.request) false dialing dialing' → IsRecount (is_queued here.request) false queued queued' → IsSeated fs next more after dialing' queued'
seated-ended {es} {fs} {free} {next} {room} {held} {after} {dialing} {queued} {dialing'} {queued'} {age} {here} more h f e n le a di qu =
    let i = f.i in
    let r = f.read here.request in
    let is : fs ≡ remove es i = e ∙ f.there.taken in
    let long : i < length (slots_of es) = omega (arith, f.there.within, length-map es (λ (e : ℕ × Seat). e.1.slot)) in
    let live = live-removed i here.request here.request h.live r.within r.old_is (a ∙ ap (λ s. set held s None) r.slot_is) di qu in
    let rs : remove (requests_of es) i ≡ requests_of fs = sym (ap requests_of is ∙ map-remove (λ (e : ℕ × Seat). e.1.request) es i) in
    let all : remove (slots_of es ++ free) i ++ get_or (slots_of es ++ free) i 0 ∷ [] ≡ slots_of fs ++ next =
    ap (λ s. remove (slots_of es ++ free) i ++ s ∷ []) (sym r.slot_is) ∙ ap (λ xs. xs ++ here.slot ∷ []) (remove-append_left (slots_of es) free i long) ∙ append_assoc (remove (slots_of es) i) free (here.slot ∷ [])
    ∙ ap (λ xs. xs ++ (free ++ here.slot ∷ [])) (sym (ap slots_of is ∙ map-remove (λ (e : ℕ × Seat). e.1.slot) es i)) ∙ ap (λ xs. slots_of fs ++ xs) (sym n) in
    record {
      keyed = subst IsKeyed (sym is) (keyed-remove es i f.there.within h.keyed);
      live = live-as live rs all;
      roomy = omega (arith, ap length is, length-remove es i f.there.within, ap length n, length_push free here.slot, h.roomy, le);
      small = omega (arith, h.small, le);
    }

pub ended-list : {es fs : List (ℕ × Seat)} {free : List ℕ} {held : List (Option ℕ)} {age : ℕ} {here : Seat} → IsFound es free held age here → fs ≡ remove_entry (is_at (nat_cmp age)) es → requests_of fs ≡ without (has_age age) (requests_of es)
ended-list {es} {fs} {free} {held} {age} {here} h e = ap requests_of (e ∙ h.there.taken) ∙ map-remove (λ (e : ℕ × Seat). e.1.request) es h.i ∙ sym h.there.leaves

-- the slots changed, and nothing else
pub seated-slots : {es : List (ℕ × Seat)} {free next : List ℕ} {room : ℕ} {held after : List (Option ℕ)} {dialing queued : ℕ} (more : ℕ) → IsSeated es free room held dialing queued
    → ((ages : List (Option ℕ)) (slots : List ℕ) → length slots ≡ length es → IsQueue ages (slots ++ free) held → IsQueue ages (slots ++ next) after) → length es + length next ≤ more → more < 2 ^ 63 → IsSeated es next more after dialing queued
seated-slots {es} {free} {next} {room} {held} {after} {dialing} {queued} more h slots le lt = record {
  keyed = h.keyed;
  live = live-queue h.live (slots (map age_if (requests_of es)) (slots_of es) (length-map es (λ (e : ℕ × Seat). e.1.slot)) h.live.queue);
  roomy = le;
  small = lt;
}

-- a list with its last element
pub with-last : (xs : List ℕ) (x : ℕ) → 0 < length xs → x ≡ get_or xs (length xs - 1) x → xs ≡ take (length xs - 1) xs ++ x ∷ []
with-last xs x some e =
    let last = length xs - 1 in
    sym (take_all (last + 1) xs (omega arith)) ∙ take_more xs last x (omega arith) ∙ ap (λ y. take last xs ++ y ∷ []) (sym e)

-- a request comes into the map, with the last one of the free slots
pub seated-added : {es fs : List (ℕ × Seat)} {free next : List ℕ} {room : ℕ} {held : List (Option ℕ)} {dialing queued : ℕ} (age slot more : ℕ) → IsSeated es free room held dialing queued → IsRising 0 (requests_of es ++ asking age ∷ [])
    → fs ≡ insert_entry nat_cmp es age (seat (asking age) slot) → free ≡ next ++ slot ∷ [] → more ≡ room → IsSeated fs next more held dialing queued
seated-added {es} {fs} {free} {next} {room} {held} {dialing} {queued} age slot more h rising e n le =
    let new = seat (asking age) slot in
    let is : fs ≡ es ++ (age, new) ∷ [] = e ∙ put-last 0 age es new h.keyed rising in
    let count = length-map es (λ (e : ℕ × Seat). e.1.request) in
    let slots = length-map es (λ (e : ℕ × Seat). e.1.slot) in
    let queue = queue-turned (slots_of es) next slot (subst (λ xs. IsQueue (map age_if (requests_of es)) (slots_of es ++ xs) held) n h.live.queue) (omega (arith, length-map (requests_of es) age_if, count, slots)) in
    let wide : length (requests_of es) < length ((slots_of es ++ slot ∷ []) ++ next) = omega (arith, length-append (slots_of es ++ slot ∷ []) next, length_push (slots_of es) slot, count, slots) in
    let live = live-added age (live-queue h.live queue) wide rising in
    let rs : requests_of es ++ asking age ∷ [] ≡ requests_of fs = sym (ap requests_of is ∙ map-append (λ (e : ℕ × Seat). e.1.request) es ((age, new) ∷ [])) in
    let ss : (slots_of es ++ slot ∷ []) ++ next ≡ slots_of fs ++ next = ap (λ xs. xs ++ next) (sym (ap slots_of is ∙ map-append (λ (e : ℕ × Seat). e.1.slot) es ((age, new) ∷ []))) in
    record {
      keyed = subst IsKeyed (sym is) (keyed-push es age new refl h.keyed);
      live = live-as live rs ss;
      roomy = omega (arith, ap length is, length_push es (age, new), ap length n, length_push next slot, h.roomy, le);
      small = omega (arith, h.small, le);
    }

pub added-list : {es fs : List (ℕ × Seat)} {free : List ℕ} {room : ℕ} {held : List (Option ℕ)} {dialing queued : ℕ} (age slot : ℕ) → IsSeated es free room held dialing queued → IsRising 0 (requests_of es ++ asking age ∷ [])
    → fs ≡ insert_entry nat_cmp es age (seat (asking age) slot) → requests_of fs ≡ requests_of es ++ asking age ∷ []
added-list {es} age slot h rising e = ap requests_of (e ∙ put-last 0 age es (seat (asking age) slot) h.keyed rising) ∙ map-append (λ (e : ℕ × Seat). e.1.request) es ((age, seat (asking age) slot) ∷ [])

-- fewer than half of all numbers
pub seats-few : (p : Request → Bool) {es : List (ℕ × Seat)} {free : List ℕ} {room : ℕ} {held : List (Option ℕ)} {dialing queued : ℕ} (count : ℕ) → IsSeated es free room held dialing queued → count ≡ how_many p (requests_of es) → count < 2 ^ 63
seats-few p {es} {free} {room} count h c = live-few p (requests_of es) count (2 ^ 63) c (omega (arith, length-map es (λ (e : ℕ × Seat). e.1.request), h.roomy, h.small))
