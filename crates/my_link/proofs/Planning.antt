-- How the items of a world in memory change.
use Rattle.std.proofs.Common.{ℕ, ◌≡◌, ◌≢◌, ◌<◌, ◌≤◌, ◌+◌, ◌==◌, suc, List, [], ◌∷◌, ◌++◌, length, drop, get_or, slice_set, Some, Bool, true, false, if◌then◌else◌, refl, sym, ap, ◌∙◌, arith}
use Rattle.std.proofs.lemmas.List.{append-nil, drop_all}
use Rattle.std.specs.List.{list_all}
use Rattle.std.proofs.lemmas.Bool.Decides.{nat_tests}
use Rattle.my_link.specs.declared.link.ReadItem.{ReadItem}
use Rattle.my_link.specs.Memory.{is_filled}
use Rattle.my_link.specs.Items.{LinkItems, no_items, grown}
use Rattle.my_link.specs.declared.dialer.DialItem.{DialItem}
use Rattle.my_link.specs.declared.line.WorldLine.{WorldLine}
use Rattle.my_link.specs.declared.mem_world.dials.PlannedDial.{PlannedDial}
use Rattle.my_link.specs.MemDials.{dials_at}
use Rattle.my_link.specs.Plan.{dials_of, dripped, given_by, given_to, link_of, plans_on}
use Rattle.my_link.specs.Planned.{PlannedItems, items_at, place_at}
use Rattle.my_link.specs.MemWorld.{plans_of}
use Rattle.my_link.specs.World.{SameAt, SamePlans}

-- nothing stands for a link without a place
pub at_end : (n : ℕ) (ps : List PlannedItems) → length ps ≤ place_at n ps → items_at n ps ≡ no_items
at_end n [] h = refl
at_end n (p ∷ ps) h = by_test (p.number == n) refl (at_end n ps)
  where
    by_test : (t : Bool) → (p.number == n) ≡ t → (length ps ≤ place_at n ps → items_at n ps ≡ no_items) → items_at n (p ∷ ps) ≡ no_items
    by_test true e more = absurd (let k : length (p ∷ ps) ≤ place_at n (p ∷ ps) = h in let z : place_at n (p ∷ ps) ≡ 0 = rw e refl in omega (arith, k, z))
    by_test false e more = rw e (more (let k : length (p ∷ ps) ≤ place_at n (p ∷ ps) = h in let z : place_at n (p ∷ ps) ≡ suc (place_at n ps) = rw e refl in omega (arith, k, z)))

-- an empty entry says nothing
pub at_new : (n m : ℕ) (ps : List PlannedItems) → items_at m (ps ++ record { number = n; items = no_items } ∷ []) ≡ items_at m ps
at_new n m [] = by_test (n == m) refl
  where
    by_test : (t : Bool) → (n == m) ≡ t → items_at m (record { number = n; items = no_items } ∷ []) ≡ no_items
    by_test true e = rw e refl
    by_test false e = rw e refl
at_new n m (p ∷ ps) = ap (λ is. if p.number == m then p.items else is) (at_new n m ps)

-- where an entry that is new stands
pub place_new : (n : ℕ) (ps : List PlannedItems) → length ps ≤ place_at n ps → place_at n ps ≡ place_at n (ps ++ record { number = n; items = no_items } ∷ [])
place_new n [] h = rw same refl
  where
    same : (n == n) ≡ true
    same = grind (arith, nat_tests)
place_new n (p ∷ ps) h = by_test (p.number == n) refl (place_new n ps)
  where
    by_test : (t : Bool) → (p.number == n) ≡ t → (length ps ≤ place_at n ps → place_at n ps ≡ place_at n (ps ++ record { number = n; items = no_items } ∷ [])) → place_at n (p ∷ ps) ≡ place_at n (p ∷ ps ++ record { number = n; items = no_items } ∷ [])
    by_test true e more = rw e refl
    by_test false e more = rw e (ap suc (more (let k : length (p ∷ ps) ≤ place_at n (p ∷ ps) = h in let z : place_at n (p ∷ ps) ≡ suc (place_at n ps) = rw e refl in omega (arith, k, z))))

-- the entry that stands for link n
pub got_at : (n : ℕ) (ps : List PlannedItems) (d : PlannedItems) → place_at n ps < length ps → items_at n ps ≡ (get_or ps (place_at n ps) d).items
got_at n [] d h = absurd (omega arith)
got_at n (p ∷ ps) d h = by_test (p.number == n) refl (got_at n ps d)
  where
    by_test : (t : Bool) → (p.number == n) ≡ t → (place_at n ps < length ps → items_at n ps ≡ (get_or ps (place_at n ps) d).items) → items_at n (p ∷ ps) ≡ (get_or (p ∷ ps) (place_at n (p ∷ ps)) d).items
    by_test true e more = rw e refl
    by_test false e more = rw e (more (let k : place_at n (p ∷ ps) < length (p ∷ ps) = h in let z : place_at n (p ∷ ps) ≡ suc (place_at n ps) = rw e refl in omega (arith, k, z)))

pub number_at : (n : ℕ) (ps : List PlannedItems) (d : PlannedItems) → place_at n ps < length ps → (get_or ps (place_at n ps) d).number ≡ n
number_at n [] d h = absurd (omega arith)
number_at n (p ∷ ps) d h = by_test (p.number == n) refl (number_at n ps d)
  where
    by_test : (t : Bool) → (p.number == n) ≡ t → (place_at n ps < length ps → (get_or ps (place_at n ps) d).number ≡ n) → (get_or (p ∷ ps) (place_at n (p ∷ ps)) d).number ≡ n
    by_test true e more = rw e (grind (arith, nat_tests))
    by_test false e more = rw e (more (let k : place_at n (p ∷ ps) < length (p ∷ ps) = h in let z : place_at n (p ∷ ps) ≡ suc (place_at n ps) = rw e refl in omega (arith, k, z)))

same_twice : (t : Bool) (x y z : LinkItems) → (if t then x else z) ≡ (if t then x else (if t then y else z))
same_twice true x y z = refl
same_twice false x y z = refl

swapped : (t u : Bool) (x y z : LinkItems) → (t ≡ true → u ≡ true → ⊥) → (if t then y else (if u then x else z)) ≡ (if u then x else (if t then y else z))
swapped true true x y z never = absurd (never refl refl)
swapped true false x y z never = refl
swapped false true x y z never = refl
swapped false false x y z never = refl

-- a changed entry is what stands for its link, and for no other
pub set_at : (n m : ℕ) (ps : List PlannedItems) (q : PlannedItems) → place_at n ps < length ps → q.number ≡ n → items_at m (slice_set ps (place_at n ps) q) ≡ (if n == m then q.items else items_at m ps)
set_at n m [] q h e = absurd (omega arith)
set_at n m (p ∷ ps) q h e = by_test (p.number == n) refl (set_at n m ps q)
  where
    rest_of : (place_at n ps < length ps → q.number ≡ n → items_at m (slice_set ps (place_at n ps) q) ≡ (if n == m then q.items else items_at m ps)) → (p.number == n) ≡ false → items_at m (slice_set ps (place_at n ps) q) ≡ (if n == m then q.items else items_at m ps)
    rest_of more f = more (let k : place_at n (p ∷ ps) < length (p ∷ ps) = h in let z : place_at n (p ∷ ps) ≡ suc (place_at n ps) = rw f refl in omega (arith, k, z)) e

    by_test : (t : Bool) → (p.number == n) ≡ t → (place_at n ps < length ps → q.number ≡ n → items_at m (slice_set ps (place_at n ps) q) ≡ (if n == m then q.items else items_at m ps)) → items_at m (slice_set (p ∷ ps) (place_at n (p ∷ ps)) q) ≡ (if n == m then q.items else items_at m (p ∷ ps))
    by_test true f more = let pn : p.number ≡ n = grind (arith, nat_tests) in rw (f, e, pn) (same_twice (n == m) q.items p.items (items_at m ps))
    by_test false f more = rw (f, rest_of more f) (swapped (p.number == m) (n == m) q.items p.items (items_at m ps) (λ a b. grind (arith, nat_tests)))

-- the place of an entry that is new
pub new_place : (n : ℕ) (ps : List PlannedItems) → length ps ≤ place_at n ps → place_at n ps ≡ length ps
new_place n [] h = refl
new_place n (p ∷ ps) h = by_test (p.number == n) refl (new_place n ps)
  where
    by_test : (t : Bool) → (p.number == n) ≡ t → (length ps ≤ place_at n ps → place_at n ps ≡ length ps) → place_at n (p ∷ ps) ≡ length (p ∷ ps)
    by_test true e more = absurd (let k : length (p ∷ ps) ≤ place_at n (p ∷ ps) = h in let z : place_at n (p ∷ ps) ≡ 0 = rw e refl in omega (arith, k, z))
    by_test false e more = rw e (ap suc (more (let k : length (p ∷ ps) ≤ place_at n (p ∷ ps) = h in let z : place_at n (p ∷ ps) ≡ suc (place_at n ps) = rw e refl in omega (arith, k, z))))

-- an entry was made
pub entered : (n place : ℕ) (ps new : List PlannedItems) → place ≡ place_at n ps → length ps ≤ place → new ≡ ps ++ record { number = n; items = no_items } ∷ [] → (place ≡ place_at n new) × (place < length new)
entered n place ps new e h f =
    let past : length ps ≤ place_at n ps = omega (arith, e, h) in
    let longer : length new ≡ length ps + 1 = ap length f ∙ longer_by_one ps in
    (e ∙ place_new n ps past ∙ ap (place_at n) (sym f), omega (arith, e, new_place n ps past, longer))
  where
    longer_by_one : (ps : List PlannedItems) → length (ps ++ record { number = n; items = no_items } ∷ []) ≡ length ps + 1
    longer_by_one [] = refl
    longer_by_one (p ∷ ps) = omega (arith, longer_by_one ps)

pub entered_same : (n : ℕ) (ps new : List PlannedItems) → new ≡ ps ++ record { number = n; items = no_items } ∷ [] → (m : ℕ) → items_at m new ≡ items_at m ps
entered_same n ps new f m = ap (items_at m) f ∙ at_new n m ps

grown_none : (a : LinkItems) → grown a no_items ≡ a
grown_none a = ap (λ rs. record { reads = rs; writes = a.writes ++ [] }) (append-nil a.reads) ∙ ap (λ ws. record { reads = a.reads; writes = ws }) (append-nil a.writes)

-- more items for link n
pub pushed : (n place : ℕ) (ps old : List PlannedItems) (p q : PlannedItems) (more : LinkItems) → place ≡ place_at n ps → place < length ps → p ≡ get_or ps place p → q ≡ record { number = p.number; items = grown p.items more } → ((m : ℕ) → items_at m ps ≡ items_at m old) → (m : ℕ) → items_at m (slice_set ps place q) ≡ grown (items_at m old) (if n == m then more else no_items)
pushed n place ps old p q more e h f g same m =
    let h' : place_at n ps < length ps = omega (arith, e, h) in
    let at : p ≡ get_or ps (place_at n ps) p = f ∙ ap (λ k. get_or ps k p) e in
    let numbered : q.number ≡ n = ap (λ (r : PlannedItems). r.number) g ∙ ap (λ (r : PlannedItems). r.number) at ∙ number_at n ps p h' in
    let mine : q.items ≡ grown (items_at n ps) more = ap (λ (r : PlannedItems). r.items) g ∙ ap (λ (r : PlannedItems). grown r.items more) at ∙ ap (λ is. grown is more) (sym (got_at n ps p h')) in
    ap (λ k. items_at m (slice_set ps k q)) e ∙ set_at n m ps q h' numbered ∙ by_test (n == m) refl mine
  where
    by_test : (t : Bool) → (n == m) ≡ t → q.items ≡ grown (items_at n ps) more → (if t then q.items else items_at m ps) ≡ grown (items_at m old) (if t then more else no_items)
    by_test true t mine = let n_is : n ≡ m = grind (arith, nat_tests) in mine ∙ ap (λ k. grown (items_at k ps) more) n_is ∙ ap (λ is. grown is more) (same m)
    by_test false t mine = same m ∙ sym (grown_none (items_at m old))

-- what came to be read, and for writes
pub more_reads : (t : Bool) (now before more : LinkItems) → now ≡ grown before (if t then more else no_items) → now.reads ≡ before.reads ++ (if t then more.reads else [])
more_reads true now before more e = ap (λ (a : LinkItems). a.reads) e
more_reads false now before more e = ap (λ (a : LinkItems). a.reads) e

pub more_writes : (t : Bool) (now before more : LinkItems) → now ≡ grown before (if t then more else no_items) → now.writes ≡ before.writes ++ (if t then more.writes else [])
more_writes true now before more e = ap (λ (a : LinkItems). a.writes) e
more_writes false now before more e = ap (λ (a : LinkItems). a.writes) e

-- each byte that drips is one to be read
drip_filled : (bytes : List ℕ) → list_all is_filled (dripped bytes) ≡ true
drip_filled [] = refl
drip_filled (b ∷ bytes) = drip_filled bytes

pub drip_through : (i : ℕ) (bytes : List ℕ) (items : List ReadItem) → length bytes ≤ i → items ++ dripped (drop i bytes) ≡ dripped bytes → list_all is_filled items ≡ true
drip_through i bytes items h e =
    let all : items ≡ dripped bytes = sym (append-nil items) ∙ ap (λ bs. items ++ dripped bs) (sym (drop_all i bytes h)) ∙ e in
    ap (list_all is_filled) all ∙ drip_filled bytes

-- the items of link n were handed out
pub handed : (n place : ℕ) (ps : List PlannedItems) (p : PlannedItems) → place ≡ place_at n ps → place < length ps → p ≡ get_or ps place p → p.items ≡ items_at n ps
handed n place ps p e h f =
    let at : p ≡ get_or ps (place_at n ps) p = f ∙ ap (λ k. get_or ps k p) e in
    ap (λ (r : PlannedItems). r.items) at ∙ sym (got_at n ps p (omega (arith, e, h)))

pub others : (n place : ℕ) (ps : List PlannedItems) (p q : PlannedItems) → place ≡ place_at n ps → place < length ps → p ≡ get_or ps place p → q ≡ record { number = p.number; items = no_items } → (m : ℕ) → m ≢ n → items_at m (slice_set ps place q) ≡ items_at m ps
others n place ps p q e h f g m differs =
    let h' : place_at n ps < length ps = omega (arith, e, h) in
    let at : p ≡ get_or ps (place_at n ps) p = f ∙ ap (λ k. get_or ps k p) e in
    let numbered : q.number ≡ n = ap (λ (r : PlannedItems). r.number) g ∙ ap (λ (r : PlannedItems). r.number) at ∙ number_at n ps p h' in
    let apart : (n == m) ≡ false = grind (arith, nat_tests) in
    ap (λ k. items_at m (slice_set ps k q)) e ∙ set_at n m ps q h' numbered ∙ ap (λ t. if t then q.items else items_at m ps) apart

-- what a line gave the links and their dials is its plan
pub planned : (line : WorldLine) (ls ms : List PlannedItems) (ds es : List PlannedDial) → ((n : ℕ) → items_at n ms ≡ grown (items_at n ls) (if link_of line == n then given_by line else no_items)) → ((n : ℕ) → dials_at n es ≡ dials_at n ds ++ given_to dials_of n line) → SamePlans (plans_on line (plans_of ls ds)) (plans_of ms es)
planned line ls ms ds es items dials n = record {
  reads = ap Some (more_reads (link_of line == n) (items_at n ms) (items_at n ls) (given_by line) (items n));
  writes = ap Some (more_writes (link_of line == n) (items_at n ms) (items_at n ls) (given_by line) (items n));
  dials = ap Some (dials n);
}

-- a line gave no link anything, or no dial
pub none_given : (line : WorldLine) → given_by line ≡ no_items → (n : ℕ) (a : LinkItems) → a ≡ grown a (if link_of line == n then given_by line else no_items)
none_given line e n a = by_test (link_of line == n)
  where
    by_test : (t : Bool) → a ≡ grown a (if t then given_by line else no_items)
    by_test true = sym (grown_none a) ∙ ap (grown a) (sym e)
    by_test false = sym (grown_none a)

pub none_dialed : (line : WorldLine) → dials_of line ≡ [] → (n : ℕ) (ds : List DialItem) → ds ≡ ds ++ given_to dials_of n line
none_dialed line e n ds = by_test (link_of line == n)
  where
    by_test : (t : Bool) → ds ≡ ds ++ (if t then dials_of line else [])
    by_test true = sym (append-nil ds) ∙ ap (λ is. ds ++ is) (sym e)
    by_test false = sym (append-nil ds)

-- one item more for the dials of its number
pub dialed : (line : WorldLine) (d : PlannedDial) (ds : List PlannedDial) → link_of line ≡ d.number → dials_of line ≡ d.item ∷ [] → (n : ℕ) → dials_at n (ds ++ d ∷ []) ≡ dials_at n ds ++ given_to dials_of n line
dialed line d [] e f n = by_test (link_of line == n) refl
  where
    by_test : (t : Bool) → (link_of line == n) ≡ t → dials_at n (d ∷ []) ≡ (if t then dials_of line else [])
    by_test true g = let is : (d.number == n) ≡ true = ap (λ k. k == n) (sym e) ∙ g in rw (is, f) refl
    by_test false g = let is : (d.number == n) ≡ false = ap (λ k. k == n) (sym e) ∙ g in rw is refl
dialed line d (p ∷ ds) e f n = by_test (p.number == n) (dialed line d ds e f n)
  where
    by_test : (t : Bool) → dials_at n (ds ++ d ∷ []) ≡ dials_at n ds ++ given_to dials_of n line → (if t then p.item ∷ dials_at n (ds ++ d ∷ []) else dials_at n (ds ++ d ∷ [])) ≡ (if t then p.item ∷ dials_at n ds else dials_at n ds) ++ given_to dials_of n line
    by_test true more = ap (λ is. p.item ∷ is) more
    by_test false more = more

-- the same items are the same plan
pub same_at : (ps qs : List PlannedItems) (ds es : List PlannedDial) (n : ℕ) → items_at n qs ≡ items_at n ps → dials_at n es ≡ dials_at n ds → SameAt (plans_of ps ds) (plans_of qs es) n
same_at ps qs ds es n e f = record {
  reads = ap (λ (a : LinkItems). Some a.reads) e;
  writes = ap (λ (a : LinkItems). Some a.writes) e;
  dials = ap Some f;
}
