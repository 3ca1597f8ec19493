-- Places as nodes of a map: what a node that leaves, comes in front or is walked past makes of the list.
pub mod Walked
pub mod Least
use Rattle.std.proofs.Common.{◌≡◌, ℕ, ◌+◌, ◌≤◌, Bool, true, false, cond, Option, Some, None, List, [], ◌∷◌, length, refl, sym, ap, ◌∙◌, arith, subst, nat_eq, option_map}
use Rattle.std.specs.Ordering.{nat_cmp}
use Rattle.std.specs.Map.{lookup, remove_entry}
use Rattle.std.specs.BTreeMap.{is_at}
use Rattle.std.proofs.lemmas.Bool.Decides.{nat_tests}
use Rattle.std.proofs.lemmas.Option.{same_Some}
use Rattle.my_pool_parts.specs.declared.connection.Place.{Place}
use Rattle.my_pool_parts.specs.declared.node.Node.{Node}
use Rattle.my_pool_parts.specs.Arrived.{IsApart}
use Rattle.my_pool_parts.specs.Linked.{node, with_older, with_newer, is_number, changed_at, unlinked, newest_without, first, node_of, node_at, IsLinked}
use Rattle.my_pool_parts.proofs.Order.{same-number, unmapped, removed-none, apart-left, apart-put}

-- ---- numbers, and what isn't there ----

-- the map looks for a number as the list does
pub at-number : (n k : ℕ) → is_at (nat_cmp n) k ≡ nat_eq k n
at-number n k = grind (arith, nat_tests)

pub number-same : (n : ℕ) → nat_eq n n ≡ true
number-same n = grind (arith, nat_tests)

-- what isn't in a list isn't its first, nor in its rest
pub none-both : (b : ℕ) (e : ℕ × Option Place) (es : List (ℕ × Option Place)) → lookup (nat_eq b) (e ∷ es) ≡ None → (nat_eq b e.0 ≡ false) × (lookup (nat_eq b) es ≡ None)
none-both b e es h =
    elim (nat_eq b e.0) as (λ t. cond t (Some e.1) (lookup (nat_eq b) es) ≡ None → (t ≡ false) × (lookup (nat_eq b) es ≡ None)) [
      | true ↦ λ k. absurd (cc)
      | false ↦ λ k. (refl, k)
    ] h

pub first-apart : (b : ℕ) (es : List (ℕ × Option Place)) → lookup (nat_eq b) es ≡ None → is_number (first es) b ≡ false
first-apart b [] h = refl
first-apart b (e ∷ es) h = (none-both b e es h).0

pub length-left : {X : Type 0} (test : ℕ → Bool) (es : List (ℕ × X)) (v : X) → lookup test es ≡ Some v → length (remove_entry test es) + 1 ≡ length es
length-left test [] v h = absurd (cc)
length-left test (e ∷ es) v h =
    elim (test e.0) as (λ t. cond t (Some e.1) (lookup test es) ≡ Some v → length (cond t es (e ∷ remove_entry test es)) + 1 ≡ length (e ∷ es)) [
      | true ↦ λ k. omega arith
      | false ↦ λ k. omega (arith, length-left test es v k)
    ] h

pub left-absent : {X : Type 0} (test : ℕ → Bool) (es : List (ℕ × X)) → lookup test es ≡ None → remove_entry test es ≡ es
left-absent test [] h = refl
left-absent test (e ∷ es) h =
    elim (test e.0) as (λ t. cond t (Some e.1) (lookup test es) ≡ None → cond t es (e ∷ remove_entry test es) ≡ e ∷ es) [
      | true ↦ λ k. absurd (cc)
      | false ↦ λ k. ap (λ xs. e ∷ xs) (left-absent test es k)
    ] h

-- ---- a node, by its number ----

-- it has the place
pub place-at : (w : Option ℕ) (es : List (ℕ × Option Place)) (n : ℕ) → option_map (λ d. d.place) (node_of w es n) ≡ lookup (nat_eq n) es
place-at w [] n = refl
place-at w (e ∷ es) n =
    elim (nat_eq n e.0) as (λ t. option_map (λ (d : Node). d.place) (cond t (Some (node e.1 (first es) w)) (node_of (Some e.0) es n)) ≡ cond t (Some e.1) (lookup (nat_eq n) es)) [
      | true ↦ refl
      | false ↦ place-at (Some e.0) es n
    ]

pub no-node : (w : Option ℕ) (es : List (ℕ × Option Place)) (n : ℕ) → lookup (nat_eq n) es ≡ None → node_of w es n ≡ None
no-node w es n h = unmapped (λ (d : Node). d.place) (node_of w es n) (place-at w es n ∙ h)

-- only the first one knows what stands before the list
pub newer-above : (v w : Option ℕ) (es : List (ℕ × Option Place)) (n : ℕ) → changed_at (first es) (with_newer w) n (node_of v es n) ≡ node_of w es n
newer-above v w [] n = refl
newer-above v w (e ∷ es) n =
    elim (nat_eq n e.0) as (λ t. cond t (option_map (with_newer w) (cond t (Some (node e.1 (first es) v)) (node_of (Some e.0) es n))) (cond t (Some (node e.1 (first es) v)) (node_of (Some e.0) es n)) ≡ cond t (Some (node e.1 (first es) w)) (node_of (Some e.0) es n)) [
      | true ↦ refl
      | false ↦ refl
    ]

-- its older neighbour is in the list
older-apart : (b n : ℕ) (w : Option ℕ) (es : List (ℕ × Option Place)) (d : Node) → lookup (nat_eq b) es ≡ None → node_of w es n ≡ Some d → is_number d.older b ≡ false
older-apart b n w [] d h is = absurd (cc)
older-apart b n w (e ∷ es) d h is =
    let rest = (none-both b e es h).1 in
    elim (nat_eq n e.0) as (λ t. cond t (Some (node e.1 (first es) w)) (node_of (Some e.0) es n) ≡ Some d → is_number d.older b ≡ false) [
      | true ↦ λ k. subst (λ (x : Node). is_number x.older b ≡ false) (same_Some (node e.1 (first es) w) d k) (first-apart b es rest)
      | false ↦ λ k. older-apart b n (Some e.0) es d rest k
    ] is

-- its newer one is there too, or stands before it
newer-apart : (b n : ℕ) (w : Option ℕ) (es : List (ℕ × Option Place)) (d : Node) → lookup (nat_eq b) es ≡ None → is_number w b ≡ false → node_of w es n ≡ Some d → is_number d.newer b ≡ false
newer-apart b n w [] d h o is = absurd (cc)
newer-apart b n w (e ∷ es) d h o is =
    let both = none-both b e es h in
    elim (nat_eq n e.0) as (λ t. cond t (Some (node e.1 (first es) w)) (node_of (Some e.0) es n) ≡ Some d → is_number d.newer b ≡ false) [
      | true ↦ λ k. subst (λ (x : Node). is_number x.newer b ≡ false) (same_Some (node e.1 (first es) w) d k) o
      | false ↦ λ k. newer-apart b n (Some e.0) es d both.1 both.0 k
    ] is

-- neither is itself
own-apart : (n : ℕ) (w : Option ℕ) (es : List (ℕ × Option Place)) (d : Node) → IsApart es → is_number w n ≡ false → node_of w es n ≡ Some d → (is_number d.older n ≡ false) × (is_number d.newer n ≡ false)
own-apart n w [] d h o is = absurd (cc)
own-apart n w (e ∷ es) d h o is =
    elim (nat_eq n e.0) as (λ t. nat_eq n e.0 ≡ t → cond t (Some (node e.1 (first es) w)) (node_of (Some e.0) es n) ≡ Some d → (is_number d.older n ≡ false) × (is_number d.newer n ≡ false)) [
      | true ↦ λ t k. subst (λ (x : Node). (is_number x.older n ≡ false) × (is_number x.newer n ≡ false)) (same_Some (node e.1 (first es) w) d k)
          (first-apart n es (subst (λ m. lookup (nat_eq m) es ≡ None) (same-number n e.0 t) h.0), o)
      | false ↦ λ t k. own-apart n (Some e.0) es d h.1 t k
    ] refl is

-- ---- a node leaves ----

-- before the list stands something that isn't in it
abbrev IsAbove : Option ℕ → List (ℕ × Option Place) → Type 0
IsAbove w es = (b : ℕ) → is_number w b ≡ true → lookup (nat_eq b) es ≡ None

above-rest : (n : ℕ) (es : List (ℕ × Option Place)) → lookup (nat_eq n) es ≡ None → IsAbove (Some n) es
above-rest n es h b t = subst (λ m. lookup (nat_eq m) es ≡ None) (same-number b n t) h

above-later : (w : Option ℕ) (e : ℕ × Option Place) (es : List (ℕ × Option Place)) → IsAbove w (e ∷ es) → IsAbove w es
above-later w e es h b t = (none-both b e es (h b t)).1

untouched : (v w : Option ℕ) (change : Node → Node) (es : List (ℕ × Option Place)) (q : ℕ) → IsAbove w es → changed_at w change q (node_of v es q) ≡ node_of v es q
untouched v w change es q h =
    elim (is_number w q) as (λ t. is_number w q ≡ t → cond t (option_map change (node_of v es q)) (node_of v es q) ≡ node_of v es q) [
      | true ↦ λ t. ap (option_map change) (no-node v es q (h q t)) ∙ sym (no-node v es q (h q t))
      | false ↦ λ t. refl
    ] refl

-- the first one of what is left
first-left : (a n : ℕ) (es : List (ℕ × Option Place)) (d : Node) → lookup (nat_eq a) es ≡ None → node_of (Some a) es n ≡ Some d → cond (is_number d.newer a) d.older (first es) ≡ first (remove_entry (nat_eq n) es)
first-left a n [] d h is = absurd (cc)
first-left a n (e ∷ es) d h is =
    let both = none-both a e es h in
    elim (nat_eq n e.0) as (λ t. cond t (Some (node e.1 (first es) (Some a))) (node_of (Some e.0) es n) ≡ Some d → cond (is_number d.newer a) d.older (Some e.0) ≡ first (cond t es (e ∷ remove_entry (nat_eq n) es))) [
      | true ↦ λ k. subst (λ (x : Node). cond (is_number x.newer a) x.older (Some e.0) ≡ first es) (same_Some (node e.1 (first es) (Some a)) d k) (ap (λ b. cond b (first es) (Some e.0)) (number-same a))
      | false ↦ λ k. ap (λ b. cond b d.older (Some e.0)) (newer-apart a n (Some e.0) es d both.1 both.0 k)
    ] is

newer-some : (a n : ℕ) (es : List (ℕ × Option Place)) (d : Node) → node_of (Some a) es n ≡ Some d → (b : ℕ) × (d.newer ≡ Some b)
newer-some a n [] d is = absurd (cc)
newer-some a n (e ∷ es) d is =
    elim (nat_eq n e.0) as (λ t. cond t (Some (node e.1 (first es) (Some a))) (node_of (Some e.0) es n) ≡ Some d → (b : ℕ) × (d.newer ≡ Some b)) [
      | true ↦ λ k. (a, sym (ap (λ (x : Node). x.newer) (same_Some (node e.1 (first es) (Some a)) d k)))
      | false ↦ λ k. newer-some e.0 n es d k
    ] is

pub newest-left : (n : ℕ) (es : List (ℕ × Option Place)) (d : Node) → node_of None es n ≡ Some d → newest_without (first es) d ≡ first (remove_entry (nat_eq n) es)
newest-left n [] d is = absurd (cc)
newest-left n (e ∷ es) d is =
    elim (nat_eq n e.0) as (λ t. cond t (Some (node e.1 (first es) None)) (node_of (Some e.0) es n) ≡ Some d → newest_without (Some e.0) d ≡ first (cond t es (e ∷ remove_entry (nat_eq n) es))) [
      | true ↦ λ k. subst (λ x. newest_without (Some e.0) x ≡ first es) (same_Some (node e.1 (first es) None) d k) refl
      | false ↦ λ k. ap (λ o. newest_without (Some e.0) (record { place = d.place; older = d.older; newer = o })) (newer-some e.0 n es d k).1
    ] is

-- the one before a list in which a node leaves
above-left : (a n : ℕ) (p : Option Place) (w : Option ℕ) (es : List (ℕ × Option Place)) (d : Node) → lookup (nat_eq a) es ≡ None → node_of (Some a) es n ≡ Some d → unlinked d a (Some (node p (first es) w)) ≡ Some (node p (first (remove_entry (nat_eq n) es)) w)
above-left a n p w es d h is =
    let left = first-left a n es d h is in
    let one = elim (is_number d.newer a) as (λ t. cond t d.older (first es) ≡ first (remove_entry (nat_eq n) es) → cond t (Some (node p d.older w)) (Some (node p (first es) w)) ≡ Some (node p (first (remove_entry (nat_eq n) es)) w)) [
      | true ↦ λ k. ap (λ o. Some (node p o w)) k
      | false ↦ λ k. ap (λ o. Some (node p o w)) k
    ] left in
    ap (λ t. cond t (option_map (with_newer d.newer) (changed_at d.newer (with_older d.older) a (Some (node p (first es) w)))) (changed_at d.newer (with_older d.older) a (Some (node p (first es) w)))) (older-apart a n (Some a) es d h is) ∙ one

pub unlinked-list : (n q : ℕ) (w : Option ℕ) (es : List (ℕ × Option Place)) (d : Node) → IsApart es → IsAbove w es → node_of w es n ≡ Some d → nat_eq q n ≡ false → unlinked d q (node_of w es q) ≡ node_of w (remove_entry (nat_eq n) es) q
unlinked-list n q w [] d h o is other = absurd (cc)
unlinked-list n q w (e ∷ es) d h o is other =
    elim (nat_eq n e.0) as (λ t. nat_eq n e.0 ≡ t → cond t (Some (node e.1 (first es) w)) (node_of (Some e.0) es n) ≡ Some d → unlinked d q (node_of w (e ∷ es) q) ≡ node_of w (cond t es (e ∷ remove_entry (nat_eq n) es)) q) [
      | true ↦ λ t k.
          let own = same_Some (node e.1 (first es) w) d k in
          let apart : nat_eq q e.0 ≡ false = subst (λ m. nat_eq q m ≡ false) (sym (same-number n e.0 t)) other in
          subst (λ x. unlinked x q (node_of w (e ∷ es) q) ≡ node_of w es q) own
          (ap (λ b. unlinked (node e.1 (first es) w) q (cond b (Some (node e.1 (first es) w)) (node_of (Some e.0) es q))) apart
          ∙ ap (changed_at (first es) (with_newer w) q) (untouched (Some e.0) w (with_older (first es)) es q (above-later w e es o))
          ∙ newer-above (Some e.0) w es q)
      | false ↦ λ t k. elim (nat_eq q e.0) as (λ b. nat_eq q e.0 ≡ b → unlinked d q (cond b (Some (node e.1 (first es) w)) (node_of (Some e.0) es q)) ≡ cond b (Some (node e.1 (first (remove_entry (nat_eq n) es)) w)) (node_of (Some e.0) (remove_entry (nat_eq n) es) q)) [
        | true ↦ λ b. subst (λ m. unlinked d m (Some (node e.1 (first es) w)) ≡ Some (node e.1 (first (remove_entry (nat_eq n) es)) w)) (same-number q e.0 b) (above-left e.0 n e.1 w es d h.0 k)
        | false ↦ λ b. unlinked-list n q (Some e.0) es d h.1 (above-rest e.0 es h.0) k other
      ] refl
    ] refl is

none-above : (es : List (ℕ × Option Place)) → IsAbove None es
none-above es b t = absurd (cc)

-- ---- a node comes in front ----

front-node : (n q : ℕ) (p : Option Place) (es : List (ℕ × Option Place)) (x : Option Node) → lookup (nat_eq n) es ≡ None → (nat_eq q n ≡ false → x ≡ node_of None es q) → (nat_eq q n ≡ true → x ≡ Some (node p (first es) None))
    → changed_at (first es) (with_newer (Some n)) q x ≡ node_of None ((n, p) ∷ es) q
front-node n q p es x none other own =
    elim (nat_eq q n) as (λ t. nat_eq q n ≡ t → (t ≡ false → x ≡ node_of None es q) → (t ≡ true → x ≡ Some (node p (first es) None)) → changed_at (first es) (with_newer (Some n)) q x ≡ cond t (Some (node p (first es) None)) (node_of (Some n) es q)) [
      | true ↦ λ t f g. ap (λ b. cond b (option_map (with_newer (Some n)) x) x) (subst (λ m. is_number (first es) m ≡ false) (sym (same-number n q (turned-same n q t))) (first-apart n es none)) ∙ g refl
      | false ↦ λ t f g. ap (changed_at (first es) (with_newer (Some n)) q) (f refl) ∙ newer-above None (Some n) es q
    ] refl other own
  where
    turned-same : (n q : ℕ) → nat_eq q n ≡ true → nat_eq n q ≡ true
    turned-same n q e = grind (arith, nat_tests)

-- ---- what the three changes leave ----

pub linked-found : {m : List (ℕ × Node)} {newest : Option ℕ} {es : List (ℕ × Option Place)} (n : ℕ) → IsLinked m newest es → lookup (nat_eq n) es ≡ option_map (λ (d : Node). d.place) (node_at m n)
linked-found {m} {newest} {es} n h = sym (ap (option_map (λ (d : Node). d.place)) (h.nodes n) ∙ place-at None es n)

-- a number whose node was replaced by one in front
pub linked-put : {m after : List (ℕ × Node)} {newest : Option ℕ} {es : List (ℕ × Option Place)} (n : ℕ) (p : Option Place) (older : Option ℕ) (d : Node) → IsLinked m newest es → node_at m n ≡ Some d → older ≡ newest_without newest d
    → ((q : ℕ) → node_at after q ≡ changed_at older (with_newer (Some n)) q (unlinked d q (cond (nat_eq q n) (Some (node p older None)) (node_at m q)))) → length after ≡ length m → IsLinked after (Some n) ((n, p) ∷ remove_entry (nat_eq n) es)
linked-put {m} {after} {newest} {es} n p older d h at is nodes count =
    let left = remove_entry (nat_eq n) es in
    let own : node_of None es n ≡ Some d = sym (h.nodes n) ∙ at in
    let front : older ≡ first left = is ∙ ap (λ o. newest_without o d) h.newest_is ∙ newest-left n es d own in
    let apart = own-apart n None es d h.apart refl own in
    let there : lookup (nat_eq n) es ≡ Some d.place = sym (place-at None es n) ∙ ap (option_map (λ (x : Node). x.place)) own in
    record {
      apart = apart-put n p es h.apart;
      newest_is = refl;
      nodes = λ q. nodes q ∙ ap (λ o. changed_at o (with_newer (Some n)) q (unlinked d q (cond (nat_eq q n) (Some (node p o None)) (node_at m q)))) front
          ∙ front-node n q p left (unlinked d q (cond (nat_eq q n) (Some (node p (first left) None)) (node_at m q))) (removed-none n es h.apart)
          (λ t. ap (λ b. unlinked d q (cond b (Some (node p (first left) None)) (node_at m q))) t ∙ ap (unlinked d q) (h.nodes q) ∙ unlinked-list n q None es d h.apart (none-above es) own t)
          (λ t. ap (λ b. unlinked d q (cond b (Some (node p (first left) None)) (node_at m q))) t ∙ itself n q d (Some (node p (first left) None)) (same-number q n t) apart.0 apart.1);
      fits = omega (arith, h.fits, count, length-left (nat_eq n) es d.place there);
    }
  where
    itself : (n q : ℕ) (d : Node) (x : Option Node) → n ≡ q → is_number d.older n ≡ false → is_number d.newer n ≡ false → unlinked d q x ≡ x
    itself n q d x e o w = subst (λ k. unlinked d k x ≡ x) e (ap (λ b. cond b (option_map (with_newer d.newer) (changed_at d.newer (with_older d.older) n x)) (changed_at d.newer (with_older d.older) n x)) o ∙ ap (λ b. cond b (option_map (with_older d.older) x) x) w)

-- the place of the one in front was replaced
pub linked-front : {m after : List (ℕ × Node)} (es : List (ℕ × Option Place)) (n : ℕ) (p : Option Place) (older : Option ℕ) (d : Node) → IsLinked m (Some n) es → node_at m n ≡ Some d → older ≡ newest_without (Some n) d
    → ((q : ℕ) → node_at after q ≡ cond (nat_eq q n) (Some (node p older None)) (node_at m q)) → length after ≡ length m → IsLinked after (Some n) ((n, p) ∷ remove_entry (nat_eq n) es)
linked-front {m} {after} [] n p older d h at is nodes count = absurd (cc)
linked-front {m} {after} (e ∷ es) n p older d h at is nodes count =
    let all = remove_entry (nat_eq n) (e ∷ es) in
    let same : e.0 ≡ n = sym (same_Some n e.0 h.newest_is) in
    let left : all ≡ es = ap (λ b. cond b es (e ∷ remove_entry (nat_eq n) es)) (ap (λ k. nat_eq n k) same ∙ number-same n) in
    let own : node_of None (e ∷ es) n ≡ Some d = sym (h.nodes n) ∙ at in
    let front : older ≡ first all = is ∙ ap (λ o. newest_without o d) h.newest_is ∙ newest-left n (e ∷ es) d own in
    let there : lookup (nat_eq n) (e ∷ es) ≡ Some d.place = sym (place-at None (e ∷ es) n) ∙ ap (option_map (λ (x : Node). x.place)) own in
    record {
      apart = apart-put n p (e ∷ es) h.apart;
      newest_is = refl;
      nodes = λ q. nodes q ∙ elim (nat_eq q n) as (λ t. nat_eq q n ≡ t → cond t (Some (node p older None)) (node_at m q) ≡ cond t (Some (node p (first all) None)) (node_of (Some n) all q)) [
        | true ↦ λ t. ap (λ o. Some (node p o None)) front
        | false ↦ λ t. h.nodes q ∙ ap (λ b. cond b (Some (node e.1 (first es) None)) (node_of (Some e.0) es q)) (ap (λ k. nat_eq q k) same ∙ t)
            ∙ ap (λ k. node_of (Some k) es q) same ∙ ap (λ xs. node_of (Some n) xs q) (sym left)
      ] refl;
      fits = omega (arith, h.fits, count, length-left (nat_eq n) (e ∷ es) d.place there);
    }

-- one that was taken out
pub linked-left : {m after : List (ℕ × Node)} {newest : Option ℕ} {es : List (ℕ × Option Place)} (n : ℕ) (d : Node) → IsLinked m newest es → node_at m n ≡ Some d
    → ((q : ℕ) → node_at after q ≡ unlinked d q (cond (nat_eq q n) None (node_at m q))) → length after + 1 ≡ length m → IsLinked after (newest_without newest d) (remove_entry (nat_eq n) es)
linked-left {m} {after} {newest} {es} n d h at nodes count =
    let left = remove_entry (nat_eq n) es in
    let own : node_of None es n ≡ Some d = sym (h.nodes n) ∙ at in
    let there : lookup (nat_eq n) es ≡ Some d.place = sym (place-at None es n) ∙ ap (option_map (λ (x : Node). x.place)) own in
    record {
      apart = apart-left n es h.apart;
      newest_is = ap (λ o. newest_without o d) h.newest_is ∙ newest-left n es d own;
      nodes = λ q. nodes q ∙ elim (nat_eq q n) as (λ t. nat_eq q n ≡ t → unlinked d q (cond t None (node_at m q)) ≡ node_of None left q) [
        | true ↦ λ t. nothing d q ∙ sym (no-node None left q (subst (λ k. lookup (nat_eq k) left ≡ None) (same-number q n t) (removed-none n es h.apart)))
        | false ↦ λ t. ap (unlinked d q) (h.nodes q) ∙ unlinked-list n q None es d h.apart (none-above es) own t
      ] refl;
      fits = omega (arith, h.fits, count, length-left (nat_eq n) es d.place there);
    }
  where
    unchanged : (o : Option ℕ) (change : Node → Node) (q : ℕ) → changed_at o change q None ≡ None
    unchanged o change q = elim (is_number o q) as (λ t. ◌≡◌ {A = Option Node} (cond t (option_map change None) None) None) [ true ↦ refl | false ↦ refl ]

    nothing : (d : Node) (q : ℕ) → unlinked d q None ≡ None
    nothing d q = ap (changed_at d.older (with_newer d.newer) q) (unchanged d.newer (with_older d.older) q) ∙ unchanged d.older (with_newer d.newer) q

-- a new one
pub linked-new : {m after : List (ℕ × Node)} {newest : Option ℕ} {es : List (ℕ × Option Place)} (n : ℕ) → IsLinked m newest es → lookup (nat_eq n) es ≡ None
    → ((q : ℕ) → node_at after q ≡ changed_at newest (with_newer (Some n)) q (cond (nat_eq q n) (Some (node None newest None)) (node_at m q))) → length after ≡ length m + 1 → IsLinked after (Some n) ((n, None) ∷ es)
linked-new {m} {after} {newest} {es} n h none nodes count = record {
  apart = (none, h.apart);
  newest_is = refl;
  nodes = λ q. nodes q ∙ ap (λ o. changed_at o (with_newer (Some n)) q (cond (nat_eq q n) (Some (node None o None)) (node_at m q))) h.newest_is
      ∙ front-node n q None es (cond (nat_eq q n) (Some (node None (first es) None)) (node_at m q)) none
      (λ t. ap (λ b. cond b (Some (node None (first es) None)) (node_at m q)) t ∙ h.nodes q)
      (λ t. ap (λ b. cond b (Some (node None (first es) None)) (node_at m q)) t);
  fits = omega (arith, h.fits, count);
}
