-- Walking a map of linked places from the newest one on.
use Rattle.std.proofs.Common.{◌≡◌, ℕ, ◌≤◌, true, false, cond, Option, Some, None, List, [], ◌∷◌, length, refl, sym, ap, ◌∙◌, arith, subst, nat_eq}
use Rattle.std.specs.Option.{option_map_or, IsSome}
use Rattle.std.specs.Map.{lookup}
use Rattle.std.proofs.lemmas.Option.{none-some, same_Some}
use Rattle.my_pool_parts.specs.declared.connection.Place.{Place}
use Rattle.my_pool_parts.specs.declared.node.Node.{Node}
use Rattle.my_pool_parts.specs.Arrived.{IsApart}
use Rattle.my_pool_parts.specs.Linked.{node, first, node_of, node_at, walk, in_order, IsLinked}
use Rattle.my_pool_parts.proofs.Order.{same-number, some-is}
use Rattle.my_pool_parts.proofs.Linked.{number-same, no-node}

-- a list that starts at a number, and whose nodes the map has; something newer may stand before it
pub record IsRest (m : List (ℕ × Node)) (number : Option ℕ) (es : List (ℕ × Option Place)) : Type 0 where
  pub newer : Option ℕ
  pub apart : IsApart es
  pub first_is : number ≡ first es
  pub nodes : (n : ℕ) (d : Node) → node_of newer es n ≡ Some d → node_at m n ≡ Some d
  pub fits : length es ≤ length m

later-node : (w : Option ℕ) (e : ℕ × Option Place) (es : List (ℕ × Option Place)) (n : ℕ) (d : Node) → lookup (nat_eq e.0) es ≡ None → node_of (Some e.0) es n ≡ Some d → node_of w (e ∷ es) n ≡ Some d
later-node w e es n d none is =
    elim (nat_eq n e.0) as (λ t. nat_eq n e.0 ≡ t → cond t (Some (node e.1 (first es) w)) (node_of (Some e.0) es n) ≡ Some d) [
      | true ↦ λ t. absurd (none-some d (sym (no-node (Some e.0) es n (subst (λ k. lookup (nat_eq k) es ≡ None) (same-number n e.0 t) none)) ∙ is))
      | false ↦ λ t. is
    ] refl

first-node : (w : Option ℕ) (e : ℕ × Option Place) (es : List (ℕ × Option Place)) → node_of w (e ∷ es) e.0 ≡ Some (node e.1 (first es) w)
first-node w e es = ap (λ t. cond t (Some (node e.1 (first es) w)) (node_of (Some e.0) es e.0)) (number-same e.0)

walked : (steps m : List (ℕ × Node)) (w : Option ℕ) (es : List (ℕ × Option Place)) → IsApart es → ((n : ℕ) (d : Node) → node_of w es n ≡ Some d → node_at m n ≡ Some d) → length es ≤ length steps → walk steps m (first es) ≡ es
walked [] m w [] apart nodes fits = refl
walked [] m w (e ∷ es) apart nodes fits = absurd (omega arith)
walked (x ∷ xs) m w [] apart nodes fits = refl
walked (x ∷ xs) m w (e ∷ es) apart nodes fits =
    ap (λ o. option_map_or (λ (d : Node). (e.0, d.place) ∷ walk xs m d.older) o []) (nodes e.0 (node e.1 (first es) w) (first-node w e es))
    ∙ ap (λ r. e ∷ r) (walked xs m (Some e.0) es apart.1 (λ n d is. nodes n d (later-node w e es n d apart.0 is)) (omega (arith, fits)))

pub rest-walked : {m : List (ℕ × Node)} {number : Option ℕ} {es : List (ℕ × Option Place)} → IsRest m number es → in_order m number ≡ es
rest-walked {m} {number} {es} h = ap (in_order m) h.first_is ∙ walked m m h.newer es h.apart h.nodes h.fits

pub linked-rest : {m : List (ℕ × Node)} {newest : Option ℕ} {es : List (ℕ × Option Place)} → IsLinked m newest es → IsRest m newest es
linked-rest {m} {newest} {es} h = record {
  newer = None;
  apart = h.apart;
  first_is = h.newest_is;
  nodes = λ n d is. h.nodes n ∙ is;
  fits = h.fits;
}

-- the list is what is seen
pub linked-order : {m : List (ℕ × Node)} {newest : Option ℕ} {es : List (ℕ × Option Place)} → IsLinked m newest es → in_order m newest ≡ es
linked-order h = rest-walked (linked-rest h)

pub linked-seen : {m : List (ℕ × Node)} {newest : Option ℕ} {es : List (ℕ × Option Place)} → IsLinked m newest es → IsLinked m newest (in_order m newest)
linked-seen {m} {newest} {es} h = subst (IsLinked m newest) (sym (linked-order h)) h

-- ---- one step of a walk ----

pub rest-end : (m : List (ℕ × Node)) → in_order m None ≡ []
rest-end [] = refl
rest-end (x ∷ m) = refl

-- where a number is left, the map has its node, and the rest goes on at its older neighbour
pub record IsStep (m : List (ℕ × Node)) (n : ℕ) (d : Node) : Type 0 where
  pub there : node_at m n ≡ Some d
  pub seen : in_order m (Some n) ≡ (n, d.place) ∷ in_order m d.older
  pub rest : IsRest m d.older (in_order m d.older)

pub rest-step : (m : List (ℕ × Node)) (n : ℕ) (es : List (ℕ × Option Place)) → IsRest m (Some n) es → (d : Node) × IsStep m n d
rest-step m n [] h = absurd (none-some n (sym h.first_is))
rest-step m n (e ∷ es) h =
    let d = node e.1 (first es) h.newer in
    let same : n ≡ e.0 = same_Some n e.0 h.first_is in
    let there : node_at m n ≡ Some d = ap (node_at m) same ∙ h.nodes e.0 d (first-node h.newer e es) in
    let rest : IsRest m (first es) es = record {
      newer = Some e.0;
      apart = h.apart.1;
      first_is = refl;
      nodes = λ k x is. h.nodes k x (later-node h.newer e es k x h.apart.0 is);
      fits = omega (arith, h.fits);
    } in (
      d,
      record {
        there = there;
        seen = rest-walked h ∙ ap (λ k. (k, e.1) ∷ es) (sym same) ∙ ap (λ xs. (n, e.1) ∷ xs) (sym (rest-walked rest));
        rest = subst (IsRest m (first es)) (sym (rest-walked rest)) rest;
      },
    )

-- the same at the node that was found
pub rest-at : (m : List (ℕ × Node)) (number : Option ℕ) (n : ℕ) (d : Node) → IsRest m number (in_order m number) → number ≡ Some n → node_at m n ≡ Some d → (in_order m number ≡ (n, d.place) ∷ in_order m d.older) × IsRest m d.older (in_order m d.older)
rest-at m number n d h is at =
    let s = rest-step m n (in_order m number) (subst (λ o. IsRest m o (in_order m number)) is h) in
    subst (λ (x : Node). (in_order m number ≡ (n, x.place) ∷ in_order m x.older) × IsRest m x.older (in_order m x.older)) (same_Some s.0 d (sym s.1.there ∙ at)) (ap (in_order m) is ∙ s.1.seen, s.1.rest)

pub rest-there : (m : List (ℕ × Node)) (number : Option ℕ) (n : ℕ) → IsRest m number (in_order m number) → number ≡ Some n → IsSome (node_at m n)
rest-there m number n h is =
    let s = rest-step m n (in_order m number) (subst (λ o. IsRest m o (in_order m number)) is h) in
    some-is (node_at m n) s.0 s.1.there
