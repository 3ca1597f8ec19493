use Rattle.std.proofs.Common.{◌≡◌, ◌+◌, ◌∷◌, Some, None, cond, length, sym, ap, ◌∙◌, subst, nat_eq}
use Rattle.std.specs.Prelude.{is_some, if◌then◌else◌}
use Rattle.std.specs.Map.{lookup}
use Rattle.my_pool_parts.specs.Linked.{node, with_newer, changed_at, node_at}
use Rattle.my_pool_parts.proofs.Linked.{at-number, no-node, linked-new}
use Rattle.my_pool_parts.proofs.Linked.Walked.{linked-order, linked-seen}
use Rattle.my_pool_parts.proofs.places.Places.insert.Goals as goal

pub invariant_of-self-2 : goal.invariant_of-self-2
invariant_of-self-2 c =
    let n = c.args.number in
    let m = c.self.inside.nodes.entries in
    let newest = c.self.inside.newest in
    let none = subst (λ es. lookup (nat_eq n) es ≡ None) (sym c.self.view_is) c.requires in
    let absent = c.in_ok-insert.ensures.old ∙ c.self.invariant.nodes n ∙ no-node None _ n none in
    linked-seen (linked-new n c.self.invariant none
    (λ q. c.set_newer.ensures.nodes q ∙ ap (changed_at newest (with_newer (Some n)) q) (c.in_ok-insert.ensures.updates.0 q ∙ ap (λ b. cond b (Some (node None newest None)) (node_at m q)) (at-number n q)))
    (c.set_newer.ensures.count ∙ c.in_ok-insert.ensures.len ∙ ap (λ o. length m + (if is_some o then 0 else 1)) absent))

pub returns-clause-ok : goal.returns-clause-ok
returns-clause-ok c =
    let n = c.args.number in
    let m = c.self.inside.nodes.entries in
    let newest = c.self.inside.newest in
    let none = subst (λ es. lookup (nat_eq n) es ≡ None) (sym c.self.view_is) c.requires in
    let absent = c.in_ok-insert.ensures.old ∙ c.self.invariant.nodes n ∙ no-node None _ n none in
    linked-order (linked-new n c.self.invariant none
    (λ q. c.set_newer.ensures.nodes q ∙ ap (changed_at newest (with_newer (Some n)) q) (c.in_ok-insert.ensures.updates.0 q ∙ ap (λ b. cond b (Some (node None newest None)) (node_at m q)) (at-number n q)))
    (c.set_newer.ensures.count ∙ c.in_ok-insert.ensures.len ∙ ap (λ o. length m + (if is_some o then 0 else 1)) absent))
    ∙ ap (λ es. (n, None) ∷ es) c.self.view_is
