use Rattle.std.proofs.Common.{◌≡◌, ◌+◌, None, cond, sym, ap, ◌∙◌, subst, nat_eq, option_map}
use Rattle.std.specs.Map.{lookup, remove_entry}
use Rattle.my_pool_parts.specs.declared.node.Node.{Node}
use Rattle.my_pool_parts.specs.Linked.{unlinked, node_at, in_order, IsLinked}
use Rattle.my_pool_parts.proofs.Linked.{at-number, left-absent, linked-found, linked-left}
use Rattle.my_pool_parts.proofs.Linked.Walked.{linked-order, linked-seen}
use Rattle.my_pool_parts.proofs.places.Places.pop.Goals as goal

pub returns-in_default : goal.returns-in_default
returns-in_default c =
    let n = c.args.number in
    let none = linked-found n c.self.invariant ∙ ap (option_map (λ (d : Node). d.place)) (sym c.in_default.ensures.value) in
    let absent = subst (λ es. lookup (nat_eq n) es ≡ None) c.self.view_is none in
    ap (λ m. in_order m c.self.inside.newest) c.in_default.ensures.unchanged ∙ c.self.view_is ∙ sym (left-absent (nat_eq n) c.args.self.now absent)

pub invariant_of-self-2 : goal.invariant_of-self-2
invariant_of-self-2 c =
    let n = c.args.number in
    let d = c.in-Some.old in
    let linked = linked-left n d c.self.invariant (sym c.in-Some.ensures.value)
    (λ q. c.unlink.ensures.nodes q ∙ ap (unlinked d q) (c.in-Some.ensures.updates.0 q ∙ ap (λ b. cond b None (node_at c.self.inside.nodes.entries q)) (at-number n q)))
    (ap (λ k. k + 1) c.unlink.ensures.count ∙ c.in-Some.ensures.len) in
    linked-seen (subst (λ o. IsLinked c.unlink.new.nodes.entries o (remove_entry (nat_eq n) (in_order c.self.inside.nodes.entries c.self.inside.newest))) (sym c.newest_without-self-inside.ensures) linked)

pub returns : goal.returns
returns c =
    let n = c.args.number in
    let d = c.in-Some.old in
    let linked = linked-left n d c.self.invariant (sym c.in-Some.ensures.value)
    (λ q. c.unlink.ensures.nodes q ∙ ap (unlinked d q) (c.in-Some.ensures.updates.0 q ∙ ap (λ b. cond b None (node_at c.self.inside.nodes.entries q)) (at-number n q)))
    (ap (λ k. k + 1) c.unlink.ensures.count ∙ c.in-Some.ensures.len) in
    ap (in_order c.unlink.new.nodes.entries) c.newest_without-self-inside.ensures ∙ linked-order linked ∙ ap (remove_entry (nat_eq n)) c.self.view_is
