use Rattle.std.proofs.Common.{◌∷◌, Some, None, cond, sym, ap, ◌∙◌, subst, nat_eq}
use Rattle.std.specs.Map.{lookup, remove_entry}
use Rattle.std.specs.Option.{IsSome, option_copied_mut}
use Rattle.my_pool_parts.specs.declared.node.Node.{Node}
use Rattle.my_pool_parts.specs.Linked.{node, with_newer, changed_at, unlinked, newest_without, node_at, in_order, IsLinked}
use Rattle.my_pool_parts.proofs.Order.{some-mapped, some-is}
use Rattle.my_pool_parts.proofs.Linked.{at-number, linked-found, linked-put, linked-front}
use Rattle.my_pool_parts.proofs.Linked.Walked.{linked-order, linked-seen}
use Rattle.my_pool_parts.proofs.places.Places.put.Goals as goal

pub unwrap-node-requires : goal.unwrap-node-requires
unwrap-node-requires c =
    let n = c.args.number in
    let placed = subst IsSome (linked-found n c.self.invariant) (subst (λ es. IsSome (lookup (nat_eq n) es)) (sym c.self.view_is) c.requires) in
    let there = some-mapped (λ (d : Node). d.place) (node_at c.self.inside.nodes.entries n) placed in
    some-mapped (λ x. x.now) c.get_mut.result (subst IsSome (sym c.get_mut.ensures.value) there)

pub invariant_of-self : goal.invariant_of-self
invariant_of-self c =
    let m = c.self.inside.nodes.entries in
    let n = c.args.number in
    let d = c.unwrap-node.result.now in
    let older = c.newest_without-older.result in
    let wrote = c.get_mut.follows.holds (node c.args.place older None) in
    let at = sym c.get_mut.ensures.value ∙ ap option_copied_mut c.unwrap-node.ensures in
    let there = wrote.3 (some-is _ d at) in
    let first = c.in-Some.is ∙ ap Some c.if-newest-number.true in
    let linked = subst (λ o. IsLinked m o (in_order m c.self.inside.newest)) first c.self.invariant in
    linked-seen (subst (λ o. IsLinked (c.get_mut.follows.lender (node c.args.place older None)).entries o ((n, c.args.place) ∷ remove_entry (nat_eq n) (in_order m c.self.inside.newest))) (sym first)
    (linked-front (in_order m c.self.inside.newest) n c.args.place older d linked at (c.newest_without-older.ensures ∙ ap (λ o. newest_without o d) first)
    (λ q. there.0 q ∙ ap (λ b. cond b (Some (node c.args.place older None)) (node_at m q)) (at-number n q)) wrote.2))

pub returns : goal.returns
returns c =
    let m = c.self.inside.nodes.entries in
    let n = c.args.number in
    let d = c.unwrap-node.result.now in
    let older = c.newest_without-older.result in
    let wrote = c.get_mut.follows.holds (node c.args.place older None) in
    let at = sym c.get_mut.ensures.value ∙ ap option_copied_mut c.unwrap-node.ensures in
    let there = wrote.3 (some-is _ d at) in
    let first = c.in-Some.is ∙ ap Some c.if-newest-number.true in
    let linked = subst (λ o. IsLinked m o (in_order m c.self.inside.newest)) first c.self.invariant in
    linked-order (subst (λ o. IsLinked (c.get_mut.follows.lender (node c.args.place older None)).entries o ((n, c.args.place) ∷ remove_entry (nat_eq n) (in_order m c.self.inside.newest))) (sym first)
    (linked-front (in_order m c.self.inside.newest) n c.args.place older d linked at (c.newest_without-older.ensures ∙ ap (λ o. newest_without o d) first)
    (λ q. there.0 q ∙ ap (λ b. cond b (Some (node c.args.place older None)) (node_at m q)) (at-number n q)) wrote.2))
    ∙ ap (λ es. (n, c.args.place) ∷ remove_entry (nat_eq n) es) c.self.view_is

pub invariant_of-self-2 : goal.invariant_of-self-2
invariant_of-self-2 c =
    let n = c.args.number in
    let d = c.unwrap-node.result.now in
    let older = c.newest_without-older.result in
    let front = node c.args.place older None in
    let wrote = c.get_mut.follows.holds front in
    let at = sym c.get_mut.ensures.value ∙ ap option_copied_mut c.unwrap-node.ensures in
    let there = wrote.3 (some-is _ d at) in
    linked-seen (linked-put n c.args.place older d c.self.invariant at c.newest_without-older.ensures
    (λ q. c.set_newer.ensures.nodes q ∙ ap (changed_at older (with_newer (Some n)) q) (c.unlink.ensures.nodes q ∙ ap (unlinked d q) (there.0 q ∙ ap (λ b. cond b (Some front) (node_at c.self.inside.nodes.entries q)) (at-number n q))))
    (c.set_newer.ensures.count ∙ c.unlink.ensures.count ∙ wrote.2))

pub returns-2 : goal.returns-2
returns-2 c =
    let n = c.args.number in
    let d = c.unwrap-node.result.now in
    let older = c.newest_without-older.result in
    let front = node c.args.place older None in
    let wrote = c.get_mut.follows.holds front in
    let at = sym c.get_mut.ensures.value ∙ ap option_copied_mut c.unwrap-node.ensures in
    let there = wrote.3 (some-is _ d at) in
    linked-order (linked-put n c.args.place older d c.self.invariant at c.newest_without-older.ensures
    (λ q. c.set_newer.ensures.nodes q ∙ ap (changed_at older (with_newer (Some n)) q) (c.unlink.ensures.nodes q ∙ ap (unlinked d q) (there.0 q ∙ ap (λ b. cond b (Some front) (node_at c.self.inside.nodes.entries q)) (at-number n q))))
    (c.set_newer.ensures.count ∙ c.unlink.ensures.count ∙ wrote.2))
    ∙ ap (λ es. (n, c.args.place) ∷ remove_entry (nat_eq n) es) c.self.view_is
