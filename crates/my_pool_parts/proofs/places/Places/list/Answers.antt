use Rattle.std.proofs.Common.{[], ◌∷◌, ◌++◌, length, sym, ap, ◌∙◌, arith, append_assoc, append-nil, reverse}
use Rattle.my_pool_parts.specs.Connections.{placed}
use Rattle.my_pool_parts.specs.Arrived.{counted}
use Rattle.my_pool_parts.specs.Linked.{in_order}
use Rattle.my_pool_parts.proofs.Order.{backwards, at_first, counted-back}
use Rattle.my_pool_parts.proofs.Linked.Walked.{linked-rest, rest-at, rest-end, rest-there}
use Rattle.my_pool_parts.proofs.places.Places.list.Goals as goal

pub index-node-requires : goal.index-node-requires
index-node-requires c = rest-there c.self.inside.nodes.entries c.loop-at.at c.in-Some.number c.loop-at.invariant.rest c.in-Some.is

pub loop-at-smaller-in_ok-push : goal.loop-at-smaller-in_ok-push
loop-at-smaller-in_ok-push c =
    let s = rest-at c.self.inside.nodes.entries c.loop-at.at c.in-Some.number c.index-node.result.now c.loop-at.invariant.rest c.in-Some.is c.index-node.ensures in
    omega (arith, ap length s.0)

pub loop-at-preserved-in_ok-push : goal.loop-at-preserved-in_ok-push
loop-at-preserved-in_ok-push c =
    let m = c.self.inside.nodes.entries in
    let n = c.in-Some.number in
    let d = c.index-node.result.now in
    let s = rest-at m c.loop-at.at n d c.loop-at.invariant.rest c.in-Some.is c.index-node.ensures in
    let all = c.loop-at.all.items in
    let rest = backwards (in_order m d.older) in
    record {
      rest = s.1;
      items = ap (λ xs. xs ++ rest) c.in_ok-push.ensures.items ∙ append_assoc all (placed n c.in-Some-place.place ∷ []) rest
          ∙ ap (λ p. all ++ at_first n p rest) (sym c.in-Some-place.is) ∙ ap (λ es. all ++ backwards es) (sym s.0) ∙ c.loop-at.invariant.items;
    }

pub loop-at-smaller : goal.loop-at-smaller
loop-at-smaller c =
    let s = rest-at c.self.inside.nodes.entries c.loop-at.at c.in-Some.number c.index-node.result.now c.loop-at.invariant.rest c.in-Some.is c.index-node.ensures in
    omega (arith, ap length s.0)

pub loop-at-preserved : goal.loop-at-preserved
loop-at-preserved c =
    let m = c.self.inside.nodes.entries in
    let n = c.in-Some.number in
    let d = c.index-node.result.now in
    let s = rest-at m c.loop-at.at n d c.loop-at.invariant.rest c.in-Some.is c.index-node.ensures in
    let all = c.loop-at.all.items in
    record {
      rest = s.1;
      items = ap (λ p. all ++ at_first n p (backwards (in_order m d.older))) (sym c.in_default-place.is) ∙ ap (λ es. all ++ backwards es) (sym s.0) ∙ c.loop-at.invariant.items;
    }

pub loop-at-init : goal.loop-at-init
loop-at-init c = record {
  rest = linked-rest c.self.invariant;
  items = ap (λ xs. xs ++ backwards (in_order c.self.inside.nodes.entries c.self.inside.newest)) c.new-all.ensures.items;
}

pub returns : goal.returns
returns c =
    let m = c.self.inside.nodes.entries in
    let all = c.loop-at.all.items in
    let end = ap (in_order m) c.in_default.is ∙ rest-end m in
    c.reverse.ensures.items ∙ ap reverse (sym (append-nil all) ∙ ap (λ es. all ++ backwards es) (sym end) ∙ c.loop-at.invariant.items)
    ∙ sym (counted-back (in_order m c.self.inside.newest)) ∙ ap counted c.self.view_is
