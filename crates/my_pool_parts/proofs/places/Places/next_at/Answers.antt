use Rattle.std.proofs.Common.{◌∙◌, sym, subst}
use Rattle.my_pool_parts.proofs.Linked.Least.{IsAhead, ahead-all, ahead-first, ahead-next, ahead-none}
use Rattle.my_pool_parts.proofs.places.Places.next_at.Goals as goal

pub loop-number-init : goal.loop-number-init
loop-number-init c =
    subst (λ es. IsAhead es c.args.kind c.args.from c.into_iter-number-iterator.result) c.self.view_is
    (ahead-all c.args.kind c.args.from _ c.self.invariant c.range-number-items.ensures.ordered (c.into_iter-number-iterator.ensures.into_iter_gives ∙ c.range-number-items.ensures.between tt))

pub loop-number-preserved : goal.loop-number-preserved
loop-number-preserved c =
    let d = c.in-Some.node.now in
    ahead-next c.args.self.now c.args.kind c.args.from c.in-Some.number.now d c.next.new.self
    (subst (IsAhead c.args.self.now c.args.kind c.args.from) c.in-Some.ensures.steps c.loop-number.invariant) (sym c.is_at.ensures ∙ c.if-is_at.false)

pub returns-then-is_at : goal.returns-then-is_at
returns-then-is_at c =
    let d = c.in-Some.node.now in
    sym (ahead-first c.args.self.now c.args.kind c.args.from c.in-Some.number.now d c.next.new.self
    (subst (IsAhead c.args.self.now c.args.kind c.args.from) c.in-Some.ensures.steps c.loop-number.invariant) (sym c.is_at.ensures ∙ c.if-is_at.true))

pub returns : goal.returns
returns c =
    sym (ahead-none c.args.self.now c.args.kind c.args.from (subst (IsAhead c.args.self.now c.args.kind c.args.from) c.in-None.ensures.steps.0 c.loop-number.invariant))
