-- One exchange more, the last one, and the end.
use Rattle.std.proofs.Common.{arith, ◌+◌, drop, refl, sym, ◌∙◌}
use Rattle.my_grammar.proofs.Cutting.CutSteps.{at_end, at_index, cut_all, cut_at_last, cut_one_more}
use Rattle.my_grammar.proofs.cut.cut_bytes.Goals as goal

pub loop-opening-preserved : goal.loop-opening-preserved
loop-opening-preserved c =
    let w = at_index c.args.login.now c.args.openings.now c.args.bytes.now c.loop-opening.exchanges.items c.loop-opening.opening-index c.opening-item.result c.loop-opening.rest.now (omega arith) c.opening-item.is c.loop-opening.invariant in
    let next = cut_one_more c.args.login.now c.args.openings.now c.args.bytes.now c.loop-opening.exchanges.items c.opening-item.result (drop (c.loop-opening.opening-index + 1) c.args.openings.now) c.loop-opening.rest.now c.in_ok-progress.after.now c.in_ok-progress.progress w c.in_ok-progress.ensures (sym c.is_idle-over.ensures ∙ c.if-not-over.false) in
    rw (c.in_ok-add.ensures) next

pub returns-then-not-over : goal.returns-then-not-over
returns-then-not-over c =
    let w = at_index c.args.login.now c.args.openings.now c.args.bytes.now c.loop-opening.exchanges.items c.loop-opening.opening-index c.opening-item.result c.loop-opening.rest.now (omega arith) c.opening-item.is c.loop-opening.invariant in
    cut_at_last c.args.login.now c.args.openings.now c.args.bytes.now c.loop-opening.exchanges.items c.opening-item.result (drop (c.loop-opening.opening-index + 1) c.args.openings.now) c.loop-opening.rest.now c.in_ok-progress.after.now c.in_ok-progress.progress _ w c.in_ok-progress.ensures (sym c.is_idle-over.ensures ∙ c.if-not-over.true) c.in_ok-add.ensures c.rest_in_front-following.ensures

pub returns : goal.returns
returns c =
    cut_all c.args.login.now c.args.openings.now c.args.bytes.now c.loop-opening.rest.now _ (at_end c.args.login.now c.args.openings.now c.args.bytes.now c.loop-opening.exchanges.items c.loop-opening.opening-index c.loop-opening.rest.now (omega arith) c.loop-opening.invariant) refl
