use Rattle.std.proofs.Common.{true, false, sym, ◌∙◌}
use Rattle.std.proofs.lemmas.List.{at_drop_all}
use Rattle.std.specs.List.{list_all}
use Rattle.my_server.specs.Faults.{is_set}
use Rattle.my_server.proofs.Every.{all_by_next}
use Rattle.my_server.proofs.check.are_sets.Goals as goal

pub loop-set-preserved : goal.loop-set-preserved
loop-set-preserved c =
    all_by_next is_set c.args.sets.now c.loop-set.set-index c.set-item.result true c.loop-set-test.true c.set-item.is (c.if-not-is_set.ensures) c.loop-set.invariant

pub returns-then-not-is_set : goal.returns-then-not-is_set
returns-then-not-is_set c =
    all_by_next is_set c.args.sets.now c.loop-set.set-index c.set-item.result false c.loop-set-test.true c.set-item.is (c.if-not-is_set.ensures) c.loop-set.invariant

pub returns : goal.returns
returns c = sym (at_drop_all (list_all is_set) c.args.sets.now c.loop-set.set-index c.loop-set-test.false) ∙ c.loop-set.invariant
