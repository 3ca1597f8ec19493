use Rattle.my_params.proofs.Texts.Gathering.{gathers_all, gathers_more, gathered_none}
use Rattle.my_params.proofs.named.gather.Goals as goal

pub loop-init : goal.loop-init
loop-init c = gathers_all _ _ _ c.new.ensures.items c.new-2.ensures.items

pub loop-preserved : goal.loop-preserved
loop-preserved c = gathers_more _ _ _ _ _ _ _ _ _ _ _ _ c.loop-test.true c.in-Some.ensures c.in_ok-add-in-Some.ensures.query c.in_ok-add-in-Some.ensures.params c.in_ok-add-in-Some.ensures.marked c.loop.invariant

pub returns-in-None-clause-query : goal.returns-in-None-clause-query
returns-in-None-clause-query c = (gathered_none _ _ _ _ _ _ _ c.loop-test.true c.in-None.ensures c.loop.invariant).sent_is

pub returns-in-None-clause-params : goal.returns-in-None-clause-params
returns-in-None-clause-params c = (gathered_none _ _ _ _ _ _ _ c.loop-test.true c.in-None.ensures c.loop.invariant).names_are

pub returns-in-None-clause-marked : goal.returns-in-None-clause-marked
returns-in-None-clause-marked c = (gathered_none _ _ _ _ _ _ _ c.loop-test.true c.in-None.ensures c.loop.invariant).marked_is
