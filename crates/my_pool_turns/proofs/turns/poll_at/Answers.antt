use Rattle.std.proofs.Common.{◌≡◌, true, Some, None, ap, ◌∙◌}
use Rattle.my_pool_parts.specs.Lists.{found_is}
use Rattle.my_pool_core.specs.Owners.{place_at}
use Rattle.my_pool_turns.specs.Tasks.{is_place_of}
use Rattle.my_pool_turns.proofs.Working.{works-there, stays-there}
use Rattle.my_pool_turns.proofs.turns.poll_at.Goals as goal

pub take_out-requires : goal.take_out-requires
take_out-requires g c = works-there c.args.task (place_at c.args.number c.args.pool.now.state) c.requires

pub poll_on-requires-clause-out : goal.poll_on-requires-clause-out
poll_on-requires-clause-out g c = c.in-Some.ensures.handed.0

pub poll_on-requires-clause-place : goal.poll_on-requires-clause-place
poll_on-requires-clause-place g c =
    stays-there c.args.task c.args.number c.in-Some.out c.args.pool.now c.take_out.new.self c.in-Some.ensures.handed.1 c.in-Some.ensures.same c.requires

pub returns-in-Some : goal.returns-in-Some
returns-in-Some g c = record {
  one = Some c.in-Some.out;
  polls = record {
    number = c.in-Some.ensures.handed.1;
    between = c.take_out.new.self;
    same = c.in-Some.ensures.same;
    out = c.in-Some.ensures.kept;
    on = c.poll_on.ensures;
  };
}

pub returns-in-None : goal.returns-in-None
returns-in-None g c = record {
  one = None;
  polls = record { out = c.in-None.ensures.kept.0; same = c.in-None.ensures.same; kept = c.in-None.ensures.kept.1 };
}
