use Rattle.my_pool_turns.specs.declared.task.Worked.TheVariants.{Pending, Done, Failed}
use Rattle.my_pool_turns.proofs.Working.{may-do, out-open, out-still, at-place, done-failed}
use Rattle.my_pool_turns.proofs.turns.poll_on.Goals as goal

pub work-requires : goal.work-requires
work-requires g c = may-do c.args.task c.args.out c.args.pool.now c.requires.out c.requires.place

pub put_back-requires : goal.put_back-requires
put_back-requires g c = out-open c.args.task c.args.out c.work.new.out c.args.pool.now c.requires.out c.in-Pending.ensures.number c.requires.place c.in-Pending.ensures.leaves

pub end-requires-clause-out : goal.end-requires-clause-out
end-requires-clause-out g c = out-still c.args.out c.work.new.out c.args.pool.now c.requires.out c.in-Done.ensures.number c.in-Done.ensures.leaves.0

pub end-requires-clause-place : goal.end-requires-clause-place
end-requires-clause-place g c = at-place c.args.task c.args.out c.work.new.out c.args.pool.now c.in-Done.ensures.number c.requires.place

pub done-requires-clause-done : goal.done-requires-clause-done
done-requires-clause-done g c = done-failed c.args.task c.args.out c.work.new.out c.args.pool.now c.requires.out c.in-Failed.ensures.number c.requires.place

pub returns-in-Pending : goal.returns-in-Pending
returns-in-Pending g c = record {
  worked = Pending;
  after = c.work.new.out;
  number = c.in-Pending.ensures.number;
  works = c.in-Pending.ensures.works;
  ends = record { same = c.put_back.ensures.same; kept = c.put_back.ensures.kept };
}

pub returns-in-Done : goal.returns-in-Done
returns-in-Done g c = record {
  worked = Done;
  after = c.work.new.out;
  number = c.in-Done.ensures.number;
  works = c.in-Done.ensures.works;
  ends = c.end.ensures;
}

pub returns-in-Failed : goal.returns-in-Failed
returns-in-Failed g c = record {
  worked = Failed;
  after = c.work.new.out;
  number = c.in-Failed.ensures.number;
  works = c.in-Failed.ensures.works;
  ends = record {
    verdict = c.done.result;
    made = c.done.ensures.made;
    called = c.done.ensures.called;
    put = c.done.ensures.kept;
  };
}
