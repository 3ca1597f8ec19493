use Rattle.my_steps.proofs.stream.follow.Goals as goal

pub returns-in-Take-clause-did : goal.returns-in-Take-clause-did
returns-in-Take-clause-did g c = rw c.in-Take.is c.begin_there.ensures.did

pub returns-in-Row-clause-did : goal.returns-in-Row-clause-did
returns-in-Row-clause-did g c = rw c.in-Row.is c.begin_there-in-Row.ensures.did
