use Rattle.std.proofs.Common.{subst}
use Rattle.my_steps.specs.Did.{MayWork}
use Rattle.my_steps.proofs.Working.Streaming.{missed}
use Rattle.my_steps.proofs.work.work_conn.Goals as goal

pub begin_there-requires : goal.begin_there-requires
begin_there-requires g c = subst MayWork c.in-Begin.is c.requires

pub returns-in-Begin-clause-did : goal.returns-in-Begin-clause-did
returns-in-Begin-clause-did g c = rw c.in-Begin.is c.begin_there.ensures.did

pub returns-in-Read-clause-did : goal.returns-in-Read-clause-did
returns-in-Read-clause-did g c = rw c.in-Read.is c.read_call.ensures.did

pub returns-in-Item-clause-did : goal.returns-in-Item-clause-did
returns-in-Item-clause-did g c = rw c.in-Item.is c.item_call-did.ensures

pub returns-in-LetGo-clause-did : goal.returns-in-LetGo-clause-did
returns-in-LetGo-clause-did g c = rw c.in-LetGo.is c.let_go-did.ensures

pub returns-in-Miss-clause-did : goal.returns-in-Miss-clause-did
returns-in-Miss-clause-did g c = rw c.in-Miss.is (λ login w. missed g.L.Link.looks login c.args.conn c.unused.result.outcome c.unused.result.uses.items c.unused.ensures.outcome c.unused.ensures.uses w)

pub returns-in-Fields-clause-did : goal.returns-in-Fields-clause-did
returns-in-Fields-clause-did g c = rw c.in-Fields.is c.tell-did.ensures

pub returns-in-Poll-clause-did : goal.returns-in-Poll-clause-did
returns-in-Poll-clause-did g c = rw c.in-Poll.is c.resume_there.ensures.did

pub returns-in-Cancel-clause-did : goal.returns-in-Cancel-clause-did
returns-in-Cancel-clause-did g c = rw c.in-Cancel.is c.cancel_there-did.ensures
