use Rattle.std.proofs.Common.{sym, subst}
use Rattle.my_pool_requests.specs.Being.{IsBeingMade}
use Rattle.my_pool_requests.specs.Makes.{MakesOn}
use Rattle.my_pool_requests.proofs.asking.poll_making.Goals as goal

pub make_on-made-requires : goal.make_on-made-requires
make_on-made-requires g c = subst IsBeingMade (sym c.into_making-making.ensures) c.requires.being

pub returns-clause-makes : goal.returns-clause-makes
returns-clause-makes g c = record {
  made = c.make_on-made.result;
  makes = subst (λ m. MakesOn g.L.Link.looks (g.A.AfterConnect.texts c.args.aid.now) c.args.now m c.make_on-made.result) c.into_making-making.ensures c.make_on-made.ensures.makes;
  settled = c.settle.ensures.settled;
}
