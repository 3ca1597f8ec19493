use Rattle.std.proofs.Common.{refl, rules}
use Rattle.my_judge.proofs.Settling.{and_decides}
use Rattle.my_judge.proofs.stand.Stand.settle.Goals as goal

pub returns : goal.returns
returns c = record {
  count_is = search rules;
  machine_is = c.sent.ensures;
  sent_is = refl;
  settled_is = refl;
  right_is = and_decides c.args.self.now.right c.is_paid-right.result _ c.is_paid-right.ensures;
}
