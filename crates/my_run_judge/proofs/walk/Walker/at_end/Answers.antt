use Rattle.std.proofs.lemmas.List.{nil_from_length}
use Rattle.my_run_judge.specs.Seen.{seen}
use Rattle.my_run_judge.proofs.Whole.{over_right, over_wrong}
use Rattle.my_run_judge.proofs.walk.Walker.at_end.Goals as goal

pub returns-then-branch : goal.returns-then-branch
returns-then-branch c = over_right c.args.login.now c.args.number (seen c.args.tape.now) c.args.index c.args.made.now c.args.self.now c.args.others.now (nil_from_length c.args.others.now c.in_default.ensures.cases)
    (rw c.if-branch.true at c.in_ok-is_over.ensures)

pub returns : goal.returns
returns c = over_wrong c.args.login.now c.args.number (seen c.args.tape.now) c.args.index c.args.made.now c.args.self.now c.args.others.now (nil_from_length c.args.others.now c.in_default.ensures.cases)
    (rw c.if-branch.false at c.in_ok-is_over.ensures)
