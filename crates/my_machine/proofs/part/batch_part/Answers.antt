use Rattle.std.proofs.Common.{◌≤◌, arith}
use Rattle.my_machine.proofs.Counting.{later_there}
use Rattle.my_machine.proofs.part.batch_part.Goals as goal

pub returns-in_default : goal.returns-in_default
returns-in_default c =
    let past : 9 ≤ c.args.n = grind arith in
    later_there c.args.login.now c.args.call.now c.args.lists.now c.requires c.args.n c.later_part.result (omega arith) past c.later_part.ensures
