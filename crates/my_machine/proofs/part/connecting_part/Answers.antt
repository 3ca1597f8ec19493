use Rattle.std.proofs.Common.{◌-◌, ◌/◌, arith}
use Rattle.std.proofs.lemmas.Bool.Decides.{nat_tests}
use Rattle.my_machine.proofs.Counting.{after_text, after_texts, text_there}
use Rattle.my_machine.proofs.part.connecting_part.Goals as goal

pub returns-then-not-has_text : goal.returns-then-not-has_text
returns-then-not-has_text c = after_texts c.args.login.now c.args.call.now c.args.n (c.args.n - 1) (omega arith) (grind (arith, nat_tests))

pub returns-then-n-eq1 : goal.returns-then-n-eq1
returns-then-n-eq1 c = text_there c.args.login.now c.args.call.now c.args.n ((c.args.n - 1) / 2) (omega arith) (grind (arith, nat_tests))

pub returns : goal.returns
returns c = after_text c.args.login.now c.args.call.now c.args.n ((c.args.n - 1) / 2) (omega arith) (grind (arith, nat_tests))
