use Rattle.std.proofs.Common.{◌+◌, ◌-◌, ◌*◌, ◌/◌, length, arith}
use Rattle.my_machine.proofs.Counting.{after_all, after_last, all_there, query_there}
use Rattle.my_machine.proofs.part.query_part.Goals as goal

pub returns-then-place-count : goal.returns-then-place-count
returns-then-place-count c = λ texts tail count short last is.
    after_all c.args.login.now c.args.call.now tail texts c.args.n (c.args.n - (2 * length texts + 2)) (omega (arith, count)) short

pub returns-then-n-eq0 : goal.returns-then-n-eq0
returns-then-n-eq0 c = λ texts tail count short last is. all_there c.args.login.now c.args.call.now tail texts c.args.n (c.args.n / 2) (omega arith) (omega (arith, count))

pub returns-then-place-count-2 : goal.returns-then-place-count-2
returns-then-place-count-2 c = λ texts tail count short last is.
    query_there c.args.login.now c.args.call.now tail texts c.args.n (c.args.n / 2) c.args.text (omega arith) (omega (arith, count)) is

pub returns : goal.returns
returns c = λ texts tail count short last is. after_last c.args.login.now c.args.call.now tail texts c.args.n c.args.last (omega (arith, count)) last
