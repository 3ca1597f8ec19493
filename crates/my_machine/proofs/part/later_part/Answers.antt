use Rattle.std.proofs.Common.{◌≡◌, suc, ◌+◌, ◌/◌, ◌%◌, drop, Some, subst, arith}
use Rattle.my_reading.specs.Course.{parts_of_lists}
use Rattle.my_machine.specs.declared.part.Part.TheVariants as parts
use Rattle.my_machine.specs.Parts.{IsFirst}
use Rattle.my_machine.proofs.Counting.{after_lists, all_between, list_there}
use Rattle.my_machine.proofs.part.later_part.Goals as goal

pub returns-then-place-lists : goal.returns-then-place-lists
returns-then-place-lists c = after_lists c.args.login.now c.args.call.now c.args.lists.now c.requires c.args.n (c.args.n / 6) (omega arith) (omega arith)

pub returns-in-0 : goal.returns-in-0
returns-in-0 c =
    let next : suc (c.args.n / 6) ≡ 1 + c.args.n / 6 = omega arith in
    subst (λ place. IsFirst c.args.login.now c.args.call.now (Some (parts.Check place)) (drop c.args.n (parts_of_lists (drop 1 c.args.lists.now)))) next
    (list_there c.args.login.now c.args.call.now c.args.lists.now c.requires c.args.n (c.args.n / 6) 0 (omega arith) (omega arith) (omega arith))

pub returns-in-2 : goal.returns-in-2
returns-in-2 c =
    let next : suc (c.args.n / 6) ≡ 1 + c.args.n / 6 = omega arith in
    subst (λ place. IsFirst c.args.login.now c.args.call.now (Some (parts.Run place)) (drop c.args.n (parts_of_lists (drop 1 c.args.lists.now)))) next
    (list_there c.args.login.now c.args.call.now c.args.lists.now c.requires c.args.n (c.args.n / 6) 2 (omega arith) (omega arith) (omega arith))

pub returns-in-3 : goal.returns-in-3
returns-in-3 c = list_there c.args.login.now c.args.call.now c.args.lists.now c.requires c.args.n (c.args.n / 6) 3 (omega arith) (omega arith) (omega arith)

pub returns-in-4 : goal.returns-in-4
returns-in-4 c = list_there c.args.login.now c.args.call.now c.args.lists.now c.requires c.args.n (c.args.n / 6) 4 (omega arith) (omega arith) (omega arith)

pub returns-in_default : goal.returns-in_default
returns-in_default c = all_between c.args.login.now c.args.call.now c.args.lists.now c.requires c.args.n (c.args.n / 6) (c.args.n % 6) (omega arith) (omega arith) (λ e. grind (arith, e)) (λ e. grind (arith, e)) (λ e. grind (arith, e)) (λ e. grind (arith, e)) (omega arith)
