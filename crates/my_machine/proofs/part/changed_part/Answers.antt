use Rattle.std.proofs.Common.{◌≡◌, suc, ◌-◌, drop, subst, arith}
use Rattle.my_machine.specs.Parts.{IsFirst, changed_parts}
use Rattle.my_machine.proofs.part.changed_part.Goals as goal

pub returns-in_default : goal.returns-in_default
returns-in_default c =
    let all : suc (c.args.n - 1) ≡ c.args.n = omega arith in
    subst (λ n. IsFirst c.args.login.now c.args.call.now c.renewed_part.result (drop n (changed_parts c.args.login.now c.args.change.now))) all c.renewed_part.ensures
