use Rattle.std.proofs.Common.{◌≡◌, suc, ◌-◌, ◌≤◌, drop, refl, subst, arith}
use Rattle.std.specs.Prelude.{[]}
use Rattle.my_reading.specs.Course.{renewed}
use Rattle.my_machine.specs.Parts.{IsFirst}
use Rattle.my_machine.proofs.part.renewed_part.Goals as goal

pub returns-in_default : goal.returns-in_default
returns-in_default c =
    let past : 7 ≤ c.args.n = grind arith in
    let all : suc (suc (suc (suc (suc (suc (suc (c.args.n - 7))))))) ≡ c.args.n = omega (arith, past) in
    subst (λ n. IsFirst c.args.login.now c.args.call.now c.setup_part.result (drop n (renewed c.args.login.now))) all (c.setup_part.ensures [] refl tt)
