use Rattle.std.proofs.Common.{◌≡◌, suc, ◌-◌, ◌≤◌, drop, refl, subst, arith}
use Rattle.std.specs.Prelude.{[], ◌∷◌, true}
use Rattle.my_reading.specs.Course.{Flag}
use Rattle.my_machine.specs.Parts.{IsFirst, reset_parts}
use Rattle.my_machine.proofs.part.reset_part.Goals as goal

pub returns-in_default : goal.returns-in_default
returns-in_default c =
    let past : 8 ≤ c.args.n = grind arith in
    let all : suc (suc (suc (suc (suc (suc (suc (suc (c.args.n - 8)))))))) ≡ c.args.n = omega (arith, past) in
    subst (λ n. IsFirst c.args.login.now c.args.call.now c.setup_part.result (drop n (reset_parts c.args.login.now))) all (c.setup_part.ensures (Flag true ∷ []) refl refl)
