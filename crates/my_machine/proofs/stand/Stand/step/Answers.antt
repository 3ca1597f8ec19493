use Rattle.std.proofs.Common.{◌≡◌, ℕ, List, length, Option, Some, IfOk, arith, sym, subst}
use Rattle.std.proofs.lemmas.List.{nil_from_length}
use Rattle.my_machine.specs.declared.part.Part.{Part}
use Rattle.my_machine.specs.Stands.{IsTurn, begins, steps, unless_owed}
use Rattle.my_machine.proofs.stand.Stand.step.Goals as goal

pub returns-in-Some : goal.returns-in-Some
returns-in-Some c =
    let s = c.args.self.now in
    let zero : length s.owed ≡ 0 = omega arith in
    subst (λ (x : Option Part). IfOk c.begin.result (λ step. IsTurn (steps c.args.login.now c.args.call.now x s) step c.begin.new.self)) (sym c.in-Some.is)
    (subst (λ (bytes : List ℕ). IfOk c.begin.result (λ step. IsTurn (unless_owed bytes s (begins c.args.login.now c.args.call.now (Some c.in-Some.part) s)) step c.begin.new.self)) (sym (nil_from_length s.owed zero)) c.begin.ensures)
