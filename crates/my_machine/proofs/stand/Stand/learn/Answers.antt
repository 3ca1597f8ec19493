use Rattle.std.proofs.Common.{◌≡◌, ℕ, Bool, true, cond, rules, refl, sym, ap, ◌∙◌, subst}
use Rattle.my_reading.specs.Calls.{id_in}
use Rattle.my_reading.specs.Course.{is_rows}
use Rattle.my_reading.specs.Statements.{with_columns}
use Rattle.my_machine.specs.declared.stand.Stand.{Stand}
use Rattle.my_machine.specs.declared.step.Step.TheVariants.{Passes}
use Rattle.my_machine.specs.Stands.{IsTurn, turn, with_known}
use Rattle.my_machine.proofs.stand.Stand.learn.Goals as goal

pub returns : goal.returns
returns c =
    let s = c.args.self.now in
    let known : ℕ → Stand = λ id. with_known (with_columns id s.facts.columns s.statements) s in
    let rows : is_rows s.context.spot ≡ true = search rules in
    let new : known (id_in c.args.call.now) ≡ c.know.new.self = sym (c.in_ok-know.ensures ∙ ap known c.id_in.ensures) in
    subst (λ (b : Bool). IsTurn (cond b (turn Passes (known (id_in c.args.call.now))) (turn Passes s)) Passes c.know.new.self) (sym rows) (record { does_is = refl; stand_is = new })
