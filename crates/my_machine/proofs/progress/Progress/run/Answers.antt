use Rattle.std.proofs.Common.{refl, ap, ◌∙◌}
use Rattle.my_machine.specs.declared.step.Step.TheVariants as steps
use Rattle.my_machine.specs.Runs.{parts_left}
use Rattle.my_machine.proofs.Running.{led_on, none_led, passed_left, runs, works_off}
use Rattle.my_machine.proofs.progress.Progress.run.Goals as goal

pub steps-init : goal.steps-init
steps-init c = none_led c.args.login.now c.args.call.now c.args.self.now c.args.stand.now c.requires

pub steps-smaller-in-Stays : goal.steps-smaller-in-Stays
steps-smaller-in-Stays c = works_off c.args.login.now c.args.call.now c.args.self.now c.steps.self c.args.stand.now c.steps.stand c.step.new.self c.part-part.result c.steps.invariant c.part-part.ensures
    steps.Stays c.steps.self (λ stop e. cc) (rw c.in-Stays.is at c.in_ok-step.ensures) refl

pub steps-preserved-in-Stays : goal.steps-preserved-in-Stays
steps-preserved-in-Stays c = led_on c.args.login.now c.args.call.now c.args.self.now c.steps.self c.args.stand.now c.steps.stand c.step.new.self c.part-part.result c.steps.invariant c.part-part.ensures
    steps.Stays c.steps.self (λ stop e. cc) (rw c.in-Stays.is at c.in_ok-step.ensures) refl

pub steps-smaller-in-Continue-branch-3 : goal.steps-smaller-in-Continue-branch-3
steps-smaller-in-Continue-branch-3 c = works_off c.args.login.now c.args.call.now c.args.self.now c.steps.self c.args.stand.now c.steps.stand c.step.new.self c.part-part.result c.steps.invariant c.part-part.ensures
    steps.Passes c.pass.new.self (λ stop e. cc) (rw c.in-Passes.is at c.in_ok-step.ensures) (ap (parts_left c.args.login.now c.args.call.now) c.in_ok-pass-in-Passes.ensures ∙ passed_left c.args.login.now c.args.call.now c.steps.self)

pub steps-preserved-in-Continue-branch-3 : goal.steps-preserved-in-Continue-branch-3
steps-preserved-in-Continue-branch-3 c = led_on c.args.login.now c.args.call.now c.args.self.now c.steps.self c.args.stand.now c.steps.stand c.step.new.self c.part-part.result c.steps.invariant c.part-part.ensures
    steps.Passes c.pass.new.self (λ stop e. cc) (rw c.in-Passes.is at c.in_ok-step.ensures) (ap (parts_left c.args.login.now c.args.call.now) c.in_ok-pass-in-Passes.ensures ∙ passed_left c.args.login.now c.args.call.now c.steps.self)

pub steps-smaller : goal.steps-smaller
steps-smaller c = works_off c.args.login.now c.args.call.now c.args.self.now c.steps.self c.args.stand.now c.steps.stand c.step.new.self c.part-part.result c.steps.invariant c.part-part.ensures
    steps.Reverts c.revert.new.self (λ stop e. cc) (rw c.in-Reverts.is at c.in_ok-step.ensures) (ap (parts_left c.args.login.now c.args.call.now) c.revert.ensures)

pub steps-preserved : goal.steps-preserved
steps-preserved c = led_on c.args.login.now c.args.call.now c.args.self.now c.steps.self c.args.stand.now c.steps.stand c.step.new.self c.part-part.result c.steps.invariant c.part-part.ensures
    steps.Reverts c.revert.new.self (λ stop e. cc) (rw c.in-Reverts.is at c.in_ok-step.ensures) (ap (parts_left c.args.login.now c.args.call.now) c.revert.ensures)

pub returns-in-Stops : goal.returns-in-Stops
returns-in-Stops c = runs c.args.login.now c.args.call.now c.args.self.now c.steps.self c.args.stand.now c.steps.stand c.step.new.self c.part-part.result c.steps.invariant c.part-part.ensures c.in-Stops.stop (rw c.in-Stops.is at c.in_ok-step.ensures)
