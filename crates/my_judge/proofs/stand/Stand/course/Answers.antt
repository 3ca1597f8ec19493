use Rattle.std.proofs.Common.{ap, ◌∙◌, arith}
use Rattle.my_reading.specs.Course.{parts_of}
use Rattle.my_machine.specs.Runs.{parts_left}
use Rattle.my_judge.proofs.Coursing.{all_left, awaits, begins, continues, machine_somewhere, returns, stays, still_within}
use Rattle.my_judge.proofs.stand.Stand.course.Goals as goal

pub owed-init : goal.owed-init
owed-init c =
    let login = c.args.login.now in
    let call = c.args.call.now in
    begins login call c.args.self.now c.first-progress.result (ap (parts_left login call) c.first-progress.ensures ∙ all_left (parts_of login call)) c.requires

pub run-requires : goal.run-requires
run-requires c = machine_somewhere c.args.login.now c.args.call.now c.args.self.now c.owed.self c.owed.progress c.owed.invariant

pub settle-requires : goal.settle-requires
settle-requires c = still_within c.args.login.now c.args.call.now c.args.self.now c.owed.self c.owed.progress c.run.new.self c.in_ok-run.field-0 c.run.new.stand c.owed.invariant c.in_ok-run.ensures c.in-Owes.is

pub returns-then-settle-eq0 : goal.returns-then-settle-eq0
returns-then-settle-eq0 c = stays c.args.login.now c.args.call.now c.args.self.now c.owed.self c.owed.progress c.run.new.self c.in_ok-run.field-0 c.run.new.stand c.owed.invariant c.in_ok-run.ensures c.in-Owes.is c.settle.result c.settle.new.self c.settle.ensures (omega arith)

pub owed-preserved : goal.owed-preserved
owed-preserved c = continues c.args.login.now c.args.call.now c.args.self.now c.owed.self c.owed.progress c.run.new.self c.in_ok-run.field-0 c.run.new.stand c.owed.invariant c.in_ok-run.ensures c.in-Owes.is c.settle.result c.settle.new.self c.settle.ensures

pub returns-in-Awaits : goal.returns-in-Awaits
returns-in-Awaits c = awaits c.args.login.now c.args.call.now c.args.self.now c.owed.self c.owed.progress c.run.new.self c.in_ok-run.field-0 c.run.new.stand c.owed.invariant c.in_ok-run.ensures c.in-Awaits.is

pub returns-in-Returns : goal.returns-in-Returns
returns-in-Returns c = returns c.args.login.now c.args.call.now c.args.self.now c.owed.self c.owed.progress c.run.new.self c.in_ok-run.field-0 c.run.new.stand c.owed.invariant c.in_ok-run.ensures c.in-Returns.ending c.in-Returns.is
