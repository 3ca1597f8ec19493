use Rattle.std.proofs.lemmas.List.{nil_from_length}
use Rattle.std.proofs.Common.{refl}
use Rattle.my_run_judge.specs.Seen.{seen}
use Rattle.my_run_judge.proofs.Passing.{none_passed, passes_decide, skip_wrong}
use Rattle.my_run_judge.proofs.walk.Walker.passes.Goals as goal

pub returns-in_default : goal.returns-in_default
returns-in_default c = none_passed c.args.login.now c.args.number (seen c.args.tape.now) c.args.aim c.args.outcome.now c.args.self.now c.args.uses.now c.args.self.now (nil_from_length c.args.uses.now c.in_default.ensures.cases)

pub returns-then-not-branch : goal.returns-then-not-branch
returns-then-not-branch c = skip_wrong c.args.login.now c.args.number (seen c.args.tape.now) c.args.aim c.args.outcome.now c.args.self.now c.args.uses.now c.in-Some.skip.now c.in-Some.others.now c.in-Some.ensures.cases.0 c.poll_skip.new.self (rw c.if-not-branch.true at c.in_ok-poll_skip.ensures)

pub returns : goal.returns
returns c = passes_decide c.args.login.now c.args.number (seen c.args.tape.now) c.args.aim c.args.outcome.now c.args.self.now c.args.uses.now c.in-Some.skip.now c.in-Some.others.now c.in-Some.ensures.cases.0 c.poll_skip.new.self c.polls.new.self c.poll_skip.new.self.spot.next c.polls.result refl
    (rw c.if-not-branch.false at c.in_ok-poll_skip.ensures) c.polls.ensures
