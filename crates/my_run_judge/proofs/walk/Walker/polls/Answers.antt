use Rattle.std.proofs.Common.{◌∷◌, List, sym, ap, ◌∙◌, subst}
use Rattle.std.proofs.lemmas.List.{nil_from_length}
use Rattle.my_script.specs.declared.transcript.Use.{Use}
use Rattle.my_run_judge.specs.Seen.{seen}
use Rattle.my_run_judge.proofs.EachPoll.{PollsSo, first_so, last_done, none_left, row_done, row_wrong}
use Rattle.my_run_judge.proofs.walk.Walker.polls.Goals as goal

pub polls-init : goal.polls-init
polls-init c = first_so c.args.login.now c.args.number (seen c.args.tape.now) c.args.outcome.now c.args.first c.args.self.now c.args.uses.now c.requires

pub returns-in_default-split_first : goal.returns-in_default-split_first
returns-in_default-split_first c = last_done c.args.login.now c.args.number (seen c.args.tape.now) c.args.outcome.now c.args.first c.args.self.now c.args.uses.now c.polls.self c.polls.left.now c.polls.invariant
    c.in-Some.used.now c.in_ok-right.right c.poll_last.new.self
    (c.in-Some.ensures.cases.0 ∙ ap (λ (us : List Use). c.in-Some.used.now ∷ us) (nil_from_length c.in-Some.after.now c.in_default-split_first.ensures.cases))
    c.in_ok-right.ensures

pub returns-then-not-branch : goal.returns-then-not-branch
returns-then-not-branch c = row_wrong c.args.login.now c.args.number (seen c.args.tape.now) c.args.outcome.now c.args.first c.args.self.now c.args.uses.now c.polls.self c.polls.left.now c.polls.invariant
    c.in-Some.used.now c.in-Some-split_first._next.now c.in-Some-split_first._more.now c.poll_row.new.self
    (c.in-Some.ensures.cases.0 ∙ ap (λ (us : List Use). c.in-Some.used.now ∷ us) c.in-Some-split_first.ensures.cases.0)
    (rw c.if-not-branch.true at c.in_ok-poll_row.ensures)

pub polls-preserved : goal.polls-preserved
polls-preserved c = subst (λ (us : List Use). PollsSo c.args.login.now c.args.number (seen c.args.tape.now) c.args.outcome.now c.args.first c.args.self.now c.args.uses.now c.poll_row.new.self us)
    (sym c.in-Some-split_first.ensures.cases.0)
    (row_done c.args.login.now c.args.number (seen c.args.tape.now) c.args.outcome.now c.args.first c.args.self.now c.args.uses.now c.polls.self c.polls.left.now c.polls.invariant
    c.in-Some.used.now c.in-Some-split_first._next.now c.in-Some-split_first._more.now c.poll_row.new.self
    (c.in-Some.ensures.cases.0 ∙ ap (λ (us : List Use). c.in-Some.used.now ∷ us) c.in-Some-split_first.ensures.cases.0)
    (rw c.if-not-branch.false at c.in_ok-poll_row.ensures))

pub returns : goal.returns
returns c = none_left c.args.login.now c.args.number (seen c.args.tape.now) c.args.outcome.now c.args.first c.args.self.now c.args.uses.now c.polls.self c.polls.left.now c.polls.invariant
    c.polls.self (nil_from_length c.polls.left.now c.in_default.ensures.cases)
