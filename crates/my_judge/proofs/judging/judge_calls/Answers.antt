use Rattle.std.proofs.Common.{◌≡◌, length, arith, ap, sym, ◌∙◌}
use Rattle.std.proofs.lemmas.List.{nil_from_length}
use Rattle.my_judge.specs.Tapes.{tape_of}
use Rattle.my_judge.proofs.Judged.{at_first, somewhere, goes_on, refutes, refutes_first, refutes_next, refutes_place, accepts}
use Rattle.my_judge.proofs.judging.judge_calls.Goals as goal

pub returns-then-not-begins_first : goal.returns-then-not-begins_first
returns-then-not-begins_first c = record { exact = refutes_first c.args.login.now (tape_of c.args.tape.now) (sym c.begins_first.ensures ∙ c.if-not-begins_first.true) }

pub calls-init : goal.calls-init
calls-init c = at_first c.args.login.now c.args.tape.now c.as_slice-left.result.now c.args.reader.now c.as_slice-left.ensures c.requires
    (sym c.begins_first.ensures ∙ c.if-not-begins_first.false)

pub returns-then-not-is_within : goal.returns-then-not-is_within
returns-then-not-is_within c = record {
  exact = refutes_place c.args.login.now c.args.tape.now c.calls.index c.in-Some.call.now c.calls.left.now c.in-Some.after.now c.calls.reader c.calls.reader c.in-Some.ensures.cases.0 c.calls.invariant
      (sym c.is_within.ensures ∙ c.if-not-is_within.true);
}

pub take_call-requires : goal.take_call-requires
take_call-requires c = somewhere c.args.login.now c.args.tape.now c.calls.index c.calls.left.now c.calls.reader c.calls.invariant

pub returns-then-not-branch : goal.returns-then-not-branch
returns-then-not-branch c = record {
  exact = refutes c.args.login.now c.args.tape.now c.calls.index c.in-Some.call.now c.calls.left.now c.in-Some.after.now c.calls.reader c.take_call.new.self c.in-Some.ensures.cases.0 c.calls.invariant
      (rw c.if-not-branch.true at (c.in_ok-take_call.ensures c.calls.invariant.place c.calls.invariant.at));
}

pub overflow_add-index : goal.overflow_add-index
overflow_add-index c =
    let all : length c.as_slice-left.result.now ≡ length c.args.tape.now.calls = ap length c.as_slice-left.ensures in
    omega (arith, c.calls.invariant.all, c.in-Some.ensures.cases.1, c.as_slice-left.type_inv.0)

pub returns-then-not-leads_to : goal.returns-then-not-leads_to
returns-then-not-leads_to c = record {
  exact = refutes_next c.args.login.now c.args.tape.now c.calls.index c.in-Some.call.now c.calls.left.now c.in-Some.after.now c.calls.reader c.take_call.new.self c.in-Some.ensures.cases.0 c.calls.invariant
      (sym c.is_within.ensures ∙ c.if-not-is_within.false) (sym c.leads_to.ensures ∙ c.if-not-leads_to.true) (rw c.if-not-branch.false at (c.in_ok-take_call.ensures c.calls.invariant.place c.calls.invariant.at));
}

pub calls-preserved : goal.calls-preserved
calls-preserved c = goes_on c.args.login.now c.args.tape.now c.calls.index c.in-Some.call.now c.calls.left.now c.in-Some.after.now c.calls.reader c.take_call.new.self c.in-Some.ensures.cases.0 c.calls.invariant
    (sym c.is_within.ensures ∙ c.if-not-is_within.false) (sym c.leads_to.ensures ∙ c.if-not-leads_to.false) (rw c.if-not-branch.false at (c.in_ok-take_call.ensures c.calls.invariant.place c.calls.invariant.at))

pub returns : goal.returns
returns c = record { exact = accepts c.args.login.now c.args.tape.now c.calls.index c.calls.left.now c.calls.reader (nil_from_length c.calls.left.now c.in_default.ensures.cases) c.calls.invariant }
