use Rattle.std.proofs.Common.{◌≡◌, Bool, List, true, sym, subst, rules}
use Rattle.std.specs.List.{list_all}
use Rattle.my_script.specs.Script.{may_stand}
use Rattle.my_script.specs.declared.step.Step.{Step}
use Rattle.my_session.specs.Login.{login_of}
use Rattle.my_steps.specs.Dialing.{course_of}
use Rattle.my_run.specs.Tool.{course_with, plans_with}
use Rattle.my_run.proofs.Runs.{stands_more}
use Rattle.my_run.specs.Stopped.{Stopped}
use Rattle.my_link.specs.declared.line.WorldLine.{WorldLine}
use Rattle.my_run.proofs.Stopping.{all_done, err_at, not_begun, stopped_as}
use Rattle.my_run.proofs.tool.run_script.Goals as goal

pub run_steps-requires : goal.run_steps-requires
run_steps-requires g c =
    let steps : c.deref-2.result.now ≡ c.args.script.now.steps.items = search rules in
    let may : list_all (may_stand (g.N.Dialer.seen c.args.world.now).takes) c.args.script.now.steps.items ≡ true = stands_more c.args.plans (g.N.Dialer.seen c.args.world.now).takes c.args.script.now.steps.items c.requires.takes c.requires.stand in
    subst (λ (xs : List Step). list_all (may_stand (g.N.Dialer.seen c.prepare_all.new.world).takes) xs ≡ true) (sym steps) (subst (λ (b : Bool). list_all (may_stand b) c.args.script.now.steps.items ≡ true) (sym c.prepare_all.ensures.takes) may)

pub returns-in_err-prepare_all-clause-stopped : goal.returns-in_err-prepare_all-clause-stopped
returns-in_err-prepare_all-clause-stopped g c = err_at c.from_residual.result _ (not_begun (login_of c.args.opts.now) (plans_with c.args.plans c.args.script.now.plan.items (g.N.Dialer.seen c.args.world.now).plans) (course_with c.args.plans c.args.script.now.plan.items (course_of (g.N.Dialer.seen c.args.world.now))) (course_of (g.N.Dialer.seen c.prepare_all.new.world)) c.args.script.now.steps.items c.prepare_all.ensures.dials c.prepare_all.ensures.back)

pub returns-in_err-transcript-clause-stopped : goal.returns-in_err-transcript-clause-stopped
returns-in_err-transcript-clause-stopped g c =
    let steps : c.deref-2.result.now ≡ c.args.script.now.steps.items = search rules in
    let plan : c.deref.result.now ≡ c.args.script.now.plan.items = search rules in
    err_at c.from_residual-in_err-transcript.result _ (subst (λ (ls : List WorldLine). Stopped (course_of (g.N.Dialer.seen c.run_steps.new.world)) (login_of c.args.opts.now) (plans_with c.args.plans ls (g.N.Dialer.seen c.args.world.now).plans) (course_with c.args.plans ls (course_of (g.N.Dialer.seen c.args.world.now))) c.args.script.now.steps.items) plan (
    stopped_as (course_of (g.N.Dialer.seen c.run_steps.new.world)) (login_of c.args.opts.now) (plans_with c.args.plans c.deref.result.now (g.N.Dialer.seen c.args.world.now).plans) (course_of (g.N.Dialer.seen c.prepare_all.new.world)) _ c.deref-2.result.now c.args.script.now.steps.items c.in_ok-prepare_all.ensures.course steps (c.in_err-transcript.ensures.err _ c.in_ok-prepare_all.ensures.plans)))

pub returns-in_err-text-clause-stopped : goal.returns-in_err-text-clause-stopped
returns-in_err-text-clause-stopped g c =
    let steps : c.deref-2.result.now ≡ c.args.script.now.steps.items = search rules in
    let plan : c.deref.result.now ≡ c.args.script.now.plan.items = search rules in
    let plans = plans_with c.args.plans c.deref.result.now (g.N.Dialer.seen c.args.world.now).plans in
    err_at c.from_residual-in_err-text.result _ (subst (λ (ls : List WorldLine). Stopped (course_of (g.N.Dialer.seen c.run_steps.new.world)) (login_of c.args.opts.now) (plans_with c.args.plans ls (g.N.Dialer.seen c.args.world.now).plans) (course_with c.args.plans ls (course_of (g.N.Dialer.seen c.args.world.now))) c.args.script.now.steps.items) plan (
    stopped_as (course_of (g.N.Dialer.seen c.run_steps.new.world)) (login_of c.args.opts.now) plans (course_of (g.N.Dialer.seen c.prepare_all.new.world)) _ c.deref-2.result.now c.args.script.now.steps.items c.in_ok-prepare_all.ensures.course steps
    (all_done (login_of c.args.opts.now) plans (course_of (g.N.Dialer.seen c.prepare_all.new.world)) (course_of (g.N.Dialer.seen c.run_steps.new.world)) c.deref-2.result.now c.in_ok-transcript.transcript.answers.items c.in_ok-transcript.transcript.tapes.items (c.in_ok-transcript.ensures.ok plans c.in_ok-prepare_all.ensures.plans))))
