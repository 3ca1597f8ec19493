use Rattle.std.proofs.Common.{◌≡◌, ◌≤◌, ◌+◌, ◌++◌, ◌∷◌, [], Bool, true, List, length, get_or, take, rules, ap, refl, sym, ◌∙◌, subst}
use Rattle.std.proofs.lemmas.List.{take_all, take_more}
use Rattle.my_session.specs.Login.{login_of}
use Rattle.my_script.specs.declared.step.Step.{Step}
use Rattle.my_script.specs.declared.transcript.StepAnswer.{StepAnswer}
use Rattle.my_script.specs.Script.{may_stand}
use Rattle.my_steps.specs.Dialing.{course_of}
use Rattle.std.specs.Option.{option_copied}
use Rattle.my_script.specs.Numbered.{named_statement, statement_named, statements_by}
use Rattle.my_script.specs.Beside.{beside_by}
use Rattle.my_script.specs.Streams.{target}
use Rattle.my_run.specs.Headline.{SoFar}
use Rattle.my_run.proofs.MadeBeside.{aim_same, found_same}
use Rattle.my_run.proofs.Runs.{none_yet, step_on, stands_at, count_up}
use Rattle.my_run.proofs.Stopping.{err_at, stopped_at}
use Rattle.my_run.proofs.run.run_each.Goals as goal

pub loop-i-preserved : goal.loop-i-preserved
loop-i-preserved g c =
    let a : StepAnswer = record { number = c.loop-i.i + 1; outcome = c.in_ok-did.did.outcome; uses = c.in_ok-did.did.uses } in
    let grown : c.push.new.self.items ≡ c.loop-i.answers.items ++ record { number = c.loop-i.i + 1; outcome = c.in_ok-did.did.outcome; uses = c.in_ok-did.did.uses } ∷ [] = search rules in
    let this : c.index-steps-i.result ≡ get_or c.args.steps.now c.loop-i.i c.index-steps-i.result = search rules in
    let next : take (c.loop-i.i + 1) c.args.steps.now ≡ take c.loop-i.i c.args.steps.now ++ c.index-steps-i.result ∷ [] = take_more c.args.steps.now c.loop-i.i c.index-steps-i.result c.loop-i-test.true ∙ ap (λ (s : Step). take c.loop-i.i c.args.steps.now ++ s ∷ []) (sym this) in
    let did = c.in_ok-did.ensures in
    let so = c.loop-i.invariant in
    record {
      so_far = λ plans same.
          let u = so.so_far plans same in
          let found = c.is_found-found.ensures ∙ found_same c.loop-i.beside u.0.lines (target c.index-steps-i.result) c.index-steps-i.result u.1 in
          let aimed = c.aim-aim.ensures ∙ aim_same c.loop-i.beside u.0.lines (target c.index-steps-i.result) u.1 in
          let named = c.statement_for-named.ensures ∙ ap (statement_named (named_statement c.index-steps-i.result)) u.2 in
          let r = step_on g.N.L.Link.looks (login_of c.args.opts.now) plans (course_of (g.N.Dialer.seen c.args.world.now)) (g.N.Dialer.seen c.loop-i.world) (g.N.Dialer.seen c.run_step.new.world) (take c.loop-i.i c.args.steps.now) _ c.loop-i.slots.items c.run_step.new.slots.items c.loop-i.answers.items c.push.new.self.items c.index-steps-i.result a c.is_found-found.result c.aim-aim.result (option_copied c.statement_for-named.result) u.0 found aimed named (did.steps plans u.0.awaited u.0.stood) did.counts did.chance did.back (count_up c.loop-i.i c.args.steps.now c.loop-i-test.true) grown next in
          (r.0, λ n. c.in_ok-note.ensures n ∙ ap (λ s. beside_by n s c.index-steps-i.result c.in_ok-did.did.outcome) (u.1 n) ∙ sym (r.1 n), c.in_ok-note-2.ensures.ok ∙ ap (λ s. statements_by s c.index-steps-i.result c.in_ok-did.did.outcome) u.2 ∙ sym r.2);
      takes = c.run_step.ensures.takes ∙ so.takes;
    }

pub returns-clause-ok : goal.returns-clause-ok
returns-clause-ok g c =
    let past : length c.args.steps.now ≤ c.loop-i.i = search rules in
    let whole : take c.loop-i.i c.args.steps.now ≡ c.args.steps.now = take_all c.loop-i.i c.args.steps.now past in
    λ plans same. subst (λ (xs : List Step). SoFar g.N.L.Link.looks (login_of c.args.opts.now) plans (course_of (g.N.Dialer.seen c.args.world.now)) (g.N.Dialer.seen c.loop-i.world) xs c.loop-i.slots.items c.loop-i.answers.items) whole (c.loop-i.invariant.so_far plans same).0

pub loop-i-init : goal.loop-i-init
loop-i-init g c = record { so_far = λ plans same. let u = none_yet g.N.L.Link.looks (login_of c.args.opts.now) plans (g.N.Dialer.seen c.args.world.now) [] c.args.slots.now.items c.args.answers.now.items same refl c.requires.no_slots c.requires.no_answers in (u.0, λ n. c.new-beside.ensures n ∙ sym (u.1 n), c.new-statements.ensures ∙ sym u.2); takes = refl }

pub run_step-requires : goal.run_step-requires
run_step-requires g c =
    let this : c.index-steps-i.result ≡ get_or c.args.steps.now c.loop-i.i c.index-steps-i.result = search rules in
    subst (λ (b : Bool). may_stand b c.index-steps-i.result ≡ true) (sym c.loop-i.invariant.takes) (ap (may_stand (g.N.Dialer.seen c.args.world.now).takes) this ∙ stands_at (may_stand (g.N.Dialer.seen c.args.world.now).takes) c.args.steps.now c.loop-i.i c.index-steps-i.result c.requires.stand c.loop-i-test.true)

pub returns-in_err-did-clause-err : goal.returns-in_err-did-clause-err
returns-in_err-did-clause-err g c =
    let this : c.index-steps-i.result ≡ get_or c.args.steps.now c.loop-i.i c.index-steps-i.result = search rules in
    let next : take (c.loop-i.i + 1) c.args.steps.now ≡ take c.loop-i.i c.args.steps.now ++ c.index-steps-i.result ∷ [] = take_more c.args.steps.now c.loop-i.i c.index-steps-i.result c.loop-i-test.true ∙ ap (λ (s : Step). take c.loop-i.i c.args.steps.now ++ s ∷ []) (sym this) in
    err_at c.from_residual.result _ (stopped_at g.N.L.Link.looks (login_of c.args.opts.now) (g.N.Dialer.seen c.args.world.now).plans (course_of (g.N.Dialer.seen c.args.world.now)) (g.N.Dialer.seen c.loop-i.world) (g.N.Dialer.seen c.run_step.new.world) c.loop-i.i c.args.steps.now c.index-steps-i.result c.loop-i.slots.items c.run_step.new.slots.items c.loop-i.answers.items (λ plans same. (c.loop-i.invariant.so_far plans same).0) c.run_step.ensures.midst next)

pub returns-in_err-note-clause-err : goal.returns-in_err-note-clause-err
returns-in_err-note-clause-err g c =
    let this : c.index-steps-i.result ≡ get_or c.args.steps.now c.loop-i.i c.index-steps-i.result = search rules in
    let next : take (c.loop-i.i + 1) c.args.steps.now ≡ take c.loop-i.i c.args.steps.now ++ c.index-steps-i.result ∷ [] = take_more c.args.steps.now c.loop-i.i c.index-steps-i.result c.loop-i-test.true ∙ ap (λ (s : Step). take c.loop-i.i c.args.steps.now ++ s ∷ []) (sym this) in
    err_at c.from_residual-in_err-note.result _ (stopped_at g.N.L.Link.looks (login_of c.args.opts.now) (g.N.Dialer.seen c.args.world.now).plans (course_of (g.N.Dialer.seen c.args.world.now)) (g.N.Dialer.seen c.loop-i.world) (g.N.Dialer.seen c.run_step.new.world) c.loop-i.i c.args.steps.now c.index-steps-i.result c.loop-i.slots.items c.run_step.new.slots.items c.loop-i.answers.items (λ plans same. (c.loop-i.invariant.so_far plans same).0) c.run_step.ensures.midst next)

pub returns-in_err-note-2-clause-err : goal.returns-in_err-note-2-clause-err
returns-in_err-note-2-clause-err g c =
    let this : c.index-steps-i.result ≡ get_or c.args.steps.now c.loop-i.i c.index-steps-i.result = search rules in
    let next : take (c.loop-i.i + 1) c.args.steps.now ≡ take c.loop-i.i c.args.steps.now ++ c.index-steps-i.result ∷ [] = take_more c.args.steps.now c.loop-i.i c.index-steps-i.result c.loop-i-test.true ∙ ap (λ (s : Step). take c.loop-i.i c.args.steps.now ++ s ∷ []) (sym this) in
    err_at c.from_residual-in_err-note-2.result _ (stopped_at g.N.L.Link.looks (login_of c.args.opts.now) (g.N.Dialer.seen c.args.world.now).plans (course_of (g.N.Dialer.seen c.args.world.now)) (g.N.Dialer.seen c.loop-i.world) (g.N.Dialer.seen c.run_step.new.world) c.loop-i.i c.args.steps.now c.index-steps-i.result c.loop-i.slots.items c.run_step.new.slots.items c.loop-i.answers.items (λ plans same. (c.loop-i.invariant.so_far plans same).0) c.run_step.ensures.midst next)

pub returns-in_err-push-clause-err : goal.returns-in_err-push-clause-err
returns-in_err-push-clause-err g c =
    let this : c.index-steps-i.result ≡ get_or c.args.steps.now c.loop-i.i c.index-steps-i.result = search rules in
    let next : take (c.loop-i.i + 1) c.args.steps.now ≡ take c.loop-i.i c.args.steps.now ++ c.index-steps-i.result ∷ [] = take_more c.args.steps.now c.loop-i.i c.index-steps-i.result c.loop-i-test.true ∙ ap (λ (s : Step). take c.loop-i.i c.args.steps.now ++ s ∷ []) (sym this) in
    err_at c.from_residual-in_err-push.result _ (stopped_at g.N.L.Link.looks (login_of c.args.opts.now) (g.N.Dialer.seen c.args.world.now).plans (course_of (g.N.Dialer.seen c.args.world.now)) (g.N.Dialer.seen c.loop-i.world) (g.N.Dialer.seen c.run_step.new.world) c.loop-i.i c.args.steps.now c.index-steps-i.result c.loop-i.slots.items c.run_step.new.slots.items c.loop-i.answers.items (λ plans same. (c.loop-i.invariant.so_far plans same).0) c.run_step.ensures.midst next)
