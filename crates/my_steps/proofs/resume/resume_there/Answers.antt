use Rattle.std.proofs.Common.{◌≡◌, false, rules, sym, ◌∙◌}
use Rattle.std.proofs.lemmas.Result.{IfOk-weaker}
use Rattle.my_script.specs.Streams.{is_skip}
use Rattle.my_steps.proofs.Working.Resuming.{call_resumed, not_resumed}
use Rattle.my_steps.proofs.resume.resume_there.Goals as goal

pub returns-in-None-clause-did : goal.returns-in-None-clause-did
returns-in-None-clause-did g c = λ login w. not_resumed g.L.Link.looks login c.args.aim c.args.number c.args.conn c.unused.result.outcome c.unused.result.uses.items (sym c.open_call.ensures ∙ c.in-None.is) c.unused.ensures.outcome c.unused.ensures.uses w

pub returns-else-is_skip-clause-did : goal.returns-else-is_skip-clause-did
returns-else-is_skip-clause-did g c =
    let other : is_skip c.in-Some.kind ≡ false = search rules in
    IfOk-weaker c.poll_shown-did.result _ _
    (λ d f login w. call_resumed g.L.Link.looks login c.args.aim c.args.number c.args.conn c.in-Some.kind (sym c.open_call.ensures ∙ c.in-Some.is) w other c.poll_shown-did.new.conn d.outcome d.uses.items (f login w)) c.poll_shown-did.ensures
