use Rattle.std.proofs.Common.{◌≡◌, None, true, false, rules, sym, ◌∙◌}
use Rattle.std.proofs.lemmas.Result.{IfOk-weaker}
use Rattle.my_steps.proofs.Working.Streaming.{read_at_once, read_refused, read_then, taken_so}
use Rattle.my_steps.proofs.stream.read_call.Goals as goal

pub returns-in-Some-clause-did : goal.returns-in-Some-clause-did
returns-in-Some-clause-did g c = λ login w. read_refused g.L.Link.looks c.args.number login c.args.aim c.args.conn c.in-Some.field-0 c.unused.result.outcome c.unused.result.uses.items (sym c.open_call.ensures ∙ c.in-Some.is) c.unused.ensures.outcome c.unused.ensures.uses w

pub returns-then-has_taken-clause-did : goal.returns-then-has_taken-clause-did
returns-then-has_taken-clause-did g c =
    let idle : c.args.conn.pending ≡ None = sym c.open_call.ensures ∙ c.in-None.is in
    let took : c.has_taken.result ≡ true = search rules in
    IfOk-weaker c.skip_call.result.1 _ _
    (λ d f login w. read_then g.L.Link.looks c.args.number login c.args.aim c.args.conn c.skip_call.result.0 d.outcome d.uses.items idle w (taken_so login c.args.conn c.has_taken.result true idle c.has_taken.ensures took w) (f login w)) c.skip_call.ensures.did

pub returns-else-has_taken-clause-did : goal.returns-else-has_taken-clause-did
returns-else-has_taken-clause-did g c =
    let idle : c.args.conn.pending ≡ None = sym c.open_call.ensures ∙ c.in-None.is in
    let took : c.has_taken.result ≡ false = search rules in
    IfOk-weaker c.follow.result.1 _ _
    (λ d f login w. read_at_once g.L.Link.looks c.args.number login c.args.aim c.args.conn c.follow.result.0 d.outcome d.uses.items idle w (taken_so login c.args.conn c.has_taken.result false idle c.has_taken.ensures took w) (f login w)) c.follow.ensures.did
