use Rattle.std.proofs.Common.{◌≡◌, ◌||◌, None, true, false, sym, ◌∙◌, rules}
use Rattle.std.proofs.lemmas.Result.{IfOk-weaker}
use Rattle.my_reading.specs.Calls.{kind_of}
use Rattle.my_session.specs.Sessions.{is_refused}
use Rattle.my_steps.proofs.Working.Beginning.{begin_refused, begun_did, kind_refused, refused_did}
use Rattle.my_steps.proofs.polls.begin_call.Goals as goal

pub returns-in-Some : goal.returns-in-Some
returns-in-Some g c =
    λ login w. begin_refused g.L.Link.looks login c.args.number c.args.call c.args.conn.now c.in-Some.field-0 c.unused.result.outcome c.unused.result.uses.items (sym c.open_call.ensures ∙ c.in-Some.is) c.unused.ensures.outcome c.unused.ensures.uses w

pub returns-then-is_refusing : goal.returns-then-is_refusing
returns-then-is_refusing g c =
    let old = c.args.conn.now in
    let idle : old.pending ≡ None = sym c.open_call.ensures ∙ c.in-None.is in
    let yes : c.is_refusing.result ≡ true = search rules in
    let shut : is_refused (old.lost || old.seen.closed) (kind_of c.args.call) ≡ true = kind_refused old c.kind-kind.result c.args.call c.is_refusing.result true c.kind-kind.ensures c.is_refusing.ensures yes in
    IfOk-weaker c.refused_call.result _ _ (λ d f login w. refused_did g.L.Link.looks login c.args.number c.args.call old c.refused_call.new.conn d.outcome d.uses.items idle w shut (f login w)) c.refused_call.ensures

pub returns-else-is_refusing : goal.returns-else-is_refusing
returns-else-is_refusing g c =
    let old = c.args.conn.now in
    let idle : old.pending ≡ None = sym c.open_call.ensures ∙ c.in-None.is in
    let no : c.is_refusing.result ≡ false = search rules in
    let live : is_refused (old.lost || old.seen.closed) (kind_of c.args.call) ≡ false = kind_refused old c.kind-kind.result c.args.call c.is_refusing.result false c.kind-kind.ensures c.is_refusing.ensures no in
    IfOk-weaker c.poll_shown.result _ _ (λ d f login w. begun_did g.L.Link.looks login c.args.number c.args.call old c.poll_shown.new.conn d.outcome d.uses.items idle w live (f login w)) c.poll_shown.ensures
