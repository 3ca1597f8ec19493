use Rattle.std.proofs.Common.{◌≡◌, ◌||◌, List, [], None, false, sym, ◌∙◌, rules, subst}
use Rattle.std.proofs.lemmas.Result.{IfOk-weaker}
use Rattle.my_reading.specs.declared.call.CallKind.TheVariants.{NextRow}
use Rattle.my_session.specs.Sessions.{is_refused}
use Rattle.my_value.specs.RowParts.{RowParts}
use Rattle.my_steps.specs.Gathering.{GatherDid}
use Rattle.my_steps.proofs.Working.Gathered.{collect_begun, collect_refused}
use Rattle.my_steps.proofs.gather.collect_call.Goals as goal

pub returns-in-Some-clause-did : goal.returns-in-Some-clause-did
returns-in-Some-clause-did g c = λ login w. collect_refused g.L.Link.looks login c.args.number c.args.conn c.in-Some.field-0 c.unused.result.outcome c.unused.result.uses.items (sym c.open_call.ensures ∙ c.in-Some.is) c.unused.ensures.outcome c.unused.ensures.uses w

pub returns-else-is_refusing-clause-did : goal.returns-else-is_refusing-clause-did
returns-else-is_refusing-clause-did g c =
    let idle : c.args.conn.pending ≡ None = sym c.open_call.ensures ∙ c.in-None.is in
    let no : c.is_refusing.result ≡ false = search rules in
    let live : is_refused (c.args.conn.lost || c.args.conn.seen.closed) NextRow ≡ false = sym c.is_refusing.ensures ∙ no in
    let none : c.new.result.items ≡ [] = search rules in
    IfOk-weaker c.gather.result.1 _ _ (λ d f login w. collect_begun g.L.Link.looks login c.args.number c.args.conn c.gather.result.0 d.outcome d.uses.items idle w live
    (λ unclosed. subst (λ (rows : List RowParts). GatherDid g.L.Link.looks login c.args.number None c.args.conn rows c.gather.result.0 d.outcome d.uses.items) none (f login w unclosed))) c.gather.ensures.did
