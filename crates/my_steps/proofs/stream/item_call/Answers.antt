use Rattle.std.proofs.Common.{◌≡◌, None, true, false, rules, sym, ◌∙◌}
use Rattle.std.proofs.lemmas.Result.{IfOk-weaker}
use Rattle.my_steps.proofs.Working.Streaming.{item_read, item_refused, no_item, taken_so}
use Rattle.my_steps.proofs.stream.item_call.Goals as goal

pub returns-in-Some : goal.returns-in-Some
returns-in-Some g c = λ login w. item_refused g.L.Link.looks c.args.number login c.args.conn.now c.in-Some.field-0 c.unused.result.outcome c.unused.result.uses.items (sym c.open_call.ensures ∙ c.in-Some.is) c.unused.ensures.outcome c.unused.ensures.uses w

pub returns-then-has_taken : goal.returns-then-has_taken
returns-then-has_taken g c =
    let idle : c.args.conn.now.pending ≡ None = sym c.open_call.ensures ∙ c.in-None.is in
    let took : c.has_taken.result ≡ true = search rules in
    IfOk-weaker c.begin_call.result _ _
    (λ d f login w. item_read g.L.Link.looks c.args.number login c.args.conn.now c.begin_call.new.conn d.outcome d.uses.items idle w (taken_so login c.args.conn.now c.has_taken.result true idle c.has_taken.ensures took w) (f login w)) c.begin_call.ensures

pub returns-else-has_taken : goal.returns-else-has_taken
returns-else-has_taken g c =
    let idle : c.args.conn.now.pending ≡ None = sym c.open_call.ensures ∙ c.in-None.is in
    let took : c.has_taken.result ≡ false = search rules in
    λ login w. no_item g.L.Link.looks c.args.number login c.args.conn.now c.unused-in-None.result.outcome c.unused-in-None.result.uses.items idle c.unused-in-None.ensures.outcome c.unused-in-None.ensures.uses (taken_so login c.args.conn.now c.has_taken.result false idle c.has_taken.ensures took w) w
