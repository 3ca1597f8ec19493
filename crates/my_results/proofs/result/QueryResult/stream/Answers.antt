use Rattle.std.proofs.Common.{Bool, Ok, subst}
use Rattle.my_conn.specs.Streams.{StreamWaits}
use Rattle.my_results.proofs.result.QueryResult.stream.Goals as goal

pub returns-in-Ok-false : goal.returns-in-Ok-false
returns-in-Ok-false g c =
    let new = g.C.Calls.conn_of c.take_set.new.self in
    let takes = subst (λ (b : Bool). StreamWaits g.C.L.Link.looks (g.C.Calls.conn_of c.args.self.now.holder) new (Ok b))
    c.in-Ok-false.field-0-test c.in-Ok-false.ensures.takes in
    record { stream = (new, takes) }
