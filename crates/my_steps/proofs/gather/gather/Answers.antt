use Rattle.std.proofs.Common.{refl}
use Rattle.my_steps.specs.declared.slot.Slot.TheVariants.{Gathering}
use Rattle.my_steps.proofs.Working.Gathered.{gathered_by}
use Rattle.my_steps.proofs.gather.gather.Goals as goal

pub returns-in-Ok-clause-did : goal.returns-in-Ok-clause-did
returns-in-Ok-clause-did g c =
    let conn = c.gather_rows.new.conn in
    let rows = c.gather_rows.new.rows in
    let over = c.in-Ok.ensures in
    λ login w unclosed. gathered_by g.L.Link.looks login c.args.number c.args.pending c.args.conn c.args.rows.items conn (Gathering conn rows) rows.items c.gather_rows.new.uses.items c.settle-slot.result.0 c.settle-slot.result.1 refl (λ kind st e. record { stands = st; kind = kind; pending = e }) c.in-Ok.after over.left (over.each login w unclosed) c.settle-slot.ensures.settles
