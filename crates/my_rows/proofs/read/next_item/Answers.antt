use Rattle.std.proofs.Common.{[], ◌∷◌, inr, refl}
use Rattle.my_rows.proofs.read.next_item.Goals as goal

pub returns-in-Err-NoMemory-clause-item : goal.returns-in-Err-NoMemory-clause-item
returns-in-Err-NoMemory-clause-item g c =
    inr (refl, c.in-Ok-Row.row ∷ [], (g.C.Calls.conn_of c.args.conn.now, refl, rw (← c.in-Ok-Row.field-0-is) c.in-Ok-Row.ensures.reads))
