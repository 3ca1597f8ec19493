use Rattle.std.proofs.Common.{[], ◌∷◌, inr, refl, ◌∙◌}
use Rattle.my_rows.proofs.Reading.{item_read, end_read}
use Rattle.my_rows.proofs.read.read_set.Goals as goal

pub returns-in-Err-take-clause-set : goal.returns-in-Err-take-clause-set
returns-in-Err-take-clause-set g c =
    let so = c.rows.invariant.gathers in
    let mid = g.C.Calls.conn_of c.rows.conn in
    let read = item_read g.C.L.Link.looks g.T.FromRow.row_converts g.T.FromRow.row_becomes mid (g.C.Calls.conn_of c.next_item.new.conn) c.in-Ok-Some.field-0 c.in-Ok-Some.item
    c.in-Ok-Some.field-0-is c.in-Ok-Some.ensures.item in
    (so.0, mid, c.rows.gathered, so.1, so.2, inr (refl, read.0 ∷ [], (mid, refl, read.1)))

pub returns-in-Ok-None-clause-set : goal.returns-in-Ok-None-clause-set
returns-in-Ok-None-clause-set g c =
    let so = c.rows.invariant.gathers in
    let mid = g.C.Calls.conn_of c.rows.conn in
    let end = end_read g.C.L.Link.looks g.T.FromRow.row_converts g.T.FromRow.row_becomes mid (g.C.Calls.conn_of c.next_item.new.conn)
    c.in-Ok-None.field-0 c.in-Ok-None.field-0-is c.in-Ok-None.ensures.item in
    (so.0, mid, so.1, so.2, end)

pub returns-in-Err-clause-set : goal.returns-in-Err-clause-set
returns-in-Err-clause-set g c =
    let so = c.rows.invariant.gathers in
    (so.0, g.C.Calls.conn_of c.rows.conn, c.rows.gathered, so.1, so.2, c.in-Err.ensures.item)

pub rows-preserved : goal.rows-preserved
rows-preserved g c =
    let so = c.rows.invariant.gathers in
    let mid = g.C.Calls.conn_of c.rows.conn in
    let read = item_read g.C.L.Link.looks g.T.FromRow.row_converts g.T.FromRow.row_becomes mid (g.C.Calls.conn_of c.next_item.new.conn) c.in-Ok-Some.field-0 c.in-Ok-Some.item
    c.in-Ok-Some.field-0-is c.in-Ok-Some.ensures.item in
    record {
      idle = c.next_item.ensures.idle;
      loans = c.next_item.ensures.loans ∙ c.rows.invariant.loans;
      ready = c.in-Ok.ensures.ready;
      gathers = (
        read.0 ∷ so.0,
        (g.C.Calls.conn_of c.rows.conn, so.1, read.1),
        (c.rows.gathered, c.in-Ok-Some.item, so.2, read.2, c.in-Ok.ensures.takes),
      );
    }

pub returns-clause-set : goal.returns-clause-set
returns-clause-set g c =
    let so = c.rows.invariant.gathers in
    (so.0, g.C.Calls.conn_of c.rows.conn, c.rows.gathered, so.1, so.2, inr (refl, [], refl))
