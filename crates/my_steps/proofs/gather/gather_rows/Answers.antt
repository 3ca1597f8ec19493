use Rattle.std.proofs.Common.{Option, None, Some, subst}
use Rattle.my_client.specs.declared.poll.After.{After}
use Rattle.my_steps.specs.Gathering.{PollsRow}
use Rattle.my_steps.proofs.Working.Gathered.{none_gathered, row_idle, row_next, row_over}
use Rattle.my_steps.proofs.gather.gather_rows.Goals as goal

pub rows-init : goal.rows-init
rows-init g c = record {
  pending = c.requires.pending;
  so = none_gathered g.L.Link.looks c.args.number c.args.first c.args.conn.now c.args.rows.now.items c.args.uses.now.items c.requires.none;
}

pub rows-preserved : goal.rows-preserved
rows-preserved g c =
    let look = g.L.Link.looks in
    let new = c.gather_row.new in
    let r : PollsRow look c.args.number c.rows.pending c.rows.conn new.conn c.rows.rows.items new.rows.items c.rows.uses.items new.uses.items None =
    subst (λ (q : Option After). PollsRow look c.args.number c.rows.pending c.rows.conn new.conn c.rows.rows.items new.rows.items c.rows.uses.items new.uses.items q) c.in-None.is c.in_ok-after.ensures in
    record {
      pending = row_idle look c.args.number c.rows.pending c.rows.conn new.conn c.rows.rows.items new.rows.items c.rows.uses.items new.uses.items r;
      so = row_next look c.args.number c.args.first c.args.conn.now c.args.rows.now.items c.rows.pending c.rows.conn new.conn c.rows.rows.items new.rows.items c.rows.uses.items new.uses.items c.rows.invariant.so r;
    }

pub returns-in-Some : goal.returns-in-Some
returns-in-Some g c =
    let look = g.L.Link.looks in
    let new = c.gather_row.new in
    let r : PollsRow look c.args.number c.rows.pending c.rows.conn new.conn c.rows.rows.items new.rows.items c.rows.uses.items new.uses.items (Some c.in-Some.after) =
    subst (λ (q : Option After). PollsRow look c.args.number c.rows.pending c.rows.conn new.conn c.rows.rows.items new.rows.items c.rows.uses.items new.uses.items q) c.in-Some.is c.in_ok-after.ensures in
    row_over look c.args.number c.args.first c.args.conn.now c.args.rows.now.items c.rows.pending c.rows.conn new.conn c.rows.rows.items new.rows.items c.rows.uses.items new.uses.items c.in-Some.after c.rows.invariant.so r
