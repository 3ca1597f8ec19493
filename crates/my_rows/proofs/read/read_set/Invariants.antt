use Rattle.std.proofs.Common.{◌≡◌, None, List}
use Rattle.my_value.specs.RowParts.{RowParts}
use Rattle.my_rows.specs.Gathers.{Gathered}
use Rattle.my_rows.specs.Reads.{ReadsRows}
use Rattle.my_rows.proofs.read.read_set.Given as goal

abbrev pub invariant-rows : goal.invariant-rows
invariant-rows g l = record {
  idle : (g.C.Calls.conn_of l.conn).pending ≡ None;
  loans : g.C.Calls.loans_of l.conn ≡ g.C.Calls.loans_of l.fn.conn;
  ready : g.G.Gather.ready l.gathered;
  gathers : (rows : List RowParts) × ReadsRows g.C.L.Link.looks (g.C.Calls.conn_of l.fn.conn) rows (g.C.Calls.conn_of l.conn)
      × Gathered g.T.FromRow.row_becomes g.G.Gather.takes l.fn.start rows l.gathered;
}
