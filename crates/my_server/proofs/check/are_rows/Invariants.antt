-- All pass where those that are left do.
use Rattle.std.proofs.Common.{◌≡◌, ◌==◌, length, drop}
use Rattle.std.specs.List.{list_all}
use Rattle.my_server.proofs.check.are_rows.Given as goal

abbrev pub invariant-loop-row : goal.invariant-loop-row
invariant-loop-row l = list_all (λ row. length row == l.columns) (drop l.row-index l.rows) ≡ list_all (λ row. length row == l.columns) l.rows
