use Rattle.std.proofs.Common.{ℕ, List, ◌++◌, ap}
use Rattle.my_command.specs.Client.Statement.{bulk_head}
use Rattle.my_params.proofs.Bodies.Lists.{rows_are_lists}
use Rattle.my_params.proofs.laws.lists_are_rows.Goals as goal

pub returns : goal.returns
returns c = λ bulk lists same. ap (λ (x : List ℕ). bulk_head bulk.statement bulk.types ++ x) (rows_are_lists bulk.rows lists same)
