use Rattle.std.proofs.Common.{◌≡◌, map, take}
use Rattle.my_command.specs.Client.Statement.{head_of}
use Rattle.my_command.proofs.statement.heads_of.Given as goal

abbrev pub invariant-loop-parameter : goal.invariant-loop-parameter
invariant-loop-parameter l = l.heads.items ≡ map head_of (take l.parameter-index l.parameters)
