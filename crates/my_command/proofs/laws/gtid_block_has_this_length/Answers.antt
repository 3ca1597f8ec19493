use Rattle.my_command.proofs.ReplicaLaws.{block_long}
use Rattle.my_command.proofs.laws.gtid_block_has_this_length.Goals as goal

pub returns : goal.returns
returns c = block_long
