use Rattle.std.proofs.Common.{arith}
use Rattle.my_params.proofs.Bodies.Lists.{length_list}
use Rattle.my_params.proofs.bulk.bulk_list_len.Goals as goal

pub returns : goal.returns
returns c = omega (arith, length_list c.args.values.now)
