use Rattle.std.proofs.Common.{[], ◌++◌}
use Rattle.my_server.proofs.greet.salted.Goals as goal

pub returns : goal.returns
returns c =
    c.finalize.ensures (c.args.nonce.now ++ c.args.stored.now) (c.update-2.ensures c.args.nonce.now (c.update.ensures [] c.new-hasher.ensures))
