use Rattle.my_link.proofs.Planning.{drip_through}
use Rattle.my_link.proofs.mem_world.drip.Goals as goal

pub returns-clause-lawful : goal.returns-clause-lawful
returns-clause-lawful c = drip_through c.loop-byte.byte-index c.args.bytes.now c.loop-byte.items.items c.loop-byte-test.false c.loop-byte.invariant
