use Rattle.std.proofs.Common.{rules}
use Rattle.my_link.specs.Planned.{added}
use Rattle.my_link.proofs.Planning.{pushed}
use Rattle.my_link.proofs.mem_world.add.Goals as goal

pub returns-clause-ok : goal.returns-clause-ok
returns-clause-ok c = pushed c.args.number c.in_ok-place.place c.entry.new.links.items c.args.links.now.items c.index_mut.result.now c.add.new.self (added c.args.addition) (search rules) (search rules) (search rules) (search rules) (search rules)
