use Rattle.std.proofs.Common.{rules}
use Rattle.my_link.proofs.Planning.{entered, entered_same}
use Rattle.my_link.proofs.mem_world.entry.Goals as goal

pub returns-in_ok-push-clause-place : goal.returns-in_ok-push-clause-place
returns-in_ok-push-clause-place c = (entered c.args.number c.place_of-place.result c.args.links.now.items c.push.new.self.items (search rules) (search rules) (search rules)).0

pub returns-in_ok-push-clause-within : goal.returns-in_ok-push-clause-within
returns-in_ok-push-clause-within c = (entered c.args.number c.place_of-place.result c.args.links.now.items c.push.new.self.items (search rules) (search rules) (search rules)).1

pub returns-in_ok-push-clause-same : goal.returns-in_ok-push-clause-same
returns-in_ok-push-clause-same c = entered_same c.args.number c.args.links.now.items c.push.new.self.items (search rules)
