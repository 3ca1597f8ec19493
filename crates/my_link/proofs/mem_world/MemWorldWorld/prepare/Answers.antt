use Rattle.std.proofs.Common.{◌≡◌, ◌++◌, ◌∷◌, [], ap, ◌∙◌, rules}
use Rattle.my_link.specs.MemDials.{dials_at}
use Rattle.my_link.proofs.Planning.{planned, none_given, dialed}
use Rattle.my_link.specs.MemParts.{PartIs}
use Rattle.my_link.specs.declared.mem_world.Part.TheVariants.{Dial}
use Rattle.my_link.specs.Planned.{items_at}
use Rattle.my_link.proofs.mem_world.MemWorldWorld.prepare.Goals as goal

pub returns-in_ok-push-in-Dial-clause-ok : goal.returns-in_ok-push-in-Dial-clause-ok
returns-in_ok-push-in-Dial-clause-ok c =
    let part : PartIs c.args.line.now (Dial c.in-Dial.planned) = c.in-Dial.ensures in
    let more : c.push.new.self.items ≡ c.args.self.now.dials.items ++ c.in-Dial.planned ∷ [] = search rules in
    planned c.args.line.now c.args.self.now.links.items c.args.self.now.links.items c.args.self.now.dials.items c.push.new.self.items (λ n. none_given c.args.line.now part.2 n (items_at n c.args.self.now.links.items)) (λ n. ap (dials_at n) more ∙ dialed c.args.line.now c.in-Dial.planned c.args.self.now.dials.items part.0 part.1 n)
