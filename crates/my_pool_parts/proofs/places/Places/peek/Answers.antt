use Rattle.std.proofs.Common.{sym, ap, ◌∙◌, nat_eq, option_map}
use Rattle.std.specs.Map.{lookup}
use Rattle.my_pool_parts.specs.declared.node.Node.{Node}
use Rattle.my_pool_parts.proofs.Linked.{linked-found}
use Rattle.my_pool_parts.proofs.places.Places.peek.Goals as goal

pub returns-in-Some : goal.returns-in-Some
returns-in-Some c = ap (option_map (λ (d : Node). d.place)) c.in-Some.ensures.value ∙ sym (linked-found c.args.number c.self.invariant) ∙ ap (lookup (nat_eq c.args.number)) c.self.view_is

pub returns-in-None : goal.returns-in-None
returns-in-None c = ap (option_map (λ (d : Node). d.place)) c.in-None.ensures.value ∙ sym (linked-found c.args.number c.self.invariant) ∙ ap (lookup (nat_eq c.args.number)) c.self.view_is
