-- The bytes begin with what was found.
use Rattle.my_grammar.proofs.Cutting.InFronts.{found_stands}
use Rattle.my_grammar.proofs.progress.whole_in_front.Goals as goal

pub returns-in-Ok : goal.returns-in-Ok
returns-in-Ok c = found_stands c.args.number c.args.limit c.args.bytes.now c.in-Ok.found c.in-Ok.ensures.means c.in-Ok.ensures.framed
