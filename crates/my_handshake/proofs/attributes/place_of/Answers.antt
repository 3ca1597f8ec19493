use Rattle.my_handshake.proofs.AttributeLaws.{place_or_end}
use Rattle.my_handshake.proofs.attributes.place_of.Goals as goal

pub returns-clause-place : goal.returns-clause-place
returns-clause-place c = rw (c.unwrap_or.ensures, c.greater_of.ensures.place) (place_or_end _ c.args.pairs.now)
