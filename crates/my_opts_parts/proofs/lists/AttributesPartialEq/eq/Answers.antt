use Rattle.my_opts_parts.proofs.ListLemmas.{pairs-same}
use Rattle.my_opts_parts.proofs.lists.AttributesPartialEq.eq.Goals as goal

pub returns : goal.returns
returns c = pairs-same _ _ _ _ _ c.self.view_is c.other.view_is c.eq.ensures
