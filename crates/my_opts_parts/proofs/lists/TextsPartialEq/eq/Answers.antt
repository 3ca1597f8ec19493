use Rattle.my_opts_parts.proofs.ListLemmas.{texts-same}
use Rattle.my_opts_parts.proofs.lists.TextsPartialEq.eq.Goals as goal

pub returns : goal.returns
returns c = texts-same _ _ _ _ _ c.self.view_is c.other.view_is c.eq.ensures
