use Rattle.std.proofs.Common.{◌∙◌}
use Rattle.my_opts_parts.proofs.ListLemmas.{pairs-copied}
use Rattle.my_opts_parts.proofs.lists.AttributesCopied.copy.Goals as goal

pub returns : goal.returns
returns c = pairs-copied _ _ c.in_ok-clone.ensures.cases ∙ c.self.view_is
