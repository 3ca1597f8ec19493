use Rattle.std.proofs.Common.{◌∙◌, string_bytes}
use Rattle.my_opts_parts.proofs.ListLemmas.{map-copied}
use Rattle.my_opts_parts.proofs.lists.TextsCopied.copy.Goals as goal

pub returns : goal.returns
returns c = map-copied (λ s. string_bytes s) _ _ c.in_ok-clone.ensures.cases.0 ∙ c.self.view_is
