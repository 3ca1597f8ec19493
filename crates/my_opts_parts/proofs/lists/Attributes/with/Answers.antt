use Rattle.std.proofs.Common.{◌∙◌, ap, map, string_bytes, List, ℕ}
use Rattle.my_opts_parts.specs.Lists.{pair_bytes, with_attribute}
use Rattle.my_opts_parts.proofs.ListLemmas.{insert_entry-seen}
use Rattle.my_opts_parts.proofs.lists.Attributes.with.Goals as goal

pub returns-in-Ok : goal.returns-in-Ok
returns-in-Ok c =
    ap (map pair_bytes) c.in-Ok.ensures.entries ∙ insert_entry-seen c.self.inside.pairs.entries c.args.name c.args.value
    ∙ ap (λ (pairs : List (List ℕ × List ℕ)). with_attribute pairs (string_bytes c.args.name) (string_bytes c.args.value)) c.self.view_is
