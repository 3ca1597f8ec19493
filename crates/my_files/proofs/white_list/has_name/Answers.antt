use Rattle.std.proofs.Common.{rules, tests, ◌∙◌, string_bytes}
use Rattle.std.proofs.lemmas.Iterator.{YieldsList-from_slice}
use Rattle.std.proofs.lemmas.Iterator.Search.{any_from_yields_List}
use Rattle.std.specs.Prelude.{bytes_eq}
use Rattle.my_files.proofs.Listing.{texts_listed}
use Rattle.my_files.proofs.white_list.has_name.Goals as goal

pub returns : goal.returns
returns c =
    any_from_yields_List (λ t. bytes_eq (string_bytes t) c.args.name.now) _ _ _ c.any.ensures.ran
    (YieldsList-from_slice c.args.list.now cc) (λ x b q k. search (rules, tests))
    ∙ texts_listed c.args.name.now c.args.list.now
