use Rattle.std.proofs.Common.{◌≡◌, ℕ, List, drop}
use Rattle.std.specs.Option.{option_copied}
use Rattle.my_params.specs.ParamValues.{first_of, last_value, value_in}
use Rattle.my_params.proofs.params.index_of.Given as goal

abbrev pub invariant-loop-name : goal.invariant-loop-name
invariant-loop-name l = (q : List ℕ)
    → first_of (last_value q (drop l.name-index l.pairs)) (option_copied (value_in q l.index)) ≡ last_value q l.pairs
