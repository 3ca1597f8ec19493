use Rattle.std.proofs.Common.{◌+◌, ◌∷◌, drop, ap, ◌∙◌, arith}
use Rattle.std.specs.Option.{option_copied}
use Rattle.my_params.specs.ParamValues.{first_of, last_value, value_in}
use Rattle.my_params.proofs.Filling.{at_front, noted}
use Rattle.my_params.proofs.params.index_of.Goals as goal

pub loop-name-preserved : goal.loop-name-preserved
loop-name-preserved c = λ q.
    let pairs = c.args.pairs.now in
    let i = c.loop-name.name-index in
    let item = c.loop-name-item.result in
    let rest = drop (i + 1) pairs in
    let split = at_front pairs i item (omega (arith, c.loop-name-test.true)) c.loop-name-item.is in
    noted rest c.as_slice.result _ c.loop-name.index c.insert.new.self c.in_ok-insert.ensures.updates q
    ∙ ap (λ ps. first_of (last_value q ps) (option_copied (value_in q c.loop-name.index))) (ap (λ name. (name, item.1) ∷ rest) c.as_slice.ensures ∙ split)
    ∙ c.loop-name.invariant q
