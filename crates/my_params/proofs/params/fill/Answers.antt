use Rattle.std.proofs.Common.{Global, ◌≡◌, ◌+◌, [], ◌∷◌, ◌++◌, drop, Some, None, sym, ap, ◌∙◌, subst, arith}
use Rattle.std.specs.Option.{option_copied}
use Rattle.my_params.specs.ParamValues.{filled, last_value, value_in}
use Rattle.my_params.proofs.Filling.{after_values, at_front, holds_at_ok, misses, more_values, no_value}
use Rattle.my_params.proofs.params.fill.Goals as goal

pub returns-in-None : goal.returns-in-None
returns-in-None c =
    let names = c.args.names.now in
    let pairs = c.args.pairs.now in
    let i = c.loop-name.name-index in
    let name = c.name-item.result in
    let front = c.loop-name.values.items in
    let rest = drop (i + 1) names in
    let split = at_front names i name (omega (arith, c.loop-name-test.true)) c.name-item.is in
    let at : value_in name c.in-Ok.index ≡ None = subst (λ t. value_in t c.in-Ok.index ≡ None) c.as_slice.ensures (sym c.in-None.ensures.value) in
    let none : last_value name pairs ≡ None = sym (c.in-Ok.ensures name) ∙ ap option_copied at in
    misses Global c.missing.result name (filled names pairs) c.missing.ensures
    (sym (no_value front name (last_value name pairs) none (filled rest pairs))
    ∙ ap (λ ns. after_values front (filled ns pairs)) split ∙ c.loop-name.invariant)

pub loop-name-preserved : goal.loop-name-preserved
loop-name-preserved c =
    let names = c.args.names.now in
    let pairs = c.args.pairs.now in
    let i = c.loop-name.name-index in
    let name = c.name-item.result in
    let front = c.loop-name.values.items in
    let rest = drop (i + 1) names in
    let value = c.in-Some.value.now.now in
    let split = at_front names i name (omega (arith, c.loop-name-test.true)) c.name-item.is in
    let at = subst (λ t. value_in t c.in-Ok.index ≡ Some c.in-Some.value.now) c.as_slice.ensures (sym c.in-Some.ensures.value) in
    let some : last_value name pairs ≡ Some value = sym (c.in-Ok.ensures name) ∙ ap option_copied at in
    let pushed : c.push_copy.new.values.items ≡ front ++ value ∷ [] = holds_at_ok c.push_copy.result (sym c.is_err.ensures.value ∙ c.if-is_err.false) c.push_copy.ensures in
    ap (λ vs. after_values vs (filled rest pairs)) pushed
    ∙ more_values front name (last_value name pairs) value some (filled rest pairs)
    ∙ ap (λ ns. after_values front (filled ns pairs)) split ∙ c.loop-name.invariant
