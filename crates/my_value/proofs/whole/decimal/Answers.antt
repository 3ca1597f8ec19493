use Rattle.std.proofs.lemmas.Str.{IsUtf8-from_ascii}
use Rattle.my_value.proofs.Conversions.Decimals.{numeral_is_ascii}
use Rattle.my_value.proofs.whole.decimal.Goals as goal

pub returns-in-Err : goal.returns-in-Err
returns-in-Err c = λ z d f. c.in-Err.ensures.cases.0 (IsUtf8-from_ascii _ (numeral_is_ascii _ d.numeral))
