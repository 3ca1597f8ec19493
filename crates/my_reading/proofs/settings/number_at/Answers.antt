use Rattle.std.proofs.Common.{ap, ◌∙◌}
use Rattle.std.proofs.lemmas.Str.{IsUtf8-from_ascii}
use Rattle.my_frame.specs.Numeral.{whole_number}
use Rattle.my_frame.proofs.Numerals.{whole-parsed, no-number}
use Rattle.my_reading.proofs.settings.number_at.Goals as goal

pub returns-in-Ok : goal.returns-in-Ok
returns-in-Ok c = c.ok.ensures.value ∙ whole-parsed 64 c.in-Ok.text.now c.parse.result c.parse.ensures.value.0 ∙ ap (whole_number 64) c.in-Ok.ensures.cases.0

pub returns-in-Err : goal.returns-in-Err
returns-in-Err c = no-number 64 c.args.text.now (λ a. c.in-Err.ensures.cases.0 (IsUtf8-from_ascii _ a))
