use Rattle.std.proofs.Common.{ℕ, ◌∙◌, ap, sym, Vec, Global}
use Rattle.std.proofs.lemmas.Str.{IsUtf8-had}
use Rattle.my_value.specs.declared.value.Value.TheVariants.{Bytes}
use Rattle.my_value.proofs.plain.StringFromValue.from_value_opt.Goals as goal

pub returns-in-Ok-clause-converted : goal.returns-in-Ok-clause-converted
returns-in-Ok-clause-converted c = (c.in-Bytes.is ∙ ap Bytes (sym c.into_vec.ensures ∙ ap (λ (v : Vec ℕ Global). v.items) (sym c.in-Ok.ensures.ok)), IsUtf8-had _ c.in-Ok.text.ok)
