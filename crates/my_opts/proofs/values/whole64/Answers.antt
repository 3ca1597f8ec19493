use Rattle.std.proofs.Common.{◌∙◌}
use Rattle.my_frame.proofs.Numerals.{whole-parsed}
use Rattle.my_opts.proofs.values.whole64.Goals as goal

pub returns : goal.returns
returns c = c.ok.ensures.value ∙ whole-parsed 64 c.args.text.now c.parse.result c.parse.ensures.value.0
