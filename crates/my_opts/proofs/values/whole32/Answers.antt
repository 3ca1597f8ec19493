use Rattle.std.proofs.Common.{◌∙◌}
use Rattle.my_frame.proofs.Numerals.{whole-parsed}
use Rattle.my_opts.proofs.values.whole32.Goals as goal

pub returns : goal.returns
returns c = c.ok.ensures.value ∙ whole-parsed 32 c.args.text.now c.parse.result c.parse.ensures.value.0
