use Rattle.std.proofs.Common.{length, ap, ◌∙◌}
use Rattle.my_judge.proofs.reader.Reader.sent_len.Goals as goal

pub returns : goal.returns
returns c = λ login p at. c.len.ensures ∙ ap length at.sent_is
