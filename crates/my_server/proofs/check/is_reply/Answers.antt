use Rattle.std.proofs.Common.{sym, ◌∙◌}
use Rattle.my_server.proofs.Sendable.{can_send}
use Rattle.my_server.proofs.check.is_reply.Goals as goal

pub reply_payloads-requires : goal.reply_payloads-requires
reply_payloads-requires c = can_send c.args.reply.now.answer (sym c.is_answer.ensures ∙ c.if-not-is_answer.false)
