use Rattle.std.proofs.Common.{sym}
use Rattle.std.specs.Str.{bytes_eq}
use Rattle.my_server.specs.declared.script.Reply.{Reply}
use Rattle.my_server.specs.Answer.{CanSend}
use Rattle.my_server.proofs.Sendable.{found_has}
use Rattle.my_server.proofs.answering.found_payloads.Goals as goal

pub reply_payloads-requires : goal.reply_payloads-requires
reply_payloads-requires c =
    found_has (λ (reply : Reply). CanSend reply.answer) (λ (reply : Reply). bytes_eq reply.text c.args.text.now) c.args.replies.now c.in-Some.reply.now (sym c.in-Some.ensures) c.requires
