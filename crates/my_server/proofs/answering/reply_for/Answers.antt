use Rattle.std.proofs.Common.{rules}
use Rattle.std.proofs.lemmas.Iterator.{YieldsList-from_slice}
use Rattle.std.proofs.lemmas.Iterator.Search.{find_from_yields_List}
use Rattle.std.specs.Str.{bytes_eq}
use Rattle.my_server.specs.declared.script.Reply.{Reply}
use Rattle.my_server.proofs.answering.reply_for.Goals as goal
use borrow.Author.Tests.{tests}

pub returns : goal.returns
returns c =
    find_from_yields_List (λ (reply : Reply). bytes_eq reply.text c.args.text.now) _ _ c.find.result c.find.ensures.ran (YieldsList-from_slice c.args.replies.now cc) (λ x b q k. search (rules, tests))
