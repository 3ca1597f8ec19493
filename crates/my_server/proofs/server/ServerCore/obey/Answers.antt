use Rattle.std.proofs.Common.{◌≡◌, drop, sym, ap, ◌∙◌, subst}
use Rattle.my_server.specs.declared.command.CommandKind.TheVariants as commands
use Rattle.my_server.specs.Command.{command_kind}
use Rattle.my_server.specs.Machine.{Steps, answer_move}
use Rattle.my_server.proofs.Sendable.{served_replies}
use Rattle.my_server.proofs.server.ServerCore.obey.Goals as goal
use Rattle.my_server.proofs.server.ServerCore.obey.Goals.{in-Quit, in_default}

pub returns-then-matches : goal.returns-then-matches
returns-then-matches c =
    let s = c.args.self.now in
    let f = c.args.found.now in
    let quits : c.command_kind-kind.result ≡ commands.Quit = elim c.match-matches.branch [ in-Quit w ↦ w.in-Quit.is | in_default w ↦ let no = w.matches-is in let yes = c.if-matches.true in cc ] in
    let is : command_kind f.payload ≡ commands.Quit = ap command_kind (sym c.as_slice.ensures) ∙ sym c.command_kind-kind.ensures ∙ quits in
    subst (λ k. Steps (answer_move s c.args.kept f.payload (drop f.span.len s.unread) f.span.next k) s c.close.new.self c.close.result) (sym is) c.close.ensures

pub command_answer-answer-requires : goal.command_answer-answer-requires
command_answer-answer-requires c = served_replies c.self.inside.script c.self.invariant.script
