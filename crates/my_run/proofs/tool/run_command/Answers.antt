use Rattle.std.proofs.Common.{◌≡◌, ◌&&◌, inl, not, refl, rules}
use Rattle.my_script.specs.Words.{command_view}
use Rattle.my_run.proofs.tool.run_command.Goals.{then-not-command, else-not-command}
use Rattle.my_run.proofs.Stopping.{blank_stop}
use Rattle.my_run.proofs.tool.run_command.Goals as goal

pub returns-in-Ok-Ok : goal.returns-in-Ok-Ok
returns-in-Ok-Ok g c =
    let planned : c.if-not-command.plans ≡ (not c.args.command.is_live && (g.N.Dialer.seen c.args.world.now).takes) = elim c.if-not-command.branch [
      | then-not-command w ↦ first_of (search rules, grind rules)
      | else-not-command w ↦ first_of (search rules, grind rules)
    ] in
    λ words e. c.run_input-report.ensures words (command_view c.args.command) (record { read = e; stands = first_of (search rules, grind rules) }) planned

pub returns-in-Err : goal.returns-in-Err
returns-in-Err g c = λ words e. blank_stop words (g.N.Dialer.seen c.args.world.now) (g.N.Dialer.seen c.args.world.now) (g.S.Source.seen c.args.src.now) (g.S.Source.seen c.args.src.now) (g.W.Sink.seen c.args.out.now) (g.W.Sink.seen c.args.out.now) c.blank.result c.blank.ensures.status refl c.blank.ensures.answers c.blank.ensures.tapes (inl refl)
