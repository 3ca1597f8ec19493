use Rattle.std.proofs.Common.{◌∙◌, Bool, Option, is_none, not, option_map, ap, sym}
use Rattle.my_opts.specs.ChangeUser.{ChangeView}
use Rattle.my_machine.specs.Runs.{parts_left}
use Rattle.my_session.specs.Login.{account_in}
use Rattle.my_session.specs.Adopts.{adopted, adopted_if, head_change, next_change}
use Rattle.my_session.proofs.Adopting.{account_after}
use Rattle.my_session.proofs.Answering.{adopts_if}
use Rattle.my_session.proofs.running.run.Goals as goal

pub returns-in-Ok-clause-account : goal.returns-in-Ok-clause-account
returns-in-Ok-clause-account c =
    let login = c.args.login.now in
    let o = c.args.opened.now in
    let a = account_in c.args.opts.now in
    let first = next_change login o in
    let later = head_change (parts_left login o.call c.run.new.self) in
    account_after login o.call o.progress c.run.new.self c.in-Ok.stop c.args.stand.now c.run.new.stand c.requires.somewhere (rw c.in-Ok.is at c.run.ensures)
    ∙ ap (adopted first later) c.requires.account
    ∙ sym (adopts_if first later a)
    ∙ ap (λ (x : Option ChangeView). adopted_if x (not (is_none later)) a) (sym c.in_ok-change.ensures)
    ∙ ap (λ (b : Bool). adopted_if (option_map (λ b. b.value) c.in_ok-change.change) b a) (sym c.is_changing.ensures)
    ∙ sym c.adopt.ensures.account
