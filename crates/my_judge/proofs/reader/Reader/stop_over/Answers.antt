use Rattle.std.proofs.Common.{sym, subst}
use Rattle.my_reading.specs.Place.{with_bytes}
use Rattle.my_judge.specs.declared.stand.Stand.{Stand}
use Rattle.my_judge.specs.Stands.{IsAt}
use Rattle.my_judge.proofs.Settling.{at_bytes}
use Rattle.my_judge.proofs.reader.Reader.stop_over.Goals as goal

pub stop-requires : goal.stop-requires
stop-requires c =
    let login = c.args.login.now in
    let sent = c.args.sent.now in
    let taken = c.args.taken.now in
    let p = c.requires.0 in
    (with_bytes sent taken p, subst (λ (s : Stand). IsAt login (with_bytes sent taken p) s) (sym c.in_ok-add_bytes.ensures) (at_bytes login p c.args.self.now.stand sent taken c.requires.1))
