use Rattle.std.proofs.Common.{◌≡◌, Option, None, Some, inl, map, sym, subst}
use Rattle.my_client.specs.Conn.{kept_in}
use Rattle.my_client.specs.declared.tape.Tape.{Tape}
use Rattle.my_steps.specs.Slot.{parts_in, parts_of}
use Rattle.my_run.specs.Tapes.{tape_view}
use Rattle.my_run.proofs.Runs.Taping.{kept_handed, kept_link, kept_tape, no_link, no_tape}
use Rattle.my_run.proofs.Stopping.{err_at}
use Rattle.my_run.proofs.run.keep_tape.Goals as goal

pub returns-in-None-clause-tape : goal.returns-in-None-clause-tape
returns-in-None-clause-tape g c =
    let none : parts_of c.args.slot ≡ None = sym (subst (λ (q : Option (Tape × g.row.N-L.Denot)). parts_in q ≡ parts_of c.args.slot) c.in-None.is c.into_parts.ensures) in
    no_tape g.N.L.Link.looks c.args.number c.args.slot (map tape_view c.args.tapes.now.items) none

pub returns-in-None-clause-back : goal.returns-in-None-clause-back
returns-in-None-clause-back g c =
    let none : parts_of c.args.slot ≡ None = sym (subst (λ (q : Option (Tape × g.row.N-L.Denot)). parts_in q ≡ parts_of c.args.slot) c.in-None.is c.into_parts.ensures) in
    no_link g.N.L.Link.looks c.args.number c.args.slot (g.N.Dialer.seen c.args.world.now).back none

pub returns-in_ok-push-in-Some-clause-tape : goal.returns-in_ok-push-in-Some-clause-tape
returns-in_ok-push-in-Some-clause-tape g c =
    let some : parts_of c.args.slot ≡ Some (kept_in c.in-Some.kept, c.in-Some.link) = sym (subst (λ (q : Option (Tape × g.row.N-L.Denot)). parts_in q ≡ parts_of c.args.slot) c.in-Some.is c.into_parts.ensures) in
    kept_tape g.N.L.Link.looks c.args.number (kept_in c.in-Some.kept) c.in-Some.link c.args.slot c.args.tapes.now.items c.push.new.self.items c.in_ok-end_tape-in-Some.field-0 some c.in_ok-end_tape-in-Some.ensures.tape c.in_ok-push-in-Some.ensures.items

pub returns-in_ok-push-in-Some-clause-back : goal.returns-in_ok-push-in-Some-clause-back
returns-in_ok-push-in-Some-clause-back g c =
    let some : parts_of c.args.slot ≡ Some (kept_in c.in-Some.kept, c.in-Some.link) = sym (subst (λ (q : Option (Tape × g.row.N-L.Denot)). parts_in q ≡ parts_of c.args.slot) c.in-Some.is c.into_parts.ensures) in
    kept_link g.N.L.Link.looks c.args.number (kept_in c.in-Some.kept) c.in-Some.link c.args.slot (g.N.Dialer.seen c.args.world.now).back (g.N.Dialer.seen c.end_tape.new.world).back some c.in_ok-end_tape-in-Some.ensures.back

pub returns-in_err-end_tape-in-Some-clause-err : goal.returns-in_err-end_tape-in-Some-clause-err
returns-in_err-end_tape-in-Some-clause-err g c =
    let some : parts_of c.args.slot ≡ Some (kept_in c.in-Some.kept, c.in-Some.link) = sym (subst (λ (q : Option (Tape × g.row.N-L.Denot)). parts_in q ≡ parts_of c.args.slot) c.in-Some.is c.into_parts.ensures) in
    err_at c.from_residual.result _ (kept_handed g.N.L.Link.looks c.args.number (kept_in c.in-Some.kept) c.in-Some.link c.args.slot (g.N.Dialer.seen c.args.world.now).back (g.N.Dialer.seen c.end_tape.new.world).back some c.in_err-end_tape-in-Some.ensures.err)

pub returns-in_err-push-in-Some-clause-err : goal.returns-in_err-push-in-Some-clause-err
returns-in_err-push-in-Some-clause-err g c =
    let some : parts_of c.args.slot ≡ Some (kept_in c.in-Some.kept, c.in-Some.link) = sym (subst (λ (q : Option (Tape × g.row.N-L.Denot)). parts_in q ≡ parts_of c.args.slot) c.in-Some.is c.into_parts.ensures) in
    err_at c.from_residual-in_err-push-in-Some.result _ (kept_handed g.N.L.Link.looks c.args.number (kept_in c.in-Some.kept) c.in-Some.link c.args.slot (g.N.Dialer.seen c.args.world.now).back (g.N.Dialer.seen c.end_tape.new.world).back some (inl c.in_ok-end_tape-in-Some.ensures.back))
