use Rattle.std.proofs.Common.{◌≡◌, ℕ, List, true, map, sym, ap, ◌∙◌, subst}
use Rattle.my_reading.specs.Calls.{kind_of}
use Rattle.my_judge.specs.Reads.{IsRead, may_stand, span_of, with_span}
use Rattle.my_judge.specs.Tapes.{call_of, tape_of}
use Rattle.my_judge.proofs.Ends.{takes_call}
use Rattle.my_judge.proofs.reader.Reader.take_call.Goals as goal

pub returns : goal.returns
returns c =
    let login = c.args.login.now in
    let old = c.args.self.now in
    let new = c.read_call.new.self in
    let right = c.in_ok-right.right in
    let call = call_of c.args.call.now in
    let span = span_of (tape_of c.args.tape.now) call (map call_of c.args.after.now) in
    let may : may_stand c.args.index (kind_of call.call) ≡ true = sym (c.may_stand.ensures ∙ ap (may_stand c.args.index) c.kind.ensures) ∙ c.if-not-may_stand.false in
    let sent : IsRead login (with_span call span.sent c.taken_in-taken.result.now) old right new
    = subst (λ (bytes : List ℕ). IsRead login (with_span call bytes c.taken_in-taken.result.now) old right new) c.sent_in-sent.ensures c.in_ok-right.ensures in
    let read : IsRead login span old right new = subst (λ (bytes : List ℕ). IsRead login (with_span call span.sent bytes) old right new) c.taken_in-taken.ensures sent in
    takes_call login c.args.index span old right new may read
