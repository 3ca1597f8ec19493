use Rattle.std.proofs.Common.{◌≡◌, true, false, rules}
use Rattle.my_steps.specs.Did.{EachFollowed}
use Rattle.my_steps.specs.Grows.{is_done}
use Rattle.my_steps.proofs.Working.Numbers.{did_ok, ok_at}
use Rattle.my_steps.proofs.Working.Streaming.{nothing_after, read_after}
use Rattle.my_steps.proofs.stream.then_read.Goals as goal

pub returns-then-not-is_done-clause-did : goal.returns-then-not-is_done-clause-did
returns-then-not-is_done-clause-did g c =
    let none : is_done c.args.skipped.outcome ≡ false = search rules in
    λ login w. nothing_after g.L.Link.looks c.args.number login c.args.aim c.args.conn c.args.skipped none w

pub returns-in-Ok-clause-did : goal.returns-in-Ok-clause-did
returns-in-Ok-clause-did g c =
    let done : is_done c.args.skipped.outcome ≡ true = search rules in
    let v = c.follow-slot in
    let read = ok_at v.result.1 c.in-Ok.read (EachFollowed g.L.Link.looks c.args.number c.args.aim c.args.conn v.result.0) c.in-Ok.is v.ensures.did in
    did_ok c.joined.result _ _ _ c.joined.ensures.outcome c.joined.ensures.uses
    (λ d e f login w. read_after g.L.Link.looks c.args.number login c.args.aim c.args.conn c.follow-slot.result.0 c.args.skipped c.in-Ok.read d done e f (read login w))
