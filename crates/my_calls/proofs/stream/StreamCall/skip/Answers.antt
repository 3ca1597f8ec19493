use Rattle.std.proofs.Common.{Err, refl, sym, subst}
use Rattle.my_link.specs.declared.poll.Poll.TheVariants as polls
use Rattle.my_client.specs.declared.poll.After.{After}
use Rattle.my_calls.specs.Streams.{SkipEnds}
use Rattle.my_calls.proofs.stream.StreamCall.skip.Goals as goal

pub returns-in-Pending-clause-skips : goal.returns-in-Pending-clause-skips
returns-in-Pending-clause-skips g c =
    let mid = c.poll_call-after.new.self in (
      c.poll_call-after.result.1,
      c.poll_call-after.result.0,
      mid,
      c.poll_call-after.ensures,
      subst (λ (a : After). SkipEnds g.L.Link.looks c.args.now a mid mid polls.Pending) (sym c.in-Pending.is) (refl, refl),
    )

pub returns-in-Answered-clause-skips : goal.returns-in-Answered-clause-skips
returns-in-Answered-clause-skips g c =
    let mid = c.poll_call-after.new.self in (
      c.poll_call-after.result.1,
      c.poll_call-after.result.0,
      mid,
      c.poll_call-after.ensures,
      subst (λ (a : After). SkipEnds g.L.Link.looks c.args.now a mid c.take.new.conn c.take.result) (sym c.in-Answered.is) c.take.ensures.takes,
    )

pub returns-in-Failed-clause-skips : goal.returns-in-Failed-clause-skips
returns-in-Failed-clause-skips g c =
    let mid = c.poll_call-after.new.self in (
      c.poll_call-after.result.1,
      c.poll_call-after.result.0,
      mid,
      c.poll_call-after.ensures,
      subst (λ (a : After). SkipEnds g.L.Link.looks c.args.now a mid mid (polls.Ready (Err c.in-Failed.error))) (sym c.in-Failed.is) (refl, refl),
    )
