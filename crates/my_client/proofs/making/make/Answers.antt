use Rattle.std.proofs.Common.{refl, ap, ◌∙◌, arith}
use Rattle.my_link.specs.declared.met.Met.{Met}
use Rattle.my_client.specs.declared.texts.Next.TheVariants as nexts
use Rattle.my_client.proofs.Points.{begins, failed_so, goes_on, is_made, next_so, refused_so, starts, stays}
use Rattle.my_client.proofs.making.make.Goals as goal

pub calls-init : goal.calls-init
calls-init g c = record {
  so = begins (g.A.AfterConnect.texts c.args.aid.now) c.args.now c.args.first (g.L.Link.looks c.args.link.now) c.args.session.now c.args.tape.now;
  keeps = refl;
  same = refl;
  room = omega arith;
}

pub poll_once-requires : goal.poll_once-requires
poll_once-requires g c = starts _ _ _ _ _ _ _ _ _ _ _ _ c.calls.invariant.so c.requires

pub with_earlier-met-requires : goal.with_earlier-met-requires
with_earlier-met-requires g c = omega (arith, c.calls.invariant.room, c.in-Ok.ensures.leaves.within)

pub returns-in-Pending : goal.returns-in-Pending
returns-in-Pending g c =
    record {
      makes = stays _ _ _ _ _ _ _ _ _ _ _ _ c.calls.invariant.so (g.L.Link.looks c.poll_once.new.link) c.poll_once.new.session c.poll_once.new.tape c.in-Ok.last c.in-Ok.after c.in-Ok.ensures.does c.in-Ok.ensures.leaves.lives
          c.requires c.in-Pending.is c.with_earlier-met.result c.with_earlier-met.ensures;
      keeps = c.in-Ok.ensures.leaves.keeps ∙ c.calls.invariant.keeps;
      same = c.calls.invariant.same;
    }

pub returns-in-Failed : goal.returns-in-Failed
returns-in-Failed g c =
    record {
      makes = failed_so _ _ _ _ _ _ _ _ _ _ _ _ c.calls.invariant.so (g.L.Link.looks c.poll_once.new.link) c.poll_once.new.session c.poll_once.new.tape c.in-Ok.last c.in-Ok.after c.in-Ok.ensures.does c.in-Ok.ensures.leaves.lives
          c.in-Failed.error c.in-Failed.is c.with_earlier-met.result c.with_earlier-met.ensures;
      keeps = c.in-Ok.ensures.leaves.keeps ∙ c.calls.invariant.keeps;
      same = c.calls.invariant.same;
    }

pub returns-in-Ok-Refused : goal.returns-in-Ok-Refused
returns-in-Ok-Refused g c =
    record {
      makes = refused_so _ _ _ _ _ _ _ _ _ _ _ _ c.calls.invariant.so (g.L.Link.looks c.poll_once.new.link) c.poll_once.new.session c.poll_once.new.tape c.in-Ok.last c.in-Ok.after c.in-Ok.ensures.does c.in-Ok.ensures.leaves.lives
          c.in-Answered.answer c.in-Answered.is c.in-Ok-Refused.error (next_so _ _ c.calls.at c.in-Ok-Refused.field-0 (nexts.Refused c.in-Ok-Refused.error) c.calls.invariant.same c.in-Ok-Refused.field-0-is c.in-Ok-Refused.ensures.follows) c.with_earlier-met.result c.with_earlier-met.ensures;
      keeps = c.in-Ok.ensures.leaves.keeps ∙ c.calls.invariant.keeps;
      same = c.follow.ensures.same ∙ c.calls.invariant.same;
    }

pub returns-in-Ok-Done : goal.returns-in-Ok-Done
returns-in-Ok-Done g c =
    record {
      makes = is_made _ _ _ _ _ _ _ _ _ _ _ _ c.calls.invariant.so (g.L.Link.looks c.poll_once.new.link) c.poll_once.new.session c.poll_once.new.tape c.in-Ok.last c.in-Ok.after c.in-Ok.ensures.does c.in-Ok.ensures.leaves.lives
          c.in-Answered.answer c.in-Answered.is (next_so _ _ c.calls.at c.in-Ok-Done.field-0 nexts.Done c.calls.invariant.same c.in-Ok-Done.field-0-is c.in-Ok-Done.ensures.follows) c.with_earlier-met.result c.with_earlier-met.ensures;
      keeps = c.in-Ok.ensures.leaves.keeps ∙ c.calls.invariant.keeps;
      same = c.follow.ensures.same ∙ c.calls.invariant.same;
    }

pub calls-preserved : goal.calls-preserved
calls-preserved g c =
    let sum = ap (λ (m : Met). m.taken) c.with_earlier-met.ensures in
    record {
      so = goes_on _ _ _ _ _ _ _ _ _ _ _ _ c.calls.invariant.so (g.L.Link.looks c.poll_once.new.link) c.poll_once.new.session c.poll_once.new.tape c.in-Ok.last c.in-Ok.after c.in-Ok.ensures.does c.in-Ok.ensures.leaves.lives
          c.in-Answered.answer c.in-Answered.is c.in-Ok-Call.to c.in-Ok-Call.call (next_so _ _ c.calls.at c.in-Ok-Call.field-0 (nexts.Call c.in-Ok-Call.to c.in-Ok-Call.call) c.calls.invariant.same c.in-Ok-Call.field-0-is c.in-Ok-Call.ensures.follows) c.with_earlier-met.result.taken sum;
      keeps = c.in-Ok.ensures.leaves.keeps ∙ c.calls.invariant.keeps;
      same = c.follow.ensures.same ∙ c.calls.invariant.same;
      room = omega (arith, c.calls.invariant.room, c.in-Ok.ensures.leaves.within, sum);
    }
