use Rattle.std.proofs.Common.{inr, refl, ◌∙◌, arith}
use Rattle.my_client.proofs.Living.{lives_on, lives_still}
use Rattle.my_client.proofs.Shaking.{shake_begins, shake_done, shake_failed, shake_full, shake_on}
use Rattle.my_client.proofs.handshake.shake_hands.Goals as goal

pub returns-in-Answered-clause-shakes : goal.returns-in-Answered-clause-shakes
returns-in-Answered-clause-shakes g c = λ login w. shake_done _ _ _ _ _ _ _ _ _ _ _ (c.polls.invariant.so login w) c.in-Ok.ensures.does
    c.args.now c.args.session.now c.poll_open.new.session refl (lives_on c.args.now c.polls.spent _ c.args.session.now c.polls.session c.poll_open.new.session c.polls.invariant.lives c.in-Ok.ensures.leaves.lives)
    (omega (arith, c.if-spent-ge-TOO_LONG.false, c.in-Ok.ensures.leaves.within)) c.in-Answered.answer c.in-Answered.is

pub returns-in-Answered-clause-keeps : goal.returns-in-Answered-clause-keeps
returns-in-Answered-clause-keeps g c = c.in-Ok.ensures.leaves.keeps ∙ c.polls.invariant.keeps

pub returns-in-Failed-clause-shakes : goal.returns-in-Failed-clause-shakes
returns-in-Failed-clause-shakes g c = λ login w. inr (inr (shake_failed _ _ _ _ _ _ _ _ _ _ _ (c.polls.invariant.so login w) c.in-Ok.ensures.does
    (omega (arith, c.if-spent-ge-TOO_LONG.false, c.in-Ok.ensures.leaves.within)) c.in-Failed.error c.in-Failed.is))

pub polls-smaller : goal.polls-smaller
polls-smaller g c = omega (arith, c.if-spent-ge-TOO_LONG.false, shake_full _ _ _ _ _ _ _ _ _ _ _ (c.polls.invariant.so c.requires.0 c.requires.1) c.in-Ok.ensures.does c.in-Pending.is c.never_holds.ensures c.never_holds-in-Ok.ensures)

pub polls-preserved : goal.polls-preserved
polls-preserved g c = record {
  so = λ login w. shake_on _ _ _ _ _ _ _ _ _ _ _ (c.polls.invariant.so login w) c.in-Ok.ensures.does c.in-Pending.is c.never_holds.ensures c.never_holds-in-Ok.ensures;
  room = omega (arith, c.if-spent-ge-TOO_LONG.false, c.in-Ok.ensures.leaves.within);
  keeps = c.in-Ok.ensures.leaves.keeps ∙ c.polls.invariant.keeps;
  lives = lives_on c.args.now c.polls.spent _ c.args.session.now c.polls.session c.poll_open.new.session c.polls.invariant.lives c.in-Ok.ensures.leaves.lives;
}

pub polls-init : goal.polls-init
polls-init g c = record {
  so = λ login w. shake_begins login _ _ _ w;
  keeps = refl;
  room = omega arith;
  lives = lives_still c.args.now 0 c.args.session.now c.args.session.now (omega arith) refl;
}
