use Rattle.std.proofs.Common.{ℕ, ◌≡◌, ◌+◌, ◌-◌, ◌≤◌, arith, subst, sym, ap, refl, ◌∙◌}
use Rattle.my_frame.specs.declared.limits.TheConstants.{MOST_TAKEN}
use Rattle.my_client.specs.declared.poll.Turn.{Turn}
use Rattle.my_client.specs.Stands.{StandsAsked}
use Rattle.my_client.specs.Turns.{EachTurn, took_by}
use Rattle.my_link.specs.declared.met.Met.{Met}
use Rattle.my_client.proofs.Living.{lives_both, lives_still}
use Rattle.my_client.proofs.Polling.{EachSoFar, is_over, nothing_yet, sent_on, took_on}
use Rattle.my_client.proofs.poll.poll_session.Goals.{in-Sent, in-Took}
use Rattle.my_client.proofs.poll.poll_session.Goals as goal

pub turns-init : goal.turns-init
turns-init g c = record {
  within = omega arith;
  lives = lives_still c.args.now 0 c.args.session.now c.args.session.now (omega arith) refl;
  made = refl;
  keeps = refl;
  so = nothing_yet c.args.session.now.seen (g.L.Link.looks c.args.link.now) c.args.tape.now;
}

pub overflow_add-taken : goal.overflow_add-taken
overflow_add-taken g c =
    let within : c.in-Took.n ≤ MOST_TAKEN - c.turns.taken = subst (λ (x : Turn). took_by x ≤ MOST_TAKEN - c.turns.taken) c.in-Took.is c.in_ok-take_turn.ensures.took in
    omega (arith, within, c.turns.invariant.within)

pub returns-in-Over-clause-polls : goal.returns-in-Over-clause-polls
returns-in-Over-clause-polls g c =
    is_over c.args.session.now.seen c.turns.session.seen c.take_turn.new.session.seen (g.L.Link.looks c.args.link.now) (g.L.Link.looks c.turns.link) (g.L.Link.looks c.take_turn.new.link)
    c.args.tape.now c.turns.tape c.take_turn.new.tape c.turns.taken (MOST_TAKEN - c.turns.taken) c.turns.invariant.so c.in-Over.halt c.in-Over.after c.met_at.result
    (subst (λ (x : Turn). EachTurn StandsAsked c.turns.session.seen c.take_turn.new.session.seen (g.L.Link.looks c.turns.link) (g.L.Link.looks c.take_turn.new.link) c.turns.tape c.take_turn.new.tape (MOST_TAKEN - c.turns.taken) x) c.in-Over.is c.in_ok-take_turn.ensures.turn)
    (omega (arith, c.turns.invariant.within)) c.met_at.ensures

pub returns-in-Over-clause-lives : goal.returns-in-Over-clause-lives
returns-in-Over-clause-lives g c =
    lives_both c.args.now c.turns.taken (took_by c.in_ok-take_turn.field-0) c.met_at.result.taken c.args.session.now c.turns.session c.take_turn.new.session
    (omega (arith, ap (λ (m : Met). m.taken) c.met_at.ensures, ap took_by c.in-Over.is)) c.turns.invariant.lives c.in_ok-take_turn.ensures.lives

pub turns-preserved : goal.turns-preserved
turns-preserved g c =
    let each = λ (x : Turn). EachTurn StandsAsked c.turns.session.seen c.take_turn.new.session.seen (g.L.Link.looks c.turns.link) (g.L.Link.looks c.take_turn.new.link) c.turns.tape c.take_turn.new.tape (MOST_TAKEN - c.turns.taken) x in
    let far = λ (n : ℕ). EachSoFar c.args.session.now.seen c.take_turn.new.session.seen (g.L.Link.looks c.args.link.now) (g.L.Link.looks c.take_turn.new.link) c.args.tape.now c.take_turn.new.tape n in
    elim c.match-branch-2.branch [
      | in-Sent w ↦
          let same : c.match-branch-2.taken ≡ c.turns.taken = omega (arith, w.taken-is) in
          record {
            within = omega (arith, same, c.turns.invariant.within);
            made = c.take_turn.ensures.made ∙ c.turns.invariant.made;
            keeps = c.take_turn.ensures.keeps ∙ c.turns.invariant.keeps;
            lives = lives_both c.args.now c.turns.taken (took_by c.in_ok-take_turn.field-0) c.match-branch-2.taken c.args.session.now c.turns.session c.take_turn.new.session
                (omega (arith, same, ap took_by w.in-Sent.is)) c.turns.invariant.lives c.in_ok-take_turn.ensures.lives;
            so = subst far (sym same)
                (sent_on c.args.session.now.seen c.turns.session.seen c.take_turn.new.session.seen (g.L.Link.looks c.args.link.now) (g.L.Link.looks c.turns.link) (g.L.Link.looks c.take_turn.new.link)
                c.args.tape.now c.turns.tape c.take_turn.new.tape c.turns.taken (MOST_TAKEN - c.turns.taken) c.turns.invariant.so (subst each w.in-Sent.is c.in_ok-take_turn.ensures.turn));
          }
      | in-Took w ↦
          let within : w.in-Took.n ≤ MOST_TAKEN - c.turns.taken = subst (λ (x : Turn). took_by x ≤ MOST_TAKEN - c.turns.taken) w.in-Took.is c.in_ok-take_turn.ensures.took in
          let same : c.match-branch-2.taken ≡ c.turns.taken + w.in-Took.n = omega (arith, w.taken-is) in
          record {
            within = omega (arith, same, within, c.turns.invariant.within);
            made = c.take_turn.ensures.made ∙ c.turns.invariant.made;
            keeps = c.take_turn.ensures.keeps ∙ c.turns.invariant.keeps;
            lives = lives_both c.args.now c.turns.taken (took_by c.in_ok-take_turn.field-0) c.match-branch-2.taken c.args.session.now c.turns.session c.take_turn.new.session
                (omega (arith, same, ap took_by w.in-Took.is)) c.turns.invariant.lives c.in_ok-take_turn.ensures.lives;
            so = subst far (sym same)
                (took_on c.args.session.now.seen c.turns.session.seen c.take_turn.new.session.seen (g.L.Link.looks c.args.link.now) (g.L.Link.looks c.turns.link) (g.L.Link.looks c.take_turn.new.link)
                c.args.tape.now c.turns.tape c.take_turn.new.tape c.turns.taken (MOST_TAKEN - c.turns.taken) c.turns.invariant.so w.in-Took.n (subst each w.in-Took.is c.in_ok-take_turn.ensures.turn));
          }
    ]

pub returns-in-Over-clause-made : goal.returns-in-Over-clause-made
returns-in-Over-clause-made g c = c.take_turn.ensures.made ∙ c.turns.invariant.made

pub returns-in-Over-clause-keeps : goal.returns-in-Over-clause-keeps
returns-in-Over-clause-keeps g c = c.take_turn.ensures.keeps ∙ c.turns.invariant.keeps
