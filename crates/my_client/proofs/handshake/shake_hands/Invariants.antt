use Rattle.std.proofs.Common.{◌≡◌, ◌+◌, ◌-◌, ◌<◌, is_some}
use Rattle.my_frame.specs.declared.limits.TheConstants.{MOST_TAKEN}
use Rattle.my_grammar.specs.declared.login.Login.{Login}
use Rattle.my_client.specs.Kept.{first_asked, first_kept}
use Rattle.my_client.specs.Lives.{Lives}
use Rattle.my_client.specs.Makes.{ConnectsFor}
use Rattle.my_client.specs.declared.handshake.TheConstants.{TOO_LONG}
use Rattle.my_client.proofs.Shaking.{ShakeSoFar}
use Rattle.my_client.proofs.handshake.shake_hands.Given as goal

abbrev pub invariant-polls : goal.invariant-polls
invariant-polls g l = record {
  so : (login : Login) → ConnectsFor login l.fn.session.seen l.fn.tape first_kept first_asked
      → ShakeSoFar login (g.L.Link.looks l.fn.link) (g.L.Link.looks l.link) l.session.seen l.tape l.spent;
  keeps : is_some l.tape ≡ is_some l.fn.tape;
  lives : Lives l.fn.now l.spent l.fn.session l.session;
  room : l.spent < TOO_LONG + MOST_TAKEN;
}

abbrev pub decreases-polls : goal.decreases-polls
decreases-polls g l = (TOO_LONG + MOST_TAKEN) - l.spent
