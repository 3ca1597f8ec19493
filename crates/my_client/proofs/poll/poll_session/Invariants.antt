use Rattle.std.proofs.Common.{◌≡◌, ◌≤◌, is_some}
use Rattle.my_frame.specs.declared.limits.TheConstants.{MOST_TAKEN}
use Rattle.my_client.specs.Lives.{Lives, made_in}
use Rattle.my_client.proofs.Polling.{EachSoFar}
use Rattle.my_client.proofs.poll.poll_session.Given as goal

abbrev pub invariant-turns : goal.invariant-turns
invariant-turns g l = record {
  within : l.taken ≤ MOST_TAKEN;
  lives : Lives l.fn.now l.taken l.fn.session l.session;
  made : made_in l.session ≡ made_in l.fn.session;
  keeps : is_some l.tape ≡ is_some l.fn.tape;
  so : EachSoFar l.fn.session.seen l.session.seen (g.L.Link.looks l.fn.link) (g.L.Link.looks l.link) l.fn.tape l.tape l.taken;
}
