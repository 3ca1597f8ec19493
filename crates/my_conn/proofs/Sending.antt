-- What a link was sent by polls is what was kept of them.
use Rattle.std.proofs.Common.{ℕ, ◌≡◌, inl, inr, List, [], ◌∷◌, ◌++◌, Option, Some, None, refl, sym, ap, ◌∙◌, subst, append_assoc, append-nil}
use Rattle.my_frame.specs.Outside.{Comes}
use Rattle.my_grammar.specs.declared.login.Login.{Login}
use Rattle.my_link.specs.Aid.{Texts}
use Rattle.my_link.specs.Looks.{Looks}
use Rattle.my_link.specs.Moves.{Leads as LinkLeads, Move, Received, Sent, NoStop, ReadHold, WriteHold, ReadFault, WriteFault, LinkEnd, Stop as LinkStop, StopsAt, sent_by}
use Rattle.my_link.specs.declared.met.Met.{Met}
use Rattle.my_reading.specs.declared.answer.Answer.TheVariants.{Ready}
use Rattle.my_reading.specs.declared.call.Call.{Call}
use Rattle.my_reading.specs.declared.error.Error.{Error}
use Rattle.my_client.specs.declared.poll.After.{After}
use Rattle.my_client.specs.declared.poll.After.TheVariants.{Pending, Answered, Failed}
use Rattle.my_client.specs.declared.tape.Tape.{Tape}
use Rattle.my_client.specs.Conn.{kept_in}
use Rattle.my_client.specs.Ends.{kept_after}
use Rattle.my_client.specs.Kept.{Asked, Kept}
use Rattle.my_client.specs.Notes.{Agrees}
use Rattle.my_client.specs.Polls.{moved_by}
use Rattle.my_session.specs.Sessions.{Seen}
use Rattle.my_client.specs.Calls.{Does, asked_for}
use Rattle.my_client.specs.Makes.{IsMaking, Leads, MakesFor, Point, Polls, WhyNotMade, first_point}
use Rattle.my_client.specs.declared.texts.Making.{Making}
use Rattle.my_client.specs.declared.texts.Making.TheVariants.{Shakes, Asks, Drops}
use Rattle.my_client.proofs.Polled.{moved_sent}
use Rattle.my_conn.specs.Sent.{SentSince, UnmadeAreTaped}

no_bytes : (g : Option (List ℕ)) → Comes g [] g
no_bytes None = tt
no_bytes (Some before) = sym (append-nil before)

comes_on : (g h i : Option (List ℕ)) (bs cs : List ℕ) → Comes g bs h → Comes h cs i → Comes g (bs ++ cs) i
comes_on None None None bs cs a b = tt
comes_on None None (Some i) bs cs a b = b
comes_on None (Some h) i bs cs a b = absurd a
comes_on (Some g) None i bs cs a b = absurd a
comes_on (Some g) (Some h) None bs cs a b = b
comes_on (Some g) (Some h) (Some i) bs cs a b = b ∙ ap (λ (x : List ℕ). x ++ cs) a ∙ append_assoc g bs cs

moves_sent : (ms : List Move) (x y : Looks) → LinkLeads ms x y → Comes x.got (sent_by ms) y.got
moves_sent [] x y w = subst (λ (l : Looks). Comes x.got [] l.got) (sym w) (no_bytes x.got)
moves_sent (Received bytes ∷ ms) x y w = subst (λ (g : Option (List ℕ)). Comes x.got (sent_by ms) g) (sym w.2.1.got) (moves_sent ms x w.0 w.1)
moves_sent (Sent offered bytes ∷ ms) x y w = comes_on x.got w.0.got y.got (sent_by ms) bytes (moves_sent ms x w.0 w.1) w.2.1.got

stops_sent : (stop : LinkStop) (x y : Looks) → StopsAt stop x y → y.got ≡ x.got
stops_sent NoStop x y w = ap (λ (l : Looks). l.got) w
stops_sent ReadHold x y w = w.got
stops_sent WriteHold x y w = w.got
stops_sent ReadFault x y w = w.got
stops_sent WriteFault x y w = w.got
stops_sent LinkEnd x y w = w.got

-- of one poll of a call
same_sent : (call : Option Call) (k : Kept) → (asked_for call k).sent ≡ k.sent
same_sent None k = refl
same_sent (Some call) k = refl

after_sent : (f : Kept) (a : Asked) (after : After) → (kept_after f a after).sent ≡ f.sent
after_sent f a Pending = refl
after_sent f a (Answered answer) = refl
after_sent f a (Failed e) = refl

pub does_sent : (login : Login) (call : Option Call) (x y : Looks) (k end : Kept) (m : Met) (after : After) → Does login call x y k end m after → SentSince x y k end
does_sent login call x y k end m after (inl d) =
    let u = d.polled in
    let f : Kept = asked_for call k in
    let out : List ℕ = sent_by u.moves in
    record {
      bytes = out;
      kept = ap (λ (g : Kept). g.sent) u.ends ∙ after_sent (moved_by f u.moves) d.asked after ∙ moved_sent f u.moves ∙ ap (λ (bs : List ℕ). bs ++ out) (same_sent call k);
      got = subst (λ (g : Option (List ℕ)). Comes x.got out g) (sym (stops_sent u.stop u.moved y u.stops)) (moves_sent u.moves x u.moved u.leads);
    }
does_sent login call x y k end m after (inr d) = record {
  bytes = [];
  kept = ap (λ (g : Kept). g.sent) d.end_is ∙ sym (append-nil k.sent);
  got = subst (λ (l : Looks). Comes x.got [] l.got) (sym d.link_is) (no_bytes x.got);
}

-- of several ones
since_on : (x y z : Looks) (k f end : Kept) → SentSince x y k f → SentSince y z f end → SentSince x z k end
since_on x y z k f end v w = record {
  bytes = v.bytes ++ w.bytes;
  kept = w.kept ∙ ap (λ (bs : List ℕ). bs ++ w.bytes) v.kept ∙ append_assoc k.sent v.bytes w.bytes;
  got = comes_on x.got y.got z.got v.bytes w.bytes v.got w.got;
}

none_since : (p q : Point) → q ≡ p → SentSince p.looks q.looks p.kept q.kept
none_since p q e = subst (λ (r : Point). SentSince p.looks r.looks p.kept r.kept) (sym e) (record { bytes = []; kept = sym (append-nil p.kept.sent); got = no_bytes p.looks.got })

leads_sent : (texts : Texts) (login : Login) (p : Point) (ms : List Point) (q : Point) → Leads texts login p ms q → SentSince p.looks q.looks p.kept q.kept
leads_sent texts login p [] q w = none_since p q w
leads_sent texts login p (m ∷ ms) q w =
    since_on p.looks m.looks q.looks p.kept m.kept q.kept (leads_sent texts login p ms m w.0)
    (does_sent login m.call m.looks q.looks m.kept q.kept w.1.met (Answered Ready) w.1.does)

pub polls_sent : (texts : Texts) (login : Login) (at : Making) (x y : Looks) (k end : Kept) (m : Met) (after : After) → Polls texts login at x y k end m after → SentSince x y k end
polls_sent texts login at x y k end m after c =
    since_on x c.last.looks y k c.last.kept end (leads_sent texts login (first_point at x k) c.earlier c.last c.leads)
    (does_sent login c.last.call c.last.looks y c.last.kept end c.met after c.does)

-- of a connection that wasn't made
pub making_agrees : (login : Login) (at : Making) (s : Seen) (p : Option Tape) (k : Kept) → MakesFor login at None s p k → Agrees p k
making_agrees login Shakes s p k w = w.2.agrees
making_agrees login (Asks n) s p k w = w.1.agrees
making_agrees login (Drops n) s p k w = w.1.agrees

kept_so : (p : Option Tape) (t : Tape) (k : Kept) → p ≡ Some t → Agrees p k → kept_in t ≡ k
kept_so p t k e w = subst (λ (p : Option Tape). Agrees p k) e w

module _ (texts : Texts) (at : Making) (x y : Looks) (seen : Seen) (p q : Option Tape) (m : Met) (e : Error) (s t : Tape) (old : p ≡ Some s) (new : q ≡ Some t) where
  by_tapes : (k end : Kept) → Agrees p k → Agrees q end → SentSince x y k end → SentSince x y (kept_in s) (kept_in t)
  by_tapes k end a b w =
      subst (λ (f : Kept). SentSince x y f (kept_in t)) (sym (kept_so p s k old a)) (subst (λ (f : Kept). SentSince x y k f) (sym (kept_so q t end new b)) w)

  left_sent : IsMaking at seen p → WhyNotMade texts at x y seen p q m e → SentSince x y (kept_in s) (kept_in t)
  left_sent w (inl fails) =
      let f = fails w.0 w.1 w.2 in
      by_tapes w.1 f.0 (making_agrees w.0 at seen p w.1 w.2) f.1 (polls_sent texts w.0 at x y w.1 f.0 m (Failed e) f.2)
  left_sent w (inr refuses) =
      let f = refuses.each w.0 w.1 w.2 in
      by_tapes w.1 f.0 (making_agrees w.0 at seen p w.1 w.2) f.1 (polls_sent texts w.0 at x y w.1 f.0 refuses.calls (Answered Ready) f.2)

pub unmade_taped : {L : Type 0} → UnmadeAreTaped L
unmade_taped look texts old m u s t making left before after =
    left_sent texts old.at (look old.link) (look u.link) old.seen old.tape u.tape m u.error s t before after making left.why
