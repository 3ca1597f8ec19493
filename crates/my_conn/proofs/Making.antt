-- A connection that is being made, and one that was made.
use Rattle.std.proofs.Common.{ℕ, ◌≡◌, ◌≤◌, List, [], ◌∷◌, ◌++◌, drop, length, Option, Some, None, Result, Ok, Err, inl, inr, is_some, Bool, true, false, refl, sym, ◌∙◌, subst, arith}
use Rattle.std.proofs.lemmas.Bool.{true≢false}
use Rattle.my_grammar.specs.declared.login.Login.{Login}
use Rattle.my_link.specs.Aid.{Texts}
use Rattle.my_link.specs.Looks.{Looks}
use Rattle.my_link.specs.declared.met.Met.{Met}
use Rattle.my_reading.specs.declared.call.CallKind.{CallKind}
use Rattle.my_reading.specs.declared.error.Error.TheVariants as errors
use Rattle.my_reading.specs.Course.{parts_of}
use Rattle.my_reading.specs.Place.{Place, first_place, with_bytes}
use Rattle.my_reading.specs.Reading.{read_calls}
use Rattle.my_machine.specs.Runs.{parts_left}
use Rattle.my_opts.specs.Opts.{OptsView}
use Rattle.my_opts_parts.specs.declared.error.UrlError.{UrlError}
use Rattle.my_session.specs.Login.{login_of}
use Rattle.my_client.specs.declared.tape.Tape.{Tape}
use Rattle.my_client.specs.Kept.{Kept, first_asked, first_kept}
use Rattle.my_client.specs.Reads.{EndedRead}
use Rattle.my_session.proofs.Keeping.{leads_shorter}
use Rattle.my_session.specs.Sessions.{Seen}
use Rattle.my_session.specs.View.{View}
use Rattle.my_client.specs.Stands.{StandsAt, StandsOpen}
use Rattle.my_client.proofs.Resting.{at_unread}
use Rattle.my_client.specs.Makes.{ConnectsFor, IsMade, IsMaking, MakesFor, MakesTo, StaysMaking}
use Rattle.my_client.specs.declared.making.MakeStep.{MakeStep}
use Rattle.my_client.specs.StandsFor.{StandsFor}
use Rattle.my_client.specs.Waits.{IsShaken}
use Rattle.my_client.specs.declared.texts.Making.{Making}
use Rattle.my_client.specs.declared.texts.Making.TheVariants.{Shakes, Asks, Drops}
use Rattle.my_conn.specs.Conn.{Standing}
use Rattle.my_conn.specs.News.{FromUrlIs, Given, IsFirst, IsNew, first_fixed, untaped}
use Rattle.my_conn.specs.declared.conn.Fixed.{Fixed}

-- nothing was received before the first call
no_length : (xs : List ℕ) → length xs ≤ 0 → xs ≡ []
no_length [] e = refl
no_length (x ∷ xs) e = absurd (omega (arith, e))

module _ (login : Login) (s : Seen) where
  first_before : (closed : Bool) (before : Place) → EndedRead login first_kept 0 0 closed before → (before ≡ first_place login) × (closed ≡ false)
  unfolding read_calls
  first_before closed before w = (sym w.place_is, sym w.closed_is)

  open_unread : StandsOpen login s first_kept first_asked → s.stand.unread ≡ []
  open_unread o =
      let from : Place = with_bytes (drop 0 first_kept.sent) (drop 0 first_kept.taken) o.before in
      let less = leads_shorter login first_asked.call (parts_of login first_asked.call) from (parts_left login first_asked.call o.progress) o.place o.leads in
      let none : length o.place.unread ≤ 0 = subst (λ (p : Place). length o.place.unread ≤ length (p.unread ++ [])) (first_before false o.before o.ended).0 less in
      sym (at_unread login o.place s.stand o.at) ∙ no_length o.place.unread none

  asked_unread : StandsAt login s first_kept (Some first_asked) → s.stand.unread ≡ []
  asked_unread (inl o) = open_unread o
  asked_unread (inr c) = absurd (true≢false (first_before true c.before c.ended).1)

pub unread_first : (login : Login) (s : Seen) (t : Option Tape) → ConnectsFor login s t first_kept first_asked → s.stand.unread ≡ []
unread_first login s t w = asked_unread login s w.asked.stands.at

-- a making continues, or is done
pub making_on : (texts : Texts) (now : ℕ) (at to : Making) (x y : Looks) (u v : View) (p q : Option Tape) (met : Met) → StaysMaking texts now at to x y u v p q met → IsMaking at u.seen p → IsMaking to v.seen q
making_on texts now at to x y u v p q met m w =
    let f = m.each w.0 w.1 w.2 in
    (w.0, f.0, f.1)

pub making_stands : (texts : Texts) (now : ℕ) (at : Making) (x y : Looks) (u v : View) (p q : Option Tape) (met : Met) → IsMade texts now at x y u v p q met → IsMaking at u.seen p → Standing false v.seen q None
making_stands texts now at x y u v p q met m w =
    let f = m.each w.0 w.1 w.2 in
    (w.0, f.0, f.1)

-- what a poll of it returns
pub step_so : (texts : Texts) (now : ℕ) (at : Making) (x y : Looks) (u v : View) (p q : Option Tape) (met : Met) (step to : MakeStep) → step ≡ to → MakesTo texts now at x y u v p q met step → MakesTo texts now at x y u v p q met to
step_so texts now at x y u v p q met step to e w = subst (λ (s : MakeStep). MakesTo texts now at x y u v p q met s) e w

-- without its tape it did the same
no_tape_for : (login : Login) (o : Option CallKind) (s : Seen) (t : Option Tape) (k : Kept) → StandsFor login s t o k → StandsFor login s None o k
no_tape_for login o s t k w = record { rests = w.rests; agrees = tt; connected = w.connected; pending_is = w.pending_is }

making_for : (login : Login) (at : Making) (s : Seen) (t : Option Tape) (k : Kept) → MakesFor login at None s t k → MakesFor login at None s None k
making_for login Shakes s t k w = (refl, w.1, record { asked = w.2.asked; agrees = tt; connects = w.2.connects })
making_for login (Asks n) s t k w = (w.0, no_tape_for login w.0 s t k w.1, w.2)
making_for login (Drops n) s t k w = (w.0, no_tape_for login w.0 s t k w.1, w.2)

pub making_untaped : (at : Making) (s : Seen) (t : Option Tape) → IsMaking at s t → IsMaking at s None
making_untaped at s t w = (w.0, w.1, making_for w.0 at s t w.1 w.2)

-- the handshake is open
pub making_begins : (login : Login) (s : Seen) (t : Option Tape) → ConnectsFor login s t first_kept first_asked → IsMaking Shakes s t
making_begins login s t w = (login, first_kept, (refl, first_asked, w))

-- a connection that waited for its handshake
no_tape : (q : Option Tape) → is_some q ≡ false → q ≡ None
no_tape None e = refl
no_tape (Some t) e = cc

pub new_is : {L : Type 0} (look : L → Looks) (opts : OptsView) (g : Given) (f : Fixed) (u v : View) (link : L) (q : Option Tape) → f ≡ first_fixed opts g.now → IsFirst opts g u → IsShaken (login_of opts) g.now g.looks (look link) u v q → is_some q ≡ false → IsNew look opts g (record { seen = v.seen; lifetime = v.lifetime; link = link; tape = q; pending = None; lost = false; fixed = f })
new_is look opts g f u v link q fixed first shaken none = record {
  lost = refl;
  pending = refl;
  tape = no_tape q none;
  fixed = fixed;
  first = u;
  is_first = first;
  shaken = shaken;
}

-- out of memory, whatever the text reads as
pub no_memory_so : {L : Type 0} (look : L → Looks) (read : Result OptsView UrlError) (g : Given) (link : L) → FromUrlIs look read g link (Err (untaped errors.NoMemory link))
no_memory_so look (Ok opts) g link = record { why = inl refl; tape = refl }
no_memory_so look (Err e) g link = inr refl
