-- What the making of a connection does to a line.
use Rattle.std.specs.Prelude.{ℕ, ◌≡◌, ◌≤◌, ◌⊎◌, ◌+◌, List, [], ◌∷◌, length, Option, Some, None}
use Rattle.my_frame.specs.Outside.{Rose}
use Rattle.my_frame.specs.declared.limits.TheConstants.{MOST_TAKEN}
use Rattle.my_grammar.specs.declared.login.Login.{Login}
use Rattle.my_link.specs.Aid.{Texts}
use Rattle.my_link.specs.Looks.{Looks}
use Rattle.my_link.specs.declared.met.Met.{Met}
use Rattle.my_reading.specs.declared.answer.Answer.TheVariants.{Ready}
use Rattle.my_reading.specs.declared.call.Call.{Call}
use Rattle.my_reading.specs.declared.call.CallKind.{CallKind}
use Rattle.my_reading.specs.declared.call.CallKind.TheVariants.{Connect}
use Rattle.my_reading.specs.declared.error.Error.{Error}
use Rattle.my_reading.specs.Calls.{kind_of}
use Rattle.my_session.specs.Sessions.{Seen}
use Rattle.my_session.specs.View.{View}
use Rattle.my_client.specs.declared.poll.After.{After}
use Rattle.my_client.specs.declared.poll.After.TheVariants.{Pending, Answered, Failed}
use Rattle.my_client.specs.declared.tape.Tape.{Tape}
use Rattle.my_client.specs.Kept.{Asked, Kept}
use Rattle.my_client.specs.Notes.{Agrees}
use Rattle.my_client.specs.Lives.{Lives}
use Rattle.my_client.specs.Reads.{IsRead}
use Rattle.my_client.specs.Stands.{Rests, StandsAsked}
use Rattle.my_client.specs.Calls.{Does, MayPoll}
use Rattle.my_client.specs.StandsFor.{StandsFor}
use Rattle.my_client.specs.Texts.{Ends, EndsRefused, Follows, kind_at}
use Rattle.my_client.specs.declared.making.MakeStep.{MakeStep}
use Rattle.my_client.specs.declared.making.MakeStep.TheVariants as steps
use Rattle.my_client.specs.declared.texts.Making.{Making}
use Rattle.my_client.specs.declared.texts.Making.TheVariants.{Shakes, Asks, Drops}

-- This is what it did so far: its handshake is open.
pub record ConnectsFor (login : Login) (s : Seen) (t : Option Tape) (k : Kept) (a : Asked) : Type 0 where
  pub asked : StandsAsked login s k a
  pub agrees : Agrees t k
  pub connects : kind_of a.call ≡ Connect

-- it was connected, and the call is open, or begins
abbrev pub GoesOn : Login → CallKind → Option Call → Seen → Option Tape → Kept → Type 0
GoesOn login kind call s t k = (o : Option CallKind) × StandsFor login s t o k × MayPoll kind call o

-- what it did so far, and what is there to be polled
abbrev pub MakesFor : Login → Making → Option Call → Seen → Option Tape → Kept → Type 0
MakesFor login Shakes call s t k = (call ≡ None) × (a : Asked) × ConnectsFor login s t k a
MakesFor login (Asks n) call s t k = GoesOn login (kind_at (Asks n)) call s t k
MakesFor login (Drops n) call s t k = GoesOn login (kind_at (Drops n)) call s t k

-- there is something that it did
abbrev pub IsMaking : Making → Seen → Option Tape → Type 0
IsMaking at s t = (login : Login) × (k : Kept) × MakesFor login at None s t k

-- before the poll of a call, which begins or continues: how the link looks, and what was kept
pub record Point : Type 0 where
  pub at : Making
  pub call : Option Call
  pub looks : Looks
  pub kept : Kept

abbrev pub first_point : Making → Looks → Kept → Point
first_point at x k = record { at = at; call = None; looks = x; kept = k }

-- the call was answered, and the next one follows
pub record Passes (texts : Texts) (login : Login) (p q : Point) : Type 0 where
  pub met : Met
  pub does : Does login p.call p.looks q.looks p.kept q.kept met (Answered Ready)
  pub call : Call
  pub call_is : q.call ≡ Some call
  pub follows : Follows texts p.at q.at call

-- from one point to another, over those between, the newest first
abbrev pub Leads : Texts → Login → Point → List Point → Point → Type 0
Leads texts login p [] q = q ≡ p
Leads texts login p (m ∷ ms) q = Leads texts login p ms m × Passes texts login m q

-- what calls met of which the last one met this, and which received `n` bytes in all
abbrev pub all_met : Met → ℕ → Met
all_met met n = record met { taken = n }

-- The calls of one poll: each but the last was answered, and the last returned this. They met what the last one met,
-- and received all bytes that came.
pub record Polls (texts : Texts) (login : Login) (at : Making) (x y : Looks) (k end : Kept) (m : Met)
    (after : After) : Type 0 where
  pub earlier : List Point
  pub last : Point
  pub leads : Leads texts login (first_point at x k) earlier last
  pub met : Met
  pub does : Does login last.call last.looks y last.kept end met after
  pub met_is : m ≡ all_met met m.taken
  pub took : length end.taken ≡ length k.taken + m.taken

-- it isn't made yet: a call of it is pending, and waits for its link
pub record StaysMaking (texts : Texts) (now : ℕ) (at to : Making) (x y : Looks) (u v : View) (p q : Option Tape)
    (m : Met) : Type 0 where
  pub lives : Lives now m.taken u v
  pub pends : Rose x.counts.holds y.counts.holds ⊎ (MOST_TAKEN ≤ m.taken)
  pub each : (login : Login) (k : Kept) → MakesFor login at None u.seen p k
      → (end : Kept) × MakesFor login to None v.seen q end
      × (c : Polls texts login at x y k end m Pending) × (c.last.at ≡ to) × Rests login v.seen end

-- it is made: its last call was answered, and no further text follows
pub record IsMade (texts : Texts) (now : ℕ) (at : Making) (x y : Looks) (u v : View) (p q : Option Tape)
    (m : Met) : Type 0 where
  pub lives : Lives now m.taken u v
  pub each : (login : Login) (k : Kept) → MakesFor login at None u.seen p k
      → (end : Kept) × StandsFor login v.seen q None end
      × (c : Polls texts login at x y k end m (Answered Ready)) × Ends texts c.last.at

-- a call of it failed; the tape has all that was done, and each call of it ended as the reading says
abbrev pub CallFails : Texts → Making → Looks → Looks → Seen → Option Tape → Option Tape → Met → Error → Type 0
CallFails texts at x y s p q m e = (login : Login) (k : Kept) → MakesFor login at None s p k
    → (end : Kept) × Agrees q end × Polls texts login at x y k end m (Failed e) × IsRead login end

-- its last call was answered, and then the aid refused the connection, which is met, too
pub record AidRefuses (texts : Texts) (at : Making) (x y : Looks) (s : Seen) (p q : Option Tape) (m : Met)
    (e : Error) : Type 0 where
  pub calls : Met
  pub met_is : m ≡ record calls { refused = 1 }
  pub each : (login : Login) (k : Kept) → MakesFor login at None s p k
      → (end : Kept) × Agrees q end × (c : Polls texts login at x y k end calls (Answered Ready))
      × EndsRefused texts c.last.at e

-- why no connection was made
abbrev pub WhyNotMade : Texts → Making → Looks → Looks → Seen → Option Tape → Option Tape → Met → Error → Type 0
WhyNotMade texts at x y s p q m e = CallFails texts at x y s p q m e ⊎ AidRefuses texts at x y s p q m e

abbrev pub MakesTo : Texts → ℕ → Making → Looks → Looks → View → View → Option Tape → Option Tape → Met → MakeStep
    → Type 0
MakesTo texts now at x y u v p q m (steps.Pending to) = StaysMaking texts now at to x y u v p q m
MakesTo texts now at x y u v p q m steps.Made = IsMade texts now at x y u v p q m
MakesTo texts now at x y u v p q m (steps.Failed e) = WhyNotMade texts at x y u.seen p q m e
