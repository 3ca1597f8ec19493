-- How a connection is made.
use Rattle.std.proofs.Common.{◌≡◌, inl, inr, ◌||◌, Bool, true, false, Option, Some, None, refl, sym, ap, ◌∙◌, subst}
use Rattle.my_grammar.specs.declared.login.Login.{Login}
use Rattle.my_link.specs.Looks.{Looks}
use Rattle.my_link.specs.declared.met.Met.{Met}
use Rattle.my_reading.specs.Calls.{kind_of}
use Rattle.my_reading.specs.Told.{ToldReady, told}
use Rattle.my_reading.specs.declared.answer.Answer.{Answer}
use Rattle.my_reading.specs.declared.answer.Answer.TheVariants as answers
use Rattle.my_reading.specs.declared.call.Call.{Call}
use Rattle.my_reading.specs.declared.call.CallKind.{CallKind}
use Rattle.my_reading.specs.declared.call.CallKind.TheVariants.{Connect}
use Rattle.my_client.specs.Made.{connects, has_connected}
use Rattle.my_session.specs.Fits.{may_be}
use Rattle.my_client.specs.declared.poll.After.{After}
use Rattle.my_client.specs.declared.poll.After.TheVariants as after
use Rattle.my_client.specs.declared.tape.Said.TheVariants as says
use Rattle.my_client.specs.declared.tape.Tape.{Tape}
use Rattle.my_client.specs.Kept.{Asked, Kept, ended_by, made_of}
use Rattle.my_client.specs.Notes.{Agrees}
use Rattle.my_session.specs.Sessions.{Seen}
use Rattle.my_client.specs.Polls.{IsPolled, moved_by}
use Rattle.my_client.specs.Stands.{Rests}
use Rattle.my_client.proofs.Fitting.{answer_fits}
use Rattle.my_client.proofs.Moving.{all_pending}
use Rattle.my_client.specs.Calls.{CallFor, Does, EachCall, PendsBy}
use Rattle.my_client.specs.Makes.{ConnectsFor}
use Rattle.my_client.specs.StandsFor.{StandsFor, kind_kept}
use Rattle.my_client.proofs.Polled.{answer_comes}
use Rattle.my_client.proofs.Standing.{made_more, polled_pends}

-- there is something that a handshake did
abbrev pub Connects : Seen → Option Tape → Type 0
Connects s t = (login : Login) × (k : Kept) × (a : Asked) × ConnectsFor login s t k a

-- the handshake was polled
pub record Shook (login : Login) (t : Seen) (x y : Looks) (q : Option Tape) (m : Met) (after : After) (k : Kept) (a : Asked) : Type 0 where
  pub end : Kept
  pub rests : Rests login t end
  pub agrees : Agrees q end
  pub polled : IsPolled login a k x m after end y

same_some : (b a : Asked) → Some b ≡ Some a → b ≡ a
same_some b a e = cc

no_call : (c : Call) → None ≡ Some c → ⊥
no_call c e = cc

first_true : (b c : Bool) → b ≡ true → b || c ≡ true
first_true true c e = refl
first_true false c e = cc

module _ (s t : Seen) (x y : Looks) (p q : Option Tape) (m : Met) (p1 : After) (each : EachCall None s t x y p q m p1) where
  pub shook : (login : Login) (k : Kept) (a : Asked) → ConnectsFor login s p k a → Shook login t x y q m p1 k a
  shook login k a w =
      let f : CallFor login None t q x y k m p1 = each login k (a, w.asked) w.agrees in
      record { end = f.end; rests = f.rests; agrees = f.agrees; polled = by_does f.end f.does }
    where
      by_does : (end : Kept) → Does login None x y k end m p1 → IsPolled login a k x m p1 end y
      by_does end (inl d) = subst (λ (b : Asked). IsPolled login b k x m p1 end y) (same_some d.asked a (sym d.pending ∙ w.asked.asked)) d.polled
      by_does end (inr d) = absurd (no_call d.given d.call_is)

-- it isn't made yet
module _ (s t : Seen) (x y : Looks) (p q : Option Tape) (m : Met) (each : EachCall None s t x y p q m after.Pending) where
  pub still : (login : Login) (k : Kept) (a : Asked) → ConnectsFor login s p k a → (end : Kept) × ConnectsFor login t q end a × IsPolled login a k x m after.Pending end y × Rests login t end
  still login k a w =
      let f : Shook login t x y q m after.Pending k a = shook s t x y p q m after.Pending each login k a w in (
        f.end,
        record {
          asked = record { stands = f.rests.stands; asked = ap (λ (g : Kept). g.pending) f.polled.ends ∙ all_pending k f.polled.moves ∙ w.asked.asked };
          agrees = f.agrees;
          connects = w.connects;
        },
        f.polled,
        f.rests,
      )

  pub pends : Connects s p → PendsBy after.Pending x y m
  pends w =
      let f : Shook w.0 t x y q m after.Pending w.1 w.2 = shook s t x y p q m after.Pending each w.0 w.1 w.2 w.3 in
      polled_pends w.0 w.2 x y w.1 f.end m after.Pending f.polled

-- it was made
pub answer_ready : (answer : Answer) (c : CallKind) → c ≡ Connect → may_be c (told answer) ≡ true → answer ≡ answers.Ready
answer_ready answers.Ready c e m = refl
answer_ready (answers.Row row) c e m = let no : may_be Connect (told (answers.Row row)) ≡ true = subst (λ (c : CallKind). may_be c (told (answers.Row row)) ≡ true) e m in cc
answer_ready answers.SetEnd c e m = let no : may_be Connect (told answers.SetEnd) ≡ true = subst (λ (c : CallKind). may_be c (told answers.SetEnd) ≡ true) e m in cc
answer_ready answers.NoSet c e m = let no : may_be Connect (told answers.NoSet) ≡ true = subst (λ (c : CallKind). may_be c (told answers.NoSet) ≡ true) e m in cc
answer_ready (answers.Stmt statement) c e m = let no : may_be Connect (told (answers.Stmt statement)) ≡ true = subst (λ (c : CallKind). may_be c (told (answers.Stmt statement)) ≡ true) e m in cc
answer_ready (answers.Flag flag) c e m = let no : may_be Connect (told (answers.Flag flag)) ≡ true = subst (λ (c : CallKind). may_be c (told (answers.Flag flag)) ≡ true) e m in cc

module _ (s t : Seen) (x y : Looks) (p q : Option Tape) (m : Met) (answer : Answer) (each : EachCall None s t x y p q m (after.Answered answer)) where
  pub made : (login : Login) (k : Kept) (a : Asked) → ConnectsFor login s p k a → (end : Kept) × StandsFor login t q None end × IsPolled login a k x m (after.Answered answers.Ready) end y
  made login k a w =
      let f : Shook login t x y q m (after.Answered answer) k a = shook s t x y p q m (after.Answered answer) each login k a w in
      let b : Kept = moved_by k f.polled.moves in
      let comes = answer_comes login b f.polled.stop m.taken answer f.polled.comes in
      let ready : answer ≡ answers.Ready = answer_ready answer (kind_of a.call) w.connects (answer_fits login b a (told answer) (all_pending k f.polled.moves ∙ w.asked.asked) comes.1) in
      let polled : IsPolled login a k x m (after.Answered answers.Ready) f.end y = subst (λ (v : Answer). IsPolled login a k x m (after.Answered v) f.end y) ready f.polled in
      let end_is : f.end ≡ ended_by b a (says.Answered answers.Ready) = f.polled.ends ∙ ap (λ (v : Answer). ended_by b a (says.Answered v)) ready in
      let connected : has_connected (made_of (ended_by b a (says.Answered answers.Ready)).calls) ≡ true =
      ap has_connected (made_more b.calls (record { call = a.call; sent_from = a.sent_from; taken_from = a.taken_from; said = says.Answered answers.Ready }))
      ∙ first_true (connects ToldReady (kind_of a.call)) (has_connected (made_of b.calls)) (ap (connects ToldReady) w.connects) in (
        f.end,
        record {
          rests = f.rests;
          agrees = f.agrees;
          connected = subst (λ (g : Kept). has_connected (made_of g.calls) ≡ true) (sym end_is) connected;
          pending_is = sym (ap kind_kept end_is);
        },
        polled,
      )
