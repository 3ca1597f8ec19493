-- How a line's transaction is given up.
use Rattle.std.proofs.Common.{◌≡◌, ◌⊎◌, inl, inr, ℕ, ◌+◌, nat_lt, List, [], ◌∷◌, Bool, true, false, ◌&&◌, Option, Some, None, cond, refl, sym, ap, ◌∙◌, subst}
use Rattle.my_grammar.specs.declared.login.Login.{Login}
use Rattle.my_reading.specs.declared.answer.Answer.{Answer}
use Rattle.my_reading.specs.declared.answer.Answer.TheVariants as answers
use Rattle.my_reading.specs.declared.answer.Answer.TheVariants.{Ready}
use Rattle.my_reading.specs.declared.call.Call.TheVariants.{ForgetTransaction}
use Rattle.my_reading.proofs.Leading.{leads_to_course}
use Rattle.my_reading.specs.Course.{GiveUp, Halt, Owes, Returns, course, halt, step, step_of, unless_owed}
use Rattle.my_reading.specs.Leads.{Here, Then}
use Rattle.my_reading.specs.Place.{Place, owed, with_status}
use Rattle.my_reading.specs.Told.{Told, ToldReady, told}
use Rattle.my_reading.specs.Transactions.{given_up}
use Rattle.my_session.specs.View.{Lifetime, lived}
use Rattle.my_client.specs.declared.tape.Said.{Said}
use Rattle.my_client.specs.declared.tape.Said.TheVariants as says
use Rattle.my_client.specs.declared.tape.Tape.{Tape}
use Rattle.my_client.specs.Kept.{Asked, Kept, asked_by, asking, ended_by}
use Rattle.my_client.specs.Notes.{Agrees}
use Rattle.my_client.specs.Reads.{ComesTo}
use Rattle.my_client.proofs.TapeRead.Stopping.{stop_open}
use Rattle.my_session.specs.Sessions.{Seen, begun}
use Rattle.my_client.specs.Stands.{Returned, Stands, StandsAsked, StandsClosed, StandsOpen}
use Rattle.my_client.proofs.Moving.{started}
use Rattle.my_client.proofs.Resting.{rests_idle}
use Rattle.my_client.specs.Forgets.{EachAnswered, EachForget}
use Rattle.my_client.specs.StandsFor.{StandsFor}
use Rattle.my_client.proofs.Calling.{NotesCall, asked_begun}
use Rattle.my_client.proofs.Standing.{connected_by, no_asked}

-- it isn't refused
pub never_refused : (closed : Bool) → closed && false ≡ true → ⊥
never_refused true e = cc
never_refused false e = cc

-- a line at rest has no open call
pub rest_idle : (login : Login) (s : Seen) (p : Option Tape) (k : Kept) → StandsFor login s p None k → s.opened ≡ None
rest_idle login s p k w = rests_idle login s k w.rests.stands (no_asked k.pending w.pending_is)

-- the moment of the last payload stays, where a step takes it as its own
same_moment : (b : Bool) (last : ℕ) → cond b last last ≡ last
same_moment true last = refl
same_moment false last = refl

pub lived_last : (n m : ℕ) (l : Lifetime) → lived l.last_io 0 n m l ≡ l
lived_last n m l = ap (λ last. record { opts = l.opts; is_socket = l.is_socket; deadline = l.deadline; last_io = last }) (same_moment (nat_lt m (n + 0)) l.last_io)

-- what the call returns: it owes bytes, or is done
owes_course : (login : Login) (p : Place) (b : ℕ) (bytes : List ℕ) → owed p ≡ b ∷ bytes → course login ForgetTransaction p ≡ halt p Owes
unfolding step
owes_course login p b bytes e =
    leads_to_course login ForgetTransaction p (GiveUp ∷ []) p p Owes (Here (GiveUp ∷ []) p)
    (ap (λ (x : List ℕ). unless_owed x p (step_of login ForgetTransaction (GiveUp ∷ []) p)) e)

done_course : (login : Login) (p : Place) → owed p ≡ [] → course login ForgetTransaction p ≡ halt (with_status (given_up p.status) p) (Returns ToldReady)
unfolding step
done_course login p e =
    let q : Place = with_status (given_up p.status) p in
    leads_to_course login ForgetTransaction p [] q q (Returns ToldReady)
    (Then (GiveUp ∷ []) p [] q [] q (ap (λ (x : List ℕ). unless_owed x p (step_of login ForgetTransaction (GiveUp ∷ []) p)) e) (Here [] q))
    (ap (λ (x : List ℕ). unless_owed x q (step_of login ForgetTransaction [] q)) e)

same_told : (t : Told) → Some (Returns ToldReady) ≡ Some (Returns t) → t ≡ ToldReady
same_told t e = cc

no_owing : (t : Told) → Some Owes ≡ Some (Returns t) → ⊥
no_owing t e = cc

course_tells : (login : Login) (p : Place) (t : Told) → Some (course login ForgetTransaction p).stop ≡ Some (Returns t) → t ≡ ToldReady
course_tells login p t e = by_owed (owed p) refl
  where
    by_owed : (x : List ℕ) → owed p ≡ x → t ≡ ToldReady
    by_owed [] f = same_told t (sym (ap (λ (h : Halt). Some h.stop) (done_course login p f)) ∙ e)
    by_owed (b ∷ bytes) f = absurd (no_owing t (sym (ap (λ (h : Halt). Some h.stop) (owes_course login p b bytes f)) ∙ e))

forget_tells : (login : Login) (r : Seen) (k : Kept) (t : Told) → StandsAsked login r (asking k ForgetTransaction None) (asked_by k ForgetTransaction) → ComesTo login (asking k ForgetTransaction None) t → t ≡ ToldReady
forget_tells login r k t w comes = by_call w.stands.at
  where
    by_call : StandsOpen login r (asking k ForgetTransaction None) (asked_by k ForgetTransaction) ⊎ StandsClosed login r (asking k ForgetTransaction None) (asked_by k ForgetTransaction) → t ≡ ToldReady
    by_call (inl o) =
        course_tells login (started (asking k ForgetTransaction None) (asked_by k ForgetTransaction) o.before) t
        (sym (stop_open login (asking k ForgetTransaction None) (asked_by k ForgetTransaction) false o.before o.ended refl) ∙ comes)
    by_call (inr c) = same_told t (sym (stop_open login (asking k ForgetTransaction None) (asked_by k ForgetTransaction) true c.before c.ended refl) ∙ comes)

-- only one answer says that it is done
ready_only : (answer : Answer) → told answer ≡ ToldReady → answer ≡ Ready
ready_only answers.Ready e = refl
ready_only (answers.Row row) e = cc
ready_only answers.SetEnd e = cc
ready_only answers.NoSet e = cc
ready_only (answers.Stmt statement) e = cc
ready_only (answers.Flag flag) e = cc

-- what the tape keeps of its end
abbrev pub NotesEnd : Option Tape → Option Tape → Said → Type 0
NotesEnd p q said = (k : Kept) (a : Asked) → Agrees p k → k.pending ≡ Some a → Agrees q (ended_by k a said)

pub each_forget : (s r t : Seen) (p q u : Option Tape) (answer : Answer) → NotesCall p q ForgetTransaction → r ≡ begun ForgetTransaction s → EachAnswered r t answer → NotesEnd q u (says.Answered answer) → EachForget s t p u
each_forget s r t p q u answer noted is answered ended login k w =
    let a : Asked = asked_by k ForgetTransaction in
    let began : Kept = asking k ForgetTransaction None in
    let asked : StandsAsked login r began a = asked_begun login s r k ForgetTransaction (never_refused s.closed) is w.rests.stands (no_asked k.pending w.pending_is) in
    let f : Returned login t began a (says.Answered answer) = answered login began a asked in
    let ready : answer ≡ Ready = ready_only answer (forget_tells login r k (told answer) asked f.comes) in
    record {
      rests = record { stands = subst (λ (x : Answer). Stands login t (ended_by began a (says.Answered x))) ready f.stands; waits = tt };
      agrees = subst (λ (x : Answer). Agrees u (ended_by began a (says.Answered x))) ready (ended began a (noted k w.agrees) refl);
      connected = connected_by began a (says.Answered Ready) w.connected;
      pending_is = refl;
    }
