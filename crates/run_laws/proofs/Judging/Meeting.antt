-- What a poll met, by what it came to.
use Rattle.std.proofs.Common.{◌≡◌, inl, inr, List, Some, Ok, Err, true, false, refl, sym, subst}
use Rattle.my_grammar.specs.declared.login.Login.{Login}
use Rattle.my_link.specs.declared.met.Met.{Met}
use Rattle.my_link.specs.Moves.{Stop, NoStop, ReadHold, WriteHold, ReadFault, WriteFault, LinkEnd, faults_at, holds_at, ends_at}
use Rattle.my_reading.specs.declared.answer.Answer.{Answer}
use Rattle.my_reading.specs.declared.error.Error.{Error}
use Rattle.my_reading.specs.Calls.{kind_of}
use Rattle.my_reading.specs.Told.{ToldError}
use Rattle.my_script.specs.declared.transcript.Outcome.{Outcome}
use Rattle.my_script.specs.declared.transcript.Outcome.TheVariants as outcomes
use Rattle.my_script.specs.declared.transcript.TapeCall.{TapeCall as ShownCall}
use Rattle.my_client.specs.Made.{has_closed}
use Rattle.my_client.specs.declared.poll.After.{After}
use Rattle.my_client.specs.declared.poll.After.TheVariants as after
use Rattle.my_client.specs.Kept.{Asked, Kept, made_of}
use Rattle.my_session.specs.Sessions.{is_refused}
use Rattle.my_run_judge.specs.Lines.{IsShown, is_pending}
use Rattle.my_run_judge.specs.Meets.{ErrorMet, HasMet, IsHeld, IsReady, ShownMet}
use Rattle.run_laws.proofs.Polls.{PollEnds}
use Rattle.run_laws.proofs.Judging.Failing.{told_met}
use Rattle.turn_laws.specs.Decided.{IsFailed, IsPending}

-- how the line shows what the last poll came to
abbrev pub ShownBy : Outcome → List ShownCall → After → Type 0
ShownBy o before after.Pending = is_pending o ≡ true
ShownBy o before (after.Answered answer) = (is_pending o ≡ false) × IsShown o (Some (Ok answer)) before
ShownBy o before (after.Failed e) = (is_pending o ≡ false) × IsShown o (Some (Err e)) before

module _ (u : Met) (stop : Stop) (met : HasMet u (faults_at stop) (holds_at stop) (ends_at stop)) where
  pub met_at_stop : (s : Stop) → stop ≡ s → HasMet u (faults_at s) (holds_at s) (ends_at s)
  met_at_stop s is = subst (λ (z : Stop). HasMet u (faults_at z) (holds_at z) (ends_at z)) is met

  held_so : (login : Login) (f : Kept) (s : Stop) → stop ≡ s → IsPending login f s u.taken → IsHeld u
  held_so login f NoStop is p = inr (met_at_stop NoStop is, p.1)
  held_so login f ReadHold is p = inl (met_at_stop ReadHold is)
  held_so login f WriteHold is p = inl (met_at_stop WriteHold is)
  held_so login f ReadFault is p = absurd p
  held_so login f WriteFault is p = absurd p
  held_so login f LinkEnd is p = absurd p

  module _ (login : Login) (a : Asked) (f end : Kept) where
    error_so : f.pending ≡ Some a → is_refused (has_closed (made_of f.calls)) (kind_of a.call) ≡ false → (e : Error) (s : Stop) → stop ≡ s → IsFailed login f s e → ErrorMet e u
    error_so fp live e NoStop is by = told_met login f a fp live (ToldError e) by u (met_at_stop NoStop is)
    error_so fp live e ReadHold is by = absurd by
    error_so fp live e WriteHold is by = absurd by
    error_so fp live e ReadFault is by = subst (λ x. ErrorMet x u) (sym by.1) (met_at_stop ReadFault is)
    error_so fp live e WriteFault is by = subst (λ x. ErrorMet x u) (sym by.1) (met_at_stop WriteFault is)
    error_so fp live e LinkEnd is by = subst (λ x. ErrorMet x u) (sym by.1) (met_at_stop LinkEnd is)

    pending_met : (o : Outcome) → is_pending o ≡ true → IsHeld u → ShownMet o u
    pending_met outcomes.Done e h = cc
    pending_met outcomes.Pending e h = h
    pending_met outcomes.SetEnd e h = cc
    pending_met outcomes.NoSet e h = cc
    pending_met (outcomes.Row row) e h = cc
    pending_met (outcomes.Rows rows) e h = cc
    pending_met (outcomes.Prepared statement) e h = cc
    pending_met (outcomes.Flag flag) e h = cc
    pending_met (outcomes.Fields ok) e h = cc
    pending_met (outcomes.Connected n id version) e h = cc
    pending_met (outcomes.Failed x) e h = cc
    pending_met outcomes.NoSuchHandle e h = cc

    answered_met : (o : Outcome) (before : List ShownCall) (answer : Answer) → is_pending o ≡ false → IsShown o (Some (Ok answer)) before → IsReady u → ShownMet o u
    answered_met outcomes.Done before answer e s r = r
    answered_met outcomes.Pending before answer e s r = cc
    answered_met outcomes.SetEnd before answer e s r = r
    answered_met outcomes.NoSet before answer e s r = r
    answered_met (outcomes.Row row) before answer e s r = r
    answered_met (outcomes.Rows rows) before answer e s r = r
    answered_met (outcomes.Prepared statement) before answer e s r = r
    answered_met (outcomes.Flag flag) before answer e s r = r
    answered_met (outcomes.Fields ok) before answer e s r = r
    answered_met (outcomes.Connected n id version) before answer e s r = r
    answered_met (outcomes.Failed x) before answer e s r = cc
    answered_met outcomes.NoSuchHandle before answer e s r = r

    failed_met : (o : Outcome) (before : List ShownCall) (x : Error) → is_pending o ≡ false → IsShown o (Some (Err x)) before → ErrorMet x u → ShownMet o u
    failed_met outcomes.Done before x e s r = cc
    failed_met outcomes.Pending before x e s r = cc
    failed_met outcomes.SetEnd before x e s r = cc
    failed_met outcomes.NoSet before x e s r = cc
    failed_met (outcomes.Row row) before x e s r = cc
    failed_met (outcomes.Rows rows) before x e (inl same, rest) r = cc
    failed_met (outcomes.Rows rows) before x e (inr same, rest) r = cc
    failed_met (outcomes.Prepared statement) before x e s r = cc
    failed_met (outcomes.Flag flag) before x e s r = cc
    failed_met (outcomes.Fields ok) before x e s r = absurd s
    failed_met (outcomes.Connected n id version) before x e s r = cc
    failed_met (outcomes.Failed y) before x e s r = let same : x ≡ y = cc in subst (λ (z : Error). ErrorMet z u) same r
    failed_met outcomes.NoSuchHandle before x e s r = absurd s

    pub shown_met : f.pending ≡ Some a → is_refused (has_closed (made_of f.calls)) (kind_of a.call) ≡ false → (o : Outcome) (before : List ShownCall) (p : After) → PollEnds login a f u stop p end → ShownBy o before p → ShownMet o u
    shown_met fp live o before after.Pending ends s = pending_met o s (held_so login f stop refl ends.1)
    shown_met fp live o before (after.Answered answer) ends s = answered_met o before answer s.0 s.1 (met_at_stop NoStop ends.3)
    shown_met fp live o before (after.Failed x) ends s = failed_met o before x s.0 s.1 (error_so fp live x stop refl ends.1)
