-- Calls one after another have callers hear the ERRs of the exchanges.
use Rattle.std.proofs.Common.{◌≡◌, ◌⊎◌, inl, inr, ℕ, suc, zero, List, [], ◌∷◌, Bool, true, false, not, Option, Some, None, is_some, refl, sym, ap, ◌∙◌, subst}
use Rattle.my_grammar.specs.declared.login.Login.{Login}
use Rattle.my_reading.specs.declared.call.Call.{Call}
use Rattle.my_reading.specs.declared.error.Error.{Error}
use Rattle.my_reading.specs.declared.error.ServerError.{ServerError}
use Rattle.my_reading.specs.declared.transaction.Trial.TheVariants.{Off}
use Rattle.my_reading.specs.Calls.{kind_of}
use Rattle.my_reading.specs.Course.{Step, Goes, Stops, Stop, Owes, Awaits, Returns, Halt, course, enough, parts_of, run, step}
use Rattle.my_reading.specs.Endings.{AreCalls, Ends, IsCut, IsOpen, IsCancelled, IsLinkFailure, IsLinkEnd, IsTape, closes_cancelled}
use Rattle.my_grammar.specs.Cut.{is_over}
use Rattle.my_reading.specs.Place.{Place, exchanges, first_place, with_bytes}
use Rattle.my_reading.specs.Reading.{ReadCall, closed_answer, is_closing, read_calls, reading}
use Rattle.my_reading.specs.Tape.{Span, Tape, spans}
use Rattle.my_reading.specs.Told.{Told, ToldError, Dropped, closes}
use Rattle.history_laws.specs.Errors.{AreHeard, AreHushed, EachIsHeard, PassedErrors, NoErrors, MoreErrors, NoneHeard, OneHeard, errors_of, errors_told, with_told, with_unheard}
use Rattle.history_laws.specs.Given.{have_ended, with_ending}
use Rattle.history_laws.specs.Groups.{Made}
use Rattle.history_laws.proofs.Calls.{cancelled_reads, closed_calm, parts_tried}
use Rattle.history_laws.proofs.Heard.{Hearing, HeardAt, IsFine, IsHalted, Phase, Rests, Stopped}
use Rattle.history_laws.proofs.Hearing.{phase_halted, step_fine}
use Rattle.history_laws.proofs.Phases.{reads_sets, returned_so}
use Rattle.history_laws.proofs.Running.{ended_from, rest_ended}
use Rattle.history_laws.proofs.Stepping.{both}

-- what was passed over, and then more
then_passed : (c : Call) (ms mid more : List Made) → PassedErrors c ms mid → PassedErrors c mid more → PassedErrors c ms more
then_passed c ms mid more a NoErrors = a
then_passed c ms mid more a (MoreErrors older e passes b) = MoreErrors older e passes (then_passed c ms mid older a b)

-- a call that stopped, with what it passed over
abbrev Ran : Call → List Made → Halt → Type 0
Ran c ms h = (more : List Made) × PassedErrors c ms more × Stopped c more h.place h.stop

run_fine : (n : ℕ) (login : Login) (c : Call) (ms mid : List Made) → PassedErrors c ms mid → (s : Step) → IsFine c mid s → Ran c ms (run n login c s)
unfolding run
run_fine zero login c ms mid a (Stops p s) w = (mid, a, w)
run_fine (suc n) login c ms mid a (Stops p s) w = (mid, a, w)
run_fine zero login c ms mid a (Goes parts p) w = (w.0, then_passed c ms mid w.0 a w.1, phase_halted login c w.0 parts p w.2)
run_fine (suc n) login c ms mid a (Goes parts p) w = run_fine n login c ms w.0 (then_passed c ms mid w.0 a w.1) (step login c parts p) (step_fine login c w.0 parts p w.2)

begins_fine : (login : Login) (c : Call) (ms : List Made) (p : Place) → Rests false ms p → Phase c ms (parts_of login c) p
begins_fine login c ms p r =
    let off : p.trial ≡ Off = r.off refl in
    Hearing false r.hushed (parts_of login c) p (parts_tried login c) (λ x. absurd (cc)) (λ x. off) (r.over refl) (subst (λ (o : Option ServerError). HeardAt r.hushed ms p o) (r.clear refl) r.heard) (λ first i. absurd (cc))

-- what was told besides a server's error
told_rests : (closed : Bool) (c : Call) (ms : List Made) (p : Place) (t : Told) → ((es : List ServerError) → with_told t es ≡ es) → Rests closed ms p → Rests closed (returned_so c t ms) p
told_rests closed c ms p t calm r = record {
  hushed = r.hushed;
  unheard = r.unheard;
  heard = record { olds = r.heard.olds; are = r.heard.are; errors = r.heard.errors ∙ ap (with_unheard r.unheard) (sym (calm (errors_told ms))); fits = r.heard.fits };
  clear = r.clear;
  over = r.over;
  off = r.off;
  spent = r.spent;
}

-- the same where less is known
looser : (a b : Bool) (ms : List Made) (p : Place) → (b ≡ false → a ≡ false) → Rests a ms p → Rests b ms p
looser a b ms p less r = record { hushed = r.hushed; unheard = r.unheard; heard = r.heard; clear = λ x. r.clear (less x); over = λ x. r.over (less x); off = λ x. r.off (less x); spent = r.spent }

module _ (login : Login) (s : Span) (h : Halt) (mid : List Made) where
  abbrev call : ReadCall
  call = record { span = s; closed = false; halt = h }

  abbrev Ended : Type 0
  Ended = ((s.ending ≡ None) × IsHalted s.call mid h.place) ⊎ Rests (is_closing s.call s.ending) (with_ending s.call s.ending mid) h.place

  so : (t : Told) → s.ending ≡ Some t → Rests (closes t (kind_of s.call)) (returned_so s.call t mid) h.place → Ended
  so t e r = inr (subst (λ (x : Option Told). Rests (is_closing s.call x) (with_ending s.call x mid) h.place) (sym e) r)

  lost : (e : Error) → closes (ToldError e) (kind_of s.call) ≡ true → ((es : List ServerError) → with_told (ToldError e) es ≡ es) → IsHalted s.call mid h.place → Rests (closes (ToldError e) (kind_of s.call)) (returned_so s.call (ToldError e) mid) h.place
  lost e closing calm r = looser (not (reads_sets s.call)) (closes (ToldError e) (kind_of s.call)) (returned_so s.call (ToldError e) mid) h.place (λ x. absurd (cc))
      (told_rests (not (reads_sets s.call)) s.call mid h.place (ToldError e) calm r)

  cut_ended : IsHalted s.call mid h.place → IsCut login call → Ended
  cut_ended r (IsOpen e) = inl (e, r)
  cut_ended r (IsCancelled e) =
      let t : Told = Dropped (closes_cancelled (kind_of s.call) h.place) in
      so t e (looser (not (reads_sets s.call)) (closes_cancelled (kind_of s.call) h.place) (returned_so s.call t mid) h.place (cancelled_reads s.call h.place) (told_rests (not (reads_sets s.call)) s.call mid h.place t (λ es. refl) r))
  cut_ended r (IsLinkFailure e) = so _ e (lost _ refl (λ es. refl) r)
  cut_ended r (IsLinkEnd a e) = so _ e (lost _ refl (λ es. refl) r)

  call_ended : (stop : Stop) → Stopped s.call mid h.place stop → Ends login call stop → Ended
  call_ended Owes w e = cut_ended w e
  call_ended Awaits w e = cut_ended w e
  call_ended (Returns t) w e = so t e w

-- where the reading stands after calls
pub record Stood (ms : List Made) (ss : List Span) (p : Place) : Type 0 where
  pub made : List Made
  pub of_calls : AreHeard ms ss made
  pub hushed : Bool
  pub olds : List Bool
  pub are : AreHushed (hushed ∷ olds) (exchanges p)
  pub unheard : Option ServerError
  pub errors : errors_of (hushed ∷ olds) (exchanges p) ≡ with_unheard unheard (errors_told made)
  pub spent : hushed ≡ false → is_some unheard ≡ true → is_over p.talk ≡ true

here_stood : (closed : Bool) (ms : List Made) (p : Place) → Rests closed ms p → Stood ms [] p
here_stood closed ms p r = record { made = ms; of_calls = NoneHeard ms; hushed = r.hushed; olds = r.heard.olds; are = r.heard.are; unheard = r.unheard; errors = r.heard.errors; spent = r.spent }

before_stood : (ms mid : List Made) (s : Span) (ss : List Span) (p : Place) → PassedErrors s.call ms mid → Stood (with_ending s.call s.ending mid) ss p → Stood ms (s ∷ ss) p
before_stood ms mid s ss p passed w = record { made = w.made; of_calls = OneHeard ms mid w.made s ss passed w.of_calls; hushed = w.hushed; olds = w.olds; are = w.are; unheard = w.unheard; errors = w.errors; spent = w.spent }

-- an open call is the newest
open_stood : (login : Login) (s : Span) (ss : List Span) (closed : Bool) (ms mid : List Made) (p : Place) → have_ended (s ∷ ss) ≡ true → s.ending ≡ None → PassedErrors s.call ms mid → IsHalted s.call mid p → Stood ms (s ∷ ss) (read_calls login ss closed p).place
unfolding read_calls
open_stood login s [] closed ms mid p ended none passed r = before_stood ms mid s [] p passed
    (subst (λ (x : Option Told). Stood (with_ending s.call x mid) [] p) (sym none) (here_stood (not (reads_sets s.call)) mid p r))
open_stood login s (t ∷ ss) closed ms mid p ended none passed r =
    let some : is_some s.ending ≡ true = (both (is_some s.ending) (have_ended (t ∷ ss)) ended).0 in
    let no : is_some s.ending ≡ false = ap is_some none in
    absurd (cc)

bytes_rest : (closed : Bool) (ms : List Made) (p : Place) (sent taken : List ℕ) → Rests closed ms p → Rests closed ms (with_bytes sent taken p)
bytes_rest closed ms p sent taken r = record { hushed = r.hushed; unheard = r.unheard; heard = r.heard; clear = r.clear; over = r.over; off = r.off; spent = r.spent }

closed_rests : (s : Span) (ms : List Made) (p : Place) → s.ending ≡ Some (closed_answer s.call) → Rests true ms p → Rests true (with_ending s.call s.ending ms) p
closed_rests s ms p e r = subst (λ (x : Option Told). Rests true (with_ending s.call x ms) p) (sym e) (told_rests true s.call ms p (closed_answer s.call) (closed_calm s.call) r)

ended_stood : (login : Login) (s : Span) (ss : List Span) (ms : List Made) (h : Halt) (mid : List Made) → have_ended (s ∷ ss) ≡ true → PassedErrors s.call ms mid
    → (Rests (is_closing s.call s.ending) (with_ending s.call s.ending mid) h.place → Stood (with_ending s.call s.ending mid) ss (read_calls login ss (is_closing s.call s.ending) h.place).place)
    → (((s.ending ≡ None) × IsHalted s.call mid h.place) ⊎ Rests (is_closing s.call s.ending) (with_ending s.call s.ending mid) h.place)
    → Stood ms (s ∷ ss) (read_calls login ss (is_closing s.call s.ending) h.place).place
ended_stood login s ss ms h mid ended passed go (inl cut) = open_stood login s ss (is_closing s.call s.ending) ms mid h.place ended cut.0 passed cut.1
ended_stood login s ss ms h mid ended passed go (inr r) = before_stood ms mid s ss _ passed (go r)

calls_stood : (login : Login) (ss : List Span) (closed : Bool) (ms : List Made) (p : Place) → Rests closed ms p → have_ended ss ≡ true → AreCalls login (read_calls login ss closed p).calls → Stood ms ss (read_calls login ss closed p).place
unfolding read_calls
calls_stood login [] closed ms p r ended calls = here_stood closed ms p r
calls_stood login (s ∷ ss) true ms p r ended calls = before_stood ms ms s ss _ NoErrors
    (calls_stood login ss true (with_ending s.call s.ending ms) (with_bytes s.sent s.taken p) (closed_rests s ms (with_bytes s.sent s.taken p) calls.0.ends (bytes_rest true ms p s.sent s.taken r)) (rest_ended s ss ended) calls.1)
calls_stood login (s ∷ ss) false ms p r ended calls =
    let q : Place = with_bytes s.sent s.taken p in
    let h : Halt = course login s.call q in
    let ran = run_fine (enough login s.call q) login s.call ms ms NoErrors (Goes (parts_of login s.call) q) (ms, NoErrors, begins_fine login s.call ms q (bytes_rest false ms p s.sent s.taken r)) in
    ended_stood login s ss ms h ran.0 ended ran.1
    (λ v. calls_stood login ss (is_closing s.call s.ending) (with_ending s.call s.ending ran.0) h.place v (rest_ended s ss ended) calls.1)
    (call_ended login s h ran.0 h.stop ran.2 calls.0.ends)

-- before the first call
pub first_rests : (login : Login) → Rests false [] (first_place login)
first_rests login = record {
  hushed = false;
  unheard = None;
  heard = record { olds = []; are = (λ x. absurd (cc), tt); errors = refl; fits = record { kinds = tt; within = tt } };
  clear = λ x. refl;
  over = λ x y. absurd (cc);
  off = λ x. refl;
  spent = λ x y. absurd (cc);
}

-- after a call that isn't open
pub rests_on : (login : Login) (s : Span) (ms : List Made) (p : Place) → Rests false ms p → Ends login (record { span = s; closed = false; halt = course login s.call (with_bytes s.sent s.taken p) }) (course login s.call (with_bytes s.sent s.taken p)).stop
    → (s.ending ≡ None) ⊎ ((mid : List Made) × Rests (is_closing s.call s.ending) mid (course login s.call (with_bytes s.sent s.taken p)).place)
rests_on login s ms p r e =
    let q : Place = with_bytes s.sent s.taken p in
    let h : Halt = course login s.call q in
    let ran = run_fine (enough login s.call q) login s.call ms ms NoErrors (Goes (parts_of login s.call) q) (ms, NoErrors, begins_fine login s.call ms q (bytes_rest false ms p s.sent s.taken r)) in
    by_end h ran.0 (call_ended login s h ran.0 h.stop ran.2 e)
  where
    by_end : (h : Halt) (mid : List Made) → ((s.ending ≡ None) × IsHalted s.call mid h.place) ⊎ Rests (is_closing s.call s.ending) (with_ending s.call s.ending mid) h.place → (s.ending ≡ None) ⊎ ((more : List Made) × Rests (is_closing s.call s.ending) more h.place)
    by_end h mid (inl w) = inl w.0
    by_end h mid (inr w) = inr (with_ending s.call s.ending mid, w)

-- what callers of a tape heard
pub tape_stood : (login : Login) (t : Tape) → IsTape login t → Stood [] (spans t) (reading login t).place
unfolding reading
tape_stood login t w = calls_stood login (spans t) false [] (first_place login) (first_rests login) (ended_from t t.calls w.order.order) w.calls

pub each_is_heard : EachIsHeard
each_is_heard login t w =
    let v = tape_stood login t w in
    record { made = v.made; of_calls = v.of_calls; hushed = v.hushed ∷ v.olds; are_hushed = v.are; unheard = v.unheard; errors = v.errors }
