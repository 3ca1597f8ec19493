-- Calls after the first, one after another, own the exchanges that they begin.
use Rattle.std.proofs.Common.{◌≡◌, ◌⊎◌, inl, inr, suc, length, List, [], ◌∷◌, Bool, true, false, cond, not, ◌||◌, Option, Some, None, is_some, refl, sym, ap, ◌∙◌, subst}
use Rattle.my_grammar.specs.declared.login.Login.{Login}
use Rattle.my_grammar.specs.Cut.{is_over}
use Rattle.my_grammar.specs.Talk.{Fits}
use Rattle.my_reading.specs.declared.call.Call.{Call}
use Rattle.my_reading.specs.declared.call.CallKind.{CallKind}
use Rattle.my_reading.specs.Calls.{asks, is_connect, kind_of}
use Rattle.my_reading.specs.Commands.{arranging_texts}
use Rattle.my_reading.specs.Course.{Goes, Halt, Stop, Owes, Awaits, Returns, course, enough, parts_of}
use Rattle.my_reading.specs.Endings.{AreCalls, Ends, IsCut, IsOpen, IsCancelled, IsLinkFailure, IsLinkEnd, closes_cancelled, connects_none}
use Rattle.my_reading.specs.Place.{Place, connects_in, exchanges, owed, with_bytes}
use Rattle.my_reading.specs.Reading.{ReadCall, closed_answer, is_closing, read_calls}
use Rattle.my_reading.specs.Tape.{Span}
use Rattle.my_reading.specs.Told.{Told, ToldReady, Dropped, closes}
use Rattle.history_laws.specs.Ended.{ended_after, makes, was_made}
use Rattle.history_laws.specs.Given.{have_ended, with_ending}
use Rattle.history_laws.specs.Groups.{Made}
use Rattle.history_laws.specs.Owners.{AreOf, IsArranged, IsOwnedOf, IsTied, begun_in, calls_in, may_lack, open_call, pending_in}
use Rattle.history_laws.specs.Sent.{is_answered}
use Rattle.history_laws.specs.Settled.{Knows}
use Rattle.history_laws.specs.Table.{Follow}
use Rattle.history_laws.proofs.Calls.{cancelled_asks, cancelled_awaits, closed_lacks}
use Rattle.history_laws.proofs.Heard.{Rests}
use Rattle.history_laws.proofs.Owning.{HeldAt, Owned, Stopped, Waits, is_off, run_fine}
use Rattle.history_laws.proofs.Parts.{parts_lead}
use Rattle.history_laws.proofs.Running.{rest_ended}
use Rattle.history_laws.proofs.Sending.{bytes_paid}
use Rattle.history_laws.proofs.Shaping.{IsShook}
use Rattle.history_laws.proofs.Stepping.{both}
use Rattle.history_laws.proofs.Telling.{rests_on}

-- between calls, on a session that is closed or not
pub record Between (login : Login) (closed : Bool) (ms : List Made) (p : Place) : Type 0 where
  pub table : Follow login (exchanges p)
  pub tied : IsTied ms (begun_in (exchanges p))
  pub arranged : was_made ms ≡ true → (connects_in (exchanges p) ≡ suc (length (arranging_texts login))) × (is_connect (kind_of p.call) ≡ true → (is_over p.talk ≡ true) × (is_answered p.talk ≡ true))
  pub shook : closed ≡ false → IsShook p.talk
  pub known : Knows login ms (exchanges p)
  pub paid : closed ≡ false → owed p ≡ []
  pub fits : Fits p.talk

-- an answer of another call than the one that connects
makes_none : (t : Told) (k : CallKind) → is_connect k ≡ false → makes t k ≡ false
makes_none ToldReady k e = e
makes_none _ k e = refl

same_made : (c : Call) (t : Told) (ms : List Made) → is_connect (kind_of c) ≡ false → was_made (record { call = c; what = t } ∷ ms) ≡ true → was_made ms ≡ true
same_made c t ms other e = subst (λ b. (b || was_made ms) ≡ true) (makes_none t (kind_of c) other) e

closed_between : (login : Login) (s : Span) (ms : List Made) (p : Place) → is_connect (kind_of s.call) ≡ false → s.ending ≡ Some (closed_answer s.call) → Between login true ms p → Between login true (with_ending s.call s.ending ms) (with_bytes s.sent s.taken p)
closed_between login s ms p other e b = subst (λ (x : Option Told). Between login true (with_ending s.call x ms) (with_bytes s.sent s.taken p)) (sym e)
    (record {
      table = b.table;
      tied = inl (closed_lacks s.call, b.tied);
      arranged = λ made. b.arranged (same_made s.call (closed_answer s.call) ms other made);
      known = λ made. b.known (same_made s.call (closed_answer s.call) ms other made);
      shook = λ x. absurd (cc);
      paid = λ x. absurd (cc);
      fits = b.fits;
    })

-- after the greeting all exchanges began
pub all_begun : (P : List Call → Type 0) (p : Place) → IsShook p.talk → P (p.call ∷ calls_in p.older) → P (begun_in (exchanges p))
all_begun P p shook w = subst (λ b. P (cond b (calls_in p.older) (p.call ∷ calls_in p.older))) (sym shook) w

from_begun : (P : List Call → Type 0) (p : Place) → IsShook p.talk → P (begun_in (exchanges p)) → P (p.call ∷ calls_in p.older)
from_begun P p shook w = subst (λ b. P (cond b (calls_in p.older) (p.call ∷ calls_in p.older))) shook w

-- one call that doesn't connect, on an open session
module _ (login : Login) (s : Span) (ms : List Made) (other : is_connect (kind_of s.call) ≡ false) where
  abbrev c : Call
  c = s.call

  held_first : (p : Place) → Between login false ms p → HeldAt login c ms false (with_bytes s.sent s.taken p)
  held_first p b = record {
    table = b.table;
    owns = λ e. absurd (cc);
    tied = inr (from_begun (IsTied ms) p (b.shook refl) b.tied);
    shook = b.shook refl;
    arranged = b.arranged;
    known = b.known;
    fits = b.fits;
  }

  answer_tied : (t : Told) (own : Bool) (p : Place) → HeldAt login c ms own p → (own || may_lack t c) ≡ true → IsTied (record { call = c; what = t } ∷ ms) (p.call ∷ calls_in p.older)
  answer_tied t true p w e = inr (w.owns refl)
  answer_tied t false p w e = by_tied w.tied
    where
      by_tied : Owned c ms p.call p.older ⊎ IsTied ms (p.call ∷ calls_in p.older) → IsTied (record { call = c; what = t } ∷ ms) (p.call ∷ calls_in p.older)
      by_tied (inl o) = inr o
      by_tied (inr v) = inl (e, v)

  answered : (t : Told) (own closed : Bool) (p : Place) → HeldAt login c ms own p → (own || may_lack t c) ≡ true → (closed ≡ false → owed p ≡ []) → Between login closed (record { call = c; what = t } ∷ ms) p
  answered t own closed p w e paid = record {
    table = w.table;
    tied = all_begun (IsTied (record { call = c; what = t } ∷ ms)) p w.shook (answer_tied t own p w e);
    arranged = λ made. w.arranged (same_made c t ms other made);
    known = λ made. w.known (same_made c t ms other made);
    shook = λ _. w.shook;
    paid = paid;
    fits = w.fits;
  }

  module _ (h : Halt) where
    abbrev as_read : ReadCall
    as_read = record { span = s; closed = false; halt = h }

    abbrev Ended : Type 0
    Ended = ((s.ending ≡ None) × Waits login c ms h.place) ⊎ ((is_some s.ending ≡ true) × Between login (is_closing c s.ending) (with_ending c s.ending ms) h.place)

    so : (t : Told) → s.ending ≡ Some t → Between login (closes t (kind_of c)) (record { call = c; what = t } ∷ ms) h.place → Ended
    so t e b = inr (ap is_some e, subst (λ (x : Option Told). Between login (is_closing c x) (with_ending c x ms) h.place) (sym e) b)

    or_lack : (own : Bool) → (own || true) ≡ true
    or_lack true = refl
    or_lack false = refl

    cut_ended : Waits login c ms h.place → IsCut login as_read → Ended
    cut_ended w (IsOpen e) = inl (e, w)
    cut_ended w (IsCancelled e) = so (Dropped (closes_cancelled (kind_of c) h.place)) e (answered (Dropped (closes_cancelled (kind_of c) h.place)) w.0 (closes_cancelled (kind_of c) h.place) h.place w.1 (or_lack w.0) (λ x. w.2 (cancelled_asks (kind_of c) h.place x) (cancelled_awaits (kind_of c) h.place x)))
    cut_ended w (IsLinkFailure e) = so _ e (answered _ w.0 true h.place w.1 (or_lack w.0) (λ x. absurd (cc)))
    cut_ended w (IsLinkEnd a e) = so _ e (answered _ w.0 true h.place w.1 (or_lack w.0) (λ x. absurd (cc)))

    call_ended : (stop : Stop) → Stopped login c ms h.place stop → Ends login as_read stop → Ended
    call_ended Owes w e = cut_ended w e
    call_ended Awaits w e = cut_ended w e
    call_ended (Returns t) w e = so t e (answered t w.0 (closes t (kind_of c)) h.place w.1 w.2 (λ _. w.3))

  call_stands : (p : Place) (ms0 : List Made) → Between login false ms p → Rests false ms0 p → Stopped login c ms (course login c (with_bytes s.sent s.taken p)).place (course login c (with_bytes s.sent s.taken p)).stop
  call_stands p ms0 b r =
      let q : Place = with_bytes s.sent s.taken p in
      run_fine login c ms other (enough login c q) (Goes (parts_of login c) q)
      (false, held_first p b, parts_lead login c q.status other, (ap (λ x. is_off x || asks (kind_of c)) (r.off refl), λ _ _. bytes_paid p s.sent s.taken (b.paid refl)))

-- a call that is open
open_of : (login : Login) (s : Span) (ms : List Made) (p : Place) → Waits login s.call ms p → AreOf (Some s.call) ms (begun_in (exchanges p))
open_of login s ms p w = all_begun (AreOf (Some s.call) ms) p w.1.shook w.1.tied

-- the last query was answered
set_up : (connects answered : Bool) → (connects ≡ true → answered ≡ true) → (not connects || answered) ≡ true
set_up true answered w = w refl
set_up false answered w = refl

-- after the calls
here_owned : (login : Login) (closed : Bool) (ms : List Made) (p : Place) → Between login closed ms p → IsOwnedOf login ms [] p closed
here_owned login closed ms p b = record { table = b.table; calls = inr b.tied; arranged = λ made. ((b.arranged made).0, set_up (is_connect (kind_of p.call)) (is_answered p.talk) (λ e. ((b.arranged made).1 e).1)); known = b.known; whole = λ none alive. b.paid alive }

same_pending : (s : Span) (ss : List Span) → is_some s.ending ≡ true → pending_in (s ∷ ss) ≡ pending_in ss
same_pending s [] e = by_ending s.ending e
  where
    by_ending : (x : Option Told) → is_some x ≡ true → open_call s.call x ≡ None
    by_ending None y = absurd (cc)
    by_ending (Some t) y = refl
same_pending s (t ∷ ss) e = refl

before_owned : (login : Login) (s : Span) (ss : List Span) (ms : List Made) (p : Place) (closed : Bool) → is_some s.ending ≡ true → IsOwnedOf login (with_ending s.call s.ending ms) ss p closed → IsOwnedOf login ms (s ∷ ss) p closed
before_owned login s ss ms p closed e w = record {
  table = w.table;
  calls = subst (λ o. AreOf o (ended_after (with_ending s.call s.ending ms) ss) (begun_in (exchanges p))) (sym (same_pending s ss e)) w.calls;
  arranged = w.arranged;
  known = w.known;
  whole = λ none. w.whole (sym (same_pending s ss e) ∙ none);
}

-- an open call is the newest
open_owned : (login : Login) (s : Span) (ss : List Span) (ms : List Made) (closed : Bool) (p : Place) → have_ended (s ∷ ss) ≡ true → s.ending ≡ None → Follow login (exchanges p) → AreOf (Some s.call) ms (begun_in (exchanges p))
    → IsArranged login ms (exchanges p) → Knows login ms (exchanges p) → IsOwnedOf login ms (s ∷ ss) (read_calls login ss closed p).place (read_calls login ss closed p).closed
unfolding read_calls
open_owned login s [] ms closed p ended none table of arranged known = record {
  table = table;
  calls = subst (λ (x : Option Told). AreOf (open_call s.call x) (with_ending s.call x ms) (begun_in (exchanges p))) (sym none) of;
  arranged = subst (λ (x : Option Told). IsArranged login (with_ending s.call x ms) (exchanges p)) (sym none) arranged;
  known = subst (λ (x : Option Told). Knows login (with_ending s.call x ms) (exchanges p)) (sym none) known;
  whole = λ e. absurd (let no : open_call s.call s.ending ≡ Some s.call = ap (open_call s.call) none in cc);
}
open_owned login s (t ∷ ss) ms closed p ended none table of arranged known =
    let some : is_some s.ending ≡ true = (both (is_some s.ending) (have_ended (t ∷ ss)) ended).0 in
    let no : is_some s.ending ≡ false = ap is_some none in
    absurd (cc)

no_other : (b : Bool) → not b ≡ true → b ≡ false
no_other true e = absurd (cc)
no_other false e = refl

-- an open session has no trial between calls
abbrev pub IsAlive : Bool → Place → Type 0
IsAlive closed p = closed ≡ false → (ms0 : List Made) × Rests false ms0 p

from_rests : (closed : Bool) (ms0 : List Made) (p : Place) → Rests closed ms0 p → IsAlive closed p
from_rests closed ms0 p r = λ e. (ms0, subst (λ b. Rests b ms0 p) e r)

-- either the call is open, or the next ones follow
pub ended_owned : (login : Login) (s : Span) (ss : List Span) (ms : List Made) (h : Halt) → have_ended (s ∷ ss) ≡ true
    → (s.ending ≡ None) ⊎ ((mid : List Made) × Rests (is_closing s.call s.ending) mid h.place)
    → ((s.ending ≡ None) × (Follow login (exchanges h.place) × AreOf (Some s.call) ms (begun_in (exchanges h.place)) × IsArranged login ms (exchanges h.place) × Knows login ms (exchanges h.place))) ⊎ ((is_some s.ending ≡ true) × Between login (is_closing s.call s.ending) (with_ending s.call s.ending ms) h.place)
    → (Between login (is_closing s.call s.ending) (with_ending s.call s.ending ms) h.place → IsAlive (is_closing s.call s.ending) h.place
    → IsOwnedOf login (with_ending s.call s.ending ms) ss (read_calls login ss (is_closing s.call s.ending) h.place).place (read_calls login ss (is_closing s.call s.ending) h.place).closed)
    → IsOwnedOf login ms (s ∷ ss) (read_calls login ss (is_closing s.call s.ending) h.place).place (read_calls login ss (is_closing s.call s.ending) h.place).closed
ended_owned login s ss ms h ended rests (inl w) go = open_owned login s ss ms (is_closing s.call s.ending) h.place ended w.0 w.1.0 w.1.1 w.1.2 w.1.3
ended_owned login s ss ms h ended (inl none) (inr b) go = let no : is_some s.ending ≡ false = ap is_some none in absurd (let yes = b.0 in cc)
ended_owned login s ss ms h ended (inr v) (inr b) go = before_owned login s ss ms _ _ b.0 (go b.1 (from_rests (is_closing s.call s.ending) v.0 h.place v.1))

waits_open : (login : Login) (s : Span) (ms : List Made) (h : Halt)
    → ((s.ending ≡ None) × Waits login s.call ms h.place) ⊎ ((is_some s.ending ≡ true) × Between login (is_closing s.call s.ending) (with_ending s.call s.ending ms) h.place)
    → ((s.ending ≡ None) × (Follow login (exchanges h.place) × AreOf (Some s.call) ms (begun_in (exchanges h.place)) × IsArranged login ms (exchanges h.place) × Knows login ms (exchanges h.place))) ⊎ ((is_some s.ending ≡ true) × Between login (is_closing s.call s.ending) (with_ending s.call s.ending ms) h.place)
waits_open login s ms h (inl w) = inl (w.0, (w.1.1.table, open_of login s ms h.place w.1, λ made. ((w.1.1.arranged made).0, set_up (is_connect (kind_of h.place.call)) (is_answered h.place.talk) (λ e. ((w.1.1.arranged made).1 e).1)), w.1.1.known))
waits_open login s ms h (inr b) = inr b

-- the calls after the first
pub calls_owned : (login : Login) (ss : List Span) (closed : Bool) (ms : List Made) (p : Place) → Between login closed ms p → IsAlive closed p → have_ended ss ≡ true
    → connects_none (read_calls login ss closed p).calls ≡ true → AreCalls login (read_calls login ss closed p).calls → IsOwnedOf login ms ss (read_calls login ss closed p).place (read_calls login ss closed p).closed
unfolding read_calls
calls_owned login [] closed ms p b r ended none calls = here_owned login closed ms p b
calls_owned login (s ∷ ss) true ms p b r ended none calls =
    let n = both (not (is_connect (kind_of s.call))) _ none in
    let other = no_other (is_connect (kind_of s.call)) n.0 in
    before_owned login s ss ms _ _ (ap is_some calls.0.ends)
    (calls_owned login ss true (with_ending s.call s.ending ms) (with_bytes s.sent s.taken p) (closed_between login s ms p other calls.0.ends b) (λ e. absurd (cc)) (rest_ended s ss ended) n.1 calls.1)
calls_owned login (s ∷ ss) false ms p b r ended none calls =
    let n = both (not (is_connect (kind_of s.call))) _ none in
    let other = no_other (is_connect (kind_of s.call)) n.0 in
    let h : Halt = course login s.call (with_bytes s.sent s.taken p) in
    let rest = r refl in
    ended_owned login s ss ms h ended (rests_on login s rest.0 p rest.1 calls.0.ends)
    (waits_open login s ms h (call_ended login s ms other h h.stop (call_stands login s ms other p rest.0 b rest.1) calls.0.ends))
    (λ c v. calls_owned login ss (is_closing s.call s.ending) (with_ending s.call s.ending ms) h.place c v (rest_ended s ss ended) n.1 calls.1)
