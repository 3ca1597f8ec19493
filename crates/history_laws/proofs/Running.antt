-- Calls one after another give callers what is in the sets.
use Rattle.std.proofs.Common.{◌≡◌, ◌⊎◌, inl, inr, ℕ, suc, zero, nat_le, List, [], ◌∷◌, Bool, true, false, not, ◌&&◌, Option, Some, None, is_some, refl, sym, ap, subst}
use Rattle.my_grammar.specs.declared.login.Login.{Login}
use Rattle.my_reading.specs.declared.call.Call.{Call}
use Rattle.my_reading.specs.declared.call.Call.TheVariants.{Connect, NextRow, DropResult, TakeSet, SkipTaken}
use Rattle.my_reading.specs.declared.error.Error.{Error}
use Rattle.my_reading.specs.Calls.{kind_of, is_connect}
use Rattle.my_reading.specs.Course.{Part, All, Item, Set, Rest, Step, Goes, Stops, Stop, Owes, Awaits, Returns, Halt, course, enough, parts_of, run, step, step_of, unless_owed}
use Rattle.my_reading.specs.Endings.{AreCalls, Ends, IsCut, IsOpen, IsCancelled, IsLinkFailure, IsLinkEnd, closes_cancelled, connects_first}
use Rattle.my_reading.specs.Place.{Place, first_place, owed as owed_at, with_bytes}
use Rattle.my_reading.specs.Reading.{ReadCall, closed_answer, is_closing, read_calls, reading}
use Rattle.my_reading.specs.Order.{are_in_order, is_within, leads_to}
use Rattle.my_reading.specs.Tape.{Span, Tape, TapeCall, spans, spans_from}
use Rattle.my_reading.specs.Told.{Told, ToldError, Dropped, closes}
use Rattle.history_laws.specs.Given.{AreMade, connects, Passed, EachTapeGives, PrefixesAreGiven, have_ended, with_ending}
use Rattle.history_laws.specs.Given.{NonePassed, MorePassed}
use Rattle.history_laws.specs.Given.{NoCalls, OneCall}
use Rattle.history_laws.specs.Groups.{Group, Made, given}
use Rattle.history_laws.proofs.Calls.{cancelled_reads, closed_same, parts_safe, query_plain}
use Rattle.history_laws.proofs.Phases.{Answering, Backing, GaveAt, Heading, Replying, IsFine, IsHalted, KeptAt, Over, Passing, Drops, Skips, Phase, Reading, Rests, Safely, Stopped, Taking, reads_sets, returned_so, shifted}
use Rattle.history_laws.proofs.Giving.{answer_fine, heading_fine, item_fine, over_fine, pass_fine, set_fine}
use Rattle.history_laws.proofs.Stepping.{back_fine, both, reply_fine, safe_fine, told_gave}

-- what was passed over, and then more
then_passed : (c : Call) (ms mid more : List Made) → Passed c ms mid → Passed c mid more → Passed c ms more
then_passed c ms mid more a NonePassed = a
then_passed c ms mid more a (MorePassed older t passes item b) = MorePassed older t passes item (then_passed c ms mid older a b)

step_part : (login : Login) (c : Call) (ms : List Made) (parts : List Part) (p : Place) → Phase c ms parts p → IsFine c ms (step_of login c parts p)
step_part login c ms parts p (Safely kept trying ps q o plain e w k) = safe_fine login ms c plain kept trying ps q o e w k
step_part login c ms parts p (Heading ps q query tail none f w) = heading_fine login c ms query (query_plain c query) ps tail q w none f
step_part login c ms parts p (Answering ps q query tail f w) = answer_fine login c ms query ps tail q f w
step_part login c ms parts p (Replying q o plain none w) = reply_fine login c ms plain q o none w
step_part login c ms parts p (Backing ps first q o plain back none is w) = back_fine login c ms plain first ps q o back none is w
step_part login c ms parts p (Reading q o is w k) = subst (λ d. IsFine d ms (step_of login d (Item ∷ []) q)) (sym is) (item_fine login ms q o w k)
step_part login c ms parts p (Taking q o is w k) = subst (λ d. IsFine d ms (step_of login d (Set ∷ []) q)) (sym is) (set_fine login ms q o w k)
step_part login c ms parts p (Passing part q o does w k) = pass_fine login c ms part q o does w k
step_part login c ms parts p (Over q o passes w k) = over_fine login c ms passes q o w k

-- where bytes are owed or awaited
-- of a call that closes the session where it is cancelled
halted : (c : Call) (ms : List Made) (trying : Bool) (p : Place) (o : Option (List Group)) → reads_sets c ≡ false → GaveAt trying ms p o → IsHalted c ms p
halted c ms trying p o plain w =
    let closed : not (reads_sets c) ≡ true = ap not plain in
    record { share = o; gave = shifted trying (not (reads_sets c)) ms p.talk p.older p.trial o (λ x. absurd (cc)) w; kept = λ x. absurd (cc) }

-- of one that may leave it open
rested : (c : Call) (ms : List Made) (p : Place) (o : Option (List Group)) → GaveAt false ms p o → KeptAt p o → IsHalted c ms p
rested c ms p o w k = record { share = o; gave = shifted false (not (reads_sets c)) ms p.talk p.older p.trial o (λ x. refl) w; kept = λ _. k }

phase_halted : (c : Call) (ms : List Made) (parts : List Part) (p : Place) → Phase c ms parts p → IsHalted c ms p
phase_halted c ms parts p (Safely kept trying ps q o plain e w k) = halted c ms trying q o plain w
phase_halted c ms parts p (Heading ps q query tail none f w) = halted c ms false q None (query_plain c query) w
phase_halted c ms parts p (Answering ps q query tail f w) = halted c ms false q None (query_plain c query) w
phase_halted c ms parts p (Replying q o plain none w) = halted c ms false q o plain w
phase_halted c ms parts p (Backing ps first q o plain back none is w) = halted c ms true q o plain w
phase_halted c ms parts p (Reading q o is w k) = rested c ms q o w k
phase_halted c ms parts p (Taking q o is w k) = rested c ms q o w k
phase_halted c ms parts p (Passing part q o does w k) = rested c ms q o w k
phase_halted c ms parts p (Over q o passes w k) = rested c ms q o w k

step_fine : (login : Login) (c : Call) (ms : List Made) (parts : List Part) (p : Place) → Phase c ms parts p → IsFine c ms (step login c parts p)
unfolding step
step_fine login c ms parts p w = by_owed (owed_at p)
  where
    by_owed : (x : List ℕ) → IsFine c ms (unless_owed x p (step_of login c parts p))
    by_owed (b ∷ bytes) = phase_halted c ms parts p w
    by_owed [] = step_part login c ms parts p w

-- a call that stopped, with what it passed over
abbrev Ran : Call → List Made → Halt → Type 0
Ran c ms h = (more : List Made) × Passed c ms more × Stopped c more h.place h.stop

run_fine : (n : ℕ) (login : Login) (c : Call) (ms mid : List Made) → Passed c ms mid → (s : Step) → IsFine c mid s → Ran c ms (run n login c s)
unfolding run
run_fine zero login c ms mid a (Stops p s) w = (mid, a, w)
run_fine (suc n) login c ms mid a (Stops p s) w = (mid, a, w)
run_fine zero login c ms mid a (Goes parts p) w = (w.0, then_passed c ms mid w.0 a w.1, phase_halted c w.0 parts p w.2)
run_fine (suc n) login c ms mid a (Goes parts p) w = run_fine n login c ms w.0 (then_passed c ms mid w.0 a w.1) (step login c parts p) (step_fine login c w.0 parts p w.2)

begins_fine : (login : Login) (c : Call) (ms : List Made) (p : Place) (o : Option (List Group)) → GaveAt false ms p o → (is_connect (kind_of c) ≡ false → KeptAt p o) → Phase c ms (parts_of login c) p
begins_fine login Connect ms p o w k = Safely false false (parts_of login Connect) p o refl (parts_safe login Connect refl) w (λ e. absurd (cc))
begins_fine login NextRow ms p o w k = Reading p o refl w (k refl)
begins_fine login TakeSet ms p o w k = Taking p o refl w (k refl)
begins_fine login DropResult ms p o w k = Passing All p o Drops w (k refl)
begins_fine login SkipTaken ms p o w k = Passing Rest p o Skips w (k refl)
begins_fine login c ms p o w k = Safely true false (parts_of login c) p o refl (parts_safe login c refl) w (λ _. k refl)

module _ (login : Login) (s : Span) (h : Halt) (mid : List Made) where
  abbrev call : ReadCall
  call = record { span = s; closed = false; halt = h }

  -- after the call: what it was given, and whether it is closed
  abbrev Ended : Type 0
  Ended = ((s.ending ≡ None) × IsHalted s.call mid h.place) ⊎ Rests (is_closing s.call s.ending) (with_ending s.call s.ending mid) h.place

  so : (t : Told) → s.ending ≡ Some t → Rests (closes t (kind_of s.call)) (returned_so s.call t mid) h.place → Ended
  so t e r = inr (subst (λ (x : Option Told). Rests (is_closing s.call x) (with_ending s.call x mid) h.place) (sym e) r)

  -- where the link failed the session is closed
  lost : (e : Error) → closes (ToldError e) (kind_of s.call) ≡ true → IsHalted s.call mid h.place → Rests (closes (ToldError e) (kind_of s.call)) (returned_so s.call (ToldError e) mid) h.place
  lost e closing r = record {
    share = r.share;
    gave = shifted (not (reads_sets s.call)) (closes (ToldError e) (kind_of s.call)) (returned_so s.call (ToldError e) mid) h.place.talk h.place.older h.place.trial r.share (λ x. absurd (cc)) (told_gave s.call mid (not (reads_sets s.call)) (ToldError e) h.place r.share refl r.gave);
    kept = λ x. absurd (cc);
  }

  cut_ended : IsHalted s.call mid h.place → IsCut login call → Ended
  cut_ended r (IsOpen e) = inl (e, r)
  cut_ended r (IsCancelled e) = so (Dropped (closes_cancelled (kind_of s.call) h.place)) e
      (record {
        share = r.share;
        gave = shifted (not (reads_sets s.call)) (closes_cancelled (kind_of s.call) h.place) (returned_so s.call (Dropped (closes_cancelled (kind_of s.call) h.place)) mid) h.place.talk h.place.older h.place.trial r.share (cancelled_reads s.call h.place)
            (told_gave s.call mid (not (reads_sets s.call)) (Dropped (closes_cancelled (kind_of s.call) h.place)) h.place r.share refl r.gave);
        kept = λ x. r.kept (cancelled_reads s.call h.place x);
      })
  cut_ended r (IsLinkFailure e) = so _ e (lost _ refl r)
  cut_ended r (IsLinkEnd a e) = so _ e (lost _ refl r)

  call_ended : (stop : Stop) → Stopped s.call mid h.place stop → Ends login call stop → Ended
  call_ended Owes w e = cut_ended w e
  call_ended Awaits w e = cut_ended w e
  call_ended (Returns t) w e = so t e w

-- where the reading stands after calls
record Stood (ms : List Made) (ss : List Span) (p : Place) : Type 0 where
  pub made : List Made
  pub of_calls : AreMade ms ss made
  pub share : Option (List Group)
  pub gave : GaveAt true made p share

here_stood : (closed : Bool) (ms : List Made) (p : Place) (o : Option (List Group)) → GaveAt closed ms p o → Stood ms [] p
here_stood closed ms p o w = record { made = ms; of_calls = NoCalls ms; share = o; gave = shifted closed true ms p.talk p.older p.trial o (λ x. absurd (cc)) w }

before_stood : (ms mid : List Made) (s : Span) (ss : List Span) (p : Place) → Passed s.call ms mid → Stood (with_ending s.call s.ending mid) ss p → Stood ms (s ∷ ss) p
before_stood ms mid s ss p passed w = record { made = w.made; of_calls = OneCall ms mid w.made s ss passed w.of_calls; share = w.share; gave = w.gave }

pub rest_ended : (s : Span) (ss : List Span) → have_ended (s ∷ ss) ≡ true → have_ended ss ≡ true
rest_ended s [] e = refl
rest_ended s (t ∷ ss) e = (both (is_some s.ending) (have_ended (t ∷ ss)) e).1

-- an open call is the newest
open_stood : (login : Login) (s : Span) (ss : List Span) (closed : Bool) (ms mid : List Made) (p : Place) → have_ended (s ∷ ss) ≡ true → s.ending ≡ None → Passed s.call ms mid → IsHalted s.call mid p → Stood ms (s ∷ ss) (read_calls login ss closed p).place
unfolding read_calls
open_stood login s [] closed ms mid p ended none passed r = before_stood ms mid s [] p passed
    (subst (λ (x : Option Told). Stood (with_ending s.call x mid) [] p) (sym none) (here_stood (not (reads_sets s.call)) mid p r.share r.gave))
open_stood login s (t ∷ ss) closed ms mid p ended none passed r =
    let some : is_some s.ending ≡ true = (both (is_some s.ending) (have_ended (t ∷ ss)) ended).0 in
    let no : is_some s.ending ≡ false = ap is_some none in
    absurd (cc)

closed_gave : (s : Span) (ms : List Made) (p : Place) (o : Option (List Group)) → s.ending ≡ Some (closed_answer s.call) → GaveAt true ms p o → GaveAt true (with_ending s.call s.ending ms) p o
closed_gave s ms p o e w = subst (λ (x : Option Told). GaveAt true (with_ending s.call x ms) p o) (sym e) (told_gave s.call ms true (closed_answer s.call) p o (closed_same s.call (given ms)) w)

-- after one call
ended_stood : (login : Login) (s : Span) (ss : List Span) (ms : List Made) (h : Halt) (mid : List Made) → have_ended (s ∷ ss) ≡ true → Passed s.call ms mid
    → (Rests (is_closing s.call s.ending) (with_ending s.call s.ending mid) h.place → Stood (with_ending s.call s.ending mid) ss (read_calls login ss (is_closing s.call s.ending) h.place).place)
    → (((s.ending ≡ None) × IsHalted s.call mid h.place) ⊎ Rests (is_closing s.call s.ending) (with_ending s.call s.ending mid) h.place)
    → Stood ms (s ∷ ss) (read_calls login ss (is_closing s.call s.ending) h.place).place
ended_stood login s ss ms h mid ended passed go (inl cut) = open_stood login s ss (is_closing s.call s.ending) ms mid h.place ended cut.0 passed cut.1
ended_stood login s ss ms h mid ended passed go (inr r) = before_stood ms mid s ss _ passed (go r)

calls_stood : (login : Login) (ss : List Span) (closed : Bool) (ms : List Made) (p : Place) (o : Option (List Group)) → GaveAt closed ms p o → (closed ≡ false → connects ss ≡ false → KeptAt p o)
    → have_ended ss ≡ true → AreCalls login (read_calls login ss closed p).calls → Stood ms ss (read_calls login ss closed p).place
unfolding read_calls
calls_stood login [] closed ms p o w k ended calls = here_stood closed ms p o w
calls_stood login (s ∷ ss) true ms p o w k ended calls = before_stood ms ms s ss _ NonePassed
    (calls_stood login ss true (with_ending s.call s.ending ms) (with_bytes s.sent s.taken p) o (closed_gave s ms (with_bytes s.sent s.taken p) o calls.0.ends w) (λ e _. absurd (cc)) (rest_ended s ss ended) calls.1)
calls_stood login (s ∷ ss) false ms p o w k ended calls =
    let q : Place = with_bytes s.sent s.taken p in
    let h : Halt = course login s.call q in
    let ran = run_fine (enough login s.call q) login s.call ms ms NonePassed (Goes (parts_of login s.call) q) (ms, NonePassed, begins_fine login s.call ms q o w (k refl)) in
    ended_stood login s ss ms h ran.0 ended ran.1
    (λ r. calls_stood login ss (is_closing s.call s.ending) (with_ending s.call s.ending ran.0) h.place r.share r.gave (λ e _. r.kept e) (rest_ended s ss ended) calls.1)
    (call_ended login s h ran.0 h.stop ran.2 calls.0.ends)

pub prefixes_are_given : PrefixesAreGiven
prefixes_are_given login ss ended first calls =
    let w = calls_stood login ss false [] (first_place login) None (record { olds = []; given_is = refl; newest = tt; each = tt; fits = record { kinds = tt; within = tt }; off = λ x. refl })
    (λ _ e. absurd (let no : connects ss ≡ true = first in cc)) ended calls in
    record { made = w.made; of_calls = w.of_calls; shares = w.share ∷ w.gave.olds; given_is = w.gave.given_is; each = (w.gave.newest, w.gave.each) }

-- the calls of a tape that the reading accepts
pub ended_from : (t : Tape) (cs : List TapeCall) → are_in_order t cs ≡ true → have_ended (spans_from t cs) ≡ true
ended_from t [] e = refl
ended_from t (c ∷ []) e = refl
ended_from t (c ∷ d ∷ cs) e =
    let x = both (is_within t c && leads_to c (d ∷ cs)) _ e in
    let y = both (is_within t c) _ x.0 in
    let z = both (is_some c.ending && nat_le c.sent_from d.sent_from) _ y.1 in
    both_hold _ _ (both (is_some c.ending) _ z.0).0 (ended_from t (d ∷ cs) x.1)
  where
    both_hold : (a b : Bool) → a ≡ true → b ≡ true → (a && b) ≡ true
    both_hold true b x y = y
    both_hold false b x y = cc

first_connects : (login : Login) (ss : List Span) (p : Place) → connects_first (read_calls login ss false p).calls ≡ true → connects ss ≡ true
unfolding read_calls
first_connects login [] p e = refl
first_connects login (s ∷ ss) p e = (both (is_connect (kind_of s.call)) _ e).0

pub each_tape_gives : EachTapeGives
unfolding reading
each_tape_gives login t w = prefixes_are_given login (spans t) (ended_from t t.calls w.order.order) (first_connects login (spans t) (first_place login) w.first) w.calls
