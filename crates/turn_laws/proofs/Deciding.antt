-- What a poll returns is decided, and which errors it may return.
use Rattle.std.proofs.Common.{ℕ, ◌≡◌, ◌≤◌, nat_le, List, [], ◌∷◌, Option, Some, None, Bool, true, false, ◌||◌, cond, inl, inr, refl, sym, ap, ◌∙◌, subst}
use Rattle.std.proofs.lemmas.Bool.{le-leb, leb-true}
use Rattle.my_frame.specs.declared.limits.TheConstants.{MOST_TAKEN}
use Rattle.my_grammar.specs.declared.login.Login.{Login}
use Rattle.my_link.specs.declared.met.Met.{Met}
use Rattle.my_link.specs.Looks.{Looks}
use Rattle.my_link.specs.Moves.{Move, Stop as LinkStop, NoStop, ReadHold, WriteHold, ReadFault, WriteFault, LinkEnd}
use Rattle.my_reading.specs.declared.answer.Answer.{Answer}
use Rattle.my_reading.specs.declared.answer.Answer.TheVariants as answers
use Rattle.my_reading.specs.declared.error.Error.{Error}
use Rattle.my_reading.specs.declared.error.Error.TheVariants as errors
use Rattle.my_reading.specs.declared.error.IoError.{IoError}
use Rattle.my_reading.specs.declared.error.IoError.TheVariants as ios
use Rattle.my_reading.specs.declared.error.IoKind.{IoKind}
use Rattle.my_reading.specs.declared.error.IoKind.TheVariants as kinds
use Rattle.my_reading.specs.Calls.{is_unrefused, kind_of}
use Rattle.my_reading.specs.Course.{Stop, Owes, Awaits, Returns, Goes, enough, parts_of}
use Rattle.my_reading.specs.Errors.{connection_closed, io_error, unexpected_eof}
use Rattle.my_reading.specs.Place.{Place, first_place, with_bytes}
use Rattle.my_reading.specs.Reading.{halt_of, is_closing, read_calls, reading}
use Rattle.my_reading.specs.Tape.{Span, spans}
use Rattle.my_reading.specs.Told.{Told, ToldReady, ToldRow, ToldEnd, ToldNone, ToldStatement, ToldFlag, ToldError, ToldPassed, Dropped, told}
use Rattle.turn_laws.proofs.Refusing.{begin_own, refused_by, values_own, chain_own}
use Rattle.reading_laws.proofs.Unfitting.{unfit_is}
use Rattle.my_client.specs.declared.poll.After.{After}
use Rattle.my_client.specs.declared.poll.After.TheVariants.{Pending, Answered, Failed}
use Rattle.my_client.specs.Ends.{kept_after}
use Rattle.my_client.specs.Kept.{Asked, Kept}
use Rattle.my_client.specs.Reads.{facts_kept, newest_stop, stop_kept, tape_kept}
use Rattle.my_client.specs.Polls.{comes_at, comes_to, if_full, met_in, moved_by, told_of, IsPolled}
use Rattle.my_client.proofs.Stopping.{AreTold, StopsSo, TellsSo, run_tells, step_stops}
use Rattle.turn_laws.specs.Decided.{EachCallReturns, EachErrorIsOwn, EachHasCause, EachIsAnswer, EachIsDecided, EachIsReturned, EachStepReturns, IsBecause, IsFailed, IsPending, IsPollError, IsPollIo, IsPollKind, IsReadError, IsReadIo, IsReadKind, IsReadTold}

-- a result is told by one value alone
after_by : Option Told → After
after_by (Some ToldReady) = Answered answers.Ready
after_by (Some (ToldRow row)) = Answered (answers.Row row)
after_by (Some ToldEnd) = Answered answers.SetEnd
after_by (Some ToldNone) = Answered answers.NoSet
after_by (Some (ToldStatement statement)) = Answered (answers.Stmt statement)
after_by (Some (ToldFlag flag)) = Answered (answers.Flag flag)
after_by (Some (ToldError e)) = Failed e
after_by _ = Pending

after_back : (p : After) → after_by (told_of p) ≡ p
unfolding after_by
after_back Pending = refl
after_back (Answered answers.Ready) = refl
after_back (Answered (answers.Row row)) = refl
after_back (Answered answers.SetEnd) = refl
after_back (Answered answers.NoSet) = refl
after_back (Answered (answers.Stmt statement)) = refl
after_back (Answered (answers.Flag flag)) = refl
after_back (Failed e) = refl

same_told : (s t : Option Told) → Some s ≡ Some t → s ≡ t
same_told s t e = cc

same_after : (p q : After) → Some (told_of p) ≡ Some (told_of q) → p ≡ q
same_after p q e = sym (after_back p) ∙ ap after_by (same_told (told_of p) (told_of q) e) ∙ after_back q

pub each_is_decided : EachIsDecided
each_is_decided login a k x y z w u v p q e f one other moves stop =
    let met : u ≡ v = one.met ∙ ap (λ (ms : List Move). met_in ms one.stop) moves ∙ ap (λ (s : LinkStop). met_in other.moves s) stop ∙ sym other.met in
    let taken : u.taken ≡ v.taken = ap (λ (m : Met). m.taken) met in
    let result : p ≡ q = same_after p q (sym one.comes
    ∙ ap (λ (ms : List Move). comes_at login (moved_by k ms) one.stop u.taken) moves
    ∙ ap (λ (s : LinkStop). comes_at login (moved_by k other.moves) s u.taken) stop
    ∙ ap (λ n. comes_at login (moved_by k other.moves) other.stop n) taken
    ∙ other.comes) in
    (met, result, one.ends ∙ ap (λ (ms : List Move). kept_after (moved_by k ms) a p) moves ∙ ap (λ (r : After). kept_after (moved_by k other.moves) a r) result ∙ sym other.ends)

returned_by : (stop : LinkStop) (t : Told) (n place : ℕ) (o : Option Told) → comes_to stop (Some (Returns t)) n place ≡ Some o → (stop ≡ NoStop) × (o ≡ Some t)
returned_by NoStop t n place o e = (refl, sym (same_told (Some t) o e))
returned_by _ t n place o e = cc

pub each_is_returned : EachIsReturned
each_is_returned login a k x y u after e w t comes =
    returned_by w.stop t u.taken (facts_kept login (moved_by k w.moves)).place (told_of after)
    (ap (λ (s : Option Stop). comes_to w.stop s u.taken (facts_kept login (moved_by k w.moves)).place) (sym comes) ∙ w.comes)

-- a poll that received all that it may
full : (n : ℕ) (o : Option Told) → if_full n ≡ Some o → (o ≡ None) × (MOST_TAKEN ≤ n)
full n o e = by_test (nat_le MOST_TAKEN n) refl e
  where
    by_test : (b : Bool) → nat_le MOST_TAKEN n ≡ b → (let x : Option (Option Told) = cond b (Some None) None in x) ≡ Some o → (o ≡ None) × (MOST_TAKEN ≤ n)
    by_test true is f = (sym (same_told None o f), leb-true MOST_TAKEN n is)
    by_test false is f = cc

is_full : (n : ℕ) → MOST_TAKEN ≤ n → if_full n ≡ Some None
is_full n h = ap (λ (b : Bool). let x : Option (Option Told) = cond b (Some None) None in x) (le-leb MOST_TAKEN n h)

-- an answer is no error
no_error : (x : Answer) (e : Error) → Some (Some (ToldError e)) ≡ Some (Some (told x)) → ⊥
no_error answers.Ready e f = cc
no_error _ e f = cc

module _ (login : Login) (k : Kept) (n : ℕ) where
  abbrev place : ℕ
  place = (facts_kept login k).place

  by_return : (t : Told) (after : After) → stop_kept login k ≡ Some (Returns t) → Some (Some t) ≡ Some (told_of after) → IsBecause login k NoStop n after
  by_return t Pending is e = absurd cc
  by_return t (Answered x) is e = let same : t ≡ told x = cc in (refl, is ∙ ap (λ u. Some (Returns u)) same)
  by_return t (Failed x) is e = let same : t ≡ ToldError x = cc in is ∙ ap (λ u. Some (Returns u)) same

  by_none : (stop : LinkStop) (after : After) → Some None ≡ Some (told_of after) → IsPending login k stop n → IsBecause login k stop n after
  by_none stop Pending e w = w
  by_none stop (Answered x) e w = absurd cc
  by_none stop (Failed x) e w = absurd cc

  by_error : (stop : LinkStop) (x : Error) (after : After) → Some (Some (ToldError x)) ≡ Some (told_of after) → ((e : Error) → x ≡ e → IsFailed login k stop e) → IsBecause login k stop n after
  by_error stop x Pending e w = absurd cc
  by_error stop x (Answered y) e w = absurd (no_error y x e)
  by_error stop x (Failed y) e w = let same : x ≡ y = cc in w y same

  has_cause : (stop : LinkStop) (after : After) (s : Option Stop) → stop_kept login k ≡ s → comes_to stop s n place ≡ Some (told_of after) → IsBecause login k stop n after
  has_cause NoStop after (Some Awaits) is e = let f = full n (told_of after) e in by_none NoStop after (ap Some (sym f.0)) (is, f.1)
  has_cause NoStop after (Some (Returns t)) is e = by_return t after is e
  has_cause ReadHold after (Some Awaits) is e = by_none ReadHold after e is
  has_cause WriteHold after (Some Owes) is e = by_none WriteHold after e is
  has_cause ReadFault after (Some Awaits) is e = by_error ReadFault (io_error kinds.Link place) after e (λ x same. (is, sym same))
  has_cause WriteFault after (Some Owes) is e = by_error WriteFault (io_error kinds.Link place) after e (λ x same. (is, sym same))
  has_cause LinkEnd after (Some Awaits) is e = by_error LinkEnd (unexpected_eof place) after e (λ x same. (is, sym same))
  has_cause stop after s is e = absurd cc

  is_caused : (stop : LinkStop) (after : After) → IsBecause login k stop n after → comes_to stop (stop_kept login k) n place ≡ Some (told_of after)
  is_caused NoStop Pending w = ap (λ s. comes_to NoStop s n place) w.0 ∙ is_full n w.1
  is_caused ReadHold Pending w = ap (λ s. comes_to ReadHold s n place) w
  is_caused WriteHold Pending w = ap (λ s. comes_to WriteHold s n place) w
  is_caused _ Pending w = absurd w
  is_caused stop (Answered x) w = ap (λ s. comes_to s (stop_kept login k) n place) w.0 ∙ ap (λ s. comes_to NoStop s n place) w.1
  is_caused NoStop (Failed e) w = ap (λ s. comes_to NoStop s n place) w
  is_caused ReadHold (Failed e) w = absurd w
  is_caused WriteHold (Failed e) w = absurd w
  is_caused stop (Failed e) w = ap (λ s. comes_to stop s n place) w.0 ∙ ap (λ x. Some (Some (ToldError x))) (sym w.1)

pub each_has_cause : EachHasCause
each_has_cause login k stop n after = (has_cause login k n stop after (stop_kept login k) refl, is_caused login k n stop after)

-- what the reading returns
read_told : AreTold IsReadTold
read_told = record {
  ready = tt;
  row = λ r. tt;
  end = tt;
  none = tt;
  statement = λ s. tt;
  flag = λ b. tt;
  server = λ e. tt;
  data_at = λ n. tt;
  misfit = λ s p n. unfit_is IsReadError (λ m. tt) (λ e w. inl (chain_own e w)) s p n;
  codec = λ f. tt;
  mixed = inl tt;
  values = λ s p e is. inl (values_own s p e (ap refused_by is));
  begins = λ o v s e is. inl (begin_own o v s e is);
}

pub each_step_returns : EachStepReturns
each_step_returns login call parts p q t e = subst (StopsSo IsReadTold p) e (step_stops IsReadTold read_told login p call parts)

closed_told : (b : Bool) → IsReadTold (cond b ToldReady (ToldError connection_closed))
closed_told true = tt
closed_told false = inr refl

halt_told : (login : Login) (closed : Bool) (s : Span) (p : Place) → TellsSo IsReadTold (halt_of login closed s p).stop
halt_told login true s p = closed_told (is_unrefused (kind_of s.call))
halt_told login false s p =
    let q : Place = with_bytes s.sent s.taken p in
    run_tells IsReadTold read_told login (enough login s.call q) s.call q (Goes (parts_of login s.call) q) tt

calls_told : (login : Login) (ss : List Span) (closed : Bool) (p : Place) (stop : Stop) → newest_stop (read_calls login ss closed p).calls ≡ Some stop → TellsSo IsReadTold stop
unfolding read_calls
calls_told login [] closed p stop e = absurd cc
calls_told login (s ∷ []) closed p stop e = let same : (halt_of login closed s p).stop ≡ stop = cc in subst (TellsSo IsReadTold) same (halt_told login closed s p)
calls_told login (s ∷ t ∷ ss) closed p stop e = calls_told login (t ∷ ss) (closed || is_closing s.call s.ending) (halt_of login closed s p).place stop e

pub each_call_returns : EachCallReturns
unfolding reading
each_call_returns login k t e = calls_told login (spans (tape_kept k)) false (first_place login) (Returns t) e

answer_for : (t : Told) → IsReadTold t → (after : After) × (told_of after ≡ Some t)
answer_for ToldReady w = (Answered answers.Ready, refl)
answer_for (ToldRow row) w = (Answered (answers.Row row), refl)
answer_for ToldEnd w = (Answered answers.SetEnd, refl)
answer_for ToldNone w = (Answered answers.NoSet, refl)
answer_for (ToldStatement statement) w = (Answered (answers.Stmt statement), refl)
answer_for (ToldFlag flag) w = (Answered (answers.Flag flag), refl)
answer_for (ToldError e) w = (Failed e, refl)
answer_for (ToldPassed e) w = absurd w
answer_for (Dropped closing) w = absurd w

pub each_is_answer : EachIsAnswer
each_is_answer login k t e = answer_for t (each_call_returns login k t e)

kind_is_own : (kind : IoKind) → IsReadKind kind → IsPollKind kind
kind_is_own kinds.Dial w = w
kind_is_own _ w = tt

io_is_own : (e : IoError) → IsReadIo e → IsPollIo e
io_is_own (ios.Io fault) w = kind_is_own fault.kind w
io_is_own (ios.Codec fault) w = tt

read_is_own : (e : Error) → IsReadError e → IsPollError e
read_is_own (errors.Io e) w = io_is_own e w
read_is_own _ w = w

failed_is_own : (login : Login) (k : Kept) (stop : LinkStop) (e : Error) → IsFailed login k stop e → IsPollError e
failed_is_own login k NoStop e w = read_is_own e (each_call_returns login k (ToldError e) w)
failed_is_own login k ReadHold e w = absurd w
failed_is_own login k WriteHold e w = absurd w
failed_is_own login k _ e w = subst IsPollError (sym w.1) tt

-- why a poll returned what it did
pub poll_cause : (login : Login) (a : Asked) (k : Kept) (x y : Looks) (u : Met) (after : After) (end : Kept) (w : IsPolled login a k x u after end y)
    → IsBecause login (moved_by k w.moves) w.stop u.taken after
poll_cause login a k x y u after end w = has_cause login (moved_by k w.moves) u.taken w.stop after (stop_kept login (moved_by k w.moves)) refl w.comes

pub each_error_is_own : EachErrorIsOwn
each_error_is_own login a k x y u e end w = failed_is_own login (moved_by k w.moves) w.stop e (poll_cause login a k x y u (Failed e) end w)
