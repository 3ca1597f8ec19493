-- How calls end, by what the program knows.
use Rattle.std.proofs.Common.{◌≡◌, inl, inr, ℕ, List, [], ◌∷◌, drop, length, take, arith, Option, Some, None, Bool, true, false, not, ◌&&◌, ◌||◌, ◌==◌, nat_eq, refl, sym, ap, ◌∙◌, subst}
use Rattle.std.specs.Bool.{Decides}
use Rattle.std.specs.Option.{option_map}
use Rattle.std.proofs.lemmas.Bool.Decides.{nat_tests}
use Rattle.std.specs.Cmp.Lexicographic.{pointwise}
use Rattle.my_grammar.specs.declared.login.Login.{Login}
use Rattle.my_grammar.specs.declared.spot.Spot.{Spot}
use Rattle.my_grammar.specs.Talk.{context_of}
use Rattle.my_reading.specs.declared.answer.Answer.{Answer}
use Rattle.my_reading.specs.declared.answer.Answer.TheVariants as answers
use Rattle.my_reading.specs.declared.call.Call.{Call}
use Rattle.my_reading.specs.declared.call.CallKind.{CallKind}
use Rattle.my_reading.specs.declared.call.CallKind.TheVariants as kinds
use Rattle.my_reading.specs.declared.error.Error.{Error}
use Rattle.my_reading.specs.declared.error.IoKind.TheVariants.{Link}
use Rattle.my_reading.specs.Calls.{kind_of}
use Rattle.my_reading.specs.Course.{Awaits}
use Rattle.my_reading.specs.Endings.{Ends, IsCut, IsOpen, IsCancelled, IsLinkFailure, IsLinkEnd, closes_cancelled, is_quiet, is_empty}
use Rattle.my_reading.specs.Errors.{io_error, unexpected_eof}
use Rattle.my_reading.specs.Place.{Place, begins_with, client_side, exchanges, facts_at, with_bytes}
use Rattle.my_reading.specs.Reading.{ReadCall, halt_of, is_closing}
use Rattle.my_reading.specs.Tape.{Span}
use Rattle.my_reading.specs.Told.{ToldError, Dropped, told}
use Rattle.my_judge.specs.declared.stand.Stand.{Stand}
use Rattle.my_machine.specs.declared.step.Ending.{Ending as Returned}
use Rattle.my_machine.specs.declared.step.Ending.TheVariants as returned
use Rattle.my_machine.specs.declared.step.Stop.{Stop as CodeStop}
use Rattle.my_machine.specs.declared.step.Stop.TheVariants as stops
use Rattle.my_machine.specs.declared.stand.Stand.{Stand as Machine}
use Rattle.my_machine.specs.Stops.{stop_of}
use Rattle.my_judge.specs.declared.tape.Ending.{Ending}
use Rattle.my_judge.specs.declared.tape.Ending.TheVariants.{Answered, Failed, Cancelled}
use Rattle.my_judge.specs.declared.tape.TapeCall.{TapeCall}
use Rattle.my_judge.specs.Courses.{HaltIs}
use Rattle.my_judge.specs.Ended.{EndsSo, IsCutSo, ending_of, settled_at}
use Rattle.my_machine.specs.Closes.{closes_at}
use Rattle.my_judge.specs.declared.reader.Reader.{Reader}
use Rattle.my_judge.specs.Reads.{IsRead, IsTaken, ReadsCall, halt_at, may_stand, read_of, with_span}
use Rattle.my_judge.specs.Settled.{settled, settled_told, span_with}
use Rattle.my_judge.specs.Stands.{IsAt, with_bytes as with_more}
use Rattle.my_judge.specs.Tapes.{call_of, returned_of, told_of}
use Rattle.my_judge.proofs.Settling.{at_bytes, sent_right}

same_either_way : (x y : ℕ) → nat_eq x y ≡ y == x
same_either_way x y = grind (arith, nat_tests)

pub begins_so : (said sent : List ℕ) → pointwise nat_eq sent (take (length sent) said) ≡ begins_with said sent
begins_so said [] = refl
begins_so [] (x ∷ sent) = refl
begins_so (y ∷ said) (x ∷ sent) = ap (λ b. nat_eq x y && b) (begins_so said sent) ∙ ap (λ b. b && begins_with said sent) (same_either_way x y)

-- what was told is told by one ending alone
same_answer : (a b : Answer) → told a ≡ told b → a ≡ b
same_answer answers.Ready answers.Ready e = refl
same_answer answers.SetEnd answers.SetEnd e = refl
same_answer answers.NoSet answers.NoSet e = refl
same_answer (answers.Row r) (answers.Row q) e = cc
same_answer (answers.Stmt t) (answers.Stmt u) e = cc
same_answer (answers.Flag b) (answers.Flag d) e = cc
same_answer a b e = cc

no_error : (a : Answer) (e : Error) → told a ≡ ToldError e → ⊥
no_error answers.Ready e h = cc
no_error _ e h = cc

no_drop : (a : Answer) (b : Bool) → told a ≡ Dropped b → ⊥
no_drop answers.Ready b h = cc
no_drop _ b h = cc

same_ending : (x y : Ending) → told_of x ≡ told_of y → x ≡ y
same_ending (Answered a) (Answered b) e = ap Answered (same_answer a b e)
same_ending (Answered a) (Failed f) e = absurd (no_error a f e)
same_ending (Answered a) (Cancelled b) e = absurd (no_drop a b e)
same_ending (Failed f) (Answered a) e = absurd (no_error a f (sym e))
same_ending (Failed f) (Failed g) e = cc
same_ending (Failed f) (Cancelled b) e = cc
same_ending (Cancelled b) (Answered a) e = absurd (no_drop a b (sym e))
same_ending (Cancelled b) (Failed f) e = cc
same_ending (Cancelled b) (Cancelled d) e = cc

some_ending : (ending : Option Ending) (y : Ending) → option_map told_of ending ≡ Some (told_of y) → ending ≡ Some y
some_ending None y e = cc
some_ending (Some x) y e = let same : told_of x ≡ told_of y = cc in ap Some (same_ending x y same)

no_ending : (ending : Option Ending) → option_map told_of ending ≡ None → ending ≡ None
no_ending None e = refl
no_ending (Some x) e = cc

closes_so : (kind : CallKind) (p : Place) (spot : Spot) → spot ≡ (context_of p.talk).spot → closes_at kind spot ≡ closes_cancelled kind p
closes_so kinds.NextRow p spot e = ap (closes_at kinds.NextRow) e
closes_so kinds.DropResult p spot e = ap (closes_at kinds.DropResult) e
closes_so kinds.TakeSet p spot e = ap (closes_at kinds.TakeSet) e
closes_so kinds.SkipTaken p spot e = ap (closes_at kinds.SkipTaken) e
closes_so _ p spot e = refl

told_so : (x : Returned) → told_of (ending_of x) ≡ returned_of x
told_so (returned.Answered a) = refl
told_so (returned.Failed e) = refl

module _ (login : Login) (c : ReadCall) (s : Stand) (ending : Option Ending) (at : IsAt login c.halt.place s) (told_is : c.span.ending ≡ option_map told_of ending) where
  abbrev kind : CallKind
  kind = kind_of c.span.call

  place_is : s.machine.facts.place ≡ (facts_at login c.halt.place).place
  place_is = ap (λ (x : Machine). x.facts.place) at.machine_is

  closing_is : closes_at kind s.machine.context.spot ≡ closes_cancelled kind c.halt.place
  closing_is = closes_so kind c.halt.place s.machine.context.spot (ap (λ (x : Machine). x.context.spot) at.machine_is)

  cut_so : (awaits : Bool) → (awaits ≡ true → c.halt.stop ≡ Awaits) → (o : Option Ending) → c.span.ending ≡ option_map told_of o → IsCutSo kind s awaits o → IsCut login c
  cut_so awaits waits None e h = IsOpen e
  cut_so awaits waits (Some (Answered a)) e h = absurd h
  cut_so awaits waits (Some (Cancelled closing)) e h = IsCancelled (e ∙ ap (λ b. Some (Dropped b)) (h ∙ closing_is))
  cut_so awaits waits (Some (Failed f)) e (inl h) = IsLinkFailure (e ∙ ap (λ x. Some (ToldError x)) (h ∙ ap (io_error Link) place_is))
  cut_so awaits waits (Some (Failed f)) e (inr h) = IsLinkEnd (waits h.0) (e ∙ ap (λ x. Some (ToldError x)) (h.1 ∙ ap unexpected_eof place_is))

  cut_to : (awaits : Bool) → (c.halt.stop ≡ Awaits → awaits ≡ true) → IsCut login c → IsCutSo kind s awaits ending
  cut_to awaits waits (IsOpen e) = subst (λ o. IsCutSo kind s awaits o) (sym (no_ending ending (sym told_is ∙ e))) tt
  cut_to awaits waits (IsCancelled e) = subst (λ o. IsCutSo kind s awaits o) (sym (some_ending ending (Cancelled (closes_cancelled kind c.halt.place)) (sym told_is ∙ e))) (sym closing_is)
  cut_to awaits waits (IsLinkFailure e) = subst (λ o. IsCutSo kind s awaits o) (sym (some_ending ending (Failed (io_error Link (facts_at login c.halt.place).place)) (sym told_is ∙ e))) (inl (ap (io_error Link) (sym place_is)))
  cut_to awaits waits (IsLinkEnd w e) = subst (λ o. IsCutSo kind s awaits o) (sym (some_ending ending (Failed (unexpected_eof (facts_at login c.halt.place).place)) (sym told_is ∙ e))) (inr (waits w, ap unexpected_eof (sym place_is)))

  pub ends_from : (stop : CodeStop) → c.halt.stop ≡ stop_of stop → EndsSo kind s stop ending → Ends login c (stop_of stop)
  ends_from stops.Owes is h = cut_so false (λ no. cc) ending told_is h
  ends_from stops.Awaits is h = cut_so true (λ _. is) ending told_is h
  ends_from (stops.Returns x) is h = told_is ∙ ap (option_map told_of) h ∙ ap Some (told_so x)

  pub ends_to : (stop : CodeStop) → c.halt.stop ≡ stop_of stop → Ends login c (stop_of stop) → EndsSo kind s stop ending
  ends_to stops.Owes is h = cut_to false (λ no. cc) h
  ends_to stops.Awaits is h = cut_to true (λ _. refl) h
  ends_to (stops.Returns x) is h = some_ending ending (ending_of x) (sym told_is ∙ h ∙ ap Some (sym (told_so x)))

both : (a b d : Bool) → a && b && d ≡ true → (a ≡ true) × (b ≡ true) × (d ≡ true)
both true true true e = (refl, refl, refl)
both true true false e = cc
both true false d e = cc
both false b d e = cc

all_three : (a b d : Bool) → a ≡ true → b ≡ true → d ≡ true → a && b && d ≡ true
all_three a b d e f g = cc

halts_so : (login : Login) (closed : Bool) (span : Span) (p : Place) → halt_of login closed span p ≡ halt_at login closed span.call (with_bytes span.sent span.taken p)
halts_so login true span p = refl
halts_so login false span p = refl

-- a call that was read
reads_so : (login : Login) (c : ReadCall) (ending : Option Ending) (new : Stand) (stop : CodeStop) (ends said closing : Bool)
    → HaltIs login c.halt stop new → c.span.ending ≡ option_map told_of ending → Decides ends (EndsSo (kind_of c.span.call) new stop ending) → said ≡ new.right && begins_with new.machine.owed (drop new.settled new.sent)
    → closing ≡ is_closing c.span.call c.span.ending → ReadsCall login c (ends && said && is_quiet c) (record { stand = new; closed = c.closed || closing })
reads_so login c ending new stop ends said closing h told_is ended begun closes =
    let begins : said ≡ begins_with (client_side (exchanges c.halt.place)) c.halt.place.sent = begun ∙ sent_right login c.halt.place new h.at in
    record {
      right_is = (
        λ e. let w = both ends said (is_quiet c) e in record {
          ends = subst (Ends login c) (sym h.stop_is) (ends_from login c new ending h.at told_is stop h.stop_is (ended.0 w.0));
          sent = sym begins ∙ w.1;
          quiet = w.2;
        },
        λ w. all_three ends said (is_quiet c) (ended.1 (ends_to login c new ending h.at told_is stop h.stop_is (subst (Ends login c) h.stop_is w.ends))) (begins ∙ w.sent) w.quiet,
      );
      at = h.at;
      closed_is = ap (λ b. c.closed || b) closes;
    }

-- a call that was read over its bytes
pub reads_call : (login : Login) (call : TapeCall) (sent taken : List ℕ) (p : Place) (closed closing : Bool) (old mid new : Stand) (stop : CodeStop) (ends said : Bool)
    → IsAt login p old → mid ≡ with_more sent taken old → ((q : Place) → IsAt login q mid → HaltIs login (halt_at login closed call.call q) stop new)
    → Decides ends (EndsSo (kind_of call.call) new stop call.ending) → said ≡ new.right && begins_with new.machine.owed (drop new.settled new.sent)
    → closing ≡ is_closing call.call (option_map told_of call.ending)
    → ReadsCall login (read_of login closed (with_span (call_of call) sent taken) p) (ends && said && (not closed || (is_empty sent && is_empty taken))) (record { stand = new; closed = closed || closing })
reads_call login call sent taken p closed closing old mid new stop ends said at added stopped ended begun closes =
    let span = with_span (call_of call) sent taken in
    let here : IsAt login (with_bytes sent taken p) mid = subst (λ (x : Stand). IsAt login (with_bytes sent taken p) x) (sym added) (at_bytes login p old sent taken at) in
    let h : HaltIs login (halt_of login closed span p) stop new = subst (λ x. HaltIs login x stop new) (sym (halts_so login closed span p)) (stopped (with_bytes sent taken p) here) in
    reads_so login (read_of login closed span p) call.ending new stop ends said closing h refl ended begun closes

-- the call may stand there
pub takes_call : (login : Login) (index : ℕ) (span : Span) (old : Reader) (right : Bool) (new : Reader) → may_stand index (kind_of span.call) ≡ true → IsRead login span old right new → IsTaken login index span old right new
takes_call login index span old right new may read = λ p at.
    let r = read p at in
    record {
      right_is = (λ e. (may, r.right_is.0 e), λ w. r.right_is.1 w.1);
      after = λ _. (r.at, r.closed_is);
    }

-- a cancelled call closes the connection or not
settled_so : (kind : CallKind) (p : Place) (spot : Spot) (ending : Option Ending) → spot ≡ (context_of p.talk).spot
    → settled_told kind p (option_map told_of ending) ≡ option_map told_of (settled_at kind spot ending)
settled_so kind p spot (Some (Cancelled b)) e = ap (λ x. Some (Dropped x)) (sym (closes_so kind p spot e))
settled_so kind p spot (Some (Answered answers.Ready)) e = refl
settled_so kind p spot (Some (Answered (answers.Row r))) e = refl
settled_so kind p spot (Some (Answered answers.SetEnd)) e = refl
settled_so kind p spot (Some (Answered answers.NoSet)) e = refl
settled_so kind p spot (Some (Answered (answers.Stmt t))) e = refl
settled_so kind p spot (Some (Answered (answers.Flag b))) e = refl
settled_so kind p spot _ e = refl

pub reads_settled : (login : Login) (call : Call) (ending settled_ending : Option Ending) (sent taken : List ℕ) (p : Place) (closed closing : Bool) (old mid new : Stand) (stop : CodeStop) (ends said : Bool)
    → IsAt login p old → mid ≡ with_more sent taken old → ((q : Place) → IsAt login q mid → HaltIs login (halt_at login closed call q) stop new)
    → settled_ending ≡ settled_at (kind_of call) new.machine.context.spot ending
    → Decides ends (EndsSo (kind_of call) new stop settled_ending) → said ≡ new.right && begins_with new.machine.owed (drop new.settled new.sent)
    → closing ≡ is_closing call (option_map told_of settled_ending)
    → ReadsCall login (read_of login closed (settled login closed (span_with call ending sent taken) p) p) (ends && said && (not closed || (is_empty sent && is_empty taken))) (record { stand = new; closed = closed || closing })
reads_settled login call ending settled_ending sent taken p closed closing old mid new stop ends said at added stopped is ended begun closes =
    let span = span_with call ending sent taken in
    let here : IsAt login (with_bytes sent taken p) mid = subst (λ (x : Stand). IsAt login (with_bytes sent taken p) x) (sym added) (at_bytes login p old sent taken at) in
    let h : HaltIs login (halt_of login closed span p) stop new = subst (λ x. HaltIs login x stop new) (sym (halts_so login closed span p)) (stopped (with_bytes sent taken p) here) in
    let told : settled_told (kind_of call) (halt_of login closed span p).place (option_map told_of ending) ≡ option_map told_of settled_ending
    = settled_so (kind_of call) (halt_of login closed span p).place new.machine.context.spot ending (ap (λ (x : Machine). x.context.spot) h.at.machine_is) ∙ ap (option_map told_of) (sym is) in
    reads_so login (read_of login closed (settled login closed span p) p) settled_ending new stop ends said closing (halts_settled h) told ended begun (closes ∙ ap (is_closing call) (sym told))
  where
    halts_settled : HaltIs login (halt_of login closed (span_with call ending sent taken) p) stop new → HaltIs login (halt_of login closed (settled login closed (span_with call ending sent taken) p) p) stop new
    halts_settled h = subst (λ x. HaltIs login x stop new) (halts_so login closed (span_with call ending sent taken) p ∙ sym (halts_so login closed (settled login closed (span_with call ending sent taken) p) p)) h
