-- What a transcript shows of one connection is what the connection kept.
use Rattle.std.proofs.Common.{◌≡◌, ℕ, ◌+◌, List, [], ◌∷◌, ◌++◌, length, map, Bool, true, false, not, ◌&&◌, ◌||◌, Option, Some, None, refl, sym, ap, ◌∙◌, subst, arith}
use Rattle.std.proofs.lemmas.List.{length-append, length-map, map-append, append_assoc, append-nil}
use Rattle.my_statements.specs.Prepared.{StatementView}
use Rattle.my_grammar.specs.declared.login.Login.{Login}
use Rattle.my_grammar.specs.Talk.{context_of}
use Rattle.my_reading.specs.declared.answer.Answer.{Answer}
use Rattle.my_reading.specs.declared.answer.Answer.TheVariants as answers
use Rattle.my_reading.specs.declared.call.Call.{Call}
use Rattle.my_reading.specs.declared.call.Call.TheVariants as calls
use Rattle.my_reading.specs.Calls.{kind_of}
use Rattle.my_reading.specs.declared.call.CallKind.{CallKind}
use Rattle.my_reading.specs.declared.call.CallKind.TheVariants as kinds
use Rattle.my_reading.specs.declared.call.CallKind.TheVariants.{Connect}
use Rattle.my_reading.specs.declared.error.IoKind.TheVariants.{Dial}
use Rattle.my_reading.specs.Endings.{IsTape}
use Rattle.my_reading.specs.Place.{Place, facts_at, is_rows, is_taken}
use Rattle.my_reply.specs.declared.ok.OkPacket.{OkPacket}
use Rattle.my_reading.specs.Errors.{connection_closed, io_error}
use Rattle.my_reading.specs.Reading.{reading}
use Rattle.my_reading.specs.Tape.{Span, TapeCall, Tape as ReadTape}
use Rattle.my_reading.specs.Told.{Told, ToldReady, ToldRow, ToldEnd, ToldNone, ToldStatement, ToldFlag, ToldError, ToldPassed, Dropped, told}
use Rattle.my_session.specs.Fits.{may_be}
use Rattle.my_client.specs.Made.{has_closed}
use Rattle.my_session.specs.Sessions.{is_refused}
use Rattle.my_handshake.specs.declared.version.ServerVersion.{ServerVersion}
use Rattle.my_link.specs.declared.dialer.DialItem.{DialItem}
use Rattle.my_link.specs.declared.link.ReadItem.{ReadItem}
use Rattle.my_link.specs.declared.link.WriteItem.{WriteItem}
use Rattle.my_link.specs.Looks.{Looks}
use Rattle.my_script.specs.declared.action.Work.TheVariants as works
use Rattle.my_script.specs.Actions.{found_work}
use Rattle.my_script.specs.declared.aim.Aim.{Aim}
use Rattle.my_script.specs.declared.aim.Aim.TheVariants as aims
use Rattle.my_script.specs.declared.step.Step.{Step}
use Rattle.my_script.specs.declared.step.Step.TheVariants as steps
use Rattle.my_script.specs.declared.transcript.Outcome.{Outcome}
use Rattle.my_script.specs.declared.transcript.Outcome.TheVariants.{Done, Pending, SetEnd, NoSet, Row, Rows, Prepared, Flag, Fields, Connected, Failed, NoSuchHandle}
use Rattle.my_script.specs.declared.transcript.StepAnswer.{StepAnswer}
use Rattle.my_script.specs.declared.transcript.Tape.{Tape}
use Rattle.my_script.specs.declared.transcript.Use.{Use}
use Rattle.my_client.specs.declared.poll.After.{After}
use Rattle.my_client.specs.declared.poll.After.TheVariants as after
use Rattle.my_client.specs.declared.tape.DoneCall.{DoneCall}
use Rattle.my_client.specs.declared.tape.Said.{Said}
use Rattle.my_client.specs.declared.tape.Said.TheVariants as says
use Rattle.my_client.specs.Kept.{Asked, Kept, nothing_kept, told_by, made_of, asking, asked_by, ended_by, first_asked, first_kept}
use Rattle.my_client.specs.Reads.{calls_kept, facts_kept, place_kept, tape_kept}
use Rattle.my_link.specs.World.{Plans}
use Rattle.my_steps.specs.Dialing.{Course}
use Rattle.my_steps.specs.Grows.{Begins, BeginsOn, Calls, Connects, ConnectShows, Dials, Holds, Fails, Links, PolledOnce, Reads, ReadsAt, ReadsOn, StepGrows, TellsFields, TellsWith, answer_shown, shown, handles_after, WorkAt}
use Rattle.my_steps.specs.Handle.{Handle, Joined, at_number, put_at}
use Rattle.my_run.specs.Headline.{AnswerView, answer_view, answers_of, Headline}
use Rattle.my_steps.specs.Sums.{quiet}
use Rattle.my_run.specs.Tapes.{TapeView, tape_view, tape_call, open_call, tapes_in}
use Rattle.reading_laws.specs.Bytes.{all_sent, all_taken, calls_from, tape_of}
use Rattle.run_laws.specs.Shown.{step_of, is_stepped, outcome_of, taken_in, Shows}
use Rattle.run_laws.specs.Tapes.{HasTape}
use Rattle.run_laws.proofs.Connecting.{left_of, right_of}
use Rattle.run_laws.proofs.Polls.{Polled, polled_of}
use Rattle.run_laws.proofs.Untaken.{is_take, take_no_more, take_no_set, untaken}
use Rattle.run_laws.proofs.Tapes.{each_tape_is_read, last_has}
use Rattle.run_laws.proofs.Refuting.Chain.{Chain, chain_split, grown_chain}

-- how a call ended, by its step's answer
ending_by : Outcome → Option Told
ending_by Done = Some ToldReady
ending_by Pending = None
ending_by SetEnd = Some ToldEnd
ending_by NoSet = Some ToldNone
ending_by (Row row) = Some (ToldRow row)
ending_by (Rows rows) = None
ending_by (Prepared statement) = Some (ToldStatement statement)
ending_by (Flag flag) = Some (ToldFlag flag)
ending_by (Fields fields) = None
ending_by (Connected number id version) = Some ToldReady
ending_by (Failed e) = Some (ToldError e)
ending_by NoSuchHandle = None

-- the calls of a transcript: each but the last ended, none was cancelled, and none connects
abbrev pub is_told : Option Told → Bool
is_told None = false
is_told (Some (Dropped closing)) = false
is_told (Some (ToldPassed e)) = false
is_told (Some t) = true

abbrev pub is_shown : Option Told → Bool
is_shown None = true
is_shown (Some (Dropped closing)) = false
is_shown (Some (ToldPassed e)) = false
is_shown (Some t) = true

abbrev is_last : List Span → Bool
is_last [] = true
is_last (s ∷ ss) = false

abbrev pub are_plain : List Span → Bool
are_plain [] = true
are_plain (s ∷ ss) = is_stepped (kind_of s.call) && (is_shown s.ending && ((is_last ss || is_told s.ending) && are_plain ss))

ending_back : (e : Option Told) → is_shown e ≡ true → ending_by (outcome_of e) ≡ e
unfolding ending_by
ending_back None s = refl
ending_back (Some ToldReady) s = refl
ending_back (Some (ToldRow row)) s = refl
ending_back (Some ToldEnd) s = refl
ending_back (Some ToldNone) s = refl
ending_back (Some (ToldStatement statement)) s = refl
ending_back (Some (ToldFlag flag)) s = refl
ending_back (Some (ToldError e)) s = refl
ending_back (Some (Dropped closing)) s = cc
ending_back (Some (ToldPassed e)) s = cc

-- a call on a tape
abbrev call_at : Call → ℕ → ℕ → Option Told → TapeCall
call_at call n m ending = record { call = call; sent_from = n; taken_from = m; ending = ending }

open_last : (ds : List DoneCall) (a : Asked) → calls_kept ds (Some a) ≡ calls_kept ds None ++ call_at a.call a.sent_from a.taken_from None ∷ []
open_last [] a = refl
open_last (d ∷ ds) a = ap (λ cs. call_at d.call d.sent_from d.taken_from (Some (told_by d.said)) ∷ cs) (open_last ds a)

done_last : (ds : List DoneCall) (d : DoneCall) → calls_kept (ds ++ d ∷ []) None ≡ calls_kept ds None ++ call_at d.call d.sent_from d.taken_from (Some (told_by d.said)) ∷ []
done_last [] d = refl
done_last (x ∷ ds) d = ap (λ cs. call_at x.call x.sent_from x.taken_from (Some (told_by x.said)) ∷ cs) (done_last ds d)

-- one step's call on a connection at rest: `n` bytes were received
record Went (k : Kept) (call : Call) (o : Outcome) (n : ℕ) (t : Handle) : Type 0 where
  kept : Kept
  link : Looks
  left : t ≡ Joined true kept link
  ending : Option Told
  ending_is : ending ≡ ending_by o
  calls : calls_kept kept.calls kept.pending ≡ calls_kept k.calls None ++ call_at call (length k.sent) (length k.taken) ending ∷ []
  count : length kept.taken ≡ length k.taken + n
  rests : is_told ending ≡ true → kept.pending ≡ None

-- the poll ended the call
ended_went : (k f : Kept) (a : Asked) (said : Said) (o : Outcome) (n : ℕ) (y : Looks) (t : Handle) (call : Call) → a.call ≡ call → a.sent_from ≡ length k.sent → a.taken_from ≡ length k.taken → f.calls ≡ k.calls → length f.taken ≡ length k.taken + n
    → t ≡ Joined true (ended_by f a said) y → Some (told_by said) ≡ ending_by o → Went k call o n t
ended_went k f a said o n y t call c s m same count left is = record {
  kept = ended_by f a said;
  link = y;
  left = left;
  ending = Some (told_by said);
  ending_is = is;
  calls =
      ap (λ ds. calls_kept (ds ++ record { call = a.call; sent_from = a.sent_from; taken_from = a.taken_from; said = said } ∷ []) None) same
      ∙ done_last k.calls (record { call = a.call; sent_from = a.sent_from; taken_from = a.taken_from; said = said })
      ∙ ap (λ x. calls_kept k.calls None ++ call_at x a.sent_from a.taken_from (Some (told_by said)) ∷ []) c
      ∙ ap (λ x. calls_kept k.calls None ++ call_at call x a.taken_from (Some (told_by said)) ∷ []) s
      ∙ ap (λ x. calls_kept k.calls None ++ call_at call (length k.sent) x (Some (told_by said)) ∷ []) m;
  count = count;
  rests = λ _. refl;
}

shown_by : (answer : Answer) → Some (told answer) ≡ ending_by (answer_shown answer)
unfolding ending_by
shown_by answers.Ready = refl
shown_by (answers.Row row) = refl
shown_by answers.SetEnd = refl
shown_by answers.NoSet = refl
shown_by (answers.Stmt statement) = refl
shown_by (answers.Flag flag) = refl

once_went : (login : Login) (k : Kept) (call : Call) (x : Looks) (o : Outcome) (us : List Use) (t : Handle) → PolledOnce login 0 (asked_by k call) (asking k call None) x o us t → Went k call o (taken_in us) t
unfolding ending_by
once_went login k call x o us t w =
    let v : Polled login (asked_by k call) (asking k call None) w.used.met w.after w.end = polled_of refl w.polled in
    let count : length v.following.taken ≡ length k.taken + taken_in us =
    let e = ap length v.taken_is in
    let l = length-append k.taken v.taken in
    let u : taken_in us ≡ w.used.met.taken + 0 = ap taken_in w.uses in
    omega (arith, e, l, u, v.count) in
    by_after w.after v count w.outcome w.left
  where
    by_after : (p : After) (v : Polled login (asked_by k call) (asking k call None) w.used.met p w.end) → length v.following.taken ≡ length k.taken + taken_in us → o ≡ shown p → t ≡ Joined true w.end w.link → Went k call o (taken_in us) t
    by_after after.Pending v count is left = record {
      kept = v.following;
      link = w.link;
      left = left ∙ ap (λ (m : Kept). Joined true m w.link) v.ends.0;
      ending = None;
      ending_is = sym (ap ending_by is);
      calls = ap (λ p. calls_kept v.following.calls p) v.pending ∙ ap (λ ds. calls_kept ds (Some (asked_by k call))) v.calls ∙ open_last k.calls (asked_by k call);
      count = count;
      rests = λ no. cc;
    }
    by_after (after.Answered answer) v count is left =
        ended_went k v.following (asked_by k call) (says.Answered answer) o (taken_in us) w.link t call refl refl refl v.calls count
        (left ∙ ap (λ (m : Kept). Joined true m w.link) v.ends.0) (shown_by answer ∙ sym (ap ending_by is))
    by_after (after.Failed x) v count is left =
        ended_went k v.following (asked_by k call) (says.Failed x) o (taken_in us) w.link t call refl refl refl v.calls count
        (left ∙ ap (λ (m : Kept). Joined true m w.link) v.ends.0) (sym (ap ending_by is))

none_more : (n m : ℕ) → m ≡ 0 → n ≡ n + m
none_more n m e = omega (arith, e)

begins_went : (b : Bool) (login : Login) (k : Kept) (call : Call) (x : Looks) (o : Outcome) (us : List Use) (t : Handle) → Begins b login 0 call k x o us t → Went k call o (taken_in us) t
unfolding ending_by
begins_went true login k call x o us t w =
    ended_went k (asking k call None) (asked_by k call) (says.Failed connection_closed) o (taken_in us) x t call refl refl refl refl (none_more (length k.taken) (taken_in us) (ap taken_in w.uses)) w.left (sym (ap ending_by w.outcome))
begins_went false login k call x o us t w = once_went login k call x o us t w

on_went : (q : Option Asked) (login : Login) (k : Kept) (call : Call) (x : Looks) (o : Outcome) (us : List Use) (t : Handle) → q ≡ None → BeginsOn q login 0 call k x o us t → Went k call o (taken_in us) t
on_went None login k call x o us t e w = begins_went (is_refused (has_closed (made_of k.calls)) (kind_of call)) login k call x o us t w
on_went (Some a) login k call x o us t e w = cc

-- none of its calls took a set for a stream
abbrev Free : Kept → Type 0
Free k = take_no_set (map (λ c. c.call) (calls_kept k.calls k.pending)) ≡ true

stepped_takes_none : (kind : CallKind) → is_stepped kind ≡ true → is_take kind ≡ false
stepped_takes_none kinds.TakeSet e = cc
stepped_takes_none kind e = refl

kept_free : (k : Kept) (call : Call) (o : Outcome) (n : ℕ) (t : Handle) (w : Went k call o n t) → k.pending ≡ None → is_take (kind_of call) ≡ false → Free k → Free w.kept
kept_free k call o n t w rest kind free =
    let c : TapeCall = call_at call (length k.sent) (length k.taken) w.ending in
    let more : map (λ (c : TapeCall). c.call) (calls_kept w.kept.calls w.kept.pending) ≡ map (λ (c : TapeCall). c.call) (calls_kept k.calls None) ++ call ∷ [] =
    ap (map (λ (c : TapeCall). c.call)) w.calls ∙ map-append (λ (c : TapeCall). c.call) (calls_kept k.calls None) (c ∷ []) in
    let before : take_no_set (map (λ (c : TapeCall). c.call) (calls_kept k.calls None)) ≡ true = subst (λ p. take_no_set (map (λ (c : TapeCall). c.call) (calls_kept k.calls p)) ≡ true) rest free in
    ap take_no_set more ∙ take_no_more (map (λ (c : TapeCall). c.call) (calls_kept k.calls None)) call before kind

-- the calls of these spans, but for where their sent bytes begin
abbrev AreOf : ℕ → List Span → List TapeCall → Type 0
AreOf m [] [] = Unit {0}
AreOf m [] (c ∷ cs) = ⊥
AreOf m (s ∷ ss) [] = ⊥
AreOf m (s ∷ ss) (c ∷ cs) = (c.call ≡ s.call) × (c.taken_from ≡ m) × (c.ending ≡ s.ending) × AreOf (m + length s.taken) ss cs

-- the steps of these spans lead here
record Led (k : Kept) (ss : List Span) (ts : List Handle) : Type 0 where
  kept : Kept
  link : Looks
  left : ts ≡ Joined true kept link ∷ []
  more : List TapeCall
  calls : calls_kept kept.calls kept.pending ≡ calls_kept k.calls k.pending ++ more
  are : AreOf (length k.taken) ss more

or_right : (a b : Bool) → a ≡ false → a || b ≡ true → b ≡ true
or_right true b f e = cc
or_right false b f e = e

-- a call and those after it
joined : (k : Kept) (s : Span) (ss : List Span) (ts : List Handle) (o : Outcome) (n : ℕ) (h : Handle) (w : Went k s.call o n h) → k.pending ≡ None → w.ending ≡ s.ending → n ≡ length s.taken → Led w.kept ss ts → Led k (s ∷ ss) ts
joined k s ss ts o n h w rest ending taken r =
    let c : TapeCall = call_at s.call (length k.sent) (length k.taken) w.ending in
    let before : calls_kept w.kept.calls w.kept.pending ≡ calls_kept k.calls k.pending ++ c ∷ [] = w.calls ∙ ap (λ p. calls_kept k.calls p ++ c ∷ []) (sym rest) in
    record {
      kept = r.kept;
      link = r.link;
      left = r.left;
      more = c ∷ r.more;
      calls = r.calls ∙ ap (λ cs. cs ++ r.more) before ∙ append_assoc (calls_kept k.calls k.pending) (c ∷ []) r.more;
      are = (refl, refl, ending, subst (λ m. AreOf m ss r.more) (w.count ∙ ap (λ x. length k.taken + x) taken) r.are);
    }

head_same : {A : Type 0} (x y : A) (xs ys : List A) → x ∷ xs ≡ y ∷ ys → x ≡ y
head_same x y xs ys e = cc

tail_same : {A : Type 0} (x y : A) (xs ys : List A) → x ∷ xs ≡ y ∷ ys → xs ≡ ys
tail_same x y xs ys e = cc

not_refused : (e : Option Told) → is_shown e ≡ true → outcome_of e ≡ NoSuchHandle → ⊥
not_refused None s same = cc
not_refused (Some ToldReady) s same = cc
not_refused (Some (ToldRow row)) s same = cc
not_refused (Some ToldEnd) s same = cc
not_refused (Some ToldNone) s same = cc
not_refused (Some (ToldStatement statement)) s same = cc
not_refused (Some (ToldFlag flag)) s same = cc
not_refused (Some (ToldError e)) s same = cc
not_refused (Some (Dropped closing)) s same = cc
not_refused (Some (ToldPassed e)) s same = cc

module _ (login : Login) (plans : Plans) where
  at_went : (call : Call) (k : Kept) (x : Looks) (hs : List Handle) (o : Outcome) (us : List Use) (ms : List Handle) → hs ≡ Joined true k x ∷ [] → k.pending ≡ None → (made : Handle) → Calls login 0 call (at_number hs 0) o us made → ms ≡ put_at 0 made hs
      → (h : Handle) × (ms ≡ h ∷ []) × Went k call o (taken_in us) h
  at_went call k x hs o us ms is rest made does others = (
    made,
    others ∙ ap (put_at 0 made) is,
    on_went k.pending login k call x o us made rest (subst (λ (xs : List Handle). Calls login 0 call (at_number xs 0) o us made) is does),
  )

  -- where a step finds what it needs
  found_went : (found : Bool) (call : Call) (k : Kept) (x : Looks) (hs : List Handle) (o : Outcome) (us : List Use) (ms : List Handle) → hs ≡ Joined true k x ∷ [] → k.pending ≡ None → (made : Handle) → WorkAt login plans 0 (found_work found (works.Begin call)) (at_number hs 0) o us made → ms ≡ put_at 0 made hs → (o ≡ NoSuchHandle → ⊥)
      → (h : Handle) × (ms ≡ h ∷ []) × Went k call o (taken_in us) h
  found_went true call k x hs o us ms is rest made does others seen = at_went call k x hs o us ms is rest made does others
  found_went false call k x hs o us ms is rest made does others seen = absurd (seen does.outcome)

  -- no stream took the set that is read
  not_taken : (closed : Bool) (p : Place) → p.taken ≡ false → not closed && is_taken p ≡ false
  not_taken true p e = refl
  not_taken false p e = ap (λ b. b && (p.end_left || is_rows (context_of p.talk).spot)) e

  on_read : (q : Option Asked) (k : Kept) (x : Looks) (o : Outcome) (us : List Use) (made : Handle) → q ≡ None → Free k → ReadsOn q aims.Row login 0 k x o us made → Calls login 0 calls.NextRow (Joined true k x) o us made
  on_read None k x o us made e free r = subst (λ b. Reads b aims.Row login 0 (Joined true k x) o us made) (not_taken (has_closed (made_of k.calls)) (place_kept login k) (untaken login (tape_kept k) free)) r
  on_read (Some a) k x o us made e free r = cc

  next_went : (k : Kept) (x : Looks) (hs : List Handle) (o : Outcome) (us : List Use) (ms : List Handle) → hs ≡ Joined true k x ∷ [] → k.pending ≡ None → Free k → (made : Handle) → ReadsAt aims.Row login 0 (at_number hs 0) o us made → ms ≡ put_at 0 made hs
      → (h : Handle) × (ms ≡ h ∷ []) × Went k calls.NextRow o (taken_in us) h
  next_went k x hs o us ms is rest free made does others =
      let read : ReadsAt aims.Row login 0 (Joined true k x) o us made = subst (λ (xs : List Handle). ReadsAt aims.Row login 0 (at_number xs 0) o us made) is does in
      at_went calls.NextRow k x hs o us ms is rest made (subst (λ (xs : List Handle). Calls login 0 calls.NextRow (at_number xs 0) o us made) (sym is) (on_read k.pending k x o us made rest free read)) others

  -- one step at connection 0
  step_went : (call : Call) → is_stepped (kind_of call) ≡ true → (k : Kept) (x : Looks) (hs : List Handle) (o : Outcome) (us : List Use) (ms : List Handle) → hs ≡ Joined true k x ∷ [] → k.pending ≡ None → Free k → (found : Bool) (aim : Aim) (statement : Option StatementView) → (o ≡ NoSuchHandle → ⊥) → StepGrows login plans found aim statement hs (step_of call) o us ms
      → (h : Handle) × (ms ≡ h ∷ []) × Went k call o (taken_in us) h
  step_went (calls.Query text) plain k x hs o us ms is rest free found aim statement seen g = at_went (calls.Query text) k x hs o us ms is rest g.made g.does g.others
  step_went (calls.Prepare text) plain k x hs o us ms is rest free found aim statement seen g = at_went (calls.Prepare text) k x hs o us ms is rest g.made g.does g.others
  step_went calls.NextRow plain k x hs o us ms is rest free found aim statement seen g = next_went k x hs o us ms is rest free g.made g.does g.others
  step_went calls.DropResult plain k x hs o us ms is rest free found aim statement seen g = at_went calls.DropResult k x hs o us ms is rest g.made g.does g.others
  step_went calls.Ping plain k x hs o us ms is rest free found aim statement seen g = at_went calls.Ping k x hs o us ms is rest g.made g.does g.others
  step_went calls.Reset plain k x hs o us ms is rest free found aim statement seen g = at_went calls.Reset k x hs o us ms is rest g.made g.does g.others
  step_went (calls.ChangeUser change) plain k x hs o us ms is rest free found aim statement seen g = at_went (calls.ChangeUser change) k x hs o us ms is rest g.made g.does g.others
  step_went (calls.Begin opts) plain k x hs o us ms is rest free found aim statement seen g = at_went (calls.Begin opts) k x hs o us ms is rest g.made g.does g.others
  step_went calls.Commit plain k x hs o us ms is rest free found aim statement seen g = found_went found calls.Commit k x hs o us ms is rest g.made g.does g.others seen
  step_went calls.Rollback plain k x hs o us ms is rest free found aim statement seen g = found_went found calls.Rollback k x hs o us ms is rest g.made g.does g.others seen
  step_went calls.ForgetTransaction plain k x hs o us ms is rest free found aim statement seen g = found_went found calls.ForgetTransaction k x hs o us ms is rest g.made g.does g.others seen
  step_went calls.Quit plain k x hs o us ms is rest free found aim statement seen g = at_went calls.Quit k x hs o us ms is rest g.made g.does g.others
  step_went _ plain k x hs o us ms is rest free found aim statement seen g = cc

  through : (ss : List Span) → are_plain ss ≡ true → (k : Kept) (x : Looks) (hs : List Handle) → hs ≡ Joined true k x ∷ [] → (is_last ss ≡ false → k.pending ≡ None) → Free k → (vs : List AnswerView) → map (λ b. b.outcome) vs ≡ map (λ s. outcome_of s.ending) ss → map (λ b. taken_in b.uses) vs ≡ map (λ s. length s.taken) ss
      → (ts : List Handle) → Chain login plans hs (map (λ s. step_of s.call) ss) vs ts → Led k ss ts
  through [] plain k x hs is rest free [] outs taken ts c = record { kept = k; link = x; left = c ∙ is; more = []; calls = sym (append-nil (calls_kept k.calls k.pending)); are = tt }
  through [] plain k x hs is rest free (a ∷ vs) outs taken ts c = absurd c
  through (s ∷ ss) plain k x hs is rest free [] outs taken ts c = absurd c
  through (s ∷ ss) plain k x hs is rest free (a ∷ vs) outs taken ts c =
      let begins = left_of (is_stepped (kind_of s.call)) _ plain in
      let others = right_of (is_stepped (kind_of s.call)) _ plain in
      let shows = left_of (is_shown s.ending) _ others in
      let later = right_of (is_shown s.ending) _ others in
      let ends = left_of (is_last ss || is_told s.ending) _ later in
      let plain_on = right_of (is_last ss || is_told s.ending) _ later in
      let g = step_went s.call begins k x hs a.outcome a.uses c.0 is (rest refl) free c.1.0 c.1.1 c.1.2 (λ same. not_refused s.ending shows (sym (head_same a.outcome (outcome_of s.ending) _ _ outs) ∙ same)) c.1.3 in
      let w = g.2 in
      let ending : w.ending ≡ s.ending = w.ending_is ∙ ap ending_by (head_same a.outcome (outcome_of s.ending) _ _ outs) ∙ ending_back s.ending shows in
      let told : is_last ss ≡ false → is_told w.ending ≡ true = λ more. ap is_told ending ∙ or_right (is_last ss) (is_told s.ending) more ends in
      joined k s ss ts a.outcome (taken_in a.uses) g.0 w (rest refl) ending (head_same (taken_in a.uses) (length s.taken) _ _ taken)
      (through ss plain_on w.kept w.link c.0 (g.1 ∙ ap (λ (h : Handle). h ∷ []) w.left) (λ more. w.rests (told more)) (kept_free k s.call a.outcome (taken_in a.uses) g.0 w (rest refl) (stepped_takes_none (kind_of s.call) begins) free) vs (tail_same a.outcome (outcome_of s.ending) _ _ outs) (tail_same (taken_in a.uses) (length s.taken) _ _ taken) ts c.2)

-- the connection is made
ready_answer : (answer : Answer) → may_be Connect (told answer) ≡ true → told answer ≡ ToldReady
ready_answer answers.Ready e = refl
ready_answer (answers.Row row) e = cc
ready_answer answers.SetEnd e = cc
ready_answer answers.NoSet e = cc
ready_answer (answers.Stmt statement) e = cc
ready_answer (answers.Flag flag) e = cc

connects_went : (login : Login) (x : Looks) (o : Outcome) (us : List Use) (used : Use) (t : Handle) (id : ℕ) (version : ServerVersion) → o ≡ Connected 0 id version → us ≡ quiet 0 ∷ used ∷ [] → Connects login 0 first_asked first_kept x o used t → Went nothing_kept calls.Connect o (taken_in us) t
unfolding ending_by
connects_went login x o us used t id version is uses w =
    let v : Polled login first_asked first_kept used.met w.after w.end = polled_of refl w.polled in
    let count : length v.following.taken ≡ 0 + taken_in us =
    let e = ap length v.taken_is in
    let u : taken_in us ≡ 0 + (used.met.taken + 0) = ap taken_in uses in
    omega (arith, e, u, v.count) in
    by_after w.after v count w.shows
  where
    by_after : (p : After) (v : Polled login first_asked first_kept used.met p w.end) → length v.following.taken ≡ 0 + taken_in us → ConnectShows login 0 p w.end w.link o t → Went nothing_kept calls.Connect o (taken_in us) t
    by_after after.Pending v count s = let no : Pending ≡ Connected 0 id version = sym s.0 ∙ is in cc
    by_after (after.Answered answer) v count s =
        ended_went nothing_kept v.following first_asked (says.Answered answer) o (taken_in us) w.link t calls.Connect refl refl refl v.calls count
        (s.1 ∙ ap (λ (m : Kept). Joined true m w.link) v.ends.0) (ap Some (ready_answer answer v.ends.2) ∙ sym (ap ending_by is))
    by_after (after.Failed x) v count s = let no : Failed x ≡ Connected 0 id version = sym s.0 ∙ is in cc

dials_went : (login : Login) (plan : Option (List ReadItem)) (rules : Option (List WriteItem)) (items : Option (List DialItem)) (o : Outcome) (us : List Use) (t : Handle) (id : ℕ) (version : ServerVersion) → o ≡ Connected 0 id version → Dials login plan rules items 0 o us t → Went nothing_kept calls.Connect o (taken_in us) t
dials_went login plan rules items o us t id version is (Holds left e f g h) = let no : Pending ≡ Connected 0 id version = sym e ∙ is in cc
dials_went login plan rules items o us t id version is (Fails left e f g h) = let no : Failed (io_error Dial 0) ≡ Connected 0 id version = sym e ∙ is in cc
dials_went login plan rules items o us t id version is (Links used x left uses new given conn) = connects_went login x o us used t id version is uses conn

-- the calls of a tape, by where their sent bytes begin
starts_kept : (ds : List DoneCall) (p : Option Asked) → map (λ c. c.sent_from) (calls_kept ds p) ≡ map (λ c. c.sent_from) (map tape_call ds ++ open_call p)
starts_kept [] None = refl
starts_kept [] (Some a) = refl
starts_kept (d ∷ ds) p = ap (λ ns. d.sent_from ∷ ns) (starts_kept ds p)

same_calls : (n m : ℕ) (ss : List Span) (cs : List TapeCall) → AreOf m ss cs → map (λ c. c.sent_from) cs ≡ map (λ c. c.sent_from) (calls_from n m ss) → cs ≡ calls_from n m ss
same_calls n m [] [] w e = refl
same_calls n m [] (c ∷ cs) w e = absurd w
same_calls n m (s ∷ ss) [] w e = absurd w
same_calls n m (s ∷ ss) (c ∷ cs) w e =
    let from : c.sent_from ≡ n = head_same c.sent_from n _ _ e in
    ap (λ x. record { call = x; sent_from = c.sent_from; taken_from = c.taken_from; ending = c.ending } ∷ cs) w.0
    ∙ ap (λ x. record { call = s.call; sent_from = x; taken_from = c.taken_from; ending = c.ending } ∷ cs) from
    ∙ ap (λ x. record { call = s.call; sent_from = n; taken_from = x; ending = c.ending } ∷ cs) w.1
    ∙ ap (λ x. record { call = s.call; sent_from = n; taken_from = m; ending = x } ∷ cs) w.2
    ∙ ap (λ xs. record { call = s.call; sent_from = n; taken_from = m; ending = s.ending } ∷ xs) (same_calls (n + length s.sent) (m + length s.taken) ss cs w.3 (tail_same c.sent_from n _ _ e))

first_view : List TapeView → TapeView
first_view [] = record { number = 0; sent = []; taken = []; calls = [] }
first_view (v ∷ vs) = v

views_outcomes : (vs : List StepAnswer) → map (λ (b : AnswerView). b.outcome) (map answer_view vs) ≡ map (λ (b : StepAnswer). b.outcome) vs
views_outcomes [] = refl
views_outcomes (a ∷ vs) = ap (λ xs. a.outcome ∷ xs) (views_outcomes vs)

views_taken : (vs : List StepAnswer) → map (λ (b : AnswerView). taken_in b.uses) (map answer_view vs) ≡ map (λ (b : StepAnswer). taken_in b.uses.items) vs
views_taken [] = refl
views_taken (a ∷ vs) = ap (λ xs. taken_in a.uses.items ∷ xs) (views_taken vs)

connected_ending : (id : ℕ) (version : ServerVersion) → ending_by (Connected 0 id version) ≡ Some ToldReady
unfolding ending_by
connected_ending id version = refl

-- the run's steps lead to these numbers
led_all : (login : Login) (plans : Plans) (a : StepAnswer) (vs : List StepAnswer) (t : Tape) (s : Span) (ss : List Span) (ts : List Handle) → s.call ≡ calls.Connect → s.ending ≡ Some ToldReady → are_plain ss ≡ true → Shows a vs t s ss
    → Chain login plans [] (steps.Conn ∷ map (λ c. step_of c.call) ss) (map answer_view (a ∷ vs)) ts → Led nothing_kept (s ∷ ss) ts
led_all login plans a vs t s ss ts connects ready plain w chain =
    let made = dials_went login (plans.reads 0) (plans.writes 0) (plans.dials 0) a.outcome a.uses.items chain.1.3.made w.id w.version w.made chain.1.3.dials in
    let made_so : Went nothing_kept s.call a.outcome (taken_in a.uses.items) chain.1.3.made = subst (λ (c : Call). Went nothing_kept c a.outcome (taken_in a.uses.items) chain.1.3.made) (sym connects) made in
    let ending : made_so.ending ≡ s.ending = made_so.ending_is ∙ ap ending_by w.made ∙ connected_ending w.id w.version ∙ sym ready in
    let told : is_told made_so.ending ≡ true = ap is_told (ending ∙ ready) in
    let rest = through login plans ss plain made_so.kept made_so.link chain.0 (chain.1.3.others ∙ ap (λ (x : Handle). x ∷ []) made_so.left) (λ more. made_so.rests told) (kept_free nothing_kept s.call a.outcome (taken_in a.uses.items) chain.1.3.made made_so refl (ap (λ (c : Call). is_take (kind_of c)) connects) refl) (map answer_view vs) (views_outcomes vs ∙ w.outcomes) (views_taken vs ∙ w.taken) ts chain.2 in
    joined nothing_kept s ss ts a.outcome (taken_in a.uses.items) chain.1.3.made made_so refl ending w.made_taken rest

-- what the connection kept is what its printed tape shows
kept_shown : (a : StepAnswer) (vs : List StepAnswer) (t : Tape) (s : Span) (ss : List Span) (ts : List Handle) → Shows a vs t s ss → (all : Led nothing_kept (s ∷ ss) ts) → map tape_view (t ∷ []) ≡ tapes_in 0 ts → tape_kept all.kept ≡ tape_of (s ∷ ss)
unfolding first_view
kept_shown a vs t s ss ts w all tapes =
    let k : Kept = all.kept in
    let view : tape_view t ≡ record { number = 0; sent = k.sent; taken = k.taken; calls = map tape_call k.calls ++ open_call k.pending } =
    ap first_view (tapes ∙ ap (tapes_in 0) all.left) in
    let sent : k.sent ≡ all_sent (s ∷ ss) = sym (ap (λ (v : TapeView). v.sent) view) ∙ w.sent_is in
    let taken : k.taken ≡ all_taken (s ∷ ss) = sym (ap (λ (v : TapeView). v.taken) view) ∙ w.taken_is in
    let starts : map (λ c. c.sent_from) all.more ≡ map (λ c. c.sent_from) (calls_from 0 0 (s ∷ ss)) =
    ap (map (λ c. c.sent_from)) (sym all.calls) ∙ starts_kept k.calls k.pending ∙ sym (ap (λ (v : TapeView). map (λ c. c.sent_from) v.calls) view) ∙ w.starts in
    let calls : calls_kept k.calls k.pending ≡ calls_from 0 0 (s ∷ ss) = all.calls ∙ same_calls 0 0 (s ∷ ss) all.more all.are starts in
    ap (λ (x : List ℕ). let r : ReadTape = record { sent = x; taken = k.taken; calls = calls_kept k.calls k.pending } in r) sent
    ∙ ap (λ (x : List ℕ). let r : ReadTape = record { sent = all_sent (s ∷ ss); taken = x; calls = calls_kept k.calls k.pending } in r) taken
    ∙ ap (λ (x : List TapeCall). let r : ReadTape = record { sent = all_sent (s ∷ ss); taken = all_taken (s ∷ ss); calls = x } in r) calls

-- what the transcript shows is a tape that its reading accepts
pub shown_tape : (login : Login) (plans : Plans) (before later : Course) (a : StepAnswer) (vs : List StepAnswer) (t : Tape) (s : Span) (ss : List Span) → s.call ≡ calls.Connect → s.ending ≡ Some ToldReady → are_plain ss ≡ true → Shows a vs t s ss
    → Headline login plans before later (steps.Conn ∷ map (λ c. step_of c.call) ss) (a ∷ vs) (t ∷ []) → IsTape login (tape_of (s ∷ ss))
shown_tape login plans before later a vs t s ss connects ready plain w h =
    let chain : Chain login plans [] (steps.Conn ∷ map (λ c. step_of c.call) ss) (map answer_view (a ∷ vs)) (handles_after h.lines) =
    subst (λ (vs : List AnswerView). Chain login plans [] (steps.Conn ∷ map (λ c. step_of c.call) ss) vs (handles_after h.lines)) (sym h.answered)
    (subst (λ (xs : List Step). Chain login plans [] xs (answers_of h.lines) (handles_after h.lines)) h.steps_are (grown_chain login plans h.lines h.grown)) in
    let all = led_all login plans a vs t s ss (handles_after h.lines) connects ready plain w chain in
    let tape = kept_shown a vs t s ss (handles_after h.lines) w all h.tapes_are in
    let read : HasTape login (Joined true all.kept all.link) = subst (λ (hs : List Handle). HasTape login (at_number hs 0)) all.left (last_has login h.lines 0 (each_tape_is_read login plans before later _ _ _ h)) in
    subst (IsTape login) tape read

-- `fields` on the connection
tells : (q : Option Asked) (login : Login) (k : Kept) (x : Looks) (o : Outcome) (us : List Use) (h : Handle) (fields : Option OkPacket) → TellsWith q login k x o us h → o ≡ Fields fields → (h ≡ Joined true k x) × (fields ≡ (facts_kept login k).ok)
tells None login k x o us h fields w e = (w.left, fields_same fields (facts_kept login k).ok (sym e ∙ w.outcome))
  where
    fields_same : (x y : Option OkPacket) → Fields x ≡ Fields y → x ≡ y
    fields_same x y e = cc
tells (Some a) login k x o us h fields w e = let no : NoSuchHandle ≡ Fields fields = sym w.outcome ∙ e in cc

-- where `fields` follows, it shows what the reading of the tape says
pub shown_fields : (login : Login) (plans : Plans) (before later : Course) (a b : StepAnswer) (vs : List StepAnswer) (t : Tape) (s : Span) (ss : List Span) (fields : Option OkPacket) → s.call ≡ calls.Connect → s.ending ≡ Some ToldReady → are_plain ss ≡ true → Shows a vs t s ss → b.outcome ≡ Fields fields
    → Headline login plans before later (steps.Conn ∷ (map (λ c. step_of c.call) ss ++ steps.Fields 0 ∷ [])) (a ∷ (vs ++ b ∷ [])) (t ∷ []) → fields ≡ (facts_at login (reading login (tape_of (s ∷ ss))).place).ok
shown_fields login plans before later a b vs t s ss fields connects ready plain w is h =
    let ts = handles_after h.lines in
    let views : map answer_view (a ∷ (vs ++ b ∷ [])) ≡ map answer_view (a ∷ vs) ++ answer_view b ∷ [] = map-append answer_view (a ∷ vs) (b ∷ []) in
    let chain : Chain login plans [] ((steps.Conn ∷ map (λ c. step_of c.call) ss) ++ steps.Fields 0 ∷ []) (map answer_view (a ∷ vs) ++ answer_view b ∷ []) ts =
    subst (λ (vs : List AnswerView). Chain login plans [] ((steps.Conn ∷ map (λ c. step_of c.call) ss) ++ steps.Fields 0 ∷ []) vs ts) (sym h.answered ∙ views)
    (subst (λ (xs : List Step). Chain login plans [] xs (answers_of h.lines) ts) h.steps_are (grown_chain login plans h.lines h.grown)) in
    let count : length (steps.Conn ∷ map (λ c. step_of c.call) ss) ≡ length (map answer_view (a ∷ vs)) =
    let x = length-map ss (λ c. step_of c.call) in
    let y = length-map vs answer_view in
    let z = ap length w.outcomes in
    let u = length-map vs (λ (b : StepAnswer). b.outcome) in
    let v = length-map ss (λ (c : Span). outcome_of c.ending) in
    omega (arith, x, y, z, u, v) in
    let split = chain_split login plans [] (steps.Conn ∷ map (λ c. step_of c.call) ss) (map answer_view (a ∷ vs)) (steps.Fields 0) (answer_view b) ts count chain in
    let all = led_all login plans a vs t s ss split.0 connects ready plain w split.1 in
    let told = tells all.kept.pending login all.kept all.link b.outcome b.uses.items split.5.made fields (subst (λ (hs : List Handle). TellsFields login (at_number hs 0) b.outcome b.uses.items split.5.made) all.left split.5.does) is in
    let left : ts ≡ Joined true all.kept all.link ∷ [] = split.5.others ∙ ap (put_at 0 split.5.made) all.left ∙ ap (λ (x : Handle). x ∷ []) told.0 in
    let on : Led nothing_kept (s ∷ ss) ts = record { kept = all.kept; link = all.link; left = left; more = all.more; calls = all.calls; are = all.are } in
    told.1 ∙ ap (λ (r : ReadTape). (facts_at login (reading login r).place).ok) (kept_shown a vs t s ss ts w on h.tapes_are)
