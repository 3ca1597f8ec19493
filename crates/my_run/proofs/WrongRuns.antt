-- How wrong runs are refuted.
use Rattle.std.proofs.Common.{ℕ, ◌≡◌, ◌==◌, ◌<◌, ◌≤◌, ◌⊎◌, inl, inr, zero, suc, List, [], ◌∷◌, ◌++◌, length, map, slice_set, Option, Some, None, option_map, unwrap_or, Bool, true, false, refl, sym, ap, ◌∙◌, subst, arith, eq-eqb, if◌then◌else◌}
use Rattle.std.proofs.lemmas.List.{append-nil, length-append}
use Rattle.my_grammar.specs.declared.login.Login.{Login}
use Rattle.my_frame.specs.Outside.{Rose}
use Rattle.my_frame.specs.Sources.{SourceSeen}
use Rattle.my_frame.specs.Sinks.{SinkSeen}
use Rattle.my_link.specs.declared.link.ReadItem.{ReadItem}
use Rattle.my_link.specs.declared.link.ReadItem.TheVariants.{Bytes, Turn}
use Rattle.my_link.specs.declared.link.WriteItem.{WriteItem}
use Rattle.my_link.specs.declared.met.Met.{Met}
use Rattle.my_link.specs.Link.{Told, after_hold, after_end, after_write, after_taken, after_write_hold, taken_of}
use Rattle.my_link.specs.Looks.{Looks}
use Rattle.my_link.specs.Met.{nothing_met}
use Rattle.my_link.specs.Moves.{Move, Received, Sent, Leads, received_by, sent_by, Stop, NoStop, ReadHold, WriteHold, ReadFault, WriteFault, LinkEnd, StopsAt, holds_at, ends_at}
use Rattle.my_link.specs.Spent.{spelled, HasGot, IsLeft, Whole, Part, ReadsSpent, IsSpent}
use Rattle.my_link.proofs.Spending.{used_spent}
use Rattle.my_reading.specs.declared.answer.Answer.TheVariants as answers
use Rattle.my_handshake.specs.declared.version.ServerVersion.{ServerVersion}
use Rattle.my_reading.specs.declared.call.Call.TheVariants.{Ping, Quit, Rollback}
use Rattle.my_reading.specs.Calls.{kind_of}
use Rattle.my_reading.specs.declared.error.IoKind.TheVariants.{Dial, Link}
use Rattle.my_reading.specs.Errors.{connection_closed, io_error}
use Rattle.my_client.specs.Made.{has_closed}
use Rattle.my_session.specs.Sessions.{is_refused}
use Rattle.my_script.specs.declared.action.Work.TheVariants as works
use Rattle.my_script.specs.Actions.{execute_work, found_work}
use Rattle.my_script.specs.declared.step.Step.{Step}
use Rattle.my_script.specs.declared.step.Step.TheVariants as steps
use Rattle.my_script.specs.declared.transcript.Outcome.{Outcome}
use Rattle.my_script.specs.declared.transcript.Outcome.TheVariants.{Connected, Failed, NoSuchHandle, Pending}
use Rattle.my_script.specs.declared.transcript.Outcome.TheVariants as outcomes
use Rattle.my_script.specs.declared.transcript.StepAnswer.{StepAnswer}
use Rattle.my_script.specs.declared.transcript.Tape.{Tape}
use Rattle.my_script.specs.declared.transcript.TapeCall.{TapeCall}
use Rattle.my_script.specs.declared.transcript.Transcript.{Transcript}
use Rattle.my_script.specs.declared.transcript.Use.{Use}
use Rattle.my_client.specs.declared.poll.After.{After}
use Rattle.my_client.specs.declared.poll.After.TheVariants as after
use Rattle.my_reading.specs.Course as reading
use Rattle.my_reading.specs.Told.{ToldError, ToldReady}
use Rattle.my_client.proofs.TapeRead.Stopping.{stop_closed}
use Rattle.my_client.specs.Reads.{facts_kept, stop_kept}
use Rattle.my_client.specs.Kept.{Asked, Kept, made_of, asking, asked_by, first_asked, first_kept}
use Rattle.my_client.specs.Polls.{IsPolled, comes_at, comes_to, moved_by as moved_all, told_of}
use Rattle.my_client.proofs.Moving.{all_pending}
use Rattle.my_link.specs.declared.dialer.DialItem.{DialItem}
use Rattle.my_link.specs.declared.dialer.DialItem.TheVariants.{Wait, Fail}
use Rattle.my_link.specs.Plan.{moment_after}
use Rattle.my_link.specs.World.{Back, Plans, WorldSeen, DialCounts, Chance, FailedBy, counted, no_dials}
use Rattle.my_run.specs.declared.tool.Status.{Status}
use Rattle.my_run.specs.declared.tool.Status.TheVariants as ends
use Rattle.my_steps.specs.Dialing.{Course, DialsTo, chance_by, dial_met, has_dialed, moved_by, AreDialed}
use Rattle.my_params.specs.declared.params.Params.{Params}
use Rattle.my_statements.specs.Prepared.{StatementView}
use Rattle.my_script.specs.Numbered.{named_statement, statement_named, statement_at, statements_by}
use Rattle.my_script.specs.declared.beside.Beside.{Beside}
use Rattle.my_script.specs.Beside.{beside_after, beside_by, finds}
use Rattle.my_script.specs.Streams.{target}
use Rattle.my_steps.specs.Grows.{Line, beside_of, handles_after, aim_at, is_found, statements_of, AreGrown, StepGrows, DialsNext, HasPlan, Dials, Holds, Fails, Links, ConnectShows, Connects, PolledOnce, Begins, BeginsOn, Calls, At, shown, WorkAt}
use Rattle.my_steps.specs.Handle.{Handle, Absent, Dialing, Joined, at_number, put_at}
use Rattle.my_run.specs.Headline.{AnswerView, answer_view, steps_of, answers_of, Headline, IsExplained}
use Rattle.my_script.specs.declared.reading.script.BadLine.{BadLine}
use Rattle.my_run.specs.Fits.{IsFit}
use Rattle.my_run.proofs.Runs.Fitting.{grown_fit}
use Rattle.my_steps.specs.Sums.{use_of, quiet, held_use, failed_use}
use Rattle.my_run.specs.Tapes.{TapeView, tape_view, tape_call, open_call, links_at, links_in, tapes_in, tape_of, tape_at, with_links}
use Rattle.my_run.specs.Tool.{EndsBy}
use Rattle.my_run.specs.WrongRuns.{NoSourceFault, NoPlannedDialFault, NoWaitAsFault, NoHeldDialFault, NoHiddenDials, LinksHaveTapes, NoSecretDial, NoStepsUnread, NoBytesAfter, MayFail, DialFault, NoStillMoment, one_fault, NoEarlyEnd, NoHoldAfterTurn, NoHoldInTurn, NoZeroSent, NoOtherTaken, NoFaultAtRest, HasRead, NoBrokenInput, NoClosedExecution, NoUngivenExecution, NoForgottenRollback}
use Rattle.my_run.proofs.Polls.{all_calls, answered_by, met_so, returned_by, sent_so, taken_so, used_so}

-- what was told
told_some : {I : Type 0} (x y : Option (List I)) (is : List I) (R : List I → List I → Type 0) → x ≡ Some is → Told x y R → (js : List I) × (y ≡ Some js) × R is js
told_some None y is R e t = cc
told_some (Some old) None is R e t = absurd t
told_some {I} (Some old) (Some new) is R e t = let same : old ≡ is = cc in (new, refl, subst (λ (os : List I). R os new) same t)

no_bytes : (xs bs : List ℕ) → xs ++ bs ≡ [] → 0 < length bs → ⊥
no_bytes xs bs e h = omega (arith, ap length e, length-append xs bs, h)

first_of : List ℕ → ℕ
first_of [] = 0
first_of (b ∷ bs) = b

rest_of : List ℕ → List ℕ
rest_of [] = []
rest_of (b ∷ bs) = bs

cancel_front : (a b c : List ℕ) → a ++ b ≡ a ++ c → b ≡ c
unfolding rest_of
cancel_front [] b c e = e
cancel_front (x ∷ a) b c e = cancel_front a b c (ap rest_of e)

nil_of : (xs : List ℕ) → 0 ≡ length xs → xs ≡ []
nil_of [] e = refl
nil_of (x ∷ xs) e = absurd (omega (arith, e))

-- bytes stay first where none was received
stays_first : (ms : List Move) (x z : Looks) (bytes : List ℕ) (more : List ReadItem) → x.items ≡ Some (Bytes bytes ∷ more) → Leads ms x z → received_by ms ≡ [] → z.items ≡ Some (Bytes bytes ∷ more)
stays_first [] x z bytes more h w e = ap (λ (l : Looks). l.items) w ∙ h
stays_first (Received bs ∷ ms) x z bytes more h w e = absurd (no_bytes (received_by ms) bs e w.2.0)
stays_first (Sent offered bs ∷ ms) x z bytes more h w e =
    let t = told_some w.0.items z.items (Bytes bytes ∷ more) (λ is js. js ≡ after_write is) (stays_first ms x w.0 bytes more h w.1 e) w.2.1.items in
    t.1 ∙ ap Some t.2

-- no planned write is left where none was
stays_open : (ms : List Move) (x z : Looks) → x.writes ≡ Some [] → Leads ms x z → z.writes ≡ Some []
stays_open [] x z h w = ap (λ (l : Looks). l.writes) w ∙ h
stays_open (Received bs ∷ ms) x z h w = w.2.1.writes ∙ stays_open ms x w.0 h w.1
stays_open (Sent offered bs ∷ ms) x z h w =
    let t = told_some w.0.writes z.writes [] (λ ws vs. (taken_of offered ws ≡ Some (length bs)) × (vs ≡ after_taken (length bs) ws)) (stays_open ms x w.0 h w.1) w.2.1.writes in
    t.1 ∙ ap Some t.2.1

-- a turn that is first is met by a sending
turned : (ms : List Move) (x z : Looks) (bytes : List ℕ) (more : List ReadItem) → x.items ≡ Some (Turn ∷ Bytes bytes ∷ more) → Leads ms x z → received_by ms ≡ [] → ((z.items ≡ Some (Turn ∷ Bytes bytes ∷ more)) × (sent_by ms ≡ [])) ⊎ (z.items ≡ Some (Bytes bytes ∷ more))
turned [] x z bytes more h w e = inl (ap (λ (l : Looks). l.items) w ∙ h, refl)
turned (Received bs ∷ ms) x z bytes more h w e = absurd (no_bytes (received_by ms) bs e w.2.0)
turned (Sent offered bs ∷ ms) x z bytes more h w e = by_state (turned ms x w.0 bytes more h w.1 e)
  where
    by_state : ((w.0.items ≡ Some (Turn ∷ Bytes bytes ∷ more)) × (sent_by ms ≡ [])) ⊎ (w.0.items ≡ Some (Bytes bytes ∷ more)) → ((z.items ≡ Some (Turn ∷ Bytes bytes ∷ more)) × (sent_by ms ++ bs ≡ [])) ⊎ (z.items ≡ Some (Bytes bytes ∷ more))
    by_state (inl s) = let t = told_some w.0.items z.items (Turn ∷ Bytes bytes ∷ more) (λ is js. js ≡ after_write is) s.0 w.2.1.items in inr (t.1 ∙ ap Some t.2)
    by_state (inr s) = let t = told_some w.0.items z.items (Bytes bytes ∷ more) (λ is js. js ≡ after_write is) s w.2.1.items in inr (t.1 ∙ ap Some t.2)

-- nothing can hold where bytes are first and no planned write is left
no_hold_at : (stop : Stop) (z y : Looks) (bytes : List ℕ) (more : List ReadItem) → z.items ≡ Some (Bytes bytes ∷ more) → z.writes ≡ Some [] → StopsAt stop z y → 1 ≡ holds_at stop → ⊥
no_hold_at NoStop z y bytes more h o s e = omega (arith, e)
no_hold_at ReadHold z y bytes more h o s e = let t = told_some z.items y.items (Bytes bytes ∷ more) (λ is js. after_hold is ≡ Some js) h s.items in let no : None ≡ Some t.0 = t.2 in cc
no_hold_at WriteHold z y bytes more h o s e = let t = told_some z.writes y.writes [] (λ ws vs. after_write_hold ws ≡ Some vs) o s.writes in let no : None ≡ Some t.0 = t.2 in cc
no_hold_at ReadFault z y bytes more h o s e = omega (arith, e)
no_hold_at WriteFault z y bytes more h o s e = omega (arith, e)
no_hold_at LinkEnd z y bytes more h o s e = omega (arith, e)

-- a poll that sends a byte and receives none, from a turn or from bytes
abbrev IsMet : Looks → List ℕ → List ReadItem → Type 0
IsMet x bytes more = (x.items ≡ Some (Turn ∷ Bytes bytes ∷ more)) ⊎ (x.items ≡ Some (Bytes bytes ∷ more))

met_after : (ms : List Move) (x z : Looks) (bytes : List ℕ) (more : List ReadItem) → IsMet x bytes more → Leads ms x z → received_by ms ≡ [] → 0 < length (sent_by ms) → z.items ≡ Some (Bytes bytes ∷ more)
met_after ms x z bytes more (inl h) w e some = elim (turned ms x z bytes more h w e) as (λ _. z.items ≡ Some (Bytes bytes ∷ more)) [
  | inl s ↦ absurd (omega (arith, some, ap length s.1))
  | inr s ↦ s
]
met_after ms x z bytes more (inr h) w e some = stays_first ms x z bytes more h w e

no_hold_met : (login : Login) (a : Asked) (k end : Kept) (x y : Looks) (u : Met) (bytes sent : List ℕ) (more : List ReadItem) → u ≡ record nothing_met { holds = 1 } → IsMet x bytes more → x.writes ≡ Some [] → 0 < length sent → end.sent ≡ k.sent ++ sent → IsPolled login a k x u after.Pending end y → ⊥
no_hold_met login a k end x y u bytes sent more is h unheld some grown w =
    let met = met_so login a k x u after.Pending end y w in
    let none : received_by w.moves ≡ [] = nil_of (received_by w.moves) (sym (ap (λ (m : Met). m.taken) is) ∙ met.taken) in
    let same : k.sent ++ sent_by w.moves ≡ k.sent ++ sent = sym (sent_so login a k x u after.Pending end y w) ∙ grown in
    let more_sent : 0 < length (sent_by w.moves) = omega (arith, some, ap length same, length-append k.sent (sent_by w.moves), length-append k.sent sent) in
    no_hold_at w.stop w.moved y bytes more (met_after w.moves x w.moved bytes more h w.leads none more_sent) (stays_open w.moves x w.moved unheld w.leads) w.stops (sym (ap (λ (m : Met). m.holds) is) ∙ met.holds)

pub no_hold_after_turn : NoHoldAfterTurn
no_hold_after_turn login a k end x y bytes sent more h unheld some grown w = no_hold_met login a k end x y (record nothing_met { holds = 1 }) bytes sent more refl (inl h) unheld some grown w

has_got : (x : Option (List ℕ)) (got : List ℕ) → x ≡ Some got → HasGot x got
has_got x got e = subst (λ o. HasGot o got) (sym e) refl

pub no_zero_sent : NoZeroSent
unfolding first_of
no_zero_sent login a k end x y u p got old new grown w =
    let spent : IsSpent None None x got [] 0 = record { got = has_got x.got got old; reads = tt; failed = tt } in
    let sent : List ℕ = sent_by w.moves in
    let later = used_spent None None x y got [] sent (received_by w.moves) w.stop 0 (used_so login a k x u p end y w) spent in
    let told : got ++ 0 ∷ [] ≡ got ++ sent = subst (λ o. HasGot o (got ++ sent)) new later.got in
    let kept : k.sent ++ sent ≡ k.sent ++ 1 ∷ [] = sym (sent_so login a k x u p end y w) ∙ grown in
    let differs : 0 ∷ [] ≡ 1 ∷ [] = cancel_front got (0 ∷ []) sent told ∙ cancel_front k.sent sent (1 ∷ []) kept in
    omega (arith, ap first_of differs)

-- a transcript of one line
one_line : (lines : List Line) (s : Step) → steps_of lines ≡ s ∷ [] → (l : Line) × (lines ≡ l ∷ []) × (l.step ≡ s)
one_line [] s e = cc
one_line (l ∷ []) s e = let same : l.step ∷ [] ≡ s ∷ [] = e in (l, refl, cc)
one_line (l ∷ (m ∷ ms)) s e = absurd (omega (arith, ap length e, length-append (steps_of ms ++ m.step ∷ []) (l.step ∷ []), length-append (steps_of ms) (m.step ∷ [])))

-- what a run of one `conn` was
record IsLone (login : Login) (plans : Plans) (before later : Course) (a : StepAnswer) (tapes : List TapeView) : Type 0 where
  made : Handle
  dials : Dials login (plans.reads 0) (plans.writes 0) (plans.dials 0) 0 a.outcome a.uses.items made
  counts : DialsTo before.dials later.dials (dial_met true a.uses.items)
  fits : IsFit (plans.reads 0) (plans.dials 0) made
  shown : tapes ≡ tape_at 0 made ++ []
  ended : later.back ≡ with_links (links_at 0 made ++ []) before.back

lone : (login : Login) (plans : Plans) (before later : Course) (a : StepAnswer) (tapes : List Tape) → Headline login plans before later (steps.Conn ∷ []) (a ∷ []) tapes → IsLone login plans before later a (map tape_view tapes)
lone login plans before later a tapes w =
    let o = one_line w.lines steps.Conn w.steps_are in
    let l : Line = o.0 in
    let answered : answer_view a ∷ [] ≡ record { number = l.number; outcome = l.outcome; uses = l.uses } ∷ [] = w.answered ∙ ap answers_of o.1 in
    let outcome : l.outcome ≡ a.outcome = sym (ap outcome_in answered) in
    let uses : l.uses ≡ a.uses.items = sym (ap uses_in answered) in
    let grown = subst (AreGrown login plans) o.1 w.grown in
    let next : DialsNext login plans [] a.outcome a.uses.items l.handles =
    subst (λ (x : Outcome). DialsNext login plans [] x a.uses.items l.handles) outcome
    (subst (λ (us : List Use). DialsNext login plans [] l.outcome us l.handles) uses
    (subst (λ (s : Step). StepGrows login plans (is_found (target s) s []) (aim_at (target s) []) (statement_named (named_statement s) (statements_of [])) [] s l.outcome l.uses l.handles) o.2 grown.0.answer)) in
    let dialed = subst (λ (ls : List Line). AreDialed before.dials ls later.dials) o.1 w.dialed in
    record {
      made = next.made;
      dials = next.dials;
      counts = subst (λ (c : DialCounts). DialsTo c later.dials (dial_met true a.uses.items)) dialed.1
          (subst (λ (us : List Use). DialsTo dialed.0 later.dials (dial_met true us)) uses
          (subst (λ (s : Step). DialsTo dialed.0 later.dials (dial_met (has_dialed s []) l.uses)) o.2 dialed.2));
      fits = subst (λ (hs : List Handle). IsFit (plans.reads 0) (plans.dials 0) (at_number hs 0)) next.others (grown_fit login plans (l ∷ []) grown 0);
      shown = w.tapes_are ∙ ap (λ (ls : List Line). tapes_in 0 (handles_after ls)) o.1 ∙ ap (tapes_in 0) next.others;
      ended = w.ended ∙ ap (λ (ls : List Line). with_links (links_in 0 (handles_after ls)) before.back) o.1 ∙ ap (λ (hs : List Handle). with_links (links_in 0 hs) before.back) next.others;
    }
  where
    outcome_in : List AnswerView → Outcome
    outcome_in [] = Pending
    outcome_in (v ∷ vs) = v.outcome

    uses_in : List AnswerView → List Use
    uses_in [] = []
    uses_in (v ∷ vs) = v.uses

-- a dial that failed
failed_by : (login : Login) (plan : Option (List ReadItem)) (rules : Option (List WriteItem)) (items : Option (List DialItem)) (o : Outcome) (us : List Use) (t : Handle) → Dials login plan rules items 0 o us t → o ≡ Failed (io_error Dial 0) → us ≡ failed_use 0 ∷ [] → (left : Option (List DialItem)) × FailedBy items left
failed_by login plan rules items o us t (Holds left e f g held) oe ue = let no : Pending ≡ Failed (io_error Dial 0) = sym e ∙ oe in cc
failed_by login plan rules items o us t (Fails left e f g failed) oe ue = (left, failed)
failed_by login plan rules items o us t (Links used x left is new given conn) oe ue = let no : quiet 0 ∷ used ∷ [] ≡ failed_use 0 ∷ [] = sym is ∙ ue in cc

fails_first : (items left : Option (List DialItem)) (is : List DialItem) → items ≡ Some is → FailedBy items left → (js : List DialItem) × (is ≡ Fail ∷ js)
fails_first None left is e failed = let no : None ≡ Some is = e in cc
fails_first (Some xs) None is e failed = absurd failed
fails_first (Some xs) (Some js) is e failed = let same : xs ≡ is = cc in (js, sym same ∙ failed)

pub no_planned_dial_fault : NoPlannedDialFault
no_planned_dial_fault login plans before later a told is w =
    let r = lone login plans before later a [] w in
    let f = failed_by login (plans.reads 0) (plans.writes 0) (plans.dials 0) a.outcome a.uses.items r.made r.dials is.outcome is.uses in
    let first = fails_first (plans.dials 0) f.0 [] told f.1 in
    let no : [] ≡ Fail ∷ first.0 = first.1 in
    cc

pub no_wait_as_fault : NoWaitAsFault
no_wait_as_fault login plans before later more a told is w =
    let r = lone login plans before later a [] w in
    let f = failed_by login (plans.reads 0) (plans.writes 0) (plans.dials 0) a.outcome a.uses.items r.made r.dials is.outcome is.uses in
    let first = fails_first (plans.dials 0) f.0 (Wait ∷ more) told f.1 in
    let no : Wait ∷ more ≡ Fail ∷ first.0 = first.1 in
    cc

pub no_held_dial_fault : NoHeldDialFault
no_held_dial_fault login plans before later a first last is w =
    let r = lone login plans before later a [] w in
    let rose : later.dials.faults ≡ counted 1 before.dials.faults = (subst (λ (us : List Use). DialsTo before.dials later.dials (dial_met true us)) is.uses r.counts).faults in
    let none : 0 ≡ counted 1 0 = sym (ap (λ (c : DialCounts). c.faults) last) ∙ rose ∙ ap (λ (c : DialCounts). counted 1 c.faults) first in
    omega (arith, none)

pub no_hidden_dials : NoHiddenDials
no_hidden_dials login plans before later a first more is w =
    let r = lone login plans before later a [] w in
    let rose : later.dials.faults ≡ counted 1 before.dials.faults = (subst (λ (us : List Use). DialsTo before.dials later.dials (dial_met true us)) is.uses r.counts).faults in
    let one : later.dials.faults ≡ counted 1 0 = rose ∙ ap (λ (c : DialCounts). counted 1 c.faults) first in
    omega (arith, one, more)

-- a number that has a tape has a link
numbers_at : (n : ℕ) (h : Handle) (ls : List Back) (ts : List TapeView) → map (λ (b : Back). b.number) ls ≡ map (λ (t : TapeView). t.number) ts → map (λ (b : Back). b.number) (links_at n h ++ ls) ≡ map (λ (t : TapeView). t.number) (tape_at n h ++ ts)
numbers_at n Absent ls ts e = e
numbers_at n (Dialing left) ls ts e = e
numbers_at n (Joined there k x) ls ts e = ap (λ ns. n ∷ ns) e

numbers_in : (n : ℕ) (hs : List Handle) → map (λ (b : Back). b.number) (links_in n hs) ≡ map (λ (t : TapeView). t.number) (tapes_in n hs)
numbers_in n [] = refl
numbers_in n (h ∷ hs) = numbers_at n h (links_in (suc n) hs) (tapes_in (suc n) hs) (numbers_in (suc n) hs)

numbers_of : Option (List Back) → List ℕ
numbers_of None = []
numbers_of (Some links) = map (λ (b : Back). b.number) links

view_numbers : (tapes : List Tape) → map (λ (t : TapeView). t.number) (map tape_view tapes) ≡ map (λ (t : Tape). t.number) tapes
view_numbers [] = refl
view_numbers (t ∷ ts) = ap (λ ns. t.number ∷ ns) (view_numbers ts)

pub links_have_tapes : LinksHaveTapes
unfolding numbers_of
links_have_tapes login plans before later steps answers tapes links first last w =
    let back : Some links ≡ with_links (links_in 0 (handles_after w.lines)) (Some []) = sym last ∙ w.ended ∙ ap (with_links (links_in 0 (handles_after w.lines))) first in
    ap numbers_of back ∙ numbers_in 0 (handles_after w.lines) ∙ sym (ap (map (λ (t : TapeView). t.number)) w.tapes_are) ∙ view_numbers tapes

pub no_secret_dial : NoSecretDial
no_secret_dial login plans before later a link links first last w =
    let none : link.number ∷ map (λ (b : Back). b.number) links ≡ [] = links_have_tapes login plans before later (steps.Conn ∷ []) (a ∷ []) [] (link ∷ links) first last w in
    cc

-- a line that doesn't read
idle_unread : (words : List (List ℕ)) (world later : WorldSeen) (s r : SourceSeen) (w v : SinkSeen) (t : Transcript) (status : Status) (line : BadLine) → status ≡ ends.Unread line → EndsBy words world later s r w v t status → later ≡ world
idle_unread words world later s r w v t status line e c = (subst (EndsBy words world later s r w v t) e c).3.1

pub no_steps_unread : NoStepsUnread
no_steps_unread words world later s r w v report line is moved c = moved (idle_unread words world later s r w v report.transcript report.status line is c)

-- what the first link that was handed back was sent
first_got : Option (List Back) → Option (List ℕ)
first_got None = None
first_got (Some []) = None
first_got (Some (b ∷ bs)) = b.looks.got

first_sent : List TapeView → List ℕ
first_sent [] = []
first_sent (t ∷ ts) = t.sent

-- it was sent what its tape says
sent_as_told : (plan : Option (List ReadItem)) (items : Option (List DialItem)) (made : Handle) (t : TapeView) (later : Option (List Back)) (got : List ℕ) → IsFit plan items made → t ∷ [] ≡ tape_at 0 made ++ [] → later ≡ with_links (links_at 0 made ++ []) (Some []) → first_got later ≡ Some got → got ≡ t.sent
unfolding first_got first_sent
sent_as_told plan items Absent t later got said shown ended told = let no : t ∷ [] ≡ [] = shown in cc
sent_as_told plan items (Dialing left) t later got said shown ended told = let no : t ∷ [] ≡ [] = shown in cc
sent_as_told plan items (Joined there k y) t later got said shown ended told =
    let same : y.got ≡ Some got = sym (ap first_got ended) ∙ told in
    let sent : t.sent ≡ k.sent = ap first_sent shown in
    let fits : got ≡ k.sent = subst (λ o. HasGot o k.sent) same said.got in
    fits ∙ sym sent

pub no_bytes_after : NoBytesAfter
unfolding first_got
no_bytes_after login plans before later a t x bytes some first last got w =
    let r = lone login plans before later a (t ∷ []) w in
    let back : later.back ≡ with_links (links_at 0 r.made ++ []) (Some []) = r.ended ∙ ap (with_links (links_at 0 r.made ++ [])) first in
    let same : t.sent.items ++ bytes ≡ t.sent.items = sent_as_told (plans.reads 0) (plans.dials 0) r.made (tape_view t) later.back (t.sent.items ++ bytes) r.fits r.shown back (ap first_got last ∙ got) in
    omega (arith, ap length same, length-append t.sent.items bytes, some)

-- what is left of the items after a planned fault
pub fault_left : (items : Option (List DialItem)) → MayFail items → (left : Option (List DialItem)) × FailedBy items left
fault_left None may = (None, refl)
fault_left (Some items) may = (Some [], may)

pub dial_fault : DialFault
dial_fault login plans chance a may is =
    let f = fault_left (plans.dials 0) may in
    record {
      lines = record { step = steps.Conn; number = 1; outcome = a.outcome; uses = a.uses.items; handles = Absent ∷ [] } ∷ [];
      steps_are = refl;
      answered = ap (λ (n : ℕ). record { number = n; outcome = a.outcome; uses = a.uses.items } ∷ []) is.number;
      grown = (record { number = refl; answer = record { made = Absent; dials = Fails f.0 is.outcome is.uses refl f.1; others = refl } }, tt);
      dialed = (no_dials, refl, subst (λ (us : List Use). DialsTo no_dials one_fault (dial_met true us)) (sym is.uses) (record { faults = omega arith; holds = refl }));
      moved = refl;
      explained = (nothing, tt);
      tapes_are = refl;
      ended = refl;
    }
  where
    nothing : (n : ℕ) → IsExplained login (at_number (Absent ∷ []) n)
    nothing zero = tt
    nothing (suc n) = tt

-- a moment that stays the same
pub no_still_moment : NoStillMoment
no_still_moment login plans before later a first last w =
    let o = one_line w.lines (steps.Advance 5) w.steps_are in
    let l : Line = o.0 in
    let moved : later.chance ≡ chance_by (has_dialed (steps.Advance 5) []) (steps.Advance 5) before.chance = w.moved ∙ ap (moved_by before.chance) o.1 ∙ ap (λ (s : Step). chance_by (has_dialed s []) s before.chance) o.2 in
    let now : later.chance.moment ≡ Some 5 = ap (λ (c : Chance). c.moment) moved ∙ ap (option_map (moment_after 5)) first in
    let no : Some 0 ≡ Some 5 = sym last ∙ now in
    let same : 0 ≡ 5 = ap (λ o. unwrap_or o 0) no in
    omega (arith, same)

-- a transcript of two lines
two_lines : (lines : List Line) (s t : Step) → steps_of lines ≡ s ∷ t ∷ [] → (l : Line) × (m : Line) × (lines ≡ m ∷ l ∷ []) × (l.step ≡ s) × (m.step ≡ t)
two_lines [] s t e = cc
two_lines (m ∷ []) s t e = let no : m.step ∷ [] ≡ s ∷ t ∷ [] = e in cc
two_lines (m ∷ (l ∷ [])) s t e = let same : l.step ∷ m.step ∷ [] ≡ s ∷ t ∷ [] = e in (l, m, refl, cc, cc)
two_lines (m ∷ (l ∷ (n ∷ ns))) s t e = absurd (omega (arith, ap length e, length-append ((steps_of ns ++ n.step ∷ []) ++ l.step ∷ []) (m.step ∷ []), length-append (steps_of ns ++ n.step ∷ []) (l.step ∷ []), length-append (steps_of ns) (n.step ∷ [])))

-- what a `conn` that connected made
record IsMade (login : Login) (rules : Option (List WriteItem)) (made : Handle) : Type 0 where
  kept : Kept
  link : Looks
  is : made ≡ Joined true kept link
  open_writes : rules ≡ Some [] → link.writes ≡ Some []

made_by : (login : Login) (plan : List ReadItem) (rules : Option (List WriteItem)) (n id : ℕ) (v : ServerVersion) (x : Looks) (o : Outcome) (used : Use) (t : Handle) → o ≡ Connected n id v → HasPlan (Some plan) rules x → (w : Connects login 0 first_asked first_kept x o used t) → IsMade login rules t
made_by login plan rules n id v x o used t shown planned w = by_after w.after w.shows w.polled.comes
  where
    by_after : (p : After) → ConnectShows login 0 p w.end w.link o t → comes_at login (moved_all first_kept w.polled.moves) w.polled.stop used.met.taken ≡ Some (told_of p) → IsMade login rules t
    by_after after.Pending s e = let no : Pending ≡ Connected n id v = sym s.0 ∙ shown in cc
    by_after (after.Answered answer) s e = record {
      kept = w.end;
      link = w.link;
      is = s.1;
      open_writes = λ r.
          let none : w.polled.stop ≡ NoStop = answered_by w.polled.stop (stop_kept login (moved_all first_kept w.polled.moves)) used.met.taken (facts_kept login (moved_all first_kept w.polled.moves)).place answer e in
          ap (λ (l : Looks). l.writes) (subst (λ (st : Stop). StopsAt st w.polled.moved w.link) none w.polled.stops) ∙ stays_open w.polled.moves x w.polled.moved (planned.1 ∙ r) w.polled.leads;
    }
    by_after (after.Failed x) s e = let no : Failed x ≡ Connected n id v = sym s.0 ∙ shown in cc

dialed_made : (login : Login) (plan : Option (List ReadItem)) (is : List ReadItem) (rules : Option (List WriteItem)) (items : Option (List DialItem)) (n id : ℕ) (v : ServerVersion) (o : Outcome) (us : List Use) (t : Handle) → plan ≡ Some is → o ≡ Connected n id v → Dials login plan rules items 0 o us t → IsMade login rules t
dialed_made login None is rules items n id v o us t told shown d = cc
dialed_made login (Some plan) is rules items n id v o us t told shown (Holds left e f g held) = let no : Pending ≡ Connected n id v = sym e ∙ shown in cc
dialed_made login (Some plan) is rules items n id v o us t told shown (Fails left e f g failed) = let no : Failed (io_error Dial 0) ≡ Connected n id v = sym e ∙ shown in cc
dialed_made login (Some plan) is rules items n id v o us t told shown (Links used x left same new given conn) = made_by login plan rules n id v x o used t shown new.planned conn

-- `ping` on what it made
pinged : (q : Option Asked) (login : Login) (k : Kept) (y : Looks) (o : Outcome) (us : List Use) (t : Handle) → o ≡ Pending → BeginsOn q login 0 Ping k y o us t → PolledOnce login 0 (asked_by k Ping) (asking k Ping None) y o us t
pinged None login k y o us t shown r = by_closed (is_refused (has_closed (made_of k.calls)) (kind_of Ping)) r
  where
    by_closed : (b : Bool) → Begins b login 0 Ping k y o us t → PolledOnce login 0 (asked_by k Ping) (asking k Ping None) y o us t
    by_closed true r = let no : Failed connection_closed ≡ Pending = sym r.outcome ∙ shown in cc
    by_closed false r = r
pinged (Some a) login k y o us t shown r = let no : NoSuchHandle ≡ Pending = sym r.outcome ∙ shown in cc

pending_after : (p : After) → Pending ≡ shown p → p ≡ after.Pending
pending_after after.Pending e = refl
pending_after (after.Answered answers.Ready) e = cc
pending_after (after.Answered (answers.Row row)) e = cc
pending_after (after.Answered answers.SetEnd) e = cc
pending_after (after.Answered answers.NoSet) e = cc
pending_after (after.Answered (answers.Stmt s)) e = cc
pending_after (after.Answered (answers.Flag flag)) e = cc
pending_after (after.Failed x) e = cc

last_call : (xs : List TapeCall) (x c y : TapeCall) → xs ++ x ∷ [] ≡ c ∷ y ∷ [] → x ≡ y
last_call [] x c y e = cc
last_call (a ∷ []) x c y e = let same : a ∷ x ∷ [] ≡ c ∷ y ∷ [] = e in cc
last_call (a ∷ (b ∷ r)) x c y e = absurd (omega (arith, ap length e, length-append r (x ∷ [])))

-- what is left of a plan with a turn before the last bytes
module _ (greeting ok pong : List ℕ) (some_ok : 0 < length ok) (some_pong : 0 < length pong) where
  abbrev the_plan : List ReadItem
  the_plan = Bytes greeting ∷ Turn ∷ Bytes ok ∷ Turn ∷ Bytes pong ∷ []

  abbrev IsTurnOrBytes : List ReadItem → Type 0
  IsTurnOrBytes js = (js ≡ Turn ∷ Bytes pong ∷ []) ⊎ ((bs : List ℕ) × (more : List ReadItem) × (js ≡ Bytes bs ∷ more))

  sizes : (js : List ReadItem) → spelled the_plan ≡ (greeting ++ ok) ++ spelled js → length (spelled js) ≡ length pong
  sizes js e = omega (arith, ap length e, length-append greeting (ok ++ (pong ++ [])), length-append ok (pong ++ []), length-append pong [], length-append (greeting ++ ok) (spelled js), length-append greeting ok)

  whole_left : (used js : List ReadItem) → the_plan ≡ used ++ js → length (spelled js) ≡ length pong → IsTurnOrBytes js
  whole_left [] js e n = inr (greeting, Turn ∷ Bytes ok ∷ Turn ∷ Bytes pong ∷ [], sym e)
  whole_left (i ∷ []) js e n =
      let is : Turn ∷ Bytes ok ∷ Turn ∷ Bytes pong ∷ [] ≡ js = cc in
      absurd (omega (arith, n, ap (λ (xs : List ReadItem). length (spelled xs)) is, length-append ok (pong ++ []), length-append pong [], some_ok))
  whole_left (i ∷ (j ∷ [])) js e n = let is : js ≡ Bytes ok ∷ Turn ∷ Bytes pong ∷ [] = cc in inr (ok, Turn ∷ Bytes pong ∷ [], is)
  whole_left (i ∷ (j ∷ (k ∷ []))) js e n = let is : js ≡ Turn ∷ Bytes pong ∷ [] = cc in inl is
  whole_left (i ∷ (j ∷ (k ∷ (l ∷ [])))) js e n = let is : js ≡ Bytes pong ∷ [] = cc in inr (pong, [], is)
  whole_left (i ∷ (j ∷ (k ∷ (l ∷ (m ∷ []))))) js e n = let is : [] ≡ js = cc in absurd (omega (arith, n, ap (λ (xs : List ReadItem). length (spelled xs)) is, some_pong))
  whole_left (i ∷ (j ∷ (k ∷ (l ∷ (m ∷ (o ∷ used)))))) js e n = cc

  left_of : (js : List ReadItem) → length (spelled js) ≡ length pong → IsLeft the_plan js → IsTurnOrBytes js
  left_of js n (Whole used e) = whole_left used js e n
  left_of js n (Part used more read rest e f) = inr (rest, more, f)

  items_left : (plan left : Option (List ReadItem)) (taken : List ℕ) → plan ≡ Some the_plan → taken ≡ greeting ++ ok → ReadsSpent plan left taken → (left ≡ Some (Turn ∷ Bytes pong ∷ [])) ⊎ ((bs : List ℕ) × (more : List ReadItem) × (left ≡ Some (Bytes bs ∷ more)))
  items_left None left taken e f s = cc
  items_left (Some plan) None taken e f s = absurd s
  items_left (Some plan) (Some js) taken e f s =
      let is : plan ≡ the_plan = cc in
      let bytes : spelled the_plan ≡ (greeting ++ ok) ++ spelled js = sym (ap spelled is) ∙ s.bytes ∙ ap (λ bs. bs ++ spelled js) f in
      elim (left_of js (sizes js bytes) (subst (λ (p : List ReadItem). IsLeft p js) is s.left_is)) as (λ _. (Some js ≡ Some (Turn ∷ Bytes pong ∷ [])) ⊎ ((bs : List ℕ) × (more : List ReadItem) × (Some js ≡ Some (Bytes bs ∷ more)))) [
        | inl x ↦ inl (ap Some x)
        | inr x ↦ inr (x.0, x.1, ap Some x.2)
      ]

pub no_hold_in_turn : NoHoldInTurn
no_hold_in_turn login plans before later greeting ok pong a b t c n id v some_ok some_pong told rules shown pending uses taken calls longer w =
    let o = two_lines w.lines steps.Conn (steps.Ping 0) w.steps_are in
    let l : Line = o.0 in
    let m : Line = o.1 in
    let answered : answer_view a ∷ answer_view b ∷ [] ≡ record { number = l.number; outcome = l.outcome; uses = l.uses } ∷ record { number = m.number; outcome = m.outcome; uses = m.uses } ∷ [] = w.answered ∙ ap answers_of o.2 in
    let first : l.outcome ≡ Connected 0 id v = sym (ap first_outcome answered) ∙ shown in
    let second : m.outcome ≡ Pending = sym (ap second_outcome answered) ∙ pending in
    let second_uses : m.uses ≡ use_of 0 (record nothing_met { holds = 1 }) ∷ [] = sym (ap uses_second answered) ∙ uses in
    let grown = subst (AreGrown login plans) o.2 w.grown in
    let next : DialsNext login plans [] l.outcome l.uses l.handles = subst (λ (s : Step). StepGrows login plans (is_found (target s) s []) (aim_at (target s) []) (statement_named (named_statement s) (statements_of [])) [] s l.outcome l.uses l.handles) o.3 grown.1.0.answer in
    let there : At 0 (Calls login 0 Ping) l.handles m.outcome m.uses m.handles = subst (λ (s : Step). StepGrows login plans (is_found (target s) s (l ∷ [])) (aim_at (target s) (l ∷ [])) (statement_named (named_statement s) (statements_of (l ∷ []))) l.handles s m.outcome m.uses m.handles) o.4 grown.0.answer in
    let made = dialed_made login (plans.reads 0) _ (plans.writes 0) (plans.dials 0) 0 id v l.outcome l.uses next.made told first next.dials in
    let handles : l.handles ≡ Joined true made.kept made.link ∷ [] = next.others ∙ ap (λ (h : Handle). h ∷ []) made.is in
    let begun : BeginsOn made.kept.pending login 0 Ping made.kept made.link m.outcome m.uses there.made = subst (λ (hs : List Handle). Calls login 0 Ping (at_number hs 0) m.outcome m.uses there.made) handles there.does in
    let r = pinged made.kept.pending login made.kept made.link m.outcome m.uses there.made second begun in
    let fits : IsFit (plans.reads 0) (plans.dials 0) (Joined true made.kept made.link) = subst (λ (hs : List Handle). IsFit (plans.reads 0) (plans.dials 0) (at_number hs 0)) handles (grown_fit login plans (l ∷ []) grown.1 0) in
    let after_is : r.after ≡ after.Pending = pending_after r.after (sym second ∙ r.outcome) in
    let polled : IsPolled login (asked_by made.kept Ping) (asking made.kept Ping None) made.link r.used.met after.Pending r.end r.link = subst (λ (p : After). IsPolled login (asked_by made.kept Ping) (asking made.kept Ping None) made.link r.used.met p r.end r.link) after_is r.polled in
    let met_is : r.used.met ≡ record nothing_met { holds = 1 } = ap first_met (sym r.uses ∙ second_uses) in
    let tapes : tape_view t ∷ [] ≡ tape_of 0 r.end ∷ [] =
    w.tapes_are ∙ ap (λ (ls : List Line). tapes_in 0 (handles_after ls)) o.2 ∙ ap (tapes_in 0) (there.others ∙ ap (put_at 0 there.made) handles) ∙ ap (λ (h : Handle). tapes_in 0 (h ∷ [])) r.left in
    let pinging : Kept = asking made.kept Ping None in
    let ping : Asked = asked_by made.kept Ping in
    let end_is : r.end ≡ moved_all pinging polled.moves = polled.ends in
    let sent : List ℕ = sent_by polled.moves in
    let end_sent : r.end.sent ≡ made.kept.sent ++ sent = sent_so login ping pinging made.link r.used.met after.Pending r.end r.link polled in
    let sent_is : t.sent.items ≡ made.kept.sent ++ sent = ap sent_in tapes ∙ end_sent in
    let none : received_by polled.moves ≡ [] = nil_of (received_by polled.moves) (sym (ap (λ (u : Met). u.taken) met_is) ∙ (met_so login ping pinging made.link r.used.met after.Pending r.end r.link polled).taken) in
    let taken_is : made.kept.taken ≡ greeting ++ ok = sym (append-nil made.kept.taken) ∙ ap (λ bs. made.kept.taken ++ bs) (sym none) ∙ sym (taken_so login ping pinging made.link r.used.met after.Pending r.end r.link polled) ∙ sym (ap taken_in tapes) ∙ taken in
    let open_is : map tape_call r.end.calls ++ record { call = Ping; sent_from = length made.kept.sent; answer = None } ∷ [] ≡ c ∷ record { call = Ping; sent_from = n; answer = None } ∷ [] =
    ap (λ (q : Option Asked). map tape_call r.end.calls ++ open_call q) (sym (ap (λ (x : Kept). x.pending) end_is ∙ all_pending pinging polled.moves)) ∙ sym (ap calls_in tapes) ∙ calls in
    let from : length made.kept.sent ≡ n = ap (λ (x : TapeCall). x.sent_from) (last_call (map tape_call r.end.calls) _ c _ open_is) in
    let some : 0 < length sent = omega (arith, longer, ap length sent_is, length-append made.kept.sent sent, from) in
    let unheld : made.link.writes ≡ Some [] = made.open_writes rules in
    elim (items_left greeting ok pong some_ok some_pong (plans.reads 0) made.link.items made.kept.taken told taken_is fits.reads) as (λ _. ⊥) [
      | inl x ↦ no_hold_met login (asked_by made.kept Ping) (asking made.kept Ping None) r.end made.link r.link r.used.met pong sent [] met_is (inl x) unheld some end_sent polled
      | inr x ↦ no_hold_met login (asked_by made.kept Ping) (asking made.kept Ping None) r.end made.link r.link r.used.met x.0 sent x.1 met_is (inr x.2) unheld some end_sent polled
    ]
  where
    first_outcome : List AnswerView → Outcome
    first_outcome [] = Pending
    first_outcome (v ∷ vs) = v.outcome

    second_outcome : List AnswerView → Outcome
    second_outcome (v ∷ (u ∷ vs)) = u.outcome
    second_outcome vs = Pending

    uses_second : List AnswerView → List Use
    uses_second (v ∷ (u ∷ vs)) = u.uses
    uses_second vs = []

    first_met : List Use → Met
    first_met [] = nothing_met
    first_met (u ∷ us) = u.met

    sent_in : List TapeView → List ℕ
    sent_in [] = []
    sent_in (v ∷ vs) = v.sent

    taken_in : List TapeView → List ℕ
    taken_in [] = []
    taken_in (v ∷ vs) = v.taken

    calls_in : List TapeView → List TapeCall
    calls_in [] = []
    calls_in (v ∷ vs) = v.calls

-- an end that isn't the plan's
early_end : (stop : Stop) (z y : Looks) (bytes : List ℕ) (more : List ReadItem) → z.items ≡ Some (Bytes bytes ∷ more) → StopsAt stop z y → 1 ≡ ends_at stop → ⊥
early_end NoStop z y bytes more h s e = omega (arith, e)
early_end ReadHold z y bytes more h s e = omega (arith, e)
early_end WriteHold z y bytes more h s e = omega (arith, e)
early_end ReadFault z y bytes more h s e = omega (arith, e)
early_end WriteFault z y bytes more h s e = omega (arith, e)
early_end LinkEnd z y bytes more h s e = let t = told_some z.items y.items (Bytes bytes ∷ more) (λ is js. after_end is ≡ Some js) h s.items in let no : None ≡ Some t.0 = t.2 in cc

has_plan : (plan : Option (List ReadItem)) (rules : Option (List WriteItem)) (x : Looks) (is : List ReadItem) → plan ≡ Some is → HasPlan plan rules x → x.items ≡ Some is
has_plan None rules x is e h = cc
has_plan (Some plan) rules x is e h = h.0 ∙ e

connect_end : (login : Login) (x : Looks) (o : Outcome) (used : Use) (t : Handle) (bytes : List ℕ) (more : List ReadItem) → x.items ≡ Some (Bytes bytes ∷ more) → used ≡ use_of 0 (record nothing_met { ends = 1 }) → Connects login 0 first_asked first_kept x o used t → ⊥
connect_end login x o used t bytes more h is w =
    let met : Met = record nothing_met { ends = 1 } in
    let met_is : used.met ≡ met = ap (λ (u : Use). u.met) is in
    let p = w.polled in
    let so = met_so login first_asked first_kept x used.met w.after w.end w.link p in
    let none : received_by p.moves ≡ [] = nil_of (received_by p.moves) (sym (ap (λ (m : Met). m.taken) met_is) ∙ so.taken) in
    early_end p.stop p.moved w.link bytes more (stays_first p.moves x p.moved bytes more h p.leads none) p.stops (sym (ap (λ (m : Met). m.ends) met_is) ∙ so.ends)

dial_end : (login : Login) (plan : Option (List ReadItem)) (rules : Option (List WriteItem)) (items : Option (List DialItem)) (o : Outcome) (us : List Use) (t : Handle) (bytes : List ℕ) (more : List ReadItem) → plan ≡ Some (Bytes bytes ∷ more) → us ≡ quiet 0 ∷ use_of 0 (record nothing_met { ends = 1 }) ∷ [] → Dials login plan rules items 0 o us t → ⊥
dial_end login plan rules items o us t bytes more told ue (Holds left e f g held) = let no : held_use 0 ∷ [] ≡ quiet 0 ∷ use_of 0 (record nothing_met { ends = 1 }) ∷ [] = sym f ∙ ue in cc
dial_end login plan rules items o us t bytes more told ue (Fails left e f g failed) = let no : failed_use 0 ∷ [] ≡ quiet 0 ∷ use_of 0 (record nothing_met { ends = 1 }) ∷ [] = sym f ∙ ue in cc
dial_end login plan rules items o us t bytes more told ue (Links used x left is new given conn) =
    let both : quiet 0 ∷ used ∷ [] ≡ quiet 0 ∷ use_of 0 (record nothing_met { ends = 1 }) ∷ [] = sym is ∙ ue in
    connect_end login x o used t bytes more (has_plan plan rules x (Bytes bytes ∷ more) told new.planned) (ap second both) conn
  where
    second : List Use → Use
    second (u ∷ (v ∷ vs)) = v
    second us = quiet 0

pub no_early_end : NoEarlyEnd
no_early_end login plans before later greeting more a t some told shown uses w =
    let r = lone login plans before later a (t ∷ []) w in
    dial_end login (plans.reads 0) (plans.writes 0) (plans.dials 0) a.outcome a.uses.items r.made greeting more told uses r.dials

-- bytes that the plan doesn't have
other_first : (plan left : Option (List ReadItem)) (more : List ReadItem) (taken : List ℕ) → plan ≡ Some (Bytes (2 ∷ []) ∷ more) → taken ≡ 1 ∷ [] → ReadsSpent plan left taken → ⊥
unfolding first_of
other_first None left more taken e f s = let no : None ≡ Some (Bytes (2 ∷ []) ∷ more) = e in cc
other_first (Some plan) None more taken e f s = s
other_first (Some plan) (Some left) more taken e f s =
    let is : plan ≡ Bytes (2 ∷ []) ∷ more = cc in
    let bytes : 2 ∷ spelled more ≡ 1 ∷ spelled left = sym (ap spelled is) ∙ s.bytes ∙ ap (λ bs. bs ++ spelled left) f in
    omega (arith, ap first_of bytes)

taken_there : (plan : Option (List ReadItem)) (items : Option (List DialItem)) (more : List ReadItem) (h : Handle) (v : TapeView) → plan ≡ Some (Bytes (2 ∷ []) ∷ more) → v.taken ≡ 1 ∷ [] → v ∷ [] ≡ tape_at 0 h ++ [] → IsFit plan items h → ⊥
taken_there plan items more Absent v e f t w = let no : v ∷ [] ≡ [] = t in cc
taken_there plan items more (Dialing left) v e f t w = let no : v ∷ [] ≡ [] = t in cc
taken_there plan items more (Joined there k x) v e f t w = other_first plan x.items more k.taken e (sym (ap taken_in t) ∙ f) w.reads
  where
    taken_in : List TapeView → List ℕ
    taken_in [] = []
    taken_in (v ∷ vs) = v.taken

pub no_other_taken : NoOtherTaken
no_other_taken login plans before later more a t told number taken w =
    let r = lone login plans before later a (t ∷ []) w in
    taken_there (plans.reads 0) (plans.dials 0) more r.made (tape_view t) told taken r.shown r.fits

-- a quit on a closed session
pub no_fault_at_rest : NoFaultAtRest
no_fault_at_rest login k end x y u place closed w =
    let f : Kept = moved_all (asking k Quit None) w.moves in
    let shut : has_closed (made_of f.calls) ≡ true = ap (λ cs. has_closed (made_of cs)) (all_calls (asking k Quit None) w.moves) ∙ closed in
    let returns : stop_kept login f ≡ Some (reading.Returns ToldReady) = stop_closed login f (asked_by k Quit) (all_pending (asking k Quit None) w.moves) shut in
    let told = returned_by w.stop ToldReady u.taken (facts_kept login f).place (Some (ToldError (io_error Link place)))
    (ap (λ s. comes_to w.stop s u.taken (facts_kept login f).place) (sym returns) ∙ w.comes) in
    let no : Some (ToldError (io_error Link place)) ≡ Some ToldReady = told.1 in
    cc

-- an input that broke off
broken_off : (words : List (List ℕ)) (world later : WorldSeen) (s r : SourceSeen) (w v : SinkSeen) (t : Transcript) (status : Status) → s.ends ≡ 0 → r.ends ≡ 0 → HasRead status → EndsBy words world later s r w v t status → ⊥
broken_off words world later s r w v t ends.Done e f h c = omega (arith, e, f, c.input.read.ended.1)
broken_off words world later s r w v t ends.NoCommand e f h c = h
broken_off words world later s r w v t (ends.Unread line) e f h c = omega (arith, e, f, c.2.read.ended.1)
broken_off words world later s r w v t ends.SourceFailed e f h c = h
broken_off words world later s r w v t ends.SinkFailed e f h c = omega (arith, e, f, c.input.read.ended.1)
broken_off words world later s r w v t (ends.Refused fault) e f h c = h
broken_off words world later s r w v t ends.TooLong e f h c = h
broken_off words world later s r w v t ends.NoMemory e f h c = h

pub no_broken_input : NoBrokenInput
no_broken_input words world later s r w v report e f h c = broken_off words world later s r w v report.transcript report.status e f h c

-- a source that is said to have failed did
source_rose : (words : List (List ℕ)) (world later : WorldSeen) (s r : SourceSeen) (w v : SinkSeen) (t : Transcript) (status : Status) → status ≡ ends.SourceFailed → EndsBy words world later s r w v t status → Rose s.faults r.faults
source_rose words world later s r w v t status e c = (subst (EndsBy words world later s r w v t) e c).3.fault

pub no_source_fault : NoSourceFault
no_source_fault words world later s r w v report none still e c = let rose = source_rose words world later s r w v report.transcript report.status e c in omega (arith, none, still, rose.1)

-- no statement is at a number that is spent, nor at one that wasn't given
spent_none : (given : List (Option StatementView)) (number : ℕ) → statement_at (slice_set given number None) number ≡ None
spent_none [] number = refl
spent_none (x ∷ xs) zero = refl
spent_none (x ∷ xs) (suc number) = spent_none xs number

past_none : (given : List (Option StatementView)) (number : ℕ) → length given ≤ number → statement_at given number ≡ None
past_none [] number h = refl
past_none (x ∷ xs) zero h = absurd (omega (arith, h))
past_none (x ∷ xs) (suc number) h = past_none xs number (omega (arith, h))

-- there an execution is refused
not_executed : (login : Login) (plans : Plans) (ls : List Line) (l : Line) (n number : ℕ) (params : Params) → l.step ≡ steps.Execute n number params → statement_at (statements_of ls) number ≡ None → AreGrown login plans (l ∷ ls) → l.outcome ≡ NoSuchHandle
not_executed login plans ls l n number params is none w =
    let at : At n (WorkAt login plans n (execute_work (statement_at (statements_of ls) number) params)) (handles_after ls) l.outcome l.uses l.handles =
    subst (λ (s : Step). StepGrows login plans (is_found (target s) s ls) (aim_at (target s) ls) (statement_named (named_statement s) (statements_of ls)) (handles_after ls) s l.outcome l.uses l.handles) is w.0.answer in
    (subst (λ (q : Option StatementView). WorkAt login plans n (execute_work q params) (at_number (handles_after ls) n) l.outcome l.uses at.made) none at.does).outcome

pub no_closed_execution : NoClosedExecution
no_closed_execution login plans ls l m n k number params closes done is shown w =
    let given = statements_of ls in
    let none : statement_at (statements_by given m.step m.outcome) number ≡ None =
    ap (λ (s : Step). statement_at (statements_by given s m.outcome) number) closes ∙ ap (λ (o : Outcome). statement_at (statements_by given (steps.CloseStatement k number) o) number) done ∙ spent_none given number in
    shown (not_executed login plans (m ∷ ls) l n number params is none w)

pub no_ungiven_execution : NoUngivenExecution
no_ungiven_execution login plans ls l n number params past is shown w = shown (not_executed login plans ls l n number params is (past_none (statements_of ls) number past) w)

-- a transaction that was given up isn't there
pub no_forgotten_rollback : NoForgottenRollback
no_forgotten_rollback login plans ls l m n forgets done is shown w =
    let here : (n == n) ≡ true = eq-eqb n n refl in
    let made : beside_by n (beside_of n ls) m.step m.outcome ≡ (if n == n then beside_after (beside_of n ls) (steps.ForgetTransaction n) outcomes.Done else beside_of n ls) =
    ap (λ (s : Step). beside_by n (beside_of n ls) s m.outcome) forgets ∙ ap (λ (o : Outcome). beside_by n (beside_of n ls) (steps.ForgetTransaction n) o) done in
    let gone : is_found (Some n) (steps.Rollback n) (m ∷ ls) ≡ false =
    ap (λ (b : Beside). finds b (steps.Rollback n)) made ∙ ap (λ (b : Bool). finds (if b then beside_after (beside_of n ls) (steps.ForgetTransaction n) outcomes.Done else beside_of n ls) (steps.Rollback n)) here in
    let at : At n (WorkAt login plans n (found_work (is_found (Some n) (steps.Rollback n) (m ∷ ls)) (works.Begin Rollback))) m.handles l.outcome l.uses l.handles =
    subst (λ (s : Step). StepGrows login plans (is_found (target s) s (m ∷ ls)) (aim_at (target s) (m ∷ ls)) (statement_named (named_statement s) (statements_of (m ∷ ls))) m.handles s l.outcome l.uses l.handles) is w.0.answer in
    shown (subst (λ (b : Bool). WorkAt login plans n (found_work b (works.Begin Rollback)) (at_number m.handles n) l.outcome l.uses at.made) gone at.does).outcome
