-- A property of what connections keep that holds of a handshake that begins, and stays as calls begin, go on and end, holds at each number
-- of a run.
use Rattle.std.proofs.Common.{ℕ, ◌≡◌, zero, suc, List, [], ◌∷◌, ◌++◌, Bool, true, false, Option, Some, None, refl, sym, ap, ◌∙◌, subst}
use Rattle.my_value.specs.RowParts.{RowParts}
use Rattle.my_params.specs.declared.params.Params.{Params}
use Rattle.my_statements.specs.Prepared.{StatementView}
use Rattle.my_grammar.specs.declared.login.Login.{Login}
use Rattle.my_link.specs.declared.dialer.DialItem.{DialItem}
use Rattle.my_link.specs.declared.link.ReadItem.{ReadItem}
use Rattle.my_link.specs.declared.link.WriteItem.{WriteItem}
use Rattle.my_link.specs.declared.met.Met.{Met}
use Rattle.my_link.specs.Looks.{Looks}
use Rattle.my_link.specs.Moves.{received_by, sent_by}
use Rattle.my_reading.specs.declared.answer.Answer.TheVariants as answers
use Rattle.my_reading.specs.declared.call.Call.{Call}
use Rattle.my_reading.specs.declared.call.Call.TheVariants as calls
use Rattle.my_reading.specs.Calls.{kind_of, is_connect}
use Rattle.my_client.specs.Made.{has_closed}
use Rattle.my_session.specs.Sessions.{is_refused}
use Rattle.my_script.specs.declared.action.Action.{Action}
use Rattle.my_script.specs.declared.action.Action.TheVariants as actions
use Rattle.my_script.specs.declared.action.Work.{Work}
use Rattle.my_script.specs.declared.action.Work.TheVariants as works
use Rattle.my_script.specs.Actions.{action_of, close_work, execute_work, found_work}
use Rattle.my_script.specs.declared.aim.Aim.{Aim}
use Rattle.my_script.specs.declared.aim.Aim.TheVariants as aims
use Rattle.my_script.specs.declared.step.Step.{Step}
use Rattle.my_script.specs.declared.step.Step.TheVariants as steps
use Rattle.my_script.specs.declared.transcript.Outcome.{Outcome}
use Rattle.my_script.specs.declared.transcript.Use.{Use}
use Rattle.my_script.specs.Numbered.{named_statement, statement_named}
use Rattle.my_script.specs.Streams.{is_skip, target}
use Rattle.my_client.specs.declared.poll.After.{After}
use Rattle.my_client.specs.declared.poll.After.TheVariants as after
use Rattle.my_client.specs.declared.tape.Said.{Said}
use Rattle.my_client.specs.Ends.{kept_after}
use Rattle.my_client.specs.Kept.{Asked, Kept, made_of, asking, asked_by, ended_by, first_asked, first_kept}
use Rattle.my_link.specs.World.{Plans}
use Rattle.my_client.specs.Polls.{IsPolled, moved_by}
use Rattle.my_client.proofs.Moving.{all_pending}
use Rattle.my_run.proofs.Polls.{all_calls, all_sent, all_taken}
use Rattle.my_steps.specs.Grows.{Line, aim_at, IsRefused, OnConnection, PolledOnce, IsClosed, Begins, BeginsOn, Calls, ConnectShows, Connects, Dials, Holds, Fails, Links, Gathers, GathersOn, Collects, CollectsOn, CollectsAt, PollsOn, PollsCall, Then, Skips, Follows, Reads, ReadsOn, ReadsAt, Items, ItemsOn, ItemsAt, LetsGoWith, LetsGo, GoesOnWith, GoesOn, CancelsWith, Cancels, TellsWith, TellsFields, At, StepGrows, AreGrown, gathered, next_asked, handles_after, is_done, is_found, statements_of, has_taken, WorkAt, ActionGrows}
use Rattle.my_steps.specs.Handle.{Handle, Absent, Dialing, Joined, at_number, put_at}

-- what is at a number has the property
abbrev pub HasAt : (Kept → Type 0) → Handle → Type 0
HasAt P Absent = Unit {0}
HasAt P (Dialing left) = Unit {0}
HasAt P (Joined there k x) = P k

abbrev pub AllHave : (Kept → Type 0) → List Handle → Type 0
AllHave P [] = Unit {0}
AllHave P (h ∷ hs) = HasAt P h × AllHave P hs

-- no step begins a handshake
abbrev pub IsPlain : Work → Type 0
IsPlain (works.Begin call) = is_connect (kind_of call) ≡ false
IsPlain work = Unit {0}

abbrev pub PlainAction : Action → Type 0
PlainAction actions.Dial = Unit {0}
PlainAction (actions.Move line) = Unit {0}
PlainAction (actions.Visit n work) = IsPlain work

found_plain : (found : Bool) (work : Work) → IsPlain work → IsPlain (found_work found work)
found_plain true work p = p
found_plain false work p = tt

execute_plain : (named : Option StatementView) (params : Params) → IsPlain (execute_work named params)
execute_plain None params = tt
execute_plain (Some s) params = refl

close_plain : (named : Option StatementView) → IsPlain (close_work named)
close_plain None = tt
close_plain (Some s) = refl

pub are_plain : (found : Bool) (aim : Aim) (named : Option StatementView) (step : Step) → PlainAction (action_of found aim named step)
are_plain found aim named steps.Conn = tt
are_plain found aim named (steps.Query n text) = refl
are_plain found aim named (steps.Prepare n text) = refl
are_plain found aim named (steps.Execute n number params) = execute_plain named params
are_plain found aim named (steps.CloseStatement n number) = close_plain named
are_plain found aim named (steps.Next n) = tt
are_plain found aim named (steps.Collect n) = tt
are_plain found aim named (steps.Stream n) = tt
are_plain found aim named (steps.Item n) = found_plain found works.Item tt
are_plain found aim named (steps.Unstream n) = found_plain found works.LetGo tt
are_plain found aim named (steps.Drop n) = refl
are_plain found aim named (steps.Ping n) = refl
are_plain found aim named (steps.Reset n) = refl
are_plain found aim named (steps.User n change) = refl
are_plain found aim named (steps.Begin n opts) = refl
are_plain found aim named (steps.Commit n) = found_plain found (works.Begin calls.Commit) refl
are_plain found aim named (steps.Rollback n) = found_plain found (works.Begin calls.Rollback) refl
are_plain found aim named (steps.ForgetTransaction n) = found_plain found (works.Begin calls.ForgetTransaction) refl
are_plain found aim named (steps.Quit n) = refl
are_plain found aim named (steps.Fields n) = tt
are_plain found aim named (steps.Poll n) = tt
are_plain found aim named (steps.Cancel n) = tt
are_plain found aim named (steps.Advance by) = tt
are_plain found aim named (steps.Random word) = tt

module _ (P : Kept → Type 0)
    (begun : (k : Kept) (call : Call) (rows : Option (List RowParts)) → k.pending ≡ None → is_connect (kind_of call) ≡ false → P k → P (asking k call rows))
    (ended : (k : Kept) (a : Asked) (said : Said) → k.pending ≡ Some a → P k → P (ended_by k a said))
    (followed : (k f : Kept) (sent taken : List ℕ) → f.sent ≡ k.sent ++ sent → f.taken ≡ k.taken ++ taken → f.calls ≡ k.calls → f.pending ≡ k.pending → P k → P f)
    (first : P first_kept) where
  module _ (login : Login) where
    poll_keeps : (a : Asked) (b : Kept) (p : After) → b.pending ≡ Some a → P b → P (kept_after b a p)
    poll_keeps a b after.Pending e w = w
    poll_keeps a b (after.Answered answer) e w = ended b a _ e w
    poll_keeps a b (after.Failed x) e w = ended b a _ e w

    polled_keeps : (a : Asked) (k end : Kept) (x y : Looks) (u : Met) (p : After) → k.pending ≡ Some a → P k → IsPolled login a k x u p end y → P end
    polled_keeps a k end x y u p e w r =
        let f : Kept = moved_by k r.moves in
        let same : f.pending ≡ k.pending = all_pending k r.moves in
        subst P (sym r.ends) (poll_keeps a f p (same ∙ e) (followed k f (sent_by r.moves) (received_by r.moves) (all_sent k r.moves) (all_taken k r.moves) (all_calls k r.moves) same w))

    -- what each step leaves at its number
    refused_keeps : (h : Handle) (o : Outcome) (us : List Use) (t : Handle) → HasAt P h → IsRefused h o us t → HasAt P t
    refused_keeps h o us t w r = subst (HasAt P) (sym r.same) w

    closed_keeps : (k : Kept) (x : Looks) (call : Call) (o : Outcome) (us : List Use) (t : Handle) → k.pending ≡ None → is_connect (kind_of call) ≡ false → P k → IsClosed k x call o us t → HasAt P t
    closed_keeps k x call o us t none other w r = subst (HasAt P) (sym r.left) (ended (asking k call None) (asked_by k call) _ refl (begun k call None none other w))

    once_keeps : (n : ℕ) (a : Asked) (k : Kept) (x : Looks) (o : Outcome) (us : List Use) (t : Handle) → k.pending ≡ Some a → P k → PolledOnce login n a k x o us t → HasAt P t
    once_keeps n a k x o us t e w r = subst (HasAt P) (sym r.left) (polled_keeps a k r.end x r.link r.used.met r.after e w r.polled)

    begins_keeps : (b : Bool) (n : ℕ) (call : Call) (k : Kept) (x : Looks) (o : Outcome) (us : List Use) (t : Handle) → k.pending ≡ None → is_connect (kind_of call) ≡ false → P k → Begins b login n call k x o us t → HasAt P t
    begins_keeps true n call k x o us t none other w r = closed_keeps k x call o us t none other w r
    begins_keeps false n call k x o us t none other w r = once_keeps n (asked_by k call) (asking k call None) x o us t refl (begun k call None none other w) r

    begins_on : (q : Option Asked) (n : ℕ) (call : Call) (k : Kept) (x : Looks) (o : Outcome) (us : List Use) (t : Handle) → k.pending ≡ q → is_connect (kind_of call) ≡ false → P k → BeginsOn q login n call k x o us t → HasAt P t
    begins_on None n call k x o us t e other w r = begins_keeps (is_refused (has_closed (made_of k.calls)) (kind_of call)) n call k x o us t e other w r
    begins_on (Some a) n call k x o us t e other w r = refused_keeps (Joined true k x) o us t w r

    on_keeps : (R : Kept → Looks → Outcome → List Use → Handle → Type 0) (o : Outcome) (us : List Use) (h t : Handle) → ((k : Kept) (x : Looks) → P k → R k x o us t → HasAt P t) → HasAt P h → OnConnection R h o us t → HasAt P t
    on_keeps R o us Absent t on w r = refused_keeps Absent o us t w r
    on_keeps R o us (Dialing left) t on w r = refused_keeps (Dialing left) o us t w r
    on_keeps R o us (Joined false k x) t on w r = refused_keeps (Joined false k x) o us t w r
    on_keeps R o us (Joined true k x) t on w r = on k x w r

    calls_keeps : (n : ℕ) (call : Call) (o : Outcome) (us : List Use) (h t : Handle) → is_connect (kind_of call) ≡ false → HasAt P h → Calls login n call h o us t → HasAt P t
    calls_keeps n call o us h t other = on_keeps (λ k. BeginsOn k.pending login n call k) o us h t (λ k x. begins_on k.pending n call k x o us t refl other)

    -- a gathering
    gathers_on : (More : Asked → Kept → Looks → Outcome → Handle → Type 0) (us : List Use) (a : Asked) (b end : Kept) (y : Looks) (o : Outcome) (t : Handle) (p : After) → ((c : Asked) (k : Kept) (z : Looks) → k.pending ≡ Some c → P k → More c k z o t → HasAt P t) → P end → end ≡ kept_after b a p → GathersOn More a p end y o us t → HasAt P t
    gathers_on More us a b end y o t after.Pending f w e r = subst (HasAt P) (sym r.2) w
    gathers_on More us a b end y o t (after.Answered answers.Ready) f w e r = subst (HasAt P) (sym r.2) w
    gathers_on More us a b end y o t (after.Answered (answers.Row row)) f w e r = f (next_asked end (gathered a ++ row ∷ [])) (asking end calls.NextRow (Some (gathered a ++ row ∷ []))) y refl (begun end calls.NextRow (Some (gathered a ++ row ∷ [])) (ap (λ (k : Kept). k.pending) e) refl w) r
    gathers_on More us a b end y o t (after.Answered answers.SetEnd) f w e r = subst (HasAt P) (sym r.2) w
    gathers_on More us a b end y o t (after.Answered answers.NoSet) f w e r = subst (HasAt P) (sym r.2) w
    gathers_on More us a b end y o t (after.Answered (answers.Stmt s)) f w e r = subst (HasAt P) (sym r.2) w
    gathers_on More us a b end y o t (after.Answered (answers.Flag flag)) f w e r = subst (HasAt P) (sym r.2) w
    gathers_on More us a b end y o t (after.Failed x) f w e r = subst (HasAt P) (sym r.2) w

    gathers_keeps : (n : ℕ) (us : List Use) (a : Asked) (k : Kept) (x : Looks) (o : Outcome) (t : Handle) → k.pending ≡ Some a → P k → Gathers login n us a k x o t → HasAt P t
    gathers_keeps n [] a k x o t e w r = absurd r
    gathers_keeps n (u ∷ us) a k x o t e w r =
        let polled = r.3 in
        gathers_on (Gathers login n us) us a (moved_by k polled.moves) r.1 r.2 o t r.0 (λ c m z p v g. gathers_keeps n us c m z o t p v g) (polled_keeps a k r.1 x r.2 u.met r.0 e w polled) polled.ends r.4

    collects_by : (b : Bool) (n : ℕ) (k : Kept) (x : Looks) (o : Outcome) (us : List Use) (t : Handle) → k.pending ≡ None → P k → Collects b login n k x o us t → HasAt P t
    collects_by true n k x o us t none w r = closed_keeps k x calls.NextRow o us t none refl w r
    collects_by false n k x o us t none w r = gathers_keeps n us (next_asked k []) (asking k calls.NextRow (Some [])) x o t refl (begun k calls.NextRow (Some []) none refl w) r

    collects_on : (q : Option Asked) (n : ℕ) (k : Kept) (x : Looks) (o : Outcome) (us : List Use) (t : Handle) → k.pending ≡ q → P k → CollectsOn q login n k x o us t → HasAt P t
    collects_on None n k x o us t e w r = collects_by (has_closed (made_of k.calls)) n k x o us t e w r
    collects_on (Some a) n k x o us t e w r = refused_keeps (Joined true k x) o us t w r

    collects_keeps : (n : ℕ) (o : Outcome) (us : List Use) (h t : Handle) → HasAt P h → CollectsAt login n h o us t → HasAt P t
    collects_keeps n o us h t = on_keeps (λ k. CollectsOn k.pending login n k) o us h t (λ k x. collects_on k.pending n k x o us t refl)

    -- the handshake
    shown_keeps : (n : ℕ) (end : Kept) (y : Looks) (o : Outcome) (t : Handle) (p : After) → P end → ConnectShows login n p end y o t → HasAt P t
    shown_keeps n end y o t after.Pending w s = subst (HasAt P) (sym s.1) w
    shown_keeps n end y o t (after.Answered answer) w s = subst (HasAt P) (sym s.1) w
    shown_keeps n end y o t (after.Failed x) w s = subst (HasAt P) (sym s.1) w

    connect_keeps : (n : ℕ) (a : Asked) (k : Kept) (x : Looks) (o : Outcome) (u : Use) (t : Handle) → k.pending ≡ Some a → P k → Connects login n a k x o u t → HasAt P t
    connect_keeps n a k x o u t e w r = shown_keeps n r.end r.link o t r.after (polled_keeps a k r.end x r.link u.met r.after e w r.polled) r.shows

    dials_keeps : (plan : Option (List ReadItem)) (rules : Option (List WriteItem)) (items : Option (List DialItem)) (n : ℕ) (o : Outcome) (us : List Use) (t : Handle) → Dials login plan rules items n o us t → HasAt P t
    dials_keeps plan rules items n o us t (Holds left e f g h) = subst (HasAt P) (sym g) tt
    dials_keeps plan rules items n o us t (Fails left e f g h) = subst (HasAt P) (sym g) tt
    dials_keeps plan rules items n o us t (Links u x left e new given r) = connect_keeps n first_asked first_kept x o u t refl first r

    -- a connection reads on, after the rest of a set that a stream took
    then_keeps : (b : Bool) (Next : Handle → Outcome → List Use → Handle → Type 0) (first : Outcome) (mid : Handle) (o : Outcome) (us : List Use) (t : Handle) → (HasAt P mid → Next mid o us t → HasAt P t) → HasAt P mid → Then b Next first mid o us t → HasAt P t
    then_keeps true Next first mid o us t next w r = next w r
    then_keeps false Next first mid o us t next w r = subst (HasAt P) (sym r.2) w

    skips_keeps : (R : Outcome → List Use → Handle → Type 0) (Next : Handle → Outcome → List Use → Handle → Type 0) (o : Outcome) (us : List Use) (t : Handle) → ((first : Outcome) (used : List Use) (mid : Handle) → R first used mid → HasAt P mid) → ((later : List Use) (mid : Handle) → HasAt P mid → Next mid o later t → HasAt P t) → Skips R Next o us t → HasAt P t
    skips_keeps R Next o us t f next r = then_keeps (is_done r.first) Next r.first r.mid o r.later t (next r.later r.mid) (f r.first r.used r.mid r.skips) r.follows

    follows_keeps : (aim : Aim) (n : ℕ) (o : Outcome) (us : List Use) (h t : Handle) → HasAt P h → Follows aim login n h o us t → HasAt P t
    follows_keeps aims.Take n o us h t w r = calls_keeps n calls.TakeSet o us h t refl w r
    follows_keeps aims.Row n o us h t w r = calls_keeps n calls.NextRow o us h t refl w r
    follows_keeps aims.Rows n o us h t w r = collects_keeps n o us h t w r

    reads_by : (b : Bool) (aim : Aim) (n : ℕ) (o : Outcome) (us : List Use) (h t : Handle) → HasAt P h → Reads b aim login n h o us t → HasAt P t
    reads_by true aim n o us h t w r = skips_keeps (Calls login n calls.SkipTaken h) (Follows aim login n) o us t (λ first used mid s. calls_keeps n calls.SkipTaken first used h mid refl w s) (λ later mid. follows_keeps aim n o later mid t) r
    reads_by false aim n o us h t w r = follows_keeps aim n o us h t w r

    reads_on : (q : Option Asked) (aim : Aim) (n : ℕ) (k : Kept) (x : Looks) (o : Outcome) (us : List Use) (t : Handle) → P k → ReadsOn q aim login n k x o us t → HasAt P t
    reads_on None aim n k x o us t w r = reads_by (has_taken login k) aim n o us (Joined true k x) t w r
    reads_on (Some a) aim n k x o us t w r = refused_keeps (Joined true k x) o us t w r

    reads_keeps : (aim : Aim) (n : ℕ) (o : Outcome) (us : List Use) (h t : Handle) → HasAt P h → ReadsAt aim login n h o us t → HasAt P t
    reads_keeps aim n o us h t = on_keeps (λ k. ReadsOn k.pending aim login n k) o us h t (λ k x. reads_on k.pending aim n k x o us t)

    -- an item
    items_by : (b : Bool) (n : ℕ) (k : Kept) (x : Looks) (o : Outcome) (us : List Use) (t : Handle) → P k → Items b login n k x o us t → HasAt P t
    items_by true n k x o us t w r = calls_keeps n calls.NextRow o us (Joined true k x) t refl w r
    items_by false n k x o us t w r = subst (HasAt P) (sym r.left) w

    items_on : (q : Option Asked) (n : ℕ) (k : Kept) (x : Looks) (o : Outcome) (us : List Use) (t : Handle) → P k → ItemsOn q login n k x o us t → HasAt P t
    items_on None n k x o us t w r = items_by (has_taken login k) n k x o us t w r
    items_on (Some a) n k x o us t w r = refused_keeps (Joined true k x) o us t w r

    items_keeps : (n : ℕ) (o : Outcome) (us : List Use) (h t : Handle) → HasAt P h → ItemsAt login n h o us t → HasAt P t
    items_keeps n o us h t = on_keeps (λ k. ItemsOn k.pending login n k) o us h t (λ k x. items_on k.pending n k x o us t)

    lets_go_with : (q : Option Asked) (k : Kept) (x : Looks) (o : Outcome) (us : List Use) (t : Handle) → P k → LetsGoWith q k x o us t → HasAt P t
    lets_go_with None k x o us t w r = subst (HasAt P) (sym r.left) w
    lets_go_with (Some a) k x o us t w r = refused_keeps (Joined true k x) o us t w r

    lets_go_keeps : (o : Outcome) (us : List Use) (h t : Handle) → HasAt P h → LetsGo h o us t → HasAt P t
    lets_go_keeps o us h t w r = on_keeps (λ k. LetsGoWith k.pending k) o us h t (λ k x. lets_go_with k.pending k x o us t) w r

    polls_call : (b : Bool) (aim : Aim) (n : ℕ) (a : Asked) (k : Kept) (x : Looks) (o : Outcome) (us : List Use) (t : Handle) → k.pending ≡ Some a → P k → PollsCall b aim login n a k x o us t → HasAt P t
    polls_call true aim n a k x o us t e w r = skips_keeps (PolledOnce login n a k x) (Follows aim login n) o us t (λ first used mid s. once_keeps n a k x first used mid e w s) (λ later mid. follows_keeps aim n o later mid t) r
    polls_call false aim n a k x o us t e w r = once_keeps n a k x o us t e w r

    polls_on : (b : Bool) (rows : Option (List RowParts)) (aim : Aim) (n : ℕ) (a : Asked) (k : Kept) (x : Looks) (o : Outcome) (us : List Use) (t : Handle) → k.pending ≡ Some a → P k → PollsOn b rows aim login n a k x o us t → HasAt P t
    polls_on true rows aim n a k x o us t e w r = connect_keeps n a k x o r.0 t e w r.2
    polls_on false None aim n a k x o us t e w r = polls_call (is_skip (kind_of a.call)) aim n a k x o us t e w r
    polls_on false (Some rows) aim n a k x o us t e w r = gathers_keeps n us a k x o t e w r

    goes_on_with : (q : Option Asked) (aim : Aim) (n : ℕ) (k : Kept) (x : Looks) (o : Outcome) (us : List Use) (t : Handle) → k.pending ≡ q → P k → GoesOnWith q aim login n k x o us t → HasAt P t
    goes_on_with None aim n k x o us t e w r = refused_keeps (Joined true k x) o us t w r
    goes_on_with (Some a) aim n k x o us t e w r = polls_on (is_connect (kind_of a.call)) a.rows aim n a k x o us t e w r

    goes_on_keeps : (plans : Plans) (aim : Aim) (n : ℕ) (o : Outcome) (us : List Use) (h t : Handle) → HasAt P h → GoesOn login plans aim n h o us t → HasAt P t
    goes_on_keeps plans aim n o us Absent t w r = refused_keeps Absent o us t w r
    goes_on_keeps plans aim n o us (Dialing left) t w r = dials_keeps (plans.reads n) (plans.writes n) left n o us t r
    goes_on_keeps plans aim n o us (Joined false k x) t w r = refused_keeps (Joined false k x) o us t w r
    goes_on_keeps plans aim n o us (Joined true k x) t w r = goes_on_with k.pending aim n k x o us t refl w r

    cancels_with : (q : Option Asked) (k : Kept) (x : Looks) (o : Outcome) (us : List Use) (t : Handle) → k.pending ≡ q → P k → CancelsWith q login k x o us t → HasAt P t
    cancels_with None k x o us t e w r = refused_keeps (Joined true k x) o us t w r
    cancels_with (Some a) k x o us t e w r = subst (HasAt P) (sym r.left) (ended k a _ e w)

    cancels_keeps : (o : Outcome) (us : List Use) (h t : Handle) → HasAt P h → Cancels login h o us t → HasAt P t
    cancels_keeps o us Absent t w r = refused_keeps Absent o us t w r
    cancels_keeps o us (Dialing left) t w r = subst (HasAt P) (sym r.left) tt
    cancels_keeps o us (Joined false k x) t w r = refused_keeps (Joined false k x) o us t w r
    cancels_keeps o us (Joined true k x) t w r = cancels_with k.pending k x o us t refl w r

    tells_with : (q : Option Asked) (k : Kept) (x : Looks) (o : Outcome) (us : List Use) (t : Handle) → P k → TellsWith q login k x o us t → HasAt P t
    tells_with None k x o us t w r = subst (HasAt P) (sym r.left) w
    tells_with (Some a) k x o us t w r = refused_keeps (Joined true k x) o us t w r

    tells_keeps : (o : Outcome) (us : List Use) (h t : Handle) → HasAt P h → TellsFields login h o us t → HasAt P t
    tells_keeps o us h t = on_keeps (λ k. TellsWith k.pending login k) o us h t (λ k x. tells_with k.pending k x o us t)

    -- at all numbers
    pub at_has : (hs : List Handle) (n : ℕ) → AllHave P hs → HasAt P (at_number hs n)
    at_has [] n w = tt
    at_has (h ∷ hs) zero w = w.0
    at_has (h ∷ hs) (suc n) w = at_has hs n w.1

    put_keeps : (hs : List Handle) (n : ℕ) (t : Handle) → HasAt P t → AllHave P hs → AllHave P (put_at n t hs)
    put_keeps [] n t j w = tt
    put_keeps (h ∷ hs) zero t j w = (j, w.1)
    put_keeps (h ∷ hs) (suc n) t j w = (w.0, put_keeps hs n t j w.1)

    push_keeps : (hs : List Handle) (t : Handle) → HasAt P t → AllHave P hs → AllHave P (hs ++ t ∷ [])
    push_keeps [] t j w = (j, tt)
    push_keeps (h ∷ hs) t j w = (w.0, push_keeps hs t j w.1)

    at_step : (n : ℕ) (R : Handle → Outcome → List Use → Handle → Type 0) (hs ts : List Handle) (o : Outcome) (us : List Use) → ((h t : Handle) → HasAt P h → R h o us t → HasAt P t) → AllHave P hs → At n R hs o us ts → AllHave P ts
    at_step n R hs ts o us f w r = subst (AllHave P) (sym r.others) (put_keeps hs n r.made (f (at_number hs n) r.made (at_has hs n w) r.does) w)

    -- what a step does at a number
    work_keeps : (plans : Plans) (n : ℕ) (work : Work) (o : Outcome) (us : List Use) (h t : Handle) → IsPlain work → HasAt P h → WorkAt login plans n work h o us t → HasAt P t
    work_keeps plans n (works.Begin call) o us h t plain w r = calls_keeps n call o us h t plain w r
    work_keeps plans n (works.Read aim) o us h t plain w r = reads_keeps aim n o us h t w r
    work_keeps plans n works.Item o us h t plain w r = items_keeps n o us h t w r
    work_keeps plans n works.LetGo o us h t plain w r = lets_go_keeps o us h t w r
    work_keeps plans n works.Miss o us h t plain w r = refused_keeps h o us t w r
    work_keeps plans n works.Fields o us h t plain w r = tells_keeps o us h t w r
    work_keeps plans n (works.Poll aim) o us h t plain w r = goes_on_keeps plans aim n o us h t w r
    work_keeps plans n works.Cancel o us h t plain w r = cancels_keeps o us h t w r

    action_keeps : (plans : Plans) (action : Action) (hs : List Handle) (o : Outcome) (us : List Use) (ts : List Handle) → PlainAction action → AllHave P hs → ActionGrows login plans action hs o us ts → AllHave P ts
    action_keeps plans actions.Dial hs o us ts plain w r = subst (AllHave P) (sym r.others) (push_keeps hs r.made (dials_keeps _ _ _ _ o us r.made r.dials) w)
    action_keeps plans (actions.Move line) hs o us ts plain w r = subst (AllHave P) (sym r.same) w
    action_keeps plans (actions.Visit n work) hs o us ts plain w r = at_step n (WorkAt login plans n work) hs ts o us (λ h t v g. work_keeps plans n work o us h t plain v g) w r

    step_keeps : (plans : Plans) (found : Bool) (aim : Aim) (named : Option StatementView) (hs : List Handle) (step : Step) (o : Outcome) (us : List Use) (ts : List Handle) → AllHave P hs → StepGrows login plans found aim named hs step o us ts → AllHave P ts
    step_keeps plans found aim named hs step o us ts w r = action_keeps plans (action_of found aim named step) hs o us ts (are_plain found aim named step) w r

    pub grown_keeps : (plans : Plans) (ls : List Line) → AreGrown login plans ls → AllHave P (handles_after ls)
    grown_keeps plans [] w = tt
    grown_keeps plans (l ∷ ls) w = step_keeps plans (is_found (target l.step) l.step ls) (aim_at (target l.step) ls) (statement_named (named_statement l.step) (statements_of ls)) (handles_after ls) l.step l.outcome l.uses l.handles (grown_keeps plans ls w.1) w.0.answer
