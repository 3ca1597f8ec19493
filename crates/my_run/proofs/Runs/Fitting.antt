-- Each connection fits its link's plan: what it sent, what it took, and what is left lead from line to line.
use Rattle.std.proofs.Common.{ℕ, ◌≡◌, zero, suc, List, [], ◌∷◌, ◌++◌, length, Option, Some, None, Bool, true, false, refl, sym, ap, ◌∙◌, subst}
use Rattle.my_value.specs.RowParts.{RowParts}
use Rattle.my_statements.specs.Prepared.{StatementView}
use Rattle.my_grammar.specs.declared.login.Login.{Login}
use Rattle.my_link.specs.declared.link.ReadItem.{ReadItem}
use Rattle.my_link.specs.declared.link.WriteItem.{WriteItem}
use Rattle.my_link.specs.declared.met.Met.{Met}
use Rattle.my_link.specs.declared.dialer.DialItem.{DialItem}
use Rattle.my_link.specs.declared.dialer.DialItem.TheVariants.{Wait}
use Rattle.my_link.specs.Link.{Told}
use Rattle.my_link.specs.Looks.{Looks}
use Rattle.my_link.specs.Moves.{Stop, IsUsed, received_by, sent_by}
use Rattle.my_link.specs.Spent.{Whole, HasGot, ReadsSpent, IsSpent, FaultsSpent}
use Rattle.my_link.proofs.Spending.{used_spent}
use Rattle.my_reading.specs.declared.answer.Answer.TheVariants as answers
use Rattle.my_reading.specs.declared.call.Call.{Call}
use Rattle.my_reading.specs.declared.call.Call.TheVariants.{NextRow, TakeSet, SkipTaken}
use Rattle.my_reading.specs.Calls.{kind_of}
use Rattle.my_client.specs.declared.poll.After.{After}
use Rattle.my_client.specs.declared.poll.After.TheVariants as after
use Rattle.my_script.specs.declared.action.Action.{Action}
use Rattle.my_script.specs.declared.action.Action.TheVariants as actions
use Rattle.my_script.specs.declared.action.Work.{Work}
use Rattle.my_script.specs.declared.action.Work.TheVariants as works
use Rattle.my_script.specs.Actions.{action_of}
use Rattle.my_script.specs.declared.aim.Aim.{Aim}
use Rattle.my_script.specs.declared.aim.Aim.TheVariants as aims
use Rattle.my_script.specs.declared.step.Step.{Step}
use Rattle.my_script.specs.declared.transcript.Outcome.{Outcome}
use Rattle.my_script.specs.declared.transcript.Use.{Use}
use Rattle.my_script.specs.Numbered.{named_statement, statement_named}
use Rattle.my_script.specs.Streams.{is_skip, target}
use Rattle.my_client.specs.Kept.{Asked, Kept, asking, asked_by}
use Rattle.my_link.specs.World.{Plans, HeldBy, IsFresh}
use Rattle.my_client.specs.Polls.{IsPolled}
use Rattle.my_steps.specs.Grows.{AreGrown, Line, handles_after, aim_at, is_found, statements_of, IsRefused, OnConnection, PolledOnce, IsClosed, Begins, BeginsOn, Calls, ConnectShows, Connects, HasPlan, IsNew, Dials, Holds, Fails, Links, Gathers, GathersOn, Collects, CollectsOn, CollectsAt, PollsOn, PollsCall, Then, Skips, Follows, Reads, ReadsOn, ReadsAt, Items, ItemsOn, ItemsAt, LetsGoWith, LetsGo, GoesOnWith, GoesOn, CancelsWith, Cancels, TellsWith, TellsFields, At, StepGrows, is_done, has_taken, WorkAt, ActionGrows}
use Rattle.my_steps.specs.Handle.{Handle, Absent, Dialing, Joined, at_number, put_at}
use Rattle.my_run.specs.Fits.{AllFit, EachFits, FitsLink, HasWaited, IsFit, LinksFit, waits}
use Rattle.my_run.proofs.Polls.{sent_so, taken_so, used_so}

no_rules : (plan left : Option (List ReadItem)) (rest : Option (List WriteItem)) → FaultsSpent plan left None rest 0
no_rules None left rest = tt
no_rules (Some plan) left rest = tt

-- a dial waited, the first time or again
pub waited_first : (items left : Option (List DialItem)) → HeldBy items left → Told items left HasWaited
waited_first None left held = held
waited_first (Some is) None held = held
waited_first (Some is) (Some js) held = (0, held)

waits_end : (k : ℕ) (js : List DialItem) → waits k ++ Wait ∷ js ≡ waits (suc k) ++ js
waits_end zero js = refl
waits_end (suc k) js = ap (λ is. Wait ∷ is) (waits_end k js)

pub waited_on : (items left next : Option (List DialItem)) → Told items left HasWaited → HeldBy left next → Told items next HasWaited
waited_on None left next w held = by_left left w held
  where
    by_left : (left : Option (List DialItem)) → left ≡ None → HeldBy left next → next ≡ None
    by_left None e h = h
    by_left (Some is) e h = cc
waited_on (Some is) None next w held = absurd w
waited_on (Some is) (Some js) None w held = absurd held
waited_on (Some is) (Some js) (Some ks) w held = (suc w.0, w.1 ∙ ap (λ xs. waits (suc w.0) ++ xs) held ∙ waits_end (suc w.0) ks)

module _ (plan : Option (List ReadItem)) (items : Option (List DialItem)) where
  fits_used : (x y : Looks) (sent taken out came : List ℕ) (stop : Stop) → IsUsed x y out came stop → FitsLink plan x sent taken → FitsLink plan y (sent ++ out) (taken ++ came)
  fits_used x y sent taken out came stop u f =
      let s : IsSpent plan None x sent taken 0 = record { got = f.got; reads = f.reads; failed = no_rules plan x.items x.writes } in
      let v = used_spent plan None x y sent taken out came stop 0 u s in
      record { got = v.got; reads = v.reads }

  polled_fits : (login : Login) (a : Asked) (k end : Kept) (x y : Looks) (u : Met) (p : After) → IsPolled login a k x u p end y → FitsLink plan x k.sent k.taken → FitsLink plan y end.sent end.taken
  polled_fits login a k end x y u p w f =
      subst (λ (bs : List ℕ). FitsLink plan y bs end.taken) (sym (sent_so login a k x u p end y w))
      (subst (λ (bs : List ℕ). FitsLink plan y (k.sent ++ sent_by w.moves) bs) (sym (taken_so login a k x u p end y w))
      (fits_used x y k.sent k.taken (sent_by w.moves) (received_by w.moves) w.stop (used_so login a k x u p end y w) f))

  once_fits : (login : Login) (n : ℕ) (a : Asked) (k : Kept) (x : Looks) (o : Outcome) (us : List Use) (t : Handle) → FitsLink plan x k.sent k.taken → PolledOnce login n a k x o us t → IsFit plan items t
  once_fits login n a k x o us t f r = subst (IsFit plan items) (sym r.left) (polled_fits login a k r.end x r.link r.used.met r.after r.polled f)

  kept_fits : (h : Handle) (o : Outcome) (us : List Use) (t : Handle) → IsFit plan items h → IsRefused h o us t → IsFit plan items t
  kept_fits h o us t f r = subst (IsFit plan items) (sym r.same) f

  closed_fits : (k : Kept) (x : Looks) (call : Call) (o : Outcome) (us : List Use) (t : Handle) → FitsLink plan x k.sent k.taken → IsClosed k x call o us t → IsFit plan items t
  closed_fits k x call o us t f r = subst (IsFit plan items) (sym r.left) f

  begins_fits : (b : Bool) (login : Login) (n : ℕ) (call : Call) (k : Kept) (x : Looks) (o : Outcome) (us : List Use) (t : Handle) → FitsLink plan x k.sent k.taken → Begins b login n call k x o us t → IsFit plan items t
  begins_fits true login n call k x o us t f r = closed_fits k x call o us t f r
  begins_fits false login n call k x o us t f r = once_fits login n (asked_by k call) (asking k call None) x o us t f r

  begins_on : (q : Option Asked) (login : Login) (n : ℕ) (call : Call) (k : Kept) (x : Looks) (o : Outcome) (us : List Use) (t : Handle) → FitsLink plan x k.sent k.taken → BeginsOn q login n call k x o us t → IsFit plan items t
  begins_on None login n call k x o us t f r = begins_fits _ login n call k x o us t f r
  begins_on (Some a) login n call k x o us t f r = kept_fits (Joined true k x) o us t f r

  on_fits : (R : Kept → Looks → Outcome → List Use → Handle → Type 0) (o : Outcome) (us : List Use) (h t : Handle) → ((k : Kept) (x : Looks) → FitsLink plan x k.sent k.taken → R k x o us t → IsFit plan items t) → IsFit plan items h → OnConnection R h o us t → IsFit plan items t
  on_fits R o us Absent t on f r = kept_fits Absent o us t f r
  on_fits R o us (Dialing left) t on f r = kept_fits (Dialing left) o us t f r
  on_fits R o us (Joined false k x) t on f r = kept_fits (Joined false k x) o us t f r
  on_fits R o us (Joined true k x) t on f r = on k x f r

  calls_fits : (login : Login) (n : ℕ) (call : Call) (o : Outcome) (us : List Use) (h t : Handle) → IsFit plan items h → Calls login n call h o us t → IsFit plan items t
  calls_fits login n call o us h t = on_fits (λ k. BeginsOn k.pending login n call k) o us h t (λ k x. begins_on k.pending login n call k x o us t)

  gathers_on : (More : Asked → Kept → Looks → Outcome → Handle → Type 0) (us : List Use) (a : Asked) (end : Kept) (y : Looks) (o : Outcome) (t : Handle) (p : After) → ((b : Asked) (k : Kept) → FitsLink plan y k.sent k.taken → More b k y o t → IsFit plan items t) → FitsLink plan y end.sent end.taken → GathersOn More a p end y o us t → IsFit plan items t
  gathers_on More us a end y o t after.Pending more f r = subst (IsFit plan items) (sym r.2) f
  gathers_on More us a end y o t (after.Answered answers.Ready) more f r = subst (IsFit plan items) (sym r.2) f
  gathers_on More us a end y o t (after.Answered (answers.Row row)) more f r = more _ _ f r
  gathers_on More us a end y o t (after.Answered answers.SetEnd) more f r = subst (IsFit plan items) (sym r.2) f
  gathers_on More us a end y o t (after.Answered answers.NoSet) more f r = subst (IsFit plan items) (sym r.2) f
  gathers_on More us a end y o t (after.Answered (answers.Stmt s)) more f r = subst (IsFit plan items) (sym r.2) f
  gathers_on More us a end y o t (after.Answered (answers.Flag flag)) more f r = subst (IsFit plan items) (sym r.2) f
  gathers_on More us a end y o t (after.Failed x) more f r = subst (IsFit plan items) (sym r.2) f

  gathers_fits : (login : Login) (n : ℕ) (us : List Use) (a : Asked) (k : Kept) (x : Looks) (o : Outcome) (t : Handle) → FitsLink plan x k.sent k.taken → Gathers login n us a k x o t → IsFit plan items t
  gathers_fits login n [] a k x o t f r = absurd r
  gathers_fits login n (u ∷ us) a k x o t f r = gathers_on (Gathers login n us) us a r.1 r.2 o t r.0 (λ b m g w. gathers_fits login n us b m r.2 o t g w) (polled_fits login a k r.1 x r.2 u.met r.0 r.3 f) r.4

  collects_by : (b : Bool) (login : Login) (n : ℕ) (k : Kept) (x : Looks) (o : Outcome) (us : List Use) (t : Handle) → FitsLink plan x k.sent k.taken → Collects b login n k x o us t → IsFit plan items t
  collects_by true login n k x o us t f r = closed_fits k x _ o us t f r
  collects_by false login n k x o us t f r = gathers_fits login n us _ _ x o t f r

  collects_on : (q : Option Asked) (login : Login) (n : ℕ) (k : Kept) (x : Looks) (o : Outcome) (us : List Use) (t : Handle) → FitsLink plan x k.sent k.taken → CollectsOn q login n k x o us t → IsFit plan items t
  collects_on None login n k x o us t f r = collects_by _ login n k x o us t f r
  collects_on (Some a) login n k x o us t f r = kept_fits (Joined true k x) o us t f r

  collects_fits : (login : Login) (n : ℕ) (o : Outcome) (us : List Use) (h t : Handle) → IsFit plan items h → CollectsAt login n h o us t → IsFit plan items t
  collects_fits login n o us h t = on_fits (λ k. CollectsOn k.pending login n k) o us h t (λ k x. collects_on k.pending login n k x o us t)

  -- the handshake
  shown_fits : (login : Login) (n : ℕ) (p : After) (end : Kept) (y : Looks) (o : Outcome) (t : Handle) → FitsLink plan y end.sent end.taken → ConnectShows login n p end y o t → IsFit plan items t
  shown_fits login n after.Pending end y o t f r = subst (IsFit plan items) (sym r.1) f
  shown_fits login n (after.Answered answer) end y o t f r = subst (IsFit plan items) (sym r.1) f
  shown_fits login n (after.Failed e) end y o t f r = subst (IsFit plan items) (sym r.1) f

  connects_fits : (login : Login) (n : ℕ) (a : Asked) (k : Kept) (x : Looks) (o : Outcome) (u : Use) (t : Handle) → FitsLink plan x k.sent k.taken → Connects login n a k x o u t → IsFit plan items t
  connects_fits login n a k x o u t f r = shown_fits login n r.after r.end r.link o t (polled_fits login a k r.end x r.link u.met r.after r.polled f) r.shows

  -- a connection reads on, after the rest of a set that a stream took
  then_fits : (b : Bool) (Next : Handle → Outcome → List Use → Handle → Type 0) (first : Outcome) (mid : Handle) (o : Outcome) (us : List Use) (t : Handle) → (IsFit plan items mid → Next mid o us t → IsFit plan items t) → IsFit plan items mid → Then b Next first mid o us t → IsFit plan items t
  then_fits true Next first mid o us t next f r = next f r
  then_fits false Next first mid o us t next f r = subst (IsFit plan items) (sym r.2) f

  skips_fits : (R : Outcome → List Use → Handle → Type 0) (Next : Handle → Outcome → List Use → Handle → Type 0) (o : Outcome) (us : List Use) (t : Handle) → ((first : Outcome) (used : List Use) (mid : Handle) → R first used mid → IsFit plan items mid) → ((later : List Use) (mid : Handle) → IsFit plan items mid → Next mid o later t → IsFit plan items t) → Skips R Next o us t → IsFit plan items t
  skips_fits R Next o us t f next r = then_fits (is_done r.first) Next r.first r.mid o r.later t (next r.later r.mid) (f r.first r.used r.mid r.skips) r.follows

  follows_fits : (aim : Aim) (login : Login) (n : ℕ) (o : Outcome) (us : List Use) (h t : Handle) → IsFit plan items h → Follows aim login n h o us t → IsFit plan items t
  follows_fits aims.Take login n o us h t f r = calls_fits login n TakeSet o us h t f r
  follows_fits aims.Row login n o us h t f r = calls_fits login n NextRow o us h t f r
  follows_fits aims.Rows login n o us h t f r = collects_fits login n o us h t f r

  reads_by : (b : Bool) (aim : Aim) (login : Login) (n : ℕ) (o : Outcome) (us : List Use) (h t : Handle) → IsFit plan items h → Reads b aim login n h o us t → IsFit plan items t
  reads_by true aim login n o us h t f r = skips_fits (Calls login n SkipTaken h) (Follows aim login n) o us t (λ first used mid s. calls_fits login n SkipTaken first used h mid f s) (λ later mid. follows_fits aim login n o later mid t) r
  reads_by false aim login n o us h t f r = follows_fits aim login n o us h t f r

  reads_on : (q : Option Asked) (aim : Aim) (login : Login) (n : ℕ) (k : Kept) (x : Looks) (o : Outcome) (us : List Use) (t : Handle) → FitsLink plan x k.sent k.taken → ReadsOn q aim login n k x o us t → IsFit plan items t
  reads_on None aim login n k x o us t f r = reads_by (has_taken login k) aim login n o us (Joined true k x) t f r
  reads_on (Some a) aim login n k x o us t f r = kept_fits (Joined true k x) o us t f r

  reads_fits : (aim : Aim) (login : Login) (n : ℕ) (o : Outcome) (us : List Use) (h t : Handle) → IsFit plan items h → ReadsAt aim login n h o us t → IsFit plan items t
  reads_fits aim login n o us h t = on_fits (λ k. ReadsOn k.pending aim login n k) o us h t (λ k x. reads_on k.pending aim login n k x o us t)

  -- an item
  items_by : (b : Bool) (login : Login) (n : ℕ) (k : Kept) (x : Looks) (o : Outcome) (us : List Use) (t : Handle) → FitsLink plan x k.sent k.taken → Items b login n k x o us t → IsFit plan items t
  items_by true login n k x o us t f r = calls_fits login n NextRow o us (Joined true k x) t f r
  items_by false login n k x o us t f r = subst (IsFit plan items) (sym r.left) f

  items_on : (q : Option Asked) (login : Login) (n : ℕ) (k : Kept) (x : Looks) (o : Outcome) (us : List Use) (t : Handle) → FitsLink plan x k.sent k.taken → ItemsOn q login n k x o us t → IsFit plan items t
  items_on None login n k x o us t f r = items_by (has_taken login k) login n k x o us t f r
  items_on (Some a) login n k x o us t f r = kept_fits (Joined true k x) o us t f r

  items_fits : (login : Login) (n : ℕ) (o : Outcome) (us : List Use) (h t : Handle) → IsFit plan items h → ItemsAt login n h o us t → IsFit plan items t
  items_fits login n o us h t = on_fits (λ k. ItemsOn k.pending login n k) o us h t (λ k x. items_on k.pending login n k x o us t)

  lets_go_with : (q : Option Asked) (k : Kept) (x : Looks) (o : Outcome) (us : List Use) (t : Handle) → FitsLink plan x k.sent k.taken → LetsGoWith q k x o us t → IsFit plan items t
  lets_go_with None k x o us t f r = subst (IsFit plan items) (sym r.left) f
  lets_go_with (Some a) k x o us t f r = kept_fits (Joined true k x) o us t f r

  lets_go_fits : (o : Outcome) (us : List Use) (h t : Handle) → IsFit plan items h → LetsGo h o us t → IsFit plan items t
  lets_go_fits o us h t f r = on_fits (λ k. LetsGoWith k.pending k) o us h t (λ k x. lets_go_with k.pending k x o us t) f r

  polls_call : (b : Bool) (aim : Aim) (login : Login) (n : ℕ) (a : Asked) (k : Kept) (x : Looks) (o : Outcome) (us : List Use) (t : Handle) → FitsLink plan x k.sent k.taken → PollsCall b aim login n a k x o us t → IsFit plan items t
  polls_call true aim login n a k x o us t f r = skips_fits (PolledOnce login n a k x) (Follows aim login n) o us t (λ first used mid s. once_fits login n a k x first used mid f s) (λ later mid. follows_fits aim login n o later mid t) r
  polls_call false aim login n a k x o us t f r = once_fits login n a k x o us t f r

  polls_on : (b : Bool) (rows : Option (List RowParts)) (aim : Aim) (login : Login) (n : ℕ) (a : Asked) (k : Kept) (x : Looks) (o : Outcome) (us : List Use) (t : Handle) → FitsLink plan x k.sent k.taken → PollsOn b rows aim login n a k x o us t → IsFit plan items t
  polls_on true rows aim login n a k x o us t f r = connects_fits login n a k x o r.0 t f r.2
  polls_on false None aim login n a k x o us t f r = polls_call (is_skip (kind_of a.call)) aim login n a k x o us t f r
  polls_on false (Some rows) aim login n a k x o us t f r = gathers_fits login n us a k x o t f r

  goes_on_with : (q : Option Asked) (aim : Aim) (login : Login) (n : ℕ) (k : Kept) (x : Looks) (o : Outcome) (us : List Use) (t : Handle) → FitsLink plan x k.sent k.taken → GoesOnWith q aim login n k x o us t → IsFit plan items t
  goes_on_with None aim login n k x o us t f r = kept_fits (Joined true k x) o us t f r
  goes_on_with (Some a) aim login n k x o us t f r = polls_on _ a.rows aim login n a k x o us t f r

  -- a dial
  fresh_got : (got : Option (List ℕ)) → IsFresh got → HasGot got []
  fresh_got None g = tt
  fresh_got (Some bytes) g = g

  new_fits : (rules : Option (List WriteItem)) (x : Looks) → IsNew plan rules x → FitsLink plan x [] []
  new_fits rules x w = record { got = fresh_got x.got w.got; reads = by_plan plan w.planned }
    where
      by_plan : (p : Option (List ReadItem)) → HasPlan p rules x → ReadsSpent p x.items []
      by_plan None h = tt
      by_plan (Some p) h = subst (λ (is : Option (List ReadItem)). ReadsSpent (Some p) is []) (sym h.0) (record { left_is = Whole [] refl; bytes = refl })

  dials_fits : (login : Login) (rules : Option (List WriteItem)) (now : Option (List DialItem)) (n : ℕ) (o : Outcome) (us : List Use) (t : Handle) → ((left : Option (List DialItem)) → HeldBy now left → Told items left HasWaited) → Dials login plan rules now n o us t → IsFit plan items t
  dials_fits login rules now n o us t waited (Holds left e f g held) = subst (IsFit plan items) (sym g) (waited left held)
  dials_fits login rules now n o us t waited (Fails left e f g failed) = subst (IsFit plan items) (sym g) tt
  dials_fits login rules now n o us t waited (Links u x left e new given r) = connects_fits login n _ _ x o u t (new_fits rules x new) r

  goes_on_fits : (login : Login) (plans : Plans) (aim : Aim) (n : ℕ) (o : Outcome) (us : List Use) (h t : Handle) → plans.reads n ≡ plan → IsFit plan items h → GoesOn login plans aim n h o us t → IsFit plan items t
  goes_on_fits login plans aim n o us Absent t is f r = kept_fits Absent o us t f r
  goes_on_fits login plans aim n o us (Dialing left) t is f r = dials_fits login (plans.writes n) left n o us t (λ next held. waited_on items left next f held) (subst (λ (p : Option (List ReadItem)). Dials login p (plans.writes n) left n o us t) is r)
  goes_on_fits login plans aim n o us (Joined false k x) t is f r = kept_fits (Joined false k x) o us t f r
  goes_on_fits login plans aim n o us (Joined true k x) t is f r = goes_on_with k.pending aim login n k x o us t f r

  cancels_with : (q : Option Asked) (login : Login) (k : Kept) (x : Looks) (o : Outcome) (us : List Use) (t : Handle) → FitsLink plan x k.sent k.taken → CancelsWith q login k x o us t → IsFit plan items t
  cancels_with None login k x o us t f r = kept_fits (Joined true k x) o us t f r
  cancels_with (Some a) login k x o us t f r = subst (IsFit plan items) (sym r.left) f

  cancels_fits : (login : Login) (o : Outcome) (us : List Use) (h t : Handle) → IsFit plan items h → Cancels login h o us t → IsFit plan items t
  cancels_fits login o us Absent t f r = kept_fits Absent o us t f r
  cancels_fits login o us (Dialing left) t f r = subst (IsFit plan items) (sym r.left) tt
  cancels_fits login o us (Joined false k x) t f r = kept_fits (Joined false k x) o us t f r
  cancels_fits login o us (Joined true k x) t f r = cancels_with k.pending login k x o us t f r

  tells_with : (q : Option Asked) (login : Login) (k : Kept) (x : Looks) (o : Outcome) (us : List Use) (t : Handle) → FitsLink plan x k.sent k.taken → TellsWith q login k x o us t → IsFit plan items t
  tells_with None login k x o us t f r = subst (IsFit plan items) (sym r.left) f
  tells_with (Some a) login k x o us t f r = kept_fits (Joined true k x) o us t f r

  tells_fits : (login : Login) (o : Outcome) (us : List Use) (h t : Handle) → IsFit plan items h → TellsFields login h o us t → IsFit plan items t
  tells_fits login o us h t = on_fits (λ k. TellsWith k.pending login k) o us h t (λ k x. tells_with k.pending login k x o us t)

  -- what a step does at a number
  work_fits : (login : Login) (plans : Plans) (n : ℕ) (work : Work) (o : Outcome) (us : List Use) (h t : Handle) → plans.reads n ≡ plan → IsFit plan items h → WorkAt login plans n work h o us t → IsFit plan items t
  work_fits login plans n (works.Begin call) o us h t is f r = calls_fits login n call o us h t f r
  work_fits login plans n (works.Read aim) o us h t is f r = reads_fits aim login n o us h t f r
  work_fits login plans n works.Item o us h t is f r = items_fits login n o us h t f r
  work_fits login plans n works.LetGo o us h t is f r = lets_go_fits o us h t f r
  work_fits login plans n works.Miss o us h t is f r = kept_fits h o us t f r
  work_fits login plans n works.Fields o us h t is f r = tells_fits login o us h t f r
  work_fits login plans n (works.Poll aim) o us h t is f r = goes_on_fits login plans aim n o us h t is f r
  work_fits login plans n works.Cancel o us h t is f r = cancels_fits login o us h t f r

-- at all numbers
put_all : (P : ℕ → Handle → Type 0) (n : ℕ) (t : Handle) (hs : List Handle) → ((m : ℕ) → P m (at_number hs m)) → P n t → (m : ℕ) → P m (at_number (put_at n t hs) m)
put_all P n t [] all p m = all m
put_all P zero t (h ∷ hs) all p zero = p
put_all P zero t (h ∷ hs) all p (suc m) = all (suc m)
put_all P (suc n) t (h ∷ hs) all p zero = all zero
put_all P (suc n) t (h ∷ hs) all p (suc m) = put_all (λ i. P (suc i)) n t hs (λ i. all (suc i)) p m

push_all : (P : ℕ → Handle → Type 0) (t : Handle) (hs : List Handle) → ((m : ℕ) → P m (at_number hs m)) → P (length hs) t → (m : ℕ) → P m (at_number (hs ++ t ∷ []) m)
push_all P t [] all p zero = p
push_all P t [] all p (suc m) = all (suc m)
push_all P t (h ∷ hs) all p zero = all zero
push_all P t (h ∷ hs) all p (suc m) = push_all (λ i. P (suc i)) t hs (λ i. all (suc i)) p m

at_fits : (plans : Plans) (n : ℕ) (R : Handle → Outcome → List Use → Handle → Type 0) (hs ts : List Handle) (o : Outcome) (us : List Use) → ((h t : Handle) → IsFit (plans.reads n) (plans.dials n) h → R h o us t → IsFit (plans.reads n) (plans.dials n) t) → AllFit plans hs → At n R hs o us ts → AllFit plans ts
at_fits plans n R hs ts o us f w r = subst (AllFit plans) (sym r.others) (put_all (λ m. IsFit (plans.reads m) (plans.dials m)) n r.made hs w (f (at_number hs n) r.made (w n) r.does))

action_fits : (login : Login) (plans : Plans) (action : Action) (hs : List Handle) (o : Outcome) (us : List Use) (ts : List Handle) → AllFit plans hs → ActionGrows login plans action hs o us ts → AllFit plans ts
action_fits login plans actions.Dial hs o us ts w r = subst (AllFit plans) (sym r.others) (push_all (λ m. IsFit (plans.reads m) (plans.dials m)) r.made hs w (dials_fits (plans.reads (length hs)) (plans.dials (length hs)) login (plans.writes (length hs)) (plans.dials (length hs)) (length hs) o us r.made (λ left held. waited_first (plans.dials (length hs)) left held) r.dials))
action_fits login plans (actions.Move line) hs o us ts w r = subst (AllFit plans) (sym r.same) w
action_fits login plans (actions.Visit n work) hs o us ts w r = at_fits plans n (WorkAt login plans n work) hs ts o us (λ h t f g. work_fits (plans.reads n) (plans.dials n) login plans n work o us h t refl f g) w r

pub step_fits : (login : Login) (plans : Plans) (found : Bool) (aim : Aim) (named : Option StatementView) (hs : List Handle) (step : Step) (o : Outcome) (us : List Use) (ts : List Handle) → AllFit plans hs → StepGrows login plans found aim named hs step o us ts → AllFit plans ts
step_fits login plans found aim named hs step o us ts w r = action_fits login plans (action_of found aim named step) hs o us ts w r

-- so it is after each line
pub grown_fit : (login : Login) (plans : Plans) (lines : List Line) → AreGrown login plans lines → AllFit plans (handles_after lines)
grown_fit login plans [] w m = tt
grown_fit login plans (l ∷ ls) w m = step_fits login plans (is_found (target l.step) l.step ls) (aim_at (target l.step) ls) (statement_named (named_statement l.step) (statements_of ls)) (handles_after ls) l.step l.outcome l.uses l.handles (grown_fit login plans ls w.1) w.0.answer m

lines_fit : (login : Login) (plans : Plans) (lines : List Line) → AreGrown login plans lines → EachFits plans lines
lines_fit login plans [] w = tt
lines_fit login plans (l ∷ ls) w = (grown_fit login plans (l ∷ ls) w, lines_fit login plans ls w.1)

pub links_fit : LinksFit
links_fit login plans before later steps answers tapes w = lines_fit login plans w.lines w.grown
