-- A gathering, row by row.
use Rattle.std.proofs.Common.{ℕ, ◌≡◌, ◌||◌, List, [], ◌∷◌, ◌++◌, Option, Some, None, Bool, true, false, refl, sym, ap, ◌∙◌, subst}
use Rattle.std.proofs.lemmas.List.{append_assoc, append-nil}
use Rattle.my_value.specs.RowParts.{RowParts}
use Rattle.my_grammar.specs.declared.login.Login.{Login}
use Rattle.my_link.specs.Looks.{Looks}
use Rattle.my_link.specs.declared.met.Met.{Met}
use Rattle.my_reading.specs.Calls.{kind_of}
use Rattle.my_reading.specs.declared.answer.Answer.TheVariants as answers
use Rattle.my_reading.specs.declared.call.Call.TheVariants.{NextRow}
use Rattle.my_reading.specs.declared.call.CallKind.{CallKind}
use Rattle.my_session.specs.Sessions.{is_refused}
use Rattle.my_client.specs.declared.poll.After.{After}
use Rattle.my_client.specs.declared.poll.After.TheVariants as after
use Rattle.my_client.specs.declared.tape.DoneCall.{DoneCall}
use Rattle.my_client.specs.declared.tape.Said.TheVariants as says
use Rattle.my_client.specs.Calls.{Does, PollsOn, asked_for, pending_after}
use Rattle.my_client.specs.Ends.{kept_after}
use Rattle.my_client.specs.Kept.{Asked, Kept, asked_by, made_of}
use Rattle.my_client.specs.Made.{has_closed}
use Rattle.my_client.specs.Polls.{moved_by}
use Rattle.my_client.proofs.Polled.{moved_calls}
use Rattle.my_client.proofs.Standing.{made_more}
use Rattle.my_conn.specs.Conn.{ConnSeen}
use Rattle.my_script.specs.declared.transcript.Outcome.{Outcome}
use Rattle.my_script.specs.declared.transcript.Outcome.TheVariants.{NoSuchHandle}
use Rattle.my_script.specs.declared.transcript.Use.{Use}
use Rattle.my_steps.specs.declared.slot.Slot.{Slot}
use Rattle.my_steps.specs.declared.slot.Slot.TheVariants.{There}
use Rattle.my_steps.specs.Did.{Did}
use Rattle.my_steps.specs.Gathering.{EachOver, EachSoFar, GatherDid, GatherOver, GatherSoFar, GathersFrom, LeavesOpen, PollsRow, Settles, is_row, row_call}
use Rattle.my_steps.specs.Grows.{Collects, CollectsAt, CollectsOn, Gathers, GathersOn}
use Rattle.my_steps.specs.Handle.{Handle, Joined}
use Rattle.my_steps.specs.Keeps.{IsStood, StandsBy}
use Rattle.my_steps.specs.Polled.{ConnPolled, ConnRefused}
use Rattle.my_steps.specs.Slot.{asked_with, handle_of, kept_of, with_rows}
use Rattle.my_steps.specs.Sums.{use_of}
use Rattle.my_steps.proofs.Working.Cancelling.{same_did}
use Rattle.my_steps.proofs.Working.Polling.{asked_same, none_open, polls_begun, polls_open, refused_so, some_open}
use Rattle.my_steps.proofs.Working.Rows.{no_rows, polled_rows}

-- on a connection that isn't closed a poll for rows isn't refused
row_polls : (login : Login) (pending : Option CallKind) (x y : Looks) (k end : Kept) (m : Met) (p : After) → has_closed (made_of k.calls) ≡ false → Does login (row_call pending) x y k end m p → PollsOn login (row_call pending) x y k end m p
row_polls login None x y k end m p e d = polls_begun login NextRow x y k end m p (ap (λ (b : Bool). is_refused b (kind_of NextRow)) e) d
row_polls login (Some kind) x y k end m p e d = polls_open login x y k end m p d

row_calls : (pending : Option CallKind) (k : Kept) → (asked_for (row_call pending) k).calls ≡ k.calls
row_calls None k = refl
row_calls (Some kind) k = refl

-- nothing was gathered yet
pub none_gathered : {L : Type 0} (look : L → Looks) (n : ℕ) (first : Option CallKind) (c : ConnSeen L) (before : List RowParts) (us : List Use) → us ≡ [] → EachSoFar look n first c before first c before us
none_gathered look n first c before us e login w unclosed = record {
  stood = w;
  unclosed = unclosed;
  onto = λ vs o t g. subst (λ (xs : List Use). GathersFrom look login n first c before (xs ++ vs) o t) (sym e) g;
}

module _ {L : Type 0} (look : L → Looks) (login : Login) (n : ℕ) (first : Option CallKind) (c : ConnSeen L) (before : List RowParts) (pending : Option CallKind) (d e : ConnSeen L) (rows : List RowParts) (us more : List Use) (m : Met) (p : After) (so : GatherSoFar look login n first c before pending d rows us) (v : ConnPolled look login (row_call pending) d e m p) (is : more ≡ us ++ use_of n m ∷ []) where
  abbrev k : Kept
  k = asked_for (row_call pending) (kept_of d)

  on : PollsOn login (row_call pending) (look d.link) (look e.link) (kept_of d) (kept_of e) m p
  on = row_polls login pending (look d.link) (look e.link) (kept_of d) (kept_of e) m p so.unclosed v.does

  onto_here : (vs : List Use) (o : Outcome) (t : Handle) → GathersOn (Gathers login n vs) (asked_with rows on.asked) p (with_rows rows (kept_of e)) (look e.link) o vs t → GathersFrom look login n pending d rows (use_of n m ∷ vs) o t
  onto_here vs o t g a has =
      subst (λ (b : Asked). Gathers login n (use_of n m ∷ vs) (asked_with rows b) (with_rows rows k) (look d.link) o t) (asked_same k.pending on.asked a on.pending has)
      (p, with_rows rows (kept_of e), look e.link, polled_rows rows login on.asked k (kept_of e) (look d.link) (look e.link) m p on.polled, g, refl)

  onto_more : (vs : List Use) (o : Outcome) (t : Handle) → GathersOn (Gathers login n vs) (asked_with rows on.asked) p (with_rows rows (kept_of e)) (look e.link) o vs t → GathersFrom look login n first c before (more ++ vs) o t
  onto_more vs o t g =
      let whole : GathersFrom look login n first c before (us ++ use_of n m ∷ vs) o t = so.onto (use_of n m ∷ vs) o t (onto_here vs o t g) in
      let same : us ++ use_of n m ∷ vs ≡ more ++ vs = sym (append_assoc us (use_of n m ∷ []) vs) ∙ ap (λ (xs : List Use). xs ++ vs) (sym is) in
      subst (λ (xs : List Use). GathersFrom look login n first c before xs o t) same whole

  -- after a row the connection isn't closed
  row_open : (row : RowParts) → p ≡ after.Answered (answers.Row row) → has_closed (made_of (kept_of e).calls) ≡ false
  row_open row shows =
      let b : Kept = moved_by k on.polled.moves in
      let done : DoneCall = record { call = on.asked.call; sent_from = on.asked.sent_from; taken_from = on.asked.taken_from; said = says.Answered (answers.Row row) } in
      ap (λ (q : Kept). has_closed (made_of q.calls)) (on.polled.ends ∙ ap (kept_after b on.asked) shows)
      ∙ ap has_closed (made_more b.calls done)
      ∙ ap (λ (ds : List DoneCall). has_closed (made_of ds)) (moved_calls k on.polled.moves ∙ row_calls pending (kept_of d))
      ∙ so.unclosed

  pub next_so : (row : RowParts) → p ≡ after.Answered (answers.Row row) → GatherSoFar look login n first c before None e (rows ++ row ∷ []) more
  next_so row shows = record {
    stood = v.stood;
    unclosed = row_open row shows;
    onto = λ vs o t g. onto_more vs o t (subst (λ (q : After). GathersOn (Gathers login n vs) (asked_with rows on.asked) q (with_rows rows (kept_of e)) (look e.link) o vs t) (sym shows) (g (asked_by (kept_of e) NextRow) refl));
  }

  pub over_so : GatherOver look login n first c before e rows more p
  over_so = record {
    stood = v.stood;
    asked = on.asked;
    onto = λ o t g. subst (λ (xs : List Use). GathersFrom look login n first c before xs o t) (append-nil more) (onto_more [] o t g);
  }

-- the steps of the loop, by what follows each poll
pub row_next : {L : Type 0} (look : L → Looks) (n : ℕ) (first : Option CallKind) (c : ConnSeen L) (before : List RowParts) (pending : Option CallKind) (d e : ConnSeen L) (rows all : List RowParts) (us more : List Use) → EachSoFar look n first c before pending d rows us → PollsRow look n pending d e rows all us more None → EachSoFar look n first c before None e all more
row_next look n first c before pending d e rows all us more so r login w unclosed =
    let s = so login w unclosed in
    subst (λ (xs : List RowParts). GatherSoFar look login n first c before None e xs more) (sym r.keeps.2)
    (next_so look login n first c before pending d e rows us more r.met r.after s (r.polled login s.stood) r.uses r.keeps.0 r.keeps.1)

pub row_idle : {L : Type 0} (look : L → Looks) (n : ℕ) (pending : Option CallKind) (d e : ConnSeen L) (rows all : List RowParts) (us more : List Use) → PollsRow look n pending d e rows all us more None → e.pending ≡ None
row_idle look n pending d e rows all us more r = r.left.1 ∙ ap (pending_after r.left.0) r.keeps.1

pub row_over : {L : Type 0} (look : L → Looks) (n : ℕ) (first : Option CallKind) (c : ConnSeen L) (before : List RowParts) (pending : Option CallKind) (d e : ConnSeen L) (rows all : List RowParts) (us more : List Use) (p : After) → EachSoFar look n first c before pending d rows us → PollsRow look n pending d e rows all us more (Some p) → EachOver look n first c before e all more p
row_over look n first c before pending d e rows all us more p so r = record {
  other = ap is_row r.keeps.0 ∙ r.keeps.1;
  left = subst (λ (q : After). LeavesOpen q e.pending) (sym r.keeps.0) r.left;
  each = λ login w unclosed.
      let s = so login w unclosed in
      subst (λ (xs : List RowParts). GatherOver look login n first c before e xs more p) (sym r.keeps.2)
      (subst (λ (q : After). GatherOver look login n first c before e rows more q) (sym r.keeps.0)
      (over_so look login n first c before pending d e rows us more r.met r.after s (r.polled login s.stood) r.uses));
}

-- what the step shows
module _ {L : Type 0} (look : L → Looks) (login : Login) (n : ℕ) (first : Option CallKind) (c : ConnSeen L) (before : List RowParts) (d : ConnSeen L) (still : Slot L) (rows : List RowParts) (us : List Use) (slot : Slot L) (o : Outcome)
    (handle_is : handle_of look still ≡ Joined true (with_rows rows (kept_of d)) (look d.link)) (stands : (kind : CallKind) → StandsBy login d → d.pending ≡ Some kind → IsStood login still) where
  rested : slot ≡ There d → StandsBy login d → d.pending ≡ None → handle_of look slot ≡ Joined true (with_rows rows (kept_of d)) (look d.link)
  rested e w none = ap (handle_of look) e ∙ ap (λ (q : Kept). Joined true q (look d.link)) (sym (no_rows rows (kept_of d) (none_open login d w none)))

  there : slot ≡ There d → StandsBy login d → IsStood login slot
  there e w = subst (IsStood login) (sym e) w

  pub gathered_by : (p : After) → LeavesOpen p d.pending → GatherOver look login n first c before d rows us p → Settles d still rows p slot o → GatherDid look login n first c before slot o us
  gathered_by after.Pending l v s = record { stood = subst (IsStood login) (sym s.0) (stands l.0 v.stood l.1); gathers = v.onto o (handle_of look slot) (s.1, refl, ap (handle_of look) s.0 ∙ handle_is) }
  gathered_by (after.Answered answers.Ready) l v s = record { stood = there s.0 v.stood; gathers = v.onto o (handle_of look slot) (s.1, refl, rested s.0 v.stood l.1) }
  gathered_by (after.Answered (answers.Row row)) l v s = absurd s
  gathered_by (after.Answered answers.SetEnd) l v s = record { stood = there s.0 v.stood; gathers = v.onto o (handle_of look slot) (s.1, refl, rested s.0 v.stood l.1) }
  gathered_by (after.Answered answers.NoSet) l v s = record { stood = there s.0 v.stood; gathers = v.onto o (handle_of look slot) (s.1, refl, rested s.0 v.stood l.1) }
  gathered_by (after.Answered (answers.Stmt x)) l v s = record { stood = there s.0 v.stood; gathers = v.onto o (handle_of look slot) (s.1, refl, rested s.0 v.stood l.1) }
  gathered_by (after.Answered (answers.Flag flag)) l v s = record { stood = there s.0 v.stood; gathers = v.onto o (handle_of look slot) (s.1, refl, rested s.0 v.stood l.1) }
  gathered_by (after.Failed x) l v s = record { stood = there s.0 v.stood; gathers = v.onto o (handle_of look slot) (s.1, refl, rested s.0 v.stood l.1) }

-- a call that gathers is refused exactly on a closed connection
pub refused_row : (b c : Bool) → is_refused b (kind_of NextRow) ≡ c → b ≡ c
refused_row true c e = e
refused_row false c e = e

-- a step begins to gather
module _ {L : Type 0} (look : L → Looks) (login : Login) (n : ℕ) (c : ConnSeen L) (slot : Slot L) (o : Outcome) (us : List Use) (idle : c.pending ≡ None) (w : StandsBy login c) where
  closed_is : (b : Bool) → is_refused (c.lost || c.seen.closed) (kind_of NextRow) ≡ b → has_closed (made_of (kept_of c).calls) ≡ b
  closed_is b e = refused_row (has_closed (made_of (kept_of c).calls)) b (refused_so login c w (kind_of NextRow) b e)

  collects : (b : Bool) → has_closed (made_of (kept_of c).calls) ≡ b → Collects b login n (kept_of c) (look c.link) o us (handle_of look slot) → CollectsAt login n (Joined true (kept_of c) (look c.link)) o us (handle_of look slot)
  collects b e r =
      subst (λ (q : Option Asked). CollectsOn q login n (kept_of c) (look c.link) o us (handle_of look slot)) (sym (none_open login c w idle))
      (subst (λ (x : Bool). Collects x login n (kept_of c) (look c.link) o us (handle_of look slot)) (sym e) r)

  pub collect_begun : is_refused (c.lost || c.seen.closed) (kind_of NextRow) ≡ false → (has_closed (made_of (kept_of c).calls) ≡ false → GatherDid look login n None c [] slot o us) → Did look login (CollectsAt login n) o us (There c) slot
  collect_begun e did =
      let unclosed = closed_is false e in
      let g = did unclosed in
      record { stood = g.stood; does = collects false unclosed (g.gathers (asked_by (kept_of c) NextRow) refl) }

-- on a closed connection
pub collect_closed : {L : Type 0} (look : L → Looks) (login : Login) (n : ℕ) (c d : ConnSeen L) (o : Outcome) (us : List Use) → c.pending ≡ None → is_refused (c.lost || c.seen.closed) (kind_of NextRow) ≡ true → ConnRefused look login NextRow c d o us → StandsBy login c → Did look login (CollectsAt login n) o us (There c) (There d)
collect_closed look login n c d o us idle e v w = record { stood = v.stood; does = collects look login n c (There d) o us idle w true (closed_is look login n c (There d) o us idle w true e) v.closed }

-- a step that finds an open call
pub collect_refused : {L : Type 0} (look : L → Looks) (login : Login) (n : ℕ) (c : ConnSeen L) (kind : CallKind) (o : Outcome) (us : List Use) → c.pending ≡ Some kind → o ≡ NoSuchHandle → us ≡ [] → StandsBy login c → Did look login (CollectsAt login n) o us (There c) (There c)
collect_refused look login n c kind o us op e f w = same_did look login (CollectsAt login n) o us (There c) w
    (subst (λ (p : Option Asked). CollectsOn p login n (kept_of c) (look c.link) o us (Joined true (kept_of c) (look c.link))) (sym (some_open login c w kind op).1) (record { outcome = e; uses = f; same = refl }))
