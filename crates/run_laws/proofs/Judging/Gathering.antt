-- The polls of a line that gathers rows.
use Rattle.std.proofs.Common.{◌≡◌, ◌≤◌, inl, inr, ℕ, ◌+◌, List, [], ◌∷◌, ◌++◌, length, Bool, true, false, ◌||◌, Some, None, Ok, unwrap_or, refl, sym, ap, ◌∙◌, subst, arith, if◌then◌else◌}
use Rattle.my_value.specs.RowParts.{RowParts}
use Rattle.my_grammar.specs.declared.login.Login.{Login}
use Rattle.my_link.specs.Looks.{Looks}
use Rattle.my_link.specs.Moves.{NoStop}
use Rattle.my_reading.specs.declared.answer.Answer.{Answer}
use Rattle.my_reading.specs.declared.answer.Answer.TheVariants as answers
use Rattle.my_reading.specs.declared.call.Call.TheVariants as calls
use Rattle.my_reading.specs.Calls.{kind_of}
use Rattle.my_script.specs.Streams.{is_skip}
use Rattle.my_reading.specs.declared.error.Error.{Error}
use Rattle.my_reading.specs.Endings.{AreCalls}
use Rattle.my_reading.specs.Told.{closes, told}
use Rattle.my_session.specs.Fits.{may_be}
use Rattle.my_client.specs.Made.{has_closed}
use Rattle.my_session.specs.Sessions.{is_refused}
use Rattle.my_reading.specs.Reading.{reading}
use Rattle.my_reading.specs.Tape.{Tape}
use Rattle.my_script.specs.declared.transcript.Outcome.{Outcome}
use Rattle.my_script.specs.declared.transcript.Outcome.TheVariants as outcomes
use Rattle.my_script.specs.declared.transcript.TapeCall.{TapeCall as ShownCall}
use Rattle.my_script.specs.declared.transcript.Use.{Use}
use Rattle.my_reading.specs.declared.facts.Facts.{Facts}
use Rattle.my_run_judge.specs.declared.act.Act.TheVariants.{Polls}
use Rattle.my_run_judge.specs.declared.act.Status.TheVariants as status
use Rattle.my_run_judge.specs.Acts.{gathering}
use Rattle.my_client.specs.declared.poll.After.{After}
use Rattle.my_client.specs.declared.poll.After.TheVariants as after
use Rattle.my_client.specs.declared.tape.Said.TheVariants as says
use Rattle.my_client.specs.Kept.{Asked, Kept, asking, made_of}
use Rattle.my_steps.specs.Grows.{Gathers, GathersOn, gathered, next_asked, rows_shown}
use Rattle.my_steps.specs.Handle.{Handle, Absent, Dialing, Joined}
use Rattle.my_run_judge.specs.Lines.{AreRows, ArePolled, IsToldBy, after_last, after_last_poll, IsShown, after_polls, calls_before, is_pending}
use Rattle.my_run_judge.specs.Walks.{Walk, ended, with_taken}
use Rattle.run_laws.proofs.Polls.{Polled, polled_of}
use Rattle.run_laws.proofs.Judging.Going.{before_begin, shown_tape}
use Rattle.run_laws.proofs.Judging.Tying.{AtWalk, at_begin, closed_more}
use Rattle.run_laws.proofs.Judging.Meeting.{ShownBy, met_at_stop}
use Rattle.run_laws.proofs.Judging.Polling.{HasRest, LastSo, after_so, before_more, begins_here, call_so, ended_so, fits, last_poll, may_end, next_so, poll_back}

-- the tape goes on from what is there
abbrev pub HasTape : Tape → Handle → Type 0
HasTape t Absent = Unit {0}
HasTape t (Dialing left) = Unit {0}
HasTape t (Joined there k x) = HasRest t k

-- the open call gathered these rows, from a first call on
pub record GathersAt (t : Tape) (a : Asked) (first next : ℕ) : Type 0 where
  pub call : a.call ≡ calls.NextRow
  pub low : first ≤ next
  pub rows : List RowParts
  pub rows_are : a.rows ≡ Some rows
  pub returned : AreRows rows (calls_before (shown_tape t) first next)

abbrev pub GatherState : Tape → Bool → Kept → ℕ → ℕ → Type 0
GatherState t true end first next = (a : Asked) × (end.pending ≡ Some a) × GathersAt t a first next
GatherState t false end first next = end.pending ≡ None

pub record GatheredTo (login : Login) (t : Tape) (o : Outcome) (first : ℕ) (h : Handle) (w : Walk) : Type 0 where
  pub end : Kept
  pub link : Looks
  pub is : h ≡ Joined true end link
  pub walk : AtWalk login end w
  pub state : GatherState t (is_pending o) end first w.spot.next
  pub acts : gathering first o ≡ Polls (if is_pending o then status.Gathers first else status.Idle)

module _ (login : Login) (t : Tape) (all : AreCalls login (reading login t).calls) (n : ℕ) where
  pub record Forth (us : List Use) (o : Outcome) (first : ℕ) (h : Handle) (w : Walk) : Type 0 where
    pub polls : ArePolled login n (shown_tape t) o first us w
    pub to : GatheredTo login t o first h (after_polls login (shown_tape t) o us w)
    pub told : (facts : Facts) → IsToldBy facts o

  pub record GathersSo (us : List Use) (a : Asked) (rows : List RowParts) (k : Kept) (o : Outcome) (h : Handle) : Type 0 where
    pub back : HasRest t k
    pub forth : (w : Walk) → AtWalk login k w → a.call ≡ calls.NextRow → (first : ℕ) → first ≤ w.spot.next → AreRows rows (calls_before (shown_tape t) first w.spot.next) → Forth us o first h w

  -- what the last poll leaves
  module _ (a : Asked) (rows : List RowParts) (k end : Kept) (y : Looks) (u : Use) (p : After) (o : Outcome) (h : Handle) (kp : k.pending ≡ Some a) (live : has_closed (made_of k.calls) ≡ false) (rs : a.rows ≡ Some rows)
      (polled : Polled login a k u.met p end) (left : h ≡ Joined true end y) (has : HasTape t h) (number : u.number ≡ n) where
    abbrev hask : HasRest t end
    hask = subst (HasTape t) left has

    last_gathers : ((before : List ShownCall) → AreRows rows before → ShownBy o before p)
        → (a.call ≡ calls.NextRow → (first next : ℕ) → (is_pending o ≡ true → (first ≤ next) × AreRows rows (calls_before (shown_tape t) first next)) → GatherState t (is_pending o) end first next)
        → ((first : ℕ) → gathering first o ≡ Polls (if is_pending o then status.Gathers first else status.Idle))
        → ((facts : Facts) → IsToldBy facts o)
        → GathersSo (u ∷ []) a rows k o h
    last_gathers shows state acts told = record {
      back = poll_back login t all a k end u p kp polled hask;
      forth = λ w at nr first low r.
          let s : LastSo login t all a k end u p kp polled hask n number w at o first = last_poll login t all a k end u p kp polled hask n number w at (ap (λ b. is_refused b (kind_of a.call)) live) o first (may_end o a.call (ap (λ c. is_skip (kind_of c)) nr)) (shows (calls_before (shown_tape t) first w.spot.next) r) in
          record {
            polls = s.right;
            to = record {
              end = end;
              link = y;
              is = left;
              walk = s.after_is;
              state = state nr first (after_last_poll login (shown_tape t) o u w).spot.next
                  (λ held. subst (λ m. (first ≤ m) × AreRows rows (calls_before (shown_tape t) first m)) (sym (ap (λ b. (after_last login (shown_tape t) (with_taken u.met.taken w) b).spot.next) held)) (low, r));
              acts = acts first;
            };
            told = told;
          };
    }

  -- a gathering that ended with these rows
  rows_case : (o : Outcome) (xs : List RowParts) → rows_shown o ≡ Some xs → (before : List ShownCall) → AreRows xs before
      → (is_pending o ≡ false) × IsShown o (Some (Ok answers.SetEnd)) before × IsShown o (Some (Ok answers.NoSet)) before × ((first : ℕ) → gathering first o ≡ Polls status.Idle) × ((facts : Facts) → IsToldBy facts o)
  rows_case outcomes.Done xs e before r = cc
  rows_case outcomes.Pending xs e before r = cc
  rows_case outcomes.SetEnd xs e before r = cc
  rows_case outcomes.NoSet xs e before r = cc
  rows_case (outcomes.Prepared prepared) xs e before r = cc
  rows_case (outcomes.Flag flag) xs e before r = cc
  rows_case (outcomes.Row row) xs e before r = cc
  rows_case (outcomes.Rows rows) xs e before r =
      let same : rows.items ≡ xs = cc in
      let s : AreRows rows.items before = subst (λ ys. AreRows ys before) (sym same) r in
      (refl, (inl refl, s), (inr refl, s), λ first. refl, λ facts. tt)
  rows_case (outcomes.Fields fields) xs e before r = cc
  rows_case (outcomes.Connected number id version) xs e before r = cc
  rows_case (outcomes.Failed x) xs e before r = cc
  rows_case outcomes.NoSuchHandle xs e before r = cc

  module _ (a : Asked) (rows : List RowParts) (k end : Kept) (y : Looks) (u : Use) (o : Outcome) (h : Handle) (kp : k.pending ≡ Some a) (live : has_closed (made_of k.calls) ≡ false) (rs : a.rows ≡ Some rows) (has : HasTape t h) (number : u.number ≡ n) where
    got : gathered a ≡ rows
    got = ap (λ q. unwrap_or q []) rs

    held_gathers : Polled login a k u.met after.Pending end → o ≡ outcomes.Pending → h ≡ Joined true end y → GathersSo (u ∷ []) a rows k o h
    held_gathers polled is left =
        subst (λ (z : Outcome). GathersSo (u ∷ []) a rows k z h) (sym is)
        (last_gathers a rows k end y u after.Pending outcomes.Pending h kp live rs polled left has number (λ before r. refl)
        (λ nr first next r. (a, ap (λ (z : Kept). z.pending) polled.ends.0 ∙ polled.pending, record { call = nr; low = (r refl).0; rows = rows; rows_are = rs; returned = (r refl).1 }))
        (λ first. refl) (λ facts. tt))

    ready_gathers : Polled login a k u.met (after.Answered answers.Ready) end → o ≡ outcomes.Done → h ≡ Joined true end y → GathersSo (u ∷ []) a rows k o h
    ready_gathers polled is left =
        subst (λ (z : Outcome). GathersSo (u ∷ []) a rows k z h) (sym is)
        (last_gathers a rows k end y u (after.Answered answers.Ready) outcomes.Done h kp live rs polled left has number (λ before r. (refl, refl))
        (λ nr first next r. ap (λ (z : Kept). z.pending) polled.ends.0) (λ first. refl) (λ facts. tt))

    failed_gathers : (e : Error) → Polled login a k u.met (after.Failed e) end → o ≡ outcomes.Failed e → h ≡ Joined true end y → GathersSo (u ∷ []) a rows k o h
    failed_gathers e polled is left =
        subst (λ (z : Outcome). GathersSo (u ∷ []) a rows k z h) (sym is)
        (last_gathers a rows k end y u (after.Failed e) (outcomes.Failed e) h kp live rs polled left has number (λ before r. (refl, refl))
        (λ nr first next r. ap (λ (z : Kept). z.pending) polled.ends.0) (λ first. refl) (λ facts. tt))

    abbrev case : (before : List ShownCall) → AreRows rows before → rows_shown o ≡ Some (gathered a)
        → (is_pending o ≡ false) × IsShown o (Some (Ok answers.SetEnd)) before × IsShown o (Some (Ok answers.NoSet)) before × ((first : ℕ) → gathering first o ≡ Polls status.Idle) × ((facts : Facts) → IsToldBy facts o)
    case before r shows = rows_case o rows (shows ∙ ap Some got) before r

    -- these hold of the outcome whatever came before
    rows_told : rows_shown o ≡ Some (gathered a) → (is_pending o ≡ false) × ((first : ℕ) → gathering first o ≡ Polls status.Idle) × ((facts : Facts) → IsToldBy facts o)
    rows_told shows = by_shown o shows
      where
        by_shown : (z : Outcome) → rows_shown z ≡ Some (gathered a) → (is_pending z ≡ false) × ((first : ℕ) → gathering first z ≡ Polls status.Idle) × ((facts : Facts) → IsToldBy facts z)
        by_shown outcomes.Done e = cc
        by_shown outcomes.Pending e = cc
        by_shown outcomes.SetEnd e = cc
        by_shown outcomes.NoSet e = cc
        by_shown (outcomes.Prepared prepared) e = cc
        by_shown (outcomes.Flag flag) e = cc
        by_shown (outcomes.Row row) e = cc
        by_shown (outcomes.Rows xs) e = (refl, λ first. refl, λ facts. tt)
        by_shown (outcomes.Fields fields) e = cc
        by_shown (outcomes.Connected m id version) e = cc
        by_shown (outcomes.Failed f) e = cc
        by_shown outcomes.NoSuchHandle e = cc

    acts_idle : (b : Bool) (first : ℕ) → b ≡ false → gathering first o ≡ Polls status.Idle → gathering first o ≡ Polls (if b then status.Gathers first else status.Idle)
    acts_idle b first is e = e ∙ ap (λ c. Polls (if c then status.Gathers first else status.Idle)) (sym is)

    state_idle : (b : Bool) (first next : ℕ) → b ≡ false → end.pending ≡ None → GatherState t b end first next
    state_idle b first next is e = subst (λ c. GatherState t c end first next) (sym is) e

    end_gathers : Polled login a k u.met (after.Answered answers.SetEnd) end → rows_shown o ≡ Some (gathered a) → h ≡ Joined true end y → GathersSo (u ∷ []) a rows k o h
    end_gathers polled shows left =
        let told = rows_told shows in
        last_gathers a rows k end y u (after.Answered answers.SetEnd) o h kp live rs polled left has number (λ before r. ((case before r shows).0, (case before r shows).1))
        (λ nr first next r. state_idle (is_pending o) first next told.0 (ap (λ (z : Kept). z.pending) polled.ends.0)) (λ first. acts_idle (is_pending o) first told.0 (told.1 first)) told.2

    none_gathers : Polled login a k u.met (after.Answered answers.NoSet) end → rows_shown o ≡ Some (gathered a) → h ≡ Joined true end y → GathersSo (u ∷ []) a rows k o h
    none_gathers polled shows left =
        let told = rows_told shows in
        last_gathers a rows k end y u (after.Answered answers.NoSet) o h kp live rs polled left has number (λ before r. ((case before r shows).0, (case before r shows).2))
        (λ nr first next r. state_idle (is_pending o) first next told.0 (ap (λ (z : Kept). z.pending) polled.ends.0)) (λ first. acts_idle (is_pending o) first told.0 (told.1 first)) told.2

    -- a call that asks for a row isn't answered by a statement, nor by a flag
    other_gathers : (answer : Answer) (us : List Use) → may_be (kind_of calls.NextRow) (told answer) ≡ false → Polled login a k u.met (after.Answered answer) end → h ≡ Joined true end y → GathersSo (u ∷ us) a rows k o h
    other_gathers answer us never polled left = record {
      back = poll_back login t all a k end u (after.Answered answer) kp polled (subst (HasTape t) left has);
      forth = λ w at nr first low r. absurd (let no : may_be (kind_of calls.NextRow) (told answer) ≡ true = subst (λ c. may_be (kind_of c) (told answer) ≡ true) nr polled.ends.2 in cc);
    }

    -- a row came, and the next one is asked for
    row_gathers : (row : RowParts) (v : Use) (us : List Use) → Polled login a k u.met (after.Answered (answers.Row row)) end
        → GathersSo (v ∷ us) (next_asked end (rows ++ row ∷ [])) (rows ++ row ∷ []) (asking end calls.NextRow (Some (rows ++ row ∷ []))) o h → GathersSo (u ∷ v ∷ us) a rows k o h
    row_gathers row v us polled more =
        let next = asking end calls.NextRow (Some (rows ++ row ∷ [])) in
        let asked : Asked = record { call = calls.NextRow; sent_from = length end.sent; taken_from = length end.taken; rows = Some (rows ++ row ∷ []) } in
        let none : end.pending ≡ None = ap (λ (z : Kept). z.pending) polled.ends.0 in
        let has_end : HasRest t end = (more.back.0, before_begin t end calls.NextRow (Some (rows ++ row ∷ [])) more.back.0 none more.back.1) in
        let said = says.Answered (answers.Row row) in
        record {
          back = poll_back login t all a k end u (after.Answered (answers.Row row)) kp polled has_end;
          forth = λ w at nr first low r.
              let e = polled.ends.0 in
              let w2 = with_taken u.met.taken w in
              let shut = ended login (shown_tape t) false w2 in
              let is_so = ended_so login t all a k end u (after.Answered (answers.Row row)) kp polled has_end n number w at said tt e in
              let at_end : AtWalk login end shut = after_so login t all a k end u (after.Answered (answers.Row row)) kp polled has_end n number w at said tt e in
              let count : w.spot.next + 1 ≡ length end.calls = next_so login t all a k end u (after.Answered (answers.Row row)) kp polled has_end n number w at said tt e in
              let same : shut.spot.next ≡ w.spot.next + 1 = at_end.next_is ∙ sym count in
              let here = call_so login t all a k end u (after.Answered (answers.Row row)) kp polled has_end n number w at said tt e in
              let f : Forth (v ∷ us) o first h shut = more.forth shut (at_begin login end calls.NextRow (Some (rows ++ row ∷ [])) shut none at_end) refl first (omega arith)
              (subst (λ m. AreRows (rows ++ row ∷ []) (calls_before (shown_tape t) first m)) (sym same) (before_more t first w.spot.next rows row _ low here refl r)) in
              record {
                polls = ((fits login t all a k end u (after.Answered (answers.Row row)) kp polled has_end n number w at, (polled.within, met_at_stop u.met polled.stop polled.met NoStop polled.ends.3), (begins_here t next asked (w.spot.next + 1) count refl more.back, is_so)), f.polls);
                to = f.to;
                told = f.told;
              };
        }

    -- a row doesn't close
    after_row : (row : RowParts) → Polled login a k u.met (after.Answered (answers.Row row)) end → has_closed (made_of end.calls) ≡ false
    after_row row polled =
        ap (λ (z : Kept). has_closed (made_of z.calls)) polled.ends.0
        ∙ closed_more polled.following.calls (record { call = a.call; sent_from = a.sent_from; taken_from = a.taken_from; said = says.Answered (answers.Row row) })
        ∙ ap (λ b. b || closes (told (answers.Row row)) (kind_of a.call)) (ap (λ ds. has_closed (made_of ds)) polled.calls ∙ live)

    by_row : (row : RowParts) (vs : List Use) → Polled login a k u.met (after.Answered (answers.Row row)) end
        → Gathers login n vs (next_asked end (rows ++ row ∷ [])) (asking end calls.NextRow (Some (rows ++ row ∷ []))) y o h
        → GathersSo vs (next_asked end (rows ++ row ∷ [])) (rows ++ row ∷ []) (asking end calls.NextRow (Some (rows ++ row ∷ []))) o h → GathersSo (u ∷ vs) a rows k o h
    by_row row [] polled g m = absurd g
    by_row row (v ∷ vs) polled g m = row_gathers row v vs polled m

    -- one poll, by what it came to; the polls after a row gather the others
    gathers_by : (us : List Use) (p : After) → Polled login a k u.met p end → GathersOn (Gathers login n us) a p end y o us h
        → ((row : RowParts) → has_closed (made_of end.calls) ≡ false → Gathers login n us (next_asked end (rows ++ row ∷ [])) (asking end calls.NextRow (Some (rows ++ row ∷ []))) y o h
        → GathersSo us (next_asked end (rows ++ row ∷ [])) (rows ++ row ∷ []) (asking end calls.NextRow (Some (rows ++ row ∷ []))) o h)
        → GathersSo (u ∷ us) a rows k o h
    gathers_by us after.Pending polled on more = subst (λ (vs : List Use). GathersSo (u ∷ vs) a rows k o h) (sym on.1) (held_gathers polled on.0 on.2)
    gathers_by us (after.Answered answers.Ready) polled on more = subst (λ (vs : List Use). GathersSo (u ∷ vs) a rows k o h) (sym on.1) (ready_gathers polled on.0 on.2)
    gathers_by us (after.Answered answers.SetEnd) polled on more = subst (λ (vs : List Use). GathersSo (u ∷ vs) a rows k o h) (sym on.1) (end_gathers polled on.0 on.2)
    gathers_by us (after.Answered answers.NoSet) polled on more = subst (λ (vs : List Use). GathersSo (u ∷ vs) a rows k o h) (sym on.1) (none_gathers polled on.0 on.2)
    gathers_by us (after.Answered (answers.Stmt prepared)) polled on more = other_gathers (answers.Stmt prepared) us refl polled on.2
    gathers_by us (after.Answered (answers.Flag flag)) polled on more = other_gathers (answers.Flag flag) us refl polled on.2
    gathers_by us (after.Failed e) polled on more = subst (λ (vs : List Use). GathersSo (u ∷ vs) a rows k o h) (sym on.1) (failed_gathers e polled on.0 on.2)
    gathers_by us (after.Answered (answers.Row row)) polled on more =
        let g = subst (λ (zs : List RowParts). Gathers login n us (next_asked end (zs ++ row ∷ [])) (asking end calls.NextRow (Some (zs ++ row ∷ []))) y o h) got on in
        by_row row us polled g (more row (after_row row polled) g)

  pub gathers : (us : List Use) (a : Asked) (rows : List RowParts) (k : Kept) (x : Looks) (o : Outcome) (h : Handle) → k.pending ≡ Some a → has_closed (made_of k.calls) ≡ false → a.rows ≡ Some rows → HasTape t h
      → Gathers login n us a k x o h → GathersSo us a rows k o h
  gathers [] a rows k x o h kp live rs has r = absurd r
  gathers (u ∷ us) a rows k x o h kp live rs has (p, end, y, polled, on, number) =
      gathers_by a rows k end y u o h kp live rs has number us p (polled_of kp polled) on
      (λ row still g. gathers us (next_asked end (rows ++ row ∷ [])) (rows ++ row ∷ []) (asking end calls.NextRow (Some (rows ++ row ∷ []))) y o h refl still refl has g)
