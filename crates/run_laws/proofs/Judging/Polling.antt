-- The polls of a line.
use Rattle.std.proofs.Common.{◌≡◌, ◌≤◌, ℕ, zero, suc, ◌+◌, ◌-◌, List, [], ◌∷◌, ◌++◌, length, map, take, drop, slice_get, true, false, Some, Ok, refl, sym, ap, ◌∙◌, subst, arith, length-append}
use Rattle.my_value.specs.RowParts.{RowParts}
use Rattle.my_grammar.specs.declared.login.Login.{Login}
use Rattle.my_reading.specs.declared.answer.Answer.TheVariants as answers
use Rattle.my_reading.specs.Endings.{AreCalls}
use Rattle.my_reading.specs.declared.call.Call.{Call}
use Rattle.my_reading.specs.Calls.{kind_of}
use Rattle.my_reading.specs.Reading.{halt_of, reading}
use Rattle.my_reading.specs.Tape.{Tape, TapeCall}
use Rattle.my_script.specs.Streams.{is_skip}
use Rattle.my_script.specs.declared.transcript.Outcome.{Outcome}
use Rattle.my_script.specs.declared.transcript.Outcome.TheVariants as outcomes
use Rattle.my_script.specs.declared.transcript.TapeCall.{TapeCall as ShownCall}
use Rattle.my_script.specs.declared.transcript.Use.{Use}
use Rattle.my_client.specs.declared.poll.After.{After}
use Rattle.my_client.specs.declared.poll.After.TheVariants as after
use Rattle.my_client.specs.declared.tape.Said.{Said}
use Rattle.my_client.specs.declared.tape.Said.TheVariants as says
use Rattle.my_client.specs.Made.{has_closed}
use Rattle.my_client.specs.Kept.{Asked, Kept, made_of, ended_by, told_by}
use Rattle.my_session.specs.Sessions.{is_refused}
use Rattle.my_run_judge.specs.Lines.{AreRows, Fits, IsBegun, IsShown, IsShownAt, LastPoll, LastRight, MayEnd, after_last, after_last_poll, calls_before, is_pending}
use Rattle.my_run_judge.specs.Meets.{LastMet}
use Rattle.my_run_judge.specs.Walks.{Walk, IsEnded, ended, with_taken}
use Rattle.run_laws.proofs.Polls.{PollEnds, Polled}
use Rattle.run_laws.proofs.Judging.Going.{Begins, GoesOn, answer_of, own_span, before_end, before_move, call_here, call_of, done_by, shown_call, shown_said, shown_tape}
use Rattle.run_laws.proofs.Judging.Meeting.{ShownBy, shown_met}
use Rattle.run_laws.proofs.Judging.Tying.{AtWalk, SaidSo, at_end, at_move, is_ended}

abbrev pub HasRest : Tape → Kept → Type 0
HasRest t k = (rest : List TapeCall) × GoesOn t k rest

-- the call that is open is the next one on the tape
pub begins_here : (t : Tape) (k : Kept) (a : Asked) (n : ℕ) → n ≡ length k.calls → k.pending ≡ Some a → HasRest t k → IsBegun (Some a.call) (slice_get (map shown_call t.calls) n)
begins_here t k a n next some has = by_rest has.0 has.1
  where
    by_rest : (rest : List TapeCall) → GoesOn t k rest → IsBegun (Some a.call) (slice_get (map shown_call t.calls) n)
    by_rest [] g = absurd (subst (λ q. Begins k g.sent_more g.taken_more q []) some g.begins)
    by_rest (c ∷ cs) g = subst (IsBegun (Some a.call)) (sym (call_here t k c cs g n next)) (subst (λ q. Begins k g.sent_more g.taken_more q (c ∷ cs)) some g.begins).0

-- a call that doesn't pass over a set's rest may be a line's last one
pub may_end : (o : Outcome) (c : Call) → is_skip (kind_of c) ≡ false → MayEnd o c
may_end outcomes.Done c e = e
may_end outcomes.Pending c e = tt
may_end outcomes.SetEnd c e = tt
may_end outcomes.NoSet c e = tt
may_end (outcomes.Row row) c e = tt
may_end (outcomes.Rows rows) c e = tt
may_end (outcomes.Prepared statement) c e = tt
may_end (outcomes.Flag flag) c e = tt
may_end (outcomes.Fields ok) c e = tt
may_end (outcomes.Connected n id version) c e = tt
may_end (outcomes.Failed error) c e = tt
may_end outcomes.NoSuchHandle c e = tt

-- one poll of the open call
module _ (login : Login) (t : Tape) (all : AreCalls login (reading login t).calls) where
  -- a poll, from its end back
  end_back : (a : Asked) (f end : Kept) (u : _) (stop : _) (p : After) → f.pending ≡ Some a → PollEnds login a f u stop p end → HasRest t end → HasRest t f
  end_back a f end u stop after.Pending fp e has = subst (HasRest t) e.0 has
  end_back a f end u stop (after.Answered answer) fp e has =
      let h : HasRest t (ended_by f a (says.Answered answer)) = subst (HasRest t) e.0 has in
      (call_of (done_by a (says.Answered answer)) ∷ h.0, before_end t f a (says.Answered answer) h.0 fp h.1)
  end_back a f end u stop (after.Failed x) fp e has =
      let h : HasRest t (ended_by f a (says.Failed x)) = subst (HasRest t) e.0 has in
      (call_of (done_by a (says.Failed x)) ∷ h.0, before_end t f a (says.Failed x) h.0 fp h.1)

  module _ (a : Asked) (k end : Kept) (u : Use) (p : After) (kp : k.pending ≡ Some a) (polled : Polled login a k u.met p end) (has : HasRest t end) where
    abbrev f : Kept
    f = polled.following

    abbrev has_f : HasRest t f
    has_f = end_back a f end u.met polled.stop p polled.pending polled.ends has

    pub poll_back : HasRest t k
    poll_back = (has_f.0, before_move t k f a polled.sent polled.taken has_f.0 polled.sent_is polled.taken_is polled.calls polled.pending kp has_f.1)

    module _ (n : ℕ) (number : u.number ≡ n) (w : Walk) (at : AtWalk login k w) where
      abbrev w2 : Walk
      w2 = with_taken u.met.taken w

      at_f : AtWalk login f w2
      at_f = at_move login k f a polled.sent polled.taken u.met.taken w polled.sent_is polled.taken_is polled.calls polled.pending kp polled.count at

      pub fits : Fits n (shown_tape t) w.spot u
      fits =
          let whole : length t.taken ≡ length f.taken + length has_f.1.taken_more = ap length has_f.1.taken ∙ length-append f.taken has_f.1.taken_more in
          let grown : length f.taken ≡ length k.taken + length polled.taken = ap length polled.taken_is ∙ length-append k.taken polled.taken in
          let count : u.met.taken ≡ length polled.taken = polled.count in
          let start : w.spot.taken ≡ length k.taken = at.taken_is in
          (number, omega (arith, whole, grown, count, start))

      -- the poll that ended its call so
      module _ (said : Said) (so : SaidSo false (kind_of a.call) (halt_of login w2.closed (own_span f a (Some (told_by said))) w2.place).place said) (e : end ≡ ended_by f a said) where
        abbrev has_e : HasRest t (ended_by f a said)
        has_e = subst (HasRest t) e has

        pub ended_so : IsEnded login (shown_tape t) false w2
        ended_so = is_ended login t all f a said false has_e.0 w2 polled.pending has_e.1 at_f so

        pub after_so : AtWalk login end (ended login (shown_tape t) false w2)
        after_so = subst (λ (z : Kept). AtWalk login z (ended login (shown_tape t) false w2)) (sym e) (at_end login t all f a said false has_e.0 w2 polled.pending has_e.1 at_f so)

        pub call_so : slice_get (map shown_call t.calls) w.spot.next ≡ Some (shown_call (call_of (done_by a said)))
        call_so = call_here t f (call_of (done_by a said)) has_e.0 (before_end t f a said has_e.0 polled.pending has_e.1) w.spot.next at_f.next_is

        pub next_so : w.spot.next + 1 ≡ length end.calls
        next_so = ap (λ m. m + 1) at_f.next_is ∙ sym (length-append f.calls (done_by a said ∷ [])) ∙ ap (λ (z : Kept). length z.calls) (sym e)

      -- the last poll of a line
      pub record LastSo (o : Outcome) (first : ℕ) : Type 0 where
        pub right : LastPoll login n (shown_tape t) o first u w
        pub after_is : AtWalk login end (after_last_poll login (shown_tape t) o u w)

      -- a call that isn't refused
      abbrev IsLive : Type 0
      IsLive = is_refused (has_closed (made_of k.calls)) (kind_of a.call) ≡ false

      met_so : IsLive → (o : Outcome) (before : List ShownCall) (q : After) → PollEnds login a f u.met polled.stop q end → ShownBy o before q → LastMet o u.met
      met_so live o before q e s =
          (polled.within, shown_met u.met polled.stop polled.met login a f end polled.pending (ap (λ ds. is_refused (has_closed (made_of ds)) (kind_of a.call)) polled.calls ∙ live) o before q e s)

      held_so : (o : Outcome) (first : ℕ) → LastMet o u.met → end ≡ f → is_pending o ≡ true → LastSo o first
      held_so o first m e is = record {
        right = (fits, m, subst (λ b. LastRight login (shown_tape t) o first w2 b) (sym is) tt);
        after_is = subst (λ b. AtWalk login end (after_last login (shown_tape t) w2 b)) (sym is) (subst (λ (z : Kept). AtWalk login z w2) (sym e) at_f);
      }

      done_so : (o : Outcome) (first : ℕ) → MayEnd o a.call → LastMet o u.met → (said : Said) (so : SaidSo false (kind_of a.call) (halt_of login w2.closed (own_span f a (Some (told_by said))) w2.place).place said) → end ≡ ended_by f a said
          → is_pending o ≡ false → IsShown o (answer_of (Some (told_by said))) (calls_before (shown_tape t) first w.spot.next) → LastSo o first
      done_so o first may m said so e is shows = record {
        right = (
          fits,
          m,
          subst (λ b. LastRight login (shown_tape t) o first w2 b) (sym is)
              (subst (λ c. IsShownAt o c (calls_before (shown_tape t) first w.spot.next)) (sym (call_so said so e)) (shows, may), ended_so said so e),
        );
        after_is = subst (λ b. AtWalk login end (after_last login (shown_tape t) w2 b)) (sym is) (after_so said so e);
      }

      last_of : IsLive → (o : Outcome) (first : ℕ) (q : After) → MayEnd o a.call → PollEnds login a f u.met polled.stop q end → ShownBy o (calls_before (shown_tape t) first w.spot.next) q → LastSo o first
      last_of live o first after.Pending may e s = held_so o first (met_so live o (calls_before (shown_tape t) first w.spot.next) after.Pending e s) e.0 s
      last_of live o first (after.Answered answer) may e s = done_so o first may (met_so live o (calls_before (shown_tape t) first w.spot.next) (after.Answered answer) e s) (says.Answered answer) tt e.0 s.0
          (subst (λ x. IsShown o x (calls_before (shown_tape t) first w.spot.next)) (shown_said (says.Answered answer)) s.1)
      last_of live o first (after.Failed x) may e s = done_so o first may (met_so live o (calls_before (shown_tape t) first w.spot.next) (after.Failed x) e s) (says.Failed x) tt e.0 s.0 s.1

      pub last_poll : IsLive → (o : Outcome) (first : ℕ) → MayEnd o a.call → ShownBy o (calls_before (shown_tape t) first w.spot.next) p → LastSo o first
      last_poll live o first may s = last_of live o first p may polled.ends s

-- rows and the calls that returned them
rows_more : (rows : List RowParts) (cs : List ShownCall) (row : RowParts) (c : ShownCall) → AreRows rows cs → c.answer ≡ Some (Ok (answers.Row row)) → AreRows (rows ++ row ∷ []) (cs ++ c ∷ [])
rows_more [] [] row c r e = (e, tt)
rows_more [] (d ∷ cs) row c r e = absurd r
rows_more (x ∷ rows) [] row c r e = absurd r
rows_more (x ∷ rows) (d ∷ cs) row c r e = (r.0, rows_more rows cs row c r.1 e)

take_one : (n : ℕ) (cs : List ShownCall) (c : ShownCall) → slice_get cs n ≡ Some c → take (suc n) cs ≡ take n cs ++ c ∷ []
take_one n [] c e = cc
take_one zero (d ∷ cs) c e = let same : d ≡ c = cc in ap (λ x. x ∷ []) same
take_one (suc n) (d ∷ cs) c e = ap (λ ds. d ∷ ds) (take_one n cs c e)

get_after : (first : ℕ) (m : ℕ) (cs : List ShownCall) → slice_get (drop first cs) m ≡ slice_get cs (first + m)
get_after zero m cs = let e : zero + m ≡ m = omega arith in ap (slice_get cs) (sym e)
get_after (suc first) m [] = refl
get_after (suc first) m (c ∷ cs) = let e : suc first + m ≡ suc (first + m) = omega arith in get_after first m cs ∙ ap (slice_get (c ∷ cs)) (sym e)

pub before_more : (t : Tape) (first next : ℕ) (rows : List RowParts) (row : RowParts) (c : ShownCall) → first ≤ next → slice_get (map shown_call t.calls) next ≡ Some c → c.answer ≡ Some (Ok (answers.Row row))
    → AreRows rows (calls_before (shown_tape t) first next) → AreRows (rows ++ row ∷ []) (calls_before (shown_tape t) first (next + 1))
before_more t first next rows row c low e is r =
    let all = map shown_call t.calls in
    let more : (next + 1) - first ≡ suc (next - first) = omega arith in
    let sum : first + (next - first) ≡ next = omega arith in
    let there : slice_get (drop first all) (next - first) ≡ Some c = get_after first (next - first) all ∙ ap (slice_get all) sum ∙ e in
    subst (AreRows (rows ++ row ∷ [])) (sym (ap (λ m. take m (drop first all)) more ∙ take_one (next - first) (drop first all) c there)) (rows_more rows _ row c r is)

pub before_none : (t : Tape) (n : ℕ) → AreRows [] (calls_before (shown_tape t) n n)
before_none t n = let none : n - n ≡ zero = omega arith in subst (λ m. AreRows [] (take m (drop n (map shown_call t.calls)))) (sym none) tt
