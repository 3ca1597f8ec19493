-- The walk of a connection over a tape, and what was kept of it by then.
use Rattle.std.proofs.Common.{◌≡◌, ◌≤◌, ℕ, ◌+◌, ◌-◌, List, [], ◌∷◌, ◌++◌, length, map, drop, slice_get, Bool, true, false, ◌||◌, Option, Some, None, refl, sym, ap, ◌∙◌, subst, arith, length-append, length-drop}
use Rattle.my_value.specs.RowParts.{RowParts}
use Rattle.my_grammar.specs.declared.login.Login.{Login}
use Rattle.my_reading.specs.declared.answer.Answer.TheVariants as answers
use Rattle.my_reading.specs.declared.call.Call.{Call}
use Rattle.my_reading.specs.declared.call.CallKind.{CallKind}
use Rattle.my_reading.specs.Calls.{kind_of}
use Rattle.my_reading.specs.Course.{Halt}
use Rattle.my_reading.specs.Endings.{AreCalls, IsCall, closes_cancelled}
use Rattle.my_reading.specs.Place.{Place, first_place}
use Rattle.my_reading.specs.Reading.{ReadCall, read_calls, reading, halt_of, is_closing}
use Rattle.my_reading.specs.Tape.{Span, Tape, TapeCall, between, sent_to, spans_from}
use Rattle.my_reading.specs.Told.{Told, Dropped, closes}
use Rattle.my_client.specs.Made.{Made, has_closed}
use Rattle.my_script.specs.declared.transcript.TapeCall.{TapeCall as ShownCall}
use Rattle.my_client.specs.declared.tape.DoneCall.{DoneCall}
use Rattle.my_client.specs.declared.tape.Said.{Said}
use Rattle.my_client.specs.declared.tape.Said.TheVariants as says
use Rattle.my_client.specs.Kept.{Asked, Kept, nothing_kept, made_of, told_by, asking, ended_by}
use Rattle.my_client.specs.Reads.{tape_kept, place_kept}
use Rattle.my_judge.specs.Reads.{read_of}
use Rattle.my_judge.specs.Settled.{settled, settled_told}
use Rattle.my_run_judge.specs.Walks.{Walk, EndsAt, EndsRight, IsEnded, after_read, ended, ended_at, ending_of, read_at, sent_end, span_of, start, with_taken}
use Rattle.run_laws.proofs.Judging.Going.{GoesOn, before_begin, before_end, before_move, call_after, call_here, call_of, done_by, ends_at, first_shown, goes_here, open_span_is, own_span, rest_kept, shown_call, shown_tape, span_is}
use Rattle.run_laws.proofs.Judging.Places.{sent_after}

-- The reading of each tape that goes on from here comes by this place, closed or not.
pub record ReadsOn (login : Login) (t : Tape) (rest : List TapeCall) (closed : Bool) (p : Place) : Type 0 where
  pub right : AreCalls login (reading login t).calls → AreCalls login (read_calls login (spans_from t rest) closed p).calls
  pub place_is : (reading login t).place ≡ (read_calls login (spans_from t rest) closed p).place

abbrev pub ReadsTo : Login → Kept → Bool → Place → Type 0
ReadsTo login k closed p = (t : Tape) (rest : List TapeCall) → GoesOn t k rest → ReadsOn login t rest closed p

reads_first : (login : Login) → ReadsTo login nothing_kept false (first_place login)
unfolding reading
reads_first login t rest g = record {
  right = λ a. subst (λ (cs : List TapeCall). AreCalls login (read_calls login (spans_from t cs) false (first_place login)).calls) g.calls a;
  place_is = ap (λ (cs : List TapeCall). (read_calls login (spans_from t cs) false (first_place login)).place) g.calls;
}

pub step_right : (login : Login) (s : Span) (ss : List Span) (closed : Bool) (p : Place) → AreCalls login (read_calls login (s ∷ ss) closed p).calls
    → IsCall login (read_of login closed s p) × AreCalls login (read_calls login ss (closed || is_closing s.call s.ending) (halt_of login closed s p).place).calls
unfolding read_calls
step_right login s ss closed p a = a

step_place : (login : Login) (s : Span) (ss : List Span) (closed : Bool) (p : Place) → (read_calls login (s ∷ ss) closed p).place ≡ (read_calls login ss (closed || is_closing s.call s.ending) (halt_of login closed s p).place).place
unfolding read_calls
step_place login s ss closed p = refl

none_place : (login : Login) (closed : Bool) (p : Place) → (read_calls login [] closed p).place ≡ p
unfolding read_calls
none_place login closed p = refl

module _ (login : Login) (f : Kept) (a : Asked) (said : Said) (closed : Bool) (p : Place) (fp : f.pending ≡ Some a) (reads : ReadsTo login f closed p) where
  abbrev own : Span
  own = own_span f a (Some (told_by said))

  ended_right : (t : Tape) (rest : List TapeCall) → GoesOn t (ended_by f a said) rest → AreCalls login (reading login t).calls
      → IsCall login (read_of login closed own p) × AreCalls login (read_calls login (spans_from t rest) (closed || closes (told_by said) (kind_of a.call)) (halt_of login closed own p).place).calls
  ended_right t rest g all =
      step_right login own (spans_from t rest) closed p
      (subst (λ (ss : List Span). AreCalls login (read_calls login ss closed p).calls) (span_is t f a said rest g) ((reads t (call_of (done_by a said) ∷ rest) (before_end t f a said rest fp g)).right all))

  reads_end : ReadsTo login (ended_by f a said) (closed || closes (told_by said) (kind_of a.call)) (halt_of login closed own p).place
  reads_end t rest g = record {
    right = λ all. (ended_right t rest g all).1;
    place_is =
        (reads t (call_of (done_by a said) ∷ rest) (before_end t f a said rest fp g)).place_is
        ∙ ap (λ (ss : List Span). (read_calls login ss closed p).place) (span_is t f a said rest g)
        ∙ step_place login own (spans_from t rest) closed p;
  }

-- where the reading of what was kept stands
pub place_at_rest : (login : Login) (k : Kept) (closed : Bool) (p : Place) → k.pending ≡ None → ReadsTo login k closed p → place_kept login k ≡ p
place_at_rest login k closed p none reads =
    (reads (tape_kept k) (rest_kept k.pending) (goes_here k)).place_is
    ∙ ap (λ (q : Option Asked). (read_calls login (spans_from (tape_kept k) (rest_kept q)) closed p).place) none
    ∙ none_place login closed p

pub place_open : (login : Login) (k : Kept) (a : Asked) (closed : Bool) (p : Place) → k.pending ≡ Some a → ReadsTo login k closed p → place_kept login k ≡ (halt_of login closed (own_span k a None) p).place
place_open login k a closed p some reads =
    (reads (tape_kept k) (rest_kept k.pending) (goes_here k)).place_is
    ∙ ap (λ (q : Option Asked). (read_calls login (spans_from (tape_kept k) (rest_kept q)) closed p).place) some
    ∙ ap (λ (ss : List Span). (read_calls login ss closed p).place) (open_span_is k a)
    ∙ step_place login (own_span k a None) [] closed p
    ∙ none_place login (closed || is_closing a.call None) (halt_of login closed (own_span k a None) p).place

-- where a call stops doesn't depend on how it ended
pub same_halt : (login : Login) (closed : Bool) (k : Kept) (a : Asked) (e g : Option Told) (p : Place) → halt_of login closed (own_span k a e) p ≡ halt_of login closed (own_span k a g) p
same_halt login true k a e g p = refl
same_halt login false k a e g p = refl

-- where the walk is
abbrev pub from_of : Kept → Option Asked → ℕ
from_of k None = length k.taken
from_of k (Some a) = a.taken_from

abbrev pub sent_of : Kept → Option Asked → ℕ
sent_of k None = length k.sent
sent_of k (Some a) = a.sent_from

pub record AtKept (login : Login) (k : Kept) (next from taken : ℕ) (closed : Bool) (p : Place) : Type 0 where
  pub next_is : next ≡ length k.calls
  pub from_is : from ≡ from_of k k.pending
  pub taken_is : taken ≡ length k.taken
  pub closed_is : closed ≡ has_closed (made_of k.calls)
  pub sent_is : length p.sent ≡ sent_of k k.pending
  pub low : sent_of k k.pending ≤ length k.sent
  pub reads : ReadsTo login k closed p

abbrev pub AtWalk : Login → Kept → Walk → Type 0
AtWalk login k w = AtKept login k w.spot.next w.spot.from w.spot.taken w.closed w.place

pub at_first : (login : Login) (n : ℕ) → AtWalk login nothing_kept (start login n)
at_first login n = record { next_is = refl; from_is = refl; taken_is = refl; closed_is = refl; sent_is = refl; low = omega arith; reads = reads_first login }

pub at_begin : (login : Login) (k : Kept) (call : Call) (rows : Option (List RowParts)) (w : Walk) → k.pending ≡ None → AtWalk login k w → AtWalk login (asking k call rows) w
at_begin login k call rows w none at = record {
  next_is = at.next_is;
  from_is = at.from_is ∙ ap (from_of k) none;
  taken_is = at.taken_is;
  closed_is = at.closed_is;
  sent_is = at.sent_is ∙ ap (sent_of k) none;
  low = omega arith;
  reads = λ t rest g. at.reads t rest (before_begin t k call rows rest none g);
}

pub at_move : (login : Login) (k f : Kept) (a : Asked) (out come : List ℕ) (m : ℕ) (w : Walk) → f.sent ≡ k.sent ++ out → f.taken ≡ k.taken ++ come → f.calls ≡ k.calls → f.pending ≡ Some a → k.pending ≡ Some a
    → m ≡ length come → AtWalk login k w → AtWalk login f (with_taken m w)
at_move login k f a out come m w s c same fp kp count at =
    let kf : sent_of k k.pending ≡ a.sent_from = ap (sent_of k) kp in
    let ff : sent_of f f.pending ≡ a.sent_from = ap (sent_of f) fp in
    let bytes : length f.sent ≡ length k.sent + length out = ap length s ∙ length-append k.sent out in
    record {
      next_is = at.next_is ∙ ap length (sym same);
      from_is = at.from_is ∙ ap (from_of k) kp ∙ sym (ap (from_of f) fp);
      taken_is = ap (λ n. n + m) at.taken_is ∙ ap (λ n. length k.taken + n) count ∙ sym (ap length c ∙ length-append k.taken come);
      closed_is = at.closed_is ∙ ap (λ ds. has_closed (made_of ds)) (sym same);
      sent_is = at.sent_is ∙ kf ∙ sym ff;
      low = let low = at.low in omega arith;
      reads = λ t rest g. at.reads t rest (before_move t k f a out come rest s c same fp kp g);
    }

-- a call that ended closes the walk exactly where it closes the connection
or_swap : (a b c : Bool) → a || (b || c) ≡ b || (a || c)
or_swap true true c = refl
or_swap true false c = refl
or_swap false b c = refl

or_last : (a : Bool) → a || false ≡ false || a
or_last true = refl
or_last false = refl

or_flip : (a b : Bool) → a || b ≡ b || a
or_flip true true = refl
or_flip true false = refl
or_flip false true = refl
or_flip false false = refl

closed_last : (ms : List Made) (m : Made) → has_closed (ms ++ m ∷ []) ≡ closes m.what (kind_of m.call) || has_closed ms
closed_last [] m = refl
closed_last (x ∷ ms) m = ap (λ b. closes x.what (kind_of x.call) || b) (closed_last ms m) ∙ or_swap (closes x.what (kind_of x.call)) (closes m.what (kind_of m.call)) (has_closed ms)

pub closed_more : (ds : List DoneCall) (d : DoneCall) → has_closed (made_of (ds ++ d ∷ [])) ≡ has_closed (made_of ds) || closes (told_by d.said) (kind_of d.call)
closed_more [] d = or_last (closes (told_by d.said) (kind_of d.call))
closed_more (x ∷ ds) d =
    closed_last (made_of (ds ++ d ∷ [])) (record { call = x.call; what = told_by x.said })
    ∙ ap (λ b. closes (told_by x.said) (kind_of x.call) || b) (closed_more ds d)
    ∙ or_in (closes (told_by x.said) (kind_of x.call)) (has_closed (made_of ds)) (closes (told_by d.said) (kind_of d.call))
    ∙ ap (λ b. b || closes (told_by d.said) (kind_of d.call)) (sym (closed_last (made_of ds) (record { call = x.call; what = told_by x.said })))
  where
    or_in : (a b c : Bool) → a || (b || c) ≡ (a || b) || c
    or_in true b c = refl
    or_in false b c = refl

-- how the call ended, by whether it is said to be cancelled
abbrev pub SaidSo : Bool → CallKind → Place → Said → Type 0
SaidSo false kind p (says.Answered answer) = Unit {0}
SaidSo false kind p (says.Failed e) = Unit {0}
SaidSo false kind p (says.Cancelled closing) = ⊥
SaidSo true kind p (says.Answered answer) = ⊥
SaidSo true kind p (says.Failed e) = ⊥
SaidSo true kind p (says.Cancelled closing) = closing ≡ closes_cancelled kind p

settles : (cancelled : Bool) (kind : CallKind) (p : Place) (a : Asked) (said : Said) → SaidSo cancelled kind p said → settled_told kind p (ending_of cancelled (shown_call (call_of (done_by a said)))) ≡ Some (told_by said)
settles false kind p a (says.Answered answers.Ready) so = refl
settles false kind p a (says.Answered (answers.Row row)) so = refl
settles false kind p a (says.Answered answers.SetEnd) so = refl
settles false kind p a (says.Answered answers.NoSet) so = refl
settles false kind p a (says.Answered (answers.Stmt statement)) so = refl
settles false kind p a (says.Answered (answers.Flag flag)) so = refl
settles false kind p a (says.Failed e) so = refl
settles false kind p a (says.Cancelled closing) so = absurd so
settles true kind p a (says.Answered answer) so = absurd so
settles true kind p a (says.Failed e) so = absurd so
settles true kind p a (says.Cancelled closing) so = ap (λ b. Some (Dropped b)) (sym so)

-- the call in turn, read where it ended
module _ (login : Login) (t : Tape) (all : AreCalls login (reading login t).calls) (f : Kept) (a : Asked) (said : Said) (cancelled : Bool) (rest : List TapeCall) (w : Walk)
    (fp : f.pending ≡ Some a) (g : GoesOn t (ended_by f a said) rest) (at : AtWalk login f w)
    (so : SaidSo cancelled (kind_of a.call) (halt_of login w.closed (own_span f a (Some (told_by said))) w.place).place said) where
  abbrev c : ShownCall
  c = shown_call (call_of (done_by a said))

  here : slice_get (map shown_call t.calls) w.spot.next ≡ Some c
  here = call_here t f (call_of (done_by a said)) rest (before_end t f a said rest fp g) w.spot.next at.next_is

  end_there : (xs : List TapeCall) → sent_end (first_shown xs) (shown_tape t) ≡ sent_to t xs
  end_there [] = refl
  end_there (x ∷ xs) = refl

  bytes_sent : between a.sent_from (sent_end (slice_get (map shown_call t.calls) (w.spot.next + 1)) (shown_tape t)) t.sent ≡ drop a.sent_from f.sent
  bytes_sent =
      ap (λ o. between a.sent_from (sent_end o (shown_tape t)) t.sent) (call_after t f (call_of (done_by a said)) rest (before_end t f a said rest fp g) w.spot.next at.next_is)
      ∙ ap (λ n. between a.sent_from n t.sent) (end_there rest)
      ∙ (ends_at t (ended_by f a said) rest refl g).sent_bytes a.sent_from

  bytes_taken : between w.spot.from w.spot.taken t.taken ≡ drop a.taken_from f.taken
  bytes_taken =
      let e = ends_at t (ended_by f a said) rest refl g in
      ap (λ n. between n w.spot.taken t.taken) (at.from_is ∙ ap (from_of f) fp)
      ∙ ap (λ n. between a.taken_from n t.taken) (at.taken_is ∙ sym e.taken_is)
      ∙ e.taken_bytes a.taken_from

  abbrev raw : Option Told → Span
  raw e = own_span f a e

  span_there : span_of (shown_tape t) cancelled w.spot c ≡ raw (ending_of cancelled c)
  span_there =
      ap (λ (z : List ℕ). let s : Span = record { call = a.call; sent = z; taken = between w.spot.from w.spot.taken t.taken; ending = ending_of cancelled c } in s) bytes_sent
      ∙ ap (λ (z : List ℕ). let s : Span = record { call = a.call; sent = drop a.sent_from f.sent; taken = z; ending = ending_of cancelled c } in s) bytes_taken

  settled_there : settled login w.closed (raw (ending_of cancelled c)) w.place ≡ raw (Some (told_by said))
  settled_there =
      ap (λ (h : Halt). raw (settled_told (kind_of a.call) h.place (ending_of cancelled c))) (same_halt login w.closed f a (ending_of cancelled c) (Some (told_by said)) w.place)
      ∙ ap raw (settles cancelled (kind_of a.call) (halt_of login w.closed (raw (Some (told_by said))) w.place).place a said so)

  pub read_there : read_at login (shown_tape t) cancelled w c ≡ read_of login w.closed (raw (Some (told_by said))) w.place
  read_there =
      ap (λ (s : Span). read_of login w.closed (settled login w.closed s w.place) w.place) span_there
      ∙ ap (λ (s : Span). read_of login w.closed s w.place) settled_there

  pub is_ended : IsEnded login (shown_tape t) cancelled w
  is_ended =
      let r : EndsRight login (shown_tape t) cancelled w c = record {
        sent_from = sym (at.sent_is ∙ ap (sent_of f) fp);
        call = subst (λ (x : ReadCall). IsCall login x) (sym read_there) (ended_right login f a said w.closed w.place fp at.reads t rest g all).0;
      } in
      subst (EndsAt login (shown_tape t) cancelled w) (sym here) r

  pub walk_there : ended login (shown_tape t) cancelled w ≡ after_read w (read_of login w.closed (raw (Some (told_by said))) w.place)
  walk_there = ap (ended_at login (shown_tape t) cancelled w) here ∙ ap (after_read w) read_there

  at_after : AtWalk login (ended_by f a said) (after_read w (read_of login w.closed (raw (Some (told_by said))) w.place))
  at_after =
      let low : a.sent_from ≤ length f.sent = subst (λ n. n ≤ length f.sent) (ap (sent_of f) fp) at.low in
      let was : length w.place.sent ≡ a.sent_from = at.sent_is ∙ ap (sent_of f) fp in
      let more : length (drop a.sent_from f.sent) ≡ length f.sent - a.sent_from = length-drop a.sent_from f.sent in
      let sum : length (w.place.sent ++ drop a.sent_from f.sent) ≡ length w.place.sent + length (drop a.sent_from f.sent) = length-append w.place.sent (drop a.sent_from f.sent) in
      record {
        next_is = ap (λ n. n + 1) at.next_is ∙ sym (length-append f.calls (done_by a said ∷ []));
        from_is = at.taken_is;
        taken_is = at.taken_is;
        closed_is = ap (λ b. b || closes (told_by said) (kind_of a.call)) at.closed_is ∙ sym (closed_more f.calls (done_by a said));
        sent_is = ap length (sent_after login w.closed (raw (Some (told_by said))) w.place) ∙ sum ∙ omega arith;
        low = omega arith;
        reads = reads_end login f a said w.closed w.place fp at.reads;
      }

  pub at_end : AtWalk login (ended_by f a said) (ended login (shown_tape t) cancelled w)
  at_end = subst (λ (v : Walk). AtWalk login (ended_by f a said) v) (sym walk_there) at_after
