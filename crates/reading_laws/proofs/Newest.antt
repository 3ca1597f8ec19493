-- A connection is clean by its newest call: a connect call, a drop of a result, or a renewal of a clean one.
use Rattle.std.proofs.Common.{◌≡◌, ◌++◌, ◌-◌, ◌≤◌, ℕ, zero, suc, Bool, true, false, not, ◌||◌, ◌&&◌, List, [], ◌∷◌, Option, Some, length, take, drop, refl, ap, subst, sym, ◌∙◌, arith}
use Rattle.std.specs.Prelude.{nat_le, is_some}
use Rattle.std.proofs.lemmas.Bool.Decides.{nat_tests}
use Rattle.my_grammar.specs.declared.login.Login.{Login}
use Rattle.my_reading.specs.declared.call.Call.{Call}
use Rattle.my_reading.specs.declared.call.Call.TheVariants.{Connect, DropResult, ResetForPool}
use Rattle.my_reading.specs.declared.transaction.TxStatus.TheVariants as txs
use Rattle.my_reading.specs.Calls.{kind_of, is_connect}
use Rattle.my_reading.specs.Clean.{have_ended, is_read_whole}
use Rattle.my_reading.specs.Course.{Returns}
use Rattle.my_reading.specs.Endings.{AreCalls, IsCall, connects_first, connects_none}
use Rattle.my_reading.specs.Order.{are_in_order, is_within, leads_to}
use Rattle.my_reading.specs.Place.{Place, first_place, with_bytes}
use Rattle.my_reading.specs.Reading.{ReadCall, halt_of, is_closing, read_calls, reading}
use Rattle.my_reading.specs.Tape.{Span, Tape, TapeCall, between, spans, spans_from}
use Rattle.my_reading.specs.Told.{Told, ToldReady}
use Rattle.reading_laws.specs.Cleaned.{IsCleanPlace, ConnectedIsClean, DroppedIsClean, RenewedIsClean, IsOneMore}
use Rattle.reading_laws.proofs.Cleaned.{connecting_cleans, dropping_reads, renewal_refreshes, span_of, spans_end, read_call, joined, read_calls_end, last_is, ready_stop, cleaning, have_all_ended}

-- a call that returned ready closes nothing
abbrev LeavesOpen : Call → Type 0
LeavesOpen call = is_closing call (Some ToldReady) ≡ false

still_open : (closed : Bool) (call : Call) (ending : Option Told) → closed ≡ false → LeavesOpen call → ending ≡ Some ToldReady
    → (closed || is_closing call ending) ≡ false
still_open closed call ending alive quiet ready = rw (alive, ready) quiet

-- ---- where it was dropped ----

-- on a session that is closed no drop returns ready
abbrev Dropped : Login → Bool → Place → Span → Type 0
Dropped login closed p s = (halt_of login closed s p).stop ≡ Returns ToldReady → (closed ≡ false) × (is_read_whole (halt_of login closed s p).place ≡ true)

dropped : (login : Login) (closed : Bool) (p : Place) (sent taken : List ℕ) (ending : Option Told) → Dropped login closed p (cleaning sent taken ending DropResult)
dropped login true p sent taken ending e = absurd (cc)
dropped login false p sent taken ending e = (refl, dropping_reads login (with_bytes sent taken p) e)

pub dropped_is_clean : DroppedIsClean
unfolding reading
dropped_is_clean login t earlier c tape calls ended is ready outside =
    let found = spans_end t earlier c in
    let s = span_of t [] c in
    let r = read_calls login found.0 false (first_place login) in
    let whole : reading login t ≡ joined login r s = ap (λ ss. read_calls login ss false (first_place login)) (ap (spans_from t) calls ∙ found.1) ∙ read_calls_end login found.0 s false (first_place login) in
    let call : IsCall login (read_call login r s) = last_is login r.calls (read_call login r s) (subst (λ x. AreCalls login x.calls) whole tape.calls) in
    let stop = ready_stop login (read_call login r s) (halt_of login r.closed s r.place).stop call.ends ready in
    let left = subst (λ d. Dropped login r.closed r.place (cleaning s.sent s.taken s.ending d)) (sym is) (dropped login r.closed r.place s.sent s.taken s.ending) stop in
    record {
      alive = ap (λ x. x.closed) whole ∙ still_open r.closed c.call c.ending left.0 (subst (λ d. LeavesOpen d) (sym is) refl) ready;
      ended = subst (λ cs. have_ended cs ≡ true) (sym calls) (have_all_ended earlier c ready ended);
      read = subst (λ x. is_read_whole x.place ≡ true) (sym whole) left.1;
      status = outside;
    }

-- ---- where it was made ----

both_hold : (a b : Bool) → (a && b) ≡ true → (a ≡ true) × (b ≡ true)
both_hold true true e = (refl, refl)
both_hold true false e = absurd (cc)
both_hold false b e = absurd (cc)

-- no other call than the first one connects
none_connects : (cs : List ReadCall) (c : ReadCall) → connects_none (cs ++ c ∷ []) ≡ true → is_connect (kind_of c.span.call) ≡ true → ⊥
none_connects [] c e k = let h = both_hold (not (is_connect (kind_of c.span.call))) true e in absurd (let f = ap not k in cc)
none_connects (x ∷ cs) c e k = none_connects cs c (both_hold (not (is_connect (kind_of x.span.call))) (connects_none (cs ++ c ∷ [])) e).1 k

first_alone : (cs : List ReadCall) (c : ReadCall) → connects_first (cs ++ c ∷ []) ≡ true → is_connect (kind_of c.span.call) ≡ true → cs ≡ []
first_alone [] c e k = refl
first_alone (x ∷ cs) c e k = absurd (none_connects cs c (both_hold (is_connect (kind_of x.span.call)) (connects_none (cs ++ c ∷ [])) e).1 k)

-- so nothing was read before it
unread_before : (login : Login) (ss : List Span) (closed : Bool) (p : Place) → (read_calls login ss closed p).calls ≡ [] → ss ≡ []
unfolding read_calls
unread_before login [] closed p e = refl
unread_before login (s ∷ ss) closed p e = absurd (cc)

no_span : (t : Tape) (earlier : List TapeCall) (c : TapeCall) (s : Span) → spans_from t (earlier ++ c ∷ []) ≡ s ∷ [] → earlier ≡ []
no_span t [] c s e = refl
no_span t (d ∷ []) c s e = absurd (cc)
no_span t (d ∷ x ∷ ds) c s e = absurd (cc)

abbrev Connected : Login → Place → Span → Type 0
Connected login p s = (halt_of login false s p).stop ≡ Returns ToldReady → IsCleanPlace (halt_of login false s p).place

connected : (login : Login) (p : Place) (sent taken : List ℕ) (ending : Option Told) → p.status ≡ txs.None → Connected login p (cleaning sent taken ending Connect)
connected login p sent taken ending outside e = connecting_cleans login (with_bytes sent taken p) outside e

pub connected_is_clean : ConnectedIsClean
unfolding reading read_calls
connected_is_clean login t earlier c tape calls is ready =
    let found = spans_end t earlier c in
    let s = span_of t [] c in
    let r = read_calls login found.0 false (first_place login) in
    let whole : reading login t ≡ joined login r s = ap (λ ss. read_calls login ss false (first_place login)) (ap (spans_from t) calls ∙ found.1) ∙ read_calls_end login found.0 s false (first_place login) in
    let call : IsCall login (read_call login r s) = last_is login r.calls (read_call login r s) (subst (λ x. AreCalls login x.calls) whole tape.calls) in
    let connects : is_connect (kind_of c.call) ≡ true = subst (λ d. is_connect (kind_of d) ≡ true) (sym is) refl in
    let alone : r.calls ≡ [] = first_alone r.calls (read_call login r s) (subst (λ x. connects_first x.calls ≡ true) whole tape.first) connects in
    let none : found.0 ≡ [] = unread_before login found.0 false (first_place login) alone in
    let first : r ≡ record { calls = []; place = first_place login; closed = false } = ap (λ ss. read_calls login ss false (first_place login)) none in
    let stop = ready_stop login (read_call login r s) (halt_of login r.closed s r.place).stop call.ends ready in
    let begun : (halt_of login false s (first_place login)).stop ≡ Returns ToldReady = subst (λ x. (halt_of login x.closed s x.place).stop ≡ Returns ToldReady) first stop in
    let left = subst (λ d. Connected login (first_place login) (cleaning s.sent s.taken s.ending d)) (sym is) (connected login (first_place login) s.sent s.taken s.ending refl) begun in
    let at : IsCleanPlace (halt_of login r.closed s r.place).place = subst (λ x. IsCleanPlace (halt_of login x.closed s x.place).place) (sym first) left in
    record {
      alive = ap (λ x. x.closed) whole ∙ still_open r.closed c.call c.ending (ap (λ x. x.closed) first) (subst (λ d. LeavesOpen d) (sym is) refl) ready;
      ended = subst (λ cs. have_ended cs ≡ true) (sym calls) (have_all_ended earlier c ready (subst (λ cs. have_ended cs ≡ true) (sym (no_span t earlier c s (found.1 ∙ ap (λ ss. ss ++ s ∷ []) none))) refl));
      read = subst (λ x. is_read_whole x.place ≡ true) (sym whole) at.read;
      status = subst (λ x. x.place.status ≡ txs.None) (sym whole) at.status;
    }

-- ---- where it was renewed ----

-- what lies among the first bytes is found there, whatever follows
taken_of : (n : ℕ) (xs ys : List ℕ) → n ≤ length xs → take n (xs ++ ys) ≡ take n xs
taken_of zero xs ys le = refl
taken_of (suc n) [] ys le = absurd (omega (arith, le))
taken_of (suc n) (x ∷ xs) ys le = ap (λ zs. x ∷ zs) (taken_of n xs ys (omega (arith, le)))

between_of : (from to : ℕ) (xs ys : List ℕ) → to ≤ length xs → between from to (xs ++ ys) ≡ between from to xs
between_of zero to xs ys le =
    let whole : to - 0 ≡ to = omega arith in
    ap (λ n. take n (xs ++ ys)) whole ∙ taken_of to xs ys le ∙ sym (ap (λ n. take n xs) whole)
between_of (suc from) zero xs ys le =
    let none : 0 - suc from ≡ 0 = omega arith in
    ap (λ n. take n (drop (suc from) (xs ++ ys))) none ∙ sym (ap (λ n. take n (drop (suc from) xs)) none)
between_of (suc from) (suc to) [] ys le = absurd (omega (arith, le))
between_of (suc from) (suc to) (x ∷ xs) ys le =
    let less : suc to - suc from ≡ to - from = omega arith in
    ap (λ n. take n (drop from (xs ++ ys))) less ∙ between_of from to xs ys (omega (arith, le)) ∙ sym (ap (λ n. take n (drop from xs)) less)

-- the last byte of each call is one of the tape before the newest call
record EndsIn (s : Tape) (c : TapeCall) : Type 0 where
  sent : c.sent_from ≤ length s.sent
  taken : c.taken_from ≤ length s.taken

abbrev AllIn : Tape → List TapeCall → Type 0
AllIn s [] = Unit {0}
AllIn s (d ∷ ds) = EndsIn s d × AllIn s ds

-- it begins there, and no earlier one begins after it
all_in : (s t : Tape) (cs : List TapeCall) (c : TapeCall) → EndsIn s c → are_in_order t (cs ++ c ∷ []) ≡ true → AllIn s cs
all_in s t [] c at order = tt
all_in s t (d ∷ []) c at order =
    let here = both_hold (is_within t d && leads_to d (c ∷ [])) (are_in_order t (c ∷ [])) order in
    let leads = both_hold (is_some d.ending && nat_le d.sent_from c.sent_from) (nat_le d.taken_from c.taken_from) (both_hold (is_within t d) (leads_to d (c ∷ [])) here.0).1 in
    let sent : d.sent_from ≤ c.sent_from = before d.sent_from c.sent_from (both_hold (is_some d.ending) (nat_le d.sent_from c.sent_from) leads.0).1 in
    let taken : d.taken_from ≤ c.taken_from = before d.taken_from c.taken_from leads.1 in
    (record { sent = omega (arith, sent, at.sent); taken = omega (arith, taken, at.taken) }, tt)
  where
    before : (a b : ℕ) → nat_le a b ≡ true → a ≤ b
    before a b e = grind (arith, nat_tests)
all_in s t (d ∷ x ∷ cs) c at order =
    let here = both_hold (is_within t d && leads_to d (x ∷ cs ++ c ∷ [])) (are_in_order t (x ∷ cs ++ c ∷ [])) order in
    let rest = all_in s t (x ∷ cs) c at here.1 in
    let leads = both_hold (is_some d.ending && nat_le d.sent_from x.sent_from) (nat_le d.taken_from x.taken_from) (both_hold (is_within t d) (leads_to d (x ∷ cs ++ c ∷ [])) here.0).1 in
    let sent : d.sent_from ≤ x.sent_from = before d.sent_from x.sent_from (both_hold (is_some d.ending) (nat_le d.sent_from x.sent_from) leads.0).1 in
    let taken : d.taken_from ≤ x.taken_from = before d.taken_from x.taken_from leads.1 in
    (record { sent = omega (arith, sent, rest.0.sent); taken = omega (arith, taken, rest.0.taken) }, rest)
  where
    before : (a b : ℕ) → nat_le a b ≡ true → a ≤ b
    before a b e = grind (arith, nat_tests)

-- so the calls before it have the bytes that they had
module _ (s t : Tape) (c : TapeCall) (more : IsOneMore s c t) where
  span_same : (d : TapeCall) (sent taken : ℕ) → sent ≤ length s.sent → taken ≤ length s.taken
      → (between d.sent_from sent t.sent ≡ between d.sent_from sent s.sent) × (between d.taken_from taken t.taken ≡ between d.taken_from taken s.taken)
  span_same d sent taken le_sent le_taken = (
    ap (between d.sent_from sent) more.sent_is ∙ between_of d.sent_from sent s.sent more.sent le_sent,
    ap (between d.taken_from taken) more.taken_is ∙ between_of d.taken_from taken s.taken more.taken le_taken,
  )

  abbrev span_by : TapeCall → List ℕ → List ℕ → Span
  span_by d sent taken = record { call = d.call; sent = sent; taken = taken; ending = d.ending }

  spans_same : (ds : List TapeCall) → AllIn s ds → spans_from t (ds ++ c ∷ []) ≡ spans_from s ds ++ span_of t [] c ∷ []
  spans_same [] all = refl
  spans_same (d ∷ []) all =
      let same = span_same d (length s.sent) (length s.taken) (omega arith) (omega arith) in
      let sent : between d.sent_from c.sent_from t.sent ≡ between d.sent_from (length s.sent) s.sent = ap (λ n. between d.sent_from n t.sent) more.sent_from ∙ same.0 in
      let taken : between d.taken_from c.taken_from t.taken ≡ between d.taken_from (length s.taken) s.taken = ap (λ n. between d.taken_from n t.taken) more.taken_from ∙ same.1 in
      ap (λ xs. span_by d xs (between d.taken_from c.taken_from t.taken) ∷ span_of t [] c ∷ []) sent
      ∙ ap (λ xs. span_by d (between d.sent_from (length s.sent) s.sent) xs ∷ span_of t [] c ∷ []) taken
  spans_same (d ∷ x ∷ ds) all =
      let same = span_same d x.sent_from x.taken_from all.1.0.sent all.1.0.taken in
      ap (λ xs. span_by d xs (between d.taken_from x.taken_from t.taken) ∷ spans_from t (x ∷ ds ++ c ∷ [])) same.0
      ∙ ap (λ xs. span_by d (between d.sent_from x.sent_from s.sent) xs ∷ spans_from t (x ∷ ds ++ c ∷ [])) same.1
      ∙ ap (λ ss. span_by d (between d.sent_from x.sent_from s.sent) (between d.taken_from x.taken_from s.taken) ∷ ss) (spans_same (x ∷ ds) all.1)

abbrev Renewed : Login → Place → Span → Type 0
Renewed login p s = (halt_of login false s p).stop ≡ Returns ToldReady → IsCleanPlace (halt_of login false s p).place

renewed : (login : Login) (p : Place) (sent taken : List ℕ) (ending : Option Told) → p.status ≡ txs.None → Renewed login p (cleaning sent taken ending ResetForPool)
renewed login p sent taken ending outside e = (renewal_refreshes login (with_bytes sent taken p) outside e).clean

pub renewed_is_clean : RenewedIsClean
unfolding reading
renewed_is_clean login s c t tape more clean is ready =
    let here = span_of t [] c in
    let r = reading login s in
    let at : EndsIn s c = record { sent = omega (arith, more.sent_from); taken = omega (arith, more.taken_from) } in
    let all : AllIn s s.calls = all_in s t s.calls c at (subst (λ cs. are_in_order t cs ≡ true) more.calls tape.order.order) in
    let whole : reading login t ≡ joined login r here = ap (λ ss. read_calls login ss false (first_place login)) (ap (spans_from t) more.calls ∙ spans_same s t c more s.calls all) ∙ read_calls_end login (spans s) here false (first_place login) in
    let call : IsCall login (read_call login r here) = last_is login r.calls (read_call login r here) (subst (λ x. AreCalls login x.calls) whole tape.calls) in
    let stop = ready_stop login (read_call login r here) (halt_of login r.closed here r.place).stop call.ends ready in
    let begun : (halt_of login false here r.place).stop ≡ Returns ToldReady = subst (λ b. (halt_of login b here r.place).stop ≡ Returns ToldReady) clean.alive stop in
    let left = subst (λ d. Renewed login r.place (cleaning here.sent here.taken here.ending d)) (sym is) (renewed login r.place here.sent here.taken here.ending clean.status) begun in
    let is_left : IsCleanPlace (halt_of login r.closed here r.place).place = subst (λ b. IsCleanPlace (halt_of login b here r.place).place) (sym clean.alive) left in
    record {
      alive = ap (λ x. x.closed) whole ∙ still_open r.closed c.call c.ending clean.alive (subst (λ d. LeavesOpen d) (sym is) refl) ready;
      ended = subst (λ cs. have_ended cs ≡ true) (sym more.calls) (have_all_ended s.calls c ready clean.ended);
      read = subst (λ x. is_read_whole x.place ≡ true) (sym whole) is_left.read;
      status = subst (λ x. x.place.status ≡ txs.None) (sym whole) is_left.status;
    }
