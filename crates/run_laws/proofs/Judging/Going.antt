-- A tape that goes on from what was kept so far.
use Rattle.std.proofs.Common.{◌≡◌, ℕ, zero, suc, ◌+◌, ◌-◌, List, [], ◌∷◌, ◌++◌, length, map, take, drop, slice_get, Option, Some, None, Result, Ok, Err, refl, sym, ap, ◌∙◌, subst, arith}
use Rattle.std.proofs.lemmas.List.{append-nil, append_assoc}
use Rattle.my_value.specs.RowParts.{RowParts}
use Rattle.my_reading.specs.declared.answer.Answer.{Answer}
use Rattle.my_reading.specs.declared.answer.Answer.TheVariants as answers
use Rattle.my_reading.specs.declared.call.Call.{Call}
use Rattle.my_reading.specs.declared.error.Error.{Error}
use Rattle.my_reading.specs.Tape.{Span, Tape, TapeCall, between, sent_to, taken_to, spans_from}
use Rattle.my_reading.specs.Told.{Told, ToldReady, ToldRow, ToldEnd, ToldNone, ToldStatement, ToldFlag, ToldError, ToldPassed, Dropped}
use Rattle.my_script.specs.declared.transcript.TapeCall.{TapeCall as ShownCall}
use Rattle.my_client.specs.declared.tape.DoneCall.{DoneCall}
use Rattle.my_client.specs.declared.tape.Said.{Said}
use Rattle.my_client.specs.declared.tape.Said.TheVariants as says
use Rattle.my_client.specs.Kept.{Asked, Kept, told_by, asking, ended_by}
use Rattle.my_client.specs.Reads.{calls_kept, tape_kept}
use Rattle.my_run.specs.Tapes.{answer_in, tape_call, open_call}
use Rattle.my_run_judge.specs.Seen.{TapeSeen}

-- a call that ended, and one that is open, on a tape
abbrev pub call_of : DoneCall → TapeCall
call_of d = record { call = d.call; sent_from = d.sent_from; taken_from = d.taken_from; ending = Some (told_by d.said) }

abbrev pub open_of : Asked → TapeCall
open_of a = record { call = a.call; sent_from = a.sent_from; taken_from = a.taken_from; ending = None }

abbrev pub done_by : Asked → Said → DoneCall
done_by a said = record { call = a.call; sent_from = a.sent_from; taken_from = a.taken_from; said = said }

abbrev pub rest_kept : Option Asked → List TapeCall
rest_kept None = []
rest_kept (Some a) = open_of a ∷ []

kept_rest : (ds : List DoneCall) (q : Option Asked) → calls_kept ds q ≡ calls_kept ds None ++ rest_kept q
kept_rest [] None = refl
kept_rest [] (Some a) = refl
kept_rest (d ∷ ds) q = ap (λ cs. call_of d ∷ cs) (kept_rest ds q)

done_last : (ds : List DoneCall) (d : DoneCall) → calls_kept (ds ++ d ∷ []) None ≡ calls_kept ds None ++ call_of d ∷ []
done_last [] d = refl
done_last (x ∷ ds) d = ap (λ cs. call_of x ∷ cs) (done_last ds d)

pub kept_length : (ds : List DoneCall) → length (calls_kept ds None) ≡ length ds
kept_length [] = refl
kept_length (d ∷ ds) = ap suc (kept_length ds)

-- a call as a transcript shows it
abbrev pub answer_of : Option Told → Option (Result Answer Error)
answer_of None = None
answer_of (Some ToldReady) = Some (Ok answers.Ready)
answer_of (Some (ToldRow row)) = Some (Ok (answers.Row row))
answer_of (Some ToldEnd) = Some (Ok answers.SetEnd)
answer_of (Some ToldNone) = Some (Ok answers.NoSet)
answer_of (Some (ToldStatement statement)) = Some (Ok (answers.Stmt statement))
answer_of (Some (ToldFlag flag)) = Some (Ok (answers.Flag flag))
answer_of (Some (ToldError e)) = Some (Err e)
answer_of (Some (ToldPassed e)) = None
answer_of (Some (Dropped closing)) = None

abbrev pub shown_call : TapeCall → ShownCall
shown_call c = record { call = c.call; sent_from = c.sent_from; answer = answer_of c.ending }

abbrev pub shown_tape : Tape → TapeSeen
shown_tape t = record { sent = t.sent; taken = t.taken; calls = map shown_call t.calls }

pub shown_said : (said : Said) → answer_in said ≡ answer_of (Some (told_by said))
shown_said (says.Answered answers.Ready) = refl
shown_said (says.Answered (answers.Row row)) = refl
shown_said (says.Answered answers.SetEnd) = refl
shown_said (says.Answered answers.NoSet) = refl
shown_said (says.Answered (answers.Stmt statement)) = refl
shown_said (says.Answered (answers.Flag flag)) = refl
shown_said (says.Failed e) = refl
shown_said (says.Cancelled closing) = refl

pub shown_kept : (ds : List DoneCall) (q : Option Asked) → map tape_call ds ++ open_call q ≡ map shown_call (calls_kept ds q)
shown_kept [] None = refl
shown_kept [] (Some a) = refl
shown_kept (d ∷ ds) q =
    ap (λ x. let c : ShownCall = record { call = d.call; sent_from = d.sent_from; answer = x } in c ∷ (map tape_call ds ++ open_call q)) (shown_said d.said)
    ∙ ap (λ (cs : List ShownCall). shown_call (call_of d) ∷ cs) (shown_kept ds q)

-- what comes next begins where what was kept ends, or is the call that is open there
abbrev pub Begins : Kept → List ℕ → List ℕ → Option Asked → List TapeCall → Type 0
Begins k xs ys None [] = (xs ≡ []) × (ys ≡ [])
Begins k xs ys None (c ∷ cs) = (c.sent_from ≡ length k.sent) × (c.taken_from ≡ length k.taken)
Begins k xs ys (Some a) [] = ⊥
Begins k xs ys (Some a) (c ∷ cs) = (c.call ≡ a.call) × (c.sent_from ≡ a.sent_from) × (c.taken_from ≡ a.taken_from)

pub record GoesOn (t : Tape) (k : Kept) (rest : List TapeCall) : Type 0 where
  pub sent_more : List ℕ
  pub sent : t.sent ≡ k.sent ++ sent_more
  pub taken_more : List ℕ
  pub taken : t.taken ≡ k.taken ++ taken_more
  pub calls : t.calls ≡ calls_kept k.calls None ++ rest
  pub begins : Begins k sent_more taken_more k.pending rest

here_begins : (k : Kept) (q : Option Asked) → Begins k [] [] q (rest_kept q)
here_begins k None = (refl, refl)
here_begins k (Some a) = (refl, refl, refl)

pub goes_here : (k : Kept) → GoesOn (tape_kept k) k (rest_kept k.pending)
goes_here k = record {
  sent_more = [];
  sent = sym (append-nil k.sent);
  taken_more = [];
  taken = sym (append-nil k.taken);
  calls = kept_rest k.calls k.pending;
  begins = here_begins k k.pending;
}

-- before a call began
began_begins : (k : Kept) (call : Call) (rows : Option (List RowParts)) (xs ys : List ℕ) (rest : List TapeCall) → Begins (asking k call rows) xs ys (asking k call rows).pending rest → Begins k xs ys None rest
began_begins k call rows xs ys [] b = absurd b
began_begins k call rows xs ys (c ∷ cs) b = (b.1, b.2)

pub before_begin : (t : Tape) (k : Kept) (call : Call) (rows : Option (List RowParts)) (rest : List TapeCall) → k.pending ≡ None → GoesOn t (asking k call rows) rest → GoesOn t k rest
before_begin t k call rows rest none g = record {
  sent_more = g.sent_more;
  sent = g.sent;
  taken_more = g.taken_more;
  taken = g.taken;
  calls = g.calls;
  begins = subst (λ q. Begins k g.sent_more g.taken_more q rest) (sym none) (began_begins k call rows g.sent_more g.taken_more rest g.begins);
}

-- before bytes came
moved_begins : (k f : Kept) (a : Asked) (xs ys us vs : List ℕ) (rest : List TapeCall) → Begins f xs ys (Some a) rest → Begins k us vs (Some a) rest
moved_begins k f a xs ys us vs [] b = absurd b
moved_begins k f a xs ys us vs (c ∷ cs) b = b

pub before_move : (t : Tape) (k f : Kept) (a : Asked) (out come : List ℕ) (rest : List TapeCall) → f.sent ≡ k.sent ++ out → f.taken ≡ k.taken ++ come → f.calls ≡ k.calls
    → f.pending ≡ Some a → k.pending ≡ Some a → GoesOn t f rest → GoesOn t k rest
before_move t k f a out come rest s c same fp kp g = record {
  sent_more = out ++ g.sent_more;
  sent = g.sent ∙ ap (λ x. x ++ g.sent_more) s ∙ append_assoc k.sent out g.sent_more;
  taken_more = come ++ g.taken_more;
  taken = g.taken ∙ ap (λ x. x ++ g.taken_more) c ∙ append_assoc k.taken come g.taken_more;
  calls = g.calls ∙ ap (λ ds. calls_kept ds None ++ rest) same;
  begins = subst (λ q. Begins k (out ++ g.sent_more) (come ++ g.taken_more) q rest) (sym kp)
      (moved_begins k f a g.sent_more g.taken_more (out ++ g.sent_more) (come ++ g.taken_more) rest (subst (λ q. Begins f g.sent_more g.taken_more q rest) fp g.begins));
}

-- before a call ended
pub before_end : (t : Tape) (f : Kept) (a : Asked) (said : Said) (rest : List TapeCall) → f.pending ≡ Some a → GoesOn t (ended_by f a said) rest → GoesOn t f (call_of (done_by a said) ∷ rest)
before_end t f a said rest fp g = record {
  sent_more = g.sent_more;
  sent = g.sent;
  taken_more = g.taken_more;
  taken = g.taken;
  calls = g.calls ∙ ap (λ cs. cs ++ rest) (done_last f.calls (done_by a said)) ∙ append_assoc (calls_kept f.calls None) (call_of (done_by a said) ∷ []) rest;
  begins = subst (λ q. Begins f g.sent_more g.taken_more q (call_of (done_by a said) ∷ rest)) (sym fp) (refl, refl, refl);
}

-- the bytes of a call, up to the end of what was kept
less_one : (n m : ℕ) → suc m - suc n ≡ m - n
less_one n m = omega arith

less_all : (n : ℕ) → zero - n ≡ zero
less_all n = omega arith

front_all : (xs ys : List ℕ) → take (length xs) (xs ++ ys) ≡ xs
front_all [] ys = refl
front_all (x ∷ xs) ys = ap (λ zs. x ∷ zs) (front_all xs ys)

between_all : (from : ℕ) (xs ys : List ℕ) → between from (length xs) (xs ++ ys) ≡ drop from xs
between_all zero xs ys = let all : length xs - zero ≡ length xs = omega arith in ap (λ n. take n (xs ++ ys)) all ∙ front_all xs ys
between_all (suc n) [] ys = ap (λ m. take m (drop (suc n) ys)) (less_all (suc n))
between_all (suc n) (x ∷ xs) ys = ap (λ k. take k (drop n (xs ++ ys))) (less_one n (length xs)) ∙ between_all n xs ys

module _ (t : Tape) (k : Kept) where
  sent_so : (rest : List TapeCall) (xs ys : List ℕ) → t.sent ≡ k.sent ++ xs → Begins k xs ys None rest → sent_to t rest ≡ length k.sent
  sent_so [] xs ys e b = ap length e ∙ ap (λ z. length (k.sent ++ z)) b.0 ∙ ap length (append-nil k.sent)
  sent_so (c ∷ cs) xs ys e b = b.0

  taken_so : (rest : List TapeCall) (xs ys : List ℕ) → t.taken ≡ k.taken ++ ys → Begins k xs ys None rest → taken_to t rest ≡ length k.taken
  taken_so [] xs ys e b = ap length e ∙ ap (λ z. length (k.taken ++ z)) b.1 ∙ ap length (append-nil k.taken)
  taken_so (c ∷ cs) xs ys e b = b.1

-- a call with its bytes, as far as they were kept
abbrev pub own_span : Kept → Asked → Option Told → Span
own_span f a ending = record { call = a.call; sent = drop a.sent_from f.sent; taken = drop a.taken_from f.taken; ending = ending }

same_span : (call : Call) (ending : Option Told) (a b d e : List ℕ) → a ≡ b → d ≡ e
    → (let s : Span = record { call = call; sent = a; taken = d; ending = ending } in s) ≡ record { call = call; sent = b; taken = e; ending = ending }
same_span call ending a b d e i j =
    ap (λ (z : List ℕ). let s : Span = record { call = call; sent = z; taken = d; ending = ending } in s) i
    ∙ ap (λ (z : List ℕ). let s : Span = record { call = call; sent = b; taken = z; ending = ending } in s) j

-- where the call that ended is read to
pub record EndsAt (t : Tape) (f : Kept) (rest : List TapeCall) : Type 0 where
  pub sent_is : sent_to t rest ≡ length f.sent
  pub taken_is : taken_to t rest ≡ length f.taken
  pub sent_bytes : (from : ℕ) → between from (sent_to t rest) t.sent ≡ drop from f.sent
  pub taken_bytes : (from : ℕ) → between from (taken_to t rest) t.taken ≡ drop from f.taken

pub ends_at : (t : Tape) (f : Kept) (rest : List TapeCall) → f.pending ≡ None → GoesOn t f rest → EndsAt t f rest
ends_at t f rest none g =
    let b : Begins f g.sent_more g.taken_more None rest = subst (λ q. Begins f g.sent_more g.taken_more q rest) none g.begins in
    let s = sent_so t f rest g.sent_more g.taken_more g.sent b in
    let e = taken_so t f rest g.sent_more g.taken_more g.taken b in
    record {
      sent_is = s;
      taken_is = e;
      sent_bytes = λ from. ap (λ n. between from n t.sent) s ∙ ap (λ (x : List ℕ). between from (length f.sent) x) g.sent ∙ between_all from f.sent g.sent_more;
      taken_bytes = λ from. ap (λ n. between from n t.taken) e ∙ ap (λ (x : List ℕ). between from (length f.taken) x) g.taken ∙ between_all from f.taken g.taken_more;
    }

pub span_is : (t : Tape) (f : Kept) (a : Asked) (said : Said) (rest : List TapeCall) → GoesOn t (ended_by f a said) rest
    → spans_from t (call_of (done_by a said) ∷ rest) ≡ own_span f a (Some (told_by said)) ∷ spans_from t rest
span_is t f a said rest g =
    let e = ends_at t (ended_by f a said) rest refl g in
    ap (λ (s : Span). s ∷ spans_from t rest) (same_span a.call (Some (told_by said)) _ _ _ _ (e.sent_bytes a.sent_from) (e.taken_bytes a.taken_from))

-- the open call at the end of a tape
pub open_span_is : (k : Kept) (a : Asked) → spans_from (tape_kept k) (open_of a ∷ []) ≡ own_span k a None ∷ []
open_span_is k a =
    let whole : (from : ℕ) (xs : List ℕ) → between from (length xs) xs ≡ drop from xs = λ from xs. ap (λ (ys : List ℕ). between from (length xs) ys) (sym (append-nil xs)) ∙ between_all from xs [] in
    ap (λ (s : Span). s ∷ []) (same_span a.call None _ _ _ _ (whole a.sent_from k.sent) (whole a.taken_from k.taken))

-- a call in its place
pub at_seam : (xs : List TapeCall) (c : TapeCall) (ys : List TapeCall) → slice_get (map shown_call (xs ++ c ∷ ys)) (length xs) ≡ Some (shown_call c)
at_seam [] c ys = refl
at_seam (x ∷ xs) c ys = at_seam xs c ys

abbrev pub first_shown : List TapeCall → Option ShownCall
first_shown [] = None
first_shown (c ∷ cs) = Some (shown_call c)

after_suc : (xs : List TapeCall) (c : TapeCall) (ys : List TapeCall) → slice_get (map shown_call (xs ++ c ∷ ys)) (suc (length xs)) ≡ first_shown ys
after_suc [] c [] = refl
after_suc [] c (y ∷ ys) = refl
after_suc (x ∷ xs) c ys = after_suc xs c ys

pub after_seam : (xs : List TapeCall) (c : TapeCall) (ys : List TapeCall) → slice_get (map shown_call (xs ++ c ∷ ys)) (length xs + 1) ≡ first_shown ys
after_seam xs c ys = let e : length xs + 1 ≡ suc (length xs) = omega arith in ap (λ n. slice_get (map shown_call (xs ++ c ∷ ys)) n) e ∙ after_suc xs c ys

module _ (t : Tape) (k : Kept) (c : TapeCall) (rest : List TapeCall) (g : GoesOn t k (c ∷ rest)) (n : ℕ) (next : n ≡ length k.calls) where
  pub call_here : slice_get (map shown_call t.calls) n ≡ Some (shown_call c)
  call_here =
      ap (λ (cs : List TapeCall). slice_get (map shown_call cs) n) g.calls
      ∙ ap (λ m. slice_get (map shown_call (calls_kept k.calls None ++ c ∷ rest)) m) (next ∙ sym (kept_length k.calls))
      ∙ at_seam (calls_kept k.calls None) c rest

  pub call_after : slice_get (map shown_call t.calls) (n + 1) ≡ first_shown rest
  call_after =
      ap (λ (cs : List TapeCall). slice_get (map shown_call cs) (n + 1)) g.calls
      ∙ ap (λ m. slice_get (map shown_call (calls_kept k.calls None ++ c ∷ rest)) (m + 1)) (next ∙ sym (kept_length k.calls))
      ∙ after_seam (calls_kept k.calls None) c rest
