-- The calls that ended, and the open one after them, as the reading of a tape has them.
pub mod Lists
pub mod Stopping
use Rattle.std.proofs.Common.{◌≡◌, ℕ, List, [], ◌∷◌, ◌++◌, length, take, drop, Bool, true, false, ◌||◌, Option, Some, None, refl, sym, ap, ◌∙◌, subst, arith, length-append}
use Rattle.std.proofs.lemmas.List.{append-nil, append_assoc}
use Rattle.my_grammar.specs.declared.login.Login.{Login}
use Rattle.my_reading.specs.Calls.{kind_of}
use Rattle.my_reading.specs.Endings.{IsCall, AreCalls}
use Rattle.my_reading.specs.Place.{Place, first_place, with_bytes}
use Rattle.my_reading.specs.Reading.{ReadCall, Reading, read_calls, reading, halt_of}
use Rattle.my_reading.specs.Tape.{Span, between, spans_from}
use Rattle.my_reading.specs.Told.{closes}
use Rattle.my_client.specs.declared.tape.DoneCall.{DoneCall}
use Rattle.my_client.specs.declared.tape.Said.{Said}
use Rattle.my_client.specs.Kept.{Asked, Kept, told_by, ended_by}
use Rattle.my_client.specs.Reads.{calls_kept, tape_kept, span_to, spans_to, EndedRead}
use Rattle.my_client.proofs.TapeRead.Lists.{between_end, within_more, within_end, spans_more, spans_end, one_read, with_one, read_one_more, calls_more, spans_open, open_span}

-- bytes come to a place in two parts, or none come
pub bytes_more : (out come more_out more_come : List ℕ) (p : Place) → with_bytes (out ++ more_out) (come ++ more_come) p ≡ with_bytes more_out more_come (with_bytes out come p)
bytes_more out come more_out more_come p =
    ap (λ bs. record { call = p.call; talk = p.talk; older = p.older; end_left = p.end_left; taken = p.taken; statements = p.statements; status = p.status; account = p.account; trial = p.trial; unread = bs; sent = p.sent ++ (out ++ more_out) }) (sym (append_assoc p.unread come more_come))
    ∙ ap (λ bs. record { call = p.call; talk = p.talk; older = p.older; end_left = p.end_left; taken = p.taken; statements = p.statements; status = p.status; account = p.account; trial = p.trial; unread = (p.unread ++ come) ++ more_come; sent = bs }) (sym (append_assoc p.sent out more_out))

pub no_bytes : (p : Place) → with_bytes [] [] p ≡ p
no_bytes p =
    ap (λ bs. record { call = p.call; talk = p.talk; older = p.older; end_left = p.end_left; taken = p.taken; statements = p.statements; status = p.status; account = p.account; trial = p.trial; unread = bs; sent = p.sent ++ [] }) (append-nil p.unread)
    ∙ ap (λ bs. record { call = p.call; talk = p.talk; older = p.older; end_left = p.end_left; taken = p.taken; statements = p.statements; status = p.status; account = p.account; trial = p.trial; unread = p.unread; sent = bs }) (append-nil p.sent)

-- the calls that ended, when bytes come
pub ended_more : (login : Login) (k : Kept) (n m : ℕ) (closed : Bool) (place : Place) (out come : List ℕ) → EndedRead login k n m closed place
    → EndedRead login (record { sent = k.sent ++ out; taken = k.taken ++ come; calls = k.calls; pending = k.pending }) n m closed place
ended_more login k n m closed place out come w =
    let same = spans_more k.sent k.taken out come k.calls n m w.within w.sent_within w.taken_within in
    let s = length-append k.sent out in
    let t = length-append k.taken come in
    record {
      within = within_more k.sent k.taken out come k.calls w.within;
      sent_within = omega (arith, w.sent_within, s);
      taken_within = omega (arith, w.taken_within, t);
      calls = subst (λ (ss : List Span). AreCalls login (read_calls login ss false (first_place login)).calls) (sym same) w.calls;
      place_is = ap (λ (ss : List Span). (read_calls login ss false (first_place login)).place) same ∙ w.place_is;
      closed_is = ap (λ (ss : List Span). (read_calls login ss false (first_place login)).closed) same ∙ w.closed_is;
    }

-- a call more ended, as it comes to
pub ended_one : (login : Login) (k : Kept) (a : Asked) (said : Said) (closed now : Bool) (before after : Place) → EndedRead login k a.sent_from a.taken_from closed before
    → IsCall login (record { span = record { call = a.call; sent = drop a.sent_from k.sent; taken = drop a.taken_from k.taken; ending = Some (told_by said) }; closed = closed; halt = halt_of login closed (record { call = a.call; sent = drop a.sent_from k.sent; taken = drop a.taken_from k.taken; ending = Some (told_by said) }) before })
    → (halt_of login closed (record { call = a.call; sent = drop a.sent_from k.sent; taken = drop a.taken_from k.taken; ending = Some (told_by said) }) before).place ≡ after
    → (closed || closes (told_by said) (kind_of a.call)) ≡ now
    → EndedRead login (ended_by k a said) (length k.sent) (length k.taken) now after
ended_one login k a said closed now before after w is_call place_is now_is =
    let d : DoneCall = record { call = a.call; sent_from = a.sent_from; taken_from = a.taken_from; said = said } in
    let ss = spans_to k.sent k.taken k.calls a.sent_from a.taken_from in
    let span : Span = record { call = a.call; sent = drop a.sent_from k.sent; taken = drop a.taken_from k.taken; ending = Some (told_by said) } in
    let span_is : span_to k.sent k.taken d (length k.sent) (length k.taken) ≡ span =
    ap (λ (x : List ℕ). let s : Span = record { call = a.call; sent = x; taken = between a.taken_from (length k.taken) k.taken; ending = Some (told_by said) } in s) (between_end a.sent_from k.sent)
    ∙ ap (λ (x : List ℕ). let s : Span = record { call = a.call; sent = drop a.sent_from k.sent; taken = x; ending = Some (told_by said) } in s) (between_end a.taken_from k.taken) in
    let all : read_calls login (spans_to k.sent k.taken (k.calls ++ d ∷ []) (length k.sent) (length k.taken)) false (first_place login) ≡ with_one login (read_calls login ss false (first_place login)) span =
    ap (λ (xs : List Span). read_calls login xs false (first_place login)) (spans_end k.sent k.taken k.calls d (length k.sent) (length k.taken) ∙ ap (λ x. ss ++ x ∷ []) span_is)
    ∙ read_one_more login ss span false (first_place login) in
    let r : Reading = read_calls login ss false (first_place login) in
    let here : IsCall login (one_read login r span) =
    subst (λ (p : Place). IsCall login (record { span = span; closed = r.closed; halt = halt_of login r.closed span p })) (sym w.place_is)
    (subst (λ (b : Bool). IsCall login (record { span = span; closed = b; halt = halt_of login b span before })) (sym w.closed_is) is_call) in
    record {
      within = within_end k.sent k.taken k.calls d w.within w.sent_within w.taken_within;
      sent_within = omega arith;
      taken_within = omega arith;
      calls = subst (λ (x : Reading). AreCalls login x.calls) (sym all) (calls_more login r.calls (one_read login r span) w.calls here);
      place_is = ap (λ (x : Reading). x.place) all ∙ ap (λ (p : Place). (halt_of login r.closed span p).place) w.place_is ∙ ap (λ (b : Bool). (halt_of login b span before).place) w.closed_is ∙ place_is;
      closed_is = ap (λ (x : Reading). x.closed) all ∙ ap (λ b. b || closes (told_by said) (kind_of a.call)) w.closed_is ∙ now_is;
    }

-- the open call with its bytes, and the reading up to it
abbrev pub span_open : Kept → Asked → Span
span_open k a = record { call = a.call; sent = drop a.sent_from k.sent; taken = drop a.taken_from k.taken; ending = None }

abbrev pub reading_before : Login → Kept → Asked → Reading
reading_before login k a = read_calls login (spans_to k.sent k.taken k.calls a.sent_from a.taken_from) false (first_place login)

pub open_reading : (login : Login) (k : Kept) (a : Asked) → k.pending ≡ Some a
    → reading login (tape_kept k) ≡ with_one login (reading_before login k a) (span_open k a)
unfolding reading
open_reading login k a pending =
    let ss = spans_to k.sent k.taken k.calls a.sent_from a.taken_from in
    let span_is : open_span k.sent k.taken (tape_kept k) refl refl a ≡ span_open k a =
    ap (λ (x : List ℕ). let s : Span = record { call = a.call; sent = x; taken = between a.taken_from (length k.taken) k.taken; ending = None } in s) (between_end a.sent_from k.sent)
    ∙ ap (λ (x : List ℕ). let s : Span = record { call = a.call; sent = drop a.sent_from k.sent; taken = x; ending = None } in s) (between_end a.taken_from k.taken) in
    let spans_are = ap (λ p. spans_from (tape_kept k) (calls_kept k.calls p)) pending ∙ spans_open k.sent k.taken (tape_kept k) refl refl a k.calls ∙ ap (λ x. ss ++ x ∷ []) span_is in
    ap (λ (xs : List Span). read_calls login xs false (first_place login)) spans_are ∙ read_one_more login ss (span_open k a) false (first_place login)

-- where the open call is, after the calls that ended
pub open_halt : (login : Login) (k : Kept) (a : Asked) (closed : Bool) (before : Place) → EndedRead login k a.sent_from a.taken_from closed before
    → (one_read login (reading_before login k a) (span_open k a)).halt ≡ halt_of login closed (span_open k a) before
open_halt login k a closed before w =
    ap (λ (p : Place). halt_of login (reading_before login k a).closed (span_open k a) p) w.place_is ∙ ap (λ (b : Bool). halt_of login b (span_open k a) before) w.closed_is
