-- Where the reading of a tape stops, and what closes it.
use Rattle.std.proofs.Common.{◌≡◌, ℕ, List, [], ◌∷◌, ◌++◌, Bool, true, false, ◌||◌, Some, refl, sym, ap, ◌∙◌}
use Rattle.my_grammar.specs.declared.login.Login.{Login}
use Rattle.my_reading.specs.Course.{Stop, Returns, Halt}
use Rattle.my_reading.specs.Place.{Place, first_place}
use Rattle.my_reading.specs.Calls.{kind_of}
use Rattle.my_reading.specs.Told.{closes}
use Rattle.my_reading.specs.Reading.{ReadCall, Reading, read_calls, halt_of, closed_answer}
use Rattle.my_client.specs.declared.tape.DoneCall.{DoneCall}
use Rattle.my_client.specs.Kept.{Asked, Kept, made_of, told_by}
use Rattle.my_client.specs.Made.{Made, has_closed}
use Rattle.my_client.specs.Reads.{place_kept, newest_stop, stop_kept, spans_to, EndedRead}
use Rattle.my_client.proofs.TapeRead.{open_halt, open_reading, reading_before, span_open}
use Rattle.my_client.proofs.TapeRead.Lists.{one_read}

newest_more : (cs : List ReadCall) (c : ReadCall) → newest_stop (cs ++ c ∷ []) ≡ Some c.halt.stop
newest_more [] c = refl
newest_more (x ∷ []) c = refl
newest_more (x ∷ y ∷ cs) c = newest_more (y ∷ cs) c

-- the open call, after the calls that ended
module _ (login : Login) (k : Kept) (a : Asked) (closed : Bool) (before : Place) (w : EndedRead login k a.sent_from a.taken_from closed before) (pending : k.pending ≡ Some a) where
  pub stop_open : stop_kept login k ≡ Some (halt_of login closed (span_open k a) before).stop
  stop_open =
      ap (λ (r : Reading). newest_stop r.calls) (open_reading login k a pending)
      ∙ newest_more (reading_before login k a).calls (one_read login (reading_before login k a) (span_open k a))
      ∙ ap (λ (h : Halt). Some h.stop) (open_halt login k a closed before w)

  pub place_open : place_kept login k ≡ (halt_of login closed (span_open k a) before).place
  place_open = ap (λ (r : Reading). r.place) (open_reading login k a pending) ∙ ap (λ (h : Halt). h.place) (open_halt login k a closed before w)

or_or : (a b c : Bool) → (a || b) || c ≡ a || (b || c)
or_or true b c = refl
or_or false b c = refl

or_swap : (a b c : Bool) → a || (b || c) ≡ b || (a || c)
or_swap true true c = refl
or_swap true false c = refl
or_swap false b c = refl

closed_end : (ms : List Made) (m : Made) → has_closed (ms ++ m ∷ []) ≡ closes m.what (kind_of m.call) || has_closed ms
closed_end [] m = refl
closed_end (x ∷ ms) m = ap (λ b. closes x.what (kind_of x.call) || b) (closed_end ms m) ∙ or_swap (closes x.what (kind_of x.call)) (closes m.what (kind_of m.call)) (has_closed ms)

-- a call that ended closes a reading exactly where it closes the connection
spans_closed : (login : Login) (sent taken : List ℕ) (ds : List DoneCall) (n m : ℕ) (closed : Bool) (p : Place) → (read_calls login (spans_to sent taken ds n m) closed p).closed ≡ closed || has_closed (made_of ds)
unfolding read_calls
spans_closed login sent taken [] n m true p = refl
spans_closed login sent taken [] n m false p = refl
spans_closed login sent taken (d ∷ []) n m closed p =
    ap (λ b. closed || b) (or_none (closes (told_by d.said) (kind_of d.call)) false refl)
  where
    or_none : (a b : Bool) → b ≡ false → a ≡ a || b
    or_none true b e = refl
    or_none false b e = sym e
spans_closed login sent taken (d ∷ e ∷ ds) n m closed p =
    spans_closed login sent taken (e ∷ ds) n m (closed || closes (told_by d.said) (kind_of d.call)) _
    ∙ or_or closed (closes (told_by d.said) (kind_of d.call)) (has_closed (made_of (e ∷ ds)))
    ∙ ap (λ b. closed || b) (sym (closed_end (made_of (e ∷ ds)) (record { call = d.call; what = told_by d.said })))

-- on a closed connection a call returns at once
pub stop_closed : (login : Login) (k : Kept) (a : Asked) → k.pending ≡ Some a → has_closed (made_of k.calls) ≡ true → stop_kept login k ≡ Some (Returns (closed_answer a.call))
stop_closed login k a pending shut =
    let r : Reading = reading_before login k a in
    ap (λ (x : Reading). newest_stop x.calls) (open_reading login k a pending)
    ∙ newest_more r.calls (one_read login r (span_open k a))
    ∙ ap (λ b. Some (halt_of login b (span_open k a) r.place).stop) (spans_closed login k.sent k.taken k.calls a.sent_from a.taken_from false (first_place login) ∙ shut)
