-- How the open call may end, by the reading of what was kept.
use Rattle.std.proofs.Common.{◌≡◌, ◌⊎◌, [], length, drop, Bool, true, false, ◌||◌, ◌&&◌, not, Option, Some, None, inl, inr, refl, sym, ap, ◌∙◌, subst, arith}
use Rattle.std.proofs.lemmas.List.{drop_all}
use Rattle.my_grammar.specs.declared.login.Login.{Login}
use Rattle.my_reading.specs.declared.error.Error.{Error}
use Rattle.my_reading.specs.declared.error.IoKind.TheVariants.{Link}
use Rattle.my_reading.specs.Calls.{kind_of}
use Rattle.my_reading.specs.Course.{Stop, Owes, Awaits, Returns, Halt}
use Rattle.my_reading.specs.Endings.{AreCalls, Ends, IsCall, IsCut, IsOpen, IsCancelled, IsLinkFailure, IsLinkEnd, closes_cancelled, is_empty, is_quiet}
use Rattle.my_reading.specs.Errors.{io_error, unexpected_eof}
use Rattle.my_reading.specs.Place.{Place, facts_at}
use Rattle.my_reading.specs.Reading.{ReadCall, Reading, halt_of}
use Rattle.my_reading.specs.Tape.{Span}
use Rattle.my_reading.specs.Told.{Told, ToldError, Dropped, closes}
use Rattle.my_client.specs.declared.tape.Said.{Said}
use Rattle.my_client.specs.declared.tape.Said.TheVariants as says
use Rattle.my_client.specs.Kept.{Asked, Kept, ended_by, told_by}
use Rattle.my_client.specs.Reads.{ComesTo, EndedRead, IsRead, IsWaiting, facts_kept, place_kept, stop_kept}
use Rattle.my_client.proofs.TapeRead.{ended_one, open_reading, reading_before, span_open}
use Rattle.my_client.proofs.TapeRead.Lists.{calls_more, one_read}
use Rattle.my_client.proofs.TapeRead.Stopping.{place_open, stop_open}
use Rattle.my_client.specs.Stands.{IsSaid}

-- a stop for bytes is no return
pub no_return : (s : Stop) (t : Told) → s ≡ Owes ⊎ s ≡ Awaits → s ≡ Returns t → ⊥
no_return s t (inl e) f = cc
no_return s t (inr e) f = cc

pub same_stop : (x y : Stop) → Some x ≡ Some y → x ≡ y
same_stop x y e = cc

-- the call is open after those that ended; what was sent is what the exchanges say; on a closed connection it did nothing
module _ (login : Login) (k : Kept) (a : Asked) (closed : Bool) (before : Place) (w : EndedRead login k a.sent_from a.taken_from closed before) (pending : k.pending ≡ Some a)
    (said : IsSaid (place_kept login k)) (quiet : closed ≡ true → (a.sent_from ≡ length k.sent) × (a.taken_from ≡ length k.taken)) where
  abbrev pub at : Halt
  at = halt_of login closed (span_open k a) before

  abbrev span_with : Option Told → Span
  span_with ending = record { call = a.call; sent = drop a.sent_from k.sent; taken = drop a.taken_from k.taken; ending = ending }

  abbrev read_with : Option Told → ReadCall
  read_with ending = record { span = span_with ending; closed = closed; halt = at }

  pub place_is : place_kept login k ≡ at.place
  place_is = place_open login k a closed before w pending

  stop_is : (s : Stop) → stop_kept login k ≡ Some s → s ≡ at.stop
  stop_is s e = same_stop s at.stop (sym e ∙ stop_open login k a closed before w pending)

  facts_are : (facts_kept login k).place ≡ (facts_at login at.place).place
  facts_are = ap (λ (p : Place). (facts_at login p).place) place_is

  -- where it stops doesn't depend on how it ends
  same_halt : (ending : Option Told) → halt_of login closed (span_with ending) before ≡ at
  same_halt ending = by_closed closed
    where
      by_closed : (b : Bool) → halt_of login b (span_with ending) before ≡ halt_of login b (span_open k a) before
      by_closed true = refl
      by_closed false = refl

  quiet_is : (ending : Option Told) → is_quiet (read_with ending) ≡ true
  quiet_is ending = by_closed closed refl
    where
      by_closed : (b : Bool) → closed ≡ b → not b || (is_empty (drop a.sent_from k.sent) && is_empty (drop a.taken_from k.taken)) ≡ true
      by_closed false e = refl
      by_closed true e =
          let q = quiet e in
          let sent : drop a.sent_from k.sent ≡ [] = drop_all a.sent_from k.sent (omega (arith, q.0)) in
          let taken : drop a.taken_from k.taken ≡ [] = drop_all a.taken_from k.taken (omega (arith, q.1)) in
          ap (λ x. is_empty x && is_empty (drop a.taken_from k.taken)) sent ∙ ap is_empty taken

  call_is : (ending : Option Told) → Ends login (read_with ending) at.stop → IsCall login (read_with ending)
  call_is ending ends = record { ends = ends; sent = subst IsSaid place_is said; quiet = quiet_is ending }

  -- it ended so
  ended_read : (how : Said) → Ends login (read_with (Some (told_by how))) at.stop
      → EndedRead login (ended_by k a how) (length k.sent) (length k.taken) (closed || closes (told_by how) (kind_of a.call)) at.place
  ended_read how ends =
      ended_one login k a how closed (closed || closes (told_by how) (kind_of a.call)) before at.place w
      (subst (λ (h : Halt). IsCall login (record { span = span_with (Some (told_by how)); closed = closed; halt = h })) (sym (same_halt (Some (told_by how)))) (call_is (Some (told_by how)) ends))
      (ap (λ (h : Halt). h.place) (same_halt (Some (told_by how)))) refl

  -- by what it returns
  pub returned_read : (how : Said) → ComesTo login k (told_by how) → EndedRead login (ended_by k a how) (length k.sent) (length k.taken) (closed || closes (told_by how) (kind_of a.call)) at.place
  returned_read how e = ended_read how (subst (Ends login (read_with (Some (told_by how)))) (stop_is (Returns (told_by how)) e) refl)

  -- while it waits, it may be cut
  cut_so : (s : Stop) (ending : Option Told) → stop_kept login k ≡ Some s → s ≡ Owes ⊎ s ≡ Awaits → IsCut login (read_with ending) → Ends login (read_with ending) at.stop
  cut_so s ending e waits cut = subst (Ends login (read_with ending)) (stop_is s e) (by_stop s waits)
    where
      by_stop : (s : Stop) → s ≡ Owes ⊎ s ≡ Awaits → Ends login (read_with ending) s
      by_stop Owes x = cut
      by_stop Awaits x = cut
      by_stop (Returns t) x = absurd (no_return (Returns t) t x refl)

  -- by its link's fault, or its link's end
  pub broken_read : (s : Stop) (e : Error) → stop_kept login k ≡ Some s → s ≡ Owes ⊎ s ≡ Awaits → e ≡ io_error Link (facts_kept login k).place
      → EndedRead login (ended_by k a (says.Failed e)) (length k.sent) (length k.taken) (closed || closes (ToldError e) (kind_of a.call)) at.place
  broken_read s e stops waits is =
      ended_read (says.Failed e)
      (cut_so s (Some (ToldError e)) stops waits (IsLinkFailure (ap (λ x. Some (ToldError x)) is ∙ ap (λ n. Some (ToldError (io_error Link n))) facts_are)))

  pub cut_read : (e : Error) → stop_kept login k ≡ Some Awaits → e ≡ unexpected_eof (facts_kept login k).place
      → EndedRead login (ended_by k a (says.Failed e)) (length k.sent) (length k.taken) (closed || closes (ToldError e) (kind_of a.call)) at.place
  cut_read e stops is =
      ended_read (says.Failed e)
      (cut_so Awaits (Some (ToldError e)) stops (inr refl) (IsLinkEnd (sym (stop_is Awaits stops)) (ap (λ x. Some (ToldError x)) is ∙ ap (λ n. Some (ToldError (unexpected_eof n))) facts_are)))

  waits_cut : (ending : Option Told) → IsWaiting login k → IsCut login (read_with ending) → Ends login (read_with ending) at.stop
  waits_cut ending (inl e) cut = cut_so Owes ending e (inl refl) cut
  waits_cut ending (inr e) cut = cut_so Awaits ending e (inr refl) cut

  -- it is cancelled
  pub cancelled_read : IsWaiting login k → (closing : Bool) → closing ≡ closes_cancelled (kind_of a.call) (place_kept login k)
      → EndedRead login (ended_by k a (says.Cancelled closing)) (length k.sent) (length k.taken) (closed || closing) at.place
  cancelled_read waiting closing is =
      ended_read (says.Cancelled closing)
      (waits_cut (Some (Dropped closing)) waiting (IsCancelled (ap (λ b. Some (Dropped b)) is ∙ ap (λ (p : Place). Some (Dropped (closes_cancelled (kind_of a.call) p))) place_is)))

  -- while it waits the whole tape is read
  pub waiting_read : IsWaiting login k → IsRead login k
  waiting_read waiting =
      let r : Reading = reading_before login k a in
      let now : IsCall login (one_read login r (span_open k a)) =
      subst (λ (p : Place). IsCall login (record { span = span_open k a; closed = r.closed; halt = halt_of login r.closed (span_open k a) p })) (sym w.place_is)
      (subst (λ (b : Bool). IsCall login (record { span = span_open k a; closed = b; halt = halt_of login b (span_open k a) before })) (sym w.closed_is) (call_is None (waits_cut None waiting (IsOpen refl)))) in
      subst (λ (x : Reading). AreCalls login x.calls) (sym (open_reading login k a pending)) (calls_more login r.calls (one_read login r (span_open k a)) w.calls now)
