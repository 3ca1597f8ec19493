-- Which errors the open call returns by its bytes; a call that is read while it is open isn't on a closed connection.
use Rattle.std.proofs.Common.{◌≡◌, ℕ, List, [], ◌∷◌, ◌++◌, Bool, true, false, ◌&&◌, not, if◌then◌else◌, Some, None, refl, sym, ap, ◌∙◌, subst, inl}
use Rattle.my_grammar.specs.declared.login.Login.{Login}
use Rattle.my_link.specs.declared.met.Met.{Met}
use Rattle.my_reading.specs.declared.error.DriverError.{DriverError}
use Rattle.my_reading.specs.declared.error.DriverError.TheVariants as drivers
use Rattle.my_reading.specs.Calls.{is_unrefused, kind_of}
use Rattle.my_reading.specs.Course.{Stop, Returns, Goes, enough, parts_of}
use Rattle.my_reading.specs.Endings.{AreCalls, Ends, IsCall}
use Rattle.my_reading.specs.Errors.{connection_closed}
use Rattle.my_reading.specs.Place.{Place, first_place, with_bytes}
use Rattle.my_reading.specs.Reading.{ReadCall, Reading, closed_answer, halt_of}
use Rattle.my_reading.specs.Tape.{Span}
use Rattle.my_reading.specs.Told.{Told, ToldReady, ToldError}
use Rattle.turn_laws.proofs.Refusing.{begin_own, refused_by, values_own, chain_own}
use Rattle.reading_laws.proofs.Unfitting.{unfit_is}
use Rattle.my_session.specs.Fits.{OwnDriver}
use Rattle.my_client.specs.Made.{has_closed}
use Rattle.my_client.specs.Kept.{Asked, Kept, made_of}
use Rattle.my_client.specs.Reads.{ComesTo, IsRead, newest_stop, stop_kept}
use Rattle.my_client.proofs.TapeRead.{open_reading, reading_before, span_open}
use Rattle.my_client.proofs.TapeRead.Lists.{one_read}
use Rattle.my_client.proofs.TapeRead.Stopping.{stop_closed}
use Rattle.my_session.specs.Sessions.{is_refused}
use Rattle.my_client.proofs.Ending.{same_stop}
use Rattle.my_client.proofs.Resting.{spans_closed}
use Rattle.my_client.proofs.Stopping.{AreTold, TellsSo, run_tells}
use Rattle.my_steps.specs.Grows.{Line, handles_after}
use Rattle.my_steps.specs.Handle.{Handle, Absent, Dialing, Joined, at_number}
use Rattle.my_run.specs.Headline.{EachExplained, IsExplained}
use Rattle.my_run_judge.specs.Meets.{DriverMet, ErrorMet, IsReady}

-- an error that is in the bytes, where the link was ready
abbrev pub IsInMet : Told → Type 0
IsInMet (ToldError e) = (u : Met) → IsReady u → ErrorMet e u
IsInMet t = Unit {0}

own_met : (e : DriverError) → OwnDriver e → (u : Met) → IsReady u → DriverMet e u
own_met drivers.ConnectionClosed own u ready = absurd own
own_met drivers.MixedParams own u ready = inl ready
own_met drivers.NestedTransaction own u ready = inl ready
own_met drivers.PoolDisconnected own u ready = absurd own
own_met (drivers.PoolFull waiting limit) own u ready = absurd own
own_met drivers.ReadOnlyTransNotSupported own u ready = inl ready
own_met (drivers.Params e) own u ready = inl ready
own_met (drivers.StmtParamsMismatch required supplied) own u ready = inl ready
own_met (drivers.StmtParamsNumberExceedsLimit supplied) own u ready = inl ready
own_met drivers.TooLong own u ready = absurd own
own_met (drivers.UnexpectedPacket payload) own u ready = inl ready
own_met (drivers.UnknownAuthPlugin name) own u ready = inl ready
own_met drivers.CleartextPluginDisabled own u ready = inl ready
own_met drivers.MysqlOldPasswordDisabled own u ready = inl ready
own_met drivers.FullAuthRefused own u ready = inl ready
own_met drivers.CantParseServerVersion own u ready = absurd own
own_met drivers.PacketOutOfOrder own u ready = absurd own
own_met drivers.PacketTooLarge own u ready = absurd own
own_met drivers.BadCompressedPacketHeader own u ready = absurd own
own_met drivers.NoKeyFound own u ready = absurd own
own_met drivers.NamedPipesDisabled own u ready = absurd own
own_met drivers.InvalidParsecSalt own u ready = absurd own
own_met drivers.NoClientSslFlagFromServer own u ready = absurd own

-- so is each that the steps of a call return
met_told : AreTold IsInMet
met_told = record {
  ready = tt;
  row = λ r. tt;
  end = tt;
  none = tt;
  statement = λ s. tt;
  flag = λ b. tt;
  server = λ e u ready. inl ready;
  data_at = λ n u ready. inl ready;
  misfit = λ s p n u ready. unfit_is (λ e. ErrorMet e u) (λ m. inl ready) (λ e w. own_met e (chain_own e w) u ready) s p n;
  codec = λ f u ready. inl ready;
  mixed = λ u ready. inl ready;
  values = λ s p e is u ready. own_met e (values_own s p e (ap refused_by is)) u ready;
  begins = λ o v s e is u ready. own_met e (begin_own o v s e is) u ready;
}

-- a call that a closed connection doesn't refuse returns that it is done
unrefused_met : (b : Bool) → true && not b ≡ false → IsInMet (if b then ToldReady else ToldError connection_closed)
unrefused_met true e = tt
unrefused_met false e = cc

halt_met : (login : Login) (closed : Bool) (s : Span) (p : Place) → is_refused closed (kind_of s.call) ≡ false → TellsSo IsInMet (halt_of login closed s p).stop
halt_met login true s p e = unrefused_met (is_unrefused (kind_of s.call)) e
halt_met login false s p e =
    let q : Place = with_bytes s.sent s.taken p in
    run_tells IsInMet met_told login (enough login s.call q) s.call q (Goes (parts_of login s.call) q) tt

newest_more : (cs : List ReadCall) (c : ReadCall) → newest_stop (cs ++ c ∷ []) ≡ Some c.halt.stop
newest_more [] c = refl
newest_more (x ∷ []) c = refl
newest_more (x ∷ y ∷ cs) c = newest_more (y ∷ cs) c

module _ (login : Login) (k : Kept) (a : Asked) (pending : k.pending ≡ Some a) where
  abbrev before : Reading
  before = reading_before login k a

  stop_is : stop_kept login k ≡ Some (halt_of login before.closed (span_open k a) before.place).stop
  stop_is = ap (λ (r : Reading). newest_stop r.calls) (open_reading login k a pending) ∙ newest_more before.calls (one_read login before (span_open k a))

  pub told_met : is_refused (has_closed (made_of k.calls)) (kind_of a.call) ≡ false → (t : Told) → ComesTo login k t → IsInMet t
  told_met live t comes =
      let closed : before.closed ≡ has_closed (made_of k.calls) = spans_closed login k.sent k.taken k.calls a.sent_from a.taken_from false (first_place login) in
      subst (TellsSo IsInMet) (same_stop (halt_of login before.closed (span_open k a) before.place).stop (Returns t) (sym stop_is ∙ comes))
      (halt_met login before.closed (span_open k a) before.place (ap (λ b. is_refused b (kind_of a.call)) closed ∙ live))

  last_call : (cs : List ReadCall) (c : ReadCall) → AreCalls login (cs ++ c ∷ []) → IsCall login c
  last_call [] c w = w.0
  last_call (x ∷ cs) c w = last_call cs c w.1

  no_answer : (t : Told) (c : ReadCall) → c.span.ending ≡ None → (s : Stop) → s ≡ Returns t → Ends login c s → ⊥
  no_answer t c none s e ends = let is : c.span.ending ≡ Some t = subst (Ends login c) e ends in cc

  -- where the tape is read so with the call open, that call isn't on a closed connection
  pub open_live : IsRead login k → has_closed (made_of k.calls) ≡ false
  open_live w = by_closed (has_closed (made_of k.calls)) refl
    where
      now : IsCall login (one_read login before (span_open k a))
      now = last_call before.calls (one_read login before (span_open k a)) (subst (λ (r : Reading). AreCalls login r.calls) (open_reading login k a pending) w)

      by_closed : (b : Bool) → has_closed (made_of k.calls) ≡ b → b ≡ false
      by_closed false e = refl
      by_closed true e =
          let stop : (halt_of login before.closed (span_open k a) before.place).stop ≡ Returns (closed_answer a.call) =
          same_stop (halt_of login before.closed (span_open k a) before.place).stop (Returns (closed_answer a.call)) (sym stop_is ∙ stop_closed login k a pending e) in
          absurd (no_answer (closed_answer a.call) (one_read login before (span_open k a)) refl _ stop now.ends)

-- the open call of a number isn't on a closed connection
abbrev pub IsLive : Handle → Type 0
IsLive Absent = Unit {0}
IsLive (Dialing left) = Unit {0}
IsLive (Joined there k x) = (a : Asked) → k.pending ≡ Some a → has_closed (made_of k.calls) ≡ false

live_at : (login : Login) (h : Handle) → IsExplained login h → IsLive h
live_at login Absent e = tt
live_at login (Dialing left) e = tt
live_at login (Joined there k x) e = λ a pending. open_live login k a pending e

pub lines_live : (login : Login) (lines : List Line) → EachExplained login lines → (n : ℕ) → IsLive (at_number (handles_after lines) n)
lines_live login [] w n = tt
lines_live login (l ∷ ls) w n = live_at login (at_number l.handles n) (w.0 n)
