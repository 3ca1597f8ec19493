-- How a pool's calls leave a connection.
use Rattle.std.proofs.Common.{◌≡◌, ◌++◌, ℕ, Bool, true, false, ◌||◌, ◌&&◌, List, [], ◌∷◌, Option, Some, is_some, refl, ap, subst, sym, ◌∙◌}
use Rattle.my_grammar.specs.declared.login.Login.{Login}
use Rattle.my_reading.specs.declared.call.Call.{Call}
use Rattle.my_reading.specs.declared.call.Call.TheVariants.{Connect, DropResult, ChangeUser, CleanForPool, ResetForPool}
use Rattle.my_reading.specs.declared.transaction.TxStatus.TheVariants as txs
use Rattle.my_reading.specs.Clean.{have_ended, is_read_whole}
use Rattle.my_reading.specs.Commands.{arranging_texts, setup_texts}
use Rattle.my_reading.specs.Course.{All, Stop, Owes, Awaits, Returns, parts_of_texts, renewed}
use Rattle.my_reading.specs.Endings.{AreCalls, Ends, IsCall, IsOpen, IsCancelled, IsLinkFailure, IsLinkEnd}
use Rattle.my_reading.specs.Place.{Place, first_place, with_bytes}
use Rattle.my_reading.specs.Reading.{ReadCall, Reading, halt_of, is_closing, read_calls, reading, with_call}
use Rattle.my_reading.specs.Tape.{Span, Tape, TapeCall, between, sent_to, taken_to, spans_from}
use Rattle.my_reading.specs.Told.{Told, ToldReady}
use Rattle.reading_laws.specs.Cleaned.{IsCleanPlace, IsFreshPlace, CleaningCleans, ConnectingCleans, DroppingReads, RenewalRefreshes, ChangeRefreshes, CleanedIsClean}
use Rattle.reading_laws.proofs.Knowing.{AreCleaning, Reads, Drains, Undoes, Settles, GivesUp, Renews, Adopts, Clears, Any, Ended, Holds, known, after_all, queries_clean, queries_know, texts_clean, texts_know}
use Rattle.reading_laws.proofs.Settling.{cleaning_leaves}

pub cleaning_cleans : CleaningCleans
cleaning_cleans login p e =
    cleaning_leaves IsCleanPlace login CleanForPool p (known false Any false) (Drains, (GivesUp, (Reads, (Undoes, (Reads, (Settles, tt))))))
    (record { read = tt; level = tt; uncached = tt }) (λ q h. record { read = h.read; status = h.level }) e

renewed_cleans : (login : Login) → AreCleaning (renewed login)
renewed_cleans login = (Reads, (Undoes, (Reads, (Settles, (Renews, (Reads, (Clears, queries_clean (setup_texts login))))))))

renewed_shows : (login : Login) (q : Place) → Holds (after_all (renewed login) (known false Ended false)) q → IsFreshPlace q
renewed_shows login q h =
    let w : Holds (known true Ended true) q = subst (λ k. Holds k q) (queries_know (setup_texts login) (known true Ended true)) h in
    record { clean = record { read = w.read; status = w.level }; uncached = w.uncached }

pub renewal_refreshes : RenewalRefreshes
renewal_refreshes login p outside e =
    cleaning_leaves IsFreshPlace login ResetForPool p (known false Ended false) (renewed_cleans login)
    (record { read = tt; level = outside; uncached = tt }) (renewed_shows login) e

pub change_refreshes : ChangeRefreshes
change_refreshes login change p outside e =
    cleaning_leaves IsFreshPlace login (ChangeUser change) p (known false Ended false) (Adopts change, renewed_cleans login)
    (record { read = tt; level = outside; uncached = tt }) (renewed_shows login) e

connected_shows : (login : Login) (q : Place) → Holds (after_all (All ∷ parts_of_texts (arranging_texts login)) (known false Ended false)) q → IsCleanPlace q
connected_shows login q h =
    let w : Holds (known true Ended false) q = subst (λ k. Holds k q) (texts_know (arranging_texts login) (known false Ended false)) h in
    record { read = w.read; status = w.level }

pub connecting_cleans : ConnectingCleans
connecting_cleans login p outside e =
    cleaning_leaves IsCleanPlace login Connect p (known false Ended false) (texts_clean (arranging_texts login))
    (record { read = tt; level = outside; uncached = tt }) (connected_shows login) e

pub dropping_reads : DroppingReads
dropping_reads login p e =
    cleaning_leaves (λ q. is_read_whole q ≡ true) login DropResult p (known false Any false) (Reads, tt)
    (record { read = tt; level = tt; uncached = tt }) (λ q h. h.read) e

-- a tape's newest call, as the newest one of its reading
abbrev pub span_of : Tape → List TapeCall → TapeCall → Span
span_of t later c = record {
  call = c.call;
  sent = between c.sent_from (sent_to t later) t.sent;
  taken = between c.taken_from (taken_to t later) t.taken;
  ending = c.ending;
}

pub spans_end : (t : Tape) (earlier : List TapeCall) (c : TapeCall) → (ss : List Span) × (spans_from t (earlier ++ c ∷ []) ≡ ss ++ span_of t [] c ∷ [])
spans_end t [] c = ([], refl)
spans_end t (d ∷ ds) c =
    let found = spans_end t ds c in
    (span_of t (ds ++ c ∷ []) d ∷ found.0, ap (λ ss. span_of t (ds ++ c ∷ []) d ∷ ss) found.1)

abbrev pub read_call : Login → Reading → Span → ReadCall
read_call login r s = record { span = s; closed = r.closed; halt = halt_of login r.closed s r.place }

abbrev pub joined : Login → Reading → Span → Reading
joined login r s = record {
  calls = r.calls ++ read_call login r s ∷ [];
  place = (halt_of login r.closed s r.place).place;
  closed = r.closed || is_closing s.call s.ending;
}

pub read_calls_end : (login : Login) (ss : List Span) (s : Span) (closed : Bool) (p : Place)
    → read_calls login (ss ++ s ∷ []) closed p ≡ joined login (read_calls login ss closed p) s
unfolding read_calls
read_calls_end login [] s closed p = refl
read_calls_end login (x ∷ ss) s closed p =
    ap (with_call (record { span = x; closed = closed; halt = halt_of login closed x p }))
    (read_calls_end login ss s (closed || is_closing x.call x.ending) (halt_of login closed x p).place)

pub last_is : (login : Login) (cs : List ReadCall) (c : ReadCall) → AreCalls login (cs ++ c ∷ []) → IsCall login c
last_is login [] c w = w.0
last_is login (x ∷ cs) c w = last_is login cs c w.1

pub ready_stop : (login : Login) (c : ReadCall) (s : Stop) → Ends login c s → c.span.ending ≡ Some ToldReady → s ≡ Returns ToldReady
ready_stop login c Owes (IsOpen e) ready = absurd (cc)
ready_stop login c Owes (IsCancelled e) ready = absurd (cc)
ready_stop login c Owes (IsLinkFailure e) ready = absurd (cc)
ready_stop login c Owes (IsLinkEnd stop e) ready = absurd (cc)
ready_stop login c Awaits (IsOpen e) ready = absurd (cc)
ready_stop login c Awaits (IsCancelled e) ready = absurd (cc)
ready_stop login c Awaits (IsLinkFailure e) ready = absurd (cc)
ready_stop login c Awaits (IsLinkEnd stop e) ready = absurd (cc)
ready_stop login c (Returns t) e ready = cc

-- a cleaning that returns ready is on an open session, and leaves a clean place
abbrev Cleaned : Login → Bool → Place → Span → Type 0
Cleaned login closed p s = (halt_of login closed s p).stop ≡ Returns ToldReady → (closed ≡ false) × IsCleanPlace (halt_of login closed s p).place

abbrev pub cleaning : List ℕ → List ℕ → Option Told → Call → Span
cleaning sent taken ending call = record { call = call; sent = sent; taken = taken; ending = ending }

cleaned : (login : Login) (closed : Bool) (p : Place) (sent taken : List ℕ) (ending : Option Told) → Cleaned login closed p (cleaning sent taken ending CleanForPool)
cleaned login true p sent taken ending e = absurd (cc)
cleaned login false p sent taken ending e = (refl, cleaning_cleans login (with_bytes sent taken p) e)

ended_by : (b : Bool) (cs ds : List TapeCall) → (have_ended cs ≡ true → have_ended ds ≡ true) → (b && have_ended cs) ≡ true → (b && have_ended ds) ≡ true
ended_by true cs ds w h = w h
ended_by false cs ds w h = absurd (cc)

pub have_all_ended : (cs : List TapeCall) (c : TapeCall) → c.ending ≡ Some ToldReady → have_ended cs ≡ true → have_ended (cs ++ c ∷ []) ≡ true
have_all_ended [] c e h = subst (λ o. (is_some o && true) ≡ true) (sym e) refl
have_all_ended (x ∷ cs) c e h = ended_by (is_some x.ending) cs (cs ++ c ∷ []) (have_all_ended cs c e) h

still_open : (closed : Bool) (call : Call) (ending : Option Told) → closed ≡ false → call ≡ CleanForPool → ending ≡ Some ToldReady
    → (closed || is_closing call ending) ≡ false
still_open closed call ending alive is ready =
    subst (λ b. (b || is_closing call ending) ≡ false) (sym alive)
    (subst (λ d. is_closing d ending ≡ false) (sym is) (subst (λ o. is_closing CleanForPool o ≡ false) (sym ready) refl))

pub cleaned_is_clean : CleanedIsClean
unfolding reading
cleaned_is_clean login t earlier c tape calls ended is ready =
    let found = spans_end t earlier c in
    let s = span_of t [] c in
    let r = read_calls login found.0 false (first_place login) in
    let whole : reading login t ≡ joined login r s = ap (λ ss. read_calls login ss false (first_place login)) (ap (spans_from t) calls ∙ found.1) ∙ read_calls_end login found.0 s false (first_place login) in
    let call : IsCall login (read_call login r s) = last_is login r.calls (read_call login r s) (subst (λ x. AreCalls login x.calls) whole tape.calls) in
    let stop = ready_stop login (read_call login r s) (halt_of login r.closed s r.place).stop call.ends ready in
    let left = subst (λ d. Cleaned login r.closed r.place (cleaning s.sent s.taken s.ending d)) (sym is) (cleaned login r.closed r.place s.sent s.taken s.ending) stop in
    record {
      alive = ap (λ x. x.closed) whole ∙ still_open r.closed c.call c.ending left.0 is ready;
      ended = subst (λ cs. have_ended cs ≡ true) (sym calls) (have_all_ended earlier c ready ended);
      read = subst (λ x. is_read_whole x.place ≡ true) (sym whole) left.1.read;
      status = subst (λ x. x.place.status ≡ txs.None) (sym whole) left.1.status;
    }
