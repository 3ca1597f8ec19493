-- Why no connection was made: never since a URL can't be read, nor since a dial gave no link.
use Rattle.std.proofs.Common.{◌≡◌, ℕ, List, [], ◌∷◌, ◌++◌, Option, Some, None, Result, Ok, Err, IfErr, inl, inr, Bool, true, false, cond, if◌then◌else◌, refl, sym, ap, ◌∙◌, subst}
use Rattle.my_auth.specs.declared.chain.AuthMove.{AuthMove}
use Rattle.my_auth.specs.declared.chain.AuthMove.TheVariants.{Refuse}
use Rattle.my_auth.specs.declared.chain.AuthRefusal.{AuthRefusal}
use Rattle.my_auth.specs.declared.chain.AuthRefusal.TheVariants as refusals
use Rattle.my_auth.specs.Chain.{move_at}
use Rattle.my_grammar.specs.declared.login.Login.{Login}
use Rattle.my_grammar.specs.declared.spot.Spot.{Spot}
use Rattle.my_grammar.specs.declared.spot.Spot.TheVariants.{Authentication}
use Rattle.my_link.specs.Looks.{Looks}
use Rattle.my_link.specs.Moves.{LinkEnd, NoStop, ReadFault, ReadHold, Stop as LinkStop, WriteFault, WriteHold}
use Rattle.my_opts.specs.Opts.{OptsView}
use Rattle.my_opts_parts.specs.declared.error.UrlError.{UrlError}
use Rattle.my_reading.specs.declared.call.Call.TheVariants.{Connect}
use Rattle.my_reading.specs.declared.error.Error.{Error}
use Rattle.my_reading.specs.declared.error.Error.TheVariants as errors
use Rattle.my_reading.specs.declared.error.IoError.{IoError}
use Rattle.my_reading.specs.declared.error.IoError.TheVariants as ios
use Rattle.my_reading.specs.declared.error.IoKind.{IoKind}
use Rattle.my_reading.specs.declared.error.IoKind.TheVariants as kinds
use Rattle.my_reading.specs.Calls.{is_unrefused, kind_of}
use Rattle.my_reading.specs.Course.{Stop, Owes, Awaits, Returns, Goes, enough, parts_of}
use Rattle.my_reading.specs.Errors.{connection_closed, move_error, refusal_error, unfit_error}
use Rattle.my_reading.specs.Place.{Place, with_bytes}
use Rattle.my_reading.specs.Reading.{ReadCall, Reading, halt_of}
use Rattle.my_reading.specs.Tape.{Span}
use Rattle.my_reading.specs.Told.{Told, ToldReady, ToldError}
use Rattle.my_session.specs.Login.{login_of}
use Rattle.my_client.specs.Kept.{Asked, Kept, asked_by, asking, nothing_kept}
use Rattle.my_client.specs.Reads.{facts_kept, newest_stop, stop_kept}
use Rattle.my_client.proofs.TapeRead.{open_reading, reading_before, span_open}
use Rattle.my_client.proofs.TapeRead.Lists.{one_read}
use Rattle.my_client.specs.Polls.{comes_to, moved_by}
use Rattle.my_client.proofs.Moving.{all_pending}
use Rattle.my_client.proofs.Stopping.{AreTold, TellsSo, run_tells}
use Rattle.my_client.specs.Waits.{WhyUnmade}
use Rattle.my_conn.specs.Conn.{ConnSeen}
use Rattle.my_conn.specs.News.{Given, IsUnmade, NewIs}
use Rattle.my_conn.specs.declared.unmade.Unmade.{Unmade}

-- an error of a connection's own
abbrev pub IsOwnKind : IoKind → Type 0
IsOwnKind kinds.Dial = ⊥
IsOwnKind kind = Unit {0}

abbrev pub IsOwnIo : IoError → Type 0
IsOwnIo (ios.Io fault) = IsOwnKind fault.kind
IsOwnIo (ios.Codec fault) = Unit {0}

abbrev pub IsOwn : Error → Type 0
IsOwn (errors.Url e) = ⊥
IsOwn (errors.Io e) = IsOwnIo e
IsOwn e = Unit {0}

-- what the reading returns is no other error
abbrev IsOfCall : Told → Type 0
IsOfCall (ToldError e) = IsOwn e
IsOfCall t = Unit {0}

refusal_own : (r : AuthRefusal) (payload : List ℕ) (n : ℕ) → IsOwn (refusal_error r payload n)
refusal_own refusals.UnknownAuthPlugin payload n = tt
refusal_own refusals.CleartextPluginDisabled payload n = tt
refusal_own refusals.MysqlOldPasswordDisabled payload n = tt
refusal_own refusals.FullAuthRefused payload n = tt
refusal_own refusals.UnexpectedPacket payload n = tt
refusal_own refusals.Malformed payload n = tt

move_own : (m : AuthMove) (payload : List ℕ) (n : ℕ) → IsOwn (move_error m payload n)
move_own (Refuse r) payload n = refusal_own r payload n
move_own m payload n = tt

unfit_own : (s : Spot) (payload : List ℕ) (n : ℕ) → IsOwn (unfit_error s payload n)
unfit_own (Authentication stand) payload n = move_own (move_at stand payload) payload n
unfit_own s payload n = tt

are_of_calls : AreTold IsOfCall
are_of_calls = record {
  ready = tt;
  row = λ r. tt;
  end = tt;
  none = tt;
  statement = λ s. tt;
  flag = λ b. tt;
  server = λ e. tt;
  data_at = λ n. tt;
  misfit = λ s p n. unfit_own s p n;
  codec = λ f. tt;
  mixed = tt;
  values = λ s p e is. tt;
  begins = λ o v s e is. tt;
}

closed_told : (b : Bool) → IsOfCall (if b then ToldReady else ToldError connection_closed)
closed_told true = tt
closed_told false = tt

halt_told : (login : Login) (closed : Bool) (s : Span) (p : Place) → TellsSo IsOfCall (halt_of login closed s p).stop
halt_told login true s p = closed_told (is_unrefused (kind_of s.call))
halt_told login false s p =
    let q : Place = with_bytes s.sent s.taken p in
    run_tells IsOfCall are_of_calls login (enough login s.call q) s.call q (Goes (parts_of login s.call) q) tt

newest_more : (cs : List ReadCall) (c : ReadCall) → newest_stop (cs ++ c ∷ []) ≡ Some c.halt.stop
newest_more [] c = refl
newest_more (x ∷ []) c = refl
newest_more (x ∷ y ∷ cs) c = newest_more (y ∷ cs) c

-- where a call stops
abbrev TellsAt : Option Stop → Type 0
TellsAt None = Unit {0}
TellsAt (Some stop) = TellsSo IsOfCall stop

-- so it is of the open call
open_told : (login : Login) (k : Kept) (a : Asked) → k.pending ≡ Some a → TellsAt (stop_kept login k)
open_told login k a pending =
    let r : Reading = reading_before login k a in
    let here : stop_kept login k ≡ Some (halt_of login r.closed (span_open k a) r.place).stop =
    ap (λ (x : Reading). newest_stop x.calls) (open_reading login k a pending) ∙ newest_more r.calls (one_read login r (span_open k a)) in
    subst TellsAt (sym here) (halt_told login r.closed (span_open k a) r.place)

-- where the call awaits bytes no answer is returned
full_pends : (b : Bool) (t : Told) → (let o : Option (Option Told) = cond b (Some None) None in o) ≡ Some (Some t) → ⊥
full_pends true t e = cc
full_pends false t e = cc

same_told : (t u : Told) → Some (Some t) ≡ Some (Some u) → t ≡ u
same_told t u e = cc

-- what a poll returned is of its call, or an error of its link
module _ (n place : ℕ) (t : Told) where
  told_by : (stop : LinkStop) (s : Option Stop) → TellsAt s → comes_to stop s n place ≡ Some (Some t) → IsOfCall t
  told_by NoStop None w e = absurd (cc)
  told_by NoStop (Some Owes) w e = absurd (cc)
  told_by NoStop (Some Awaits) w e = absurd (full_pends _ t e)
  told_by NoStop (Some (Returns u)) w e = subst IsOfCall (same_told u t e) w
  told_by ReadHold None w e = absurd (cc)
  told_by ReadHold (Some Owes) w e = absurd (cc)
  told_by ReadHold (Some Awaits) w e = absurd (cc)
  told_by ReadHold (Some (Returns u)) w e = absurd (cc)
  told_by WriteHold None w e = absurd (cc)
  told_by WriteHold (Some Owes) w e = absurd (cc)
  told_by WriteHold (Some Awaits) w e = absurd (cc)
  told_by WriteHold (Some (Returns u)) w e = absurd (cc)
  told_by ReadFault None w e = absurd (cc)
  told_by ReadFault (Some Owes) w e = absurd (cc)
  told_by ReadFault (Some Awaits) w e = subst IsOfCall (same_told _ t e) tt
  told_by ReadFault (Some (Returns u)) w e = absurd (cc)
  told_by WriteFault None w e = absurd (cc)
  told_by WriteFault (Some Owes) w e = subst IsOfCall (same_told _ t e) tt
  told_by WriteFault (Some Awaits) w e = absurd (cc)
  told_by WriteFault (Some (Returns u)) w e = absurd (cc)
  told_by LinkEnd None w e = absurd (cc)
  told_by LinkEnd (Some Owes) w e = absurd (cc)
  told_by LinkEnd (Some Awaits) w e = subst IsOfCall (same_told _ t e) tt
  told_by LinkEnd (Some (Returns u)) w e = absurd (cc)

unmade_own : (login : Login) (x y : Looks) (e : Error) → WhyUnmade login x y e → IsOwn e
unmade_own login x y e (inl w) = subst IsOwn (sym w) tt
unmade_own login x y e (inr (inl w)) = subst IsOwn (sym w.0) tt
unmade_own login x y e (inr (inr w)) =
    let first : Kept = asking nothing_kept Connect None in
    let k : Kept = moved_by first w.driven.moves in
    told_by w.count (facts_kept login k).place (ToldError e) w.driven.stop (stop_kept login k)
    (open_told login k (asked_by nothing_kept Connect) (all_pending first w.driven.moves)) w.driven.comes

-- a connection that wasn't made has an error of its own
pub new_own : {L : Type 0} (look : L → Looks) (opts : OptsView) (g : Given) (u : Unmade L) → IsUnmade look opts g u → IsOwn u.error
new_own look opts g u w = unmade_own (login_of opts) g.looks (look u.link) u.error w.why

pub new_refused : {L : Type 0} (look : L → Looks) (opts : OptsView) (g : Given) (read : Result OptsView UrlError) (r : Result (ConnSeen L) (Unmade L)) → NewIs look opts g r
    → IfErr r (λ u. (e : UrlError) → u.error ≡ errors.Url e → read ≡ Err e)
new_refused look opts g read (Ok c) w = tt
new_refused look opts g read (Err u) w = λ e is. absurd (subst IsOwn is (new_own look opts g u w))
