-- The calls of a tape own its exchanges: the first one connects, and the others follow.
use Rattle.std.proofs.Common.{◌≡◌, ◌⊎◌, inl, inr, List, [], ◌∷◌, Bool, true, false, cond, ◌||◌, Option, Some, None, is_some, refl, sym, ap, ◌∙◌, subst}
use Rattle.my_grammar.specs.declared.login.Login.{Login}
use Rattle.my_grammar.specs.declared.spot.Spot.{Spot}
use Rattle.my_grammar.specs.declared.spot.Spot.TheVariants as spots
use Rattle.my_grammar.specs.Cut.{is_idle}
use Rattle.my_grammar.specs.Talk.{context_of}
use Rattle.my_reading.specs.declared.call.Call.{Call}
use Rattle.my_reading.specs.declared.call.Call.TheVariants as calls
use Rattle.my_reading.specs.declared.call.CallKind.TheVariants as callkinds
use Rattle.my_reading.specs.Calls.{is_connect, kind_of}
use Rattle.my_reading.specs.Course.{Halt, Stop, Owes, Awaits, Returns, course, enough, is_greeting}
use Rattle.my_reading.specs.Endings.{AreCalls, Ends, IsCut, IsOpen, IsCancelled, IsLinkFailure, IsLinkEnd, closes_cancelled, connects_first}
use Rattle.my_reading.specs.Place.{Exchange, Place, exchanges, first_place, with_bytes}
use Rattle.my_reading.specs.Reading.{is_closing, read_calls, reading}
use Rattle.my_reading.specs.Tape.{Span, spans}
use Rattle.my_reading.specs.Told.{Told, ToldReady, ToldError, Dropped, closes}
use Rattle.history_laws.specs.Ended.{makes}
use Rattle.history_laws.specs.Given.{have_ended, with_ending}
use Rattle.history_laws.specs.Owners.{AreOf, EachIsOwned, IsArranged, IsOwnedOf, IsTied, OwnsFirst, begun_in, calls_in, may_lack}
use Rattle.history_laws.specs.Settled.{Knows}
use Rattle.history_laws.specs.Table.{Follow, Opening}
use Rattle.history_laws.proofs.Calls.{connect_is}
use Rattle.history_laws.proofs.Asking.{AreConnects}
use Rattle.history_laws.proofs.Connecting.{IsJoined, JoinsAt, JoinsSo, connect_stops}
use Rattle.history_laws.proofs.Connecting.{Stopped as Joined}
use Rattle.history_laws.proofs.Running.{ended_from, rest_ended}
use Rattle.history_laws.proofs.Shaping.{IsShook, over_answered}
use Rattle.history_laws.proofs.Stepping.{both}
use Rattle.history_laws.proofs.Telling.{first_rests, rests_on}
use Rattle.history_laws.proofs.Tying.{Between, all_begun, calls_owned, ended_owned}

idle_shook : (s : Spot) → is_idle s ≡ true → is_greeting s ≡ false
idle_shook spots.Idle e = refl
idle_shook _ e = absurd (cc)

-- it owns all exchanges
all_own : (call : Call) (older : List Exchange) → call ≡ calls.Connect → AreConnects older → OwnsFirst calls.Connect (call ∷ calls_in older) (IsTied [])
all_own call [] is w = (sym is, inl tt)
all_own call (e ∷ es) is w = (sym is, inr (refl, all_own e.call es w.0 w.1))

some_own : (t : Told) (older : List Exchange) → may_lack t calls.Connect ≡ true → AreConnects older → IsTied (record { call = calls.Connect; what = t } ∷ []) (calls_in older)
some_own t [] lacks w = inl (lacks, tt)
some_own t (e ∷ es) lacks w = inr (all_own e.call es w.0 w.1)

any_own : (older : List Exchange) → AreConnects older → AreOf (Some calls.Connect) [] (calls_in older)
any_own [] w = inr tt
any_own (e ∷ es) w = inl (all_own e.call es w.0 w.1)

module _ (login : Login) (p : Place) (w : JoinsAt login p) where
  lacking_tied : (t : Told) → may_lack t calls.Connect ≡ true → IsTied (record { call = calls.Connect; what = t } ∷ []) (begun_in (exchanges p))
  lacking_tied t lacks = by_spot (is_greeting (context_of p.talk).spot)
    where
      by_spot : (b : Bool) → IsTied (record { call = calls.Connect; what = t } ∷ []) (cond b (calls_in p.older) (p.call ∷ calls_in p.older))
      by_spot true = some_own t p.older lacks w.owns
      by_spot false = inr (all_own p.call p.older w.own w.owns)

  open_tied : AreOf (Some calls.Connect) [] (begun_in (exchanges p))
  open_tied = by_spot (is_greeting (context_of p.talk).spot)
    where
      by_spot : (b : Bool) → AreOf (Some calls.Connect) [] (cond b (calls_in p.older) (p.call ∷ calls_in p.older))
      by_spot true = any_own p.older w.owns
      by_spot false = inl (all_own p.call p.older w.own w.owns)

  -- it returned that the connection was made
  joined_between : (closed : Bool) → IsJoined login p → Between login closed (record { call = calls.Connect; what = ToldReady } ∷ []) p
  joined_between closed j =
      let shook : IsShook p.talk = idle_shook (context_of p.talk).spot j.over in
      record {
        table = w.table;
        tied = all_begun (IsTied (record { call = calls.Connect; what = ToldReady } ∷ [])) p shook (inr (all_own p.call p.older w.own w.owns));
        arranged = λ made. (j.count, λ e. (j.over, over_answered p.talk w.connects_is w.fits j.over));
        known = λ made. j.known;
        shook = λ _. shook;
        paid = λ _. j.paid;
        fits = w.fits;
      }

  -- or it closed the session
  lost_between : (t : Told) → may_lack t calls.Connect ≡ true → makes t callkinds.Connect ≡ false → Between login true (record { call = calls.Connect; what = t } ∷ []) p
  lost_between t lacks none = record {
    table = w.table;
    tied = lacking_tied t lacks;
    arranged = λ made. absurd (let no : (makes t callkinds.Connect || false) ≡ false = ap (λ b. b || false) none in cc);
    known = λ made. absurd (let no : (makes t callkinds.Connect || false) ≡ false = ap (λ b. b || false) none in cc);
    shook = λ x. absurd (cc);
    paid = λ x. absurd (cc);
    fits = w.fits;
  }

module _ (login : Login) (s : Span) (is : calls.Connect ≡ s.call) (h : Halt) where
  abbrev First : Type 0
  First = ((s.ending ≡ None) × (Follow login (exchanges h.place) × AreOf (Some calls.Connect) [] (begun_in (exchanges h.place)) × IsArranged login [] (exchanges h.place) × Knows login [] (exchanges h.place))) ⊎ ((is_some s.ending ≡ true) × Between login (is_closing calls.Connect s.ending) (with_ending calls.Connect s.ending []) h.place)

  first_so : (t : Told) → s.ending ≡ Some t → Between login (closes t callkinds.Connect) (record { call = calls.Connect; what = t } ∷ []) h.place → First
  first_so t e b = inr (ap is_some e, subst (λ (x : Option Told). Between login (is_closing calls.Connect x) (with_ending calls.Connect x []) h.place) (sym e) b)

  first_cut : JoinsAt login h.place → IsCut login (record { span = s; closed = false; halt = h }) → First
  first_cut w (IsOpen e) = inl (e, (w.table, open_tied login h.place w, λ made. absurd (cc), λ made. absurd (cc)))
  first_cut w (IsCancelled e) = first_so (Dropped true) (e ∙ ap (λ (c : Call). Some (Dropped (closes_cancelled (kind_of c) h.place))) (sym is)) (lost_between login h.place w (Dropped true) refl refl)
  first_cut w (IsLinkFailure e) = first_so _ e (lost_between login h.place w _ refl refl)
  first_cut w (IsLinkEnd a e) = first_so _ e (lost_between login h.place w _ refl refl)

  first_said : (t : Told) → s.ending ≡ Some t → JoinsAt login h.place → JoinsSo login h.place t → First
  first_said t e w (inl j) = first_so ToldReady (e ∙ ap Some j.0) (joined_between login h.place w false j.1)
  first_said t e w (inr x) = first_so (ToldError x.0) (e ∙ ap Some x.1) (subst (λ b. Between login b (record { call = calls.Connect; what = ToldError x.0 } ∷ []) h.place) (sym x.2) (lost_between login h.place w (ToldError x.0) refl refl))

  first_ended : (stop : Stop) → Joined login h.place stop → Ends login (record { span = s; closed = false; halt = h }) stop → First
  first_ended Owes w e = first_cut w e
  first_ended Awaits w e = first_cut w e
  first_ended (Returns t) w e = first_said t e w.0 w.1

  first_of_call : First → ((s.ending ≡ None) × (Follow login (exchanges h.place) × AreOf (Some s.call) [] (begun_in (exchanges h.place)) × IsArranged login [] (exchanges h.place) × Knows login [] (exchanges h.place))) ⊎ ((is_some s.ending ≡ true) × Between login (is_closing s.call s.ending) (with_ending s.call s.ending []) h.place)
  first_of_call f = subst (λ (c : Call). ((s.ending ≡ None) × (Follow login (exchanges h.place) × AreOf (Some c) [] (begun_in (exchanges h.place)) × IsArranged login [] (exchanges h.place) × Knows login [] (exchanges h.place))) ⊎ ((is_some s.ending ≡ true) × Between login (is_closing c s.ending) (with_ending c s.ending []) h.place)) is f

first_joins : (login : Login) (s : Span) → JoinsAt login (with_bytes s.sent s.taken (first_place login))
first_joins login s = record { table = (Opening (first_place login).statements refl, tt); own = refl; owns = tt; fits = record { kinds = tt; within = tt }; connects_is = refl; off = refl }

all_owned : (login : Login) (ss : List Span) → have_ended ss ≡ true → connects_first (read_calls login ss false (first_place login)).calls ≡ true → AreCalls login (read_calls login ss false (first_place login)).calls
    → IsOwnedOf login [] ss (read_calls login ss false (first_place login)).place (read_calls login ss false (first_place login)).closed
unfolding read_calls
all_owned login [] ended first accepted = record { table = (Opening (first_place login).statements refl, tt); calls = inr tt; arranged = λ made. absurd (cc); known = λ made. absurd (cc); whole = λ none alive. refl }
all_owned login (s ∷ ss) ended first accepted =
    let f = both (is_connect (kind_of s.call)) _ first in
    let is : calls.Connect ≡ s.call = connect_is s.call f.0 in
    let q : Place = with_bytes s.sent s.taken (first_place login) in
    let h : Halt = course login s.call q in
    let stands : Joined login h.place h.stop = subst (λ (c : Call). Joined login (course login c q).place (course login c q).stop) is (connect_stops (enough login calls.Connect q) login q (first_joins login s) refl refl) in
    ended_owned login s ss [] h ended (rests_on login s [] (first_place login) (first_rests login) accepted.0.ends)
    (first_of_call login s is h (first_ended login s is h h.stop stands accepted.0.ends))
    (λ c v. calls_owned login ss (is_closing s.call s.ending) (with_ending s.call s.ending []) h.place c v (rest_ended s ss ended) f.1 accepted.1)

pub each_is_owned : EachIsOwned
unfolding reading
each_is_owned login t w = all_owned login (spans t) (ended_from t t.calls w.order.order) w.first w.calls
