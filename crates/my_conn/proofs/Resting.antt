-- What a connection says by what it did, and by its tape: whether it is clean, and the account of its options.
use Rattle.std.proofs.Common.{◌≡◌, ◌↔◌, List, [], ◌∷◌, Bool, true, false, ◌||◌, ◌&&◌, not, Option, Some, None, refl, sym, ap, ◌∙◌, subst}
use Rattle.my_grammar.specs.declared.login.Login.{Login}
use Rattle.my_grammar.specs.declared.spot.Spot.{Spot}
use Rattle.my_grammar.specs.declared.spot.Spot.TheVariants as spots
use Rattle.my_grammar.specs.Cut.{is_idle, is_over}
use Rattle.my_opts.specs.Opts.{OptsView}
use Rattle.my_machine.specs.Stands.{IsAt}
use Rattle.my_reading.specs.declared.call.CallKind.{CallKind}
use Rattle.my_reading.specs.declared.transaction.TxStatus.{TxStatus}
use Rattle.my_reading.specs.declared.transaction.TxStatus.TheVariants as txs
use Rattle.my_reading.specs.Clean.{IsClean, have_ended}
use Rattle.my_reading.specs.Place.{Place, first_place}
use Rattle.my_reading.specs.Reading.{read_calls, reading}
use Rattle.my_reading.specs.Tape.{Span, spans_from}
use Rattle.my_session.specs.Login.{account_in, with_account}
use Rattle.my_session.specs.Rest.{has_transaction, rest_at}
use Rattle.my_client.specs.declared.tape.DoneCall.{DoneCall}
use Rattle.my_client.specs.declared.tape.Tape.{Tape}
use Rattle.my_client.specs.Conn.{kept_in}
use Rattle.my_client.specs.Kept.{Kept}
use Rattle.my_client.specs.Notes.{Agrees}
use Rattle.my_client.specs.Reads.{calls_kept, place_kept, tape_kept}
use Rattle.my_client.proofs.TapeRead.Lists.{spans_at_rest}
use Rattle.my_session.specs.Sessions.{Seen, is_dirty}
use Rattle.my_client.specs.Stands.{Stands}
use Rattle.my_client.proofs.Resting.{at_account, at_end_left, at_spot, at_status, idle_at, kept_at, rests_at}
use Rattle.my_client.specs.StandsFor.{StandsFor}
use Rattle.my_client.proofs.Standing.{no_asked}
use Rattle.my_conn.specs.Conn.{Standing}
use Rattle.my_conn.proofs.Standing.{sound}

-- nothing is left of a response exactly where nothing is awaited, and no end is to be returned
rest_none : (spot : Spot) (left : Bool) → rest_at spot left ≡ false → (is_idle spot ≡ true) × (left ≡ false)
rest_none spots.Idle left e = (refl, e)
rest_none (spots.Greeting rules) left e = cc
rest_none (spots.Authentication stand) left e = cc
rest_none spots.Single left e = cc
rest_none spots.Head left e = cc
rest_none spots.Further left e = cc
rest_none (spots.Columns n) left e = cc
rest_none spots.ColumnsEnd left e = cc
rest_none spots.Rows left e = cc
rest_none spots.Prepare left e = cc
rest_none (spots.Parameters n columns) left e = cc
rest_none (spots.ParametersEnd columns) left e = cc
rest_none (spots.Fields n) left e = cc
rest_none spots.FieldsEnd left e = cc

none_left : (spot : Spot) (left : Bool) → is_idle spot ≡ true → left ≡ false → rest_at spot left ≡ false
none_left spots.Idle left e f = f
none_left (spots.Greeting rules) left e f = cc
none_left (spots.Authentication stand) left e f = cc
none_left spots.Single left e f = cc
none_left spots.Head left e f = cc
none_left spots.Further left e f = cc
none_left (spots.Columns n) left e f = cc
none_left spots.ColumnsEnd left e f = cc
none_left spots.Rows left e f = cc
none_left spots.Prepare left e f = cc
none_left (spots.Parameters n columns) left e f = cc
none_left (spots.ParametersEnd columns) left e f = cc
none_left (spots.Fields n) left e f = cc
none_left spots.FieldsEnd left e f = cc

no_transaction : (status : TxStatus) → has_transaction status ≡ false → status ≡ txs.None
no_transaction txs.None e = refl
no_transaction txs.InTransaction e = cc
no_transaction txs.RequiresRollback e = cc

neither : (a b : Bool) → a || b ≡ false → (a ≡ false) × (b ≡ false)
neither true b e = cc
neither false b e = (refl, e)

both : (a b : Bool) → a && not b ≡ true → (a ≡ true) × (b ≡ false)
both true true e = cc
both true false e = (refl, refl)
both false b e = cc

all_ended : (ds : List DoneCall) → have_ended (calls_kept ds None) ≡ true
all_ended [] = refl
all_ended (d ∷ ds) = all_ended ds

-- no call is open
module _ (login : Login) (s : Seen) (k : Kept) (w : Stands login s k) (none : k.pending ≡ None) where
  closed_rest : (reading login (tape_kept k)).closed ≡ s.closed
  unfolding reading
  closed_rest =
      ap (λ (ss : List Span). (read_calls login ss false (first_place login)).closed)
      (ap (λ p. spans_from (tape_kept k) (calls_kept k.calls p)) none ∙ spans_at_rest k.sent k.taken (tape_kept k) refl refl k.calls)
      ∙ (idle_at login s k w none).ended.closed_is

  abbrev place : Place
  place = place_kept login k

  at : IsAt login place s.stand
  at = rests_at login s k w none

  over_is : is_over place.talk ≡ is_idle s.stand.context.spot
  over_is = ap is_idle (at_spot login place s.stand at)

  -- it isn't dirty: the connection is clean
  is_clean : s.closed ≡ false → is_dirty s ≡ false → IsClean login (tape_kept k)
  is_clean alive clean =
      let parts = neither (rest_at s.stand.context.spot s.stand.end_left) (has_transaction s.stand.status) clean in
      let rest = rest_none s.stand.context.spot s.stand.end_left parts.0 in
      let end : place.end_left ≡ false = at_end_left login place s.stand at ∙ rest.1 in
      record {
        alive = closed_rest ∙ alive;
        ended = ap (λ p. have_ended (calls_kept k.calls p)) none ∙ all_ended k.calls;
        read = ap (λ b. b && not place.end_left) (over_is ∙ rest.0) ∙ ap not end;
        status = at_status login place s.stand at ∙ no_transaction s.stand.status parts.1;
      }

  -- and where the connection is clean, it isn't
  was_clean : IsClean login (tape_kept k) → (s.closed ≡ false) × (is_dirty s ≡ false)
  was_clean c =
      let parts = both (is_over place.talk) place.end_left c.read in
      let rest : rest_at s.stand.context.spot s.stand.end_left ≡ false = none_left s.stand.context.spot s.stand.end_left (sym over_is ∙ parts.0) (sym (at_end_left login place s.stand at) ∙ parts.1) in
      let status : s.stand.status ≡ txs.None = sym (at_status login place s.stand at) ∙ c.status in
      (sym closed_rest ∙ c.alive, ap (λ b. b || has_transaction s.stand.status) rest ∙ ap has_transaction status)

-- what a tape that is kept has is what the connection did
tape_is : (p : Option Tape) (tape : Tape) (k : Kept) → p ≡ Some tape → Agrees p k → k ≡ kept_in tape
tape_is p tape k e agrees = let same : kept_in tape ≡ k = subst (λ (p : Option Tape). Agrees p k) e agrees in sym same

-- whether it is clean
pub clean_by : (login : Login) (s : Seen) (p : Option Tape) (k : Kept) → StandsFor login s p None k
    → IsClean login (tape_kept k) ↔ ((s.closed ≡ false) × (is_dirty s ≡ false))
clean_by login s p k w =
    let none = no_asked k.pending w.pending_is in
    (was_clean login s k w.rests.stands none, λ c. is_clean login s k w.rests.stands none c.0 c.1)

pub each_clean : (b : Bool) (s : Seen) (p : Option Tape) (o : Option CallKind) → Standing b s p o → b ≡ false → o ≡ None → (tape : Tape) → p ≡ Some tape
    → IsClean s.login (tape_kept (kept_in tape)) ↔ ((s.closed ≡ false) × (is_dirty s ≡ false))
each_clean b s p o w still none tape e =
    let stands = sound b s p o still w in
    let rests : StandsFor stands.0 s p None stands.1 = subst (λ (o : Option CallKind). StandsFor stands.0 s p o stands.1) none stands.2 in
    subst (λ (l : Login). IsClean l (tape_kept (kept_in tape)) ↔ ((s.closed ≡ false) × (is_dirty s ≡ false))) (sym rests.rests.stands.login_is)
    (subst (λ (k : Kept). IsClean stands.0 (tape_kept k) ↔ ((s.closed ≡ false) × (is_dirty s ≡ false))) (tape_is p tape stands.1 e rests.agrees) (clean_by stands.0 s p stands.1 rests))

-- the account of its options
pub account_by : (login : Login) (s : Seen) (p : Option Tape) (o : Option CallKind) (k : Kept) (opts : OptsView) → StandsFor login s p o k
    → account_in (with_account s.stand.account opts) ≡ (place_kept login k).account
account_by login s p o k opts w = sym (at_account login (place_kept login k) s.stand (kept_at login s k w.rests))

pub each_account : (b : Bool) (s : Seen) (opts : OptsView) (p : Option Tape) (o : Option CallKind) → Standing b s p o → b ≡ false → (tape : Tape) → p ≡ Some tape
    → account_in (with_account s.stand.account opts) ≡ (place_kept s.login (kept_in tape)).account
each_account b s opts p o w still tape e =
    let stands = sound b s p o still w in
    account_by stands.0 s p o stands.1 opts stands.2
    ∙ ap (λ (k : Kept). (place_kept stands.0 k).account) (tape_is p tape stands.1 e stands.2.agrees)
    ∙ ap (λ (l : Login). (place_kept l (kept_in tape)).account) (sym stands.2.rests.stands.login_is)
