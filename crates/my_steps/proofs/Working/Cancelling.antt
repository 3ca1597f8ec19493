-- How an open call is cancelled, and what tells without a call.
use Rattle.std.proofs.Common.{◌≡◌, List, [], not, Bool, true, false, Option, Some, None, is_some, option_map, refl, sym, ap, ◌∙◌, subst}
use Rattle.my_grammar.specs.declared.login.Login.{Login}
use Rattle.my_link.specs.Looks.{Looks}
use Rattle.my_reply.specs.declared.ok.OkPacket.{OkPacket}
use Rattle.my_reading.specs.declared.facts.Facts.{Facts}
use Rattle.my_reading.specs.declared.call.CallKind.{CallKind}
use Rattle.my_reading.specs.Calls.{kind_of, is_connect}
use Rattle.my_reading.specs.Endings.{closes_cancelled}
use Rattle.my_reading.specs.Place.{Place}
use Rattle.my_script.specs.declared.transcript.Outcome.{Outcome}
use Rattle.my_script.specs.declared.transcript.Outcome.TheVariants.{Done, Fields, NoSuchHandle}
use Rattle.my_script.specs.declared.transcript.Use.{Use}
use Rattle.my_value.specs.RowParts.{RowParts}
use Rattle.my_client.specs.declared.tape.Said.TheVariants as says
use Rattle.my_client.specs.declared.tape.Tape.{Tape}
use Rattle.my_client.specs.Cancels.{cancelled_by}
use Rattle.my_client.specs.Conn.{kept_in}
use Rattle.my_client.specs.Kept.{Asked, Kept, ended_by}
use Rattle.my_client.specs.Notes.{Agrees}
use Rattle.my_client.specs.Reads.{IsRead, place_kept}
use Rattle.my_client.specs.StandsFor.{StandsFor}
use Rattle.my_client.proofs.Reading.{rests_read}
use Rattle.my_client.proofs.Resting.{at_facts, rests_at}
use Rattle.my_conn.specs.Cancels.{CancelIs, MakingCancels}
use Rattle.my_conn.specs.Conn.{ConnSeen}
use Rattle.my_conn.specs.Connects.{ConnectSeen}
use Rattle.my_steps.specs.declared.slot.Slot.{Slot}
use Rattle.my_steps.specs.declared.slot.Slot.TheVariants.{Connecting, There, Ended}
use Rattle.my_steps.specs.Did.{Did}
use Rattle.my_steps.specs.Grows.{Cancels, CancelsWith, IsCancelled, TellsFields, TellsWith}
use Rattle.my_steps.specs.Handle.{Handle, Joined}
use Rattle.my_steps.specs.Keeps.{ConnectsBy, GathersBy, IsPlain, IsStood, StandsBy}
use Rattle.my_steps.specs.Slot.{asked_with, handle_of, kept_of, kept_some, with_rows}
use Rattle.my_steps.proofs.Working.Polling.{none_open, plain_open, some_open, tape_has}
use Rattle.my_steps.proofs.Working.Rows.{place_rows}

-- a step that changes nothing at its number
pub same_did : {L : Type 0} (look : L → Looks) (login : Login) (R : Handle → Outcome → List Use → Handle → Type 0) (o : Outcome) (us : List Use) (s : Slot L) → IsStood login s → R (handle_of look s) o us (handle_of look s) → Did look login R o us s s
same_did look login R o us s w r = record { stood = w; does = r }

-- the open call of a connection is cancelled
pub record Ends {L : Type 0} (look : L → Looks) (login : Login) (c d : ConnSeen L) : Type 0 where
  pub asked : Asked
  pub was : (kept_of c).pending ≡ Some asked
  pub stood : StandsBy login d
  pub kept : kept_of d ≡ cancelled_by login (kept_of c) asked
  pub looks : look d.link ≡ look c.link
  pub plain : is_connect (kind_of asked.call) ≡ false

pub cancel_ends : {L : Type 0} (look : L → Looks) (login : Login) (c d : ConnSeen L) → StandsBy login c → CancelIs c d → Ends look login c d
cancel_ends look login c d w is =
    let each = is.each w.alive login (kept_of c) w.stands in
    let taped : is_some d.tape ≡ true = is.keeps ∙ w.taped in
    let same : cancelled_by login (kept_of c) each.0 ≡ kept_of d = tape_has d.tape (cancelled_by login (kept_of c) each.0) taped each.2.agrees in
    let stands : StandsFor login d.seen d.tape None (kept_of d) = subst (StandsFor login d.seen d.tape None) same each.2 in
    record {
      asked = each.0;
      was = each.1;
      stood = record {
        alive = is.lost ∙ w.alive;
        taped = taped;
        stands = subst (λ (p : Option CallKind). StandsFor login d.seen d.tape p (kept_of d)) (sym is.pending) stands;
        plain = subst (λ (k : Kept). IsPlain k.pending) same tt;
      };
      kept = sym same;
      looks = ap look is.link;
      plain = (plain_open login c w each.0 each.1).1;
    }

pub cancelled : {L : Type 0} (look : L → Looks) (login : Login) (c d : ConnSeen L) (o : Outcome) (us : List Use) → CancelIs c d → o ≡ Done → us ≡ [] → StandsBy login c → Did look login (Cancels login) o us (There c) (There d)
cancelled look login c d o us is e f w =
    let ends : Ends look login c d = cancel_ends look login c d w is in
    let k : Kept = kept_of c in
    let x : Looks = look c.link in
    let left : Joined true (kept_of d) (look d.link) ≡ Joined (not (is_connect (kind_of ends.asked.call))) (cancelled_by login k ends.asked) x =
    ap (λ (q : Kept). Joined true q (look d.link)) ends.kept ∙ ap (Joined true (cancelled_by login k ends.asked)) ends.looks
    ∙ ap (λ (b : Bool). Joined (not b) (cancelled_by login k ends.asked) x) (sym ends.plain) in
    record {
      stood = ends.stood;
      does = subst (λ (p : Option Asked). CancelsWith p login k x o us (Joined true (kept_of d) (look d.link))) (sym ends.was) (record { outcome = e; uses = f; left = left });
    }

-- nothing to cancel
pub not_cancelled : {L : Type 0} (look : L → Looks) (login : Login) (c : ConnSeen L) (o : Outcome) (us : List Use) → c.pending ≡ None → o ≡ NoSuchHandle → us ≡ [] → StandsBy login c → Did look login (Cancels login) o us (There c) (There c)
not_cancelled look login c o us idle e f w = same_did look login (Cancels login) o us (There c) w
    (subst (λ (p : Option Asked). CancelsWith p login (kept_of c) (look c.link) o us (Joined true (kept_of c) (look c.link))) (sym (none_open login c w idle)) (record { outcome = e; uses = f; same = refl }))

-- a gathering is cancelled, and the rows that came are dropped
pub gathering_cancelled : {L : Type 0} (look : L → Looks) (login : Login) (c d : ConnSeen L) (s : Slot L) (rows : List RowParts) (o : Outcome) (us : List Use) → handle_of look s ≡ Joined true (with_rows rows (kept_of c)) (look c.link) → CancelIs c d → o ≡ Done → us ≡ [] → GathersBy login c → Did look login (Cancels login) o us s (There d)
gathering_cancelled {L} look login c d s rows o us is_at is e f w =
    let ends : Ends look login c d = cancel_ends look login c d w.stands is in
    let k : Kept = kept_of c in
    let x : Looks = look c.link in
    let a : Asked = ends.asked in
    let shut : cancelled_by login k a ≡ cancelled_by login (with_rows rows k) (asked_with rows a) =
    ap (λ (p : Place). ended_by k a (says.Cancelled (closes_cancelled (kind_of a.call) p))) (sym (place_rows rows login k)) in
    let left : Joined true (kept_of d) (look d.link) ≡ Joined (not (is_connect (kind_of a.call))) (cancelled_by login (with_rows rows k) (asked_with rows a)) x =
    ap (λ (q : Kept). Joined true q (look d.link)) (ends.kept ∙ shut) ∙ ap (Joined true (cancelled_by login (with_rows rows k) (asked_with rows a))) ends.looks
    ∙ ap (λ (b : Bool). Joined (not b) (cancelled_by login (with_rows rows k) (asked_with rows a)) x) (sym ends.plain) in
    let cancels : IsCancelled login (asked_with rows a) (with_rows rows k) x o us (Joined true (kept_of d) (look d.link)) = record { outcome = e; uses = f; left = left } in
    let does : Cancels login (Joined true (with_rows rows k) x) o us (Joined true (kept_of d) (look d.link)) =
    subst (λ (p : Option Asked). CancelsWith p login (with_rows rows k) x o us (Joined true (kept_of d) (look d.link))) (sym (ap (λ (q : Option Asked). option_map (asked_with rows) q) ends.was)) cancels in
    record { stood = ends.stood; does = subst (λ (h : Handle). Cancels login h o us (Joined true (kept_of d) (look d.link))) (sym is_at) does }

-- a handshake is cancelled
pub connect_cancelled : {L : Type 0} (look : L → Looks) (login : Login) (c : ConnectSeen L) (q : Option Tape) (t : Tape) (l : L) (o : Outcome) (us : List Use) → MakingCancels c.seen c.tape q → q ≡ Some t → l ≡ c.link → o ≡ Done → us ≡ [] → ConnectsBy login c → Did look login (Cancels login) o us (Connecting c) (Ended t l)
connect_cancelled {L} look login c q t l o us is some link e f w =
    let k : Kept = kept_some c.tape in
    let a : Asked = w.asked in
    let asked : k.pending ≡ Some a = w.shakes.connects.asked.asked in
    let each = is.1 login k a w.rests asked w.shakes.connects.agrees in
    let end : Kept = cancelled_by login k a in
    let same : kept_in t ≡ end = subst (λ (p : Option Tape). Agrees p end) some each.agrees in
    let left : Joined false (kept_in t) (look l) ≡ Joined (not (is_connect (kind_of a.call))) end (look c.link) =
    ap (λ (z : Kept). Joined false z (look l)) same ∙ ap (λ (z : L). Joined false end (look z)) link
    ∙ ap (λ (z : CallKind). Joined (not (is_connect z)) end (look c.link)) (sym w.shakes.connects.connects) in
    record {
      stood = subst (IsRead login) (sym same) (rests_read login is.0 end each.rests);
      does = subst (λ (p : Option Asked). CancelsWith p login k (look c.link) o us (Joined false (kept_in t) (look l))) (sym asked) (record { outcome = e; uses = f; left = left });
    }

-- the last OK is told
pub fields_did : {L : Type 0} (look : L → Looks) (login : Login) (c : ConnSeen L) (fields : Option OkPacket) (o : Outcome) (us : List Use) → c.pending ≡ None → fields ≡ c.seen.stand.facts.ok → o ≡ Fields fields → us ≡ [] → StandsBy login c → Did look login (TellsFields login) o us (There c) (There c)
fields_did look login c fields o us idle e shown f w =
    let none : (kept_of c).pending ≡ None = none_open login c w idle in
    let facts = sym (at_facts login (place_kept login (kept_of c)) c.seen.stand (rests_at login c.seen (kept_of c) w.stands.rests.stands none)) in
    same_did look login (TellsFields login) o us (There c) w
    (subst (λ (p : Option Asked). TellsWith p login (kept_of c) (look c.link) o us (Joined true (kept_of c) (look c.link))) (sym none) (record { outcome = shown ∙ ap Fields (e ∙ ap (λ (x : Facts). x.ok) facts); uses = f; left = refl }))

pub no_fields : {L : Type 0} (look : L → Looks) (login : Login) (c : ConnSeen L) (kind : CallKind) (o : Outcome) (us : List Use) → c.pending ≡ Some kind → o ≡ NoSuchHandle → us ≡ [] → StandsBy login c → Did look login (TellsFields login) o us (There c) (There c)
no_fields look login c kind o us op e f w = same_did look login (TellsFields login) o us (There c) w
    (subst (λ (p : Option Asked). TellsWith p login (kept_of c) (look c.link) o us (Joined true (kept_of c) (look c.link))) (sym (some_open login c w kind op).1) (record { outcome = e; uses = f; same = refl }))
