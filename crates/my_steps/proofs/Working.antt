-- What a step's work does at its number.
pub mod Awaiting
pub mod Beginning
pub mod Cancelling
pub mod Connecting
pub mod Gathered
pub mod Midst
pub mod Numbers
pub mod Ordering
pub mod Polling
pub mod Resuming
pub mod Rows
pub mod Streaming
use Rattle.std.proofs.Common.{◌≡◌, ◌<◌, ◌⊎◌, inl, inr, true, ℕ, suc, List, [], ◌∷◌, Option, Some, option_map, length, get_or, slice_set, false, refl, sym, ap, ◌∙◌, subst, arith}
use Rattle.my_grammar.specs.declared.login.Login.{Login}
use Rattle.my_reading.specs.declared.call.Call.{Call}
use Rattle.my_link.specs.Looks.{Looks}
use Rattle.my_link.specs.World.{Plans, SameBut}
use Rattle.my_script.specs.declared.aim.Aim.{Aim}
use Rattle.my_script.specs.declared.transcript.Outcome.{Outcome}
use Rattle.my_script.specs.declared.transcript.Outcome.TheVariants.{Done, NoSuchHandle}
use Rattle.my_script.specs.declared.transcript.Use.{Use}
use Rattle.my_client.specs.declared.tape.Tape.{Tape}
use Rattle.my_client.specs.Conn.{kept_in}
use Rattle.my_client.specs.Kept.{Asked, Kept}
use Rattle.my_conn.specs.Conn.{ConnSeen}
use Rattle.my_conn.specs.Connects.{ConnectSeen}
use Rattle.my_value.specs.RowParts.{RowParts}
use Rattle.my_steps.specs.declared.slot.Slot.{Slot}
use Rattle.my_steps.specs.declared.slot.Slot.TheVariants.{Gone, Held, Connecting as ConnectingAt, There, Gathering, Ended}
use Rattle.my_script.specs.declared.action.Work.{Work}
use Rattle.my_script.specs.declared.action.Work.TheVariants as works
use Rattle.my_steps.specs.Did.{Did, DidAt, Stepped, untold}
use Rattle.my_steps.specs.Grows.{At, BeginsOn, Cancels, IsRefused, ItemsOn, LetsGoWith, ReadsOn, TellsWith, WorkAt}
use Rattle.my_steps.specs.Handle.{Handle, Absent, Dialing, Joined}
use Rattle.my_steps.specs.Keeps.{ConnectsBy, GathersBy, IsStood, AreStood, IsAwaited, AreAwaited}
use Rattle.my_steps.specs.Midst.{is_linked}
use Rattle.my_steps.specs.Slot.{HasLink, asked_with, handle_of, handle_with, handles_in, kept_of, kept_some, with_rows}
use Rattle.my_steps.proofs.Working.Awaiting.{linked_awaited, linked_handle}
use Rattle.my_steps.proofs.Working.Midst.{has_link}
use Rattle.my_steps.proofs.Working.Numbers.{set_twice, stepped_at, stepped_past}
use Rattle.my_steps.proofs.Working.Polling.{some_open}

-- a work by what it is
pub work_is : {L : Type 0} (look : L → Looks) (login : Login) (n : ℕ) (work known : Work) (o : Outcome) (us : List Use) (s t : Slot L) → work ≡ known → Did look login (WorkAt login untold n known) o us s t → Did look login (WorkAt login untold n work) o us s t
work_is look login n work known o us s t e w = subst (λ (x : Work). Did look login (WorkAt login untold n x) o us s t) (sym e) w

pub work_at_is : {L : Type 0} (look : L → Looks) (login : Login) (plans before later : Plans) (n : ℕ) (work known : Work) (o : Outcome) (us : List Use) (s t : Slot L) → work ≡ known → DidAt look login plans before later n (WorkAt login plans n known) o us s t → DidAt look login plans before later n (WorkAt login plans n work) o us s t
work_at_is look login plans before later n work known o us s t e w = subst (λ (x : Work). DidAt look login plans before later n (WorkAt login plans n x) o us s t) (sym e) w

-- where no connection is there, each work is refused
absent_refuses : (login : Login) (plans : Plans) (n : ℕ) (work : Work) (o : Outcome) (us : List Use) → IsRefused Absent o us Absent → WorkAt login plans n work Absent o us Absent
absent_refuses login plans n (works.Begin call) o us r = r
absent_refuses login plans n (works.Read aim) o us r = r
absent_refuses login plans n works.Item o us r = r
absent_refuses login plans n works.LetGo o us r = r
absent_refuses login plans n works.Miss o us r = r
absent_refuses login plans n works.Fields o us r = r
absent_refuses login plans n (works.Poll aim) o us r = r
absent_refuses login plans n works.Cancel o us r = r

ended_refuses : (login : Login) (plans : Plans) (n : ℕ) (work : Work) (k : Kept) (x : Looks) (o : Outcome) (us : List Use) → IsRefused (Joined false k x) o us (Joined false k x) → WorkAt login plans n work (Joined false k x) o us (Joined false k x)
ended_refuses login plans n (works.Begin call) k x o us r = r
ended_refuses login plans n (works.Read aim) k x o us r = r
ended_refuses login plans n works.Item k x o us r = r
ended_refuses login plans n works.LetGo k x o us r = r
ended_refuses login plans n works.Miss k x o us r = r
ended_refuses login plans n works.Fields k x o us r = r
ended_refuses login plans n (works.Poll aim) k x o us r = r
ended_refuses login plans n works.Cancel k x o us r = r

-- a connection's work doesn't read the plans
on_plans : (login : Login) (plans : Plans) (n : ℕ) (work : Work) (k : Kept) (x : Looks) (o : Outcome) (us : List Use) (t : Handle) → WorkAt login untold n work (Joined true k x) o us t → WorkAt login plans n work (Joined true k x) o us t
on_plans login plans n (works.Begin call) k x o us t r = r
on_plans login plans n (works.Read aim) k x o us t r = r
on_plans login plans n works.Item k x o us t r = r
on_plans login plans n works.LetGo k x o us t r = r
on_plans login plans n works.Miss k x o us t r = r
on_plans login plans n works.Fields k x o us t r = r
on_plans login plans n (works.Poll aim) k x o us t r = r
on_plans login plans n works.Cancel k x o us t r = r

refusal : (h : Handle) (o : Outcome) (us : List Use) → o ≡ NoSuchHandle → us ≡ [] → IsRefused h o us h
refusal h o us e f = record { outcome = e; uses = f; same = refl }

-- where the number's slot is known
slot_known : {L : Type 0} (look : L → Looks) (login : Login) (plans before later : Plans) (n : ℕ) (work : Work) (o : Outcome) (us : List Use) (s known t : Slot L) → s ≡ known → DidAt look login plans before later n (WorkAt login plans n work) o us known t → DidAt look login plans before later n (WorkAt login plans n work) o us s t
slot_known {L} look login plans before later n work o us s known t e w = subst (λ (x : Slot L). DidAt look login plans before later n (WorkAt login plans n work) o us x t) (sym e) w

pub gone_did : {L : Type 0} (look : L → Looks) (login : Login) (plans now : Plans) (n : ℕ) (work : Work) (o : Outcome) (us : List Use) (s : Slot L) → s ≡ Gone → o ≡ NoSuchHandle → us ≡ [] → DidAt look login plans now now n (WorkAt login plans n work) o us s Gone
gone_did look login plans now n work o us s is e f = slot_known look login plans now now n work o us s Gone Gone is (record { stood = tt; awaited = tt; does = absent_refuses login plans n work o us (refusal Absent o us e f) })

pub ended_did : {L : Type 0} (look : L → Looks) (login : Login) (plans now : Plans) (n : ℕ) (work : Work) (o : Outcome) (us : List Use) (s : Slot L) (t : Tape) (l : L) → s ≡ Ended t l → o ≡ NoSuchHandle → us ≡ [] → IsStood login s → DidAt look login plans now now n (WorkAt login plans n work) o us s (Ended t l)
ended_did look login plans now n work o us s t l is e f w = slot_known look login plans now now n work o us s (Ended t l) (Ended t l) is (record { stood = subst (IsStood login) is w; awaited = tt; does = ended_refuses login plans n work (kept_in t) (look l) o us (refusal (Joined false (kept_in t) (look l)) o us e f) })

-- a connection that steps may name
abbrev pub IsThere : {L : Type 0} → Slot L → Type 0
IsThere Gone = ⊥
IsThere Held = ⊥
IsThere (ConnectingAt c) = Unit {0}
IsThere (There c) = Unit {0}
IsThere (Gathering c rows) = Unit {0}
IsThere (Ended t l) = ⊥

-- what is done where a link is
module _ {L : Type 0} (look : L → Looks) (login : Login) (plans now : Plans) (n : ℕ) (work : Work) (o : Outcome) (us : List Use) where
  joined_does : (k : Kept) (x : Looks) (t : Slot L) → HasLink t → WorkAt login untold n work (Joined true k x) o us (handle_of look t) → WorkAt login plans n work (Joined true k x) o us (handle_with look (now.dials n) t)
  joined_does k x t has r = subst (WorkAt login plans n work (Joined true k x) o us) (linked_handle look (now.dials n) t has) (on_plans login plans n work k x o us (handle_of look t) r)

  known_did : (s t : Slot L) → IsThere s → HasLink t → Did look login (WorkAt login untold n work) o us s t → DidAt look login plans now now n (WorkAt login plans n work) o us s t
  known_did Gone t is has d = absurd is
  known_did Held t is has d = absurd is
  known_did (ConnectingAt c) t is has d = record { stood = d.stood; awaited = linked_awaited plans now n t has; does = joined_does (kept_some c.tape) (look c.link) t has d.does }
  known_did (There c) t is has d = record { stood = d.stood; awaited = linked_awaited plans now n t has; does = joined_does (kept_of c) (look c.link) t has d.does }
  known_did (Gathering c rows) t is has d = record { stood = d.stood; awaited = linked_awaited plans now n t has; does = joined_does (with_rows rows.items (kept_of c)) (look c.link) t has d.does }
  known_did (Ended tape l) t is has d = absurd is

pub there_did : {L : Type 0} (look : L → Looks) (login : Login) (plans now : Plans) (n : ℕ) (work : Work) (o : Outcome) (us : List Use) (s known t : Slot L) → s ≡ known → IsThere known → is_linked t ≡ true → IsStood login s → (IsStood login known → Did look login (WorkAt login untold n work) o us known t) → DidAt look login plans now now n (WorkAt login plans n work) o us s t
there_did look login plans now n work o us s known t is there linked w f =
    slot_known look login plans now now n work o us s known t is (known_did look login plans now n work o us known t there (has_link t linked) (f (subst (IsStood login) is w)))

-- a held dial is what a poll and a cancelling name; each other work is refused there
abbrev pub IsHeldBack : Work → Type 0
IsHeldBack work = ((call : Call) × (work ≡ works.Begin call)) ⊎ (((aim : Aim) × (work ≡ works.Read aim)) ⊎ ((work ≡ works.Item) ⊎ ((work ≡ works.LetGo) ⊎ ((work ≡ works.Miss) ⊎ (work ≡ works.Fields)))))

-- where a call is open, each work but a poll and a cancelling is refused
open_refuses : (login : Login) (n : ℕ) (work : Work) (a : Asked) (k : Kept) (x : Looks) (o : Outcome) (us : List Use) → IsHeldBack work → k.pending ≡ Some a → IsRefused (Joined true k x) o us (Joined true k x) → WorkAt login untold n work (Joined true k x) o us (Joined true k x)
open_refuses login n work a k x o us is has r = by_work is
  where
    t : Handle
    t = Joined true k x

    known : (z : Work) → work ≡ z → WorkAt login untold n z t o us t → WorkAt login untold n work t o us t
    known z e w = subst (λ (v : Work). WorkAt login untold n v t o us t) (sym e) w

    by_work : IsHeldBack work → WorkAt login untold n work t o us t
    by_work (inl p) = known (works.Begin p.0) p.1 (subst (λ (q : Option Asked). BeginsOn q login n p.0 k x o us t) (sym has) r)
    by_work (inr (inl p)) = known (works.Read p.0) p.1 (subst (λ (q : Option Asked). ReadsOn q p.0 login n k x o us t) (sym has) r)
    by_work (inr (inr (inl e))) = known works.Item e (subst (λ (q : Option Asked). ItemsOn q login n k x o us t) (sym has) r)
    by_work (inr (inr (inr (inl e)))) = known works.LetGo e (subst (λ (q : Option Asked). LetsGoWith q k x o us t) (sym has) r)
    by_work (inr (inr (inr (inr (inl e))))) = known works.Miss e r
    by_work (inr (inr (inr (inr (inr e))))) = known works.Fields e (subst (λ (q : Option Asked). TellsWith q login k x o us t) (sym has) r)

pub connecting_refused : {L : Type 0} (look : L → Looks) (login : Login) (n : ℕ) (work : Work) (c : ConnectSeen L) (o : Outcome) (us : List Use) → IsHeldBack work → o ≡ NoSuchHandle → us ≡ [] → ConnectsBy login c → Did look login (WorkAt login untold n work) o us (ConnectingAt c) (ConnectingAt c)
connecting_refused look login n work c o us is e f w = record {
  stood = w;
  does = open_refuses login n work w.asked (kept_some c.tape) (look c.link) o us is w.shakes.connects.asked.asked (refusal (Joined true (kept_some c.tape) (look c.link)) o us e f);
}

pub gathering_refused : {L : Type 0} (look : L → Looks) (login : Login) (n : ℕ) (work : Work) (c : ConnSeen L) (s : Slot L) (rows : List RowParts) (o : Outcome) (us : List Use) → handle_of look s ≡ Joined true (with_rows rows (kept_of c)) (look c.link) → IsStood login s → IsHeldBack work → o ≡ NoSuchHandle → us ≡ [] → GathersBy login c → Did look login (WorkAt login untold n work) o us s s
gathering_refused look login n work c s rows o us at st is e f w =
    let k : Kept = with_rows rows (kept_of c) in
    let x : Looks = look c.link in
    let some = some_open login c w.stands w.kind w.pending in
    let has : k.pending ≡ Some (asked_with rows some.0) = ap (λ (q : Option Asked). option_map (asked_with rows) q) some.1 in
    record { stood = st; does = subst (λ (h : Handle). WorkAt login untold n work h o us h) (sym at) (open_refuses login n work (asked_with rows some.0) k x o us is has (refusal (Joined true k x) o us e f)) }

pub held_did : {L : Type 0} (look : L → Looks) (login : Login) (plans now : Plans) (n : ℕ) (work : Work) (o : Outcome) (us : List Use) → IsHeldBack work → o ≡ NoSuchHandle → us ≡ [] → IsAwaited {L = L} plans now n Held → DidAt {L = L} look login plans now now n (WorkAt login plans n work) o us Held Held
held_did {L} look login plans now n work o us is e f w = by_work is
  where
    known : (z : Work) → work ≡ z → WorkAt login plans n z (Dialing (now.dials n)) o us (Dialing (now.dials n)) → DidAt {L = L} look login plans now now n (WorkAt login plans n work) o us Held Held
    known z same r = work_at_is {L = L} look login plans now now n work z o us Held Held same (record { stood = tt; awaited = w; does = r })

    by_work : IsHeldBack work → DidAt {L = L} look login plans now now n (WorkAt login plans n work) o us Held Held
    by_work (inl r) = known (works.Begin r.0) r.1 (refusal (Dialing (now.dials n)) o us e f)
    by_work (inr (inl r)) = known (works.Read r.0) r.1 (refusal (Dialing (now.dials n)) o us e f)
    by_work (inr (inr (inl r))) = known works.Item r (refusal (Dialing (now.dials n)) o us e f)
    by_work (inr (inr (inr (inl r)))) = known works.LetGo r (refusal (Dialing (now.dials n)) o us e f)
    by_work (inr (inr (inr (inr (inl r))))) = known works.Miss r (refusal (Dialing (now.dials n)) o us e f)
    by_work (inr (inr (inr (inr (inr r))))) = known works.Fields r (refusal (Dialing (now.dials n)) o us e f)

-- the held dial is dropped
pub dropped_did : {L : Type 0} (look : L → Looks) (login : Login) (plans now : Plans) (n : ℕ) (o : Outcome) (us : List Use) → o ≡ Done → us ≡ [] → DidAt {L = L} look login plans now now n (Cancels login) o us Held Gone
dropped_did look login plans now n o us e f = record { stood = tt; awaited = tt; does = record { outcome = e; uses = f; left = refl } }

pub in_held : {L : Type 0} (look : L → Looks) (login : Login) (plans before later : Plans) (n : ℕ) (work : Work) (o : Outcome) (us : List Use) (s t : Slot L) → s ≡ Held → DidAt look login plans before later n (WorkAt login plans n work) o us Held t → DidAt look login plans before later n (WorkAt login plans n work) o us s t
in_held look login plans before later n work o us s t e w = slot_known look login plans before later n work o us s Held t e w

-- a number that no step took
pub work_past : {L : Type 0} (look : L → Looks) (login : Login) (plans now : Plans) (n : ℕ) (work : Work) (o : Outcome) (us : List Use) (ss : List (Slot L)) → o ≡ NoSuchHandle → us ≡ [] → length ss < suc n → AreAwaited plans now 0 ss → AreStood login ss → Stepped login ss ss (AreAwaited plans now 0 ss × At n (WorkAt login plans n work) (handles_in look now ss) o us (handles_in look now ss))
work_past look login plans now n work o us ss e f past awaited st = stepped_past look login plans now n (WorkAt login plans n work) o us ss (omega (arith, past)) (absent_refuses login plans n work o us (refusal Absent o us e f)) awaited st

pub work_put : {L : Type 0} (look : L → Looks) (login : Login) (plans before later : Plans) (n : ℕ) (work : Work) (o : Outcome) (us : List Use) (ss ts : List (Slot L)) (old new : Slot L) → n < length ss → old ≡ get_or ss n old → ts ≡ slice_set (slice_set ss n Gone) n new → SameBut n before later → DidAt look login plans before later n (WorkAt login plans n work) o us old new → AreAwaited plans before 0 ss → AreStood login ss → Stepped login ss ts (AreAwaited plans later 0 ts × At n (WorkAt login plans n work) (handles_in look before ss) o us (handles_in look later ts))
work_put {L} look login plans before later n work o us ss ts old new h e is same w awaited st = subst (λ (xs : List (Slot L)). Stepped login ss xs (AreAwaited plans later 0 xs × At n (WorkAt login plans n work) (handles_in look before ss) o us (handles_in look later xs))) (sym (is ∙ set_twice n ss Gone new)) (stepped_at look login plans before later n (WorkAt login plans n work) o us ss old new h e same w awaited st)
