-- How what is open at a number is polled.
use Rattle.std.proofs.Common.{ℕ, ◌≡◌, List, [], Option, Some, None, option_map, Bool, true, false, refl, sym, ap, ◌∙◌, subst}
use Rattle.my_value.specs.RowParts.{RowParts}
use Rattle.my_grammar.specs.declared.login.Login.{Login}
use Rattle.my_link.specs.Looks.{Looks}
use Rattle.my_link.specs.World.{Plans, SameLink}
use Rattle.my_reading.specs.Calls.{kind_of, is_connect}
use Rattle.my_reading.specs.declared.call.CallKind.{CallKind}
use Rattle.my_script.specs.Streams.{is_skip}
use Rattle.my_script.specs.declared.aim.Aim.{Aim}
use Rattle.my_script.specs.declared.transcript.Outcome.{Outcome}
use Rattle.my_script.specs.declared.transcript.Outcome.TheVariants.{NoSuchHandle}
use Rattle.my_script.specs.declared.transcript.Use.{Use}
use Rattle.my_client.specs.Calls.{PollsOn as CallPolls}
use Rattle.my_client.specs.Kept.{Asked, Kept, made_of}
use Rattle.my_client.specs.Made.{has_closed}
use Rattle.my_client.specs.Stands.{Waits, WaitsIn}
use Rattle.my_client.specs.Polls.{IsPolled}
use Rattle.my_client.proofs.Resting.{waits_open}
use Rattle.my_conn.specs.Conn.{ConnSeen}
use Rattle.my_conn.specs.Connects.{ConnectSeen}
use Rattle.my_steps.specs.declared.outcome.StepResult.{StepResult}
use Rattle.my_steps.specs.declared.slot.Slot.{Slot}
use Rattle.my_steps.specs.declared.slot.Slot.TheVariants.{Held, Connecting, There}
use Rattle.my_steps.specs.Connecting.{EachJoins, Dialed}
use Rattle.my_steps.specs.Did.{Did, DidAt, untold}
use Rattle.my_steps.specs.Gathering.{GatherDid}
use Rattle.my_steps.specs.Grows.{Follows, GoesOn, GoesOnWith, PolledOnce, PollsOn, PollsCall, Skips}
use Rattle.my_steps.specs.Handle.{Handle, Joined}
use Rattle.my_steps.specs.Keeps.{ConnectsBy, GathersBy, StandsBy}
use Rattle.my_steps.specs.Polled.{ConnShown}
use Rattle.my_steps.specs.Slot.{asked_with, handle_of, kept_of, kept_some, with_rows}
use Rattle.my_steps.specs.Streaming.{EachFollows}
use Rattle.my_steps.proofs.Working.Awaiting.{awaited_on}
use Rattle.my_steps.proofs.Working.Beginning.{polled_once}
use Rattle.my_steps.proofs.Working.Cancelling.{same_did}
use Rattle.my_steps.proofs.Working.Polling.{asked_same, none_open, plain_open, polls_open, some_open}

-- nothing is open there
pub not_resumed : {L : Type 0} (look : L → Looks) (login : Login) (aim : Aim) (n : ℕ) (c : ConnSeen L) (o : Outcome) (us : List Use) → c.pending ≡ None → o ≡ NoSuchHandle → us ≡ [] → StandsBy login c → Did look login (GoesOn login untold aim n) o us (There c) (There c)
not_resumed look login aim n c o us idle e f w = same_did look login (GoesOn login untold aim n) o us (There c) w
    (subst (λ (p : Option Asked). GoesOnWith p aim login n (kept_of c) (look c.link) o us (Joined true (kept_of c) (look c.link))) (sym (none_open login c w idle)) (record { outcome = e; uses = f; same = refl }))

-- the handshake is polled
pub connect_resumed : {L : Type 0} (look : L → Looks) (login : Login) (aim : Aim) (n : ℕ) (c : ConnectSeen L) (slot : Slot L) (d : StepResult) → EachJoins look n [] c slot d → ConnectsBy login c → Did look login (GoesOn login untold aim n) d.outcome d.uses.items (Connecting c) slot
connect_resumed look login aim n c slot d each w =
    let k : Kept = kept_some c.tape in
    let a : Asked = w.asked in
    let r = each login a w.shakes in
    record {
      stood = r.2.stood;
      does = subst (λ (p : Option Asked). GoesOnWith p aim login n k (look c.link) d.outcome d.uses.items (handle_of look slot)) (sym w.shakes.connects.asked.asked)
          (subst (λ (b : Bool). PollsOn b a.rows aim login n a k (look c.link) d.outcome d.uses.items (handle_of look slot)) (sym (ap is_connect w.shakes.connects.connects)) (r.0, r.1, r.2.does));
    }

-- the open call of a connection is polled
module _ {L : Type 0} (look : L → Looks) (login : Login) (aim : Aim) (n : ℕ) (c : ConnSeen L) (kind : CallKind) (op : c.pending ≡ Some kind) (w : StandsBy login c) where
  abbrev k : Kept
  k = kept_of c

  abbrev x : Looks
  x = look c.link

  abbrev here : Asked
  here = (some_open login c w kind op).0

  was : k.pending ≡ Some here
  was = (some_open login c w kind op).1

  kind_is : kind_of here.call ≡ kind
  kind_is = (some_open login c w kind op).2

  once : (d : ConnSeen L) (o : Outcome) (us : List Use) → ConnShown look login n None c d o us → PolledOnce login n here k x o us (Joined true (kept_of d) (look d.link))
  once d o us v =
      let on : CallPolls login None x (look d.link) k (kept_of d) v.used.met v.after = polls_open login x (look d.link) k (kept_of d) v.used.met v.after v.polled.does in
      let polled : IsPolled login here k x v.used.met v.after (kept_of d) (look d.link) = subst (λ (a : Asked). IsPolled login a k x v.used.met v.after (kept_of d) (look d.link)) (asked_same k.pending on.asked here on.pending was) on.polled in
      polled_once login n here k (kept_of d) x (look d.link) v.used v.after o us polled v.number v.uses v.outcome

  -- by whether it passes over the rest of a set
  goes : (b : Bool) → is_skip kind ≡ b → (o : Outcome) (us : List Use) (t : Handle) → PollsCall b aim login n here k x o us t → GoesOn login untold aim n (Joined true k x) o us t
  goes b e o us t r =
      let plain = plain_open login c w here was in
      subst (λ (p : Option Asked). GoesOnWith p aim login n k x o us t) (sym was)
      (subst (λ (z : Bool). PollsOn z here.rows aim login n here k x o us t) (sym plain.1)
      (subst (λ (q : Option (List RowParts)). PollsOn false q aim login n here k x o us t) (sym plain.0)
      (subst (λ (z : Bool). PollsCall z aim login n here k x o us t) (sym (ap is_skip kind_is ∙ e)) r)))

  pub call_resumed : is_skip kind ≡ false → (d : ConnSeen L) (o : Outcome) (us : List Use) → ConnShown look login n None c d o us → Did look login (GoesOn login untold aim n) o us (There c) (There d)
  call_resumed e d o us v = record { stood = v.polled.stood; does = goes false e o us (Joined true (kept_of d) (look d.link)) (once d o us v) }

  -- a passing over goes on, and then the step reads on
  pub skip_resumed : is_skip kind ≡ true → (m : ConnSeen L) (slot : Slot L) (first whole : StepResult) → ConnShown look login n None c m first.outcome first.uses.items → EachFollows look n aim m slot first whole → Did look login (GoesOn login untold aim n) whole.outcome whole.uses.items (There c) slot
  skip_resumed e m slot first whole v later =
      let next = later login v.polled.stood in
      let r : Skips (PolledOnce login n here k x) (Follows aim login n) whole.outcome whole.uses.items (handle_of look slot) = record {
        first = first.outcome;
        used = first.uses.items;
        mid = Joined true (kept_of m) (look m.link);
        skips = once m first.outcome first.uses.items v;
        later = next.later;
        uses = next.uses;
        follows = next.follows;
      } in
      record { stood = next.stood; does = goes true e whole.outcome whole.uses.items (handle_of look slot) r }

-- a held dial is tried again
pub dial_resumed : {L : Type 0} (look : L → Looks) (login : Login) (aim : Aim) (n : ℕ) (plans before later : Plans) (slot : Slot L) (o : Outcome) (us : List Use) → SameLink plans before n → Dialed look login n before later slot o us → DidAt look login plans before later n (GoesOn login plans aim n) o us Held slot
dial_resumed look login aim n plans before later slot o us same w = record {
  stood = w.stood;
  awaited = awaited_on plans before later n slot same w.awaited;
  does = w.does plans same;
}

-- a gathering goes on
pub gathering_resumed : {L : Type 0} (look : L → Looks) (login : Login) (aim : Aim) (n : ℕ) (c : ConnSeen L) (kind : CallKind) (s slot : Slot L) (rows : List RowParts) (o : Outcome) (us : List Use) → handle_of look s ≡ Joined true (with_rows rows (kept_of c)) (look c.link) → c.pending ≡ Some kind → (StandsBy login c → has_closed (made_of (kept_of c).calls) ≡ false → GatherDid look login n (Some kind) c rows slot o us) → GathersBy login c → Did look login (GoesOn login untold aim n) o us s slot
gathering_resumed look login aim n c kind s slot rows o us is op did w =
    let k : Kept = kept_of c in
    let x : Looks = look c.link in
    let t : Handle = handle_of look slot in
    let some = some_open login c w.stands kind op in
    let a : Asked = some.0 in
    let waits : Waits login c.seen k a = subst (WaitsIn login c.seen k) some.1 w.stands.stands.rests.waits in
    let g = did w.stands (waits_open login c.seen k a waits) in
    let goes : GoesOn login untold aim n (Joined true (with_rows rows k) x) o us t =
    subst (λ (p : Option Asked). GoesOnWith p aim login n (with_rows rows k) x o us t) (sym (ap (λ (q : Option Asked). option_map (asked_with rows) q) some.1))
    (subst (λ (b : Bool). PollsOn b (Some rows) aim login n (asked_with rows a) (with_rows rows k) x o us t) (sym (plain_open login c w.stands a some.1).1) (g.gathers a some.1)) in
    record { stood = g.stood; does = subst (λ (h : Handle). GoesOn login untold aim n h o us t) (sym is) goes }
