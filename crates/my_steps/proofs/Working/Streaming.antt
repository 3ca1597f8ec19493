-- How a connection reads on, and how a stream reads its set and is let go.
use Rattle.std.proofs.Common.{ℕ, ◌≡◌, List, [], ◌++◌, Bool, true, false, not, ◌&&◌, ◌||◌, Option, Some, None, refl, sym, ap, ◌∙◌, subst}
use Rattle.std.proofs.lemmas.List.{append-nil}
use Rattle.my_grammar.specs.declared.login.Login.{Login}
use Rattle.my_link.specs.Looks.{Looks}
use Rattle.my_machine.specs.declared.stand.Stand.{Stand}
use Rattle.my_reading.specs.declared.call.Call.TheVariants.{NextRow, SkipTaken}
use Rattle.my_reading.specs.declared.call.CallKind.{CallKind}
use Rattle.my_reading.specs.Place.{is_rows, is_taken}
use Rattle.my_script.specs.declared.aim.Aim.{Aim}
use Rattle.my_script.specs.declared.transcript.Outcome.{Outcome}
use Rattle.my_script.specs.declared.transcript.Outcome.TheVariants.{Done, NoSet, NoSuchHandle}
use Rattle.my_script.specs.declared.transcript.Use.{Use}
use Rattle.my_client.specs.Kept.{Asked, Kept}
use Rattle.my_client.specs.Reads.{place_kept}
use Rattle.my_client.proofs.Resting.{rests_at}
use Rattle.my_conn.specs.Conn.{ConnSeen}
use Rattle.my_session.specs.Sessions.{is_taken as session_taken}
use Rattle.my_steps.specs.declared.outcome.StepResult.{StepResult}
use Rattle.my_steps.specs.declared.slot.Slot.{Slot}
use Rattle.my_steps.specs.declared.slot.Slot.TheVariants.{There}
use Rattle.my_steps.specs.Did.{Did}
use Rattle.my_steps.specs.Grows.{Calls, Follows, Then, is_done, Items, ItemsAt, ItemsOn, LetsGo, LetsGoWith, Misses, Reads, ReadsAt, ReadsOn, has_taken}
use Rattle.my_steps.specs.Handle.{Handle, Joined}
use Rattle.my_steps.specs.Keeps.{StandsBy}
use Rattle.my_steps.specs.Slot.{handle_of, kept_of}
use Rattle.my_steps.specs.Streaming.{ConnSkips, EachFollows, FollowsAfter}
use Rattle.my_steps.proofs.Working.Cancelling.{same_did}
use Rattle.my_steps.proofs.Working.Polling.{closed_so, none_open, some_open}

-- whether a stream took the set that is read, or whose end is left, as the connection has it
pub taken_so : {L : Type 0} (login : Login) (c : ConnSeen L) (r b : Bool) → c.pending ≡ None → r ≡ not (c.lost || c.seen.closed) && session_taken c.seen → r ≡ b → StandsBy login c → has_taken login (kept_of c) ≡ b
taken_so login c r b idle e f w =
    let k : Kept = kept_of c in
    let none : k.pending ≡ None = none_open login c w idle in
    ap (λ (closed : Bool). not closed && is_taken (place_kept login k)) (closed_so login c w)
    ∙ ap (λ (s : Stand). not (c.lost || c.seen.closed) && (s.taken && (s.end_left || is_rows s.context.spot))) (sym (rests_at login c.seen k w.stands.rests.stands none).stand_is)
    ∙ sym e ∙ f

module _ {L : Type 0} (look : L → Looks) (n : ℕ) (login : Login) where
  -- what came after the first part
  pub nothing_after : (aim : Aim) (c : ConnSeen L) (first : StepResult) → is_done first.outcome ≡ false → StandsBy login c → FollowsAfter look login n aim c (There c) first first
  nothing_after aim c first none w = record {
    stood = w;
    later = [];
    uses = sym (append-nil first.uses.items);
    follows = subst (λ (b : Bool). Then b (Follows aim login n) first.outcome (Joined true (kept_of c) (look c.link)) first.outcome [] (Joined true (kept_of c) (look c.link))) (sym none) (refl, refl, refl);
  }

  pub read_after : (aim : Aim) (c : ConnSeen L) (slot : Slot L) (first read whole : StepResult) → is_done first.outcome ≡ true → whole.outcome ≡ read.outcome → whole.uses.items ≡ first.uses.items ++ read.uses.items
      → Did look login (Follows aim login n) read.outcome read.uses.items (There c) slot → FollowsAfter look login n aim c slot first whole
  read_after aim c slot first read whole done outcome uses r = record {
    stood = r.stood;
    later = read.uses.items;
    uses = uses;
    follows = subst (λ (b : Bool). Then b (Follows aim login n) first.outcome (Joined true (kept_of c) (look c.link)) whole.outcome read.uses.items (handle_of look slot)) (sym done)
        (subst (λ (o : Outcome). Follows aim login n (Joined true (kept_of c) (look c.link)) o read.uses.items (handle_of look slot)) (sym outcome) r.does);
  }

  -- the rest of an earlier set was passed over
  pub skipped_so : (aim : Aim) (c m : ConnSeen L) (slot : Slot L) (first whole : StepResult) → Did look login (Calls login n SkipTaken) first.outcome first.uses.items (There c) (There m) → EachFollows look n aim m slot first whole → ConnSkips look login n aim c slot whole.outcome whole.uses.items
  skipped_so aim c m slot first whole r later =
      let after = later login r.stood in
      record {
        stood = after.stood;
        does = record {
          first = first.outcome;
          used = first.uses.items;
          mid = Joined true (kept_of m) (look m.link);
          skips = r.does;
          later = after.later;
          uses = after.uses;
          follows = after.follows;
        };
      }

  -- the step finds an open call
  pub read_refused : (aim : Aim) (c : ConnSeen L) (kind : CallKind) (o : Outcome) (us : List Use) → c.pending ≡ Some kind → o ≡ NoSuchHandle → us ≡ [] → StandsBy login c → Did look login (ReadsAt aim login n) o us (There c) (There c)
  read_refused aim c kind o us op e f w = same_did look login (ReadsAt aim login n) o us (There c) w
      (subst (λ (p : Option Asked). ReadsOn p aim login n (kept_of c) (look c.link) o us (Joined true (kept_of c) (look c.link))) (sym (some_open login c w kind op).1) (record { outcome = e; uses = f; same = refl }))

  -- it reads on, by whether the rest of an earlier set is passed over first
  reads : (aim : Aim) (c : ConnSeen L) (b : Bool) (o : Outcome) (us : List Use) (t : Handle) → c.pending ≡ None → StandsBy login c → has_taken login (kept_of c) ≡ b
      → Reads b aim login n (Joined true (kept_of c) (look c.link)) o us t → ReadsAt aim login n (Joined true (kept_of c) (look c.link)) o us t
  reads aim c b o us t idle w known r =
      subst (λ (p : Option Asked). ReadsOn p aim login n (kept_of c) (look c.link) o us t) (sym (none_open login c w idle))
      (subst (λ (z : Bool). Reads z aim login n (Joined true (kept_of c) (look c.link)) o us t) (sym known) r)

  pub read_at_once : (aim : Aim) (c : ConnSeen L) (slot : Slot L) (o : Outcome) (us : List Use) → c.pending ≡ None → StandsBy login c → has_taken login (kept_of c) ≡ false
      → Did look login (Follows aim login n) o us (There c) slot → Did look login (ReadsAt aim login n) o us (There c) slot
  read_at_once aim c slot o us idle w known r = record { stood = r.stood; does = reads aim c false o us (handle_of look slot) idle w known r.does }

  pub read_then : (aim : Aim) (c : ConnSeen L) (slot : Slot L) (o : Outcome) (us : List Use) → c.pending ≡ None → StandsBy login c → has_taken login (kept_of c) ≡ true
      → ConnSkips look login n aim c slot o us → Did look login (ReadsAt aim login n) o us (There c) slot
  read_then aim c slot o us idle w known r = record { stood = r.stood; does = reads aim c true o us (handle_of look slot) idle w known r.does }

  -- an item is read, by whether the set is the stream's still
  pub item_refused : (c : ConnSeen L) (kind : CallKind) (o : Outcome) (us : List Use) → c.pending ≡ Some kind → o ≡ NoSuchHandle → us ≡ [] → StandsBy login c → Did look login (ItemsAt login n) o us (There c) (There c)
  item_refused c kind o us op e f w = same_did look login (ItemsAt login n) o us (There c) w
      (subst (λ (p : Option Asked). ItemsOn p login n (kept_of c) (look c.link) o us (Joined true (kept_of c) (look c.link))) (sym (some_open login c w kind op).1) (record { outcome = e; uses = f; same = refl }))

  items : (c : ConnSeen L) (b : Bool) (o : Outcome) (us : List Use) (t : Handle) → c.pending ≡ None → StandsBy login c → has_taken login (kept_of c) ≡ b
      → Items b login n (kept_of c) (look c.link) o us t → ItemsAt login n (Joined true (kept_of c) (look c.link)) o us t
  items c b o us t idle w known r =
      subst (λ (p : Option Asked). ItemsOn p login n (kept_of c) (look c.link) o us t) (sym (none_open login c w idle))
      (subst (λ (z : Bool). Items z login n (kept_of c) (look c.link) o us t) (sym known) r)

  pub item_read : (c d : ConnSeen L) (o : Outcome) (us : List Use) → c.pending ≡ None → StandsBy login c → has_taken login (kept_of c) ≡ true
      → Did look login (Calls login n NextRow) o us (There c) (There d) → Did look login (ItemsAt login n) o us (There c) (There d)
  item_read c d o us idle w known r = record { stood = r.stood; does = items c true o us (Joined true (kept_of d) (look d.link)) idle w known r.does }

  pub no_item : (c : ConnSeen L) (o : Outcome) (us : List Use) → c.pending ≡ None → o ≡ NoSet → us ≡ [] → has_taken login (kept_of c) ≡ false → StandsBy login c → Did look login (ItemsAt login n) o us (There c) (There c)
  no_item c o us idle e f known w = record { stood = w; does = items c false o us (Joined true (kept_of c) (look c.link)) idle w known (record { outcome = e; uses = f; left = refl }) }

  -- a stream is let go
  pub let_go_refused : (c : ConnSeen L) (kind : CallKind) (o : Outcome) (us : List Use) → c.pending ≡ Some kind → o ≡ NoSuchHandle → us ≡ [] → StandsBy login c → Did look login LetsGo o us (There c) (There c)
  let_go_refused c kind o us op e f w = same_did look login LetsGo o us (There c) w
      (subst (λ (p : Option Asked). LetsGoWith p (kept_of c) (look c.link) o us (Joined true (kept_of c) (look c.link))) (sym (some_open login c w kind op).1) (record { outcome = e; uses = f; same = refl }))

  pub let_go_did : (c : ConnSeen L) (o : Outcome) (us : List Use) → c.pending ≡ None → o ≡ Done → us ≡ [] → StandsBy login c → Did look login LetsGo o us (There c) (There c)
  let_go_did c o us idle e f w = same_did look login LetsGo o us (There c) w
      (subst (λ (p : Option Asked). LetsGoWith p (kept_of c) (look c.link) o us (Joined true (kept_of c) (look c.link))) (sym (none_open login c w idle)) (record { outcome = e; uses = f; left = refl }))

-- no stream is there
pub missed : {L : Type 0} (look : L → Looks) (login : Login) (c : ConnSeen L) (o : Outcome) (us : List Use) → o ≡ NoSuchHandle → us ≡ [] → StandsBy login c → Did look login Misses o us (There c) (There c)
missed look login c o us e f w = same_did look login Misses o us (There c) w (record { outcome = e; uses = f; same = refl })
