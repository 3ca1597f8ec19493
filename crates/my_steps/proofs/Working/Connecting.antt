-- How a connection is dialed and connects.
use Rattle.std.proofs.Common.{ℕ, ◌≡◌, inl, inr, ◌+◌, List, [], ◌∷◌, ◌++◌, length, Option, Some, None, is_some, true, false, refl, sym, ap, ◌∙◌, subst, arith}
use Rattle.std.proofs.lemmas.List.{length-append}
use Rattle.my_handshake.specs.Version.{version_of}
use Rattle.my_grammar.specs.declared.login.Login.{Login}
use Rattle.my_link.specs.Aid.{no_texts}
use Rattle.my_link.specs.Looks.{Looks}
use Rattle.my_link.specs.Met.{nothing_met}
use Rattle.my_link.specs.Outside.{no_counts}
use Rattle.my_link.specs.World.{Plans, SameAt, SameBut, SameLink, HeldBy, FailedBy, GivenBy, IsFresh, DialCounts}
use Rattle.my_link.specs.declared.aid.AfterStep.TheVariants as steps
use Rattle.my_link.specs.declared.link.ReadItem.{ReadItem}
use Rattle.my_link.specs.declared.link.WriteItem.{WriteItem}
use Rattle.my_link.specs.declared.met.Met.{Met}
use Rattle.my_reading.specs.Errors.{io_error}
use Rattle.my_reading.specs.declared.answer.Answer.TheVariants.{Ready}
use Rattle.my_reading.specs.declared.call.CallKind.{CallKind}
use Rattle.my_reading.specs.declared.error.Error.{Error}
use Rattle.my_reading.specs.declared.error.IoKind.TheVariants.{Dial}
use Rattle.my_reading.specs.declared.facts.Facts.{Facts}
use Rattle.my_client.specs.declared.poll.After.{After}
use Rattle.my_client.specs.declared.poll.After.TheVariants as after
use Rattle.my_client.specs.declared.tape.Tape.{Tape}
use Rattle.my_client.specs.declared.texts.Making.{Making}
use Rattle.my_client.specs.declared.texts.Making.TheVariants.{Shakes}
use Rattle.my_client.specs.Calls.{Does, PollsOn}
use Rattle.my_client.specs.Conn.{kept_in}
use Rattle.my_client.specs.Kept.{Asked, Kept, first_asked, first_kept}
use Rattle.my_client.specs.Makes.{ConnectsFor, IsMade, Leads, MakesFor, Passes, Point, Polls, StaysMaking, WhyNotMade, all_met, first_point}
use Rattle.my_client.specs.Notes.{Agrees}
use Rattle.my_client.specs.Polls.{IsPolled}
use Rattle.my_client.specs.Reads.{IsRead, place_kept}
use Rattle.my_client.specs.Stands.{Rests}
use Rattle.my_client.specs.StandsFor.{StandsFor}
use Rattle.my_client.specs.Texts.{EndsRefused, Follows}
use Rattle.my_client.proofs.Points.{does_take}
use Rattle.my_client.proofs.Resting.{at_facts, rests_at}
use Rattle.my_client.proofs.Standing.{no_asked}
use Rattle.my_conn.specs.Conn.{ConnSeen, session_of}
use Rattle.my_conn.specs.Connected.{ConnectIs, MakesIt, Stays}
use Rattle.my_conn.specs.Connects.{ConnectFails, ConnectSeen, session_in}
use Rattle.my_conn.specs.declared.connecting.Connected.{Connected as Connection}
use Rattle.my_conn.specs.declared.connecting.Connected.TheVariants as connected
use Rattle.my_conn.specs.declared.unmade.Unmade.{Unmade}
use Rattle.my_script.specs.declared.transcript.Outcome.{Outcome}
use Rattle.my_script.specs.declared.transcript.Outcome.TheVariants.{Connected, Pending, Failed}
use Rattle.my_script.specs.declared.transcript.Use.{Use}
use Rattle.my_steps.specs.declared.outcome.StepResult.{StepResult}
use Rattle.my_steps.specs.declared.slot.Slot.{Slot}
use Rattle.my_steps.specs.declared.slot.Slot.TheVariants.{Gone, Held, Connecting, There, Ended}
use Rattle.my_steps.specs.Connecting.{Dialed, EachJoins, EachShakes, Joins, JoinsFirst, Settles, greeted_by}
use Rattle.my_steps.specs.Dialing.{DialsTo, dial_met}
use Rattle.my_steps.specs.Did.{Stepped}
use Rattle.my_steps.specs.Grows.{ConnectShows, Connects, HasPlan, IsGreeted, IsNew, Dials, Holds, Fails, Links, DialsNext}
use Rattle.my_steps.specs.Handle.{Joined}
use Rattle.my_steps.specs.Keeps.{ConnectsBy, IsPlain, IsStood, AreStood, AreAwaited, ShakesBy, StandsBy}
use Rattle.my_steps.specs.Slot.{HasLink, handle_with, handle_of, handles_in, kept_of, kept_some}
use Rattle.my_steps.specs.Sums.{use_of, quiet, held_use, failed_use}
use Rattle.my_steps.proofs.Working.Awaiting.{link_trans, link_at, awaited_on, linked_awaited, linked_handle, awaited_end, awaited_push, handles_length, handles_push}
use Rattle.my_steps.proofs.Working.Polling.{asked_same, polls_open, tape_has}

-- nothing follows the login
no_query : (login : Login) (m q : Point) → m.at ≡ Shakes → Passes no_texts login m q → ⊥
no_query login m q at w = no_text (subst (λ (x : Making). Follows no_texts x q.at w.call) at w.follows)
  where
    no_text : Follows no_texts Shakes q.at w.call → ⊥
    no_text f = let no : steps.Query f.0 ≡ steps.Done = f.1 in cc

first_alone : (login : Login) (x : Looks) (k : Kept) (ms : List Point) (q : Point) → Leads no_texts login (first_point Shakes x k) ms q → q ≡ first_point Shakes x k
first_alone login x k [] q w = w
first_alone login x k (m ∷ ms) q w = absurd (no_query login m q (ap (λ (p : Point). p.at) (first_alone login x k ms m w.0)) w.1)

-- so a poll of the making is one of the handshake
module _ (login : Login) (a : Asked) (x y : Looks) (k end : Kept) (m : Met) (p : After) (asked : k.pending ≡ Some a) (c : Polls no_texts login Shakes x y k end m p) where
  alone : c.last ≡ first_point Shakes x k
  alone = first_alone login x k c.earlier c.last c.leads

  does : Does login None x y k end c.met p
  does = subst (λ (q : Point). Does login q.call q.looks y q.kept end c.met p) alone c.does

  met_so : m ≡ c.met
  met_so =
      let all : length end.taken ≡ length k.taken + m.taken = c.took in
      let own : length end.taken ≡ length k.taken + c.met.taken = does_take login None x y k end c.met p does in
      let same : m.taken ≡ c.met.taken = omega (arith, all, own) in
      c.met_is ∙ ap (all_met c.met) same

  pub at_first : c.last.at ≡ Shakes
  at_first = ap (λ (q : Point). q.at) alone

  pub handshake : IsPolled login a k x m p end y
  handshake =
      let on : PollsOn login None x y k end c.met p = polls_open login x y k end c.met p does in
      let same : on.asked ≡ a = asked_same k.pending on.asked a on.pending asked in
      subst (λ (u : Met). IsPolled login a k x u p end y) (sym met_so) (subst (λ (b : Asked). IsPolled login b k x c.met p end y) same on.polled)

-- the handshake was polled
module _ {L : Type 0} (look : L → Looks) (login : Login) (n now : ℕ) (c : ConnectSeen L) (a : Asked) (m : Met) (w : ShakesBy login c a) where
  abbrev k : Kept
  k = kept_some c.tape

  abbrev x : Looks
  x = look c.link

  asked : k.pending ≡ Some a
  asked = w.connects.asked.asked

  makes : MakesFor login Shakes None c.seen c.tape k
  makes = (refl, a, w.connects)

  joins_so : (slot : Slot L) (end : Kept) (y : Looks) (o : Outcome) (p : After) → IsStood login slot → HasLink slot → Polls no_texts login Shakes x y k end m p → ConnectShows login n p end y o (handle_of look slot) → Joins look login n a k x slot o (use_of n m)
  joins_so slot end y o p stood has polls shows = record {
    stood = stood;
    linked = has;
    number = refl;
    does = record { number = refl; after = p; end = end; link = y; polled = handshake login a x y k end m p asked polls; shows = shows };
  }

  -- it isn't made yet
  still_joins : (d : ConnectSeen L) (o : Outcome) → o ≡ Pending → Stays look no_texts now c d m → Joins look login n a k x (Connecting d) o (use_of n m)
  still_joins d o e is =
      let y : Looks = look d.link in
      let stays : StaysMaking no_texts now Shakes d.at x y (session_in c) (session_in d) c.tape d.tape m = subst (λ (at : Making). StaysMaking no_texts now at d.at x y (session_in c) (session_in d) c.tape d.tape m) w.at is.stays in
      let f = stays.each login k makes in
      let end : Kept = f.0 in
      let at : d.at ≡ Shakes = sym f.3 ∙ at_first login a x y k end m after.Pending asked f.2 in
      let shakes : MakesFor login Shakes None d.seen d.tape end = subst (λ (z : Making). MakesFor login z None d.seen d.tape end) at f.1 in
      let taped : is_some d.tape ≡ true = is.keeps ∙ w.taped in
      let same : end ≡ kept_some d.tape = tape_has d.tape end taped shakes.2.agrees in
      let stood : ConnectsBy login d = record {
        asked = shakes.1;
        shakes = record { at = at; taped = taped; connects = subst (λ (q : Kept). ConnectsFor login d.seen d.tape q shakes.1) same shakes.2 };
        rests = subst (Rests login d.seen) same f.4;
      } in
      joins_so (Connecting d) end y o after.Pending stood tt f.2 (e, ap (λ (q : Kept). Joined true q y) (sym same))

  -- it is made
  made_joins : (d : ConnSeen L) (o : Outcome) → o ≡ greeted_by n d.seen → MakesIt look no_texts now c d m → Joins look login n a k x (There d) o (use_of n m)
  made_joins d o e is =
      let y : Looks = look d.link in
      let p : After = after.Answered Ready in
      let made : IsMade no_texts now Shakes x y (session_in c) (session_of d) c.tape d.tape m = subst (λ (at : Making). IsMade no_texts now at x y (session_in c) (session_of d) c.tape d.tape m) w.at is.made in
      let f = made.each login k makes in
      let end : Kept = f.0 in
      let taped : is_some d.tape ≡ true = is.keeps ∙ w.taped in
      let same : end ≡ kept_of d = tape_has d.tape end taped f.1.agrees in
      let stands : StandsFor login d.seen d.tape None (kept_of d) = subst (StandsFor login d.seen d.tape None) same f.1 in
      let none : (kept_of d).pending ≡ None = no_asked (kept_of d).pending stands.pending_is in
      let stood : StandsBy login d = record {
        alive = is.lost;
        taped = taped;
        stands = subst (λ (q : Option CallKind). StandsFor login d.seen d.tape q (kept_of d)) (sym is.pending) stands;
        plain = subst IsPlain (sym none) tt;
      } in
      let facts = sym (at_facts login (place_kept login (kept_of d)) d.seen.stand (rests_at login d.seen (kept_of d) stands.rests.stands none)) in
      let greeted : IsGreeted login n (kept_of d) o = e ∙ ap (λ (g : Facts). Connected n g.connection (version_of g.version)) facts in
      let shows : ConnectShows login n p end y o (Joined true (kept_of d) y) = subst (λ (q : Kept). ConnectShows login n p q y o (Joined true (kept_of d) y)) (sym same) (greeted, refl) in
      joins_so (There d) end y o p stood tt f.2 shows

  -- it failed: no aid refuses the connection
  not_refused : (at : Making) (e : Error) → EndsRefused no_texts at e → ⊥
  not_refused at e g = let no : steps.Refuse g.2.0 ≡ steps.Done = g.2.1 in cc

  no_tape : (t : Tape) → None ≡ Some t → ⊥
  no_tape t e = cc

  failed_joins : (u : Unmade L) (t : Tape) (o : Outcome) → u.tape ≡ Some t → o ≡ Failed u.error → WhyNotMade no_texts Shakes x (look u.link) c.seen c.tape u.tape m u.error → Joins look login n a k x (Ended t u.link) o (use_of n m)
  failed_joins u t o some e (inr r) = let f = r.each login k makes in absurd (not_refused f.2.last.at u.error f.3)
  failed_joins u t o some e (inl fails) =
      let f = fails login k makes in
      let same : kept_in t ≡ f.0 = subst (λ (q : Option Tape). Agrees q f.0) some f.1 in
      joins_so (Ended t u.link) f.0 (look u.link) o (after.Failed u.error) (subst (IsRead login) (sym same) f.3) tt f.2 (e, ap (λ (q : Kept). Joined false q (look u.link)) same)

  unmade_joins : (u : Unmade L) (t : Tape) (o : Outcome) → u.tape ≡ Some t → o ≡ Failed u.error → ConnectFails look no_texts c m u → Joins look login n a k x (Ended t u.link) o (use_of n m)
  unmade_joins u t o some e (inl out) = absurd (no_tape t (sym out.tape ∙ some))
  unmade_joins u t o some e (inr left) = failed_joins u t o some e (subst (λ (at : Making). WhyNotMade no_texts at x (look u.link) c.seen c.tape u.tape m u.error) w.at left.why)

  -- by what the poll returned
  settles_joins : (r : Connection L) (slot : Slot L) (o : Outcome) → ConnectIs look no_texts now c m r → Settles n r slot o → Joins look login n a k x slot o (use_of n m)
  settles_joins (connected.Pending d) slot o is s = subst (λ (z : Slot L). Joins look login n a k x z o (use_of n m)) (sym s.0) (still_joins d o s.1 is)
  settles_joins (connected.Made d) slot o is s = subst (λ (z : Slot L). Joins look login n a k x z o (use_of n m)) (sym s.0) (made_joins d o s.1 is)
  settles_joins (connected.Failed u) slot o is s = subst (λ (z : Slot L). Joins look login n a k x z o (use_of n m)) (sym s.2) (unmade_joins u s.0 o s.1 s.3 is)

pub shaken : {L : Type 0} (look : L → Looks) (n now : ℕ) (c : ConnectSeen L) (m : Met) (r : Connection L) (slot : Slot L) (o : Outcome) → ConnectIs look no_texts now c m r → Settles n r slot o → EachShakes look n c slot o m
shaken look n now c m r slot o is s login a w = settles_joins look login n now c a m w r slot o is s

-- as a step shows it
pub first_joins : {L : Type 0} (look : L → Looks) (n : ℕ) (c : ConnectSeen L) (slot : Slot L) (o : Outcome) (m q : Met) (d : StepResult) → EachShakes look n c slot o m → q ≡ nothing_met → d.outcome ≡ o → d.uses.items ≡ use_of n q ∷ use_of n m ∷ [] → EachJoins look n (quiet n ∷ []) c slot d
first_joins look n c slot o m q d each e f g login a w = (use_of n m, g ∙ ap (λ (z : Met). use_of n z ∷ use_of n m ∷ []) e, subst (λ (z : Outcome). Joins look login n a (kept_some c.tape) (look c.link) slot z (use_of n m)) (sym f) (each login a w))

pub next_joins : {L : Type 0} (look : L → Looks) (n : ℕ) (c : ConnectSeen L) (slot : Slot L) (o : Outcome) (m : Met) (d : StepResult) → EachShakes look n c slot o m → d.outcome ≡ o → d.uses.items ≡ use_of n m ∷ [] → EachJoins look n [] c slot d
next_joins look n c slot o m d each f g login a w = (use_of n m, g, subst (λ (z : Outcome). Joins look login n a (kept_some c.tape) (look c.link) slot z (use_of n m)) (sym f) (each login a w))

-- a slot more
stood_push : {L : Type 0} (login : Login) (ss : List (Slot L)) (s : Slot L) → AreStood login ss → IsStood login s → AreStood login (ss ++ s ∷ [])
stood_push login [] s w v = (v, tt)
stood_push login (x ∷ ss) s w v = (w.0, stood_push login ss s w.1 v)

-- a link as it was dialed, where the plan is what the world told
new_link : (x : Looks) (plan reads : Option (List ReadItem)) (rules writes : Option (List WriteItem)) → x.items ≡ reads → x.writes ≡ writes → IsFresh x.got → x.counts ≡ no_counts → reads ≡ plan → writes ≡ rules → IsNew plan rules x
new_link x plan reads rules writes e f g c p q = record { planned = has_plan plan (e ∙ p) (f ∙ q); got = g; counts = c }
  where
    has_plan : (plan : Option (List ReadItem)) → x.items ≡ plan → x.writes ≡ rules → HasPlan plan rules x
    has_plan None e f = tt
    has_plan (Some plan) e f = (e, f)

-- the dial gave a link, over which the handshake was polled
pub linked : {L : Type 0} (look : L → Looks) (login : Login) (n : ℕ) (l : L) (before later : Plans) (slot : Slot L) (o : Outcome) (us : List Use) (u : Use) → (look l).items ≡ before.reads n → (look l).writes ≡ before.writes n → IsFresh (look l).got → (look l).counts ≡ no_counts → GivenBy (before.dials n) (later.dials n) → us ≡ quiet n ∷ u ∷ [] → Joins look login n first_asked first_kept (look l) slot o u → Dialed look login n before later slot o us
linked look login n l before later slot o us u e f g c given is w = record {
  stood = w.stood;
  awaited = linked_awaited before later n slot w.linked;
  does = λ plans same. Links u (look l) (later.dials n) is (new_link (look l) (plans.reads n) (before.reads n) (plans.writes n) (before.writes n) e f g c same.reads same.writes) given (subst (Connects login n first_asked first_kept (look l) o u) (linked_handle look (later.dials n) slot w.linked) w.does);
}

pub dial_held : {L : Type 0} (look : L → Looks) (login : Login) (n : ℕ) (before later : Plans) (o : Outcome) (us : List Use) → HeldBy (before.dials n) (later.dials n) → SameLink before later n → o ≡ Pending → us ≡ held_use n ∷ [] → Dialed look login n before later Held o us
dial_held look login n before later o us held kept e f = record { stood = tt; awaited = kept; does = λ plans same. Holds (later.dials n) e f refl held }

pub dial_failed : {L : Type 0} (look : L → Looks) (login : Login) (n : ℕ) (before later : Plans) (o : Outcome) (us : List Use) → FailedBy (before.dials n) (later.dials n) → o ≡ Failed (io_error Dial 0) → us ≡ failed_use n ∷ [] → Dialed look login n before later Gone o us
dial_failed look login n before later o us failed e f = record { stood = tt; awaited = tt; does = λ plans same. Fails (later.dials n) e f refl failed }

-- the plans were the same before
pub dialed_before : {L : Type 0} (look : L → Looks) (login : Login) (n : ℕ) (first before later : Plans) (slot : Slot L) (o : Outcome) (us : List Use) → SameAt first before n → Dialed look login n before later slot o us → Dialed look login n first later slot o us
dialed_before look login n first before later slot o us same w = record {
  stood = w.stood;
  awaited = awaited_on first before later n slot (link_at first before n same) w.awaited;
  does = λ plans told. subst (λ items. Dials login (plans.reads n) (plans.writes n) items n o us (handle_with look (later.dials n) slot)) same.dials (w.does plans (link_trans plans first before n told (link_at first before n same)));
}

-- the counts of a dial
pub dial_same : (c d : DialCounts) (us : List Use) (u v : Use) → d ≡ c → us ≡ u ∷ v ∷ [] → u.met ≡ nothing_met → DialsTo c d (dial_met true us)
dial_same c d us u v e is none =
    subst (λ (xs : List Use). DialsTo c d (dial_met true xs)) (sym is) (subst (DialsTo c d) (sym none) (record { faults = ap (λ (x : DialCounts). x.faults) e; holds = ap (λ (x : DialCounts). x.holds) e }))

pub dial_met_by : (c d : DialCounts) (us : List Use) (u : Use) → us ≡ u ∷ [] → DialsTo c d u.met → DialsTo c d (dial_met true us)
dial_met_by c d us u is w = subst (λ (xs : List Use). DialsTo c d (dial_met true xs)) (sym is) w

pub no_dial : (c d : DialCounts) → d ≡ c → DialsTo c d nothing_met
no_dial c d e = record { faults = ap (λ (x : DialCounts). x.faults) e; holds = ap (λ (x : DialCounts). x.holds) e }

-- the connection's first call
pub joins_first : {L : Type 0} (look : L → Looks) (login : Login) (n : ℕ) (l : L) (c : ConnectSeen L) (slot : Slot L) (d : StepResult) → ConnectsFor login c.seen c.tape first_kept first_asked → is_some c.tape ≡ true → c.at ≡ Shakes → c.link ≡ l → EachJoins look n (quiet n ∷ []) c slot d → JoinsFirst look login n (look l) slot d
joins_first {L} look login n l c slot d connects taped at link each =
    let same : first_kept ≡ kept_some c.tape = tape_has c.tape first_kept taped connects.agrees in
    let r = each login first_asked (record { at = at; taped = taped; connects = subst (λ (k : Kept). ConnectsFor login c.seen c.tape k first_asked) same connects }) in (
      r.0,
      r.1,
      subst (λ (z : L). Joins look login n first_asked first_kept (look z) slot d.outcome r.0) link (subst (λ (k : Kept). Joins look login n first_asked k (look c.link) slot d.outcome r.0) (sym same) r.2),
    )

-- the connection of the next number
pub stepped_dialed : {L : Type 0} (look : L → Looks) (login : Login) (plans : Plans) (n : ℕ) (before later : Plans) (o : Outcome) (us : List Use) (ss ts : List (Slot L)) (s : Slot L) → ts ≡ ss ++ s ∷ [] → n ≡ length ss → SameBut n before later → Dialed look login n before later s o us → AreAwaited plans before 0 ss → AreStood login ss → Stepped login ss ts (AreAwaited plans later 0 ts × DialsNext login plans (handles_in look before ss) o us (handles_in look later ts))
stepped_dialed {L} look login plans n before later o us ss ts s e is same w awaited st =
    let at : n ≡ 0 + length ss = omega (arith, is) in
    let counted : length ts ≡ length ss + 1 = ap length e ∙ length-append ss (s ∷ []) in
    let fresh : SameAt plans before n = awaited_end plans before 0 n ss at awaited n (omega arith) in
    let does : Dials login (plans.reads n) (plans.writes n) (plans.dials n) n o us (handle_with look (later.dials n) s) = subst (λ items. Dials login (plans.reads n) (plans.writes n) items n o us (handle_with look (later.dials n) s)) fresh.dials (w.does plans (link_at plans before n fresh)) in
    record {
      stood = subst (AreStood login) (sym e) (stood_push login ss s st w.stood);
      longer = omega (arith, counted);
      grows = (
        subst (AreAwaited plans later 0) (sym e) (awaited_push plans before later 0 n ss s at same (awaited_on plans before later n s (link_at plans before n fresh) w.awaited) awaited),
        record { made = handle_with look (later.dials n) s; dials = subst (λ (i : ℕ). Dials login (plans.reads i) (plans.writes i) (plans.dials i) i o us (handle_with look (later.dials n) s)) (is ∙ sym (handles_length look before.dials 0 ss)) does; others = ap (handles_in look later) e ∙ handles_push look before.dials later.dials 0 n ss s at (λ i apart. (same i apart).dials) },
      );
    }
