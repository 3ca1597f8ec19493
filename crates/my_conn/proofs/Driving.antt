-- How a call that waits continues from poll to poll.
use Rattle.std.proofs.Common.{ℕ, ◌≡◌, ◌⊎◌, inl, inr, ◌+◌, ◌<◌, ◌≤◌, true, false, Option, Some, None, is_some, Result, Err, refl, sym, ap, ◌∙◌, subst, arith}
use Rattle.my_frame.specs.declared.limits.TheConstants.{MOST_TAKEN}
use Rattle.my_grammar.specs.declared.login.Login.{Login}
use Rattle.my_link.specs.Looks.{Looks}
use Rattle.my_link.specs.declared.met.Met.{Met}
use Rattle.my_reading.specs.Errors.{connection_closed}
use Rattle.my_reading.specs.declared.answer.Answer.{Answer}
use Rattle.my_reading.specs.declared.call.Call.{Call}
use Rattle.my_reading.specs.declared.call.CallKind.{CallKind}
use Rattle.my_reading.specs.declared.call.CallKind.TheVariants.{Connect, Query, Prepare, Execute, Batch, CloseStmt, NextRow, DropResult, TakeSet, SkipTaken, Ping, Reset, ChangeUser, Begin, Commit, Rollback, ForgetTransaction, CleanForPool, ResetForPool, Quit}
use Rattle.my_reading.specs.declared.error.Error.{Error}
use Rattle.my_reading.specs.declared.error.DriverError.TheVariants.{TooLong}
use Rattle.my_reading.specs.declared.error.Error.TheVariants as errors
use Rattle.my_session.specs.View.{Lifetime, first_lifetime}
use Rattle.my_client.specs.declared.poll.After.{After}
use Rattle.my_client.specs.declared.poll.After.TheVariants.{Pending, Answered, Failed}
use Rattle.my_client.specs.Kept.{Kept, asking}
use Rattle.my_session.specs.View.{View}
use Rattle.my_client.specs.Lives.{Lives, made_in}
use Rattle.my_client.proofs.Living.{lives_both}
use Rattle.my_client.specs.Calls.{AfterFits, Does, Refuses, pending_after}
use Rattle.my_client.specs.StandsFor.{StandsFor}
use Rattle.my_client.specs.Waits.{DriveRefused, Driven, Goes, ResultFits}
use Rattle.my_client.specs.declared.handshake.TheConstants.{TOO_LONG}
use Rattle.my_client.proofs.Standing.{bool_cases, not_both}
use Rattle.my_client.proofs.Waiting.{Results, driven, goes_begins, goes_so}
use Rattle.my_conn.specs.Calls.{CallIs, lost_answer}
use Rattle.my_conn.specs.Conn.{ConnSeen, session_of}
use Rattle.my_conn.specs.Drives.{DriveIs, lost_result}

-- so far: the call is to begin, or is open
abbrev pub DriveSoFar : {L : Type 0} → (L → Looks) → Call → Option Call → ConnSeen L → ConnSeen L → ℕ → Type 0
DriveSoFar look call (Some c) old cur n = (c ≡ call) × (cur ≡ old) × (n ≡ 0)
DriveSoFar look call None old cur n = (old.lost ≡ false) × (cur.lost ≡ false) × (is_some cur.tape ≡ is_some old.tape) × (cur.fixed ≡ old.fixed) × Lives old.fixed.now n (session_of old) (session_of cur) × ((login : Login) (k : Kept) → StandsFor login old.seen old.tape old.pending k
    → (f : Kept) × StandsFor login cur.seen cur.tape cur.pending f × Goes login call (look old.link) (look cur.link) k f n)

made_lives : (now n : ℕ) (a b : View) → Lives now n a b → made_in b ≡ made_in a
made_lives now n a b w = ap (λ (l : Lifetime). first_lifetime l.opts l.is_socket l.deadline) w.lifetime

no_pending : (c : CallKind) → Pending ≡ lost_answer c → ⊥
no_pending ForgetTransaction e = cc
no_pending Quit e = cc
no_pending _ e = cc

pending_fails : (e : Error) → Pending ≡ Failed e → ⊥
pending_fails e w = cc

-- the poll of a call, from what was kept when it began
record Polled (login : Login) (call : Call) (w x y : Looks) (k end : Kept) (n : ℕ) (after : After) : Type 0 where
  pub results : (r : Result Answer Error) → Results after r → Driven login call w y k n r end ⊎ DriveRefused call w y k n r end
  pub goes : after ≡ Pending → x.counts.holds ≡ 0 → y.counts.holds ≡ 0 → Goes login call w y k end n

refused_so : (call : Call) (x y : Looks) (k end : Kept) (m : Met) (after : After) (given : Option Call) → given ≡ Some call → Refuses given x y k end m after → (r : Result Answer Error) → Results after r → DriveRefused call x y k m.taken r end
refused_so call x y k end m after given g d r e =
    let same : d.given ≡ call = same_call d.given call (sym d.call_is ∙ g) in
    let so : r ≡ Err connection_closed = subst (λ (p : After). Results p r) d.after_is e in
    subst (λ (c : Call). DriveRefused c x y k m.taken r end) same (record { closed = d.closed; other = d.other; result_is = so; end_is = d.end_is; link_is = d.link_is; none = ap (λ (u : Met). u.taken) d.none })
  where
    same_call : (b c : Call) → Some b ≡ Some c → b ≡ c
    same_call b c e = cc

begun_polled : (login : Login) (call : Call) (x y : Looks) (k end : Kept) (m : Met) (after : After) → Does login (Some call) x y k end m after → Polled login call x x y k end m.taken after
begun_polled login call x y k end m after (inl d) = record {
  results = λ r e. inl (subst (λ (i : ℕ). Driven login call x y k i r end) (omega arith) (driven login call k (asking k call None) end 0 x x y m after d.asked (goes_begins login call x k) d.pending d.polled r e));
  goes = λ e none still. subst (λ (i : ℕ). Goes login call x y k end i) (omega arith) (goes_so login call k (asking k call None) end 0 x x y m after d.asked (goes_begins login call x k) d.pending d.polled e none still);
}
begun_polled login call x y k end m after (inr d) = record {
  results = λ r e. inr (refused_so call x y k end m after (Some call) refl d r e);
  goes = λ e none still. absurd (pending_fails connection_closed (sym e ∙ d.after_is));
}

open_polled : (login : Login) (call : Call) (w x y : Looks) (k f end : Kept) (n : ℕ) (m : Met) (after : After) → Goes login call w x k f n → Does login None x y f end m after → Polled login call w x y k end (n + m.taken) after
open_polled login call w x y k f end n m after c (inl d) = record {
  results = λ r e. inl (driven login call k f end n w x y m after d.asked c d.pending d.polled r e);
  goes = λ e none still. goes_so login call k f end n w x y m after d.asked c d.pending d.polled e none still;
}
open_polled login call w x y k f end n m after c (inr d) = absurd (no_call d.given d.call_is)
  where
    no_call : (c : Call) → None ≡ Some c → ⊥
    no_call c e = cc

module _ {L : Type 0} (look : L → Looks) (kind : CallKind) (call : Call) (old new : ConnSeen L) (m : Met) (after : After) where
  each_polled : (next : Option Call) (cur : ConnSeen L) (n : ℕ) → DriveSoFar look call next old cur n → CallIs look old.fixed.now kind next cur new m after → old.lost ≡ false → new.lost ≡ false → (login : Login) (k : Kept) → StandsFor login old.seen old.tape old.pending k → (end : Kept) × StandsFor login new.seen new.tape new.pending end × Polled login call (look old.link) (look cur.link) (look new.link) k end (n + m.taken) after
  each_polled (Some c) cur n so is e f login k w =
      let here : CallIs look old.fixed.now kind (Some call) old new m after = subst (λ (o : ConnSeen L). CallIs look old.fixed.now kind (Some call) o new m after) so.1 (subst (λ (c : Call). CallIs look old.fixed.now kind (Some c) cur new m after) so.0 is) in
      let u = here.each e f login k w in
      let p : Polled login call (look old.link) (look old.link) (look new.link) k u.0 m.taken after = begun_polled login call (look old.link) (look new.link) k u.0 m after u.2 in
      (u.0, u.1, subst (λ (o : ConnSeen L). Polled login call (look old.link) (look o.link) (look new.link) k u.0 (n + m.taken) after) (sym so.1) (subst (λ (i : ℕ). Polled login call (look old.link) (look old.link) (look new.link) k u.0 i after) (omega (arith, so.2)) p))
  each_polled None cur n so is e f login k w =
      let v = so.5 login k w in
      let u = is.each so.1 f login v.0 v.1 in
      (u.0, u.1, open_polled login call (look old.link) (look cur.link) (look new.link) k v.0 u.0 n m after v.2 u.2)

  keeps_on : (next : Option Call) (cur : ConnSeen L) (n : ℕ) → DriveSoFar look call next old cur n → CallIs look old.fixed.now kind next cur new m after → new.lost ≡ false → is_some new.tape ≡ is_some old.tape
  keeps_on (Some c) cur n so is e = is.keeps e ∙ ap (λ (o : ConnSeen L). is_some o.tape) so.1
  keeps_on None cur n so is e = is.keeps e ∙ so.2

  same_fixed : (next : Option Call) (cur : ConnSeen L) (n : ℕ) → DriveSoFar look call next old cur n → CallIs look old.fixed.now kind next cur new m after → new.fixed ≡ old.fixed
  same_fixed (Some c) cur n so is = is.fixed ∙ ap (λ (o : ConnSeen L). o.fixed) so.1
  same_fixed None cur n so is = is.fixed ∙ so.3

  -- what a lost connection, or one that is lost now, returns
  was_sound : (next : Option Call) (cur : ConnSeen L) (n : ℕ) → DriveSoFar look call next old cur n → cur.lost ≡ old.lost
  was_sound (Some c) cur n so = ap (λ (o : ConnSeen L). o.lost) so.1
  was_sound None cur n so = so.1 ∙ sym so.0

  was_same : (next : Option Call) (cur : ConnSeen L) (n : ℕ) → DriveSoFar look call next old cur n → old.lost ≡ true → cur ≡ old
  was_same (Some c) cur n so e = so.1
  was_same None cur n so e = absurd (not_both old.lost so.0 e)

  lives_so : (next : Option Call) (cur : ConnSeen L) (n : ℕ) → DriveSoFar look call next old cur n → CallIs look old.fixed.now kind next cur new m after → old.lost ≡ false → new.lost ≡ false → Lives old.fixed.now (n + m.taken) (session_of old) (session_of new)
  lives_so (Some c) cur n so is e f =
      let w : Lives old.fixed.now m.taken (session_of cur) (session_of new) = is.lives (was_sound (Some c) cur n so ∙ e) f in
      subst (λ (i : ℕ). Lives old.fixed.now i (session_of old) (session_of new)) (omega (arith, so.2)) (subst (λ (o : ConnSeen L). Lives old.fixed.now m.taken (session_of o) (session_of new)) so.1 w)
  lives_so None cur n so is e f = lives_both old.fixed.now n m.taken (n + m.taken) (session_of old) (session_of cur) (session_of new) refl so.4 (is.lives so.1 f)

  made_so : (next : Option Call) (cur : ConnSeen L) (n : ℕ) → DriveSoFar look call next old cur n → CallIs look old.fixed.now kind next cur new m after → made_in (session_of new) ≡ made_in (session_of old)
  made_so (Some c) cur n so is = is.made ∙ ap (λ (o : ConnSeen L). made_in (session_of o)) so.1
  made_so None cur n so is = is.made ∙ made_lives old.fixed.now n (session_of old) (session_of cur) so.4

  pub goes_on : (next : Option Call) (cur : ConnSeen L) (n : ℕ) → DriveSoFar look call next old cur n → CallIs look old.fixed.now kind next cur new m after → after ≡ Pending → (look cur.link).counts.holds ≡ 0 → (look new.link).counts.holds ≡ 0 → DriveSoFar look call None old new (n + m.taken)
  goes_on next cur n so is e none still =
      let same = was_sound next cur n so in
      let old_sound : old.lost ≡ false = elim (bool_cases old.lost) [
        | inl yet ↦ absurd (no_pending kind (sym e ∙ (is.lost (same ∙ yet)).1))
        | inr sound ↦ sound
      ] in
      let new_sound : new.lost ≡ false = elim (bool_cases new.lost) [
        | inl lost ↦ absurd (pending_fails errors.NoMemory (sym e ∙ (is.loses (same ∙ old_sound) lost).0))
        | inr sound ↦ sound
      ] in (
        old_sound,
        new_sound,
        keeps_on next cur n so is new_sound,
        same_fixed next cur n so is,
        lives_so next cur n so is old_sound new_sound,
        λ login k w.
            let u = each_polled next cur n so is old_sound new_sound login k w in
            (u.0, u.1, u.2.goes e none still),
      )

  result_lost : (r : Result Answer Error) → after ≡ lost_answer kind → Results after r → r ≡ lost_result kind
  result_lost r e f = by_kind kind (subst (λ (p : After). Results p r) e f)
    where
      by_kind : (c : CallKind) → Results (lost_answer c) r → r ≡ lost_result c
      by_kind ForgetTransaction f = f
      by_kind Quit f = f
      by_kind _ f = f

  none_after : (r : Result Answer Error) → Results after r → pending_after kind after ≡ None
  none_after r e = by_after after e
    where
      by_after : (p : After) → Results p r → pending_after kind p ≡ None
      by_after Pending e = absurd e
      by_after (Answered answer) e = refl
      by_after (Failed x) e = refl

  pub drive_is : (next : Option Call) (cur : ConnSeen L) (n : ℕ) → DriveSoFar look call next old cur n → CallIs look old.fixed.now kind next cur new m after → n < TOO_LONG → (r : Result Answer Error) → Results after r → DriveIs look kind call old new r
  drive_is next cur n so is early r e =
      let same = was_sound next cur n so in
      let none : new.pending ≡ None = is.pending ∙ none_after r e in
      record {
        count = n + m.taken;
        bound = omega (arith, early, is.within);
        lives = lives_so next cur n so is;
        made = made_so next cur n so is;
        each = λ f g login k w.
            let u = each_polled next cur n so is f g login k w in
            (u.0, subst (λ (o : Option CallKind). StandsFor login new.seen new.tape o u.0) none u.1, u.2.results r e);
        loses = λ f g. inl (subst (λ (p : After). Results p r) (is.loses (same ∙ f) g).0 e);
        lost = λ f. ((is.lost (same ∙ f)).0 ∙ was_same next cur n so f, result_lost r (is.lost (same ∙ f)).1 e);
        keeps = keeps_on next cur n so is;
        fixed = same_fixed next cur n so is;
        pending = none;
        fits = by_after after is.fits e;
      }
    where
      by_after : (p : After) → AfterFits kind p → Results p r → ResultFits kind r
      by_after Pending w e = absurd e
      by_after (Answered answer) w e = subst (ResultFits kind) (sym e) w
      by_after (Failed x) w e = subst (ResultFits kind) (sym e) tt

-- it took too long
pub drive_long : {L : Type 0} (look : L → Looks) (kind : CallKind) (call : Call) (old cur new : ConnSeen L) (next : Option Call) (n : ℕ) (r : Result Answer Error) → DriveSoFar look call next old cur n → TOO_LONG ≤ n → n < TOO_LONG + MOST_TAKEN → new.lost ≡ true → new.pending ≡ None → new.link ≡ cur.link → new.fixed ≡ cur.fixed → new.lifetime ≡ cur.lifetime → r ≡ Err (errors.Driver TooLong) → DriveIs look kind call old new r
drive_long look kind call old cur new (Some c) n r so long bound lost none link fixed life e = absurd (no_bytes (omega (arith, so.2, long)))
  where
    no_bytes : 1 ≤ 0 → ⊥
    no_bytes h = omega (arith, h)
drive_long {L} look kind call old cur new None n r so long bound lost none link fixed life e = record {
  count = n;
  bound = bound;
  lives = λ f g. absurd (not_both new.lost g lost);
  made = ap (λ (l : Lifetime). first_lifetime l.opts l.is_socket l.deadline) life ∙ made_lives old.fixed.now n (session_of old) (session_of cur) so.4;
  each = λ f g. absurd (not_both new.lost g lost);
  loses = λ f g. inr (
    e,
    (
      long,
      λ login k w.
          let u = so.5 login k w in
          (u.0, subst (λ (l : L). Goes login call (look old.link) (look l) k u.0 n) (sym link) u.2),
    ),
  );
  lost = λ f. absurd (not_both old.lost so.0 f);
  keeps = λ g. absurd (not_both new.lost g lost);
  fixed = fixed ∙ so.3;
  pending = none;
  fits = subst (ResultFits kind) (sym e) tt;
}
