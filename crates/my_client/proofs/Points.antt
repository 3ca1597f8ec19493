-- The making of a connection, from point to point.
use Rattle.std.proofs.Common.{ℕ, ◌≡◌, ◌⊎◌, inl, inr, ◌+◌, ◌≤◌, List, [], ◌∷◌, ◌++◌, length, Option, Some, None, Ok, true, refl, sym, ap, ◌∙◌, subst, arith, length-append}
use Rattle.my_frame.specs.Outside.{Rose}
use Rattle.my_frame.specs.declared.limits.TheConstants.{MOST_TAKEN}
use Rattle.my_grammar.specs.declared.login.Login.{Login}
use Rattle.my_link.specs.Aid.{Texts}
use Rattle.my_link.specs.Looks.{Looks}
use Rattle.my_link.specs.Moves.{NoStop, Stop as LinkStop, StopsAt, received_by}
use Rattle.my_link.specs.Outside.{Counts}
use Rattle.my_link.specs.declared.met.Met.{Met}
use Rattle.my_reading.specs.Calls.{kind_of}
use Rattle.my_reading.specs.Errors.{connection_closed}
use Rattle.my_reading.specs.Told.{told}
use Rattle.my_reading.specs.declared.answer.Answer.{Answer}
use Rattle.my_reading.specs.declared.answer.Answer.TheVariants as answers
use Rattle.my_reading.specs.declared.call.Call.{Call}
use Rattle.my_reading.specs.declared.call.CallKind.{CallKind}
use Rattle.my_reading.specs.declared.call.CallKind.TheVariants.{Query, DropResult}
use Rattle.my_reading.specs.declared.error.Error.{Error}
use Rattle.my_session.specs.Fits.{may_be}
use Rattle.my_client.specs.declared.poll.After.{After}
use Rattle.my_client.specs.declared.poll.After.TheVariants.{Pending, Answered, Failed}
use Rattle.my_client.specs.declared.tape.Tape.{Tape}
use Rattle.my_client.specs.Ends.{kept_after}
use Rattle.my_client.specs.Kept.{Asked, Kept}
use Rattle.my_client.specs.Notes.{Agrees}
use Rattle.my_session.specs.Sessions.{Seen}
use Rattle.my_session.specs.View.{View}
use Rattle.my_client.specs.Lives.{Lives}
use Rattle.my_client.specs.Polls.{moved_by}
use Rattle.my_client.specs.Reads.{IsRead}
use Rattle.my_client.specs.Stands.{Rests}
use Rattle.my_client.proofs.Living.{lives_on, lives_still}
use Rattle.my_client.proofs.Reading.{rests_read}
use Rattle.my_client.specs.Calls.{AfterFits, Does, EachCall, MayPoll, MayStart, PendsBy, asked_for}
use Rattle.my_client.specs.Makes.{AidRefuses, CallFails, ConnectsFor, GoesOn, IsMade, IsMaking, Leads, MakesFor, Point, Polls, StaysMaking, WhyNotMade, all_met, first_point}
use Rattle.my_client.specs.StandsFor.{StandsFor}
use Rattle.my_client.specs.Texts.{Ends, EndsRefused, Follows, FollowsBy, Sends}
use Rattle.my_client.specs.declared.texts.Making.{Making}
use Rattle.my_client.specs.declared.texts.Making.TheVariants.{Shakes, Asks, Drops}
use Rattle.my_client.specs.declared.texts.Next.{Next}
use Rattle.my_client.proofs.Joins.{Shook, made, shook, still}
use Rattle.my_client.proofs.Polled.{answer_comes, met_taken, moved_taken, moves_count}
use Rattle.my_client.proofs.Standing.{does_pend, fits_after, may_start, stands_after}

-- `n` bytes more were received
abbrev pub Took : ℕ → Kept → Kept → Type 0
Took n k end = length end.taken ≡ length k.taken + n

-- what the polls received
same_taken : (call : Option Call) (k : Kept) → (asked_for call k).taken ≡ k.taken
same_taken None k = refl
same_taken (Some call) k = refl

after_taken : (f : Kept) (a : Asked) (after : After) → (kept_after f a after).taken ≡ f.taken
after_taken f a Pending = refl
after_taken f a (Answered answer) = refl
after_taken f a (Failed e) = refl

pub does_take : (login : Login) (call : Option Call) (x y : Looks) (k end : Kept) (m : Met) (after : After) → Does login call x y k end m after → Took m.taken k end
does_take login call x y k end m after (inl d) =
    let u = d.polled in
    let f : Kept = asked_for call k in
    let came : List ℕ = received_by u.moves in
    let all : end.taken ≡ k.taken ++ came =
    ap (λ (g : Kept). g.taken) u.ends ∙ after_taken (moved_by f u.moves) d.asked after ∙ moved_taken f u.moves ∙ ap (λ (bs : List ℕ). bs ++ came) (same_taken call k) in
    omega (arith, ap (λ (bs : List ℕ). length bs) all, length-append k.taken came, met_taken m u.moves u.stop u.met)
does_take login call x y k end m after (inr d) =
    let same : end.taken ≡ k.taken = ap (λ (g : Kept). g.taken) d.end_is in
    omega (arith, ap (λ (bs : List ℕ). length bs) same, ap (λ (u : Met). u.taken) d.none)

-- each call of the making is answered that it is done
abbrev pub ready : After → After
ready Pending = Pending
ready (Answered answer) = Answered answers.Ready
ready (Failed e) = Failed e

-- what a call leaves
abbrev pub GoingAfter : Login → CallKind → Seen → Option Tape → Kept → After → Type 0
GoingAfter login kind t q end Pending = GoesOn login kind None t q end
GoingAfter login kind t q end (Answered answer) = StandsFor login t q None end
GoingAfter login kind t q end (Failed e) = Agrees q end × IsRead login end

abbrev pub AfterMaking : Login → Making → Seen → Option Tape → Kept → After → Type 0
AfterMaking login at t q end Pending = MakesFor login at None t q end
AfterMaking login at t q end (Answered answer) = StandsFor login t q None end
AfterMaking login at t q end (Failed e) = Agrees q end

-- a call that is pending waits for its link, and one that failed is kept as the reading says
abbrev pub AfterRests : Login → Seen → Kept → After → Type 0
AfterRests login t end Pending = Rests login t end
AfterRests login t end (Answered answer) = Unit {0}
AfterRests login t end (Failed e) = IsRead login end

pub record MadePoll (login : Login) (at : Making) (call : Option Call) (t : Seen) (x y : Looks) (q : Option Tape) (k : Kept) (m : Met) (after : After) : Type 0 where
  pub end : Kept
  pub does : Does login call x y k end m (ready after)
  pub leaves : AfterMaking login at t q end after
  pub rests : AfterRests login t end after

query_ready : (answer : Answer) → may_be Query (told answer) ≡ true → answer ≡ answers.Ready
query_ready answers.Ready e = refl
query_ready (answers.Row row) e = cc
query_ready answers.SetEnd e = cc
query_ready answers.NoSet e = cc
query_ready (answers.Stmt statement) e = cc
query_ready (answers.Flag flag) e = cc

drop_ready : (answer : Answer) → may_be DropResult (told answer) ≡ true → answer ≡ answers.Ready
drop_ready answers.Ready e = refl
drop_ready (answers.Row row) e = cc
drop_ready answers.SetEnd e = cc
drop_ready answers.NoSet e = cc
drop_ready (answers.Stmt statement) e = cc
drop_ready (answers.Flag flag) e = cc

module _ (login : Login) (s t : Seen) (x y : Looks) (p q : Option Tape) (m : Met) (k : Kept) where
  shaking : (after : After) → EachCall None s t x y p q m after → (a : Asked) → ConnectsFor login s p k a → MadePoll login Shakes None t x y q k m after
  shaking Pending each a w =
      let f = still s t x y p q m each login k a w in
      record { end = f.0; does = inl (record { admitted = tt; asked = a; pending = w.asked.asked; polled = f.2 }); leaves = (refl, a, f.1); rests = f.3 }
  shaking (Answered answer) each a w =
      let f = made s t x y p q m answer each login k a w in
      record { end = f.0; does = inl (record { admitted = tt; asked = a; pending = w.asked.asked; polled = f.2 }); leaves = f.1; rests = tt }
  shaking (Failed e) each a w =
      let f : Shook login t x y q m (Failed e) k a = shook s t x y p q m (Failed e) each login k a w in
      record { end = f.end; does = inl (record { admitted = tt; asked = a; pending = w.asked.asked; polled = f.polled }); leaves = f.agrees; rests = rests_read login t f.end f.rests }

  going : (kind : CallKind) → ((answer : Answer) → may_be kind (told answer) ≡ true → answer ≡ answers.Ready) → (call : Option Call) (o : Option CallKind) (after : After) → MayPoll kind call o → EachCall call s t x y p q m after → StandsFor login s p o k → (end : Kept) × Does login call x y k end m (ready after) × GoingAfter login kind t q end after
  going kind r call o Pending may each w =
      let f = stands_after kind call s t x y p q o m Pending may each login k w in
      (f.0, f.2, (Some kind, f.1, refl))
  going kind r call o (Answered answer) may each w =
      let f = stands_after kind call s t x y p q o m (Answered answer) may each login k w in
      let fits : AfterFits kind (Answered answer) = fits_after kind call s t x y p q o m (Answered answer) may each (login, k, w) in
      (f.0, subst (λ (v : Answer). Does login call x y k f.0 m (Answered v)) (r answer fits) f.2, f.1)
  going kind r call o (Failed e) may each w =
      let f = stands_after kind call s t x y p q o m (Failed e) may each login k w in
      (f.0, f.2, (f.1.agrees, rests_read login t f.0 f.1.rests))

  going_rests : (kind : CallKind) (end : Kept) (after : After) → GoingAfter login kind t q end after → AfterRests login t end after
  going_rests kind end Pending w = w.1.rests
  going_rests kind end (Answered answer) w = tt
  going_rests kind end (Failed e) w = w.1

  asking_leaves : (n : ℕ) (end : Kept) (after : After) → GoingAfter login Query t q end after → AfterMaking login (Asks n) t q end after
  asking_leaves n end Pending w = w
  asking_leaves n end (Answered answer) w = w
  asking_leaves n end (Failed e) w = w.0

  dropping_leaves : (n : ℕ) (end : Kept) (after : After) → GoingAfter login DropResult t q end after → AfterMaking login (Drops n) t q end after
  dropping_leaves n end Pending w = w
  dropping_leaves n end (Answered answer) w = w
  dropping_leaves n end (Failed e) w = w.0

  pub polled_making : (at : Making) (call : Option Call) (after : After) → EachCall call s t x y p q m after → MakesFor login at call s p k → MadePoll login at call t x y q k m after
  polled_making Shakes call after each w = subst (λ (c : Option Call). MadePoll login Shakes c t x y q k m after) (sym w.0) (shaking after (subst (λ (c : Option Call). EachCall c s t x y p q m after) w.0 each) w.1 w.2)
  polled_making (Asks n) call after each w =
      let f = going Query query_ready call w.0 after w.2 each w.1 in
      record { end = f.0; does = f.1; leaves = asking_leaves n f.0 after f.2; rests = going_rests Query f.0 after f.2 }
  polled_making (Drops n) call after each w =
      let f = going DropResult drop_ready call w.0 after w.2 each w.1 in
      record { end = f.0; does = f.1; leaves = dropping_leaves n f.0 after f.2; rests = going_rests DropResult f.0 after f.2 }

-- where it may be polled
pub making_starts : (login : Login) (at : Making) (call : Option Call) (s : Seen) (p : Option Tape) (k : Kept) → MakesFor login at call s p k → MayStart call s
making_starts login Shakes call s p k w = subst (λ (c : Option Call). MayStart c s) (sym w.0) tt
making_starts login (Asks n) call s p k w = may_start Query call login s p w.0 k w.2 w.1
making_starts login (Drops n) call s p k w = may_start DropResult call login s p w.0 k w.2 w.1

-- an answered call left the link's counts
answered_same : (login : Login) (call : Option Call) (x y : Looks) (k end : Kept) (m : Met) → Does login call x y k end m (Answered answers.Ready) → y.counts ≡ x.counts
answered_same login call x y k end m (inl d) =
    let u = d.polled in
    let none : u.stop ≡ NoStop = (answer_comes login (moved_by (asked_for call k) u.moves) u.stop m.taken answers.Ready u.comes).0 in
    let stops : StopsAt NoStop u.moved y = subst (λ (st : LinkStop). StopsAt st u.moved y) none u.stops in
    ap (λ (l : Looks). l.counts) stops ∙ moves_count u.moves x u.moved u.leads
answered_same login call x y k end m (inr d) = absurd (no_answer d.after_is)
  where
    no_answer : Answered answers.Ready ≡ Failed connection_closed → ⊥
    no_answer e = cc

same_counts : (texts : Texts) (login : Login) (from to : Point) (ms : List Point) → Leads texts login from ms to → to.looks.counts ≡ from.looks.counts
same_counts texts login from to [] w = ap (λ (v : Point). v.looks.counts) w
same_counts texts login from to (m ∷ ms) w = answered_same login m.call m.looks to.looks m.kept to.kept w.1.met w.1.does ∙ same_counts texts login from m ms w.0

-- so far: at this point, for all that may have been done before
pub record PointFor (texts : Texts) (login : Login) (first : Making) (x : Looks) (k : Kept) (at : Making) (call : Option Call) (y : Looks) (s : Seen) (q : Option Tape) (n : ℕ) : Type 0 where
  pub kept : Kept
  pub earlier : List Point
  pub leads : Leads texts login (first_point first x k) earlier (record { at = at; call = call; looks = y; kept = kept })
  pub makes : MakesFor login at call s q kept
  pub took : Took n k kept

-- and `count` bytes were received
pub record SoFar (texts : Texts) (now : ℕ) (first : Making) (x : Looks) (u : View) (p : Option Tape) (at : Making) (call : Option Call) (y : Looks) (v : View) (q : Option Tape) (count : ℕ) : Type 0 where
  pub lives : Lives now count u v
  pub each : (login : Login) (k : Kept) → MakesFor login first None u.seen p k → PointFor texts login first x k at call y v.seen q count

pub begins : (texts : Texts) (now : ℕ) (first : Making) (x : Looks) (u : View) (p : Option Tape) → SoFar texts now first x u p first None x u p 0
begins texts now first x u p = record {
  lives = lives_still now 0 u u (omega arith) refl;
  each = λ login k w. record { kept = k; earlier = []; leads = refl; makes = w; took = omega arith };
}

-- a call begins after an answered one
sends_on : (texts : Texts) (login : Login) (n : ℕ) (to : Making) (next : Call) (t : Seen) (q : Option Tape) (end : Kept) → Sends texts n to next → StandsFor login t q None end → MakesFor login to (Some next) t q end
sends_on texts login n to next t q end f w = subst (λ (a : Making). MakesFor login a (Some next) t q end) (sym f.2) (None, w, (refl, ap kind_of f.3, refl))

follows_on : (texts : Texts) (login : Login) (at to : Making) (next : Call) (t : Seen) (q : Option Tape) (end : Kept) → Follows texts at to next → StandsFor login t q None end → MakesFor login to (Some next) t q end
follows_on texts login Shakes to next t q end f w = sends_on texts login 0 to next t q end f w
follows_on texts login (Asks n) to next t q end f w = subst (λ (a : Making). MakesFor login a (Some next) t q end) (sym f.0) (None, w, (refl, ap kind_of f.1, refl))
follows_on texts login (Drops n) to next t q end f w = sends_on texts login (n + 1) to next t q end f w

took_more : (n m : ℕ) (k f end : Kept) → Took n k f → Took m f end → Took (n + m) k end
took_more n m k f end a b = omega (arith, a, b)

module _ (texts : Texts) (now : ℕ) (first : Making) (x : Looks) (u : View) (p : Option Tape) (at : Making) (call : Option Call) (y : Looks) (v : View) (q : Option Tape) (count : ℕ) (so : SoFar texts now first x u p at call y v q count) where
  pub starts : IsMaking first u.seen p → MayStart call v.seen
  starts w =
      let f = so.each w.0 w.1 w.2 in
      making_starts w.0 at call v.seen q f.kept f.makes

module _ (texts : Texts) (now : ℕ) (first : Making) (x : Looks) (u : View) (p : Option Tape) (at : Making) (call : Option Call) (y : Looks) (v : View) (q : Option Tape) (count : ℕ) (so : SoFar texts now first x u p at call y v q count)
    (z : Looks) (w : View) (r : Option Tape) (m : Met) (after : After) (each : EachCall call v.seen w.seen y z q r m after) (lives : Lives now m.taken v w) where
  by_after : (g : After) → after ≡ g → EachCall call v.seen w.seen y z q r m g
  by_after g e = subst (λ (g : After). EachCall call v.seen w.seen y z q r m g) e each

  all_lives : Lives now (count + m.taken) u w
  all_lives = lives_on now count m.taken u v w so.lives lives

  -- the calls so far, and the last one
  abbrev sum : Met
  sum = all_met m (count + m.taken)

  made_poll : (login : Login) (k : Kept) (f : PointFor texts login first x k at call y v.seen q count) (g : After) → after ≡ g → MadePoll login at call w.seen y z r f.kept m g
  made_poll login k f g e = polled_making login v.seen w.seen y z q r m f.kept at call g (by_after g e) f.makes

  calls : (login : Login) (k : Kept) (f : PointFor texts login first x k at call y v.seen q count) (g : After) (d : MadePoll login at call w.seen y z r f.kept m g)
      → (c : Polls texts login first x z k d.end sum (ready g)) × (c.last.at ≡ at)
  calls login k f g d = (
    record {
      earlier = f.earlier;
      last = record { at = at; call = call; looks = y; kept = f.kept };
      leads = f.leads;
      met = m;
      does = d.does;
      met_is = refl;
      took = took_more count m.taken k f.kept d.end f.took (does_take login call y z f.kept d.end m (ready g) d.does);
    },
    refl,
  )

  pub goes_on : (answer : Answer) → after ≡ Answered answer → (to : Making) (next : Call) → Follows texts at to next → (taken : ℕ) → taken ≡ count + m.taken → SoFar texts now first x u p to (Some next) z w r taken
  goes_on answer e to next follows taken is = subst (λ (n : ℕ). SoFar texts now first x u p to (Some next) z w r n) (sym is) (record {
    lives = all_lives;
    each = λ login k h.
        let f = so.each login k h in
        let d : MadePoll login at call w.seen y z r f.kept m (Answered answer) = made_poll login k f (Answered answer) e in
        record {
          kept = d.end;
          earlier = record { at = at; call = call; looks = y; kept = f.kept } ∷ f.earlier;
          leads = (f.leads, record { met = m; does = d.does; call = next; call_is = refl; follows = follows });
          makes = follows_on texts login at to next w.seen r d.end follows d.leaves;
          took = took_more count m.taken k f.kept d.end f.took (does_take login call y z f.kept d.end m (Answered answers.Ready) d.does);
        };
  })

  pends_at : IsMaking first u.seen p → after ≡ Pending → Rose x.counts.holds z.counts.holds ⊎ (MOST_TAKEN ≤ count + m.taken)
  pends_at h e =
      let f = so.each h.0 h.1 h.2 in
      let d : MadePoll h.0 at call w.seen y z r f.kept m Pending = made_poll h.0 h.1 f Pending e in
      by_cause (same_counts texts h.0 (first_point first x h.1) (record { at = at; call = call; looks = y; kept = f.kept }) f.earlier f.leads) (does_pend h.0 call y z f.kept d.end m Pending d.does)
    where
      by_cause : y.counts ≡ x.counts → PendsBy Pending y z m → Rose x.counts.holds z.counts.holds ⊎ (MOST_TAKEN ≤ count + m.taken)
      by_cause same (inl rose) = inl (subst (λ (c : Counts). Rose c.holds z.counts.holds) same rose)
      by_cause same (inr full) = inr (omega (arith, full))

  pub stays : IsMaking first u.seen p → after ≡ Pending → (all : Met) → all ≡ sum → StaysMaking texts now first at x z u w p r all
  stays h e all is = subst (λ (n : Met). StaysMaking texts now first at x z u w p r n) (sym is) (record {
    lives = all_lives;
    pends = pends_at h e;
    each = λ login k h.
        let f = so.each login k h in
        let d : MadePoll login at call w.seen y z r f.kept m Pending = made_poll login k f Pending e in
        let c = calls login k f Pending d in
        (d.end, d.leaves, c.0, c.1, d.rests);
  })

  pub is_made : (answer : Answer) → after ≡ Answered answer → Ends texts at → (all : Met) → all ≡ sum → IsMade texts now first x z u w p r all
  is_made answer e ends all is = subst (λ (n : Met). IsMade texts now first x z u w p r n) (sym is) (record {
    lives = all_lives;
    each = λ login k h.
        let f = so.each login k h in
        let d : MadePoll login at call w.seen y z r f.kept m (Answered answer) = made_poll login k f (Answered answer) e in
        let c = calls login k f (Answered answer) d in
        (d.end, d.leaves, c.0, subst (λ (a : Making). Ends texts a) (sym c.1) ends);
  })

  call_fails : (error : Error) → after ≡ Failed error → CallFails texts first x z u.seen p r sum error
  call_fails error e login k h =
      let f = so.each login k h in
      let d : MadePoll login at call w.seen y z r f.kept m (Failed error) = made_poll login k f (Failed error) e in
      (d.end, d.leaves, (calls login k f (Failed error) d).0, d.rests)

  refuses : (answer : Answer) → after ≡ Answered answer → (error : Error) → EndsRefused texts at error → AidRefuses texts first x z u.seen p r (record sum { refused = 1 }) error
  refuses answer e error ends = record {
    calls = sum;
    met_is = refl;
    each = λ login k h.
        let f = so.each login k h in
        let d : MadePoll login at call w.seen y z r f.kept m (Answered answer) = made_poll login k f (Answered answer) e in
        let c = calls login k f (Answered answer) d in
        (d.end, d.leaves.agrees, c.0, subst (λ (a : Making). EndsRefused texts a error) (sym c.1) ends);
  }

  -- why no connection was made
  pub failed_so : (error : Error) → after ≡ Failed error → (all : Met) → all ≡ sum → WhyNotMade texts first x z u.seen p r all error
  failed_so error e all is = subst (λ (n : Met). WhyNotMade texts first x z u.seen p r n error) (sym is) (inl (call_fails error e))

  pub refused_so : (answer : Answer) → after ≡ Answered answer → (error : Error) → EndsRefused texts at error → (all : Met) → all ≡ sum
      → WhyNotMade texts first x z u.seen p r (record all { refused = 1 }) error
  refused_so answer e error ends all is =
      subst (λ (n : Met). WhyNotMade texts first x z u.seen p r (record n { refused = 1 }) error) (sym is) (inr (refuses answer e error ends))

-- what follows, where the aid tells the same
pub next_so : (t texts : Texts) (at : Making) (next to : Next) → t ≡ texts → next ≡ to → FollowsBy t at next → FollowsBy texts at to
next_so t texts at next to same is w = subst (λ (t : Texts). FollowsBy t at to) same (subst (λ (n : Next). FollowsBy t at n) is w)
