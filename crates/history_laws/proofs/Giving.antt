-- Calls that read sets, and the head of a query's first one.
use Rattle.std.proofs.Common.{◌≡◌, inl, inr, ℕ, List, [], ◌∷◌, Bool, true, false, cond, not, ◌||◌, Option, Some, None, refl, sym, ap, ◌∙◌, subst}
use Rattle.my_flags.specs.declared.flags.StatusFlags.{StatusFlags}
use Rattle.my_flags.specs.Sets.{deprecates_eof}
use Rattle.my_grammar.proofs.Growth.{grows}
use Rattle.my_grammar.specs.declared.login.Login.{Login}
use Rattle.my_grammar.specs.declared.packet.Packet.{Packet}
use Rattle.my_grammar.specs.declared.spot.Kind.{Kind}
use Rattle.my_grammar.specs.declared.spot.Kind.TheVariants as kinds
use Rattle.my_grammar.specs.declared.spot.Terms.{Terms}
use Rattle.my_grammar.specs.declared.spot.Spot.TheVariants as spots
use Rattle.my_grammar.specs.declared.spot.Spot.{Spot}
use Rattle.my_grammar.specs.Cut.{is_idle, is_over}
use Rattle.my_grammar.specs.Growth.{grow}
use Rattle.my_grammar.specs.Sets.{Sets, Lone, Begun, Ended, grow_sets, packets_in, head_columns}
use Rattle.my_grammar.specs.Talk.{Talk, Queried, context_of, packets_of, described, Fits}
use Rattle.my_reply.specs.declared.err.ErrPacket.{ErrPacket}
use Rattle.my_reading.proofs.Described.{at_rows}
use Rattle.my_reading.specs.declared.call.Call.{Call}
use Rattle.my_reading.specs.declared.call.Call.TheVariants.{Query, Execute, NextRow, DropResult, TakeSet, SkipTaken}
use Rattle.my_reading.specs.Calls.{id_in, kind_of}
use Rattle.my_reading.specs.Statements.{Statements, with_columns}
use Rattle.my_reading.specs.Course.{Part, All, Head, Item, Set, Rest, Learn, Goes, Returns, after_kind, is_rows, refused_at, step_of}
use Rattle.my_reading.specs.Errors.{server_error}
use Rattle.my_reading.specs.Place.{Place, facts_at, facts_of, with_end as ending, with_statements, with_talk, without_end}
use Rattle.my_reading.specs.Rows.{row_of}
use Rattle.my_reading.specs.Told.{Told, ToldReady, ToldEnd, ToldNone, closes}
use Rattle.history_laws.specs.Given.{IsGiven, IsItem, passes_over, givens, onto}
use Rattle.history_laws.specs.Given.{NonePassed, MorePassed}
use Rattle.history_laws.specs.Groups.{Group, Made, given, given_after, groups, with_item, with_stop}
use Rattle.history_laws.proofs.Calls.{over_same}
use Rattle.history_laws.proofs.Growing.{InRows, end_in_rows, failed_over, is_quiet, quiet_groups, row_in_rows}
use Rattle.history_laws.proofs.Having.{Comes, either, reads_have, row_at}
use Rattle.history_laws.proofs.Phases.{Answering, Gave, GaveAt, Heading as HeadingAt, IsFine, IsFresh, IsHalted, IsPassing, Drops, Skips, KeptAt, Left, Over, Passing, Reading, Stopped, Taking, is_lone, is_query, is_tail, known_part, reads_sets, returned_so, shifted}
use Rattle.history_laws.proofs.Stepping.{faults_fine, grown_gave, refused_fine, told_gave}

all_given : (t : Talk) (terms : Terms) (command : List ℕ) (x : Sets) → t ≡ Queried terms command x → Fits t → IsGiven (Some (groups x)) t
all_given t terms command x e f = subst (IsGiven (Some (groups x))) (sym e) (x, ([], refl), refl, (subst Fits e f).kinds)

lone_stop : (x : Sets) → is_lone x ≡ true → with_stop (groups (known_part true x)) ≡ groups x
lone_stop (Lone older p s) e = refl
lone_stop _ e = cc

-- what was read is in the sets of a query
grown_is : (t : Talk) (terms : Terms) (command : List ℕ) (x : Sets) (k : Kind) (q : List ℕ) → t ≡ Queried terms command x → grow k t q ≡ Queried terms command (grow_sets (deprecates_eof terms.kept) k x q)
grown_is t terms command x k q e = ap (λ u. grow k u q) e

more_packets : (p : Place) (ms : List Made) (o : Option (List Group)) (k : Kind) (q : List ℕ) (terms : Terms) (command : List ℕ) (x : Sets) → Comes p k q → GaveAt false ms p o → p.talk ≡ Queried terms command x
    → packets_in (grow_sets (deprecates_eof terms.kept) k x q) ≡ (let one : Packet = record { kind = k; payload = q } in one) ∷ packets_in x
more_packets p ms o k q terms command x c w e = subst (λ (t : Talk). packets_of (grow k t q) ≡ (let one : Packet = record { kind = k; payload = q } in one) ∷ packets_of t) e (grows p.talk k q c.kind_is c.good c.short w.fits).packets_are

rows_there : (t : Talk) (terms : Terms) (command : List ℕ) (x : Sets) → InRows x → t ≡ Queried terms command x → is_rows (context_of t).spot ≡ true
rows_there t terms command x r e = subst (λ (u : Talk). is_rows (context_of u).spot ≡ true) (sym (e ∙ ap (Queried terms command) r.sets_are)) refl

-- what a call was told more, and what is left then
record Shared (c : Call) (ms : List Made) (t : Told) (p : Place) (talk : Talk) : Type 0 where
  pub share : Option (List Group)
  pub gave : Gave false (returned_so c t ms) talk p.older p.trial share
  pub left : Left talk false share

module _ (c : Call) (ms : List Made) (p : Place) (o : Option (List Group)) (w : GaveAt false ms p o) where
  -- with another list of groups for the newest response
  shared : (t : Told) (talk : Talk) (terms : Terms) (command : List ℕ) (x : Sets) (g : List Group) → talk ≡ Queried terms command x → Fits talk → o ≡ Some g
      → given_after t (kind_of c) (g ∷ givens w.olds) ≡ groups x ∷ givens w.olds → Shared c ms t p talk
  shared t talk terms command x g is fits share gives = record {
    share = Some (groups x);
    gave = record {
      olds = w.olds;
      given_is = ap (given_after t (kind_of c)) (w.given_is ∙ ap (λ s. onto s (givens w.olds)) share) ∙ gives;
      newest = all_given talk terms command x is fits;
      each = w.each;
      fits = fits;
      off = w.off;
    };
    left = record { terms = terms; command = command; sets = x; talk_is = is; share_is = refl; lone = λ e. absurd (cc) };
  }

  -- the end of a lone OK that was left
  end_shared : Left p.talk true o → Shared c ms ToldEnd p p.talk
  end_shared l = shared ToldEnd p.talk l.terms l.command l.sets (groups (known_part true l.sets)) l.talk_is w.fits l.share_is (ap (λ g. g ∷ givens w.olds) (lone_stop l.sets (l.lone refl)))

  module _ (l : Left p.talk false o) where
    fits_after : (k : Kind) (q : List ℕ) → Comes p k q → Fits (grow k p.talk q)
    fits_after k q come = (grows p.talk k q come.kind_is come.good come.short w.fits).fits

    grown : (k : Kind) (q : List ℕ) → grow k p.talk q ≡ Queried l.terms l.command (grow_sets (deprecates_eof l.terms.kept) k l.sets q)
    grown k q = grown_is p.talk l.terms l.command l.sets k q l.talk_is

    good_shared : (s : StatusFlags) (q : List ℕ) → Comes p (kinds.Good s) q → Shared c ms ToldEnd p (grow (kinds.Good s) p.talk q)
    good_shared s q come = shared ToldEnd (grow (kinds.Good s) p.talk q) l.terms l.command (Lone l.sets q s) (groups l.sets) (grown (kinds.Good s) q) (fits_after (kinds.Good s) q come) l.share_is refl

    end_rows : (s : StatusFlags) (q : List ℕ) → Comes p (kinds.End s) q → InRows l.sets
    end_rows s q come = end_in_rows l.sets q s _ (more_packets p ms o (kinds.End s) q l.terms l.command l.sets come w l.talk_is)

    row_rows : (q : List ℕ) → Comes p kinds.Row q → InRows l.sets
    row_rows q come = row_in_rows l.sets q _ (more_packets p ms o kinds.Row q l.terms l.command l.sets come w l.talk_is)

    stop_shared : (s : StatusFlags) (q : List ℕ) → Comes p (kinds.End s) q → Shared c ms ToldEnd p (grow (kinds.End s) p.talk q)
    stop_shared s q come =
        let r = end_rows s q come in
        let is : p.talk ≡ Queried l.terms l.command (Begun r.older r.head r.rows) = l.talk_is ∙ ap (Queried l.terms l.command) r.sets_are in
        shared ToldEnd (grow (kinds.End s) p.talk q) l.terms l.command (Ended r.older r.head r.rows q s) (groups (Begun r.older r.head r.rows)) (ap (λ u. grow (kinds.End s) u q) is) (fits_after (kinds.End s) q come)
        (l.share_is ∙ ap (λ x. Some (groups x)) r.sets_are) refl

    row_shared : (login : Login) (q : List ℕ) → Comes p kinds.Row q → Shared c ms (row_at login p q) p (grow kinds.Row p.talk q)
    row_shared login q come =
        let r = row_rows q come in
        let x : Sets = Begun r.older r.head r.rows in
        let is : p.talk ≡ Queried l.terms l.command x = l.talk_is ∙ ap (Queried l.terms l.command) r.sets_are in
        let spot : (context_of p.talk).spot ≡ spots.Rows = ap (λ u. (context_of u).spot) is in
        let columns : (facts_at login p).columns ≡ head_columns r.head = (at_rows p.talk w.fits spot).known (facts_of login p.older) ∙ ap described is in
        let same : row_of (context_of p.talk).rows (facts_at login p).columns q ≡ row_of (context_of (Queried l.terms l.command x)).rows (head_columns r.head) q
        = ap (λ u. row_of (context_of u).rows (facts_at login p).columns q) is ∙ ap (λ cs. row_of (context_of (Queried l.terms l.command x)).rows cs q) columns in
        shared (row_at login p q) (grow kinds.Row p.talk q) l.terms l.command (Begun r.older r.head (q ∷ r.rows)) (groups x) (ap (λ u. grow kinds.Row u q) is) (fits_after kinds.Row q come)
        (l.share_is ∙ ap (λ y. Some (groups y)) r.sets_are) (ap (λ row. with_item row (groups x) ∷ givens w.olds) same)

    -- a payload that gives nothing leaves what was left
    quiet_left : (k : Kind) (q : List ℕ) → is_quiet k ≡ true → Left (grow k p.talk q) false o
    quiet_left k q quiet = record {
      terms = l.terms;
      command = l.command;
      sets = grow_sets (deprecates_eof l.terms.kept) k l.sets q;
      talk_is = grown k q;
      share_is = l.share_is ∙ ap Some (sym (quiet_groups (deprecates_eof l.terms.kept) k l.sets q quiet));
      lone = λ e. absurd (cc);
    }

-- rows are read where the exchange isn't over
rows_open : (s : Spot) → is_rows s ≡ true → is_idle s ≡ false
rows_open spots.Rows e = refl
rows_open _ e = cc

-- where something is left to be read, all before it was given
left_there : (p : Place) (o : Option (List Group)) → KeptAt p o → p.end_left ≡ false → is_over p.talk ≡ false → Left p.talk false o
left_there p o (inl (over, none)) e unread = absurd (cc)
left_there p o (inr l) e unread = subst (λ b. Left p.talk b o) e l

left_end : (p : Place) (o : Option (List Group)) → KeptAt p o → p.end_left ≡ true → Left p.talk true o
left_end p o (inl (over, none)) e = absurd (cc)
left_end p o (inr l) e = subst (λ b. Left p.talk b o) e l

module _ (login : Login) (ms : List Made) (p : Place) (o : Option (List Group)) (w : GaveAt false ms p o) where
  -- a call that reads, where it waits, fails or finds nothing
  module _ (c : Call) (kept : KeptAt p o) where
    waits_fine : IsHalted c ms p
    waits_fine = record { share = o; gave = shifted false (not (reads_sets c)) ms p.talk p.older p.trial o (λ x. refl) w; kept = λ _. kept }

    none_fine : Stopped c ms p (Returns ToldNone)
    none_fine = record { share = o; gave = told_gave c ms false ToldNone p o refl w; kept = λ _. kept }

    err_fine : (q rest : List ℕ) → Comes p kinds.Failed q → (e : ErrPacket) → IsFine c ms (refused_at p.trial (with_talk p (grow kinds.Failed p.talk q) rest) (server_error e))
    err_fine q rest come e = refused_fine c ms p.trial (with_talk p (grow kinds.Failed p.talk q) rest) o (server_error e) (w.off refl) (grown_gave false ms p o kinds.Failed q come w) (failed_over p.talk q) refl

  -- the next row
  item_kind : (k : Kind) (q rest : List ℕ) → Comes p k q → Left p.talk false o → IsFine NextRow ms (after_kind Item [] k (with_talk p (grow k p.talk q) rest) (row_at login p q))
  item_kind (kinds.Good s) q rest come l = let x = good_shared NextRow ms p o w l s q come in record { share = x.share; gave = x.gave; kept = λ _. inr x.left }
  item_kind (kinds.End s) q rest come l = let x = stop_shared NextRow ms p o w l s q come in record { share = x.share; gave = x.gave; kept = λ _. inr x.left }
  item_kind kinds.Row q rest come l = let x = row_shared NextRow ms p o w l login q come in record { share = x.share; gave = x.gave; kept = λ _. inr x.left }
  item_kind k q rest come l = (ms, NonePassed, Reading _ o refl (grown_gave false ms p o k q come w) (inr (quiet_left NextRow ms p o w l k q refl)))

  pub item_fine : KeptAt p o → IsFine NextRow ms (step_of login NextRow (Item ∷ []) p)
  item_fine kept = either (IsFine NextRow ms) p.end_left _ _
      (λ e. let x = end_shared NextRow ms p o w (left_end p o kept e) in record { share = x.share; gave = x.gave; kept = λ _. inr x.left })
      (λ e. either (IsFine NextRow ms) (is_over p.talk) _ _ (λ _. none_fine NextRow kept)
      (λ unread. let l = left_there p o kept e unread in reads_have (IsFine NextRow ms) p (faults_fine NextRow ms false p o w) login Item [] refl (waits_fine NextRow kept)
      (λ k quiet q rest come. (ms, NonePassed, Reading _ o refl (grown_gave false ms p o k q come w) (inr (quiet_left NextRow ms p o w l k q quiet))))
      (λ k q rest come. item_kind k q rest come l) (err_fine NextRow kept)))

  -- a set that a stream takes
  no_rows : (x : Sets) (terms : Terms) (command : List ℕ) → p.talk ≡ Queried terms command x → is_rows (context_of p.talk).spot ≡ false → InRows x → ⊥
  no_rows x terms command is e r = let yes = rows_there p.talk terms command x r is in absurd (cc)

  set_kind : (k : Kind) (q rest : List ℕ) → Comes p k q → Left p.talk false o → is_rows (context_of p.talk).spot ≡ false → IsFine TakeSet ms (after_kind Set [] k (with_talk p (grow k p.talk q) rest) (row_at login p q))
  set_kind (kinds.Good s) q rest come l e = record {
    share = o;
    gave = told_gave TakeSet ms false ToldReady (with_talk p (grow (kinds.Good s) p.talk q) rest) o refl (grown_gave false ms p o (kinds.Good s) q come w);
    kept = λ _. inr (record { terms = l.terms; command = l.command; sets = Lone l.sets q s; talk_is = grown_is p.talk l.terms l.command l.sets (kinds.Good s) q l.talk_is; share_is = l.share_is; lone = λ _. refl });
  }
  set_kind (kinds.End s) q rest come l e = absurd (no_rows l.sets l.terms l.command l.talk_is e (end_rows TakeSet ms p o w l s q come))
  set_kind kinds.Row q rest come l e = absurd (no_rows l.sets l.terms l.command l.talk_is e (row_rows TakeSet ms p o w l q come))
  set_kind k q rest come l e = (ms, NonePassed, Taking _ o refl (grown_gave false ms p o k q come w) (inr (quiet_left TakeSet ms p o w l k q refl)))

  neither : (a b : Bool) → (a || b) ≡ false → (a ≡ false) × (b ≡ false)
  neither true b e = cc
  neither false b e = (refl, e)

  pub set_fine : KeptAt p o → IsFine TakeSet ms (step_of login TakeSet (Set ∷ []) p)
  set_fine kept = either (IsFine TakeSet ms) (p.end_left || is_rows (context_of p.talk).spot) _ _
      (λ _. record { share = o; gave = told_gave TakeSet ms false ToldReady p o refl w; kept = λ _. kept })
      (λ e. let no = neither p.end_left (is_rows (context_of p.talk).spot) e in either (IsFine TakeSet ms) (is_over p.talk) _ _ (λ _. none_fine TakeSet kept)
      (λ unread. let l = left_there p o kept no.0 unread in reads_have (IsFine TakeSet ms) p (faults_fine TakeSet ms false p o w) login Set [] refl (waits_fine TakeSet kept)
      (λ k quiet q rest come. (ms, NonePassed, Taking _ o refl (grown_gave false ms p o k q come w) (inr (quiet_left TakeSet ms p o w l k q quiet))))
      (λ k q rest come. set_kind k q rest come l no.1) (err_fine TakeSet kept)))

  -- what is passed over
  module _ (c : Call) (part : Part) (passes : passes_over c ≡ true) (does : IsPassing c part) where
    passed_fine : (t : Told) (q rest : List ℕ) (k : Kind) → IsItem t → Shared c ms t p (grow k p.talk q) → IsFine c ms (Goes (part ∷ []) (with_talk p (grow k p.talk q) rest))
    passed_fine t q rest k item x = (returned_so c t ms, MorePassed ms t passes item NonePassed, Passing part _ x.share does x.gave (inr x.left))

    pass_kind : (k : Kind) (q rest : List ℕ) → Comes p k q → Left p.talk false o → IsFine c ms (Goes (part ∷ []) (with_talk p (grow k p.talk q) rest))
    pass_kind (kinds.Good s) q rest come l = passed_fine ToldEnd q rest (kinds.Good s) tt (good_shared c ms p o w l s q come)
    pass_kind (kinds.End s) q rest come l = passed_fine ToldEnd q rest (kinds.End s) tt (stop_shared c ms p o w l s q come)
    pass_kind kinds.Row q rest come l = passed_fine (row_at login p q) q rest kinds.Row tt (row_shared c ms p o w l login q come)
    pass_kind k q rest come l = (ms, NonePassed, Passing part _ o does (grown_gave false ms p o k q come w) (inr (quiet_left c ms p o w l k q refl)))

    end_passed : Left p.talk true o → IsFine c ms (Goes (part ∷ []) (without_end p))
    end_passed l = let x = end_shared c ms p o w l in (returned_so c ToldEnd ms, MorePassed ms ToldEnd passes tt NonePassed, Passing part _ x.share does x.gave (inr x.left))

    done_fine : KeptAt p o → IsFine c ms (Goes [] p)
    done_fine kept = (ms, NonePassed, Over p o passes w kept)

  pub drop_fine : KeptAt p o → IsFine DropResult ms (step_of login DropResult (All ∷ []) p)
  drop_fine kept = either (IsFine DropResult ms) p.end_left _ _ (λ e. end_passed DropResult All refl Drops (left_end p o kept e))
      (λ e. either (IsFine DropResult ms) (is_over p.talk) _ _ (λ _. done_fine DropResult All refl Drops kept)
      (λ unread. let l = left_there p o kept e unread in reads_have (IsFine DropResult ms) p (faults_fine DropResult ms false p o w) login All [] refl (waits_fine DropResult kept)
      (λ k quiet q rest come. pass_kind DropResult All refl Drops k q rest come l) (λ k q rest come. pass_kind DropResult All refl Drops k q rest come l) (err_fine DropResult kept)))

  pub skip_fine : KeptAt p o → IsFine SkipTaken ms (step_of login SkipTaken (Rest ∷ []) p)
  skip_fine kept = either (IsFine SkipTaken ms) p.end_left _ _ (λ e. end_passed SkipTaken Rest refl Skips (left_end p o kept e))
      (λ e. either (IsFine SkipTaken ms) (is_rows (context_of p.talk).spot) _ _
      (λ rows. let l = left_there p o kept e (rows_open (context_of p.talk).spot rows) in reads_have (IsFine SkipTaken ms) p (faults_fine SkipTaken ms false p o w) login Rest [] refl (waits_fine SkipTaken kept)
      (λ k quiet q rest come. pass_kind SkipTaken Rest refl Skips k q rest come l) (λ k q rest come. pass_kind SkipTaken Rest refl Skips k q rest come l) (err_fine SkipTaken kept))
      (λ _. done_fine SkipTaken Rest refl Skips kept))

-- the head of the first set of a query or of an execution
module _ (login : Login) (c : Call) (ms : List Made) (query : is_query c ≡ true) (plain : reads_sets c ≡ false) (parts : List Part) (tail : is_tail parts ≡ true) (p : Place) (w : GaveAt false ms p None) where
  quiet_head : (k : Kind) (q rest : List ℕ) → Comes p k q → is_quiet k ≡ true → IsFresh p.talk false → IsFine c ms (Goes (Head ∷ parts) (with_talk p (grow k p.talk q) rest))
  quiet_head k q rest come quiet f = (
    ms,
    NonePassed,
    HeadingAt parts (with_talk p (grow k p.talk q) rest) query tail refl
        (record { terms = f.terms; command = f.command; sets = grow_sets (deprecates_eof f.terms.kept) k f.sets q; talk_is = grown_is p.talk f.terms f.command f.sets k q f.talk_is; none = quiet_groups (deprecates_eof f.terms.kept) k f.sets q quiet ∙ f.none; lone = λ x. absurd (cc) })
        (grown_gave false ms p None k q come w),
  )

  head_kind : (k : Kind) (q rest : List ℕ) → Comes p k q → IsFresh p.talk false → is_rows (context_of p.talk).spot ≡ false → IsFine c ms (after_kind Head parts k (with_talk p (grow k p.talk q) rest) (row_at login p q))
  head_kind (kinds.Good s) q rest come f e = (
    ms,
    NonePassed,
    Answering parts (ending (with_talk p (grow (kinds.Good s) p.talk q) rest)) query tail
        (record { terms = f.terms; command = f.command; sets = Lone f.sets q s; talk_is = grown_is p.talk f.terms f.command f.sets (kinds.Good s) q f.talk_is; none = f.none; lone = λ _. refl })
        (grown_gave false ms p None (kinds.Good s) q come w),
  )
  head_kind (kinds.End s) q rest come f e =
      let r = end_in_rows f.sets q s _ (more_packets p ms None (kinds.End s) q f.terms f.command f.sets come w f.talk_is) in
      absurd (no_rows login ms p None w f.sets f.terms f.command f.talk_is e r)
  head_kind kinds.Row q rest come f e =
      let r = row_in_rows f.sets q _ (more_packets p ms None kinds.Row q f.terms f.command f.sets come w f.talk_is) in
      absurd (no_rows login ms p None w f.sets f.terms f.command f.talk_is e r)
  head_kind k q rest come f e = quiet_head k q rest come refl f

  pub heading_fine : p.end_left ≡ false → IsFresh p.talk false → IsFine c ms (step_of login c (Head ∷ parts) p)
  heading_fine none f = either (IsFine c ms) (is_rows (context_of p.talk).spot) _ _
      (λ _. (ms, NonePassed, Answering parts p query tail (subst (λ b. IsFresh p.talk b) (sym none) f) w))
      (λ e. reads_have (IsFine c ms) p (faults_fine c ms false p None w) login Head parts refl
      (record { share = None; gave = shifted false (not (reads_sets c)) ms p.talk p.older p.trial None (λ x. refl) w; kept = λ x. absurd (let no : not (reads_sets c) ≡ true = ap not plain in cc) })
      (λ k quiet q rest come. quiet_head k q rest come quiet f) (λ k q rest come. head_kind k q rest come f e)
      (λ q rest come x. refused_fine c ms p.trial (with_talk p (grow kinds.Failed p.talk q) rest) None (server_error x) (w.off refl) (grown_gave false ms p None kinds.Failed q come w) (failed_over p.talk q) refl))

-- what is known of a response was in it at some moment
known_given : (t : Talk) (terms : Terms) (command : List ℕ) (x : Sets) (end : Bool) → t ≡ Queried terms command x → (end ≡ true → is_lone x ≡ true) → Fits t → IsGiven (Some (groups (known_part end x))) t
known_given t terms command x false e lone f = all_given t terms command x e f
known_given t terms command (Lone older p s) true e lone f =
    subst (IsGiven (Some (groups older))) (sym e) (older, ((let one : Packet = record { kind = kinds.Good s; payload = p } in one) ∷ [], refl), refl, (subst Fits e f).kinds.2)
known_given t terms command _ true e lone f = absurd (let no : false ≡ true = lone refl in cc)

-- a query, or an execution, is answered: of its response nothing was given yet
fresh_gave : (made : List Made) (ms : List Made) (p : Place) → given made ≡ [] ∷ given ms → IsFresh p.talk p.end_left → GaveAt false ms p None → GaveAt false made p (Some [])
fresh_gave made ms p ready f w = record {
  olds = w.olds;
  given_is = ready ∙ ap (λ gs. [] ∷ gs) w.given_is;
  newest = subst (λ g. IsGiven (Some g) p.talk) f.none (known_given p.talk f.terms f.command f.sets p.end_left f.talk_is f.lone w.fits);
  each = w.each;
  fits = w.fits;
  off = w.off;
}

fresh_kept : (p : Place) → IsFresh p.talk p.end_left → KeptAt p (Some [])
fresh_kept p f = inr (record { terms = f.terms; command = f.command; sets = f.sets; talk_is = f.talk_is; share_is = ap Some (sym f.none); lone = f.lone })

answered_fine : (login : Login) (c : Call) (ms : List Made) → is_query c ≡ true → (p : Place) → IsFresh p.talk p.end_left → GaveAt false ms p None → IsFine c ms (step_of login c [] p)
answered_fine login (Query text) ms query p f w = record { share = Some []; gave = fresh_gave (returned_so (Query text) ToldReady ms) ms p refl f w; kept = λ _. fresh_kept p f }
answered_fine login (Execute statement params) ms query p f w = record { share = Some []; gave = fresh_gave (returned_so (Execute statement params) ToldReady ms) ms p refl f w; kept = λ _. fresh_kept p f }
answered_fine login c ms query p f w = absurd (cc)

-- the columns of the rows of an execution are learned before it is answered
learned_fresh : (c : Call) (ms : List Made) → is_query c ≡ true → (p : Place) (b : Bool) (st : Statements) → IsFresh p.talk p.end_left → GaveAt false ms p None → IsFine c ms (Goes [] (cond b (with_statements st p) p))
learned_fresh c ms query p true st f w = (ms, NonePassed, Answering [] (with_statements st p) query refl f w)
learned_fresh c ms query p false st f w = (ms, NonePassed, Answering [] p query refl f w)

pub answer_fine : (login : Login) (c : Call) (ms : List Made) → is_query c ≡ true → (parts : List Part) → is_tail parts ≡ true → (p : Place) → IsFresh p.talk p.end_left → GaveAt false ms p None → IsFine c ms (step_of login c parts p)
answer_fine login c ms query [] tail p f w = answered_fine login c ms query p f w
answer_fine login c ms query (Learn ∷ []) tail p f w = learned_fresh c ms query p (is_rows (context_of p.talk).spot) (with_columns (id_in c) (facts_at login p).columns p.statements) f w
answer_fine login c ms query parts tail p f w = absurd (cc)

pub pass_fine : (login : Login) (c : Call) (ms : List Made) (part : Part) (p : Place) (o : Option (List Group)) → IsPassing c part → GaveAt false ms p o → KeptAt p o → IsFine c ms (step_of login c (part ∷ []) p)
pass_fine login c ms part p o Drops w k = drop_fine login ms p o w k
pass_fine login c ms part p o Skips w k = skip_fine login ms p o w k

pub over_fine : (login : Login) (c : Call) (ms : List Made) → passes_over c ≡ true → (p : Place) (o : Option (List Group)) → GaveAt false ms p o → KeptAt p o → IsFine c ms (step_of login c [] p)
over_fine login c ms passes p o w k = record {
  share = o;
  gave = shifted false (closes ToldReady (kind_of c)) (returned_so c ToldReady ms) p.talk p.older p.trial o (λ x. refl) (told_gave c ms false ToldReady p o (over_same c passes (given ms)) w);
  kept = λ _. k;
}
