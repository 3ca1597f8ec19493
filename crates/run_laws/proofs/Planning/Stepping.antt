-- What a step does to the link at its number.
use Rattle.std.proofs.Common.{ℕ, ◌≡◌, List, [], ◌∷◌, ◌++◌, Option, Some, None, Bool, true, false, refl, sym, ap, ◌∙◌, subst}
use Rattle.std.proofs.lemmas.List.{append-nil}
use Rattle.my_value.specs.RowParts.{RowParts}
use Rattle.my_grammar.specs.declared.login.Login.{Login}
use Rattle.my_link.specs.declared.dialer.DialItem.{DialItem}
use Rattle.my_link.specs.declared.link.ReadItem.{ReadItem}
use Rattle.my_link.specs.declared.link.WriteItem.{WriteItem}
use Rattle.my_link.specs.Looks.{Looks}
use Rattle.my_reading.specs.declared.answer.Answer.TheVariants as answers
use Rattle.my_reading.specs.declared.call.Call.{Call}
use Rattle.my_reading.specs.declared.call.Call.TheVariants.{NextRow, TakeSet, SkipTaken}
use Rattle.my_reading.specs.Calls.{kind_of}
use Rattle.my_client.specs.declared.poll.After.{After}
use Rattle.my_client.specs.declared.poll.After.TheVariants as after
use Rattle.my_script.specs.declared.action.Work.{Work}
use Rattle.my_script.specs.declared.action.Work.TheVariants as works
use Rattle.my_script.specs.declared.aim.Aim.{Aim}
use Rattle.my_script.specs.declared.aim.Aim.TheVariants as aims
use Rattle.my_script.specs.declared.transcript.Outcome.{Outcome}
use Rattle.my_script.specs.declared.transcript.Use.{Use}
use Rattle.my_script.specs.Streams.{is_skip}
use Rattle.my_link.specs.World.{Plans}
use Rattle.my_client.specs.Kept.{Asked, Kept, asking, asked_by, first_asked, first_kept}
use Rattle.my_steps.specs.Grows.{IsRefused, OnConnection, PolledOnce, IsClosed, Begins, BeginsOn, Calls, ConnectShows, Connects, HasPlan, Gathers, GathersOn, Collects, CollectsOn, CollectsAt, PollsOn, PollsCall, Then, Skips, Follows, Reads, ReadsOn, ReadsAt, Items, ItemsOn, ItemsAt, LetsGoWith, LetsGo, GoesOnWith, GoesOn, CancelsWith, Cancels, TellsWith, TellsFields, is_done, has_taken, WorkAt}
use Rattle.my_steps.specs.Grows as grows
use Rattle.my_steps.specs.Handle.{Handle, Absent, Dialing, Joined}
use Rattle.my_steps.specs.Sums.{failed_use, held_use, quiet}
use Rattle.run_laws.proofs.Planning.Spending.{Has}
use Rattle.run_laws.proofs.Planning.Walking.{OnePoll, Walks, polled_once, walks_both, walks_one}

-- from a link on, these polls lead to what is there
pub record WalksTo (n : ℕ) (us : List Use) (x : Looks) (taken : List ℕ) (t : Handle) : Type 0 where
  pub there : Bool
  pub kept : Kept
  pub link : Looks
  pub is : t ≡ Joined there kept link
  pub walks : Walks n us x taken link kept.taken

-- a dial of a link whose plan is known: it is held, it fails, or it gives the link
pub record LinksTo (n : ℕ) (is : List ReadItem) (ws : List WriteItem) (us : List Use) (t : Handle) : Type 0 where
  pub used : Use
  pub link : Looks
  pub uses : us ≡ quiet n ∷ used ∷ []
  pub has : Has link is ws
  pub walks : WalksTo n (used ∷ []) link [] t

pub data DialsTo (n : ℕ) (is : List ReadItem) (ws : List WriteItem) (us : List Use) (t : Handle) : Type 0 where
  IsHeld : (left : Option (List DialItem)) → us ≡ held_use n ∷ [] → t ≡ Dialing left → DialsTo n is ws us t
  HasFailed : us ≡ failed_use n ∷ [] → t ≡ Absent → DialsTo n is ws us t
  HasLinked : LinksTo n is ws us t → DialsTo n is ws us t

-- at a number whose dial is held: it stays so, it is dropped, or it is dialed again
pub data HeldTo (n : ℕ) (is : List ReadItem) (ws : List WriteItem) (us : List Use) (t : Handle) : Type 0 where
  Stays : (left : Option (List DialItem)) → us ≡ [] → t ≡ Dialing left → HeldTo n is ws us t
  IsLeft : us ≡ [] → t ≡ Absent → HeldTo n is ws us t
  Dials : DialsTo n is ws us t → HeldTo n is ws us t

-- by what is at the number; without a link and a dial nothing is done
abbrev pub Goes : ℕ → List ReadItem → List WriteItem → Handle → List Use → Handle → Type 0
Goes n is ws Absent us t = (us ≡ []) × (t ≡ Absent)
Goes n is ws (Dialing left) us t = HeldTo n is ws us t
Goes n is ws (Joined there k x) us t = WalksTo n us x k.taken t

module _ (n : ℕ) (is : List ReadItem) (ws : List WriteItem) where
  rests : (there : Bool) (k : Kept) (l : Kept) (x : Looks) (us : List Use) (t : Handle) → us ≡ [] → l.taken ≡ k.taken → t ≡ Joined there l x → WalksTo n us x k.taken t
  rests there k l x us t e f g = record {
    there = there;
    kept = l;
    link = x;
    is = g;
    walks = subst (λ (vs : List Use). Walks n vs x k.taken x l.taken) (sym e) (refl, f);
  }

  one : (there : Bool) (l : Kept) (x y : Looks) (taken : List ℕ) (u : Use) (us : List Use) (t : Handle) → us ≡ u ∷ [] → Walks n (u ∷ []) x taken y l.taken → t ≡ Joined there l y → WalksTo n us x taken t
  one there l x y taken u us t e w g = record { there = there; kept = l; link = y; is = g; walks = subst (λ (vs : List Use). Walks n vs x taken y l.taken) (sym e) w }

  refused : (h : Handle) (o : Outcome) (us : List Use) (t : Handle) → IsRefused h o us t → Goes n is ws h us t
  refused Absent o us t r = (r.uses, r.same)
  refused (Dialing left) o us t r = Stays left r.uses r.same
  refused (Joined there k x) o us t r = rests there k k x us t r.uses refl r.same

  once : (login : Login) (a : Asked) (k : Kept) (x : Looks) (o : Outcome) (us : List Use) (t : Handle) → PolledOnce login n a k x o us t → WalksTo n us x k.taken t
  once login a k x o us t r = one true r.end x r.link k.taken r.used us t r.uses (walks_one n r.used x k.taken r.link r.end.taken r.number (polled_once login a k x r.used.met r.after r.end r.link r.polled)) r.left

  closed : (k : Kept) (x : Looks) (call : Call) (o : Outcome) (us : List Use) (t : Handle) → IsClosed k x call o us t → WalksTo n us x k.taken t
  closed k x call o us t r = rests true k _ x us t r.uses refl r.left

  begins : (b : Bool) (login : Login) (call : Call) (k : Kept) (x : Looks) (o : Outcome) (us : List Use) (t : Handle) → Begins b login n call k x o us t → WalksTo n us x k.taken t
  begins true login call k x o us t r = closed k x call o us t r
  begins false login call k x o us t r = once login (asked_by k call) (asking k call None) x o us t r

  begins_on : (q : Option Asked) (login : Login) (call : Call) (k : Kept) (x : Looks) (o : Outcome) (us : List Use) (t : Handle) → BeginsOn q login n call k x o us t → WalksTo n us x k.taken t
  begins_on None login call k x o us t r = begins _ login call k x o us t r
  begins_on (Some a) login call k x o us t r = refused (Joined true k x) o us t r

  on : (R : Kept → Looks → Outcome → List Use → Handle → Type 0) (o : Outcome) (us : List Use) (h t : Handle) → ((k : Kept) (x : Looks) → R k x o us t → WalksTo n us x k.taken t) → OnConnection R h o us t → Goes n is ws h us t
  on R o us Absent t go r = refused Absent o us t r
  on R o us (Dialing left) t go r = refused (Dialing left) o us t r
  on R o us (Joined false k x) t go r = refused (Joined false k x) o us t r
  on R o us (Joined true k x) t go r = go k x r

  calls_go : (login : Login) (call : Call) (o : Outcome) (us : List Use) (h t : Handle) → Calls login n call h o us t → Goes n is ws h us t
  calls_go login call o us h t = on (λ k. BeginsOn k.pending login n call k) o us h t (λ k x. begins_on k.pending login call k x o us t)

  -- rows that are gathered
  gathers_on : (More : Asked → Kept → Looks → Outcome → Handle → Type 0) (u : Use) (us : List Use) (a : Asked) (end : Kept) (x y : Looks) (taken : List ℕ) (o : Outcome) (t : Handle) (p : After)
      → ((b : Asked) (k : Kept) → k.taken ≡ end.taken → More b k y o t → WalksTo n (u ∷ us) x taken t) → Walks n (u ∷ []) x taken y end.taken → GathersOn More a p end y o us t → WalksTo n (u ∷ us) x taken t
  gathers_on More u us a end x y taken o t after.Pending more w r = one true end x y taken u (u ∷ us) t (ap (λ (vs : List Use). u ∷ vs) r.1) w r.2
  gathers_on More u us a end x y taken o t (after.Answered answers.Ready) more w r = one true end x y taken u (u ∷ us) t (ap (λ (vs : List Use). u ∷ vs) r.1) w r.2
  gathers_on More u us a end x y taken o t (after.Answered (answers.Row row)) more w r = more _ _ refl r
  gathers_on More u us a end x y taken o t (after.Answered answers.SetEnd) more w r = one true end x y taken u (u ∷ us) t (ap (λ (vs : List Use). u ∷ vs) r.1) w r.2
  gathers_on More u us a end x y taken o t (after.Answered answers.NoSet) more w r = one true end x y taken u (u ∷ us) t (ap (λ (vs : List Use). u ∷ vs) r.1) w r.2
  gathers_on More u us a end x y taken o t (after.Answered (answers.Stmt prepared)) more w r = one true end x y taken u (u ∷ us) t (ap (λ (vs : List Use). u ∷ vs) r.1) w r.2
  gathers_on More u us a end x y taken o t (after.Answered (answers.Flag flag)) more w r = one true end x y taken u (u ∷ us) t (ap (λ (vs : List Use). u ∷ vs) r.1) w r.2
  gathers_on More u us a end x y taken o t (after.Failed e) more w r = one true end x y taken u (u ∷ us) t (ap (λ (vs : List Use). u ∷ vs) r.1) w r.2

  gathers : (login : Login) (us : List Use) (a : Asked) (k : Kept) (x : Looks) (o : Outcome) (t : Handle) → Gathers login n us a k x o t → WalksTo n us x k.taken t
  gathers login [] a k x o t r = absurd r
  gathers login (u ∷ us) a k x o t r =
      gathers_on (Gathers login n us) u us a r.1 x r.2 k.taken o t r.0
      (λ b m e w.
      let more : WalksTo n us r.2 m.taken t = gathers login us b m r.2 o t w in
      record { there = more.there; kept = more.kept; link = more.link; is = more.is; walks = (r.5, r.2, m.taken, subst (λ (bs : List ℕ). OnePoll u.met x k.taken r.2 bs) (sym e) poll, more.walks) })
      (walks_one n u x k.taken r.2 r.1.taken r.5 poll) r.4
    where
      poll : OnePoll u.met x k.taken r.2 r.1.taken
      poll = polled_once login a k x u.met r.0 r.1 r.2 r.3

  collects_by : (b : Bool) (login : Login) (k : Kept) (x : Looks) (o : Outcome) (us : List Use) (t : Handle) → Collects b login n k x o us t → WalksTo n us x k.taken t
  collects_by true login k x o us t r = closed k x _ o us t r
  collects_by false login k x o us t r = gathers login us _ _ x o t r

  collects_on : (q : Option Asked) (login : Login) (k : Kept) (x : Looks) (o : Outcome) (us : List Use) (t : Handle) → CollectsOn q login n k x o us t → WalksTo n us x k.taken t
  collects_on None login k x o us t r = collects_by _ login k x o us t r
  collects_on (Some a) login k x o us t r = refused (Joined true k x) o us t r

  pub collects_go : (login : Login) (o : Outcome) (us : List Use) (h t : Handle) → CollectsAt login n h o us t → Goes n is ws h us t
  collects_go login o us h t = on (λ k. CollectsOn k.pending login n k) o us h t (λ k x. collects_on k.pending login k x o us t)

  -- the handshake
  shown : (login : Login) (p : After) (end : Kept) (x y : Looks) (taken : List ℕ) (u : Use) (o : Outcome) (t : Handle) → Walks n (u ∷ []) x taken y end.taken → ConnectShows login n p end y o t → WalksTo n (u ∷ []) x taken t
  shown login after.Pending end x y taken u o t w r = one true end x y taken u (u ∷ []) t refl w r.1
  shown login (after.Answered answer) end x y taken u o t w r = one true end x y taken u (u ∷ []) t refl w r.1
  shown login (after.Failed e) end x y taken u o t w r = one false end x y taken u (u ∷ []) t refl w r.1

  connects : (login : Login) (a : Asked) (k : Kept) (x : Looks) (o : Outcome) (u : Use) (t : Handle) → Connects login n a k x o u t → WalksTo n (u ∷ []) x k.taken t
  connects login a k x o u t r = shown login r.after r.end x r.link k.taken u o t (walks_one n u x k.taken r.link r.end.taken r.number (polled_once login a k x u.met r.after r.end r.link r.polled)) r.shows

  -- a connection reads on, after the rest of a set that a stream took
  follows_go : (aim : Aim) (login : Login) (o : Outcome) (us : List Use) (h t : Handle) → Follows aim login n h o us t → Goes n is ws h us t
  follows_go aims.Take login o us h t r = calls_go login TakeSet o us h t r
  follows_go aims.Row login o us h t r = calls_go login NextRow o us h t r
  follows_go aims.Rows login o us h t r = collects_go login o us h t r

  then_goes : (b : Bool) (aim : Aim) (login : Login) (first : Outcome) (k : Kept) (x : Looks) (used : List Use) (mid : Handle) (o : Outcome) (later : List Use) (t : Handle) → WalksTo n used x k.taken mid → Then b (Follows aim login n) first mid o later t → WalksTo n (used ++ later) x k.taken t
  then_goes true aim login first k x used mid o later t w r =
      let more : WalksTo n later w.link w.kept.taken t = joined w.there w.kept w.link (subst (λ (h : Handle). Follows aim login n h o later t) w.is r) in
      record { there = more.there; kept = more.kept; link = more.link; is = more.is; walks = walks_both n used later x k.taken w.link w.kept.taken more.link more.kept.taken w.walks more.walks }
    where
      joined : (there : Bool) (l : Kept) (y : Looks) → Follows aim login n (Joined there l y) o later t → WalksTo n later y l.taken t
      joined there l y c = follows_go aim login o later (Joined there l y) t c
  then_goes false aim login first k x used mid o later t w r =
      subst (λ (vs : List Use). WalksTo n vs x k.taken t) (sym (ap (λ (vs : List Use). used ++ vs) r.1 ∙ append-nil used)) (subst (λ (h : Handle). WalksTo n used x k.taken h) (sym r.2) w)

  skips_go : (R : Outcome → List Use → Handle → Type 0) (aim : Aim) (login : Login) (k : Kept) (x : Looks) (o : Outcome) (us : List Use) (t : Handle) → ((first : Outcome) (used : List Use) (mid : Handle) → R first used mid → WalksTo n used x k.taken mid)
      → Skips R (Follows aim login n) o us t → WalksTo n us x k.taken t
  skips_go R aim login k x o us t f r = subst (λ (vs : List Use). WalksTo n vs x k.taken t) (sym r.uses) (then_goes (is_done r.first) aim login r.first k x r.used r.mid o r.later t (f r.first r.used r.mid r.skips) r.follows)

  reads_by : (b : Bool) (aim : Aim) (login : Login) (k : Kept) (x : Looks) (o : Outcome) (us : List Use) (t : Handle) → Reads b aim login n (Joined true k x) o us t → WalksTo n us x k.taken t
  reads_by true aim login k x o us t r = skips_go (Calls login n SkipTaken (Joined true k x)) aim login k x o us t (λ first used mid s. calls_go login SkipTaken first used (Joined true k x) mid s) r
  reads_by false aim login k x o us t r = follows_go aim login o us (Joined true k x) t r

  reads_on : (q : Option Asked) (aim : Aim) (login : Login) (k : Kept) (x : Looks) (o : Outcome) (us : List Use) (t : Handle) → ReadsOn q aim login n k x o us t → WalksTo n us x k.taken t
  reads_on None aim login k x o us t r = reads_by (has_taken login k) aim login k x o us t r
  reads_on (Some a) aim login k x o us t r = refused (Joined true k x) o us t r

  reads_go : (aim : Aim) (login : Login) (o : Outcome) (us : List Use) (h t : Handle) → ReadsAt aim login n h o us t → Goes n is ws h us t
  reads_go aim login o us h t = on (λ k. ReadsOn k.pending aim login n k) o us h t (λ k x. reads_on k.pending aim login k x o us t)

  -- an item
  items_by : (b : Bool) (login : Login) (k : Kept) (x : Looks) (o : Outcome) (us : List Use) (t : Handle) → Items b login n k x o us t → WalksTo n us x k.taken t
  items_by true login k x o us t r = calls_go login NextRow o us (Joined true k x) t r
  items_by false login k x o us t r = rests true k k x us t r.uses refl r.left

  items_on : (q : Option Asked) (login : Login) (k : Kept) (x : Looks) (o : Outcome) (us : List Use) (t : Handle) → ItemsOn q login n k x o us t → WalksTo n us x k.taken t
  items_on None login k x o us t r = items_by (has_taken login k) login k x o us t r
  items_on (Some a) login k x o us t r = refused (Joined true k x) o us t r

  items_go : (login : Login) (o : Outcome) (us : List Use) (h t : Handle) → ItemsAt login n h o us t → Goes n is ws h us t
  items_go login o us h t = on (λ k. ItemsOn k.pending login n k) o us h t (λ k x. items_on k.pending login k x o us t)

  lets_go_with : (q : Option Asked) (k : Kept) (x : Looks) (o : Outcome) (us : List Use) (t : Handle) → LetsGoWith q k x o us t → WalksTo n us x k.taken t
  lets_go_with None k x o us t r = rests true k k x us t r.uses refl r.left
  lets_go_with (Some a) k x o us t r = refused (Joined true k x) o us t r

  lets_go : (o : Outcome) (us : List Use) (h t : Handle) → LetsGo h o us t → Goes n is ws h us t
  lets_go o us h t r = on (λ k. LetsGoWith k.pending k) o us h t (λ k x. lets_go_with k.pending k x o us t) r

  polls_call : (b : Bool) (aim : Aim) (login : Login) (a : Asked) (k : Kept) (x : Looks) (o : Outcome) (us : List Use) (t : Handle) → PollsCall b aim login n a k x o us t → WalksTo n us x k.taken t
  polls_call true aim login a k x o us t r = skips_go (PolledOnce login n a k x) aim login k x o us t (λ first used mid s. once login a k x first used mid s) r
  polls_call false aim login a k x o us t r = once login a k x o us t r

  polls_on : (b : Bool) (rows : Option (List RowParts)) (aim : Aim) (login : Login) (a : Asked) (k : Kept) (x : Looks) (o : Outcome) (us : List Use) (t : Handle) → PollsOn b rows aim login n a k x o us t → WalksTo n us x k.taken t
  polls_on true rows aim login a k x o us t r = subst (λ (vs : List Use). WalksTo n vs x k.taken t) (sym r.1) (connects login a k x o r.0 t r.2)
  polls_on false None aim login a k x o us t r = polls_call (is_skip (kind_of a.call)) aim login a k x o us t r
  polls_on false (Some rows) aim login a k x o us t r = gathers login us a k x o t r

  goes_on_with : (q : Option Asked) (aim : Aim) (login : Login) (k : Kept) (x : Looks) (o : Outcome) (us : List Use) (t : Handle) → GoesOnWith q aim login n k x o us t → WalksTo n us x k.taken t
  goes_on_with None aim login k x o us t r = refused (Joined true k x) o us t r
  goes_on_with (Some a) aim login k x o us t r = polls_on _ a.rows aim login a k x o us t r

  pub dials_go : (login : Login) (plan : Option (List ReadItem)) (rules : Option (List WriteItem)) (items : Option (List DialItem)) (o : Outcome) (us : List Use) (t : Handle) → plan ≡ Some is → rules ≡ Some ws
      → grows.Dials login plan rules items n o us t → DialsTo n is ws us t
  dials_go login plan rules items o us t e f (grows.Holds left a b c d) = IsHeld left b c
  dials_go login plan rules items o us t e f (grows.Fails left a b c d) = HasFailed b c
  dials_go login plan rules items o us t e f (grows.Links used x left a new given r) =
      let told : HasPlan (Some is) rules x = subst (λ (p : Option (List ReadItem)). HasPlan p rules x) e new.planned in
      HasLinked (record {
        used = used;
        link = x;
        uses = a;
        has = record { items = told.0; writes = told.1 ∙ f };
        walks = connects login first_asked first_kept x o used t r;
      })

  goes_on_go : (login : Login) (plans : Plans) (aim : Aim) → plans.reads n ≡ Some is → plans.writes n ≡ Some ws → (o : Outcome) (us : List Use) (h t : Handle) → GoesOn login plans aim n h o us t → Goes n is ws h us t
  goes_on_go login plans aim e f o us Absent t r = refused Absent o us t r
  goes_on_go login plans aim e f o us (Dialing left) t r = Dials (dials_go login (plans.reads n) (plans.writes n) left o us t e f r)
  goes_on_go login plans aim e f o us (Joined false k x) t r = refused (Joined false k x) o us t r
  goes_on_go login plans aim e f o us (Joined true k x) t r = goes_on_with k.pending aim login k x o us t r

  cancels_with : (q : Option Asked) (login : Login) (k : Kept) (x : Looks) (o : Outcome) (us : List Use) (t : Handle) → CancelsWith q login k x o us t → WalksTo n us x k.taken t
  cancels_with None login k x o us t r = refused (Joined true k x) o us t r
  cancels_with (Some a) login k x o us t r = rests _ k _ x us t r.uses refl r.left

  cancels_go : (login : Login) (o : Outcome) (us : List Use) (h t : Handle) → Cancels login h o us t → Goes n is ws h us t
  cancels_go login o us Absent t r = refused Absent o us t r
  cancels_go login o us (Dialing left) t r = IsLeft r.uses r.left
  cancels_go login o us (Joined false k x) t r = refused (Joined false k x) o us t r
  cancels_go login o us (Joined true k x) t r = cancels_with k.pending login k x o us t r

  tells_with : (q : Option Asked) (login : Login) (k : Kept) (x : Looks) (o : Outcome) (us : List Use) (t : Handle) → TellsWith q login k x o us t → WalksTo n us x k.taken t
  tells_with None login k x o us t r = rests true k k x us t r.uses refl r.left
  tells_with (Some a) login k x o us t r = refused (Joined true k x) o us t r

  tells_go : (login : Login) (o : Outcome) (us : List Use) (h t : Handle) → TellsFields login h o us t → Goes n is ws h us t
  tells_go login o us h t = on (λ k. TellsWith k.pending login k) o us h t (λ k x. tells_with k.pending login k x o us t)

  -- what a step does at the number
  pub work_go : (login : Login) (plans : Plans) (work : Work) → plans.reads n ≡ Some is → plans.writes n ≡ Some ws → (o : Outcome) (us : List Use) (h t : Handle) → WorkAt login plans n work h o us t → Goes n is ws h us t
  work_go login plans (works.Begin call) e f o us h t r = calls_go login call o us h t r
  work_go login plans (works.Read aim) e f o us h t r = reads_go aim login o us h t r
  work_go login plans works.Item e f o us h t r = items_go login o us h t r
  work_go login plans works.LetGo e f o us h t r = lets_go o us h t r
  work_go login plans works.Miss e f o us h t r = refused h o us t r
  work_go login plans works.Fields e f o us h t r = tells_go login o us h t r
  work_go login plans (works.Poll aim) e f o us h t r = goes_on_go login plans aim e f o us h t r
  work_go login plans works.Cancel e f o us h t r = cancels_go login o us h t r
