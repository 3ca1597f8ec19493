-- A batch, beside its executions, one after the other.
use Rattle.std.proofs.Common.{◌≡◌, ℕ, zero, suc, ◌<◌, ◌≤◌, length, drop, Bool, true, false, cond, List, [], ◌∷◌, ◌++◌, refl, sym, ap, subst, ◌∙◌, arith}
use Rattle.my_params.specs.declared.params.Params.{Params}
use Rattle.my_statements.specs.Prepared.{StatementView}
use Rattle.my_grammar.specs.declared.login.Login.{Login}
use Rattle.my_grammar.specs.Talk.{client_bytes, turns}
use Rattle.my_reading.specs.declared.call.Call.{Call}
use Rattle.my_reading.specs.declared.call.Call.TheVariants.{Execute, Batch, DropResult}
use Rattle.my_grammar.specs.Cut.{is_over}
use Rattle.my_reading.specs.declared.transaction.TxStatus.{TxStatus}
use Rattle.my_reading.specs.declared.transaction.TxStatus.TheVariants as txs
use Rattle.my_reading.specs.Course.{Part, All, Head, Command, Check, Run, Learn, Undo, Undone, Back, Step, Goes, Stops, Stop, Owes, Returns, Halt, halt, step, step_of, unless_owed, reads, undone, clean, parts_of, parts_of_batch, parts_of_lists, course}
use Rattle.my_reading.specs.Leads.{Leads, Here, Then}
use Rattle.my_reading.specs.Place.{Place, owed, with_status, without_end}
use Rattle.my_reading.specs.Told.{ToldReady}
use Rattle.my_reading.specs.Transactions.{is_given_up, rolled_back}
use Rattle.my_reading.proofs.Leading.{leads_to_course}
use Rattle.reading_laws.specs.Batches.{Alike, AlikePlaces, BatchesAreExecutions, all_done, executions, then_go}
use Rattle.reading_laws.proofs.Beside.{Beside, BothAll, BothHead, BothLearn, BothCheck, BothUndo, Sent, Pairs, End, More, Calms, Alone, Calm, Placed, Paired, Resting, Reverting, Returning, is_calm, is_placed, is_ready, returns_beside, reverts_beside, side_same, size, steps_beside}

-- where these parts of a call lead, and how it stops there
record Comes (login : Login) (call : Call) (parts : List Part) (p : Place) (h : Halt) : Type 0 where
  rest : List Part
  at : Place
  leads : Leads login call parts p rest at
  stops : step login call rest at ≡ Stops h.place h.stop

comes_after : (login : Login) (call : Call) (parts more : List Part) (p q : Place) (h : Halt) → step login call parts p ≡ Goes more q → Comes login call more q h → Comes login call parts p h
comes_after login call parts more p q h e x = record { rest = x.rest; at = x.at; leads = Then parts p more q x.rest x.at e x.leads; stops = x.stops }

leads_on : (login : Login) (call : Call) (parts more rest : List Part) (p q r : Place) → Leads login call parts p more q → Leads login call more q rest r → Leads login call parts p rest r
leads_on login call parts more rest p q r (Here a b) m = m
leads_on login call parts more rest p q r (Then a b next x e f one l) m = Then a b next x rest r one (leads_on login call next more rest x q r l m)

comes_on : (login : Login) (call : Call) (parts more : List Part) (p q : Place) (h : Halt) → Leads login call parts p more q → Comes login call more q h → Comes login call parts p h
comes_on login call parts more p q h l x = record { rest = x.rest; at = x.at; leads = leads_on login call parts more x.rest p q x.at l x.leads; stops = x.stops }

owed_alike : (q p : Place) → AlikePlaces q p → owed q ≡ owed p
owed_alike q p w = ap owed (sym (is_placed q p w)) ∙ ap (λ bytes. drop (length p.sent) (bytes ++ client_bytes (turns p.talk))) (side_same q.older p.older w.older)

-- a step where bytes are owed, and one without a part where none are
owing_step : (login : Login) (call : Call) (parts : List Part) (p : Place) (b : ℕ) (bytes : List ℕ) → owed p ≡ b ∷ bytes → step login call parts p ≡ Stops p Owes
unfolding step
owing_step login call parts p b bytes e = ap (λ x. unless_owed x p (step_of login call parts p)) e

ready_step : (login : Login) (call : Call) (p : Place) → owed p ≡ [] → step login call [] p ≡ Stops p (Returns ToldReady)
unfolding step
ready_step login call p e = ap (λ x. unless_owed x p (step_of login call [] p)) e

-- both stop, or the first call has no part left and the second one its further parts, while no transaction is given up
data Outcome (login : Login) (c d : Call) (tail xs ys : List Part) (p q : Place) : Type 0 where
  Both : (h k : Halt) → Comes login c xs p h → Comes login d ys q k → Alike k h → is_ready h.stop ≡ false → Outcome login c d tail xs ys p q
  Ends : (r s : Place) → Leads login c xs p [] r → Leads login d ys q tail s → AlikePlaces s r → is_given_up r.status ≡ false → Outcome login c d tail xs ys p q

-- a transaction that isn't given up stays as it is
calm_stays : (status : TxStatus) → is_given_up status ≡ false → rolled_back status ≡ status
calm_stays txs.None e = refl
calm_stays txs.InTransaction e = refl
calm_stays txs.RequiresRollback e = absurd (cc)

-- the cleaning of a call, where nothing is left to be read, no transaction is given up, and nothing is owed
module _ (login : Login) (c : Call) (xs : List Part) (p : Place) (ended : p.end_left ≡ false) (over : is_over p.talk ≡ true) (calm : is_given_up p.status ≡ false) (quiet : owed p ≡ []) where
  abbrev settled : Place
  settled = with_status (rolled_back p.status) p

  passes : Leads login c (Undo ∷ All ∷ Undone ∷ xs) p xs settled
  unfolding step
  passes =
      let undo : step login c (Undo ∷ All ∷ Undone ∷ xs) p ≡ Goes (All ∷ Undone ∷ xs) p
      = ap (λ x. unless_owed x p (step_of login c (Undo ∷ All ∷ Undone ∷ xs) p)) quiet ∙ ap (undone login c (All ∷ Undone ∷ xs) p) calm in
      let all : step login c (All ∷ Undone ∷ xs) p ≡ Goes (Undone ∷ xs) p
      = ap (λ x. unless_owed x p (step_of login c (All ∷ Undone ∷ xs) p)) quiet
      ∙ ap (λ b. cond b (Goes (All ∷ Undone ∷ xs) (without_end p)) (cond (is_over p.talk) (Goes (Undone ∷ xs) p) (reads login All (Undone ∷ xs) p))) ended
      ∙ ap (λ b. cond b (Goes (Undone ∷ xs) p) (reads login All (Undone ∷ xs) p)) over in
      let done : step login c (Undone ∷ xs) p ≡ Goes xs settled = ap (λ x. unless_owed x p (step_of login c (Undone ∷ xs) p)) quiet in
      Then (Undo ∷ All ∷ Undone ∷ xs) p (All ∷ Undone ∷ xs) p xs settled undo
      (Then (All ∷ Undone ∷ xs) p (Undone ∷ xs) p xs settled all (Then (Undone ∷ xs) p xs settled xs settled done (Here xs settled)))

  settled_alike : (q : Place) → AlikePlaces q p → AlikePlaces q settled
  settled_alike q w = record {
    talk = w.talk;
    older = w.older;
    end_left = w.end_left;
    taken = w.taken;
    statements = w.statements;
    status = w.status ∙ sym (calm_stays p.status calm);
    account = w.account;
    trial = w.trial;
    unread = w.unread;
    sent = w.sent;
  }

module _ (login : Login) (c d : Call) (tail : List Part) where
  earlier : (xs xs' ys ys' : List Part) (p p' q q' : Place) → step login c xs p ≡ Goes xs' p' → step login d ys q ≡ Goes ys' q' → Outcome login c d tail xs' ys' p' q' → Outcome login c d tail xs ys p q
  earlier xs xs' ys ys' p p' q q' e f (Both h k x y a r) = Both h k (comes_after login c xs xs' p p' h e x) (comes_after login d ys ys' q q' k f y) a r
  earlier xs xs' ys ys' p p' q q' e f (Ends r s l m w calm) = Ends r s (Then xs p xs' p' [] r e l) (Then ys q ys' q' tail s f m) w calm

  -- the first call goes alone
  ahead : (xs xs' ys : List Part) (p p' q : Place) → Leads login c xs p xs' p' → Outcome login c d tail xs' ys p' q → Outcome login c d tail xs ys p q
  ahead xs xs' ys p p' q n (Both h k x y a r) = Both h k (comes_on login c xs xs' p p' h n x) y a r
  ahead xs xs' ys p p' q n (Ends r s l m w calm) = Ends r s (leads_on login c xs xs' [] p p' r n l) m w calm

  owing : (xs ys : List Part) (p q : Place) (b : ℕ) (bytes : List ℕ) → owed p ≡ b ∷ bytes → AlikePlaces q p → Outcome login c d tail xs ys p q
  owing xs ys p q b bytes e w = Both (halt p Owes) (halt q Owes)
      (record { rest = xs; at = p; leads = Here xs p; stops = owing_step login c xs p b bytes e })
      (record { rest = ys; at = q; leads = Here ys q; stops = owing_step login d ys q b bytes (owed_alike q p w ∙ e) })
      (record { place = w; stop = refl }) refl

  -- a step of each, after which this is the outcome
  stepping : (n : ℕ) → ((us vs : List Part) (p q : Place) → size us p ≤ n → Placed c d tail p us vs → AlikePlaces q p → Outcome login c d tail us vs p q)
      → (x y : Part) (us vs : List Part) (p q : Place) → size (x ∷ us) p ≤ suc n → Beside c d tail (size (x ∷ us) p) (step login c (x ∷ us) p) (step login d (y ∷ vs) q)
      → Outcome login c d tail (x ∷ us) (y ∷ vs) p q
  stepping n go x y us vs p q h beside = by_steps (step login c (x ∷ us) p) (step login d (y ∷ vs) q) refl refl beside
    where
      by_steps : (s t : Step) → step login c (x ∷ us) p ≡ s → step login d (y ∷ vs) q ≡ t → Beside c d tail (size (x ∷ us) p) s t → Outcome login c d tail (x ∷ us) (y ∷ vs) p q
      by_steps (Goes us' p') (Goes vs' q') e f b =
          let less : size us' p' < size (x ∷ us) p = b.2 in
          earlier (x ∷ us) us' (y ∷ vs) vs' p p' q q' e f (go us' vs' p' q' (omega (arith, less, h)) b.0 b.1)
      by_steps (Goes us' p') (Stops q' t) e f b = absurd b
      by_steps (Stops p' s) (Goes vs' q') e f b = absurd b
      by_steps (Stops p' s) (Stops q' t) e f b = Both (halt p' s) (halt q' t)
          (record { rest = x ∷ us; at = p; leads = Here (x ∷ us) p; stops = e }) (record { rest = y ∷ vs; at = q; leads = Here (y ∷ vs) q; stops = f })
          (record { place = b.0; stop = b.1 }) b.2

  -- the first call's cleaning, which the second one doesn't have
  resting : (n : ℕ) → ((us vs : List Part) (p q : Place) → size us p ≤ n → Placed c d tail p us vs → AlikePlaces q p → Outcome login c d tail us vs p q)
      → (us vs : List Part) (p q : Place) → size (Undo ∷ All ∷ Undone ∷ us) p ≤ suc n → Pairs c d tail true us vs → p.end_left ≡ false → is_over p.talk ≡ true → is_given_up p.status ≡ false
      → AlikePlaces q p → Outcome login c d tail (Undo ∷ All ∷ Undone ∷ us) vs p q
  resting n go us vs p q h pairs ended over calm w = by_owed (owed p) refl
    where
      by_owed : (bytes : List ℕ) → owed p ≡ bytes → Outcome login c d tail (Undo ∷ All ∷ Undone ∷ us) vs p q
      by_owed (b ∷ bytes) e = owing (Undo ∷ All ∷ Undone ∷ us) vs p q b bytes e w
      by_owed [] e =
          let r = settled login c us p ended over calm e in
          ahead (Undo ∷ All ∷ Undone ∷ us) us vs p r q (passes login c us p ended over calm e)
          (go us vs r q (omega (arith, h)) (Paired true us vs pairs (is_calm p.status)) (settled_alike login c us p ended over calm e q w))

  outcome : (n : ℕ) (xs ys : List Part) (p q : Place) → size xs p ≤ n → Placed c d tail p xs ys → AlikePlaces q p → Outcome login c d tail xs ys p q
  outcome n xs ys p q h (Paired calm us vs End known) w = Ends p q (Here [] p) (Here tail q) w known
  outcome zero xs ys p q h placed w = absurd (omega (arith, h))
  outcome (suc n) xs ys p q h (Paired calm us vs (More b x y xs' ys' pair pairs) known) w =
      stepping n (λ us' vs' p' q' less b v. outcome n us' vs' p' q' less b v) x y xs' ys' p q h (steps_beside login c d tail p q w b x y xs' ys' (More b x y xs' ys' pair pairs) known)
  outcome (suc n) xs ys p q h (Paired calm us vs (Calms xs' ys' pairs) known) w =
      stepping n (λ us' vs' p' q' less b v. outcome n us' vs' p' q' less b v) Undone Undone xs' ys' p q h (steps_beside login c d tail p q w false Undone Undone xs' ys' (Calms xs' ys' pairs) known)
  outcome (suc n) xs ys p q h (Paired calm us vs (Alone xs' ys' pairs) known) w =
      stepping n (λ us' vs' p' q' less b v. outcome n us' vs' p' q' less b v) All All (Undo ∷ All ∷ Undone ∷ xs') ys' p q h
      (steps_beside login c d tail p q w true All All (Undo ∷ All ∷ Undone ∷ xs') ys' (Alone xs' ys' pairs) known)
  outcome (suc n) xs ys p q h (Reverting refused) w =
      stepping n (λ us' vs' p' q' less b v. outcome n us' vs' p' q' less b v) Undo Undo (Back ∷ []) (Back ∷ []) p q h (reverts_beside login c d tail p q w refused)
  outcome (suc n) xs ys p q h (Returning refused) w =
      stepping n (λ us' vs' p' q' less b v. outcome n us' vs' p' q' less b v) Back Back [] [] p q h (returns_beside login c d tail p q w refused)
  outcome (suc n) xs ys p q h (Resting us vs pairs ended over calm) w =
      resting n (λ us' vs' p' q' less b v. outcome n us' vs' p' q' less b v) us vs p q h pairs ended over calm w

  calls_outcome : (calm : Bool) (xs ys : List Part) (p q : Place) → Pairs c d tail calm xs ys → Calm calm p.status → AlikePlaces q p → Outcome login c d tail xs ys p q
  calls_outcome calm xs ys p q pairs known w = outcome (size xs p) xs ys p q (omega arith) (Paired calm xs ys pairs known) w

-- a call that isn't ready is the last one
last : (p : Place) (s : Stop) (go : Place → Halt) → is_ready s ≡ false → then_go p s go ≡ halt p s
last p (Returns ToldReady) go e = absurd (cc)
last p _ go e = refl

module _ (login : Login) (statement : StatementView) (all : List Params) where
  abbrev batch : Call
  batch = Batch statement all

  -- from these parts of the batch it comes to the like of this
  record Reaches (parts : List Part) (q : Place) (h : Halt) : Type 0 where
    halts : Halt
    comes : Comes login batch parts q halts
    alike : Alike halts h

  -- A call with this halt is followed by more: the batch is beside it, with further parts.
  after_call : (c : Call) (tail ys : List Part) (p q : Place) (go : Place → Halt) → Outcome login c batch tail (parts_of login c) ys p q
      → ((r s : Place) → AlikePlaces s r → is_given_up r.status ≡ false → Reaches tail s (go r)) → ((s : Place) (b : ℕ) (bytes : List ℕ) → owed s ≡ b ∷ bytes → step login batch tail s ≡ Stops s Owes)
      → Reaches ys q (then_go (course login c p).place (course login c p).stop go)
  after_call c tail ys p q go (Both h k x y a r) more owes =
      let is : course login c p ≡ h = leads_to_course login c p x.rest x.at h.place h.stop x.leads x.stops in
      subst (λ (g : Halt). Reaches ys q (then_go g.place g.stop go)) (sym is)
      (subst (Reaches ys q) (sym (last h.place h.stop go r)) (record { halts = k; comes = y; alike = a }))
  after_call c tail ys p q go (Ends r s l m w calm) more owes = by_owed (owed r) refl
    where
      reached : Reaches tail s (go r) → Reaches ys q (go r)
      reached x = record { halts = x.halts; comes = comes_on login batch ys tail q s x.halts m x.comes; alike = x.alike }

      by_owed : (bytes : List ℕ) → owed r ≡ bytes → Reaches ys q (then_go (course login c p).place (course login c p).stop go)
      by_owed [] e =
          let is : course login c p ≡ halt r (Returns ToldReady) = leads_to_course login c p [] r r (Returns ToldReady) l (ready_step login c r e) in
          subst (λ (g : Halt). Reaches ys q (then_go g.place g.stop go)) (sym is) (reached (more r s w calm))
      by_owed (b ∷ bytes) e =
          let is : course login c p ≡ halt r Owes = leads_to_course login c p [] r r Owes l (owing_step login c [] r b bytes e) in
          subst (λ (g : Halt). Reaches ys q (then_go g.place g.stop go)) (sym is) (record {
            halts = halt s Owes;
            comes = record { rest = tail; at = s; leads = m; stops = owes s b bytes (owed_alike s r w ∙ e) };
            alike = record { place = w; stop = refl };
          })

  none_left : (p q : Place) → AlikePlaces q p → Reaches [] q (all_done p (owed p))
  none_left p q w = by_owed (owed p) refl
    where
      by_owed : (bytes : List ℕ) → owed p ≡ bytes → Reaches [] q (all_done p bytes)
      by_owed [] e = record {
        halts = halt q (Returns ToldReady);
        comes = record { rest = []; at = q; leads = Here [] q; stops = ready_step login batch q (owed_alike q p w ∙ e) };
        alike = record { place = w; stop = refl };
      }
      by_owed (b ∷ bytes) e = record {
        halts = halt q Owes;
        comes = record { rest = []; at = q; leads = Here [] q; stops = owing_step login batch [] q b bytes (owed_alike q p w ∙ e) };
        alike = record { place = w; stop = refl };
      }

  -- the parts of one execution: of the first one, and of one after it
  module _ (params : Params) (tail : List Part) where
    abbrev c : Call
    c = Execute statement params

    after_cleaning : Pairs c batch (All ∷ tail) true (Command ∷ Head ∷ Learn ∷ []) (Run params ∷ Head ∷ Learn ∷ All ∷ tail)
    after_cleaning = More true _ _ _ _ (Sent params (λ login p. refl)) (More true _ _ _ _ BothHead (More true _ _ _ _ (BothLearn refl) End))

    first_pairs : Pairs c batch (All ∷ tail) false (parts_of login c) (Check params ∷ clean (Run params ∷ Head ∷ Learn ∷ All ∷ tail))
    first_pairs = More false _ _ _ _ (BothCheck params refl) (More false _ _ _ _ BothAll (More false _ _ _ _ BothUndo (More false _ _ _ _ BothAll (Calms _ _ after_cleaning))))

    later_pairs : Pairs c batch (All ∷ tail) true (parts_of login c) (Check params ∷ All ∷ Run params ∷ Head ∷ Learn ∷ All ∷ tail)
    later_pairs = More true _ _ _ _ (BothCheck params refl) (Alone _ _ after_cleaning)

  -- one execution, after which the rest of the lists is reached
  one_reaches : (params : Params) (lists : List Params) (ys : List Part) (p q : Place) → Outcome login (Execute statement params) batch (All ∷ parts_of_lists lists) (parts_of login (Execute statement params)) ys p q
      → ((r s : Place) → AlikePlaces s r → is_given_up r.status ≡ false → Reaches (parts_of_lists lists) s (executions login statement lists r))
      → Reaches ys q (executions login statement (params ∷ lists) p)
  one_reaches params lists ys p q o more =
      after_call (Execute statement params) (All ∷ parts_of_lists lists) ys p q _ o
      (λ r s v calm. after_call DropResult (parts_of_lists lists) (All ∷ parts_of_lists lists) r s _
      (calls_outcome login DropResult batch (parts_of_lists lists) true (All ∷ []) (All ∷ parts_of_lists lists) r s (More true All All [] (parts_of_lists lists) BothAll End) calm v)
      more (λ t b bytes e. owing_step login batch (parts_of_lists lists) t b bytes e))
      (λ t b bytes e. owing_step login batch (All ∷ parts_of_lists lists) t b bytes e)

  lists_reach : (lists : List Params) (p q : Place) → AlikePlaces q p → is_given_up p.status ≡ false → Reaches (parts_of_lists lists) q (executions login statement lists p)
  lists_reach [] p q w calm = none_left p q w
  lists_reach (params ∷ lists) p q w calm =
      one_reaches params lists (parts_of_lists (params ∷ lists)) p q
      (calls_outcome login (Execute statement params) batch (All ∷ parts_of_lists lists) true (parts_of login (Execute statement params)) (parts_of_lists (params ∷ lists)) p q (later_pairs params (parts_of_lists lists)) calm w)
      (λ r s v known. lists_reach lists r s v known)

  batch_reaches : (lists : List Params) (p q : Place) → AlikePlaces q p → Reaches (parts_of_batch lists) q (executions login statement lists p)
  batch_reaches [] p q w = none_left p q w
  batch_reaches (params ∷ lists) p q w =
      one_reaches params lists (parts_of_batch (params ∷ lists)) p q
      (calls_outcome login (Execute statement params) batch (All ∷ parts_of_lists lists) false (parts_of login (Execute statement params)) (parts_of_batch (params ∷ lists)) p q (first_pairs params (parts_of_lists lists)) tt w)
      (λ r s v known. lists_reach lists r s v known)

same_place : (p : Place) → AlikePlaces p p
same_place p = record { talk = refl; older = refl; end_left = refl; taken = refl; statements = refl; status = refl; account = refl; trial = refl; unread = refl; sent = refl }

pub batches_are_executions : BatchesAreExecutions
batches_are_executions login statement lists p =
    let reached = batch_reaches login statement lists lists p p (same_place p) in
    let comes = reached.comes in
    subst (λ (h : Halt). Alike h (executions login statement lists p)) (sym (leads_to_course login (Batch statement lists) p comes.rest comes.at reached.halts.place reached.halts.stop comes.leads comes.stops)) reached.alike
