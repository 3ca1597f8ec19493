-- Steps of two calls, one beside the other, at places that differ in the calls that began exchanges.
use Rattle.std.proofs.Common.{◌≡◌, ℕ, suc, ◌+◌, ◌*◌, ◌<◌, length, nat_lt, drop, map, Bool, true, false, cond, Option, Some, None, List, [], ◌∷◌, ◌++◌, refl, sym, ap, subst, ◌∙◌, arith}
use Rattle.my_frame.specs.Front.{Front, Waiting, Broken, Whole}
use Rattle.my_reply.specs.declared.err.ErrPacket.{ErrPacket}
use Rattle.my_reply.specs.ErrPacket.{err_at}
use Rattle.my_reply.specs.declared.replies.PrepareOk.{PrepareOk}
use Rattle.my_reply.specs.Replies.{prepare_ok_at}
use Rattle.my_params.specs.declared.params.Params.{Params}
use Rattle.my_grammar.specs.declared.account.Account.{Account}
use Rattle.my_grammar.specs.declared.login.Login.{Login}
use Rattle.my_grammar.specs.declared.spot.Kind.{Kind}
use Rattle.my_grammar.specs.declared.spot.Kind.TheVariants as kinds
use Rattle.my_grammar.specs.declared.spot.Terms.{Terms}
use Rattle.my_grammar.specs.Cut.{front_of, is_over, kind_of}
use Rattle.my_grammar.specs.Growth.{grow}
use Rattle.my_grammar.specs.Talk.{Talk, client_bytes, commands_in, context_of, limit_of, number_of, packets_of, turns, says, secret_in}
use Rattle.my_grammar.proofs.Cutting.Fronts.{takes_whole}
use Rattle.my_reading.specs.declared.call.Call.{Call}
use Rattle.my_reading.specs.declared.facts.Facts.{Facts}
use Rattle.my_reading.specs.Calls.{id_in, statement_in}
use Rattle.my_reading.specs.declared.error.ServerError.{ServerError}
use Rattle.my_reading.specs.declared.transaction.Trial.{Trial}
use Rattle.my_reading.specs.declared.transaction.Trial.TheVariants as trials
use Rattle.my_reading.specs.declared.transaction.TxStatus.{TxStatus}
use Rattle.my_reading.specs.declared.transaction.TxStatus.TheVariants as txs
use Rattle.my_reading.specs.Commands.{execution, queried}
use Rattle.my_reading.specs.Course.{Part, All, Head, Command, Check, Run, Learn, Undo, Undone, Back, Step, Goes, Stops, Stop, Returns, step, step_of, unless_owed, unless_long, reads, with_front, after_payload, after_kind, after_err, failed_at, is_drain, unfit, unless_cached, with_command, first_above, checked, executed, learned, refused_at, returned, undone, is_greeting, is_rows, above}
use Rattle.my_reading.specs.Errors.{invalid_data, server_error, unfit_error}
use Rattle.my_reading.specs.Executions.{Values, Fitting, Unfitting, values_for}
use Rattle.my_reading.specs.Facts.{facts_by}
use Rattle.my_reading.specs.Place.{Exchange, Place, client_side, exchanges, facts_at, facts_of, next_exchange, owed, terms_of, with_exchange, with_statements, with_status, with_talk, with_trial, without_end}
use Rattle.my_reading.specs.Statements.{Statements, is_cached, with_columns}
use Rattle.my_reading.specs.Told.{Told, ToldReady, ToldError}
use Rattle.my_reading.specs.Transactions.{is_given_up, rollback_text, rolled_back}
use Rattle.reading_laws.specs.Batches.{AlikePlaces}
use Rattle.reading_laws.proofs.Phases.{IsRefused}

-- a step that goes on leaves less of this
abbrev pub weight : Bool → ℕ
weight false = 0
weight true = 1

abbrev pub size : List Part → Place → ℕ
size parts p = suc (4 * length p.unread + 2 * length parts + weight p.end_left)

-- Parts of two calls that do the same: a batch executes its statement with parameters of its own.
pub data Pair (c d : Call) : Part → Part → Type 0 where
  BothAll : Pair c d All All
  BothHead : Pair c d Head Head
  BothUndo : Pair c d Undo Undo
  BothLearn : id_in c ≡ id_in d → Pair c d Learn Learn
  BothCheck : (params : Params) → statement_in c ≡ statement_in d → Pair c d (Check params) (Check params)
  BothRun : (params : Params) → statement_in c ≡ statement_in d → id_in c ≡ id_in d → Pair c d (Run params) (Run params)
  Sent : (params : Params) → ((login : Login) (p : Place) → next_exchange login c p ≡ executed login d p params) → Pair c d Command (Run params)

-- After the parts of the first call these are left of the second one. Where both clean no transaction is given up afterwards; from then on the
-- first call may clean where the second one doesn't.
pub data Pairs (c d : Call) (tail : List Part) : Bool → List Part → List Part → Type 0 where
  End : Pairs c d tail true [] tail
  More : (calm : Bool) (x y : Part) (xs ys : List Part) → Pair c d x y → Pairs c d tail calm xs ys → Pairs c d tail calm (x ∷ xs) (y ∷ ys)
  Calms : (xs ys : List Part) → Pairs c d tail true xs ys → Pairs c d tail false (Undone ∷ xs) (Undone ∷ ys)
  Alone : (xs ys : List Part) → Pairs c d tail true xs ys → Pairs c d tail true (All ∷ Undo ∷ All ∷ Undone ∷ xs) (All ∷ ys)

-- no transaction is given up, where that is known
abbrev pub Calm : Bool → TxStatus → Type 0
Calm true status = is_given_up status ≡ false
Calm false status = Unit {0}

-- The parts at the first call's place: both roll a transaction back that couldn't be committed, or the first call's cleaning is left where
-- nothing is left to be read.
pub data Placed (c d : Call) (tail : List Part) (p : Place) : List Part → List Part → Type 0 where
  Paired : (calm : Bool) (xs ys : List Part) → Pairs c d tail calm xs ys → Calm calm p.status → Placed c d tail p xs ys
  Reverting : IsRefused p.trial → Placed c d tail p (Undo ∷ Back ∷ []) (Undo ∷ Back ∷ [])
  Returning : IsRefused p.trial → Placed c d tail p (Back ∷ []) (Back ∷ [])
  Resting : (xs ys : List Part) → Pairs c d tail true xs ys → p.end_left ≡ false → is_over p.talk ≡ true → is_given_up p.status ≡ false
      → Placed c d tail p (Undo ∷ All ∷ Undone ∷ xs) ys

abbrev pub is_ready : Stop → Bool
is_ready (Returns ToldReady) = true
is_ready s = false

-- a step of each, where both go on with less or stop alike, but for the first call's end
module _ (c d : Call) (tail : List Part) where
  abbrev pub Beside : ℕ → Step → Step → Type 0
  Beside n (Goes xs p) (Goes ys q) = Placed c d tail p xs ys × AlikePlaces q p × (size xs p < n)
  Beside n (Goes xs p) (Stops q t) = ⊥
  Beside n (Stops p s) (Goes ys q) = ⊥
  Beside n (Stops p s) (Stops q t) = AlikePlaces q p × (t ≡ s) × (is_ready s ≡ false)

  either : (n : ℕ) (b : Bool) (s t u v : Step) → (b ≡ true → Beside n s u) → (b ≡ false → Beside n t v) → Beside n (cond b s t) (cond b u v)
  either n true s t u v f g = f refl
  either n false s t u v f g = g refl

-- what exchanges say, whichever calls began them
facts_same : (login : Login) (a b : List Exchange) → map (λ (e : Exchange). e.talk) a ≡ map (λ (e : Exchange). e.talk) b → facts_of login a ≡ facts_of login b
facts_same login [] [] e = refl
facts_same login [] (y ∷ b) e = absurd (cc)
facts_same login (x ∷ a) [] e = absurd (cc)
facts_same login (x ∷ a) (y ∷ b) e =
    let first : x.talk ≡ y.talk = cc in
    let more : map (λ (e : Exchange). e.talk) a ≡ map (λ (e : Exchange). e.talk) b = cc in
    ap (λ t. facts_by (packets_of t) (facts_of login a)) first ∙ ap (facts_by (packets_of y.talk)) (facts_same login a b more)

pub side_same : (a b : List Exchange) → map (λ (e : Exchange). e.talk) a ≡ map (λ (e : Exchange). e.talk) b → client_side a ≡ client_side b
side_same [] [] e = refl
side_same [] (y ∷ b) e = absurd (cc)
side_same (x ∷ a) [] e = absurd (cc)
side_same (x ∷ a) (y ∷ b) e =
    let first : x.talk ≡ y.talk = cc in
    let more : map (λ (e : Exchange). e.talk) a ≡ map (λ (e : Exchange). e.talk) b = cc in
    ap (λ t. client_side a ++ client_bytes (turns t)) first ∙ ap (λ bytes. bytes ++ client_bytes (turns y.talk)) (side_same a b more)

-- a transaction that was given up isn't so any more once it was rolled back
pub is_calm : (status : TxStatus) → is_given_up (rolled_back status) ≡ false
is_calm txs.None = refl
is_calm txs.InTransaction = refl
is_calm txs.RequiresRollback = refl

-- a place with other calls
abbrev pub placed : Call → List Exchange → Place → Place
placed call older p = record { call = call; talk = p.talk; older = older; end_left = p.end_left; taken = p.taken; statements = p.statements; status = p.status; account = p.account; trial = p.trial; unread = p.unread; sent = p.sent }

module _ (login : Login) (c d : Call) (tail : List Part) (p : Place) (call : Call) (older : List Exchange) (same : map (λ (e : Exchange). e.talk) older ≡ map (λ (e : Exchange). e.talk) p.older) where
  abbrev q : Place
  q = placed call older p

  abbrev Steps : ℕ → Step → Step → Type 0
  Steps = Beside c d tail

  facts_are : facts_at login q ≡ facts_at login p
  facts_are = ap (facts_by (packets_of p.talk)) (facts_same login older p.older same)

  terms_are : terms_of login (exchanges q) ≡ terms_of login (exchanges p)
  terms_are = ap (λ (f : Facts). let t : Terms = record { kept = (context_of p.talk).terms.kept; limit = f.settings.limit } in t) facts_are

  owed_is : owed q ≡ owed p
  owed_is = ap (λ bytes. drop (length p.sent) (bytes ++ client_bytes (turns p.talk))) (side_same older p.older same)

  -- places with the same exchanges
  like : (r : Place) → r.older ≡ p.older → AlikePlaces (placed call older r) r
  like r e = record { talk = refl; older = same ∙ ap (map (λ (e : Exchange). e.talk)) (sym e); end_left = refl; taken = refl; statements = refl; status = refl; account = refl; trial = refl; unread = refl; sent = refl }

  here : AlikePlaces q p
  here = like p refl

  unfit_beside : (n : ℕ) → Steps n (unfit login p) (unfit login q)
  unfit_beside n = (here, ap (λ (f : Facts). Returns (ToldError (invalid_data f.place))) facts_are, refl)

  -- a payload that is read
  module _ (part : Part) (tells : is_drain part ≡ false) (xs ys : List Part) (payload rest : List ℕ) (stays : (k : Kind) → Placed c d tail (with_talk p (grow k p.talk payload) rest) (part ∷ xs) (part ∷ ys)) (shorter : length rest < length p.unread) where
    abbrev most : ℕ
    most = size (part ∷ xs) p

    abbrev new : Kind → Place
    new k = with_talk p (grow k p.talk payload) rest

    again : (k : Kind) → Steps most (Goes (part ∷ xs) (new k)) (Goes (part ∷ ys) (with_talk q (grow k p.talk payload) rest))
    again k = (stays k, like (new k) refl, omega (arith, shorter))

    refused_beside : (e : ServerError) (x : Trial) → Steps most (refused_at x (new kinds.Failed) e) (refused_at x (with_talk q (grow kinds.Failed p.talk payload) rest) e)
    refused_beside e trials.Off = (like (new kinds.Failed) refl, refl, refl)
    refused_beside e trials.On = (Reverting tt, like (with_trial (trials.Refused e) (with_status txs.RequiresRollback (new kinds.Failed))) refl, omega (arith, shorter))
    refused_beside e (trials.Refused first) = (like (with_trial trials.Off (new kinds.Failed)) refl, refl, refl)

    err_beside : (o : Option ErrPacket) → Steps most (after_err login p (new kinds.Failed) o) (after_err login q (with_talk q (grow kinds.Failed p.talk payload) rest) o)
    err_beside None = unfit_beside most
    err_beside (Some e) = refused_beside (server_error e) p.trial

    failed_beside : (o : Option ErrPacket) → Steps most (failed_at login part xs p (new kinds.Failed) o) (failed_at login part ys q (with_talk q (grow kinds.Failed p.talk payload) rest) o)
    failed_beside o = either c d tail most (is_drain part) _ _ _ _ (λ e. absurd (cc)) (λ _. err_beside o)

    cached_beside : (k : Kind) (o : Option PrepareOk) → Steps most (unless_cached login p o (Goes (part ∷ xs) (new k))) (unless_cached login q o (Goes (part ∷ ys) (with_talk q (grow k p.talk payload) rest)))
    cached_beside k None = again k
    cached_beside k (Some ok) = either c d tail most (is_cached p.statements ok.id) _ _ _ _ (λ _. unfit_beside most) (λ _. again k)

    said_beside : (k : Kind) (o : Option ℕ) → Steps most (unless_long p (limit_of p.talk) o (Goes (part ∷ xs) (new k))) (unless_long q (limit_of p.talk) o (Goes (part ∷ ys) (with_talk q (grow k p.talk payload) rest)))
    said_beside k None = again k
    said_beside k (Some len) = (here, refl, refl)

    payload_beside : ((k : Kind) (row other : Told) → Steps most (after_kind part xs k (new k) row) (after_kind part ys k (with_talk q (grow k p.talk payload) rest) other))
        → (k : Kind) → Steps most (after_payload login part xs p (new k) payload k) (after_payload login part ys q (with_talk q (grow k p.talk payload) rest) payload k)
    payload_beside by_kind kinds.Bad = (here, ap (λ (f : Facts). Returns (ToldError (unfit_error (context_of p.talk).spot payload f.place))) facts_are, refl)
    payload_beside by_kind kinds.Failed = failed_beside (err_at (is_greeting (context_of p.talk).spot) payload)
    payload_beside by_kind (kinds.Greets n) = said_beside (kinds.Greets n) (above (limit_of p.talk) (says login (secret_in p.talk) (kinds.Greets n) payload))
    payload_beside by_kind (kinds.Asks n) = said_beside (kinds.Asks n) (above (limit_of p.talk) (says login (secret_in p.talk) (kinds.Asks n) payload))
    payload_beside by_kind (kinds.Prepared params columns) = cached_beside (kinds.Prepared params columns) (prepare_ok_at payload)
    payload_beside by_kind k = by_kind k _ _

  reads_beside : (part : Part) → is_drain part ≡ false → (xs ys : List Part) → ((k : Kind) (payload rest : List ℕ) → Placed c d tail (with_talk p (grow k p.talk payload) rest) (part ∷ xs) (part ∷ ys))
      → ((k : Kind) (payload rest : List ℕ) (row other : Told) → length rest < length p.unread
      → Steps (size (part ∷ xs) p) (after_kind part xs k (with_talk p (grow k p.talk payload) rest) row) (after_kind part ys k (with_talk q (grow k p.talk payload) rest) other))
      → Steps (size (part ∷ xs) p) (reads login part xs p) (reads login part ys q)
  reads_beside part tells xs ys stays by_kind = by_front (front_of p.talk p.unread) refl
    where
      by_front : (x : Front) → front_of p.talk p.unread ≡ x → Steps (size (part ∷ xs) p) (with_front login part xs p x) (with_front login part ys q x)
      by_front Waiting e = (here, refl, refl)
      by_front (Broken fault) e = (here, refl, refl)
      by_front (Whole payload rest next) e =
          let shorter : length rest < length p.unread = (takes_whole (number_of (turns p.talk)) (limit_of p.talk) p.unread payload rest next e).shorter in
          payload_beside part tells xs ys payload rest (λ k. stays k payload rest) shorter (λ k row other. by_kind k payload rest row other shorter) (kind_of p.talk payload)

  all_kind : (xs ys : List Part) → ((k : Kind) (payload rest : List ℕ) → Placed c d tail (with_talk p (grow k p.talk payload) rest) (All ∷ xs) (All ∷ ys))
      → (k : Kind) (payload rest : List ℕ) (row other : Told) → length rest < length p.unread → Steps (size (All ∷ xs) p) (after_kind All xs k (with_talk p (grow k p.talk payload) rest) row) (after_kind All ys k (with_talk q (grow k p.talk payload) rest) other)
  all_kind xs ys stays k payload rest row other shorter = (stays k payload rest, like (with_talk p (grow k p.talk payload) rest) refl, omega (arith, shorter))

  all_beside : (xs ys : List Part) → ((r : Place) → r.status ≡ p.status → Placed c d tail r (All ∷ xs) (All ∷ ys))
      → (p.end_left ≡ false → is_over p.talk ≡ true → Placed c d tail p xs ys)
      → Steps (size (All ∷ xs) p) (step_of login c (All ∷ xs) p) (step_of login d (All ∷ ys) q)
  all_beside xs ys stays over = either c d tail (size (All ∷ xs) p) p.end_left _ _ _ _
      (λ e. let one : weight p.end_left ≡ 1 = ap weight e in (stays (without_end p) refl, like (without_end p) refl, omega (arith, one)))
      (λ e. either c d tail (size (All ∷ xs) p) (is_over p.talk) _ _ _ _ (λ f. (over e f, here, omega arith))
      (λ _. reads_beside All refl xs ys (λ k payload rest. stays (with_talk p (grow k p.talk payload) rest) refl) (all_kind xs ys (λ k payload rest. stays (with_talk p (grow k p.talk payload) rest) refl))))

  -- the statement is executed at both places
  executed_is : (params : Params) → executed login d q params ≡ executed login d p params
  executed_is params = ap (λ t. execution t p.statements (id_in d) (values_for (statement_in d) params)) terms_are

  -- these parts are left of both calls, wherever no transaction ends
  module _ (xs ys : List Part) (stands : (r : Place) → r.status ≡ p.status → r.trial ≡ p.trial → Placed c d tail r xs ys) where
    -- a command that is sent
    long_beside : (n : ℕ) → size xs p < n → (t : Talk) (o : Option ℕ)
        → Steps n (unless_long p (limit_of t) o (Goes xs (with_exchange p c t))) (unless_long q (limit_of t) o (Goes ys (with_exchange q d t)))
    long_beside n less t None = (
      stands (with_exchange p c t) refl refl,
      record { talk = refl; older = ap (λ ts. p.talk ∷ ts) same; end_left = refl; taken = refl; statements = refl; status = refl; account = refl; trial = refl; unread = refl; sent = refl },
      omega (arith, less),
    )
    long_beside n less t (Some len) = (here, refl, refl)

    command_beside : (n : ℕ) → size xs p < n → (o u : Option Talk) → u ≡ o → Steps n (with_command c xs p o) (with_command d ys q u)
    command_beside n less o u e = subst (λ z. Steps n (with_command c xs p o) (with_command d ys q z)) (sym e) (by_talk o)
      where
        by_talk : (o : Option Talk) → Steps n (with_command c xs p o) (with_command d ys q o)
        by_talk None = (stands p refl refl, here, less)
        by_talk (Some t) = long_beside n less t (first_above (limit_of t) (commands_in t))

    undone_beside : (n : ℕ) → size xs p < n → (b : Bool) → Steps n (undone login c xs p b) (undone login d ys q b)
    undone_beside n less true = command_beside n less _ _ (ap (λ t. Some (queried t rollback_text)) terms_are)
    undone_beside n less false = (stands p refl refl, here, less)

    checked_beside : (n : ℕ) → size xs p < n → (v w : Values) → w ≡ v → Steps n (checked xs p v) (checked ys q w)
    checked_beside n less v w e = subst (λ z. Steps n (checked xs p v) (checked ys q z)) (sym e) (by_values v)
      where
        by_values : (v : Values) → Steps n (checked xs p v) (checked ys q v)
        by_values (Fitting values) = (stands p refl refl, here, less)
        by_values (Unfitting x) = (here, refl, refl)

    learned_beside : (n : ℕ) → size xs p < n → id_in c ≡ id_in d
        → Steps n (Goes xs (learned c p (facts_at login p))) (Goes ys (learned d q (facts_at login q)))
    learned_beside n less e = by_rows (is_rows (context_of p.talk).spot)
      where
        by_rows : (b : Bool)
            → Steps n (Goes xs (cond b (with_statements (with_columns (id_in c) (facts_at login p).columns p.statements) p) p))
            (Goes ys (cond b (with_statements (with_columns (id_in d) (facts_at login q).columns q.statements) q) q))
        by_rows true = (
          stands (with_statements (with_columns (id_in c) (facts_at login p).columns p.statements) p) refl refl,
          record {
            talk = refl;
            older = same;
            end_left = refl;
            taken = refl;
            statements = ap (λ i. with_columns i (facts_at login q).columns p.statements) (sym e) ∙ ap (λ (f : Facts). with_columns (id_in c) f.columns p.statements) facts_are;
            status = refl;
            account = refl;
            trial = refl;
            unread = refl;
            sent = refl;
          },
          less,
        )
        by_rows false = (stands p refl refl, here, less)

  -- a transaction that couldn't be committed is rolled back, and both calls return why
  module _ (refused : IsRefused p.trial) where
    reverting_beside : Steps (size (Undo ∷ Back ∷ []) p) (step_of login c (Undo ∷ Back ∷ []) p) (step_of login d (Undo ∷ Back ∷ []) q)
    reverting_beside = undone_beside (Back ∷ []) (Back ∷ []) (λ r e f. Returning (subst IsRefused (sym f) refused)) (size (Undo ∷ Back ∷ []) p) (omega arith) (is_given_up p.status)

    returned_beside : (n : ℕ) (x : Trial) → IsRefused x → Steps n (returned p x) (returned q x)
    returned_beside n (trials.Refused first) r = (like (with_trial trials.Off (with_status (rolled_back p.status) p)) refl, refl, refl)
    returned_beside n trials.Off r = absurd r
    returned_beside n trials.On r = absurd r

    returning_beside : Steps (size (Back ∷ []) p) (step_of login c (Back ∷ []) p) (step_of login d (Back ∷ []) q)
    returning_beside = either c d tail (size (Back ∷ []) p) (is_over p.talk) _ _ _ _ (λ _. returned_beside (size (Back ∷ []) p) p.trial refused)
        (λ _. reads_beside Back refl [] [] (λ k payload rest. Returning refused)
        (λ k payload rest row other shorter. (Returning refused, like (with_talk p (grow k p.talk payload) rest) refl, omega (arith, shorter))))

  -- parts of both calls, where a part of each has gone
  module _ (calm : Bool) (xs ys : List Part) (pairs : Pairs c d tail calm xs ys) (known : Calm calm p.status) where
    stands_so : (r : Place) → r.status ≡ p.status → r.trial ≡ p.trial → Placed c d tail r xs ys
    stands_so r e f = Paired calm xs ys pairs (subst (Calm calm) (sym e) known)

    head_kind : (k : Kind) (payload rest : List ℕ) (row other : Told) → length rest < length p.unread
        → Steps (size (Head ∷ xs) p) (after_kind Head xs k (with_talk p (grow k p.talk payload) rest) row) (after_kind Head ys k (with_talk q (grow k p.talk payload) rest) other)
    head_kind (kinds.Good status) payload rest row other shorter = (
      Paired calm xs ys pairs known,
      record { talk = refl; older = same; end_left = refl; taken = refl; statements = refl; status = refl; account = refl; trial = refl; unread = refl; sent = refl },
      omega (arith, shorter),
    )
    head_kind k payload rest row other shorter =
        (Paired calm (Head ∷ xs) (Head ∷ ys) (More calm Head Head xs ys BothHead pairs) known, like (with_talk p (grow k p.talk payload) rest) refl, omega (arith, shorter))

    part_beside : (x y : Part) → Pair c d x y → Steps (size (x ∷ xs) p) (step_of login c (x ∷ xs) p) (step_of login d (y ∷ ys) q)
    part_beside x y BothAll = all_beside xs ys (λ r e. Paired calm (All ∷ xs) (All ∷ ys) (More calm All All xs ys BothAll pairs) (subst (Calm calm) (sym e) known)) (λ e f. stands_so p refl refl)
    part_beside x y BothHead = either c d tail (size (Head ∷ xs) p) (is_rows (context_of p.talk).spot) _ _ _ _
        (λ _. (stands_so p refl refl, here, omega arith))
        (λ _. reads_beside Head refl xs ys (λ k payload rest. Paired calm (Head ∷ xs) (Head ∷ ys) (More calm Head Head xs ys BothHead pairs) known) head_kind)
    part_beside x y BothUndo = undone_beside xs ys stands_so (size (Undo ∷ xs) p) (omega arith) (is_given_up p.status)
    part_beside x y (BothLearn e) = learned_beside xs ys stands_so (size (Learn ∷ xs) p) (omega arith) e
    part_beside x y (BothCheck params e) = checked_beside xs ys stands_so (size (Check params ∷ xs) p) (omega arith) _ _ (ap (λ s. values_for s params) (sym e))
    part_beside x y (BothRun params e i) = command_beside xs ys stands_so (size (Run params ∷ xs) p) (omega arith) _ _
        (executed_is params
        ∙ (ap (λ id. execution (terms_of login (exchanges p)) p.statements id (values_for (statement_in d) params)) (sym i)
        ∙ ap (λ s. execution (terms_of login (exchanges p)) p.statements (id_in c) (values_for s params)) (sym e)))
    part_beside x y (Sent params f) = command_beside xs ys stands_so (size (Command ∷ xs) p) (omega arith) _ _ (executed_is params ∙ sym (f login p))

  -- after the cleaning of both, and before that of the first call alone
  calms_beside : (xs ys : List Part) → Pairs c d tail true xs ys → Steps (size (Undone ∷ xs) p) (step_of login c (Undone ∷ xs) p) (step_of login d (Undone ∷ ys) q)
  calms_beside xs ys pairs = (Paired true xs ys pairs (is_calm p.status), record { talk = refl; older = same; end_left = refl; taken = refl; statements = refl; status = refl; account = refl; trial = refl; unread = refl; sent = refl }, omega arith)

  alone_beside : (xs ys : List Part) → Pairs c d tail true xs ys → is_given_up p.status ≡ false
      → Steps (size (All ∷ Undo ∷ All ∷ Undone ∷ xs) p) (step_of login c (All ∷ Undo ∷ All ∷ Undone ∷ xs) p) (step_of login d (All ∷ ys) q)
  alone_beside xs ys pairs known = all_beside (Undo ∷ All ∷ Undone ∷ xs) ys
      (λ r e. Paired true (All ∷ Undo ∷ All ∷ Undone ∷ xs) (All ∷ ys) (Alone xs ys pairs) (subst (Calm true) (sym e) known)) (λ e f. Resting xs ys pairs e f known)

  parts_beside : (calm : Bool) (x y : Part) (xs ys : List Part) → Pairs c d tail calm (x ∷ xs) (y ∷ ys) → Calm calm p.status
      → Steps (size (x ∷ xs) p) (step_of login c (x ∷ xs) p) (step_of login d (y ∷ ys) q)
  parts_beside calm x y xs ys (More b u v us vs pair pairs) known = part_beside b us vs pairs known u v pair
  parts_beside calm x y xs ys (Calms us vs pairs) known = calms_beside us vs pairs
  parts_beside calm x y xs ys (Alone us vs pairs) known = alone_beside us vs pairs known

  -- while bytes are owed both wait
  owed_beside : (x y : Part) (xs ys : List Part) → Steps (size (x ∷ xs) p) (step_of login c (x ∷ xs) p) (step_of login d (y ∷ ys) q)
      → Steps (size (x ∷ xs) p) (step login c (x ∷ xs) p) (step login d (y ∷ ys) q)
  unfolding step
  owed_beside x y xs ys steps =
      subst (λ bytes. Steps (size (x ∷ xs) p) (step login c (x ∷ xs) p) (unless_owed bytes q (step_of login d (y ∷ ys) q))) (sym owed_is) (by_owed (owed p))
    where
      by_owed : (bytes : List ℕ) → Steps (size (x ∷ xs) p) (unless_owed bytes p (step_of login c (x ∷ xs) p)) (unless_owed bytes q (step_of login d (y ∷ ys) q))
      by_owed [] = steps
      by_owed (b ∷ bytes) = (here, refl, refl)

-- a place like another is it, with other calls
pub is_placed : (q p : Place) → AlikePlaces q p → placed q.call q.older p ≡ q
is_placed q p w =
    ap (λ (x : Talk). let r : Place = record { call = q.call; talk = x; older = q.older; end_left = p.end_left; taken = p.taken; statements = p.statements; status = p.status; account = p.account; trial = p.trial; unread = p.unread; sent = p.sent } in r) (sym w.talk)
    ∙ ap (λ (x : Bool). let r : Place = record { call = q.call; talk = q.talk; older = q.older; end_left = x; taken = p.taken; statements = p.statements; status = p.status; account = p.account; trial = p.trial; unread = p.unread; sent = p.sent } in r) (sym w.end_left)
    ∙ ap (λ (x : Bool). let r : Place = record { call = q.call; talk = q.talk; older = q.older; end_left = q.end_left; taken = x; statements = p.statements; status = p.status; account = p.account; trial = p.trial; unread = p.unread; sent = p.sent } in r) (sym w.taken)
    ∙ ap (λ (x : Statements). let r : Place = record { call = q.call; talk = q.talk; older = q.older; end_left = q.end_left; taken = q.taken; statements = x; status = p.status; account = p.account; trial = p.trial; unread = p.unread; sent = p.sent } in r) (sym w.statements)
    ∙ ap (λ (x : TxStatus). let r : Place = record { call = q.call; talk = q.talk; older = q.older; end_left = q.end_left; taken = q.taken; statements = q.statements; status = x; account = p.account; trial = p.trial; unread = p.unread; sent = p.sent } in r) (sym w.status)
    ∙ ap (λ (x : Account). let r : Place = record { call = q.call; talk = q.talk; older = q.older; end_left = q.end_left; taken = q.taken; statements = q.statements; status = q.status; account = x; trial = p.trial; unread = p.unread; sent = p.sent } in r) (sym w.account)
    ∙ ap (λ (x : Trial). let r : Place = record { call = q.call; talk = q.talk; older = q.older; end_left = q.end_left; taken = q.taken; statements = q.statements; status = q.status; account = q.account; trial = x; unread = p.unread; sent = p.sent } in r) (sym w.trial)
    ∙ ap (λ (x : List ℕ). let r : Place = record { call = q.call; talk = q.talk; older = q.older; end_left = q.end_left; taken = q.taken; statements = q.statements; status = q.status; account = q.account; trial = q.trial; unread = x; sent = p.sent } in r) (sym w.unread)
    ∙ ap (λ (x : List ℕ). let r : Place = record { call = q.call; talk = q.talk; older = q.older; end_left = q.end_left; taken = q.taken; statements = q.statements; status = q.status; account = q.account; trial = q.trial; unread = q.unread; sent = x } in r) (sym w.sent)

module _ (login : Login) (c d : Call) (tail : List Part) (p q : Place) (w : AlikePlaces q p) where
  -- a step of each, at places that are alike
  abbrev Stepping : Part → Part → List Part → List Part → Type 0
  Stepping x y xs ys = Beside c d tail (size (x ∷ xs) p) (step login c (x ∷ xs) p) (step login d (y ∷ ys) q)

  alike_beside : (x y : Part) (xs ys : List Part) → Beside c d tail (size (x ∷ xs) p) (step login c (x ∷ xs) p) (step login d (y ∷ ys) (placed q.call q.older p)) → Stepping x y xs ys
  alike_beside x y xs ys steps = subst (λ r. Beside c d tail (size (x ∷ xs) p) (step login c (x ∷ xs) p) (step login d (y ∷ ys) r)) (is_placed q p w) steps

  pub steps_beside : (calm : Bool) (x y : Part) (xs ys : List Part) → Pairs c d tail calm (x ∷ xs) (y ∷ ys) → Calm calm p.status → Stepping x y xs ys
  steps_beside calm x y xs ys pairs known = alike_beside x y xs ys
      (owed_beside login c d tail p q.call q.older w.older x y xs ys (parts_beside login c d tail p q.call q.older w.older calm x y xs ys pairs known))

  pub reverts_beside : IsRefused p.trial → Stepping Undo Undo (Back ∷ []) (Back ∷ [])
  reverts_beside refused = alike_beside Undo Undo (Back ∷ []) (Back ∷ [])
      (owed_beside login c d tail p q.call q.older w.older Undo Undo (Back ∷ []) (Back ∷ []) (reverting_beside login c d tail p q.call q.older w.older refused))

  pub returns_beside : IsRefused p.trial → Stepping Back Back [] []
  returns_beside refused = alike_beside Back Back [] []
      (owed_beside login c d tail p q.call q.older w.older Back Back [] [] (returning_beside login c d tail p q.call q.older w.older refused))
