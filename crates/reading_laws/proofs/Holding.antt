-- Each prepared statement is kept, but those that are about to be closed, at each change of a place.
use Rattle.std.proofs.Common.{◌≡◌, ℕ, ◌≤◌, length, Bool, true, false, cond, Option, Some, None, IfSome, List, [], ◌∷◌, ◌⊎◌, inl, inr, refl, sym, ap, subst, ◌∙◌, arith}
use Rattle.my_auth.specs.declared.chain.AuthStand.{AuthStand}
use Rattle.my_flags.specs.declared.flags.StatusFlags.{StatusFlags}
use Rattle.my_reply.specs.declared.column.Column.{Column}
use Rattle.my_grammar.specs.declared.spot.Kind.{Kind}
use Rattle.my_grammar.specs.declared.spot.Kind.TheVariants as kinds
use Rattle.my_grammar.specs.declared.spot.Terms.{Terms}
use Rattle.my_grammar.specs.Cut.{is_idle, is_over}
use Rattle.my_grammar.specs.Growth.{grow}
use Rattle.my_grammar.specs.Talk.{Talk, chain_spot, context_of, stand_in, stand_next}
use Rattle.my_statements.specs.Cache.{has_id, has_query, held}
use Rattle.my_statements.specs.declared.statement.StmtInner.{StmtInner}
use Rattle.my_reading.specs.declared.call.Call.{Call}
use Rattle.my_reading.specs.declared.facts.Facts.{Facts}
use Rattle.my_reading.specs.Calls.{id_in}
use Rattle.my_reading.specs.Commands.{closing}
use Rattle.my_reading.specs.Course.{learned, is_rows}
use Rattle.my_reading.specs.Place.{Exchange, Place, exchanges, with_exchange, with_statements, with_talk}
use Rattle.my_reading.specs.Statements.{Statements, cleared, held_in, is_cached, leaving, with_columns, with_fetched, with_new, with_prepared, without_statement}
use Rattle.reading_laws.specs.Kept.{EachIsKept, IsFreed, IsKept, Resets, prepared_in, ByReset, ByChange}
use Rattle.reading_laws.proofs.Lists.{any_fronted, any_left, few_fronted, few_left, new_few, new_is_there, stays_or_leaves}
use Rattle.reading_laws.proofs.Talks.{IsFresh, grown_done, grown_fresh, is_open, is_failed, ComesFresh, refused_done}

-- each statement is kept, but those with P
abbrev pub EachBut : (ℕ → Type 0) → Statements → List Exchange → List Exchange → Type 0
EachBut P st since [] = Unit {0}
EachBut P st since (e ∷ es) = IfSome (prepared_in e.talk) (λ id. IsKept st since id ⊎ P id) × EachBut P st (e ∷ since) es

abbrev pub newest_of : Place → List Exchange
newest_of p = record { call = p.call; talk = p.talk } ∷ []

-- so it is, no reply to one to prepare is awaited, and the cache has no more than it keeps
abbrev pub HoldsBut : (ℕ → Type 0) → Place → Type 0
HoldsBut P p = EachBut P p.statements [] (exchanges p) × (is_open p.talk ≡ false)
    × (length p.statements.cache.list ≤ p.statements.cache.capacity)

abbrev pub Holds : Place → Type 0
Holds p = HoldsBut (λ id. ⊥) p

-- What the newest exchange prepares isn't kept yet: its id isn't cached, nor is its text.
abbrev pub HoldsBefore : List ℕ → Place → Type 0
HoldsBefore query p = EachBut (λ id. ⊥) p.statements (newest_of p) p.older × IsFresh (λ ok. is_cached p.statements ok.id ≡ false) p.talk
    × (held_in p.statements query ≡ None) × (length p.statements.cache.list ≤ p.statements.cache.capacity)

some_weaker : (P Q : ℕ → Type 0) → ((id : ℕ) → P id → Q id) → (o : Option ℕ) → IfSome o P → IfSome o Q
some_weaker P Q f None w = tt
some_weaker P Q f (Some id) w = f id w

none_some : (P : ℕ → Type 0) (o : Option ℕ) → o ≡ None → IfSome o P
none_some P None e = tt
none_some P (Some id) e = absurd (cc)

-- one exchange more in front of both
freed_further : (since later : List Exchange) (e : Exchange) → ((id : ℕ) → IsFreed id since → IsFreed id later) → (id : ℕ) → IsFreed id (e ∷ since) → IsFreed id (e ∷ later)
freed_further since later e f id (inl x) = inl x
freed_further since later e f id (inr x) = inr (f id x)

kept_further : (Q : ℕ → Type 0) (st : Statements) (later : List Exchange) (e : Exchange) (id : ℕ) → IsKept st later id ⊎ Q id → IsKept st (e ∷ later) id ⊎ Q id
kept_further Q st later e id (inl (inl x)) = inl (inl x)
kept_further Q st later e id (inl (inr (inl x))) = inl (inr (inl (inr x)))
kept_further Q st later e id (inl (inr (inr x))) = inl (inr (inr x))
kept_further Q st later e id (inr x) = inr x

-- Where other statements are cached and other exchanges are newer, each statement is kept that is cached still or was freed.
module _ (P Q : ℕ → Type 0) (st new : Statements) (empty : st.cache.capacity ≡ 0 → new.cache.capacity ≡ 0) where
  one_moves : (since later : List Exchange) → ((id : ℕ) → is_cached st id ≡ true → IsKept new later id ⊎ Q id)
      → ((id : ℕ) → IsFreed id since → IsFreed id later) → ((id : ℕ) → P id → IsKept new later id ⊎ Q id)
      → (id : ℕ) → IsKept st since id ⊎ P id → IsKept new later id ⊎ Q id
  one_moves since later cached freed but id (inl (inl x)) = cached id x
  one_moves since later cached freed but id (inl (inr (inl x))) = inl (inr (inl (freed id x)))
  one_moves since later cached freed but id (inl (inr (inr x))) = inl (inr (inr (empty x)))
  one_moves since later cached freed but id (inr x) = but id x

  each_moves : (since later : List Exchange) → ((id : ℕ) → is_cached st id ≡ true → IsKept new later id ⊎ Q id)
      → ((id : ℕ) → IsFreed id since → IsFreed id later) → ((id : ℕ) → P id → IsKept new later id ⊎ Q id)
      → (es : List Exchange) → EachBut P st since es → EachBut Q new later es
  each_moves since later cached freed but [] w = tt
  each_moves since later cached freed but (e ∷ es) w = (
    some_weaker (λ id. IsKept st since id ⊎ P id) (λ id. IsKept new later id ⊎ Q id) (one_moves since later cached freed but) (prepared_in e.talk) w.0,
    each_moves (e ∷ since) (e ∷ later) (λ id x. kept_further Q new later e id (cached id x)) (freed_further since later e freed)
        (λ id x. kept_further Q new later e id (but id x)) es w.1,
  )

-- the same statements
each_stays : (P : ℕ → Type 0) (st : Statements) (since later : List Exchange) → ((id : ℕ) → IsFreed id since → IsFreed id later)
    → (es : List Exchange) → EachBut P st since es → EachBut P st later es
each_stays P st since later freed es w = each_moves P P st st (λ e. e) since later (λ id x. inl (inl x)) freed (λ id x. inr x) es w

pub each_is_kept : (st : Statements) (since es : List Exchange) → EachBut (λ id. ⊥) st since es → EachIsKept st since es
each_is_kept st since [] w = tt
each_is_kept st since (e ∷ es) w =
    (some_weaker (λ id. IsKept st since id ⊎ ⊥) (IsKept st since) is_left (prepared_in e.talk) w.0, each_is_kept st (e ∷ since) es w.1)
  where
    is_left : (id : ℕ) → IsKept st since id ⊎ ⊥ → IsKept st since id
    is_left id (inl x) = x
    is_left id (inr x) = absurd x

-- an OK ends a chain
ended : (status : StatusFlags) (o : Option AuthStand) → stand_next (kinds.Good status) o ≡ None
ended status None = refl
ended status (Some stand) = refl

-- an exchange that reset the server's session is over
pub reset_is_over : (t : Talk) → Resets t → is_over t ≡ true
reset_is_over t (ByReset terms ok status e) = ap is_over e
reset_is_over t (ByChange terms secret first change chain ok status e) = ap is_over e ∙ ap (λ o. is_idle (chain_spot o)) (ended status (stand_in first chain))

-- after a payload, which comes where one is awaited

freed_grown : (p : Place) (k : Kind) (q rest : List ℕ) → is_over p.talk ≡ false → (id : ℕ) → IsFreed id (newest_of p) → IsFreed id (newest_of (with_talk p (grow k p.talk q) rest))
freed_grown p k q rest awaited id (inl (inl w)) = inl (inl (w.0, ap (λ x. grow k x q) w.1))
freed_grown p k q rest awaited id (inl (inr w)) = let done = reset_is_over p.talk w in absurd (cc)
freed_grown p k q rest awaited id (inr w) = inr w

pub grown_holds : (P : ℕ → Type 0) (p : Place) (k : Kind) (q rest : List ℕ) → is_over p.talk ≡ false → HoldsBut P p → HoldsBut P (with_talk p (grow k p.talk q) rest)
grown_holds P p k q rest awaited w =
    let new = with_talk p (grow k p.talk q) rest in
    let d = grown_done (λ id. IsKept p.statements [] id ⊎ P id) k p.talk q (w.0.0, w.1) in
    ((d.0, each_stays P p.statements (newest_of p) (newest_of new) (freed_grown p k q rest awaited) p.older w.0.1), d.1, w.2)

pub grown_before : (query : List ℕ) (p : Place) (k : Kind) (q rest : List ℕ) → is_over p.talk ≡ false → is_failed k ≡ false
    → ComesFresh (λ ok. is_cached p.statements ok.id ≡ false) k q → HoldsBefore query p → HoldsBefore query (with_talk p (grow k p.talk q) rest)
grown_before query p k q rest awaited e fresh w = (
  each_stays (λ id. ⊥) p.statements (newest_of p) (newest_of (with_talk p (grow k p.talk q) rest)) (freed_grown p k q rest awaited) p.older w.0,
  grown_fresh (λ ok. is_cached p.statements ok.id ≡ false) k p.talk q e fresh w.1,
  w.2,
  w.3,
)

-- after the statement was refused
pub refused_holds : (query : List ℕ) (p : Place) (q rest : List ℕ) → is_over p.talk ≡ false → HoldsBefore query p → Holds (with_talk p (grow kinds.Failed p.talk q) rest)
refused_holds query p q rest awaited w =
    let d = refused_done (λ ok. is_cached p.statements ok.id ≡ false) (λ id. IsKept p.statements [] id ⊎ ⊥) p.talk q w.1 in
    ((d.0, each_stays (λ id. ⊥) p.statements (newest_of p) (newest_of (with_talk p (grow kinds.Failed p.talk q) rest)) (freed_grown p kinds.Failed q rest awaited) p.older w.0), d.1, w.3)

-- after an exchange began
pub opened_holds : (P : ℕ → Type 0) (p : Place) (call : Call) (t : Talk) → prepared_in t ≡ None → is_open t ≡ false → HoldsBut P p → HoldsBut P (with_exchange p call t)
opened_holds P p call t none done w = (
  (
    none_some (λ id. IsKept p.statements [] id ⊎ P id) (prepared_in t) none,
    each_stays P p.statements [] (newest_of (with_exchange p call t)) (λ id x. absurd x) (exchanges p) w.0,
  ),
  done,
  w.2,
)

pub opened_before : (query : List ℕ) (p : Place) (call : Call) (t : Talk) → IsFresh (λ ok. is_cached p.statements ok.id ≡ false) t
    → held_in p.statements query ≡ None → Holds p → HoldsBefore query (with_exchange p call t)
opened_before query p call t fresh none w =
    (each_stays (λ id. ⊥) p.statements [] (newest_of (with_exchange p call t)) (λ id x. absurd x) (exchanges p) w.0, fresh, none, w.2)

-- after one was closed, no other was left out
pub closing_holds : (P : ℕ → Type 0) (p : Place) (call : Call) (terms : Terms) (id : ℕ) → ((i : ℕ) → P i → i ≡ id) → HoldsBut P p
    → Holds (with_exchange p call (closing terms id))
closing_holds P p call terms id one w =
    let since = newest_of (with_exchange p call (closing terms id)) in (
      (
        tt,
        each_moves P (λ i. ⊥) p.statements p.statements (λ e. e) [] since (λ i x. inl (inl x)) (λ i x. absurd x)
            (λ i x. inl (inr (inl (inl (inl (terms, ap (λ n. closing terms n) (sym (one i x)))))))) (exchanges p) w.0,
      ),
      refl,
      w.2,
    )

pub weaker_holds : (P Q : ℕ → Type 0) (p : Place) → ((i : ℕ) → P i → Q i) → HoldsBut P p → HoldsBut Q p
weaker_holds P Q p f w =
    (each_moves P Q p.statements p.statements (λ e. e) [] [] (λ i x. inl (inl x)) (λ i x. x) (λ i x. inr (f i x)) (exchanges p) w.0, w.1, w.2)

-- the statements change, and the exchanges don't
pub forgotten_holds : (p : Place) (id : ℕ) → Holds p → HoldsBut (λ i. i ≡ id) (with_statements (without_statement id p.statements) p)
forgotten_holds p id w =
    let fewer = few_left (has_id id) p.statements.cache.list in
    let few = w.2 in (
      each_moves (λ i. ⊥) (λ i. i ≡ id) p.statements (without_statement id p.statements) (λ e. e) [] []
          (λ i x. still i (any_left i id p.statements.cache.list x)) (λ i x. x) (λ i x. absurd x) (exchanges p) w.0,
      w.1,
      omega (arith, fewer, few),
    )
  where
    still : (i : ℕ) → (is_cached (without_statement id p.statements) i ≡ true) ⊎ (i ≡ id) → IsKept (without_statement id p.statements) [] i ⊎ (i ≡ id)
    still i (inl x) = inl (inl x)
    still i (inr x) = inr x

reset_prepares_none : (t : Talk) → Resets t → prepared_in t ≡ None
reset_prepares_none t (ByReset terms ok status e) = ap prepared_in e
reset_prepares_none t (ByChange terms secret first change chain ok status e) = ap prepared_in e

-- after the server's session was reset
pub cleared_holds : (p : Place) → Resets p.talk → Holds p → Holds (with_statements (cleared p.statements) p)
cleared_holds p reset w = (
  (
    none_some (λ i. IsKept (cleared p.statements) [] i ⊎ ⊥) (prepared_in p.talk) (reset_prepares_none p.talk reset),
    each_moves (λ i. ⊥) (λ i. ⊥) p.statements (cleared p.statements) (λ e. e) (newest_of p) (newest_of p)
        (λ i x. inl (inr (inl (inl (inr reset))))) (λ i x. x) (λ i x. absurd x) p.older w.0.1,
  ),
  w.1,
  omega arith,
)

pub fetched_holds : (p : Place) (query : List ℕ) → Holds p → Holds (with_statements (with_fetched query p.statements) p)
fetched_holds p query w =
    let fewer = few_fronted (has_query query) p.statements.cache.list in
    let few = w.2 in (
      each_moves (λ i. ⊥) (λ i. ⊥) p.statements (with_fetched query p.statements) (λ e. e) [] []
          (λ i x. inl (inl (any_fronted (has_query query) (has_id i) p.statements.cache.list x))) (λ i x. x) (λ i x. absurd x) (exchanges p) w.0,
      w.1,
      omega (arith, fewer, few),
    )

pub learned_holds : (P : ℕ → Type 0) (call : Call) (p : Place) (f : Facts) → HoldsBut P p → HoldsBut P (learned call p f)
learned_holds P call p f w = by_rows (is_rows (context_of p.talk).spot)
  where
    by_rows : (b : Bool) → HoldsBut P (cond b (with_statements (with_columns (id_in call) f.columns p.statements) p) p)
    by_rows true = w
    by_rows false = w

-- The newest one is kept, and one other may have to go.
pub prepared_holds : (p : Place) (query : List ℕ) (inner : StmtInner) (fields : List Column)
    → IfSome (prepared_in p.talk) (λ i. (inner.id ≡ i) × (is_cached p.statements i ≡ false)) → is_open p.talk ≡ false → HoldsBefore query p
    → HoldsBut (λ i. leaving query inner p.statements ≡ Some i) (with_statements (with_prepared query inner fields p.statements) p)
prepared_holds p query inner fields newest done w = (
  (
    some_weaker (λ i. (inner.id ≡ i) × (is_cached p.statements i ≡ false)) (λ i. IsKept new [] i ⊎ (leaving query inner p.statements ≡ Some i)) first (prepared_in p.talk) newest,
    each_moves (λ i. ⊥) (λ i. leaving query inner p.statements ≡ Some i) p.statements new (λ e. few.1 ∙ e) (newest_of p) (newest_of p)
        (λ i x. still i (stays_or_leaves (held query inner) p.statements.cache i w.3 x)) (λ i x. x) (λ i x. absurd x) p.older w.0,
  ),
  done,
  subst (λ n. length new.cache.list ≤ n) (sym few.1) few.0,
)
  where
    new : Statements
    new = with_prepared query inner fields p.statements

    few : (length (with_new (held query inner) p.statements.cache).list ≤ p.statements.cache.capacity) × ((with_new (held query inner) p.statements.cache).capacity ≡ p.statements.cache.capacity)
    few = new_few (held query inner) p.statements.cache w.3

    there : (i : ℕ) → inner.id ≡ i → (is_cached (with_prepared query inner fields p.statements) inner.id ≡ true) ⊎ (p.statements.cache.capacity ≡ 0)
        → IsKept (with_prepared query inner fields p.statements) [] i
    there i e (inl x) = inl (subst (λ n. is_cached (with_prepared query inner fields p.statements) n ≡ true) e x)
    there i e (inr x) = inr (inr (few.1 ∙ x))

    first : (i : ℕ) → (inner.id ≡ i) × (is_cached p.statements i ≡ false)
        → IsKept (with_prepared query inner fields p.statements) [] i ⊎ (leaving query inner p.statements ≡ Some i)
    first i x = inl (there i x.0 (new_is_there (held query inner) p.statements.cache w.2 (subst (λ n. is_cached p.statements n ≡ false) (sym x.0) x.1)))

    still : (i : ℕ) → (is_cached (with_prepared query inner fields p.statements) i ≡ true) ⊎ (leaving query inner p.statements ≡ Some i)
        → IsKept (with_prepared query inner fields p.statements) (newest_of p) i ⊎ (leaving query inner p.statements ≡ Some i)
    still i (inl x) = inl (inl x)
    still i (inr x) = inr x
