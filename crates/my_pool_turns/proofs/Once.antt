-- What follows of a turn: nothing is left to be taken, and each connection at work is polled once.
use Rattle.std.proofs.Common.{◌≡◌, ℕ, ◌+◌, ◌<◌, ◌≤◌, Bool, true, false, Option, Some, None, List, [], ◌∷◌, refl, sym, ap, ◌∙◌, subst, arith}
use Rattle.std.specs.Prelude.{find, option_map, nat_lt, ◌==◌, ◌||◌, ◌&&◌}
use Rattle.std.proofs.lemmas.Bool.{eqb-true}
use Rattle.std.proofs.lemmas.Bool.Decides.{nat_tests}
use Rattle.my_link.specs.Looks.{Looks}
use Rattle.my_pool_parts.specs.declared.connection.Connection.{Connection}
use Rattle.my_pool_parts.specs.declared.connection.PlaceKind.{PlaceKind}
use Rattle.my_pool_parts.specs.Connections.{has_number, is_kind}
use Rattle.my_pool_parts.specs.Lists.{found_is}
use Rattle.my_pool_parts.proofs.Finding.{one, count-found}
use Rattle.my_pool_core.specs.declared.event.Answer.{Answer}
use Rattle.my_pool_core.specs.declared.event.Answer.TheVariants as answers
use Rattle.my_pool_core.specs.declared.event.Facts.{Facts}
use Rattle.my_pool_core.specs.declared.event.PoolEvent.TheVariants as events
use Rattle.my_pool_core.specs.Counted.{due}
use Rattle.my_pool_core.specs.Events.{found_next, take_returned}
use Rattle.my_pool_parts.specs.Connections.{next_to_clean}
use Rattle.my_pool_core.specs.Moves.{is_due_place}
use Rattle.my_pool_core.specs.Owners.{IsNextAt, IsNoneAt, is_at, place_at}
use Rattle.my_pool_core.specs.Sound.{IsSound}
use Rattle.my_pool_core.specs.State.{State}
use Rattle.my_pool_core.proofs.Always.{sound-step}
use Rattle.my_pool_core.proofs.Placed.Counts.{none-counts}
use Rattle.my_pool_core.proofs.Placed.Moves.{places-move}
use Rattle.my_client.specs.declared.tape.Tape.{Tape}
use Rattle.my_pool.specs.Pools.{ConnEntry, MadeWith, Pool}
use Rattle.my_pool_turns.specs.declared.task.Task.{Task}
use Rattle.my_pool_turns.specs.declared.task.Task.TheVariants as tasks
use Rattle.my_pool_turns.specs.declared.task.Worked.{Worked}
use Rattle.my_pool_turns.specs.declared.task.Worked.TheVariants.{Pending, Done, Failed}
use Rattle.my_pool_turns.specs.Laws.{AreFalling, AreThose, NoneDue, is_among}
use Rattle.my_pool_turns.specs.Tasks.{kind_at}
use Rattle.my_pool_turns.specs.Turns.{DecidedOn, Ends, Finished, Polls, PollsAll, PollsThese, TakesNone, Turns}

-- ---- nothing is left to be taken ----

not-one : (b : Bool) → one b ≤ 0 → b ≡ false
not-one true e = absurd (omega (arith, e))
not-one false e = refl

none-due : (s : State) → due s ≡ 0 → NoneDue s
none-due s e n = by-it (find (has_number n) s.connections) refl
  where
    by-it : (o : Option Connection) → find (has_number n) s.connections ≡ o → found_is (is_due_place s.closed) (option_map (λ c. c.place) o) ≡ false
    by-it None f = refl
    by-it (Some c) f =
        not-one (is_due_place s.closed c.place)
        (omega (arith, e, count-found (λ (d : Connection). is_due_place s.closed d.place) (has_number n) s.connections c f))

-- where none is taken, the connections stay, and so does whether the pool is closed
none-taken : (s : State) → (take_returned s).answer ≡ None → NoneDue s → NoneDue (take_returned s).state
none-taken s e h = by-it (next_to_clean s.closed s.connections) e
  where
    by-it : (o : Option Connection) → (found_next o s).answer ≡ None → NoneDue (found_next o s).state
    by-it None f = h
    by-it (Some c) f = absurd (cc)

returned-none : (o : Option ℕ) → answers.Returned None ≡ answers.Returned o → o ≡ None
returned-none o e = cc

module _ {L : Type 0} where
  takes-none : (p q : Pool L) → TakesNone p q → NoneDue q.state
  takes-none p q t =
      let e = returned-none (take_returned p.state).answer t.made.answered in
      subst NoneDue (sym t.made.state) (none-taken p.state e (none-due p.state (none-counts p.state e)))

  pub none-left : (look : L → Looks) (now : ℕ) (p q : Pool L) → Turns look now p q → NoneDue q.state
  none-left look now p q t = takes-none t.last.before q t.last.none

-- ---- a poll leaves each other connection where it is ----

-- it is sound then, and each other one is where it was
record Beside (n : ℕ) (s t : State) : Type 0 where
  sound : IsSound t
  others : (m : ℕ) → (m == n) ≡ false → place_at m t ≡ place_at m s

beside-same : (n : ℕ) (s t : State) → IsSound s → t ≡ s → Beside n s t
beside-same n s t h e = subst (Beside n s) (sym e) (record { sound = h; others = λ m k. refl })

module _ {L : Type 0} where
  beside-done : (l : Option (ℕ × Tape)) (n : ℕ) (ok : Bool) (facts : Facts) (now : ℕ) (a : Answer) (p q : Pool L) → IsSound p.state → MadeWith l (events.Done n ok facts now) a p q → Beside n p.state q.state
  beside-done l n ok facts now a p q h made =
      subst (Beside n p.state) (sym made.state) (record {
        sound = sound-step p.state (events.Done n ok facts now) h made.allowed;
        others = (places-move p.state (events.Done n ok facts now) h made.allowed).others;
      })

  beside-decided : (l : Option (ℕ × Tape)) (n : ℕ) (facts : Facts) (now : ℕ) (a : Answer) (p q : Pool L) → IsSound p.state → MadeWith l (events.Decide n facts now) a p q → Beside n p.state q.state
  beside-decided l n facts now a p q h made =
      subst (Beside n p.state) (sym made.state) (record {
        sound = sound-step p.state (events.Decide n facts now) h made.allowed;
        others = (places-move p.state (events.Decide n facts now) h made.allowed).others;
      })

  finished : (e : ConnEntry L) (ok : Bool) (now : ℕ) (p q : Pool L) → IsSound p.state → Finished e ok now p q → Beside e.number p.state q.state
  finished e ok now p q h f = beside-done _ e.number ok _ now _ p q h f.made

  decided : (e : ConnEntry L) (now : ℕ) (p q : Pool L) → IsSound p.state → DecidedOn e now p q → Beside e.number p.state q.state
  decided e now p q h d = beside-decided _ e.number _ now _ p q h d.made

  ends : (task : Task) (w : Worked) (e : ConnEntry L) (now : ℕ) (p q : Pool L) → IsSound p.state → Ends task w e now p q → Beside e.number p.state q.state
  ends task Pending e now p q h x = beside-same e.number p.state q.state h x.same.state
  ends task Failed e now p q h x = finished e false now p q h x
  ends tasks.Clean Done e now p q h x = decided e now p q h x
  ends tasks.Reset Done e now p q h x = finished e true now p q h x
  ends tasks.Close Done e now p q h x = finished e true now p q h x

  polled : (look : L → Looks) (task : Task) (now n : ℕ) (one : Option (ConnEntry L)) (p q : Pool L) → IsSound p.state → Polls look task now n one p q → Beside n p.state q.state
  polled look task now n None p q h x = beside-same n p.state q.state h x.same.state
  polled look task now n (Some e) p q h x =
      let m = x.between in
      let sound : IsSound m.state = subst IsSound (sym x.same.state) h in
      let b = ends task x.on.worked x.on.after now m q sound x.on.ends in
      subst (λ (s : State). Beside n s q.state) x.same.state (subst (λ k. Beside k m.state q.state) (x.on.number ∙ x.number) b)

-- ---- each is polled once ----

-- which were polled so far: those below a number that were there at the beginning; and the others are where they were
record SoFar (kind : PlaceKind) (numbers : List ℕ) (s : State) (from : ℕ) (t : State) : Type 0 where
  sound : IsSound t
  falling : AreFalling numbers
  exactly : (n : ℕ) → is_among n numbers ≡ (nat_lt n from && is_at kind n s)
  rest : (n : ℕ) → from ≤ n → place_at n t ≡ place_at n s

first-one : (kind : PlaceKind) (s : State) → IsSound s → SoFar kind [] s 0 s
first-one kind s h = record { sound = h; falling = tt; exactly = λ n. none-below n; rest = λ n k. refl }
  where
    none-below : (n : ℕ) → false ≡ (nat_lt n 0 && is_at kind n s)
    none-below n = ap (λ b. b && is_at kind n s) (below n)
      where
        below : (n : ℕ) → false ≡ nat_lt n 0
        below n = grind (arith, nat_tests)

both-false : (b : Bool) → (b && false) ≡ false
both-false true = refl
both-false false = refl

with-true : (b : Bool) → (b && true) ≡ b
with-true true = refl
with-true false = refl

lt-of : (n from : ℕ) (b : Bool) → (nat_lt n from && b) ≡ true → n < from
lt-of n from b e = from-test (nat_lt n from) refl e
  where
    from-test : (c : Bool) → nat_lt n from ≡ c → (c && b) ≡ true → n < from
    from-test true t f = grind (arith, nat_tests)
    from-test false t f = absurd (cc)

same-below : (m n from : ℕ) → from ≤ n → (n == m) ≡ false → (from ≤ m → n ≤ m) → nat_lt m from ≡ nat_lt m (n + 1)
same-below m n from above other least = by-it (nat_lt m from) refl
  where
    by-it : (b : Bool) → nat_lt m from ≡ b → b ≡ nat_lt m (n + 1)
    by-it true t = grind (arith, nat_tests)
    by-it false t = let up : from ≤ m = grind (arith, nat_tests) in let k = least up in grind (arith, nat_tests)

-- one more was polled, the next one from there on
one-more : (kind : PlaceKind) (numbers : List ℕ) (s : State) (from n : ℕ) (t u : State) → SoFar kind numbers s from t → IsNextAt kind from n t → Beside n t u → SoFar kind (n ∷ numbers) s (n + 1) u
one-more kind numbers s from n t u h next b = record {
  sound = b.sound;
  falling = (λ m k. under m (sym (h.exactly m) ∙ k), h.falling);
  exactly = λ m. by-number m (n == m) refl;
  rest = λ m up. b.others m (apart m up) ∙ h.rest m (later m up);
}
  where
    under : (m : ℕ) → (nat_lt m from && is_at kind m s) ≡ true → m < n
    under m k = let below = lt-of m from (is_at kind m s) k in omega (arith, below, next.above)

    apart : (m : ℕ) → n + 1 ≤ m → (m == n) ≡ false
    apart m up = grind (arith, nat_tests)

    later : (m : ℕ) → n + 1 ≤ m → from ≤ m
    later m up = omega (arith, up, next.above)

    there : (m : ℕ) → from ≤ m → is_at kind m t ≡ is_at kind m s
    there m up = ap (found_is (is_kind kind)) (h.rest m up)

    other : (m : ℕ) → (n == m) ≡ false → (c : Bool) → is_at kind m s ≡ c → (nat_lt m from && c) ≡ (nat_lt m (n + 1) && c)
    other m k false at = both-false (nat_lt m from) ∙ sym (both-false (nat_lt m (n + 1)))
    other m k true at =
        with-true (nat_lt m from) ∙ same-below m n from next.above k (λ up. next.least m up (there m up ∙ at))
        ∙ sym (with-true (nat_lt m (n + 1)))

    by-number : (m : ℕ) (c : Bool) → (n == m) ≡ c → (c || is_among m numbers) ≡ (nat_lt m (n + 1) && is_at kind m s)
    by-number m true e =
        let same : n ≡ m = eqb-true n m e in
        let at : is_at kind n s ≡ true = sym (there n next.above) ∙ next.there in
        let below : nat_lt n (n + 1) ≡ true = grind (arith, nat_tests) in
        subst (λ i. true ≡ (nat_lt i (n + 1) && is_at kind i s)) same (rw (below, at) refl)
    by-number m false e = h.exactly m ∙ other m e (is_at kind m s) refl

-- where none is left from a number on, those below it were all
all-below : (kind : PlaceKind) (numbers : List ℕ) (s : State) (from : ℕ) (t : State) → SoFar kind numbers s from t → IsNoneAt kind from t → AreThose kind s numbers
all-below kind numbers s from t h none = record { falling = h.falling; exactly = λ n. h.exactly n ∙ by-it n (nat_lt n from) refl }
  where
    by-it : (n : ℕ) (b : Bool) → nat_lt n from ≡ b → (b && is_at kind n s) ≡ is_at kind n s
    by-it n true e = refl
    by-it n false e =
        let up : from ≤ n = grind (arith, nat_tests) in
        sym (ap (found_is (is_kind kind)) (sym (h.rest n up)) ∙ none.none n up)

module _ {L : Type 0} where
  so-far : (look : L → Looks) (task : Task) (now : ℕ) (numbers : List ℕ) (p : Pool L) (from : ℕ) (q : Pool L) → IsSound p.state → PollsThese look task now numbers p from q → SoFar (kind_at task) numbers p.state from q.state
  so-far look task now [] p from q h x =
      subst (λ f. SoFar (kind_at task) [] p.state f q.state) (sym x.0)
      (subst (λ (r : Pool L). SoFar (kind_at task) [] p.state 0 r.state) (sym x.1) (first-one (kind_at task) p.state h))
  so-far look task now (n ∷ ns) p from q h x =
      let m = x.1.0 in
      let before = x.1.1 in
      let earlier = so-far look task now ns p before m h x.1.2 in
      subst (λ f. SoFar (kind_at task) (n ∷ ns) p.state f q.state) (sym x.0)
      (one-more (kind_at task) ns p.state before n m.state q.state earlier x.1.3 (polled look task now n x.1.4.one m q earlier.sound x.1.4.polls))

  pub each-once : (look : L → Looks) (task : Task) (now : ℕ) (p q : Pool L) → IsSound p.state → (polls : PollsAll look task now p q) → AreThose (kind_at task) p.state polls.numbers
  each-once look task now p q h polls =
      all-below (kind_at task) polls.numbers p.state polls.from q.state (so-far look task now polls.numbers p polls.from q h polls.polls) polls.none

  pub stops-early : (look : L → Looks) (task : Task) (now : ℕ) (p q : Pool L) (first second : ℕ) → IsSound p.state → first < second → is_at (kind_at task) second p.state ≡ true
      → (polls : PollsAll look task now p q) → polls.numbers ≡ first ∷ [] → ⊥
  stops-early look task now p q first second h below at polls numbers =
      let e : is_among second (first ∷ []) ≡ true = ap (is_among second) (sym numbers) ∙ (each-once look task now p q h polls).exactly second ∙ at in
      let other : (first == second) ≡ false = grind (arith, nat_tests) in
      not-among (first == second) other e
    where
      not-among : (b : Bool) → b ≡ false → (b || false) ≡ true → ⊥
      not-among true k e = cc
      not-among false k e = cc
