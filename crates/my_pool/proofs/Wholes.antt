-- What an exchange keeps, after each event.
use Rattle.std.proofs.Common.{◌≡◌, ℕ, ◌+◌, ◌<◌, ◌≤◌, Bool, true, false, cond, Option, Some, None, List, [], ◌∷◌, ◌++◌, length, refl, sym, ap, ◌∙◌, arith, subst}
use Rattle.std.specs.Prelude.{find, option_map, ◌==◌}
use Rattle.std.specs.List.{list_all}
use Rattle.std.proofs.lemmas.Bool.{eqb-true}
use Rattle.my_pool_parts.specs.declared.connection.Connection.{Connection}
use Rattle.my_pool_parts.specs.declared.connection.Place.{Place}
use Rattle.my_pool_parts.specs.declared.connection.Place.TheVariants.{Idle, Leased, Connecting, Checking, Returned, Cleaning, Resetting, Closing}
use Rattle.my_pool_parts.specs.Lists.{how_many, found_is}
use Rattle.my_pool_parts.specs.Connections.{has_number, is_leased_place}
use Rattle.my_pool_parts.specs.Requests.{last_age}
use Rattle.my_pool_parts.proofs.Finding.{one}
use Rattle.my_pool_core.specs.declared.event.PoolEvent.{PoolEvent}
use Rattle.my_pool_core.specs.declared.event.PoolEvent.TheVariants as events
use Rattle.my_pool_core.specs.declared.limits.Limits.{Limits}
use Rattle.my_pool_core.specs.Counted.{room}
use Rattle.my_pool_core.specs.Events.{new_pool, give_back}
use Rattle.my_pool_core.specs.Moves.{IsMove, IsStill}
use Rattle.my_pool_core.specs.Owners.{place_at, is_lease}
use Rattle.my_pool_core.specs.Sound.{IsSound, IsCovered}
use Rattle.my_pool_core.specs.State.{State}
use Rattle.my_pool_core.specs.Steps.{may, step}
use Rattle.my_pool_core.specs.Wakes.{waits}
use Rattle.my_pool_core.proofs.Always.{sound-step, sound-new, covered-step, covered-new}
use Rattle.my_pool_core.proofs.Placed.Allowing.{may-give-back}
use Rattle.my_pool_core.proofs.Placed.Counts.{room-stays}
use Rattle.my_pool_core.proofs.Placed.Moves.{places-move}
use Rattle.my_conn.specs.Conn.{ConnSeen}
use Rattle.my_pool.specs.Fit.{IsStill as IsStillConn}
use Rattle.my_client.specs.declared.tape.Tape.{Tape}
use Rattle.my_pool_store.specs.Leaving.{leaving}
use Rattle.my_pool_store.specs.Noted.{Leads, IsNoted, Replays}
use Rattle.my_pool_store.specs.Shelves.{Shelved, Entry, entry, has, kept_at}
use Rattle.my_pool.specs.Stored.{Stored, IsStored, IsWhole, IsFresh}
use Rattle.my_pool_store.specs.Woken.{Called, waiting}
use Rattle.my_pool_store.proofs.Calling.{filter-all, filter-fewer}
use Rattle.my_pool_store.proofs.Keeping.{put-there, put-others, put-once, few-kept, none-kept}
use Rattle.my_pool_store.proofs.Leaving.{leaving-stays}
use Rattle.my_pool_store.proofs.Noting.{replays-on}

-- ---- any event ----

counted-at : (test : Place → Bool) (o : Option Connection) → found_is test (option_map (λ c. c.place) o) ≡ true → (c : Connection) × (o ≡ Some c)
counted-at test None e = absurd (cc)
counted-at test (Some c) e = (c, refl)

fresh-replays : (start s : State) (told : Option (List PoolEvent)) → s ≡ start → IsFresh told → Replays start told s
fresh-replays start s None at e = tt
fresh-replays start s (Some es) at e = subst (λ l. Leads start l s) (sym e) (record { all = tt; end = sym at })

module _ {L : Type 0} where
  -- with these wakers and tapes after it
  pub whole-event : (start s t : State) (e : PoolEvent) (shelf shelf' : Shelved (ConnSeen L)) (wakers wakers' : Called) (told told' : Option (List PoolEvent)) (gone gone' : Shelved Tape)
      → IsWhole start s shelf wakers told gone → may s e ≡ true → t ≡ step s e → (e ≡ events.Request → ⊥)
      → IsStored t shelf'.kept → shelf.room ≤ shelf'.room
      → list_all (λ a. waits a t) wakers'.ages ≡ true → ((age : ℕ) → how_many (λ a. a == age) wakers'.ages ≤ 1) → wakers.room ≤ wakers'.room → IsNoted told e told'
      → length gone'.kept + leaving t ≤ gone'.room
      → IsWhole start t shelf' wakers' told' gone'
  whole-event start s t e shelf shelf' wakers wakers' told told' gone gone' w m at plain stored more called once more' noted fits =
      let same : room t ≡ room s = ap room at ∙ room-stays s e w.sound m plain in
      record {
        sound = subst IsSound (sym at) (sound-step s e w.sound m);
        covered = subst IsCovered (sym at) (covered-step s e w.sound w.covered m);
        shelf_room = omega (arith, w.shelf_room, same, more);
        waker_room = omega (arith, w.waker_room, same, more');
        gone_room = fits;
        stored = stored;
        called = called;
        called_once = once;
        replayed = subst (λ u. Replays start told' u) (sym at) (replays-on start s e told told' w.replayed m noted);
      }

  -- the tapes of earlier connections have their room
  pub still-fits : (start s t : State) (e : PoolEvent) (shelf : Shelved (ConnSeen L)) (wakers : Called) (told : Option (List PoolEvent)) (gone : Shelved Tape)
      → IsWhole start s shelf wakers told gone → may s e ≡ true → t ≡ step s e → (e ≡ events.Request → ⊥) → length gone.kept + leaving t ≤ gone.room
  still-fits start s t e shelf wakers told gone w m at plain = omega (arith, w.gone_room, ap leaving at, leaving-stays s e w.sound m plain)

  -- where the wakers are those of whoever waits still
  pub whole-went : (start s t : State) (e : PoolEvent) (shelf shelf' : Shelved (ConnSeen L)) (wakers wakers' : Called) (told told' : Option (List PoolEvent)) (gone gone' : Shelved Tape)
      → IsWhole start s shelf wakers told gone → may s e ≡ true → t ≡ step s e → (e ≡ events.Request → ⊥)
      → IsStored t shelf'.kept → shelf.room ≤ shelf'.room
      → wakers'.ages ≡ waiting t wakers.ages → wakers'.room ≡ wakers.room → IsNoted told e told'
      → length gone'.kept + leaving t ≤ gone'.room
      → IsWhole start t shelf' wakers' told' gone'
  whole-went start s t e shelf shelf' wakers wakers' told told' gone gone' w m at plain stored more ages same noted fits =
      whole-event start s t e shelf shelf' wakers wakers' told told' gone gone' w m at plain stored more
      (ap (list_all (λ a. waits a t)) ages ∙ filter-all (λ a. waits a t) wakers.ages)
      (λ age. omega (arith, ap (how_many (λ a. a == age)) ages, filter-fewer (λ a. waits a t) (λ a. a == age) wakers.ages, w.called_once age))
      (omega (arith, same)) noted fits

  -- and no connection goes that has a tape
  pub whole-step : (start s t : State) (e : PoolEvent) (shelf shelf' : Shelved (ConnSeen L)) (wakers wakers' : Called) (told told' : Option (List PoolEvent)) (gone : Shelved Tape)
      → IsWhole start s shelf wakers told gone → may s e ≡ true → t ≡ step s e → (e ≡ events.Request → ⊥)
      → IsStored t shelf'.kept → shelf.room ≤ shelf'.room
      → wakers'.ages ≡ waiting t wakers.ages → wakers'.room ≡ wakers.room → IsNoted told e told'
      → IsWhole start t shelf' wakers' told' gone
  whole-step start s t e shelf shelf' wakers wakers' told told' gone w m at plain stored more ages same noted =
      whole-went start s t e shelf shelf' wakers wakers' told told' gone gone w m at plain stored more ages same noted
      (still-fits start s t e shelf wakers told gone w m at plain)

  -- ---- where the connections are ----

  -- one moved, and what is kept of the others is the same
  pub stored-moved : (from : Place → Bool) (n : ℕ) (p : Option Place) (s t : State) (kept kept' : List (Entry (ConnSeen L))) → IsStored s kept → IsMove from n p s t
      → Stored p (kept_at n kept') → ((m : ℕ) → (m == n) ≡ false → kept_at m kept' ≡ kept_at m kept) → ((m : ℕ) → how_many (has m) kept' ≤ 1)
      → IsStored t kept'
  stored-moved from n p s t kept kept' st mv there others once = record {
    once = once;
    each = λ m.
        elim (m == n) as (λ b. (m == n) ≡ b → Stored (place_at m t) (kept_at m kept')) [
          | true ↦ λ k.
              let same : m ≡ n = eqb-true m n k in
              subst (λ i. Stored (place_at i t) (kept_at i kept')) (sym same) (subst (λ q. Stored q (kept_at n kept')) (sym mv.there) there)
          | false ↦ λ k.
              subst (λ q. Stored q (kept_at m kept')) (sym (mv.others m k)) (subst (λ o. Stored (place_at m s) o) (sym (others m k)) (st.each m))
        ] refl;
  }

  -- nothing moved
  pub stored-still : (s t : State) (kept : List (Entry (ConnSeen L))) → IsStored s kept → IsStill s t → IsStored t kept
  stored-still s t kept st i = record { each = λ m. subst (λ q. Stored q (kept_at m kept)) (sym (i.each m)) (st.each m); once = st.once }

  leased-is : (p : Option Place) (k : Option (ConnSeen L)) → found_is is_leased_place p ≡ true → Stored p k → k ≡ None
  leased-is None k e st = absurd (cc)
  leased-is (Some (Idle times)) k e st = absurd (cc)
  leased-is (Some Leased) k e st = st
  leased-is (Some Connecting) k e st = absurd (cc)
  leased-is (Some Checking) k e st = absurd (cc)
  leased-is (Some (Returned marked)) k e st = absurd (cc)
  leased-is (Some (Cleaning marked)) k e st = absurd (cc)
  leased-is (Some Resetting) k e st = absurd (cc)
  leased-is (Some Closing) k e st = absurd (cc)

  -- a leased connection isn't kept
  pub leased-absent : (n : ℕ) (s : State) (kept : List (Entry (ConnSeen L))) → IsStored s kept → is_lease n s ≡ true → kept_at n kept ≡ None
  leased-absent n s kept st e = leased-is (place_at n s) (kept_at n kept) e (st.each n)

  counted-there : (o : Option Connection) (k : Option (ConnSeen L)) → Stored (option_map (λ c. c.place) o) k → (v : ConnSeen L) → k ≡ Some v → (c : Connection) × (o ≡ Some c)
  counted-there None k e v f = absurd (let x : Some v ≡ None = sym f ∙ e in cc)
  counted-there (Some c) k e v f = (c, refl)

  some-kept : (n : ℕ) (es : List (Entry (ConnSeen L))) → 0 < how_many (has n) es → (v : ConnSeen L) × (kept_at n es ≡ Some v)
  some-kept n [] h = absurd (omega arith)
  some-kept n (x ∷ xs) h =
      elim (has n x) as (λ b. 0 < one b + how_many (has n) xs → (v : ConnSeen L) × (option_map (λ (e : Entry (ConnSeen L)). e.conn) (cond b (Some x) (find (has n) xs)) ≡ Some v)) [
        | true ↦ λ k. (x.conn, refl)
        | false ↦ λ k. some-kept n xs (omega arith)
      ] h

  -- beside one that is counted and isn't kept there is room for it
  pub room-for : (n : ℕ) (v : ConnSeen L) (s : State) (shelf : Shelved (ConnSeen L)) (c : Connection) → room s ≤ shelf.room → IsStored s shelf.kept → find (has_number n) s.connections ≡ Some c → kept_at n shelf.kept ≡ None → length shelf.kept < shelf.room
  room-for n v s shelf c h st there out =
      let kept = shelf.kept in
      let once : (m : ℕ) → how_many (has m) (entry n v ∷ kept) ≤ 1 = λ m.
      elim (n == m) as (λ b. (n == m) ≡ b → one b + how_many (has m) kept ≤ 1) [
        | true ↦ λ k. let same : n ≡ m = eqb-true n m k in omega (arith, none-kept m kept (subst (λ i. kept_at i kept ≡ None) same out))
        | false ↦ λ k. omega (arith, st.once m)
      ] refl
      in
      let counted : (m : ℕ) → 0 < how_many (has m) (entry n v ∷ kept) → (c : Connection) × (find (has_number m) s.connections ≡ Some c) = λ m.
      elim (n == m) as (λ b. (n == m) ≡ b → 0 < one b + how_many (has m) kept → (c : Connection) × (find (has_number m) s.connections ≡ Some c)) [
        | true ↦ λ k some. (c, subst (λ i. find (has_number i) s.connections ≡ Some c) (eqb-true n m k) there)
        | false ↦ λ k some. let w = some-kept m kept (omega arith) in counted-there (find (has_number m) s.connections) (kept_at m kept) (st.each m) w.0 w.1
      ] refl
      in
      omega (arith, few-kept (entry n v ∷ kept) s.connections once counted, h)

  -- the same by its place
  pub in-hand-room : (test : Place → Bool) (n : ℕ) (v : ConnSeen L) (s : State) (shelf : Shelved (ConnSeen L)) → room s ≤ shelf.room → IsStored s shelf.kept → found_is test (place_at n s) ≡ true → kept_at n shelf.kept ≡ None → length shelf.kept < shelf.room
  in-hand-room test n v s shelf h st e out =
      let c = counted-at test (find (has_number n) s.connections) e in
      room-for n v s shelf c.0 h st c.1 out

  -- ---- a connection comes back ----

  pub give-back-stored : (n : ℕ) (v : ConnSeen L) (s : State) (kept : List (Entry (ConnSeen L))) → IsSound s → IsStored s kept → is_lease n s ≡ true → IsStillConn v → IsStored (give_back n s) (kept ++ entry n v ∷ [])
  give-back-stored n v s kept h st e still =
      let absent = leased-absent n s kept st e in
      stored-moved is_leased_place n (Some (Returned false)) s (give_back n s) kept (kept ++ entry n v ∷ []) st
      (places-move s (events.GiveBack n) h (may-give-back s n e))
      (subst (λ o. Stored (Some (Returned false)) o) (sym (put-there n v kept absent)) still)
      (λ m k. put-others n m v kept k)
      (λ m. put-once n m v kept absent (st.once m))

  -- ---- a new pool ----

  pub new-whole : (limits : Limits) (first : ℕ) (s : State) (shelf : Shelved (ConnSeen L)) (wakers : Called) (told : Option (List PoolEvent)) (gone : Shelved Tape) → first ≤ last_age → s ≡ new_pool limits first → shelf.kept ≡ [] → wakers.ages ≡ [] → IsFresh told → gone.kept ≡ [] → IsWhole (new_pool limits first) s shelf wakers told gone
  new-whole limits first s shelf wakers told gone le at kept ages empty none_gone =
      let none : room s ≡ 0 = ap room at in
      record {
        sound = subst IsSound (sym at) (sound-new limits first le);
        covered = subst IsCovered (sym at) (covered-new limits first);
        shelf_room = omega (arith, none);
        waker_room = omega (arith, none);
        gone_room = omega (arith, ap leaving at, ap length none_gone);
        stored = record {
          each = λ n. subst (λ (t : State). Stored (place_at n t) (kept_at n shelf.kept)) (sym at) (subst (λ (es : List (Entry (ConnSeen L))). kept_at n es ≡ None) (sym kept) refl);
          once = λ n. omega (arith, ap (how_many (has n)) kept);
        };
        called = ap (list_all (λ a. waits a s)) ages;
        called_once = λ age. omega (arith, ap (how_many (λ a. a == age)) ages);
        replayed = fresh-replays (new_pool limits first) s told at empty;
      }
