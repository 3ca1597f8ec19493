-- A connection that is being cleaned, reset or closed is moved out and back.
use Rattle.std.proofs.Common.{◌≡◌, ℕ, ◌≤◌, true, false, Option, Some, None, List, [], ◌∷◌, ◌++◌, refl, sym, ap, ◌∙◌, arith, subst}
use Rattle.std.specs.Prelude.{find, option_map, if◌then◌else◌}
use Rattle.my_frame.specs.Lists.{without}
use Rattle.my_pool_parts.specs.declared.connection.Place.{Place}
use Rattle.my_pool_parts.specs.declared.connection.Place.TheVariants.{Idle, Leased, Connecting, Checking, Returned, Cleaning, Resetting, Closing}
use Rattle.my_pool_parts.specs.Lists.{found_is}
use Rattle.my_pool_parts.specs.Connections.{is_working_place}
use Rattle.my_pool_core.specs.declared.event.PoolEvent.{PoolEvent}
use Rattle.my_pool_core.specs.Moves.{IsMove}
use Rattle.my_pool_core.specs.Owners.{place_at, is_working}
use Rattle.my_pool_core.specs.State.{State}
use Rattle.my_pool_store.specs.Shelves.{Shelved, Entry, entry, has, kept_at, without_number}
use Rattle.my_pool_store.specs.Woken.{Called}
use Rattle.my_pool_store.proofs.Keeping.{put-there, put-others, put-once, out-there, out-others, out-once}
use Rattle.my_client.specs.declared.tape.Tape.{Tape}
use Rattle.my_conn.specs.Conn.{ConnSeen}
use Rattle.my_pool.specs.Fit.{MayWork}
use Rattle.my_pool.specs.Stored.{Stored, StoredAt, IsStored, IsWhole}
use Rattle.my_pool.proofs.Wholes.{stored-moved}

stays : (n : ℕ) (s : State) → is_working n s ≡ true → IsMove is_working_place n (place_at n s) s s
stays n s e = record { was = e; there = refl; others = λ m k. refl }

-- its place
pub record WorksAt (n : ℕ) (s : State) : Type 0 where
  pub place : Place
  pub there : place_at n s ≡ Some place
  pub working : is_working_place place ≡ true

pub working-place : (n : ℕ) (s : State) → is_working n s ≡ true → WorksAt n s
working-place n s e = by-place (place_at n s) refl e
  where
    by-place : (o : Option Place) → place_at n s ≡ o → found_is is_working_place o ≡ true → WorksAt n s
    by-place None there e = absurd (cc)
    by-place (Some p) there e = record { place = p; there = there; working = e }

module _ {L : Type 0} where
  -- another shelf, with no less room
  pub whole-same : (start s : State) (shelf shelf' : Shelved (ConnSeen L)) (wakers : Called) (told : Option (List PoolEvent)) (gone : Shelved Tape) → IsWhole start s shelf wakers told gone → IsStored s shelf'.kept → shelf.room ≤ shelf'.room → IsWhole start s shelf' wakers told gone
  whole-same start s shelf shelf' wakers told gone w stored more = record {
    sound = w.sound;
    covered = w.covered;
    shelf_room = omega (arith, w.shelf_room, more);
    waker_room = w.waker_room;
    gone_room = w.gone_room;
    stored = stored;
    called = w.called;
    called_once = w.called_once;
    replayed = w.replayed;
  }

  -- there it may be in hand, and where it is kept it has no other open call
  out-fits : (p : Place) (k : Option (ConnSeen L)) → is_working_place p ≡ true → k ≡ None → StoredAt p k
  out-fits (Cleaning marked) k e o = subst (λ (k : Option (ConnSeen L)). StoredAt (Cleaning marked) k) (sym o) tt
  out-fits Resetting k e o = subst (λ (k : Option (ConnSeen L)). StoredAt Resetting k) (sym o) tt
  out-fits Closing k e o = subst (λ (k : Option (ConnSeen L)). StoredAt Closing k) (sym o) tt
  out-fits (Idle times) k e o = absurd (cc)
  out-fits Leased k e o = absurd (cc)
  out-fits Connecting k e o = absurd (cc)
  out-fits Checking k e o = absurd (cc)
  out-fits (Returned marked) k e o = absurd (cc)

  works-at : (p : Place) (v : ConnSeen L) → is_working_place p ≡ true → StoredAt p (Some v) → MayWork p v
  works-at (Cleaning marked) v e st = st
  works-at Resetting v e st = st
  works-at Closing v e st = st
  works-at (Idle times) v e st = absurd (cc)
  works-at Leased v e st = absurd (cc)
  works-at Connecting v e st = absurd (cc)
  works-at Checking v e st = absurd (cc)
  works-at (Returned marked) v e st = absurd (cc)

  works-there : (p : Place) (v : ConnSeen L) → is_working_place p ≡ true → MayWork p v → StoredAt p (Some v)
  works-there (Cleaning marked) v e w = w
  works-there Resetting v e w = w
  works-there Closing v e w = w
  works-there (Idle times) v e w = absurd (cc)
  works-there Leased v e w = absurd (cc)
  works-there Connecting v e w = absurd (cc)
  works-there Checking v e w = absurd (cc)
  works-there (Returned marked) v e w = absurd (cc)

  pub out-stored : (n : ℕ) (s : State) (kept : List (Entry (ConnSeen L))) → IsStored s kept → is_working n s ≡ true → IsStored s (without_number n kept)
  out-stored n s kept st e =
      let p = working-place n s e in
      stored-moved is_working_place n (place_at n s) s s kept (without_number n kept) st (stays n s e)
      (subst (λ o. Stored o (kept_at n (without_number n kept))) (sym p.there)
      (out-fits p.place (kept_at n (without_number n kept)) p.working (out-there n kept (st.once n))))
      (λ m k. out-others n m kept k)
      (λ m. out-once n m kept (st.once m))

  pub out-works : (n : ℕ) (v : ConnSeen L) (s : State) (kept : List (Entry (ConnSeen L))) → IsStored s kept → (p : WorksAt n s) → kept_at n kept ≡ Some v → MayWork p.place v
  out-works n v s kept st p k =
      works-at p.place v p.working (subst (λ o. Stored o (Some v)) p.there (subst (λ o. Stored (place_at n s) o) k (st.each n)))

  pub back-stored : (n : ℕ) (v : ConnSeen L) (s : State) (kept : List (Entry (ConnSeen L))) (p : Place) → IsStored s kept → place_at n s ≡ Some p → is_working_place p ≡ true → kept_at n kept ≡ None → MayWork p v → IsStored s (kept ++ entry n v ∷ [])
  back-stored n v s kept p st there working out may =
      stored-moved is_working_place n (place_at n s) s s kept (kept ++ entry n v ∷ []) st (stays n s (ap (found_is is_working_place) there ∙ working))
      (subst (λ o. Stored o (kept_at n (kept ++ entry n v ∷ []))) (sym there)
      (subst (λ k. StoredAt p k) (sym (put-there n v kept out)) (works-there p v working may)))
      (λ m k. put-others n m v kept k)
      (λ m. put-once n m v kept out (st.once m))

  -- nothing is left out where nothing is kept
  pub without-absent : (n : ℕ) (es : List (Entry (ConnSeen L))) → kept_at n es ≡ None → without_number n es ≡ es
  without-absent n [] e = refl
  without-absent n (x ∷ xs) e =
      elim (has n x) as (λ b. option_map (λ (e : Entry (ConnSeen L)). e.conn) (if b then Some x else find (has n) xs) ≡ None → (if b then xs else x ∷ without (has n) xs) ≡ x ∷ xs) [
        | true ↦ λ h. absurd (cc)
        | false ↦ λ h. ap (λ ys. x ∷ ys) (without-absent n xs h)
      ] e
