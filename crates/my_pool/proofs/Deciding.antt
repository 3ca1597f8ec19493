-- Where a connection in hand is kept, after a verdict.
use Rattle.std.proofs.Common.{◌≡◌, ℕ, ◌≤◌, Bool, true, false, Option, Some, None, List, refl, sym, ap, ◌∙◌, subst, inl}
use Rattle.std.specs.Prelude.{find, ◌==◌, ◌&&◌, ◌||◌}
use Rattle.my_pool_parts.specs.declared.connection.Place.{Place}
use Rattle.my_pool_parts.specs.declared.connection.Place.TheVariants.{Idle, Leased, Connecting, Checking, Returned, Cleaning, Resetting, Closing}
use Rattle.my_pool_parts.specs.Lists.{how_many, found_is}
use Rattle.my_pool_parts.specs.Connections.{has_number, is_resetting, is_cleaning_place}
use Rattle.my_pool_core.specs.declared.event.PoolEvent.TheVariants as events
use Rattle.my_pool_core.specs.declared.event.Verdict.{Verdict}
use Rattle.my_pool_core.specs.declared.event.Verdict.TheVariants.{Drop, Clean, Close, Reset, Keep}
use Rattle.my_pool_core.specs.Events.{decide, done, take_returned}
use Rattle.my_pool_core.specs.Moves.{IsMove, TakenPlaces, verdict_place, is_ending_place, is_due_place}
use Rattle.my_pool_core.specs.Owners.{place_at, mark_at}
use Rattle.my_pool_core.specs.Sound.{IsSound}
use Rattle.my_pool_core.specs.State.{State}
use Rattle.my_pool_core.proofs.Kept.Moving.{both}
use Rattle.my_pool_core.proofs.Placed.Allowing.{may-decide, may-done}
use Rattle.my_pool_core.proofs.Placed.Moves.{places-move}
use Rattle.my_pool_core.proofs.Placed.Verdicts.{Says, DoneSays, decide-says, done-says, resetting-found}
use Rattle.my_conn.specs.Conn.{ConnSeen}
use Rattle.my_pool.specs.Fit.{IsStill as IsStillConn, IsFit, facts_of}
use Rattle.my_pool_store.specs.Shelves.{Entry, entry, has, kept_at, put_by, without_number}
use Rattle.my_pool.specs.Stored.{Stored, IsStored, IsThere}
use Rattle.my_pool_store.proofs.Keeping.{put-there, put-others, put-once, out-there, out-others, out-once}
use Rattle.my_pool.proofs.Wholes.{stored-moved, stored-still}

cleaning-is : (p : Option Place) → found_is is_cleaning_place p ≡ true → (marked : Bool) × (p ≡ Some (Cleaning marked))
cleaning-is None e = absurd (cc)
cleaning-is (Some (Idle times)) e = absurd (cc)
cleaning-is (Some Leased) e = absurd (cc)
cleaning-is (Some Connecting) e = absurd (cc)
cleaning-is (Some Checking) e = absurd (cc)
cleaning-is (Some (Returned marked)) e = absurd (cc)
cleaning-is (Some (Cleaning marked)) e = (marked, refl)
cleaning-is (Some Resetting) e = absurd (cc)
cleaning-is (Some Closing) e = absurd (cc)

-- the place of the one that is taken
pub record IsTakenOne (n : ℕ) (s : State) : Type 0 where
  pub move : IsMove (is_due_place s.closed) n (Some (Cleaning (mark_at n s))) s (take_returned s).state

pub takes-one : (n : ℕ) (s : State) → IsSound s → (o : Option ℕ) → o ≡ (take_returned s).answer → o ≡ Some n → IsTakenOne n s
takes-one n s h o e f = record { move = subst (λ a. TakenPlaces a s (take_returned s).state) (sym e ∙ f) (places-move s events.TakeReturned h refl) }

-- ---- so it is where its place says ----

module _ {L : Type 0} where
  abbrev pub left-in : Verdict → ConnSeen L → Option (ConnSeen L)
  left-in Drop v = None
  left-in Clean v = Some v
  left-in Close v = Some v
  left-in Reset v = Some v
  left-in Keep v = Some v

  put-by-there : (verdict : Verdict) (n : ℕ) (v : ConnSeen L) (es : List (Entry (ConnSeen L))) → kept_at n es ≡ None → kept_at n (put_by verdict (entry n v) es) ≡ left-in verdict v
  put-by-there Drop n v es e = e
  put-by-there Clean n v es e = put-there n v es e
  put-by-there Close n v es e = put-there n v es e
  put-by-there Reset n v es e = put-there n v es e
  put-by-there Keep n v es e = put-there n v es e

  put-by-others : (verdict : Verdict) (n m : ℕ) (v : ConnSeen L) (es : List (Entry (ConnSeen L))) → (m == n) ≡ false → kept_at m (put_by verdict (entry n v) es) ≡ kept_at m es
  put-by-others Drop n m v es e = refl
  put-by-others Clean n m v es e = put-others n m v es e
  put-by-others Close n m v es e = put-others n m v es e
  put-by-others Reset n m v es e = put-others n m v es e
  put-by-others Keep n m v es e = put-others n m v es e

  put-by-once : (verdict : Verdict) (n m : ℕ) (v : ConnSeen L) (es : List (Entry (ConnSeen L))) → kept_at n es ≡ None → how_many (has m) es ≤ 1 → how_many (has m) (put_by verdict (entry n v) es) ≤ 1
  put-by-once Drop n m v es e h = h
  put-by-once Clean n m v es e h = put-once n m v es e h
  put-by-once Close n m v es e h = put-once n m v es e h
  put-by-once Reset n m v es e h = put-once n m v es e h
  put-by-once Keep n m v es e h = put-once n m v es e h

  -- one that is decided on fits its new place
  decided-fits : (verdict : Verdict) (marked : Bool) (now : ℕ) (v : ConnSeen L) → IsStillConn v → Says verdict (facts_of now v)
      → Stored (verdict_place verdict (Some (Cleaning marked)) (facts_of now v) now) (left-in verdict v)
  decided-fits Drop marked now v still said = refl
  decided-fits Clean marked now v still said = inl still
  decided-fits Close marked now v still said = inl still
  decided-fits Reset marked now v still said = inl still
  decided-fits Keep marked now v still said = record { fit = record { alive = said.0; clean = said.1; still = still }; times_are = refl }

  pub decide-stored : (n : ℕ) (v : ConnSeen L) (now : ℕ) (s : State) (kept : List (Entry (ConnSeen L))) → IsSound s → IsStored s kept → found_is is_cleaning_place (place_at n s) ≡ true → kept_at n kept ≡ None → IsStillConn v
      → IsStored (decide n (facts_of now v) now s).state (put_by (decide n (facts_of now v) now s).answer (entry n v) kept)
  decide-stored n v now s kept h st at out still =
      let facts = facts_of now v in
      let d = decide n facts now s in
      let p = cleaning-is (place_at n s) at in
      let fits = decided-fits d.answer p.0 now v still (decide-says n facts now s) in
      stored-moved is_cleaning_place n (verdict_place d.answer (place_at n s) facts now) s d.state kept (put_by d.answer (entry n v) kept) st
      (places-move s (events.Decide n facts now) h (may-decide s n at))
      (subst (λ o. Stored (verdict_place d.answer (place_at n s) facts now) o) (sym (put-by-there d.answer n v kept out)) (subst (λ q. Stored (verdict_place d.answer q facts now) (left-in d.answer v)) (sym p.1) fits))
      (λ m k. put-by-others d.answer n m v kept k)
      (λ m. put-by-once d.answer n m v kept out (st.once m))

  -- one that is done with fits its new place
  done-fits : (verdict : Verdict) (reset : Bool) (p : Option Place) (now : ℕ) (v : ConnSeen L) → IsStillConn v → DoneSays verdict reset → (reset ≡ true → IsFit v)
      → Stored (verdict_place verdict p (facts_of now v) now) (left-in verdict v)
  done-fits Drop reset p now v still said fit = refl
  done-fits Clean reset p now v still said fit = absurd said
  done-fits Close reset p now v still said fit = inl still
  done-fits Reset reset p now v still said fit = absurd said
  done-fits Keep reset p now v still said fit = record { fit = fit said; times_are = refl }

  pub done-stored : (n : ℕ) (ok : Bool) (v : ConnSeen L) (now : ℕ) (s : State) (kept : List (Entry (ConnSeen L))) → IsSound s → IsStored s kept → found_is (is_ending_place ok) (place_at n s) ≡ true → kept_at n kept ≡ None → IsStillConn v
      → (ok ≡ true → place_at n s ≡ Some Resetting → IsFit v)
      → IsStored (done n ok (facts_of now v) now s).state (put_by (done n ok (facts_of now v) now s).answer (entry n v) kept)
  done-stored n ok v now s kept h st at out still fit =
      let facts = facts_of now v in
      let d = done n ok facts now s in
      let reset = ok && found_is is_resetting (find (has_number n) s.connections) in
      let was : reset ≡ true → IsFit v = λ e. let b = both ok (found_is is_resetting (find (has_number n) s.connections)) e in fit b.0 (resetting-found (find (has_number n) s.connections) b.1) in
      stored-moved (is_ending_place ok) n (verdict_place d.answer (place_at n s) facts now) s d.state kept (put_by d.answer (entry n v) kept) st
      (places-move s (events.Done n ok facts now) h (may-done s n ok at))
      (subst (λ o. Stored (verdict_place d.answer (place_at n s) facts now) o) (sym (put-by-there d.answer n v kept out)) (done-fits d.answer reset (place_at n s) now v still (done-says n ok facts now s) was))
      (λ m k. put-by-others d.answer n m v kept k)
      (λ m. put-by-once d.answer n m v kept out (st.once m))

  -- ---- one is taken to be cleaned ----

  found-still : (P : ConnSeen L → Type 0) (k : Option (ConnSeen L)) → ((v : ConnSeen L) → P v → IsStillConn v) → IsThere P k → (v : ConnSeen L) × (k ≡ Some v) × IsStillConn v
  found-still P None le e = absurd e
  found-still P (Some v) le e = (v, refl, le v e)

  due-kept : (closed : Bool) (p : Option Place) (k : Option (ConnSeen L)) → found_is (is_due_place closed) p ≡ true → Stored p k → (v : ConnSeen L) × (k ≡ Some v) × IsStillConn v
  due-kept closed None k e st = absurd (cc)
  due-kept closed (Some (Idle times)) k e st = found-still _ k (λ v c. c.fit.still) st
  due-kept closed (Some Leased) k e st = absurd (elim closed as (λ b. (false || (b && false)) ≡ true → ⊥) [
    | true ↦ λ f. cc
    | false ↦ λ f. cc
  ] e)
  due-kept closed (Some Connecting) k e st = absurd (elim closed as (λ b. (false || (b && false)) ≡ true → ⊥) [
    | true ↦ λ f. cc
    | false ↦ λ f. cc
  ] e)
  due-kept closed (Some Checking) k e st = absurd (elim closed as (λ b. (false || (b && false)) ≡ true → ⊥) [
    | true ↦ λ f. cc
    | false ↦ λ f. cc
  ] e)
  due-kept closed (Some (Returned marked)) k e st = found-still _ k (λ v c. c) st
  due-kept closed (Some (Cleaning marked)) k e st = absurd (elim closed as (λ b. (false || (b && false)) ≡ true → ⊥) [
    | true ↦ λ f. cc
    | false ↦ λ f. cc
  ] e)
  due-kept closed (Some Resetting) k e st = absurd (elim closed as (λ b. (false || (b && false)) ≡ true → ⊥) [
    | true ↦ λ f. cc
    | false ↦ λ f. cc
  ] e)
  due-kept closed (Some Closing) k e st = absurd (elim closed as (λ b. (false || (b && false)) ≡ true → ⊥) [
    | true ↦ λ f. cc
    | false ↦ λ f. cc
  ] e)

  -- it was kept, with no open call
  pub taken-kept : (n : ℕ) (s : State) (kept : List (Entry (ConnSeen L))) → IsStored s kept → IsTakenOne n s → (v : ConnSeen L) × (kept_at n kept ≡ Some v) × IsStillConn v
  taken-kept n s kept st o = due-kept s.closed (place_at n s) (kept_at n kept) o.move.was (st.each n)

  pub taken-stored : (n : ℕ) (s : State) (kept : List (Entry (ConnSeen L))) → IsStored s kept → IsTakenOne n s → IsStored (take_returned s).state (without_number n kept)
  taken-stored n s kept st o =
      stored-moved (is_due_place s.closed) n (Some (Cleaning (mark_at n s))) s (take_returned s).state kept (without_number n kept) st o.move
      (subst (λ k. Stored (Some (Cleaning (mark_at n s))) k) (sym (out-there n kept (st.once n))) tt)
      (λ m k. out-others n m kept k)
      (λ m. out-once n m kept (st.once m))

  -- it is in hand then
  pub taken-cleaned : (n : ℕ) (s : State) (kept : List (Entry (ConnSeen L))) → IsStored s kept → IsTakenOne n s → (found_is is_cleaning_place (place_at n (take_returned s).state) ≡ true) × (kept_at n (without_number n kept) ≡ None)
  taken-cleaned n s kept st o = (ap (found_is is_cleaning_place) o.move.there, out-there n kept (st.once n))

  pub takes-none : (s : State) (kept : List (Entry (ConnSeen L))) → IsSound s → IsStored s kept → (o : Option ℕ) → o ≡ (take_returned s).answer → o ≡ None → IsStored (take_returned s).state kept
  takes-none s kept h st o e f =
      stored-still s (take_returned s).state kept st (subst (λ a. TakenPlaces a s (take_returned s).state) (sym e ∙ f) (places-move s events.TakeReturned h refl))
