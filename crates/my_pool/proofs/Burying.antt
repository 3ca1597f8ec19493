-- There is room for the tape of a connection that goes.
use Rattle.std.proofs.Common.{◌≡◌, ℕ, ◌+◌, ◌<◌, ◌≤◌, true, Option, Some, None, List, [], ◌∷◌, ◌++◌, length, refl, sym, ap, ◌∙◌, arith, subst, length-append}
use Rattle.std.specs.Prelude.{is_some, IfSome}
use Rattle.std.proofs.lemmas.List.{append-nil}
use Rattle.my_client.specs.declared.tape.Tape.{Tape}
use Rattle.my_conn.specs.Conn.{ConnSeen}
use Rattle.my_pool_core.specs.declared.event.Verdict.{Verdict}
use Rattle.my_pool_core.specs.declared.event.Verdict.TheVariants.{Drop, Clean, Close, Reset, Keep}
use Rattle.my_pool_core.specs.Events.{cancel, may_cancel}
use Rattle.my_pool_core.specs.Owners.{token}
use Rattle.my_pool_core.specs.Sound.{IsSound}
use Rattle.my_pool_core.specs.State.{State}
use Rattle.my_pool_store.specs.Leaving.{leaving}
use Rattle.my_pool_store.specs.Shelves.{Entry, Shelved, entry, numbered, rest_by, with_left}
use Rattle.my_pool_store.proofs.Leaving.{cancel-leaves}
use Rattle.my_pool.specs.Asks.{IsHolding}
use Rattle.my_pool.specs.Pools.{Pool, tape_of}

left-length : (l : Option (ℕ × Tape)) (es : List (Entry Tape)) → length (with_left l es) ≤ length es + 1
left-length None es = omega arith
left-length (Some l) es = omega (arith, length-append es (entry l.0 l.1 ∷ []))

-- the number of the first
abbrev number-at : List (Entry Tape) → ℕ
number-at [] = 0
number-at (x ∷ xs) = x.number

pub same-number : (a b : ℕ) (t u : Tape) (xs ys : List (Entry Tape)) → entry a t ∷ xs ≡ entry b u ∷ ys → a ≡ b
same-number a b t u xs ys e = ap number-at e

-- the tapes that are there stay at the front
pub stays-there : (l : Option (ℕ × Tape)) (es fs : List (Entry Tape)) → fs ≡ with_left l es → (more : List (Entry Tape)) × (fs ≡ es ++ more)
stays-there None es fs e = ([], e ∙ sym (append-nil es))
stays-there (Some l) es fs e = (entry l.0 l.1 ∷ [], e)

-- one that goes
pub left-fits : (l : Option (ℕ × Tape)) (s t : State) (gone gone' : Shelved Tape) → length gone.kept + leaving s ≤ gone.room → leaving t + 1 ≤ leaving s → gone'.kept ≡ with_left l gone.kept → gone.room ≤ gone'.room → length gone'.kept + leaving t ≤ gone'.room
left-fits l s t gone gone' h fewer kept more = omega (arith, h, fewer, ap length kept, left-length l gone.kept, more)

pub left-room : (s t : State) (gone : Shelved Tape) → length gone.kept + leaving s ≤ gone.room → leaving t + 1 ≤ leaving s → length gone.kept < gone.room
left-room s t gone h fewer = omega (arith, h, fewer)

-- one that stays
stays-fits : (s t : State) (gone gone' : Shelved Tape) → length gone.kept + leaving s ≤ gone.room → leaving t ≤ leaving s → gone'.kept ≡ gone.kept → gone.room ≤ gone'.room → length gone'.kept + leaving t ≤ gone'.room
stays-fits s t gone gone' h less kept more = omega (arith, h, less, ap length kept, more)

module _ {L : Type 0} where
  -- one that may go, by a verdict
  pub verdict-fits : (verdict : Verdict) (n : ℕ) (v : ConnSeen L) (s t : State) (gone gone' : Shelved Tape) → length gone.kept + leaving s ≤ gone.room → (verdict ≡ Drop → leaving t + 1 ≤ leaving s) → leaving t ≤ leaving s
      → gone'.kept ≡ with_left (numbered n (tape_of (rest_by verdict v))) gone.kept → gone.room ≤ gone'.room → length gone'.kept + leaving t ≤ gone'.room
  verdict-fits Drop n v s t gone gone' h fewer less kept more = left-fits (numbered n v.tape) s t gone gone' h (fewer refl) kept more
  verdict-fits Clean n v s t gone gone' h fewer less kept more = stays-fits s t gone gone' h less kept more
  verdict-fits Close n v s t gone gone' h fewer less kept more = stays-fits s t gone gone' h less kept more
  verdict-fits Reset n v s t gone gone' h fewer less kept more = stays-fits s t gone gone' h less kept more
  verdict-fits Keep n v s t gone gone' h fewer less kept more = stays-fits s t gone gone' h less kept more

  pub verdict-room : (verdict : Verdict) (v : ConnSeen L) (s t : State) (gone : Shelved Tape) → length gone.kept + leaving s ≤ gone.room → (verdict ≡ Drop → leaving t + 1 ≤ leaving s) → is_some (rest_by verdict v) ≡ true → length gone.kept < gone.room
  verdict-room Drop v s t gone h fewer e = left-room s t gone h (fewer refl)
  verdict-room Clean v s t gone h fewer e = absurd (cc)
  verdict-room Close v s t gone h fewer e = absurd (cc)
  verdict-room Reset v s t gone h fewer e = absurd (cc)
  verdict-room Keep v s t gone h fewer e = absurd (cc)

  -- ---- where a request is given up ----

  holder-leaves : (age : ℕ) (l : ℕ × Tape) (p : Pool L) (s : State) → s ≡ p.state → IsSound s → may_cancel age s ≡ true → IsHolding age l.0 p → leaving (cancel age s) + 1 ≤ leaving s
  holder-leaves age l p s at h may holds = cancel-leaves age l.0 holds.has s h may (ap (token age) at ∙ holds.held) holds.number

  pub cancel-fits : (age : ℕ) (l : Option (ℕ × Tape)) (p : Pool L) (s t : State) (gone gone' : Shelved Tape) → s ≡ p.state → IsSound s → may_cancel age s ≡ true → IfSome l (λ x. IsHolding age x.0 p) → t ≡ cancel age s
      → length gone.kept + leaving s ≤ gone.room → length gone.kept + leaving t ≤ gone.room → gone'.kept ≡ with_left l gone.kept → gone.room ≤ gone'.room → length gone'.kept + leaving t ≤ gone'.room
  cancel-fits age None p s t gone gone' at h may holds is room still kept more = omega (arith, still, ap length kept, more)
  cancel-fits age (Some l) p s t gone gone' at h may holds is room still kept more =
      left-fits (Some l) s t gone gone' room (subst (λ (u : State). leaving u + 1 ≤ leaving s) (sym is) (holder-leaves age l p s at h may holds)) kept more

  pub cancel-room : (age : ℕ) (l : Option (ℕ × Tape)) (p : Pool L) (s : State) (gone : Shelved Tape) → s ≡ p.state → IsSound s → may_cancel age s ≡ true → IfSome l (λ x. IsHolding age x.0 p)
      → length gone.kept + leaving s ≤ gone.room → is_some l ≡ true → length gone.kept < gone.room
  cancel-room age None p s gone at h may holds room some = absurd (cc)
  cancel-room age (Some l) p s gone at h may holds room some = left-room s (cancel age s) gone room (holder-leaves age l p s at h may holds)
