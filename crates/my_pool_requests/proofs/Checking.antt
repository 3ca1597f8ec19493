-- What follows of a poll of a request.
use Rattle.std.proofs.Common.{◌≡◌, ℕ, Bool, List, [], ◌∷◌, Option, Some, None, refl, inl, inr}
use Rattle.my_link.specs.Looks.{Looks}
use Rattle.my_link.specs.Outside.{HoldRose}
use Rattle.my_link.specs.declared.link.CheckStep.{CheckStep}
use Rattle.my_link.specs.declared.link.CheckStep.TheVariants as checks
use Rattle.my_reading.specs.declared.error.Error.{Error}
use Rattle.my_conn.specs.Checks.{ChecksBy}
use Rattle.my_conn.specs.Conn.{ConnSeen}
use Rattle.my_pool_core.specs.declared.event.PollAnswer.{PollAnswer}
use Rattle.my_pool_core.specs.declared.event.PollAnswer.TheVariants.{Wait, Take, Dial, Closed, Full}
use Rattle.my_pool.specs.Pools.{ConnEntry, Pool}
use Rattle.my_pool_requests.specs.declared.looks.Sought.{Sought}
use Rattle.my_pool_requests.specs.declared.looks.Sought.TheVariants as soughts
use Rattle.my_pool_requests.specs.declared.request.AskTurn.{AskTurn}
use Rattle.my_pool_requests.specs.declared.request.AskTurn.TheVariants as turns
use Rattle.my_pool_requests.specs.Laws.{IsntGood, WhyRefused, left_over}
use Rattle.my_pool_requests.specs.Looks.{AnsweredBy, LookedBy, LooksOn, Seeks, TakenBy, Untaken, UntakenBy, turn_of}
use Rattle.my_pool_requests.specs.Stages.{Asked}

module _ {L : Type 0} where
  held-isnt-pending : (held : ConnEntry L) (a : Asked L) → Some (turns.Held held) ≡ Some (turns.Pending a) → ⊥
  held-isnt-pending held a e = cc

  -- ---- a check of an idle connection ----

  alive-empty : (look : L → Looks) (bytes : List ℕ) (x y : L) → ChecksBy look bytes x y checks.Alive → bytes ≡ []
  alive-empty look [] x y c = refl
  alive-empty look (b ∷ more) x y c = absurd (let e = c.0 in cc)

  leased-by : (look : L → Looks) (age n : ℕ) (c after : ConnSeen L) (p q : Pool L) (held : ConnEntry L) (step : CheckStep) → ChecksBy look (left_over c) c.link after.link step → LookedBy age n after step p q (Some (turns.Held held)) → left_over c ≡ []
  leased-by look age n c after p q held checks.Alive k w = alive-empty look (left_over c) c.link after.link k
  leased-by look age n c after p q held checks.NotYet k w = absurd (let e = w.1 in cc)
  leased-by look age n c after p q held checks.Dead k w = absurd (let e = w.1 in cc)
  leased-by look age n c after p q held checks.Failed k w = absurd (let e = w.1 in cc)

  pub leased-empty : (look : L → Looks) (age n : ℕ) (c : ConnSeen L) (p q : Pool L) (held : ConnEntry L) → LooksOn look age n c p q (Some (turns.Held held)) → left_over c ≡ []
  leased-empty look age n c p q held w = leased-by look age n c w.after p q held w.step w.checked.checks w.comes

  alive-by : (age n : ℕ) (after : ConnSeen L) (p q : Pool L) (held : ConnEntry L) (step : CheckStep) → LookedBy age n after step p q (Some (turns.Held held)) → step ≡ checks.Alive
  alive-by age n after p q held checks.Alive w = refl
  alive-by age n after p q held checks.NotYet w = absurd (let e = w.1 in cc)
  alive-by age n after p q held checks.Dead w = absurd (let e = w.1 in cc)
  alive-by age n after p q held checks.Failed w = absurd (let e = w.1 in cc)

  pub leased-alive : (look : L → Looks) (age n : ℕ) (c : ConnSeen L) (p q : Pool L) (held : ConnEntry L) → (looks : LooksOn look age n c p q (Some (turns.Held held))) → looks.step ≡ checks.Alive
  leased-alive look age n c p q held looks = alive-by age n looks.after p q held looks.step looks.comes

  dead-why : (look : L → Looks) (c : ConnSeen L) (bytes : List ℕ) (y : L) → left_over c ≡ bytes → ChecksBy look bytes c.link y checks.Dead → IsntGood look c
  dead-why look c [] y e k = record { after = y; why = inr (inl k.1) }
  dead-why look c (b ∷ more) y e k = record { after = y; why = inl (λ f. cc) }

  failed-why : (look : L → Looks) (c : ConnSeen L) (bytes : List ℕ) (y : L) → ChecksBy look bytes c.link y checks.Failed → IsntGood look c
  failed-why look c [] y k = record { after = y; why = inr (inr k.1) }
  failed-why look c (b ∷ more) y k = absurd (let e = k.0 in cc)

  refused-by : (look : L → Looks) (age n : ℕ) (c after : ConnSeen L) (p q : Pool L) (step : CheckStep) → ChecksBy look (left_over c) c.link after.link step → LookedBy age n after step p q None → IsntGood look c
  refused-by look age n c after p q checks.Alive k w = absurd (let e = w.2 in cc)
  refused-by look age n c after p q checks.NotYet k w = absurd (let e = w.1 in cc)
  refused-by look age n c after p q checks.Dead k w = dead-why look c (left_over c) after.link refl k
  refused-by look age n c after p q checks.Failed k w = failed-why look c (left_over c) after.link k

  pub refused-why : (look : L → Looks) (age n : ℕ) (c : ConnSeen L) (p q : Pool L) → LooksOn look age n c p q None → IsntGood look c
  refused-why look age n c p q w = refused-by look age n c w.after p q w.step w.checked.checks w.comes

  held-by : (look : L → Looks) (bytes : List ℕ) (x y : L) → ChecksBy look bytes x y checks.NotYet → HoldRose (look x).counts (look y).counts
  held-by look [] x y k = k.1
  held-by look (b ∷ more) x y k = absurd (let e = k.0 in cc)

  pends-by : (look : L → Looks) (age n : ℕ) (c after : ConnSeen L) (p q : Pool L) (a : Asked L) (step : CheckStep) → ChecksBy look (left_over c) c.link after.link step → LookedBy age n after step p q (Some (turns.Pending a))
      → (y : L) × HoldRose (look c.link).counts (look y).counts
  pends-by look age n c after p q a checks.Alive k w = absurd (let e = w.2 in let f = w.1.turn_is in cc)
  pends-by look age n c after p q a checks.NotYet k w = (after.link, held-by look (left_over c) c.link after.link k)
  pends-by look age n c after p q a checks.Dead k w = absurd (let e = w.1 in cc)
  pends-by look age n c after p q a checks.Failed k w = absurd (let e = w.1 in cc)

  pub pends-why : (look : L → Looks) (age n : ℕ) (c : ConnSeen L) (p q : Pool L) (a : Asked L) → LooksOn look age n c p q (Some (turns.Pending a)) → (y : L) × HoldRose (look c.link).counts (look y).counts
  pends-why look age n c p q a w = pends-by look age n c w.after p q a w.step w.checked.checks w.comes

  -- ---- why a request fails that looks for a connection ----

  -- a look never fails with an error
  look-fails : (look : L → Looks) (age n : ℕ) (c after : ConnSeen L) (p q : Pool L) (e : Error) (step : CheckStep) → LookedBy age n after step p q (Some (turns.Failed e)) → ⊥
  look-fails look age n c after p q e checks.Alive w = let f = w.1.turn_is in let g = w.2 in cc
  look-fails look age n c after p q e checks.NotYet w = let f = w.1 in cc
  look-fails look age n c after p q e checks.Dead w = let f = w.1 in cc
  look-fails look age n c after p q e checks.Failed w = let f = w.1 in cc

  taken-fails : (look : L → Looks) (age n : ℕ) (conn : Option (ConnSeen L)) (p q : Pool L) (e : Error) → TakenBy look age n conn p q (Some (soughts.Turn (turns.Failed e))) → ⊥
  taken-fails look age n None p q e w = w
  taken-fails look age n (Some c) p q e w = by-turn w.0 w.1 w.2
    where
      by-turn : (turn : Option (AskTurn L)) → LooksOn look age n c p q turn → Some (soughts.Turn (turns.Failed e)) ≡ turn_of turn → ⊥
      by-turn None l f = cc
      by-turn (Some (turns.Pending a)) l f = cc
      by-turn (Some (turns.Held held)) l f = cc
      by-turn (Some (turns.Failed d)) l f = look-fails look age n c l.after p q d l.step l.comes

  untaken-error : (age : ℕ) (answer : PollAnswer) (p q : Pool L) (e : Error) → Untaken age answer p q (Some (soughts.Turn (turns.Failed e))) → (s : Sought L) × UntakenBy age answer s × (s ≡ soughts.Turn (turns.Failed e))
  untaken-error age answer p q e w = (w.1.0, w.1.1, let f = w.1.2 in cc)

  why-failed : (look : L → Looks) (age : ℕ) (answer : PollAnswer) (conn : Option (ConnSeen L)) (p q : Pool L) (e : Error) → AnsweredBy look age answer conn p q (Some (soughts.Turn (turns.Failed e))) → WhyRefused answer e
  why-failed look age Wait conn p q e w = let x = untaken-error age Wait p q e w in let f = x.1 in let g = x.2 in cc
  why-failed look age (Take n) conn p q e w = taken-fails look age n conn p q e w
  why-failed look age (Dial n) conn p q e w = let x = untaken-error age (Dial n) p q e w in let f = x.1 in let g = x.2 in cc
  why-failed look age Closed conn p q e w = let x = untaken-error age Closed p q e w in let f = x.1 in let g = x.2 in cc
  why-failed look age (Full waiting_ limit) conn p q e w =
      let x = untaken-error age (Full waiting_ limit) p q e w in let f = x.1 in let g = x.2 in cc

  pub why-refused : (look : L → Looks) (age now : ℕ) (wakes : Bool) (p q : Pool L) (e : Error) → (seeks : Seeks look age now wakes p q (soughts.Turn (turns.Failed e))) → WhyRefused seeks.last.answer e
  why-refused look age now wakes p q e seeks =
      why-failed look age seeks.last.answer seeks.last.conn seeks.last.between q e seeks.last.comes
