-- What a check, a dial and an answer come to, and what they leave.
use Rattle.std.proofs.Common.{◌≡◌, ℕ, ◌<◌, ◌≤◌, suc, Bool, false, Option, Some, None, refl, sym, ap, ◌∙◌, subst, arith}
use Rattle.std.specs.Prelude.{◌==◌, ◌&&◌, IfSome}
use Rattle.my_frame.specs.Lists.{without}
use Rattle.my_link.specs.Looks.{Looks}
use Rattle.my_client.specs.declared.tape.Tape.{Tape}
use Rattle.my_conn.specs.Conn.{ConnSeen}
use Rattle.my_pool_parts.specs.Connections.{has_number, is_idle}
use Rattle.my_pool_parts.proofs.Finding.{count-without-le}
use Rattle.my_pool_core.specs.declared.event.Answer.TheVariants as answers
use Rattle.my_pool_core.specs.declared.event.PollAnswer.{PollAnswer}
use Rattle.my_pool_core.specs.declared.event.PollAnswer.TheVariants.{Wait, Take, Dial, Closed, Full}
use Rattle.my_pool_core.specs.declared.event.PoolEvent.TheVariants as events
use Rattle.my_pool_core.specs.Counted.{idle}
use Rattle.my_pool_core.specs.Owners.{Token, Free, Making, Looking, number_in, token}
use Rattle.my_pool_core.specs.State.{State}
use Rattle.my_pool_core.specs.Steps.{step}
use Rattle.my_pool_store.specs.Shelves.{left_by, numbered, taken_by}
use Rattle.my_pool_store.specs.Woken.{kept_for, waiting}
use Rattle.my_pool.specs.Asks.{IsHolding, TakesOneLess, is_wait}
use Rattle.my_pool.specs.Fit.{IsFit}
use Rattle.my_pool.specs.Pools.{Made as IsMade, Pool}
use Rattle.my_pool_requests.specs.Looks.{AnsweredBy, Fruitless, PollsOnce, Round, SeekLeaves, Untaken}
use Rattle.my_pool_requests.specs.Settles.{handed_out}
use Rattle.my_pool_requests.specs.declared.request.Stage.{Stage}
use Rattle.my_pool_requests.specs.declared.request.Stage.TheVariants as stages
use Rattle.my_pool_requests.specs.Stages.{left_in, token_in}

-- ---- one that isn't good ----

-- no more are idle
pub fewer-idle : (age n : ℕ) (s t : State) → t ≡ step s (events.Failed age n) → idle t ≤ idle s
fewer-idle age n s t e = subst (λ (u : State). idle u ≤ idle s) (sym e) (count-without-le is_idle (has_number n) s.connections)

module _ {L : Type 0} where
  -- ---- a connection that is fit ----

  pub handed-fit : (c d : ConnSeen L) → d ≡ handed_out c → IsFit c → IsFit d
  handed-fit c d e fit = subst IsFit (sym e) (record { alive = fit.alive; clean = fit.clean; still = fit.still })

  -- ---- a request that is given up ----

  tape-holds : (age n : ℕ) (has : Token) (o : Option Tape) (p : Pool L) → token age p.state ≡ Some has → number_in has ≡ Some n → IfSome (numbered n o) (λ l. IsHolding age l.0 p)
  tape-holds age n has None p held is = tt
  tape-holds age n has (Some t) p held is = record { has = has; held = held; number = is }

  -- what it leaves is of the connection that it has
  pub left-holds : (age : ℕ) (stage : Stage L) (p : Pool L) → token age p.state ≡ Some (token_in stage) → IfSome (left_in stage) (λ l. IsHolding age l.0 p)
  left-holds age stages.Free p e = tt
  left-holds age (stages.Dials n) p e = tt
  left-holds age (stages.Makes n c) p e = tape-holds age n (Making n) c.tape p e refl
  left-holds age (stages.Looks n c) p e = tape-holds age n (Looking n) c.tape p e refl

  -- ---- a request that is polled on, as long as what it took isn't good ----

  untaken-not : (age : ℕ) (answer : PollAnswer) (p q : Pool L) → Untaken age answer p q None → ⊥
  untaken-not age answer p q w = let e = w.1.2 in cc

  -- it took a connection
  pub took : (look : L → Looks) (age : ℕ) (answer : PollAnswer) (conn : Option (ConnSeen L)) (p q : Pool L) → AnsweredBy look age answer conn p q None → (n : ℕ) × (answer ≡ Take n)
  took look age Wait conn p q w = absurd (untaken-not age Wait p q w)
  took look age (Take n) conn p q w = (n, refl)
  took look age (Dial n) conn p q w = absurd (untaken-not age (Dial n) p q w)
  took look age Closed conn p q w = absurd (untaken-not age Closed p q w)
  took look age (Full waiting_ limit) conn p q w = absurd (untaken-not age (Full waiting_ limit) p q w)

  pub took-no-wait : (look : L → Looks) (age : ℕ) (answer : PollAnswer) (conn : Option (ConnSeen L)) (p q : Pool L) → AnsweredBy look age answer conn p q None → is_wait answer ≡ false
  took-no-wait look age answer conn p q w = ap is_wait (took look age answer conn p q w).1

  pub took-fewer : (look : L → Looks) (age : ℕ) (answer : PollAnswer) (conn : Option (ConnSeen L)) (p q : Pool L) (s : State) → AnsweredBy look age answer conn p q None → TakesOneLess answer s p.state → SeekLeaves {L = L} age None p q → idle q.state < idle s
  took-fewer look age answer conn p q s w fewer left =
      let t = took look age answer conn p q w in
      let less : idle p.state < idle s = subst (λ a. TakesOneLess a s p.state) t.1 fewer in
      omega (arith, less, left.1)

  -- so often it took one that wasn't good; it has none, and its waker is there where it was
  pub record SoFar (look : L → Looks) (age now : ℕ) (wakes there : Bool) (p q : Pool L) : Type 0 where
    pub count : ℕ
    pub fruitless : Fruitless look age now wakes count p q
    pub free : token age q.state ≡ Some Free
    pub waker : there ≡ wakes

  pub first-round : (look : L → Looks) (age now : ℕ) (wakes : Bool) (p : Pool L) → token age p.state ≡ Some Free → SoFar look age now wakes wakes p p
  first-round look age now wakes p free = record { count = 0; fruitless = refl; free = free; waker = refl }

  -- a poll, with the waker that is there
  pub polled-once : (age now : ℕ) (wakes there : Bool) (answer : PollAnswer) (conn : Option (ConnSeen L)) (p q : Pool L) → there ≡ wakes
      → IsMade (events.PollRequest age now) (answers.Poll answer) p q
      → q.ages ≡ kept_for age (is_wait answer && there) (waiting q.state (without (λ a. a == age) p.ages))
      → q.kept ≡ left_by answer p.kept → conn ≡ taken_by answer p.kept
      → PollsOnce age now wakes answer conn p q
  polled-once age now wakes there answer conn p q same made called left taken = record {
    made = made;
    called = subst (λ b. q.ages ≡ kept_for age (is_wait answer && b) (waiting q.state (without (λ a. a == age) p.ages))) same called;
    left = left;
    taken = taken;
  }

  pub next-round : (look : L → Looks) (age now : ℕ) (wakes there left : Bool) (p m q : Pool L) → SoFar look age now wakes there p m → Round look age now wakes m q None → token age q.state ≡ Some Free → left ≡ there → SoFar look age now wakes left p q
  next-round look age now wakes there left p m q h round free same = record {
    count = suc h.count;
    fruitless = (m, h.fruitless, round);
    free = free;
    waker = same ∙ h.waker;
  }
