-- What a turn does: its events, each of which may happen, in this order, and the calls of connections between them.
use Rattle.std.specs.Prelude.{◌≡◌, ℕ, ◌+◌, zero, suc, Bool, true, false, Option, Some, None, List, [], ◌∷◌, ◌++◌}
use Rattle.my_link.specs.Looks.{Looks}
use Rattle.my_pool_core.specs.declared.event.Answer.TheVariants as answers
use Rattle.my_pool_core.specs.declared.event.PoolEvent.TheVariants as events
use Rattle.my_pool_core.specs.declared.event.Verdict.{Verdict}
use Rattle.my_pool_core.specs.Owners.{IsNextAt, IsNoneAt}
use Rattle.my_pool_store.specs.Shelves.{put_by, kept_at}
use Rattle.my_pool.specs.Fit.{facts_of}
use Rattle.my_pool.specs.Pools.{ConnEntry, IsCalled, Pool, Made, MadeWith, Same, TakenOut, TakenAt, left_of}
use Rattle.my_pool_turns.specs.declared.task.Task.{Task}
use Rattle.my_pool_turns.specs.declared.task.Task.TheVariants as tasks
use Rattle.my_pool_turns.specs.declared.task.Worked.{Worked}
use Rattle.my_pool_turns.specs.declared.task.Worked.TheVariants.{Pending, Done, Failed}
use Rattle.my_pool_turns.specs.Tasks.{kind_at}
use Rattle.my_pool_turns.specs.Works.{WorkIs}

-- the core decided on it by its facts, and the verdict was carried out; its tape is kept where it went
pub record DecidedOn {L : Type 0} (e : ConnEntry L) (now : ℕ) (p q : Pool L) : Type 0 where
  pub verdict : Verdict
  pub made : MadeWith (left_of verdict e) (events.Decide e.number (facts_of now e.conn) now) (answers.Verdict verdict)
      p q
  pub called : IsCalled p q
  pub put : q.kept ≡ put_by verdict e p.kept

-- the core was told that its call ended, well or not, and the verdict was carried out; its tape is kept where it went
pub record Finished {L : Type 0} (e : ConnEntry L) (ok : Bool) (now : ℕ) (p q : Pool L) : Type 0 where
  pub verdict : Verdict
  pub made : MadeWith (left_of verdict e) (events.Done e.number ok (facts_of now e.conn) now) (answers.Verdict verdict)
      p q
  pub called : IsCalled p q
  pub put : q.kept ≡ put_by verdict e p.kept

pub record PutBack {L : Type 0} (e : ConnEntry L) (p q : Pool L) : Type 0 where
  pub same : Same p q
  pub kept : q.kept ≡ p.kept ++ e ∷ []

-- Behind its poll it is put back where its call is open. Where that failed, the core is told so. A cleaning that was
-- answered is decided on again, and the core is told that a reset or a close was answered.
abbrev pub Ends : {L : Type 0} → Task → Worked → ConnEntry L → ℕ → Pool L → Pool L → Type 0
Ends task Pending e now p q = PutBack e p q
Ends task Failed e now p q = Finished e false now p q
Ends tasks.Clean Done e now p q = DecidedOn e now p q
Ends tasks.Reset Done e now p q = Finished e true now p q
Ends tasks.Close Done e now p q = Finished e true now p q

-- one poll of its call, and what follows it
pub record PolledOn {L : Type 0} (look : L → Looks) (task : Task) (now : ℕ) (e : ConnEntry L) (p q : Pool L)
    : Type 0 where
  pub worked : Worked
  pub after : ConnEntry L
  pub number : after.number ≡ e.number
  pub works : WorkIs look task now e.conn after.conn worked
  pub ends : Ends task worked after now p q

-- ---- those that came back ----

-- one was taken out, and was decided on at once
pub record Takes {L : Type 0} (now : ℕ) (p q : Pool L) : Type 0 where
  pub one : ConnEntry L
  pub between : Pool L
  pub made : Made events.TakeReturned (answers.Returned (Some one.number)) p between
  pub called : IsCalled p between
  pub out : TakenOut (Some one) p.kept between.kept
  pub decided : DecidedOn one now between q

-- none was there
pub record TakesNone {L : Type 0} (p q : Pool L) : Type 0 where
  pub made : Made events.TakeReturned (answers.Returned None) p q
  pub called : IsCalled p q
  pub kept : q.kept ≡ p.kept

-- so many were taken, one after the other
abbrev pub TakesThese : {L : Type 0} → ℕ → ℕ → Pool L → Pool L → Type 0
TakesThese now zero p q = q ≡ p
TakesThese {L} now (suc count) p q = (m : Pool L) × TakesThese now count p m × Takes now m q

-- until none was there
pub record TakesAll {L : Type 0} (now : ℕ) (p q : Pool L) : Type 0 where
  pub count : ℕ
  pub before : Pool L
  pub takes : TakesThese now count p before
  pub none : TakesNone before q

-- ---- those at work ----

-- the connection of a number was moved out and polled
pub record PollsOut {L : Type 0} (look : L → Looks) (task : Task) (now n : ℕ) (e : ConnEntry L) (p q : Pool L)
    : Type 0 where
  pub number : e.number ≡ n
  pub between : Pool L
  pub same : Same p between
  pub out : TakenAt n (Some e) p.kept between.kept
  pub on : PolledOn look task now e between q

-- or it is in hand already
pub record PassedOver {L : Type 0} (n : ℕ) (p q : Pool L) : Type 0 where
  pub out : kept_at n p.kept ≡ None
  pub same : Same p q
  pub kept : q.kept ≡ p.kept

abbrev pub Polls : {L : Type 0} → (L → Looks) → Task → ℕ → ℕ → Option (ConnEntry L) → Pool L → Pool L → Type 0
Polls look task now n None p q = PassedOver n p q
Polls look task now n (Some e) p q = PollsOut look task now n e p q

pub record PolledAt {L : Type 0} (look : L → Looks) (task : Task) (now n : ℕ) (p q : Pool L) : Type 0 where
  pub one : Option (ConnEntry L)
  pub polls : Polls look task now n one p q

-- The newest of them first, those of these numbers were polled, each the next one at the place of the task; the next
-- number from which on others are looked for is one above.
abbrev pub PollsThese : {L : Type 0} → (L → Looks) → Task → ℕ → List ℕ → Pool L → ℕ → Pool L → Type 0
PollsThese look task now [] p from q = (from ≡ 0) × (q ≡ p)
PollsThese {L} look task now (n ∷ ns) p from q =
    (from ≡ n + 1)
    × ((m : Pool L) × (before : ℕ) × PollsThese look task now ns p before m
    × IsNextAt (kind_at task) before n m.state × PolledAt look task now n m q)

-- Each at the place of a task was polled once, in rising order of numbers, until there was none.
pub record PollsAll {L : Type 0} (look : L → Looks) (task : Task) (now : ℕ) (p q : Pool L) : Type 0 where
  pub numbers : List ℕ
  pub from : ℕ
  pub polls : PollsThese look task now numbers p from q
  pub none : IsNoneAt (kind_at task) from q.state

-- What a turn does.
pub record Turns {L : Type 0} (look : L → Looks) (now : ℕ) (p q : Pool L) : Type 0 where
  pub taken : Pool L
  pub cleaned : Pool L
  pub reset : Pool L
  pub closed : Pool L
  pub first : TakesAll now p taken
  pub cleans : PollsAll look tasks.Clean now taken cleaned
  pub resets : PollsAll look tasks.Reset now cleaned reset
  pub closes : PollsAll look tasks.Close now reset closed
  pub last : TakesAll now closed q
