-- What a batch comes to, by what the executions of its statement come to.
use Rattle.std.specs.Prelude.{◌≡◌, ℕ, List, [], ◌∷◌, map}
use Rattle.my_params.specs.declared.params.Params.{Params}
use Rattle.my_statements.specs.Prepared.{StatementView}
use Rattle.my_grammar.specs.declared.login.Login.{Login}
use Rattle.my_reading.specs.declared.call.Call.TheVariants.{Execute, Batch, DropResult}
use Rattle.my_reading.specs.Course.{Halt, Stop, Owes, Returns, course, halt}
use Rattle.my_reading.specs.Place.{Place, owed}
use Rattle.my_reading.specs.Told.{ToldReady}

-- the same place, but for the calls that began its exchanges
pub record AlikePlaces (p q : Place) : Type 0 where
  pub talk : p.talk ≡ q.talk
  pub older : map (λ e. e.talk) p.older ≡ map (λ e. e.talk) q.older
  pub end_left : p.end_left ≡ q.end_left
  pub taken : p.taken ≡ q.taken
  pub statements : p.statements ≡ q.statements
  pub status : p.status ≡ q.status
  pub account : p.account ≡ q.account
  pub trial : p.trial ≡ q.trial
  pub unread : p.unread ≡ q.unread
  pub sent : p.sent ≡ q.sent

-- the same stop at such places
pub record Alike (h k : Halt) : Type 0 where
  pub place : AlikePlaces h.place k.place
  pub stop : h.stop ≡ k.stop

-- a call that returned ready is followed by more
abbrev pub then_go : Place → Stop → (Place → Halt) → Halt
then_go p (Returns ToldReady) go = go p
then_go p s go = halt p s

-- nothing is left to be done
abbrev pub all_done : Place → List ℕ → Halt
all_done p [] = halt p (Returns ToldReady)
all_done p (b ∷ bytes) = halt p Owes

-- A statement is executed with each of these parameters, one call after the other, and what is left of each response is dropped by a call
-- of its own. The first call that doesn't return ready is the last one.
abbrev pub executions : Login → StatementView → List Params → Place → Halt
executions login statement [] p = all_done p (owed p)
executions login statement (params ∷ lists) p =
    then_go (course login (Execute statement params) p).place (course login (Execute statement params) p).stop
    (λ q. then_go (course login DropResult q).place (course login DropResult q).stop (λ r. executions login statement lists r))

-- A batch comes to what these calls come to, whatever that is.
abbrev pub BatchesAreExecutions : Type 0
BatchesAreExecutions = (login : Login) (statement : StatementView) (lists : List Params) (p : Place)
    → Alike (course login (Batch statement lists) p) (executions login statement lists p)
