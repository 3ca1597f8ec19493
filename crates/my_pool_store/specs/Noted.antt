-- What is noted, one after the other, and what a journal tells of a pool's events.
use Rattle.std.specs.Prelude.{◌≡◌, ◌⊎◌, Option, Some, None, List, [], ◌∷◌, ◌++◌}
use Rattle.my_pool_core.specs.declared.event.PoolEvent.{PoolEvent}
use Rattle.my_pool_core.specs.State.{State}
use Rattle.my_pool_core.specs.Steps.{AllMay, after}

-- notes that are there are there with one more at their end, or no more; notes that are missing stay so
abbrev pub IsNoted : {T : Type 0} → Option (List T) → T → Option (List T) → Type 0
IsNoted None one new = new ≡ None
IsNoted (Some notes) one new = (new ≡ None) ⊎ (new ≡ Some (notes ++ one ∷ []))

-- where there is one
abbrev pub MayNote : {T : Type 0} → Option (List T) → Option T → Option (List T) → Type 0
MayNote old None new = new ≡ old
MayNote old (Some one) new = IsNoted old one new

-- each event may happen when its turn comes, from the first state on, and they lead to the second one
pub record Leads (first : State) (events : List PoolEvent) (s : State) : Type 0 where
  pub all : AllMay first events
  pub end : after first events ≡ s

-- what is told leads from one state to another
abbrev pub Replays : State → Option (List PoolEvent) → State → Type 0
Replays first None s = Unit {0}
Replays first (Some events) s = Leads first events s
