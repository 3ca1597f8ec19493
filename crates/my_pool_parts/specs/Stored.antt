-- Connections beside the queues of those that are idle and of those that are returned.
use Rattle.std.specs.Prelude.{◌≡◌, ℕ, ◌^◌, ◌<◌, ◌≤◌, Bool, true, false, List, [], ◌∷◌, ◌++◌, length, if◌then◌else◌}
use Rattle.std.specs.List.{list_any}
use Rattle.my_pool_parts.specs.declared.connection.Connection.{Connection}
use Rattle.my_pool_parts.specs.declared.connection.Place.{Place}
use Rattle.my_pool_parts.specs.declared.connection.Place.TheVariants.{Connecting}
use Rattle.my_pool_parts.specs.Connections.{has_number, is_idle, is_leased, is_returned, is_at_work}
use Rattle.my_pool_parts.specs.Lists.{how_many}

-- what is seen: the connections, in the order in which they came to their places; the next number; how many numbers
-- from it on have their memory; and for how many connections there is room
pub record Stored : Type 0 where
  pub list : List Connection
  pub next : ℕ
  pub coming : ℕ
  pub room : ℕ

abbrev pub stored : List Connection → ℕ → ℕ → ℕ → Stored
stored cs next coming room = record { list = cs; next = next; coming = coming; room = room }

-- the place of a connection that is being made
abbrev pub connecting : Place
connecting = Connecting

-- the numbers of those that pass a test
abbrev pub numbers_at : (Connection → Bool) → List Connection → List ℕ
numbers_at test [] = []
numbers_at test (c ∷ cs) = if test c then c.number ∷ numbers_at test cs else numbers_at test cs

-- an idle connection of a list, before which `index` others of the list are idle, and which alone has its number
pub record IsIdleAt (index number : ℕ) (cs : List Connection) : Type 0 where
  pub front : List Connection
  pub here : Connection
  pub rest : List Connection
  pub whole : cs ≡ front ++ here ∷ rest
  pub its_number : here.number ≡ number
  pub idle : is_idle here ≡ true
  pub before : how_many is_idle front ≡ index
  pub alone : list_any (has_number number) front ≡ false

-- what the queues and the counts say
pub record IsStored (cs : List Connection) (idle returned : List ℕ) (count leased working room idle_room returned_room : ℕ)
    : Type 0 where
  pub once : (n : ℕ) → how_many (has_number n) cs ≤ 1
  pub idle_are : idle ≡ numbers_at is_idle cs
  pub returned_are : returned ≡ numbers_at is_returned cs
  pub counted : count ≡ length cs
  pub leased_are : leased ≡ how_many is_leased cs
  pub working_are : working ≡ how_many is_at_work cs
  pub few : length cs ≤ room
  pub small : room < 2 ^ 63
  pub idle_fit : room ≤ idle_room
  pub returned_fit : room ≤ returned_room
