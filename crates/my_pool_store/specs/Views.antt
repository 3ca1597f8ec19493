-- What is shown of a pool.
use Rattle.std.specs.Prelude.{◌≡◌, ℕ, Bool, true, false, List, [], ◌∷◌, ◌++◌, length, map}
use Rattle.my_pool_parts.specs.declared.connection.Connection.{Connection}
use Rattle.my_pool_parts.specs.declared.connection.Place.{Place}
use Rattle.my_pool_parts.specs.declared.request.Request.{Request}
use Rattle.my_pool_parts.specs.declared.request.Standing.{Standing}
use Rattle.my_pool_parts.specs.Requests.{is_waiting, is_woken}
use Rattle.my_pool_core.specs.State.{State}
use Rattle.my_pool_store.specs.declared.view.PoolView.{PoolView}

-- a request was woken, or waits
abbrev pub stands : Bool → Request → Bool
stands true r = is_woken r
stands false r = is_waiting r

abbrev pub age_if : Bool → ℕ → List ℕ
age_if true age = age ∷ []
age_if false age = []

abbrev pub age_where : Bool → Request → List ℕ
age_where woken r = age_if (stands woken r) r.age

-- the ages of those that were woken, or that wait
abbrev pub ages_of : Bool → List Request → List ℕ
ages_of woken [] = []
ages_of woken (r ∷ rs) = age_where woken r ++ ages_of woken rs

abbrev pub place_of : Connection → ℕ × Place
place_of c = (c.number, c.place)

pub record IsViewOf (s : State) (v : PoolView) : Type 0 where
  pub counted : v.counted ≡ length s.connections
  pub waiting : v.waiting.items ≡ ages_of false s.requests
  pub woken : v.woken.items ≡ ages_of true s.requests
  pub closed : v.closed ≡ s.closed
  pub places : v.places.items ≡ map place_of s.connections

-- a request of an age
abbrev pub request_as : ℕ → Standing → Request
request_as age standing = record { age = age; waited = true; standing = standing }
