-- The live requests, in rising order of their ages: the smaller the age, the older the request.
use Rattle.std.specs.Prelude.{ℕ, ◌+◌, ◌-◌, ◌^◌, ◌≤◌, Bool, true, false, ◌||◌, ◌&&◌, ◌==◌, not, nat_le, Option, List, [], ◌∷◌, ◌++◌, map, find, option_map, if◌then◌else◌}
use Rattle.std.specs.List.{list_any}
use Rattle.my_pool_parts.specs.declared.request.Request.{Request}
use Rattle.my_pool_parts.specs.declared.request.Standing.{Standing}
use Rattle.my_pool_parts.specs.declared.request.Standing.TheVariants.{Asks, Waits, Woken, Dials, Checks}
use Rattle.my_frame.specs.Lists.{without}
use Rattle.my_pool_parts.specs.Lists.{change_first}

-- the last age, which stays live for good once it is given
abbrev pub last_age : ℕ
last_age = 2 ^ 64 - 1

-- a new request
abbrev pub asking : ℕ → Request
asking age = record { age = age; waited = false; standing = Asks }

abbrev pub has_age : ℕ → Request → Bool
has_age age r = r.age == age

abbrev pub is_asking_standing : Standing → Bool
is_asking_standing Asks = true
is_asking_standing _ = false

abbrev pub is_waiting_standing : Standing → Bool
is_waiting_standing Waits = true
is_waiting_standing _ = false

abbrev pub is_woken_standing : Standing → Bool
is_woken_standing Woken = true
is_woken_standing _ = false

abbrev pub is_dialing_standing : Standing → Bool
is_dialing_standing (Dials number) = true
is_dialing_standing _ = false

abbrev pub is_checking_standing : Standing → Bool
is_checking_standing (Checks number) = true
is_checking_standing _ = false

-- whether it makes or looks at the connection of this number
abbrev pub holds_number : ℕ → Standing → Bool
holds_number number (Dials held) = held == number
holds_number number (Checks held) = held == number
holds_number number _ = false

abbrev pub is_asking : Request → Bool
is_asking r = is_asking_standing r.standing

abbrev pub is_waiting : Request → Bool
is_waiting r = is_waiting_standing r.standing

abbrev pub is_woken : Request → Bool
is_woken r = is_woken_standing r.standing

abbrev pub is_dialing : Request → Bool
is_dialing r = is_dialing_standing r.standing

abbrev pub is_checking : Request → Bool
is_checking r = is_checking_standing r.standing

-- whether it has no connection
abbrev pub is_free : Request → Bool
is_free r = not (is_dialing r || is_checking r)

abbrev pub holds : ℕ → Request → Bool
holds number r = holds_number number r.standing

-- a request with another standing, which counts as having waited from then on where it is to
abbrev pub changed : Bool → Standing → Request → Request
changed waited standing r = record { age = r.age; waited = waited || r.waited; standing = standing }

-- a request with another standing; one that waits counts as having waited from then on
abbrev pub standing_as : Standing → Request → Request
standing_as standing r = changed false standing r

abbrev pub now_waiting : Request → Request
now_waiting r = changed true Waits r

-- the request of this age with another standing
abbrev pub set_standing : ℕ → Standing → List Request → List Request
set_standing age standing rs = change_first (has_age age) (standing_as standing) rs

-- the request of this age waits
abbrev pub set_waiting : ℕ → List Request → List Request
set_waiting age rs = change_first (has_age age) now_waiting rs

-- the request of this age ends, unless its age is the last one
abbrev pub ended : ℕ → List Request → List Request
ended age rs = if age == last_age then rs else without (has_age age) rs

-- the oldest waiting request, where there is one, is woken
abbrev pub wake : List Request → List Request
wake rs = change_first is_waiting (standing_as Woken) rs

-- the request, woken where it waits
abbrev pub roused : Request → Request
roused r = if is_waiting r then standing_as Woken r else r

-- each waiting request is woken
abbrev pub wake_all : List Request → List Request
wake_all rs = map roused rs

-- whether a request waits that is at least as old as this age
abbrev pub waits_up_to : ℕ → List Request → Bool
waits_up_to age rs = list_any (λ r. is_waiting r && nat_le r.age age) rs

-- whether a request may still be given a new number: it isn't making a connection
abbrev pub may_dial : Request → Bool
may_dial r = not (is_dialing r)

-- waiting, or woken and not polled since
abbrev pub is_queued : Request → Bool
is_queued r = is_waiting r || is_woken r

-- the requests with the one of the last age, which is among them once
abbrev pub with_last : List Request → List Request
with_last rs = if list_any (has_age last_age) rs then rs else rs ++ asking last_age ∷ []

abbrev pub has_waited : Request → Bool
has_waited r = r.waited

-- a request is given up where it is live
abbrev pub is_live : Request → Bool
is_live r = true

-- the ages rise, from this one on
abbrev pub IsRising : ℕ → List Request → Type 0
IsRising low [] = Unit {0}
IsRising low (r ∷ rs) = (low ≤ r.age) × IsRising (r.age + 1) rs

-- the least age that waits
abbrev pub oldest_in : List Request → Option ℕ
oldest_in rs = option_map (λ r. r.age) (find is_waiting rs)
