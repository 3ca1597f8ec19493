-- The counted connections: each with its place, in the order in which they came to their places.
-- So idle ones go from the one that is idle longest to the latest, and returned ones are in the order of their return.
use Rattle.std.specs.Prelude.{ℕ, ◌+◌, ◌-◌, Bool, true, false, ◌||◌, ◌&&◌, ◌==◌, not, nat_lt, Option, Some, None, List, [], ◌∷◌, ◌++◌, if◌then◌else◌, find}
use Rattle.std.specs.List.{list_any}
use Rattle.my_pool_parts.specs.declared.connection.Connection.{Connection}
use Rattle.my_pool_parts.specs.declared.connection.Place.{Place}
use Rattle.my_pool_parts.specs.declared.connection.Place.TheVariants.{Idle, Leased, Connecting, Checking, Returned, Cleaning, Resetting, Closing}
use Rattle.my_pool_parts.specs.declared.connection.PlaceKind.{PlaceKind}
use Rattle.my_pool_parts.specs.declared.connection.PlaceKind.TheVariants as kinds
use Rattle.my_pool_parts.specs.declared.connection.Times.{Times}
use Rattle.my_frame.specs.Lists.{without}

-- a connection at a place
abbrev pub placed : ℕ → Place → Connection
placed number place = record { number = number; place = place }

-- returned, marked or not
abbrev pub returned : Bool → Place
returned marked = Returned marked

-- whether it is the one of this number
abbrev pub has_number : ℕ → Connection → Bool
has_number number c = c.number == number

-- whether a moment is above a deadline
abbrev pub is_past : ℕ → Option ℕ → Bool
is_past now None = false
is_past now (Some deadline) = nat_lt deadline now

-- an idle connection is expired above its deadline, and where a time after its last read is set, above that
abbrev pub is_over : ℕ → Times → Bool
is_over now times = is_past now times.deadline || (nat_lt 0 times.ttl && nat_lt times.ttl (now - times.last_io))

-- idle
abbrev pub is_idle_place : Place → Bool
is_idle_place (Idle times) = true
is_idle_place _ = false

-- idle and not expired
abbrev pub is_usable_place : ℕ → Place → Bool
is_usable_place now (Idle times) = not (is_over now times)
is_usable_place now _ = false

abbrev pub is_leased_place : Place → Bool
is_leased_place Leased = true
is_leased_place _ = false

abbrev pub is_connecting_place : Place → Bool
is_connecting_place Connecting = true
is_connecting_place _ = false

abbrev pub is_checking_place : Place → Bool
is_checking_place Checking = true
is_checking_place _ = false

abbrev pub is_returned_place : Place → Bool
is_returned_place (Returned marked) = true
is_returned_place _ = false

abbrev pub is_cleaning_place : Place → Bool
is_cleaning_place (Cleaning marked) = true
is_cleaning_place _ = false

abbrev pub is_resetting_place : Place → Bool
is_resetting_place Resetting = true
is_resetting_place _ = false

abbrev pub is_closing_place : Place → Bool
is_closing_place Closing = true
is_closing_place _ = false

-- a place at which its cleaning, its reset or its close goes on
abbrev pub is_working_place : Place → Bool
is_working_place (Cleaning marked) = true
is_working_place Resetting = true
is_working_place Closing = true
is_working_place _ = false

-- whether it was marked when its time as an idle one was over; a mark lasts while it is returned or cleaning
abbrev pub mark_of_place : Place → Bool
mark_of_place (Returned marked) = marked
mark_of_place (Cleaning marked) = marked
mark_of_place _ = false

abbrev pub is_idle : Connection → Bool
is_idle c = is_idle_place c.place

abbrev pub is_usable : ℕ → Connection → Bool
is_usable now c = is_usable_place now c.place

abbrev pub is_leased : Connection → Bool
is_leased c = is_leased_place c.place

abbrev pub is_returned : Connection → Bool
is_returned c = is_returned_place c.place

abbrev pub is_cleaning : Connection → Bool
is_cleaning c = is_cleaning_place c.place

abbrev pub is_connecting : Connection → Bool
is_connecting c = is_connecting_place c.place

abbrev pub is_checking : Connection → Bool
is_checking c = is_checking_place c.place

abbrev pub is_resetting : Connection → Bool
is_resetting c = is_resetting_place c.place

abbrev pub is_closing : Connection → Bool
is_closing c = is_closing_place c.place

abbrev pub is_at_work : Connection → Bool
is_at_work c = is_working_place c.place

abbrev pub is_marked : Connection → Bool
is_marked c = mark_of_place c.place

-- a connection that changes its place goes to the end
abbrev pub move_to : ℕ → Place → List Connection → List Connection
move_to number place cs = without (has_number number) cs ++ placed number place ∷ []

-- the latest idle connection that isn't expired
abbrev pub latest_usable : ℕ → List Connection → Option ℕ
latest_usable now [] = None
latest_usable now (c ∷ cs) =
    if list_any (is_usable now) cs then latest_usable now cs
    else if is_usable now c then Some c.number
    else None

-- whether it is idle and expired, and none after it is usable
abbrev pub is_left : ℕ → Connection → List Connection → Bool
is_left now c cs = is_idle c && not (is_usable now c) && not (list_any (is_usable now) cs)

-- looked at from the latest on, the idle ones are expired up to one that isn't: what stays where it is
abbrev pub unexpired : ℕ → List Connection → List Connection
unexpired now [] = []
unexpired now (c ∷ cs) =
    if is_left now c cs then unexpired now cs
    else c ∷ unexpired now cs

-- and those that are expired, the latest first, which are now returned
abbrev pub expired : ℕ → List Connection → List Connection
expired now [] = []
expired now (c ∷ cs) =
    if is_left now c cs
    then expired now cs ++ placed c.number (Returned false) ∷ []
    else expired now cs

-- the idle ones from the latest on, up to one that isn't expired, go to the end of the returned ones
abbrev pub retire : ℕ → List Connection → List Connection
retire now cs = unexpired now cs ++ expired now cs

-- whether an idle one doesn't stay, where `moved` of `many` that need not stay have gone before it:
-- above its deadline, or idle for too long
abbrev pub is_outdated : ℕ → ℕ → ℕ → ℕ → Place → Bool
is_outdated now inactive many moved (Idle times) =
    is_past now times.deadline || (nat_lt moved many && nat_lt inactive (now - times.since))
is_outdated now inactive many moved _ = false

-- looked at from the one that is idle longest on: those that stay
abbrev pub lasting : ℕ → ℕ → ℕ → ℕ → List Connection → List Connection
lasting now inactive many moved [] = []
lasting now inactive many moved (c ∷ cs) =
    if is_outdated now inactive many moved c.place then lasting now inactive many (moved + 1) cs
    else c ∷ lasting now inactive many moved cs

-- and those that don't, which are now returned and marked
abbrev pub outdated : ℕ → ℕ → ℕ → ℕ → List Connection → List Connection
outdated now inactive many moved [] = []
outdated now inactive many moved (c ∷ cs) =
    if is_outdated now inactive many moved c.place
    then placed c.number (Returned true) ∷ outdated now inactive many (moved + 1) cs
    else outdated now inactive many moved cs

-- the connection whose turn it is to be cleaned: the one that returned first, or where the pool is closed and none
-- is returned the one that is idle longest
abbrev pub next_to_clean : Bool → List Connection → Option Connection
next_to_clean closed cs =
    if list_any is_returned cs then find is_returned cs
    else if closed then find is_idle cs
    else None

-- whether a place is of a kind
abbrev pub is_kind : PlaceKind → Place → Bool
is_kind kinds.Idle place = is_idle_place place
is_kind kinds.Leased place = is_leased_place place
is_kind kinds.Connecting place = is_connecting_place place
is_kind kinds.Checking place = is_checking_place place
is_kind kinds.Returned place = is_returned_place place
is_kind kinds.Cleaning place = is_cleaning_place place
is_kind kinds.Resetting place = is_resetting_place place
is_kind kinds.Closing place = is_closing_place place
