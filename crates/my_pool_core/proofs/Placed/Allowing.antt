-- Which events may happen by where a connection is.
use Rattle.std.proofs.Common.{◌≡◌, ℕ, Bool, true, Option, Some, None, refl, ◌∙◌}
use Rattle.std.specs.Prelude.{option_map, find}
use Rattle.my_pool_parts.specs.declared.connection.Connection.{Connection}
use Rattle.my_pool_parts.specs.declared.connection.Place.{Place}
use Rattle.my_pool_parts.specs.Lists.{found_is}
use Rattle.my_pool_parts.specs.Connections.{has_number, is_leased_place, is_cleaning_place}
use Rattle.my_pool_core.specs.State.{State}
use Rattle.my_pool_core.specs.Events.{may_give_back, may_decide, may_done}
use Rattle.my_pool_core.specs.Moves.{is_ending_place}
use Rattle.my_pool_core.specs.Owners.{place_at, is_lease}

by-place : (test : Place → Bool) (o : Option Connection) → found_is (λ c. test c.place) o ≡ found_is test (option_map (λ c. c.place) o)
by-place test None = refl
by-place test (Some c) = refl

pub may-give-back : (s : State) (n : ℕ) → is_lease n s ≡ true → may_give_back n s ≡ true
may-give-back s n e = by-place is_leased_place (find (has_number n) s.connections) ∙ e

pub may-decide : (s : State) (n : ℕ) → found_is is_cleaning_place (place_at n s) ≡ true → may_decide n s ≡ true
may-decide s n e = by-place is_cleaning_place (find (has_number n) s.connections) ∙ e

pub may-done : (s : State) (n : ℕ) (ok : Bool) → found_is (is_ending_place ok) (place_at n s) ≡ true → may_done n ok s ≡ true
may-done s n ok e = by-place (is_ending_place ok) (find (has_number n) s.connections) ∙ e
