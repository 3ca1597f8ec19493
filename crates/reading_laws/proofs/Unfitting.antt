-- What the error of a payload is that fits no case.
use Rattle.std.proofs.Common.{◌≡◌, ℕ, List, Bool, true, false, refl}
use Rattle.my_auth.specs.declared.chain.AuthMove.{AuthMove}
use Rattle.my_auth.specs.declared.chain.AuthMove.TheVariants.{Refuse}
use Rattle.my_auth.specs.declared.chain.AuthRefusal.{AuthRefusal}
use Rattle.my_auth.specs.declared.chain.AuthRefusal.TheVariants as refusals
use Rattle.my_auth.specs.Chain.{move_at}
use Rattle.my_grammar.specs.declared.spot.Spot.{Spot}
use Rattle.my_grammar.specs.declared.spot.Spot.TheVariants.{Authentication}
use Rattle.my_reading.specs.declared.call.CallKind.{CallKind}
use Rattle.my_reading.specs.declared.error.DriverError.{DriverError}
use Rattle.my_reading.specs.declared.error.DriverError.TheVariants as drivers
use Rattle.my_reading.specs.declared.error.Error.{Error}
use Rattle.my_reading.specs.declared.error.Error.TheVariants.{Driver}
use Rattle.my_reading.specs.Errors.{invalid_data, move_error, refusal_error, unfit_error}
use Rattle.my_reading.specs.Told.{closes_by}

-- the refusals of what a server asks for where the client shows who it is
abbrev pub IsOfChain : DriverError → Type 0
IsOfChain (drivers.UnexpectedPacket payload) = Unit {0}
IsOfChain (drivers.UnknownAuthPlugin name) = Unit {0}
IsOfChain drivers.CleartextPluginDisabled = Unit {0}
IsOfChain drivers.MysqlOldPasswordDisabled = Unit {0}
IsOfChain drivers.FullAuthRefused = Unit {0}
IsOfChain e = ⊥

-- it is InvalidData, or one of those
module _ (P : Error → Type 0) (plain : (n : ℕ) → P (invalid_data n)) (own : (e : DriverError) → IsOfChain e → P (Driver e)) where
  refusal_is : (r : AuthRefusal) (payload : List ℕ) (n : ℕ) → P (refusal_error r payload n)
  refusal_is refusals.UnknownAuthPlugin payload n = own _ tt
  refusal_is refusals.CleartextPluginDisabled payload n = own _ tt
  refusal_is refusals.MysqlOldPasswordDisabled payload n = own _ tt
  refusal_is refusals.FullAuthRefused payload n = own _ tt
  refusal_is refusals.UnexpectedPacket payload n = own _ tt
  refusal_is refusals.Malformed payload n = plain n

  move_is : (m : AuthMove) (payload : List ℕ) (n : ℕ) → P (move_error m payload n)
  move_is (Refuse r) payload n = refusal_is r payload n
  move_is m payload n = plain n

  pub unfit_is : (s : Spot) (payload : List ℕ) (n : ℕ) → P (unfit_error s payload n)
  unfit_is (Authentication stand) payload n = move_is (move_at stand payload) payload n
  unfit_is s payload n = plain n

chain_closes : (c : CallKind) (e : DriverError) → IsOfChain e → closes_by (Driver e) c ≡ true
chain_closes c (drivers.UnexpectedPacket payload) w = refl
chain_closes c (drivers.UnknownAuthPlugin name) w = refl
chain_closes c drivers.CleartextPluginDisabled w = refl
chain_closes c drivers.MysqlOldPasswordDisabled w = refl
chain_closes c drivers.FullAuthRefused w = refl
chain_closes c e w = absurd w

-- it closes the connection
pub unfit_closes : (c : CallKind) (s : Spot) (payload : List ℕ) (n : ℕ) → closes_by (unfit_error s payload n) c ≡ true
unfit_closes c s payload n = unfit_is (λ e. closes_by e c ≡ true) (λ m. refl) (chain_closes c) s payload n
