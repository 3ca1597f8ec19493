-- Which values are sent for the parameters of a text.
use Rattle.std.specs.Prelude.{◌≡◌, ℕ, Bool, true, false, List, [], ◌∷◌, length, Vec, Option, Some, None, Result, Ok, Err, ⊤, ◌==◌, nat_eq, if◌then◌else◌}
use Rattle.std.specs.Cmp.Lexicographic.{pointwise, slice_cmp}
use Rattle.std.specs.List.{list_any}
use Rattle.std.specs.Borrow.{Bor}
use Rattle.std.specs.BTreeMap.{BTreeMap, get_by}
use Rattle.std.specs.Ordering.{nat_cmp}
use Rattle.std.specs.Option.{option_copied}
use Rattle.my_value.specs.declared.value.Value.{Value}
use Rattle.my_value.specs.declared.value.Value.TheVariants.{FloatBits, DoubleBits}
use Rattle.my_params.specs.declared.params.Params.{Params}
use Rattle.my_params.specs.declared.params.Params.TheVariants.{Empty, Positional, Named}
use Rattle.my_params.specs.declared.params.ParamsError.{ParamsError}
use Rattle.my_params.specs.declared.params.ParamsError.TheVariants.{Missing, Kind, NoMemory}

-- the first that is there
abbrev pub first_of : {T : Type 0} → Option T → Option T → Option T
first_of None o = o
first_of (Some x) o = Some x

-- the value of a name: that of the last pair with it
abbrev pub last_value : List ℕ → List (List ℕ × Value) → Option Value
last_value name [] = None
last_value name (p ∷ ps) = first_of (last_value name ps) (if pointwise nat_eq p.0 name then Some p.1 else None)

-- what a map has at a name
abbrev pub value_in : {X : Type 0} → List ℕ → BTreeMap (Bor (List ℕ)) X → Option X
value_in name index = get_by (λ k. slice_cmp nat_cmp name k.now) index

-- The map has the value of each name that has one.
abbrev pub HasLastValues : List (List ℕ × Value) → BTreeMap (Bor (List ℕ)) (Bor Value) → Type 0
HasLastValues pairs index = (name : List ℕ) → option_copied (value_in name index) ≡ last_value name pairs

-- a value before those of the later names, unless it or one of them is missing
abbrev pub with_value : List ℕ → Option Value → Result (List Value) (List ℕ) → Result (List Value) (List ℕ)
with_value name None more = Err name
with_value name (Some v) (Ok vs) = Ok (v ∷ vs)
with_value name (Some v) (Err missing) = Err missing

-- each name's value at each of its places, or the first name without one
abbrev pub filled : List (List ℕ) → List (List ℕ × Value) → Result (List Value) (List ℕ)
filled [] pairs = Ok []
filled (name ∷ names) pairs = with_value name (last_value name pairs) (filled names pairs)

-- whether the value is a float, which isn't sent
abbrev pub is_float : Value → Bool
is_float (FloatBits bits) = true
is_float (DoubleBits bits) = true
is_float v = false

abbrev pub sendable : List Value → Result (List Value) ParamsError
sendable vs = if list_any is_float vs then Err Kind else Ok vs

abbrev pub sendable_if_filled : Result (List Value) (List ℕ) → Result (List Value) ParamsError
sendable_if_filled (Ok vs) = sendable vs
sendable_if_filled (Err name) = Err (Missing name)

-- The values that are sent, or why none are: a name has no value, the kinds of parameters and text don't fit together,
-- or a value is a float.
abbrev pub resolved : Params → List (List ℕ) → Result (List Value) ParamsError
resolved Empty [] = Ok []
resolved Empty (name ∷ names) = Err (Missing name)
resolved (Positional values) [] = sendable values
resolved (Positional values) (name ∷ names) = Err Kind
resolved (Named pairs) [] = if length pairs == 0 then Ok [] else Err Kind
resolved (Named pairs) (name ∷ names) = sendable_if_filled (filled (name ∷ names) pairs)

-- The result is that one, unless memory ran out.
abbrev pub ResolvesTo : {A : Type 0} → Result (Vec Value A) ParamsError → Result (List Value) ParamsError → Type 0
ResolvesTo (Ok v) expected = expected ≡ Ok v.items
ResolvesTo (Err (Missing name)) expected = expected ≡ Err (Missing name)
ResolvesTo (Err Kind) expected = expected ≡ Err Kind
ResolvesTo (Err NoMemory) expected = ⊤

-- The result is each name's value, or the first name without one, unless memory ran out.
abbrev pub FillsTo : {A : Type 0} → Result (Vec Value A) ParamsError → Result (List Value) (List ℕ) → Type 0
FillsTo (Ok v) expected = expected ≡ Ok v.items
FillsTo (Err (Missing name)) expected = expected ≡ Err name
FillsTo (Err Kind) expected = ⊥
FillsTo (Err NoMemory) expected = ⊤

-- The error says that this name has no value, or memory ran out.
abbrev pub MissesOrFails : ParamsError → List ℕ → Type 0
MissesOrFails (Missing name) wanted = name ≡ wanted
MissesOrFails Kind wanted = ⊥
MissesOrFails NoMemory wanted = ⊤
