-- Whether a statement can be executed with given parameters, and with which values.
-- MySQL internals, "COM_STMT_EXECUTE": a value for each parameter, whose number has two bytes.
use Rattle.std.specs.Prelude.{◌≡◌, ℕ, ◌==◌, nat_lt, List, length, Vec, Result, Ok, Err, if◌then◌else◌}
use Rattle.my_value.specs.declared.value.Value.{Value}
use Rattle.my_params.specs.ParamValues.{resolved}
use Rattle.my_params.specs.declared.params.Params.{Params}
use Rattle.my_params.specs.declared.params.ParamsError.{ParamsError}
use Rattle.my_statements.specs.Prepared.{StatementView}
use Rattle.my_reading.specs.declared.error.DriverError.{DriverError}
use Rattle.my_reading.specs.declared.error.DriverError.TheVariants as drivers
use Rattle.my_reading.specs.declared.error.Error.{Error}
use Rattle.my_reading.specs.declared.error.Error.TheVariants as errors
use Rattle.my_reading.specs.declared.executing.TheConstants.{MOST_VALUES}

-- the values, or why there are none
pub data Values : Type 0 where
  Fitting : (values : List Value) → Values
  Unfitting : (e : DriverError) → Values

-- as many as the statement has parameters
abbrev pub if_as_many : ℕ → List Value → Values
if_as_many required values =
    if length values == required
    then Fitting values
    else Unfitting (drivers.StmtParamsMismatch required (length values))

-- and no more than can be sent
abbrev pub if_few : ℕ → List Value → Values
if_few required values =
    if nat_lt MOST_VALUES (length values)
    then Unfitting (drivers.StmtParamsNumberExceedsLimit (length values))
    else if_as_many required values

abbrev pub values_of : ℕ → Result (List Value) ParamsError → Values
values_of required (Err e) = Unfitting (drivers.Params e)
values_of required (Ok values) = if_few required values

-- Which values are sent. The parameters are looked at first, then how many values there are, then whether the statement has as many.
abbrev pub values_for : StatementView → Params → Values
values_for statement params = values_of statement.inner.num_params (resolved params statement.names)

-- The result is that, unless memory ran out.
abbrev pub GivesValues : {A : Type 0} → Result (Vec Value A) Error → Values → Type 0
GivesValues (Ok v) expected = expected ≡ Fitting v.items
GivesValues (Err (errors.Driver e)) expected = expected ≡ Unfitting e
GivesValues (Err errors.NoMemory) expected = Unit {0}
GivesValues (Err _) expected = ⊥
