-- Which refusals of parameters and of transactions there are.
use Rattle.std.proofs.Common.{◌≡◌, ℕ, ◌==◌, nat_lt, List, length, Bool, true, false, cond, Option, Some, None, Result, Ok, Err, refl, sym, ap, ◌∙◌, subst}
use Rattle.my_handshake.specs.declared.version.ServerVersion.{ServerVersion}
use Rattle.my_opts_parts.specs.TransactionOptions.{TxView}
use Rattle.my_value.specs.declared.value.Value.{Value}
use Rattle.my_params.specs.ParamValues.{resolved}
use Rattle.my_params.specs.declared.params.Params.{Params}
use Rattle.my_params.specs.declared.params.ParamsError.{ParamsError}
use Rattle.my_statements.specs.Prepared.{StatementView}
use Rattle.my_reading.specs.declared.transaction.TxStatus.{TxStatus}
use Rattle.my_reading.specs.declared.transaction.TxStatus.TheVariants as txs
use Rattle.my_reading.specs.declared.error.DriverError.{DriverError}
use Rattle.my_reading.specs.declared.error.DriverError.TheVariants as drivers
use Rattle.my_reading.specs.declared.executing.TheConstants.{MOST_VALUES}
use Rattle.my_reading.specs.Executions.{Values, Fitting, Unfitting, if_as_many, values_of, values_for}
use Rattle.my_reading.specs.Transactions.{access_refusal, begin_refusal}
use Rattle.my_reading.specs.Versions.{can_set_access}
use Rattle.my_session.specs.Fits.{OwnDriver}
use Rattle.reading_laws.proofs.Unfitting.{IsOfChain}

-- why the parameters of an execution are refused, where they are
abbrev pub refused_by : Values → Option DriverError
refused_by (Fitting values) = None
refused_by (Unfitting e) = Some e

-- the refusals of parameters
abbrev is_params : DriverError → Bool
is_params (drivers.Params x) = true
is_params (drivers.StmtParamsMismatch required supplied) = true
is_params (drivers.StmtParamsNumberExceedsLimit supplied) = true
is_params e = false

abbrev AreRefused : Values → Type 0
AreRefused (Fitting values) = Unit {0}
AreRefused (Unfitting e) = is_params e ≡ true

as_many_refused : (b : Bool) (required : ℕ) (values : List Value) → AreRefused (cond b (Fitting values) (Unfitting (drivers.StmtParamsMismatch required (length values))))
as_many_refused true required values = tt
as_many_refused false required values = refl

few_refused : (b : Bool) (required : ℕ) (values : List Value) → AreRefused (cond b (Unfitting (drivers.StmtParamsNumberExceedsLimit (length values))) (if_as_many required values))
few_refused true required values = refl
few_refused false required values = as_many_refused (length values == required) required values

values_refused : (required : ℕ) (r : Result (List Value) ParamsError) → AreRefused (values_of required r)
values_refused required (Ok values) = few_refused (nat_lt MOST_VALUES (length values)) required values
values_refused required (Err e) = refl

refused_is : (v : Values) (e : DriverError) → AreRefused v → refused_by v ≡ Some e → is_params e ≡ true
refused_is (Fitting values) e w is = cc
refused_is (Unfitting x) e w is = let same : x ≡ e = cc in ap is_params (sym same) ∙ w

-- values that are refused
values_are : (statement : StatementView) (params : Params) (e : DriverError) → refused_by (values_for statement params) ≡ Some e → is_params e ≡ true
values_are statement params e is = refused_is (values_for statement params) e (values_refused statement.inner.num_params (resolved params statement.names)) is

params_own : (e : DriverError) → is_params e ≡ true → OwnDriver e
params_own (drivers.Params x) w = tt
params_own (drivers.StmtParamsMismatch required supplied) w = tt
params_own (drivers.StmtParamsNumberExceedsLimit supplied) w = tt
params_own _ w = cc

pub values_own : (statement : StatementView) (params : Params) (e : DriverError) → refused_by (values_for statement params) ≡ Some e → OwnDriver e
values_own statement params e is = params_own e (values_are statement params e is)

-- a transaction is refused by one of two errors
access_is : (readonly : Option Bool) (known : Bool) (e : DriverError) (Holds : DriverError → Type 0) → Holds drivers.ReadOnlyTransNotSupported → access_refusal readonly known ≡ Some e → Holds e
access_is None known e Holds old is = cc
access_is (Some readonly) true e Holds old is = cc
access_is (Some readonly) false e Holds old is = let same : drivers.ReadOnlyTransNotSupported ≡ e = cc in subst Holds same old

begin_is : (t : TxView) (v : ServerVersion) (status : TxStatus) (e : DriverError) (Holds : DriverError → Type 0) → Holds drivers.NestedTransaction → Holds drivers.ReadOnlyTransNotSupported → begin_refusal t v status ≡ Some e → Holds e
begin_is t v txs.None e Holds nested old is = access_is t.readonly (can_set_access v) e Holds old is
begin_is t v txs.InTransaction e Holds nested old is = let same : drivers.NestedTransaction ≡ e = cc in subst Holds same nested
begin_is t v txs.RequiresRollback e Holds nested old is = access_is t.readonly (can_set_access v) e Holds old is

pub begin_own : (t : TxView) (v : ServerVersion) (status : TxStatus) (e : DriverError) → begin_refusal t v status ≡ Some e → OwnDriver e
begin_own t v status e is = begin_is t v status e OwnDriver tt tt is

-- and of what a server asks for
pub chain_own : (e : DriverError) → IsOfChain e → OwnDriver e
chain_own (drivers.UnexpectedPacket payload) w = tt
chain_own (drivers.UnknownAuthPlugin name) w = tt
chain_own drivers.CleartextPluginDisabled w = tt
chain_own drivers.MysqlOldPasswordDisabled w = tt
chain_own drivers.FullAuthRefused w = tt
chain_own e w = absurd w
