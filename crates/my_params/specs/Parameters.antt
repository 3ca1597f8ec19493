-- Values as the parameters of a statement.
-- MySQL internals, "COM_STMT_EXECUTE" and "COM_STMT_SEND_LONG_DATA".
use Rattle.std.specs.Prelude.{ℕ, ◌+◌, ◌*◌, ◌/◌, Bool, true, false, List, length, map, Option, Some, None, [], nat_lt}
use Rattle.my_frame.specs.declared.limits.TheConstants.{FULL_LENGTH}
use Rattle.my_command.specs.declared.statement.Parameter.{Parameter}
use Rattle.my_command.specs.declared.statement.ParameterHead.{ParameterHead}
use Rattle.my_command.specs.Client.Statement.{execute_bytes, head_of}
use Rattle.my_value.specs.declared.value.Value.{Value}
use Rattle.my_value.specs.declared.value.Value.TheVariants.{NULL, Bytes}
use Rattle.my_params.specs.Sending.{type_of, value_bytes, values_len}

-- how bytes are sent, nothing where they were sent before by themselves
abbrev pub bytes_or_none : Bool → Value → List ℕ
bytes_or_none true v = []
bytes_or_none false v = value_bytes v

-- a value as it is sent, none for NULL; with `ahead` the values of bytes were sent before by themselves
abbrev pub sent_value : Bool → Value → Option (List ℕ)
sent_value ahead NULL = None
sent_value ahead (Bytes text) = Some (bytes_or_none ahead (Bytes text))
sent_value ahead v = Some (value_bytes v)

-- a value as a parameter
abbrev pub parameter_of : Bool → Value → Parameter
parameter_of ahead v = record { form = type_of v; value = sent_value ahead v }

-- the type of a value, and whether it is NULL, which don't depend on what was sent before
abbrev pub sent_head : Value → ParameterHead
sent_head v = head_of (parameter_of false v)

-- a value of a row of a bulk execution
abbrev pub cell_of : Value → Option (List ℕ)
cell_of v = sent_value false v

-- the length of the payload with each value in it: its head, the bitmap, a 1, the types and the values
abbrev pub written_len : List Value → ℕ
written_len values = 10 + (length values + 7) / 8 + 1 + 2 * length values + values_len values

-- whether that is more than a chunk holds, so that the values of bytes are sent before by themselves
abbrev pub needs_long : List Value → Bool
needs_long values = nat_lt FULL_LENGTH (written_len values)

-- the payload that executes the statement with these values
abbrev pub body_of : ℕ → List Value → List ℕ
body_of id values = execute_bytes id (map (parameter_of (needs_long values)) values)
