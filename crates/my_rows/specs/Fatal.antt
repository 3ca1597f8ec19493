-- Whether a connection is of no use after an error.
use Rattle.std.specs.Prelude.{Bool, false}
use Rattle.my_reading.specs.Errors as errors
use Rattle.my_rows.specs.declared.error.QueryError.{QueryError}
use Rattle.my_rows.specs.declared.error.QueryError.TheVariants.{Client, FromRow}

abbrev pub is_fatal : QueryError → Bool
is_fatal (Client error) = errors.is_fatal error
is_fatal (FromRow row) = false
