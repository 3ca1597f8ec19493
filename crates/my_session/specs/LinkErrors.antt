-- What a call that was made to fail returns.
use Rattle.std.specs.Prelude.{ℕ}
use Rattle.my_reading.specs.declared.error.DriverError.TheVariants.{TooLong}
use Rattle.my_reading.specs.declared.error.Error.{Error}
use Rattle.my_reading.specs.declared.error.Error.TheVariants.{Driver, NoMemory}
use Rattle.my_reading.specs.declared.error.IoKind.TheVariants.{Link}
use Rattle.my_reading.specs.Errors.{io_error}
use Rattle.my_session.specs.declared.answer.LinkFault.{LinkFault}
use Rattle.my_session.specs.declared.answer.LinkFault.TheVariants as faults

abbrev pub link_error : LinkFault → ℕ → Error
link_error faults.Link place = io_error Link place
link_error faults.TooLong place = Driver TooLong
link_error faults.NoMemory place = NoMemory
