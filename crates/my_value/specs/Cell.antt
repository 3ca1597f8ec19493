-- A cell of a payload, before memory is allocated for it.
use Rattle.my_value.specs.declared.value.Value.{Value}
use Rattle.my_value.specs.declared.value.Value.TheVariants.{Bytes}
use Rattle.my_value.specs.declared.cell.Cell.{Cell}
use Rattle.my_value.specs.declared.cell.Cell.TheVariants.{Lent, Plain}

-- the value that a cell holds
abbrev pub value_of : Cell → Value
value_of (Lent text) = Bytes text.now
value_of (Plain value) = value
