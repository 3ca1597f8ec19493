-- How the cells of a binary row are spelled, by the type of their column.
-- MySQL internals, "Binary Protocol Value" and "Column Types" (enum_field_types).
use Rattle.std.specs.Prelude.{ℕ, Bool, ◌||◌, ◌&&◌, Option, Some, None, ◌==◌, nat_le, if◌then◌else◌}
use Rattle.std.specs.Int.{bit_at}
use Rattle.my_value.specs.declared.form.CellForm.{CellForm}
use Rattle.my_value.specs.declared.form.CellForm.TheVariants.{Tiny, Short, Long, LongLong, Float, Double, Date, Time, Null, Text}

-- TINY 1; SHORT 2, YEAR 13; LONG 3, INT24 9; LONGLONG 8; FLOAT 4; DOUBLE 5; TIMESTAMP 7, DATE 10, DATETIME 12; TIME 11;
-- NULL 6; DECIMAL 0, VARCHAR 15, BIT 16, VECTOR 242, JSON 245, NEWDECIMAL 246, ENUM 247, SET 248, the blobs 249 to 252,
-- VAR_STRING 253, STRING 254, GEOMETRY 255
abbrev pub form_of_type : ℕ → Option CellForm
form_of_type t =
    if t == 1 then Some Tiny
    else (if (t == 2) || (t == 13) then Some Short
    else (if (t == 3) || (t == 9) then Some Long
    else (if t == 8 then Some LongLong
    else (if t == 4 then Some Float
    else (if t == 5 then Some Double
    else (if ((t == 7) || (t == 10)) || (t == 12) then Some Date
    else (if t == 11 then Some Time
    else (if t == 6 then Some Null
    else (if (((t == 0) || (t == 15)) || (t == 16)) || ((t == 242) || (nat_le 245 t && nat_le t 255)) then Some Text
    else None)))))))))

-- flag 0x20: the column's numbers have no sign
abbrev pub is_unsigned : ℕ → Bool
is_unsigned flags = bit_at flags 5 == 1
