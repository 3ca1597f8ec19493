-- What a server's OK said, as text.
use Rattle.std.specs.Prelude.{ℕ, ◌==◌, List, ◌++◌, codes, Option, Some, None, if◌then◌else◌}
use Rattle.std.specs.Fmt.{decimal}
use Rattle.my_reply.specs.declared.ok.OkPacket.{OkPacket}
use Rattle.my_script.specs.TextParts.{bytes_text}

-- the number that the server made for a row; 0 stands for none
unfoldable pub number_text : ℕ → List ℕ
number_text n = if n == 0 then codes "-" else decimal n

unfoldable pub insert_text : ℕ → List ℕ
insert_text n = codes " insert=" ++ number_text n

-- a word and a number
unfoldable pub named_text : List ℕ → ℕ → List ℕ
named_text word n = word ++ decimal n

-- `ok affected=A insert=I`
unfoldable pub changed_text : OkPacket → List ℕ
changed_text p = codes "ok" ++ named_text (codes " affected=") p.affected ++ insert_text p.insert

-- ` warnings=W status=F`
unfoldable pub state_text : OkPacket → List ℕ
state_text p = named_text (codes " warnings=") p.warnings ++ named_text (codes " status=") p.status.0

-- ` info=b:HEX`
unfoldable pub info_text : List ℕ → List ℕ
info_text info = codes " info=" ++ bytes_text info

-- `ok affected=A insert=I warnings=W status=F info=b:HEX`
unfoldable pub ok_text : OkPacket → List ℕ
ok_text p = changed_text p ++ state_text p ++ info_text p.info

abbrev pub fields_text : Option OkPacket → List ℕ
fields_text None = codes "ok -"
fields_text (Some p) = ok_text p
