-- Why a line doesn't read, as text.
use Rattle.std.specs.Prelude.{ℕ, List, codes}
use Rattle.my_cli.specs.declared.unread.Unread.{Unread}
use Rattle.my_cli.specs.declared.unread.Unread.TheVariants.{Return, NoStep, ScriptAlone, MissingWord, FurtherWord, NoNumber, LargeNumber, TooManyConns, WordOrPlace, Word}

abbrev pub unread_text : Unread → List ℕ
unread_text Return = codes "it ends with a carriage return"
unread_text NoStep = codes "no such step"
unread_text ScriptAlone = codes "a line of a world, which script alone has"
unread_text MissingWord = codes "a word is missing"
unread_text FurtherWord = codes "a word too many"
unread_text NoNumber = codes "a word is no number"
unread_text LargeNumber = codes "a number is too large"
unread_text TooManyConns = codes "more than 1000 lines connect"
unread_text WordOrPlace = codes "a word doesn't read, or a step stands before the line"
unread_text Word = codes "a word doesn't read"
