-- What it means that exchanges are read from bytes.
use Rattle.std.specs.Prelude.{◌≡◌, ℕ, List, [], ◌∷◌, ◌++◌, map, true}
use Rattle.std.specs.List.{AllByRecursion}
use Rattle.my_frame.specs.Front.{Front, Waiting, Broken, Whole}
use Rattle.my_grammar.specs.Contexts.{is_bad}
use Rattle.my_grammar.specs.Sets.{Packet}
use Rattle.my_grammar.specs.Talk.{Talk, Fits, turns, server_bytes, packets_of, origin}
use Rattle.my_grammar.specs.Cut.{Read, Rest, Trailing, Unfinished, Unfit, Blamed, Cut, cut, front_of, kind_of, is_over}

-- the bytes begin with no payload that fits there
abbrev pub StopsAt : Talk → Front → Type 0
StopsAt t Waiting = Unit {0}
StopsAt t (Broken fault) = Unit {0}
StopsAt t (Whole p rest next) = is_bad (kind_of t p) ≡ true

-- From the exchange t these bytes were read as far as they go: what was read is an exchange that began as t did and has its payloads,
-- newer ones spell the bytes up to the rest, and the rest begins with nothing that could be read.
pub record IsRead (t : Talk) (bytes : List ℕ) (r : Read) : Type 0 where
  pub fits : Fits r.talk
  pub origin_is : origin r.talk ≡ origin t
  pub spelled : server_bytes (turns r.talk) ++ r.rest ≡ server_bytes (turns t) ++ bytes
  pub newer : List Packet
  pub packets_are : packets_of r.talk ≡ newer ++ packets_of t
  pub stops : StopsAt r.talk (front_of r.talk r.rest)

-- the bytes from where the reading stopped
abbrev pub bytes_of : Rest → List ℕ
bytes_of (Trailing bytes) = bytes
bytes_of (Unfinished bytes) = bytes
bytes_of (Unfit payload bytes) = bytes
bytes_of (Blamed fault bytes) = bytes

-- the server's bytes of exchanges in order, and others after
abbrev pub spell : List Talk → List ℕ → List ℕ
spell [] others = others
spell (t ∷ ts) others = server_bytes (turns t) ++ spell ts others

-- all exchanges but the last are over
abbrev pub AreOver : List Talk → Type 0
AreOver [] = Unit {0}
AreOver (t ∷ []) = Unit {0}
AreOver (t ∷ u ∷ ts) = (is_over t ≡ true) × AreOver (u ∷ ts)

-- The bytes are cut into these exchanges: the first ones of those that began, each as the protocol has it, all but the last over, and
-- they spell the bytes up to the rest.
pub record IsCut (ts : List Talk) (bytes : List ℕ) (c : Cut) : Type 0 where
  pub fit : AllByRecursion Fits c.talks
  pub later : List Talk
  pub began : map origin ts ≡ map origin c.talks ++ later
  pub over : AreOver c.talks
  pub spelled : spell c.talks (bytes_of c.rest) ≡ bytes

-- A cut stays when more bytes come, but where it stopped at a payload that isn't whole.
abbrev pub RestStays : List ℕ → List Talk → Rest → Cut → Type 0
RestStays more talks (Trailing bytes) later = later ≡ record { talks = talks; rest = Trailing (bytes ++ more) }
RestStays more talks (Unfinished bytes) later = Unit {0}
RestStays more talks (Unfit payload bytes) later = later ≡ record { talks = talks; rest = Unfit payload (bytes ++ more) }
RestStays more talks (Blamed fault bytes) later = later ≡ record { talks = talks; rest = Blamed fault (bytes ++ more) }

-- Where more exchanges may follow, they are cut after the others once these are over.
abbrev pub RestGoesOn : List Talk → List Talk → Rest → Cut → Type 0
RestGoesOn us talks (Trailing bytes) later = later ≡ record { talks = talks ++ (cut us bytes).talks; rest = (cut us bytes).rest }
RestGoesOn us talks (Unfinished bytes) later = later ≡ record { talks = talks; rest = Unfinished bytes }
RestGoesOn us talks (Unfit payload bytes) later = later ≡ record { talks = talks; rest = Unfit payload bytes }
RestGoesOn us talks (Blamed fault bytes) later = later ≡ record { talks = talks; rest = Blamed fault bytes }
