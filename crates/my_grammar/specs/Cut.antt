-- The exchanges that a server's bytes hold, however they came. MySQL client/server protocol, "MySQL Packets" and "Command Phase": the
-- packets of the exchanges follow one another, and in each exchange their sequence ids begin with 0.
use Rattle.std.specs.Prelude.{ℕ, zero, suc, ◌+◌, List, [], ◌∷◌, length, Bool, true, false, if◌then◌else◌}
use Rattle.my_frame.specs.declared.fault.CodecFault.{CodecFault}
use Rattle.my_frame.specs.Front.{Front, Waiting, Broken, Whole, front_at}
use Rattle.my_grammar.specs.declared.spot.Spot.{Spot}
use Rattle.my_grammar.specs.declared.spot.Spot.TheVariants as spots
use Rattle.my_grammar.specs.declared.spot.Kind.{Kind}
use Rattle.my_grammar.specs.Contexts.{is_bad}
use Rattle.my_grammar.specs.Kinds.{kind_there}
use Rattle.my_grammar.specs.Talk.{Talk, turns, number_of, context_of, described, limit_of, packets_of}
use Rattle.my_grammar.specs.Growth.{grow}

-- an exchange as far as the bytes hold it, and the bytes after
pub record Read : Type 0 where
  pub talk : Talk
  pub rest : List ℕ

-- what bytes begin with where the exchange awaits a payload
abbrev pub front_of : Talk → List ℕ → Front
front_of t bytes = front_at (number_of (turns t)) (limit_of t) bytes

-- what the payload in front is there
abbrev pub kind_of : Talk → List ℕ → Kind
kind_of t p = kind_there (context_of t) (described t) p

-- a payload that fits is read, and the reading goes on after it
abbrev pub read_payload : Talk → List ℕ → List ℕ → List ℕ → Kind → (Talk → List ℕ → Read) → Read
read_payload t bytes p rest k go = if is_bad k then record { talk = t; rest = bytes } else go (grow k t p) rest

abbrev pub read_front : Talk → List ℕ → Front → (Talk → List ℕ → Read) → Read
read_front t bytes Waiting go = record { talk = t; rest = bytes }
read_front t bytes (Broken fault) go = record { talk = t; rest = bytes }
read_front t bytes (Whole p rest next) go = read_payload t bytes p rest (kind_of t p) go

-- n payloads at most
unfoldable pub read_within : ℕ → Talk → List ℕ → Read
read_within zero t bytes = record { talk = t; rest = bytes }
read_within (suc most) t bytes = read_front t bytes (front_of t bytes) (read_within most)

-- The exchange with all payloads that the bytes hold of it. There are fewer payloads than bytes.
unfoldable pub read_from : Talk → List ℕ → Read
read_from t bytes = read_within (length bytes) t bytes

-- What the reading stopped at: the bytes after the whole of the last exchange; bytes that hold no whole payload yet; a payload that
-- fits no case there, with the bytes from it on; a header with a wrong sequence id or a length above the limit.
pub data Rest : Type 0 where
  Trailing : (bytes : List ℕ) → Rest
  Unfinished : (bytes : List ℕ) → Rest
  Unfit : (payload bytes : List ℕ) → Rest
  Blamed : (fault : CodecFault) (bytes : List ℕ) → Rest

abbrev pub rest_in_front : List ℕ → Front → Rest
rest_in_front bytes Waiting = Unfinished bytes
rest_in_front bytes (Broken fault) = Blamed fault bytes
rest_in_front bytes (Whole p rest next) = Unfit p bytes

abbrev pub is_idle : Spot → Bool
is_idle spots.Idle = true
is_idle s = false

-- whether nothing of the exchange is awaited any more
abbrev pub is_over : Talk → Bool
is_over t = is_idle (context_of t).spot

abbrev pub rest_of : Read → Rest
rest_of r = if is_over r.talk then Trailing r.rest else rest_in_front r.rest (front_of r.talk r.rest)

-- the exchanges in order, the last perhaps begun, and what the reading stopped at
pub record Cut : Type 0 where
  pub talks : List Talk
  pub rest : Rest

abbrev pub onto : Talk → Cut → Cut
onto t c = record { talks = t ∷ c.talks; rest = c.rest }

-- nothing is read after an exchange that isn't over
abbrev pub cut_after : Read → (List ℕ → Cut) → Cut
cut_after r go = if is_over r.talk then onto r.talk (go r.rest) else record { talks = r.talk ∷ []; rest = rest_of r }

-- the exchanges that began so, in order, as far as the bytes hold them
abbrev pub cut : List Talk → List ℕ → Cut
cut [] bytes = record { talks = []; rest = Trailing bytes }
cut (t ∷ ts) bytes = cut_after (read_from t bytes) (cut ts)

-- the number of whole payloads that were read before the rest
abbrev pub place_of : List Talk → ℕ
place_of [] = 0
place_of (t ∷ ts) = length (packets_of t) + place_of ts
