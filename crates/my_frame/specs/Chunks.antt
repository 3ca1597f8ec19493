-- How a payload travels between client and server: in numbered chunks.
-- MySQL client/server protocol, "MySQL Packets" and "Sending more than 16Mb": a chunk is a length of three bytes, a
-- sequence id of one byte and a part of this length. Each chunk of a payload but the last is full; the last, which may
-- be empty, is not.
use Rattle.std.specs.Prelude.{ℕ, zero, suc, ◌+◌, ◌/◌, ◌%◌, List, [], ◌∷◌, ◌++◌, length, take, drop}
use Rattle.my_frame.specs.declared.limits.TheConstants.{FULL_LENGTH}

-- the length of a full chunk's part, in bytes
abbrev pub full_length : ℕ
full_length = FULL_LENGTH

-- the sequence id after n
abbrev pub next_number : ℕ → ℕ
next_number n = (n + 1) % 256

-- what comes before the part in a chunk: the part's length, the lowest byte first, and the sequence id
abbrev pub header : ℕ → ℕ → List ℕ
header len number = len % 256 ∷ len / 256 % 256 ∷ len / 65536 ∷ number ∷ []

-- the chunk of this part of a payload
abbrev pub chunk : List ℕ → ℕ → List ℕ
chunk part number = header (length part) number ++ part

-- a chunk for each of these parts, with sequence ids from n on
abbrev pub numbered : List (List ℕ) → ℕ → List ℕ
numbered [] n = []
numbered (part ∷ parts) n = chunk part n ++ numbered parts (next_number n)

-- the sequence id after those of these parts
abbrev pub number_after : List (List ℕ) → ℕ → ℕ
number_after [] n = n
number_after (part ∷ parts) n = number_after parts (next_number n)

-- the first `count` parts of a payload, each as long as a full chunk's, and what is left as one more
abbrev pub split_full : ℕ → List ℕ → List (List ℕ)
split_full zero p = p ∷ []
split_full (suc count) p = take full_length p ∷ split_full count (drop full_length p)

-- the parts of a payload, one in each chunk
unfoldable pub parts_of : List ℕ → List (List ℕ)
parts_of p = split_full (length p / full_length) p

-- the chunks of the payload p, with sequence ids from n on
unfoldable pub chunks : List ℕ → ℕ → List ℕ
chunks p n = numbered (parts_of p) n

-- the sequence id after that of the payload's last chunk, where its first has n
unfoldable pub number_after_payload : List ℕ → ℕ → ℕ
number_after_payload p n = number_after (parts_of p) n
