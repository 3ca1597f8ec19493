-- An SQL text falls into quotes, comments, places of parameters and other bytes.
-- MySQL reference manual, "String Literals", "Schema Object Names" and "Comments"; names of parameters are an
-- extension of the client.
use Rattle.std.specs.Prelude.{◌≡◌, ℕ, zero, suc, ◌+◌, Bool, not, ◌&&◌, ◌||◌, List, [], ◌∷◌, length, take, drop, Option, Some, None, ◌==◌, nat_le, nat_lt, position, unwrap_or, if◌then◌else◌}
use Rattle.my_params.specs.declared.sql_text.Piece.{Piece}
use Rattle.my_params.specs.declared.sql_text.Piece.TheVariants as lent

-- bytes that are sent as they are, the name of a parameter, or a mark that a parameter takes without a name
pub data SqlPiece : Type 0 where
  kept : List ℕ → SqlPiece
  name : List ℕ → SqlPiece
  mark : SqlPiece

-- a piece without where it lies in memory
abbrev pub seen : Piece → SqlPiece
seen (lent.Kept bytes) = kept bytes.now
seen (lent.Plain byte) = kept (byte ∷ [])
seen (lent.Name bytes) = name bytes.now
seen lent.Mark = mark

-- whether the byte is a backslash that skips the next one
abbrev pub is_skipping : ℕ → ℕ → Bool
is_skipping quote b = (b == 92) && not (quote == 96)

-- how long the inside of a quote is, with the quote that closes it: the first that no backslash skips; a backtick is
-- skipped by none. It is all of the text where nothing closes it
abbrev pub quote_len : ℕ → List ℕ → ℕ
quote_len quote [] = 0
quote_len quote (b ∷ []) = 1
quote_len quote (b ∷ c ∷ bytes) =
    if b == quote then 1
    else (if is_skipping quote b then 2 + quote_len quote bytes else 1 + quote_len quote (c ∷ bytes))

-- how long the rest of a line is, without the byte 10 that ends it
abbrev pub line_len : List ℕ → ℕ
line_len bytes = unwrap_or (position (λ b. b == 10) bytes) (length bytes)

-- how long the inside of a comment is, with the star and slash that close it
abbrev pub block_len : List ℕ → ℕ
block_len [] = 0
block_len (b ∷ []) = 1
block_len (b ∷ c ∷ bytes) = if (b == 42) && (c == 47) then 2 else 1 + block_len (c ∷ bytes)

-- the length of a comment that begins with a dash, by what follows it: a further dash and a blank
abbrev pub dashes_len : List ℕ → ℕ
dashes_len [] = 0
dashes_len (b ∷ []) = 0
dashes_len (b ∷ c ∷ bytes) = if (b == 45) && (c == 32) then 3 + line_len bytes else 0

-- the length of a comment by what follows its slash and star: none where an exclamation mark or a plus follows
abbrev pub comment_len : List ℕ → ℕ
comment_len [] = 2
comment_len (b ∷ bytes) = if (b == 33) || (b == 43) then 0 else 2 + block_len (b ∷ bytes)

-- the length of a comment by what follows its slash
abbrev pub slash_len : List ℕ → ℕ
slash_len [] = 0
slash_len (b ∷ bytes) = if b == 42 then comment_len bytes else 0

-- The length of the quote or comment at the front, 0 where there is none: quotes begin with ', " or a backtick,
-- comments with #, two dashes and a blank, or a slash and a star.
abbrev pub skip_len : List ℕ → ℕ
skip_len [] = 0
skip_len (b ∷ bytes) =
    if ((b == 39) || (b == 34)) || (b == 96) then 1 + quote_len b bytes
    else (if b == 35 then 1 + line_len bytes
    else (if b == 45 then dashes_len bytes else (if b == 47 then slash_len bytes else 0)))

-- _ or a to z
abbrev pub is_name_start : ℕ → Bool
is_name_start b = (b == 95) || (nat_le 97 b && nat_le b 122)

-- _, a to z or a digit
abbrev pub is_name_byte : ℕ → Bool
is_name_byte b = is_name_start b || (nat_le 48 b && nat_le b 57)

-- the length of the name at the front, 0 where there is none
abbrev pub name_len : List ℕ → ℕ
name_len [] = 0
name_len (b ∷ bytes) =
    if is_name_start b then 1 + unwrap_or (position (λ c. not (is_name_byte c)) bytes) (length bytes) else 0

-- what is outside quotes and comments: a question mark, a colon and a name, or another byte
abbrev pub outside_at : ℕ → List ℕ → SqlPiece × List ℕ
outside_at b bytes =
    if b == 63 then (mark, bytes)
    else (if (b == 58) && nat_lt 0 (name_len bytes)
    then (name (take (name_len bytes) bytes), drop (name_len bytes) bytes) else (kept (b ∷ []), bytes))

-- the piece at the front: a whole quote or comment, or what is outside them; and the text after it
abbrev pub piece_at : List ℕ → Option (SqlPiece × List ℕ)
piece_at [] = None
piece_at (b ∷ bytes) =
    if nat_lt 0 (skip_len (b ∷ bytes))
    then Some (kept (take (skip_len (b ∷ bytes)) (b ∷ bytes)), drop (skip_len (b ∷ bytes)) (b ∷ bytes))
    else Some (outside_at b bytes)

-- the pieces from a first one on, or none
abbrev pub match_piece : Option (SqlPiece × List ℕ) → (SqlPiece → List ℕ → List SqlPiece) → List SqlPiece
match_piece None more = []
match_piece (Some x) more = more x.0 x.1

-- The text falls into these pieces, from the front to its end.
abbrev pub IsSplit : List SqlPiece → List ℕ → Type 0
IsSplit [] text = text ≡ []
IsSplit (p ∷ ps) text = (rest : List ℕ) × (piece_at text ≡ Some (p, rest)) × IsSplit ps rest

-- the pieces of a text, at most `most`
abbrev pub split_in : ℕ → List ℕ → List SqlPiece
split_in zero text = []
split_in (suc most) text = match_piece (piece_at text) (λ p rest. p ∷ split_in most rest)

-- the pieces of a text, which are no more than its bytes
abbrev pub split : List ℕ → List SqlPiece
split text = split_in (length text) text
