-- Connection attributes, in the byte order of their keys.
-- MySQL internals, "Connection Phase Packets": HandshakeResponse41, CLIENT_CONNECT_ATTRS.
use Rattle.std.specs.Prelude.{◌≡◌, ℕ, Bool, false, List, [], ◌∷◌, ◌++◌, insert}
use Rattle.std.specs.List.{flat_map, position_or_len}
use Rattle.std.specs.Ordering.{is_lt, nat_cmp}
use Rattle.std.specs.Cmp.Lexicographic.{slice_cmp}
use Rattle.my_frame.specs.Writing.{text_bytes}
use Rattle.my_handshake.specs.declared.attributes.Attribute.{Attribute}

-- a key is before another in byte order
abbrev pub is_before : List ℕ → List ℕ → Bool
is_before key other = is_lt (slice_cmp nat_cmp key other)

-- one pair more, before the first whose key is greater
abbrev pub put_in_order : List Attribute → Attribute → List Attribute
put_in_order pairs pair = insert pairs (position_or_len (λ p. is_before pair.key p.key) pairs) pair

-- how one pair is written
abbrev pub pair_bytes : Attribute → List ℕ
pair_bytes pair = text_bytes pair.key ++ text_bytes pair.value

-- how all are written, after their length
abbrev pub attributes_bytes : List Attribute → List ℕ
attributes_bytes pairs = text_bytes (flat_map pair_bytes pairs)

-- None of these keys is before the key.
abbrev pub NoneBefore : List ℕ → List Attribute → Type 0
NoneBefore key [] = Unit {0}
NoneBefore key (p ∷ ps) = (is_before p.key key ≡ false) × NoneBefore key ps

-- No key is before the key of an earlier pair.
abbrev pub IsInKeyOrder : List Attribute → Type 0
IsInKeyOrder [] = Unit {0}
IsInKeyOrder (p ∷ ps) = NoneBefore p.key ps × IsInKeyOrder ps
