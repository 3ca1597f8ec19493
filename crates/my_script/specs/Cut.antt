-- Pieces of bytes between marks.
use Rattle.std.specs.Prelude.{ℕ, ◌==◌, List, [], ◌∷◌, Option, Some, None, if◌then◌else◌}
use Rattle.std.specs.List.{slice_split}
use Rattle.my_frame.specs.Numbers.{◌>>=◌}

-- what stands before the first mark, or all where there is none
abbrev pub first_of : ℕ → List ℕ → List ℕ
first_of mark [] = []
first_of mark (b ∷ bytes) = if b == mark then [] else b ∷ first_of mark bytes

-- what follows the first mark, if there is one
abbrev pub rest_of : ℕ → List ℕ → Option (List ℕ)
rest_of mark [] = None
rest_of mark (b ∷ bytes) = if b == mark then Some bytes else rest_of mark bytes

-- the pieces of what follows a mark
abbrev pub pieces_left : ℕ → Option (List ℕ) → List (List ℕ)
pieces_left mark None = []
pieces_left mark (Some bytes) = slice_split (λ b. b == mark) bytes

-- what each of these words changes, in order; nothing where one of them doesn't read
abbrev pub with_words : {T : Type 0} → (T → List ℕ → Option T) → T → List (List ℕ) → Option T
with_words with_word x [] = Some x
with_words with_word x (word ∷ words) = with_word x word >>= (λ more. with_words with_word more words)

-- the words that follow, one blank apart
abbrev pub words_in : {T : Type 0} → (T → List ℕ → Option T) → T → Option (List ℕ) → Option T
words_in with_word x rest = with_words with_word x (pieces_left 32 rest)
