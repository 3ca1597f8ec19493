-- What clauses see of a world.
use Rattle.std.specs.Prelude.{ℕ, ◌≡◌, List, [], ◌∷◌, drop, Option, Some, None, option_map}
pub use Rattle.my_link.specs.Dials.{Plans, DialCounts, no_dials, Chance, no_chance, WorldSeen, Back, with_back, counted, SameAt, SamePlans, SameBut, SameFrom, SameLink, IfLink, IfNoLink, HeldBy, FailedBy, GivenBy, PlaysDial, DialFailed, DialHeld, CountsDial, IsFresh}

-- the moment, where it is known
abbrev pub IsMoment : Option ℕ → ℕ → Type 0
IsMoment None now = Unit {0}
IsMoment (Some moment) now = now ≡ moment

-- the first of the words that are left, and 0 where none is
abbrev pub first_word : List ℕ → ℕ
first_word [] = 0
first_word (word ∷ words) = word

-- the next random word, where it is known
abbrev pub IsDrawn : Option (List ℕ) → ℕ → Type 0
IsDrawn None word = Unit {0}
IsDrawn (Some words) word = word ≡ first_word words

-- a word was drawn
abbrev pub drawn : Chance → Chance
drawn chance = record { moment = chance.moment; randoms = option_map (drop 1) chance.randoms }
