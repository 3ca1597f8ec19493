-- Which files are lent: what the opening of a name and a read come to.
use Rattle.std.specs.Prelude.{ℕ, ◌≡◌, ◌⊎◌, Bool, true, false, List, [], ◌∷◌, ◌++◌, Option, Some, None, All, bytes_eq}
use Rattle.std.specs.List.{list_any}
use Rattle.my_frame.specs.Outside.{Rose}
use Rattle.my_frame.specs.declared.source.SourceStep.{SourceStep}
use Rattle.my_frame.specs.declared.source.SourceStep.TheVariants as reads
use Rattle.my_link.specs.declared.aid.Opening.{Opening}
use Rattle.my_link.specs.declared.aid.Opening.TheVariants.{Opened, NotListed, Absent, Failed}

-- the names that were handed to a file system, in order, where they are known
abbrev pub Asked : Type 0
Asked = Option (List (List ℕ))

-- these names were handed to it
abbrev pub Asks : Asked → List (List ℕ) → Asked → Type 0
Asks None names None = Unit {0}
Asks (Some before) names (Some now) = now ≡ before ++ names
Asks None names (Some now) = ⊥
Asks (Some before) names None = ⊥

-- a file has this name, where its name is known
abbrev pub IsNamed : Option (List ℕ) → List ℕ → Type 0
IsNamed None name = Unit {0}
IsNamed (Some known) name = known ≡ name

abbrev pub is_listed : List ℕ → List (List ℕ) → Bool
is_listed name list = list_any (λ listed. bytes_eq listed name) list

-- What a request for a name returns, by whether it is listed. This name alone is handed to the file system, once, and
-- only where it is listed. Out of memory a request fails before.
abbrev pub OpensListed : Bool → List ℕ → Asked → Opening → Asked → Type 0
OpensListed true name before Opened now = Asks before (name ∷ []) now
OpensListed true name before Failed now = (now ≡ before) ⊎ Asks before (name ∷ []) now
OpensListed true name before NotListed now = ⊥
OpensListed true name before Absent now = ⊥
OpensListed false name before Opened now = ⊥
OpensListed false name before Failed now = now ≡ before
OpensListed false name before NotListed now = now ≡ before
OpensListed false name before Absent now = ⊥

-- a file is open after this
abbrev pub is_opened : Opening → Bool
is_opened Opened = true
is_opened NotListed = false
is_opened Absent = false
is_opened Failed = false

-- a request for what isn't listed is counted
abbrev pub CountsUnlisted : ℕ → ℕ → Opening → Type 0
CountsUnlisted before now Opened = now ≡ before
CountsUnlisted before now NotListed = Rose before now
CountsUnlisted before now Absent = now ≡ before
CountsUnlisted before now Failed = now ≡ before

-- a read that returns the end is counted
abbrev pub CountsEnd : ℕ → ℕ → SourceStep → Type 0
CountsEnd before now (reads.Got n) = now ≡ before
CountsEnd before now reads.End = Rose before now
CountsEnd before now reads.Failed = now ≡ before

-- bytes and the end come of an open file alone; it is closed at its end and where a read fails
abbrev pub ReadsOpened : Bool → SourceStep → Bool → Type 0
ReadsOpened before (reads.Got n) now = (before ≡ true) × (now ≡ true)
ReadsOpened before reads.End now = (before ≡ true) × (now ≡ false)
ReadsOpened before reads.Failed now = now ≡ false

-- each name that was handed to the file system is listed, where they are known
abbrev pub AllListed : List (List ℕ) → Asked → Type 0
AllListed list None = Unit {0}
AllListed list (Some names) = All (λ name. is_listed name list ≡ true) names

-- whatever a server asks for, no other file is opened
abbrev pub OpensNoOther : Type 0
OpensNoOther = (list : List (List ℕ)) (name : List ℕ) (before now : Asked) (step : Opening)
    → OpensListed (is_listed name list) name before step now → AllListed list before → AllListed list now
