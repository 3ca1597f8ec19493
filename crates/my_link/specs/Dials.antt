-- What clauses see of what dials links, and what a dial does.
use Rattle.std.specs.Prelude.{ℕ, ◌≡◌, ◌≢◌, ◌≤◌, ◌+◌, ◌-◌, ◌^◌, min, zero, suc, List, [], ◌∷◌, ◌++◌, Option, None, Some, option_map, Bool}
use Rattle.my_link.specs.declared.link.ReadItem.{ReadItem}
use Rattle.my_link.specs.declared.link.WriteItem.{WriteItem}
use Rattle.my_link.specs.declared.dialer.DialItem.{DialItem}
use Rattle.my_link.specs.declared.dialer.DialItem.TheVariants.{Wait, Fail}
use Rattle.my_link.specs.declared.dialer.DialStep.{DialStep}
use Rattle.my_link.specs.declared.dialer.DialStep.TheVariants.{Link, NotYet, Failed}
use Rattle.my_link.specs.Link.{Told}
use Rattle.my_link.specs.Looks.{Looks}

-- for the link of each number, where it is known: what can be read, what becomes of writes, and what its dials do before one
-- gives the link
pub record Plans : Type 0 where
  pub reads : ℕ → Option (List ReadItem)
  pub writes : ℕ → Option (List WriteItem)
  pub dials : ℕ → Option (List DialItem)

-- how often a dial failed, and how often it wasn't ready
pub record DialCounts : Type 0 where
  pub faults : ℕ
  pub holds : ℕ

abbrev pub no_dials : DialCounts
no_dials = record { faults = 0; holds = 0 }

-- the moment, and the random words that are left, where they are told
pub record Chance : Type 0 where
  pub moment : Option ℕ
  pub randoms : Option (List ℕ)

abbrev pub no_chance : Chance
no_chance = record { moment = None; randoms = None }

-- a link that was handed back: its number, and what it showed then
pub record Back : Type 0 where
  pub number : ℕ
  pub looks : Looks

-- one link more was handed back, where that is told
abbrev pub with_back : ℕ → Looks → Option (List Back) → Option (List Back)
with_back n x back = option_map (λ bs. bs ++ record { number = n; looks = x } ∷ []) back

-- whether a plan is taken, the plan, the counts of the dials, what is known of the time and of random words, and the links that
-- were handed back, the first of them first, where these are told
pub record WorldSeen : Type 0 where
  pub takes : Bool
  pub plans : Plans
  pub dials : DialCounts
  pub chance : Chance
  pub back : Option (List Back)

-- both plans have the same items for link n
pub record SameAt (old new : Plans) (n : ℕ) : Type 0 where
  pub reads : new.reads n ≡ old.reads n
  pub writes : new.writes n ≡ old.writes n
  pub dials : new.dials n ≡ old.dials n

abbrev pub SamePlans : Plans → Plans → Type 0
SamePlans old new = (n : ℕ) → SameAt old new n

-- for each link but that of this number
abbrev pub SameBut : ℕ → Plans → Plans → Type 0
SameBut number old new = (n : ℕ) → n ≢ number → SameAt old new n

-- for each link from this number on
abbrev pub SameFrom : ℕ → Plans → Plans → Type 0
SameFrom number old new = (n : ℕ) → number ≤ n → SameAt old new n

-- the same items for the link itself, which stays to be dialed
pub record SameLink (old new : Plans) (n : ℕ) : Type 0 where
  pub reads : new.reads n ≡ old.reads n
  pub writes : new.writes n ≡ old.writes n

abbrev pub IfLink : {L : Type 0} → DialStep L → (L → Type 0) → Type 0
IfLink (Link l) P = P l
IfLink NotYet P = Unit {0}
IfLink Failed P = Unit {0}

-- so it is where no link was given
abbrev pub IfNoLink : {L : Type 0} → DialStep L → Type 0 → Type 0
IfNoLink (Link l) P = Unit {0}
IfNoLink NotYet P = P
IfNoLink Failed P = P

-- Of the items for the dials of a number, where they are told: the first one made a dial wait; it made one fail; and none is
-- left, so that a dial gave the link.
abbrev pub HeldBy : Option (List DialItem) → Option (List DialItem) → Type 0
HeldBy old new = Told old new (λ is js. is ≡ Wait ∷ js)

abbrev pub FailedBy : Option (List DialItem) → Option (List DialItem) → Type 0
FailedBy old new = Told old new (λ is js. is ≡ Fail ∷ js)

abbrev pub GivenBy : Option (List DialItem) → Option (List DialItem) → Type 0
GivenBy old new = Told old new (λ is js. (is ≡ []) × (js ≡ []))

-- what a dial does by the items that its number has left, and the items that are left then
abbrev pub PlaysDial : {L : Type 0} → Option (List DialItem) → Option (List DialItem) → DialStep L → Type 0
PlaysDial old new (Link l) = GivenBy old new
PlaysDial old new NotYet = HeldBy old new
PlaysDial old new Failed = FailedBy old new

-- a count with n more, up to the greatest that 64 bits hold
abbrev pub counted : ℕ → ℕ → ℕ
counted zero c = c
counted (suc n) c = min (c + suc n) (2 ^ 64 - 1)

-- one fault more, and nothing else
pub record DialFailed (c d : DialCounts) : Type 0 where
  pub faults : d.faults ≡ counted 1 c.faults
  pub holds : d.holds ≡ c.holds

-- one hold more, and nothing else
pub record DialHeld (c d : DialCounts) : Type 0 where
  pub faults : d.faults ≡ c.faults
  pub holds : d.holds ≡ counted 1 c.holds

abbrev pub CountsDial : {L : Type 0} → DialCounts → DialCounts → DialStep L → Type 0
CountsDial c d (Link l) = d ≡ c
CountsDial c d NotYet = DialHeld c d
CountsDial c d Failed = DialFailed c d

-- nothing was sent yet, where that is known
abbrev pub IsFresh : Option (List ℕ) → Type 0
IsFresh None = Unit {0}
IsFresh (Some bytes) = bytes ≡ []
