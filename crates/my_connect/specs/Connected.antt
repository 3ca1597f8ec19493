-- What connecting over a world is.
use Rattle.std.specs.Prelude.{ℕ, ◌≡◌, ◌⊎◌, Bool}
use Rattle.std.specs.declared.result.Result.{Result}
use Rattle.std.specs.declared.result.Result.TheVariants.{Ok, Err}
use Rattle.my_link.specs.Looks.{Looks}
use Rattle.my_opts.specs.Opts.{OptsView}
use Rattle.my_opts_parts.specs.declared.error.UrlError.{UrlError}
use Rattle.my_reading.specs.declared.error.Error.{Error}
use Rattle.my_reading.specs.declared.error.Error.TheVariants as errors
use Rattle.my_link.specs.World.{IsMoment, IsDrawn, SamePlans, WorldSeen, with_back}
use Rattle.my_conn.specs.Conn.{ConnSeen}
use Rattle.my_conn.specs.News.{Given, IsNew, IsUnmade, given_by}
use Rattle.my_conn.specs.declared.unmade.Unmade.{Unmade}
use Rattle.my_connect.specs.Dialed.{DialIs, IsTold}

-- Why a text gave no options: it gives none, for this cause; or memory ran out.
abbrev pub WhyUnread : Result OptsView UrlError → Error → Type 0
WhyUnread (Ok opts) e = e ≡ errors.NoMemory
WhyUnread (Err u) e = (e ≡ errors.Url u) ⊎ (e ≡ errors.NoMemory)

-- A text was read as these options, or there is a cause.
abbrev pub OptionsAre : Result OptsView UrlError → Result OptsView Error → Type 0
OptionsAre read (Ok opts) = read ≡ Ok opts
OptionsAre read (Err e) = WhyUnread read e

-- an error, with such a cause
abbrev pub FailsBy : {L : Type 0} → (Error → Type 0) → Result (ConnSeen L) Error → Type 0
FailsBy why (Ok c) = ⊥
FailsBy why (Err e) = why e

-- what a world tells of the moment and of a random word
pub record Chances : Type 0 where
  pub now : ℕ
  pub random : ℕ

-- the world took the link 0 back
pub record IsBack (x : Looks) (old new : WorldSeen) : Type 0 where
  pub plans : SamePlans old.plans new.plans
  pub takes : new.takes ≡ old.takes
  pub chance : new.chance ≡ old.chance
  pub dials : new.dials ≡ old.dials
  pub back : new.back ≡ with_back 0 x old.back

-- where memory for noting that ran out, this isn't told of it
pub record IsEnded (old new : WorldSeen) : Type 0 where
  pub plans : SamePlans old.plans new.plans
  pub takes : new.takes ≡ old.takes
  pub chance : new.chance ≡ old.chance
  pub dials : new.dials ≡ old.dials

-- the world took the link back, and this is the error; or memory ran out
abbrev pub LeftBy : Error → Looks → WorldSeen → WorldSeen → Error → Type 0
LeftBy cause x old new e = ((e ≡ cause) × IsBack x old new) ⊎ ((e ≡ errors.NoMemory) × IsEnded old new)

-- the making failed, and the world took the link back as that left it
pub record GivesUp {L : Type 0} (look : L → Looks) (opts : OptsView) (g : Given) (old new : WorldSeen) (e : Error) : Type 0 where
  pub left : Unmade L
  pub unmade : IsUnmade look opts g left
  pub ends : LeftBy left.error (look left.link) old new e

-- a connection was made, and the world is as it was; or none was
abbrev pub MadeBy : {L : Type 0} → (L → Looks) → OptsView → Given → WorldSeen → WorldSeen → Result (ConnSeen L) Error → Type 0
MadeBy look opts g old new (Ok c) = IsNew look opts g c × (new ≡ old)
MadeBy look opts g old new (Err e) = GivesUp look opts g old new e

-- Over the link that was dialed a connection was made with these options, or its making failed; without a link the
-- cause is returned.
abbrev pub MadeOver : {L : Type 0} → (L → Looks) → (L → Bool) → OptsView → Chances → Result L Error → WorldSeen → WorldSeen
    → Result (ConnSeen L) Error → Type 0
MadeOver look socket opts told (Ok link) old new result = MadeBy look opts (given_by look socket link told.now told.random) old new result
MadeOver look socket opts told (Err e) old new result = (result ≡ Err e) × (new ≡ old)

-- The world told the moment and its next random word, then the link was dialed, and a connection made over it. Where
-- that failed, the world took the link back.
pub record ConnectIs {L : Type 0} (look : L → Looks) (socket : L → Bool) (opts : OptsView) (old new : WorldSeen)
    (result : Result (ConnSeen L) Error) : Type 0 where
  pub told : Chances
  pub moment : IsMoment old.chance.moment told.now
  pub random : IsDrawn old.chance.randoms told.random
  pub mid : WorldSeen
  pub is_told : IsTold old mid
  pub link : Result L Error
  pub after : WorldSeen
  pub dialed : DialIs look mid after link
  pub made : MadeOver look socket opts told link after new result

-- The text gives options, and a connection was made with these; or it gave none, and nothing was dialed.
abbrev pub UrlConnectIs : {L : Type 0} → (L → Looks) → (L → Bool) → Result OptsView UrlError → WorldSeen → WorldSeen
    → Result (ConnSeen L) Error → Type 0
UrlConnectIs look socket read old new result =
    ((opts : OptsView) × (read ≡ Ok opts) × ConnectIs look socket opts old new result)
    ⊎ (FailsBy (WhyUnread read) result × (new ≡ old))
