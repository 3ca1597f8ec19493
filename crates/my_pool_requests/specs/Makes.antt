-- How a request's connection is made: by a dial, and by its connect call. The pool is told by nobody here.
use Rattle.std.specs.Prelude.{◌≡◌, ◌⊎◌, ℕ, Bool, Option, Some, None, is_some}
use Rattle.std.specs.declared.result.Result.{Result}
use Rattle.std.specs.declared.result.Result.TheVariants.{Ok, Err}
use Rattle.my_frame.specs.declared.no_memory.NoMemory.{NoMemory}
use Rattle.my_link.specs.Aid.{Texts}
use Rattle.my_link.specs.Dials.{CountsDial, IfLink, IfNoLink, IsFresh, PlaysDial, SameBut, SameLink, WorldSeen}
use Rattle.my_link.specs.Looks.{Looks}
use Rattle.my_link.specs.Outside.{no_counts}
use Rattle.my_link.specs.declared.dialer.DialStep.{DialStep}
use Rattle.my_link.specs.declared.dialer.DialStep.TheVariants as dials
use Rattle.my_link.specs.declared.met.Met.{Met}
use Rattle.my_opts.specs.Opts.{OptsView}
use Rattle.my_opts_parts.specs.Pool.{deadline_of}
use Rattle.my_reading.specs.declared.error.Error.{Error}
use Rattle.my_reading.specs.declared.error.Error.TheVariants as errors
use Rattle.my_reading.specs.declared.error.IoKind.TheVariants.{Dial}
use Rattle.my_reading.specs.Errors.{io_error}
use Rattle.my_session.specs.Login.{login_of}
use Rattle.my_session.specs.View.{first_lifetime}
use Rattle.my_client.specs.Kept.{first_asked, first_kept}
use Rattle.my_client.specs.Makes.{ConnectsFor}
use Rattle.my_client.specs.declared.texts.Making.TheVariants.{Shakes}
use Rattle.my_conn.specs.Connected.{ConnectIs}
use Rattle.my_conn.specs.Connects.{ConnectSeen}
use Rattle.my_conn.specs.News.{first_fixed}
use Rattle.my_conn.specs.declared.connecting.Connected.{Connected}
use Rattle.my_conn.specs.declared.connecting.Connected.TheVariants as connecteds
use Rattle.my_pool.specs.Fit.{IsFit}
use Rattle.my_pool_requests.specs.Being.{IsBeingMade}
use Rattle.my_pool_requests.specs.declared.making.Made.{Made}
use Rattle.my_pool_requests.specs.declared.making.Made.TheVariants as makings
use Rattle.my_pool_requests.specs.declared.request.Moment.{Moment}

-- How the outside shows itself: what a link shows, which is a local socket, what the dialer shows, and the texts that
-- follow a login.
pub record Outside (L O : Type 0) : Type 0 where
  pub look : L → Looks
  pub socket : L → Bool
  pub seen : O → WorldSeen
  pub texts : O → Texts

abbrev pub outside : {L O : Type 0} → (L → Looks) → (L → Bool) → (O → WorldSeen) → (O → Texts) → Outside L O
outside look socket seen texts = record { look = look; socket = socket; seen = seen; texts = texts }

-- a dial that failed
abbrev pub undialed : Error
undialed = io_error Dial 0

-- ---- a dial ----

-- the link of a number was dialed, as its plan has it, and no other
pub record IsDialed {L : Type 0} (look : L → Looks) (n : ℕ) (old new : WorldSeen) (step : DialStep L) : Type 0 where
  pub items : IfLink step (λ l. (look l).items ≡ old.plans.reads n)
  pub writes : IfLink step (λ l. (look l).writes ≡ old.plans.writes n)
  pub got : IfLink step (λ l. IsFresh (look l).got)
  pub counts : IfLink step (λ l. (look l).counts ≡ no_counts)
  pub told : PlaysDial (old.plans.dials n) (new.plans.dials n) step
  pub kept : IfNoLink step (SameLink old.plans new.plans n)
  pub others : SameBut n old.plans new.plans
  pub takes : new.takes ≡ old.takes
  pub chance : new.chance ≡ old.chance
  pub dials : CountsDial old.dials new.dials step
  pub back : new.back ≡ old.back

-- nothing is dialed where memory for the target runs out
abbrev pub TriesDial : {L : Type 0} → (L → Looks) → ℕ → WorldSeen → WorldSeen → Result (DialStep L) NoMemory → Type 0
TriesDial look n old new (Ok step) = IsDialed look n old new step
TriesDial look n old new (Err e) = new ≡ old

-- ---- a connect call ----

abbrev pub MadeBy : {L : Type 0} → Connected L → Made L → Type 0
MadeBy (connecteds.Pending c) made = made ≡ makings.Pending c
MadeBy (connecteds.Made c) made = made ≡ makings.Good c
MadeBy (connecteds.Failed left) made = made ≡ makings.Failed left.error left.tape

-- it comes to this, or memory ran out
abbrev pub RunsOutOr : {L : Type 0} → Made L → Made L → Type 0
RunsOutOr want made = (made ≡ want) ⊎ (made ≡ makings.Failed errors.NoMemory None)

-- one poll of it
pub record MakesOn {L : Type 0} (look : L → Looks) (texts : Texts) (now : ℕ) (c : ConnectSeen L) (made : Made L)
    : Type 0 where
  pub connected : Connected L
  pub met : Met
  pub connects : ConnectIs look texts now c met connected
  pub comes : MadeBy connected made

-- it begins, with these options and at this moment
pub record Begins {L : Type 0} (socket : L → Bool) (opts : OptsView) (moment : Moment) (link : L) (c : ConnectSeen L)
    : Type 0 where
  pub begins : ConnectsFor (login_of opts) c.seen c.tape first_kept first_asked
  pub lifetime : c.lifetime ≡ first_lifetime opts (socket link) (deadline_of opts.pool_opts moment.now moment.random)
  pub tape : is_some c.tape ≡ moment.keep_tape
  pub link_is : c.link ≡ link
  pub first : c.at ≡ Shakes
  pub fixed : c.fixed ≡ first_fixed opts moment.now

-- it begins and is polled, unless memory runs out
abbrev pub BegunBy : {L : Type 0} → (L → Looks) → (L → Bool) → Texts → OptsView → Moment → L → Option (ConnectSeen L)
    → Made L → Type 0
BegunBy look socket texts opts moment link (Some c) made =
    Begins socket opts moment link c × MakesOn look texts moment.now c made
BegunBy look socket texts opts moment link None made = made ≡ makings.Failed errors.NoMemory None

-- a connection is made over a link
pub record ConnectsOver {L : Type 0} (look : L → Looks) (socket : L → Bool) (texts : Texts) (opts : OptsView)
    (moment : Moment) (link : L) (made : Made L) : Type 0 where
  pub begun : Option (ConnectSeen L)
  pub by : BegunBy look socket texts opts moment link begun made

-- ---- both ----

abbrev pub DialedBy : {L O : Type 0} → Outside L O → OptsView → Moment → O → O → Result (DialStep L) NoMemory → Made L
    → Type 0
DialedBy out opts moment mid new (Ok (dials.Link link)) made =
    ConnectsOver out.look out.socket (out.texts mid) opts moment link made × (out.texts new ≡ out.texts mid)
DialedBy out opts moment mid new (Ok dials.NotYet) made = (made ≡ makings.Undialed) × (new ≡ mid)
DialedBy out opts moment mid new (Ok dials.Failed) made = (made ≡ makings.Failed undialed None) × (new ≡ mid)
DialedBy out opts moment mid new (Err e) made = (made ≡ makings.Failed errors.NoMemory None) × (new ≡ mid)

-- the link of a number is dialed, and a connection is made over it
pub record DialsOn {L O : Type 0} (out : Outside L O) (opts : OptsView) (moment : Moment) (n : ℕ) (old new : O)
    (made : Made L) : Type 0 where
  pub mid : O
  pub dialed : Result (DialStep L) NoMemory
  pub tried : TriesDial out.look n (out.seen old) (out.seen mid) dialed
  pub comes : DialedBy out opts moment mid new dialed made

-- a connection that isn't made yet did nothing but what makes one, and one that is good is fit
abbrev pub MadeFits : {L : Type 0} → Made L → Type 0
MadeFits makings.Undialed = Unit {0}
MadeFits (makings.Pending c) = IsBeingMade c
MadeFits (makings.Good c) = IsFit c
MadeFits (makings.Failed e tape) = Unit {0}
