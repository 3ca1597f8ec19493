-- That each connection fits its link: it follows from how the lines of a run grow.
use Rattle.std.specs.Prelude.{ℕ, ◌≡◌, zero, suc, List, [], ◌∷◌, ◌++◌, Option}
use Rattle.my_grammar.specs.declared.login.Login.{Login}
use Rattle.my_link.specs.declared.link.ReadItem.{ReadItem}
use Rattle.my_link.specs.declared.dialer.DialItem.{DialItem}
use Rattle.my_link.specs.declared.dialer.DialItem.TheVariants.{Wait}
use Rattle.my_link.specs.Link.{Told}
use Rattle.my_link.specs.Looks.{Looks}
use Rattle.my_link.specs.Spent.{HasGot, ReadsSpent}
use Rattle.my_script.specs.declared.step.Step.{Step}
use Rattle.my_script.specs.declared.transcript.StepAnswer.{StepAnswer}
use Rattle.my_script.specs.declared.transcript.Tape.{Tape}
use Rattle.my_steps.specs.Dialing.{Course}
use Rattle.my_steps.specs.Grows.{Line}
use Rattle.my_steps.specs.Handle.{Handle, Absent, Dialing, Joined, at_number}
use Rattle.my_link.specs.World.{Plans}
use Rattle.my_run.specs.Headline.{Headline}

-- Where the link tells the bytes that it was sent, these are they; and where its plan is told, the bytes that it gave and those
-- that it has left are the planned ones.
pub record FitsLink (plan : Option (List ReadItem)) (x : Looks) (sent taken : List ℕ) : Type 0 where
  pub got : HasGot x.got sent
  pub reads : ReadsSpent plan x.items taken

-- this number of dials that wait
abbrev pub waits : ℕ → List DialItem
waits zero = []
waits (suc k) = Wait ∷ waits k

-- of the planned items for dials, those before the ones that are left waited, and one did at least
abbrev pub HasWaited : List DialItem → List DialItem → Type 0
HasWaited items left = (k : ℕ) × (items ≡ waits (suc k) ++ left)

-- a connection at a number, over the plan of its link and the items for its dials
abbrev pub IsFit : Option (List ReadItem) → Option (List DialItem) → Handle → Type 0
IsFit plan items Absent = Unit {0}
IsFit plan items (Dialing left) = Told items left HasWaited
IsFit plan items (Joined there k x) = FitsLink plan x k.sent k.taken

abbrev pub AllFit : Plans → List Handle → Type 0
AllFit plans hs = (n : ℕ) → IsFit (plans.reads n) (plans.dials n) (at_number hs n)

abbrev pub EachFits : Plans → List Line → Type 0
EachFits plans [] = Unit {0}
EachFits plans (l ∷ ls) = AllFit plans l.handles × EachFits plans ls

-- After each line of a run each connection fits its link.
abbrev pub LinksFit : Type 0
LinksFit = (login : Login) (plans : Plans) (before later : Course) (steps : List Step) (answers : List StepAnswer)
    (tapes : List Tape) → (w : Headline login plans before later steps answers tapes) → EachFits plans w.lines
