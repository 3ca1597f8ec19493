-- What clauses see of what lends a connection files and texts.
use Rattle.std.specs.Prelude.{ℕ, ◌≡◌, List, Option, Some, None}
use Rattle.my_frame.specs.Outside.{Rose}
use Rattle.my_frame.specs.declared.source.SourceStep.{SourceStep}
use Rattle.my_frame.specs.declared.source.SourceStep.TheVariants as reads
use Rattle.my_link.specs.declared.aid.AfterStep.{AfterStep}
use Rattle.my_link.specs.declared.aid.AfterStep.TheVariants.{Done}
use Rattle.my_link.specs.declared.aid.Opening.{Opening}
use Rattle.my_link.specs.declared.aid.Opening.TheVariants as openings

-- what the opened file has left to be read, where it is known, and how often an opening or a read failed
pub record FileSeen : Type 0 where
  pub left : Option (List ℕ)
  pub faults : ℕ

-- a fault is counted, and nothing else is
abbrev pub CountsOpening : ℕ → ℕ → Opening → Type 0
CountsOpening before now openings.Opened = now ≡ before
CountsOpening before now openings.NotListed = now ≡ before
CountsOpening before now openings.Absent = now ≡ before
CountsOpening before now openings.Failed = Rose before now

abbrev pub CountsRead : ℕ → ℕ → SourceStep → Type 0
CountsRead before now (reads.Got n) = now ≡ before
CountsRead before now reads.End = now ≡ before
CountsRead before now reads.Failed = Rose before now

-- what follows the login for each number, where it is known
abbrev pub Texts : Type 0
Texts = Option (ℕ → AfterStep)

-- the step of this number is the one that is known
abbrev pub IsTold : Texts → ℕ → AfterStep → Type 0
IsTold None n step = Unit {0}
IsTold (Some texts) n step = step ≡ texts n

-- nothing follows
abbrev pub no_texts : Texts
no_texts = Some (λ n. Done)
