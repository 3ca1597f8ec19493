-- What the lines of a world's plan say of a link: the bytes up to its first end, and how often it may fail.
use Rattle.std.specs.Prelude.{ℕ, ◌+◌, List, [], ◌∷◌, ◌++◌, Bool, true, false, ◌||◌, if◌then◌else◌}
use Rattle.my_link.specs.declared.link.ReadItem.{ReadItem}
use Rattle.my_link.specs.declared.link.ReadItem.TheVariants.{Bytes, Turn, Wait, Fail, End}
use Rattle.my_link.specs.declared.link.WriteItem.{WriteItem}
use Rattle.my_link.specs.Spent.{spelled, fails_in, write_fails_in}
use Rattle.my_link.specs.declared.line.WorldLine.{WorldLine}
use Rattle.my_link.specs.Plan.{all_given, given_to, items_of, writes_of}

-- a link that ended gives nothing else
abbrev pub before_end : List ReadItem → List ReadItem
before_end [] = []
before_end (Bytes bytes ∷ more) = Bytes bytes ∷ before_end more
before_end (Turn ∷ more) = Turn ∷ before_end more
before_end (Wait ∷ more) = Wait ∷ before_end more
before_end (Fail ∷ more) = Fail ∷ before_end more
before_end (End ∷ more) = []

abbrev pub has_end : List ReadItem → Bool
has_end [] = false
has_end (Bytes bytes ∷ more) = has_end more
has_end (Turn ∷ more) = has_end more
has_end (Wait ∷ more) = has_end more
has_end (Fail ∷ more) = has_end more
has_end (End ∷ more) = true

-- the bytes that a link may give, how often its reads and writes may fail, and whether it ends
pub record PlanSeen : Type 0 where
  pub bytes : List ℕ
  pub faults : ℕ
  pub ends : Bool

abbrev pub no_plan : PlanSeen
no_plan = record { bytes = []; faults = 0; ends = false }

abbrev pub plan_seen : List ReadItem → List WriteItem → PlanSeen
plan_seen is ws = record {
  bytes = spelled (before_end is);
  faults = fails_in (before_end is) + write_fails_in ws;
  ends = has_end is;
}

abbrev pub with_bytes : PlanSeen → List ℕ → PlanSeen
with_bytes p bytes = record { bytes = p.bytes ++ bytes; faults = p.faults; ends = p.ends }

-- with more items, which count where the link doesn't end before them; writes aren't ended
abbrev pub plan_on : PlanSeen → List ReadItem → List WriteItem → PlanSeen
plan_on p is ws = record {
  bytes = if p.ends then p.bytes else p.bytes ++ spelled (before_end is);
  faults = (if p.ends then p.faults else p.faults + fails_in (before_end is)) + write_fails_in ws;
  ends = p.ends || has_end is;
}

abbrev pub plan_with : ℕ → PlanSeen → WorldLine → PlanSeen
plan_with n p line = plan_on p (given_to items_of n line) (given_to writes_of n line)

-- what all lines say of link n
abbrev pub planned : ℕ → List WorldLine → PlanSeen
planned n lines = plan_seen (all_given items_of n lines) (all_given writes_of n lines)
