-- What all lines of a script say: the lines of its world, then its steps; or the first line that doesn't read.
use Rattle.std.specs.Prelude.{ℕ, ◌≡◌, ◌+◌, ◌==◌, ◌&&◌, nat_lt, not, take, List, [], ◌∷◌, ◌++◌, Option, Some, None, Bool, true, false, if◌then◌else◌}
use Rattle.std.specs.List.{slice_split, list_all}
use Rattle.my_script.specs.declared.step.Step.{Step}
use Rattle.my_script.specs.declared.step.Step.TheVariants.{Conn, Advance, Random}
use Rattle.my_link.specs.declared.line.WorldLine.{WorldLine}
use Rattle.my_script.specs.declared.reading.item.Item.{Item}
use Rattle.my_script.specs.declared.reading.item.Item.TheVariants.{Nothing, Plans, Steps, Wrong}
use Rattle.my_script.specs.declared.reading.script.BadLine.{BadLine}
use Rattle.my_script.specs.declared.reading.script.Read.{Read}
use Rattle.my_script.specs.declared.reading.script.Read.TheVariants as reads
use Rattle.my_script.specs.declared.reading.script.Script.{Script as LinesRead}
use Rattle.my_script.specs.declared.reading.script.Sofar.{Sofar}
use Rattle.my_script.specs.Line.{line_of}

-- the lines' meaning, or the first line that doesn't read: its number, and its first 200 bytes
pub data Script : Type 0 where
  Good : (plan : List WorldLine) (steps : List Step) → Script
  Bad : (n : ℕ) (text : List ℕ) → Script

-- a step that moves the world is there only where the world plans
abbrev pub admitted_moving : Bool → Sofar → Option Sofar
admitted_moving true s = Some (record { stepped = true; conns = s.conns })
admitted_moving false s = None

-- at most 1,000 lines connect
abbrev pub admitted_step : Bool → Sofar → Step → Option Sofar
admitted_step plans s Conn = if nat_lt s.conns 1000 then Some (record { stepped = true; conns = s.conns + 1 }) else None
admitted_step plans s (Advance by) = admitted_moving plans s
admitted_step plans s (Random word) = admitted_moving plans s
admitted_step plans s _ = Some (record { stepped = true; conns = s.conns })

-- the lines up to this one, where it may be there: a world's line comes before the first step, over a world that plans
abbrev pub admitted : Bool → Sofar → Item → Option Sofar
admitted plans s Nothing = Some s
admitted plans s (Plans l) = if plans && not s.stepped then Some s else None
admitted plans s (Steps step) = admitted_step plans s step
admitted plans s Wrong = None

-- these stand before what follows says
abbrev pub front : List WorldLine → List Step → Script → Script
front ps qs (Good ls ss) = Good (ps ++ ls) (qs ++ ss)
front ps qs (Bad n text) = Bad n text

abbrev pub with_item : Item → Script → Script
with_item Nothing more = more
with_item (Plans l) more = front (l ∷ []) [] more
with_item (Steps s) more = front [] (s ∷ []) more
with_item Wrong more = more

-- a line with this number and these bytes, by where it may stand
abbrev pub on_line : Option Sofar → ℕ → List ℕ → Item → (Sofar → Script) → Script
on_line None n line item more = Bad n (take 200 line)
on_line (Some s) n line item more = with_item item (more s)

-- the lines from this number on
abbrev pub script_from : Bool → Sofar → ℕ → List (List ℕ) → Script
script_from plans s n [] = Good [] []
script_from plans s n (l ∷ ls) = on_line (admitted plans s (line_of l)) n l (line_of l) (λ after. script_from plans after (n + 1) ls)

-- all bytes as lines, which end with a line feed; a last line without one reads too
abbrev pub script_of : Bool → List ℕ → Script
script_of plans bytes = script_from plans (record { stepped = false; conns = 0 }) 1 (slice_split (λ b. b == 10) bytes)

-- a step that moves the world stands only over a world that plans
abbrev pub may_stand : Bool → Step → Bool
may_stand plans (Advance by) = plans
may_stand plans (Random word) = plans
may_stand plans _ = true

abbrev pub StandsIn : Bool → Script → Type 0
StandsIn plans (Good plan steps) = list_all (may_stand plans) steps ≡ true
StandsIn plans (Bad n text) = Unit {0}

abbrev pub read_as : Read → Script
read_as (reads.Good s) = Good s.plan.items s.steps.items
read_as (reads.Bad line) = Bad line.number line.text

-- the lines that were read, where all read, or the first one that doesn't
abbrev pub read_into : LinesRead → Option BadLine → Script
read_into lines None = Good lines.plan.items lines.steps.items
read_into lines (Some line) = Bad line.number line.text
