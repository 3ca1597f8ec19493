-- The theorem on the top call: what it means that a run ended with a status.
use Rattle.std.specs.Prelude.{◌≡◌, ◌⊎◌, ◌&&◌, not, ℕ, List, [], Some, None, Ok, Err, Bool, if◌then◌else◌}
use Rattle.my_frame.specs.declared.limits.TheConstants.{MOST_INPUT}
use Rattle.my_grammar.specs.declared.login.Login.{Login}
use Rattle.my_opts.specs.Opts.{OptsView}
use Rattle.my_link.specs.Plan.{chance_after, plans_after}
use Rattle.my_script.specs.declared.step.Step.{Step}
use Rattle.my_link.specs.declared.line.WorldLine.{WorldLine}
use Rattle.my_script.specs.declared.transcript.Transcript.{Transcript}
use Rattle.my_run.specs.declared.tool.Report.{Report}
use Rattle.my_run.specs.declared.tool.Status.{Status}
use Rattle.my_run.specs.declared.tool.Status.TheVariants.{Done, NoCommand, Unread, SourceFailed, SinkFailed, Refused, TooLong, NoMemory}
use Rattle.my_run.specs.Input.{IsRead, IsTooLong, IsBroken}
use Rattle.my_run.specs.Output.{WroteAll, WrotePart}
use Rattle.my_run.specs.Headline.{Headline}
use Rattle.my_run.specs.Stopped.{Stopped}
use Rattle.my_frame.specs.Sources.{SourceSeen}
use Rattle.my_frame.specs.Sinks.{SinkSeen}
use Rattle.my_link.specs.World.{Plans, WorldSeen}
use Rattle.my_steps.specs.Dialing.{Course, course_of}
use Rattle.my_session.specs.Login.{login_of}
use Rattle.my_script.specs.Script.{Script, Good, Bad, script_of}
use Rattle.my_script.specs.Text.{text_of}
use Rattle.my_script.specs.Words.{CommandWords, command_of, word_opts}

-- nothing was written, and the transcript is empty
pub record IsBlank (w v : SinkSeen) (t : Transcript) : Type 0 where
  pub written : v ≡ w
  pub answers : t.answers.items ≡ []
  pub tapes : t.tapes.items ≡ []

-- nor was anything done to the world
abbrev pub IsIdle : WorldSeen → WorldSeen → SinkSeen → SinkSeen → Transcript → Type 0
IsIdle world later w v t = IsBlank w v t × (later ≡ world)

-- the words are this command, and its second word stands for these options
pub record IsAsked (words : List (List ℕ)) (command : CommandWords) (opts : OptsView) : Type 0 where
  pub read : command_of words ≡ Some command
  pub stands : word_opts command.word ≡ Ok opts

-- The source was read to its end, and its lines are this script. The lines of a world and the steps that move it don't read in
-- `live`, nor over a world that takes no plan.
pub record IsInput (words : List (List ℕ)) (world : WorldSeen) (s r : SourceSeen) (opts : OptsView) (planned : Bool)
    (script : Script) : Type 0 where
  pub command : CommandWords
  pub asked : IsAsked words command opts
  pub plans : planned ≡ (not command.live && world.takes)
  pub bytes : List ℕ
  pub read : IsRead MOST_INPUT s r bytes
  pub lines : script_of planned bytes ≡ script

-- the plan of the world once it was handed the script's lines, where it is handed them
abbrev pub plans_with : Bool → List WorldLine → Plans → Plans
plans_with planned lines plans = if planned then plans_after lines plans else plans

-- and what else a run changes
abbrev pub course_with : Bool → List WorldLine → Course → Course
course_with planned lines course = record course {
  chance = if planned then chance_after lines course.chance else course.chance;
}

-- all lines read, and this came of the steps
pub record HasScript (words : List (List ℕ)) (world : WorldSeen) (s r : SourceSeen)
    (Comes : Login → Plans → Course → List Step → Type 0) : Type 0 where
  pub opts : OptsView
  pub planned : Bool
  pub lines : List WorldLine
  pub steps : List Step
  pub input : IsInput words world s r opts planned (Good lines steps)
  pub comes : Comes (login_of opts) (plans_with planned lines world.plans) (course_with planned lines (course_of world)) steps

-- all were run, and of their text this was written
abbrev pub Ran : (SinkSeen → List ℕ → SinkSeen → Type 0) → WorldSeen → SinkSeen → SinkSeen → Transcript → Login → Plans → Course
    → List Step → Type 0
Ran wrote later w v t login plans before steps =
    Headline login plans before (course_of later) steps t.answers.items t.tapes.items
    × wrote w (text_of t.answers.items t.tapes.items) v

-- what may have become of a world where memory ran out: nothing, or all lines read and steps were begun
abbrev pub IsStopped : List (List ℕ) → WorldSeen → WorldSeen → SourceSeen → SourceSeen → Type 0
IsStopped words world later s r = (later ≡ world) ⊎ HasScript words world s r (Stopped (course_of later))

-- How a run ended, over a world that was `world` before it and `later` after it. Each status comes exactly where its line says, in
-- this order: the words, the second word, the source, its bytes' number, its lines, the sink; out of memory may come at any
-- place.
abbrev pub EndsBy : List (List ℕ) → WorldSeen → WorldSeen → SourceSeen → SourceSeen → SinkSeen → SinkSeen → Transcript
    → Status → Type 0
EndsBy words world later s r w v t NoCommand = (command_of words ≡ None) × (r ≡ s) × IsIdle world later w v t
EndsBy words world later s r w v t (Refused fault) = (command : CommandWords) × (command_of words ≡ Some command)
    × (word_opts command.word ≡ Err fault) × (r ≡ s) × IsIdle world later w v t
EndsBy words world later s r w v t SourceFailed = (command : CommandWords) × (opts : OptsView) × IsAsked words command opts
    × IsBroken MOST_INPUT s r × IsIdle world later w v t
EndsBy words world later s r w v t TooLong = (command : CommandWords) × (opts : OptsView) × IsAsked words command opts
    × IsTooLong MOST_INPUT s r × IsIdle world later w v t
EndsBy words world later s r w v t (Unread line) = (opts : OptsView) × (planned : Bool)
    × IsInput words world s r opts planned (Bad line.number line.text) × IsIdle world later w v t
EndsBy words world later s r w v t SinkFailed = HasScript words world s r (Ran WrotePart later w v t)
EndsBy words world later s r w v t Done = HasScript words world s r (Ran WroteAll later w v t)
EndsBy words world later s r w v t NoMemory = IsBlank w v t × IsStopped words world later s r

abbrev pub IsReport : List (List ℕ) → WorldSeen → WorldSeen → SourceSeen → SourceSeen → SinkSeen → SinkSeen → Report
    → Type 0
IsReport words world later s r w v report = EndsBy words world later s r w v report.transcript report.status

-- the number with which the program ends
abbrev pub code_of : Status → ℕ
code_of Done = 0
code_of NoCommand = 2
code_of (Unread line) = 3
code_of SourceFailed = 4
code_of SinkFailed = 5
code_of (Refused fault) = 6
code_of TooLong = 7
code_of NoMemory = 12
