-- What the lines of a run make of the aim of a connection's open call.
use Rattle.my_script.specs.declared.aim.Aim.{Aim}
use Rattle.my_script.specs.declared.aim.Aim.TheVariants.{Take, Row, Rows}
use Rattle.my_script.specs.declared.step.Step.{Step}
use Rattle.my_script.specs.declared.step.Step.TheVariants as steps

-- After a step at its number that isn't refused: one that polls goes on with what another one began.
abbrev pub aim_after : Aim → Step → Aim
aim_after aim (steps.Stream n) = Take
aim_after aim (steps.Collect n) = Rows
aim_after aim (steps.Poll n) = aim
aim_after aim step = Row
