use Rattle.std.proofs.Common.{rules}
use Rattle.my_script.specs.Script.{Good}
use Rattle.my_script.proofs.Scripts.Standing.{stands_in}
use Rattle.my_script.proofs.reading.script.read_script.Goals as goal

pub returns-in-Ok-None-clause-stands : goal.returns-in-Ok-None-clause-stands
returns-in-Ok-None-clause-stands c = stands_in c.args.plans c.args.bytes.now (Good c.read_lines.new.script.plan.items c.read_lines.new.script.steps.items) (search rules)
