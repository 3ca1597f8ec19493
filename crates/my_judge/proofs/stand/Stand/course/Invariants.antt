use Rattle.std.specs.Prelude.{◌-◌, length}
use Rattle.my_judge.proofs.Coursing.{InCourse}
use Rattle.my_judge.proofs.stand.Stand.course.Given as goal

abbrev pub invariant-owed : goal.invariant-owed
invariant-owed l = InCourse l.login l.call l.fn.self l.progress l.self

abbrev pub decreases-owed : goal.decreases-owed
decreases-owed l = length l.self.sent - l.self.settled
