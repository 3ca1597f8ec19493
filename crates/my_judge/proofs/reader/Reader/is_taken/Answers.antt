use Rattle.std.proofs.Common.{Bool, not, ◌&&◌, ◌||◌, ap, ◌∙◌}
use Rattle.my_machine.specs.declared.stand.Stand.{Stand as Machine}
use Rattle.my_reading.specs.Place.{is_rows}
use Rattle.my_judge.proofs.reader.Reader.is_taken.Goals as goal

pub returns : goal.returns
returns c = λ login p at. ap (λ (b : Bool). not c.args.self.now.closed && b)
    (c.is_taken_at-taken.ensures ∙ ap (λ (m : Machine). m.taken && (m.end_left || is_rows m.context.spot)) at.machine_is)
