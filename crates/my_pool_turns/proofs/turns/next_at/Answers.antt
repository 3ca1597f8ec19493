use Rattle.std.proofs.Common.{sym, ◌∙◌, subst}
use Rattle.my_pool_core.specs.Sound.{IsSound}
use Rattle.my_pool_turns.proofs.Working.{next-below}
use Rattle.my_pool_turns.proofs.turns.next_at.Goals as goal

pub returns-clause-below : goal.returns-clause-below
returns-clause-below g c =
    next-below c.args.task c.args.from c.core-2.result.now c.next_in.result
    (subst IsSound (c.core.ensures ∙ sym c.core-2.ensures) c.is_sound.ensures)
    c.next_in.ensures
