use Rattle.std.proofs.Common.{sym, ◌∙◌}
use Rattle.my_pool_turns.proofs.Working.{none-works}
use Rattle.my_pool_turns.proofs.turns.next_in.Goals as goal

pub returns-then-count_working-eq0 : goal.returns-then-count_working-eq0
returns-then-count_working-eq0 c =
    none-works c.args.task c.args.from c.args.core.now (sym c.count_working.ensures ∙ c.if-count_working-eq0.true)
