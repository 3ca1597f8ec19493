use Rattle.my_pool_turns.proofs.Once.{each-once, stops-early}
use Rattle.my_pool_turns.proofs.laws.each_is_polled_once.Goals as goal

pub returns-clause-polled : goal.returns-clause-polled
returns-clause-polled g c = λ task now p q h polls. each-once g.L.Link.looks task now p q h polls

pub returns-clause-stopped : goal.returns-clause-stopped
returns-clause-stopped g c = λ task now p q first second h below at polls numbers.
    stops-early g.L.Link.looks task now p q first second h below at polls numbers
