use Rattle.auth_laws.proofs.Refuting as law
use Rattle.auth_laws.proofs.wrong_chains_are_refuted.Goals as goal

pub returns-clause-switch : goal.returns-clause-switch
returns-clause-switch c = law.no_second_switch

pub returns-clause-clear : goal.returns-clause-clear
returns-clause-clear c = law.no_clear_password

pub returns-clause-full : goal.returns-clause-full
returns-clause-full c = law.no_full_password

pub returns-clause-nonce : goal.returns-clause-nonce
returns-clause-nonce c = law.no_earlier_nonce

pub returns-clause-empty : goal.returns-clause-empty
returns-clause-empty c = law.no_empty_scramble

pub returns-clause-decided : goal.returns-clause-decided
returns-clause-decided c = law.no_going_on
