use Rattle.auth_laws.proofs.Exchanging.{answers_by_scrambles, answers_twice, says_no_more}
use Rattle.auth_laws.proofs.exchanges_keep_passwords.Goals as goal

pub returns-clause-alone : goal.returns-clause-alone
returns-clause-alone c = says_no_more

pub returns-clause-short : goal.returns-clause-short
returns-clause-short c = answers_twice

pub returns-clause-passwords : goal.returns-clause-passwords
returns-clause-passwords c = answers_by_scrambles
