use Rattle.my_pool_core.proofs.Asked.Tokens.{may-poll, may-settle, may-cancel}
use Rattle.my_pool_core.proofs.laws.tokens_allow.Goals as goal

pub returns-clause-poll : goal.returns-clause-poll
returns-clause-poll c = λ s age now e. may-poll s age e

pub returns-clause-ready : goal.returns-clause-ready
returns-clause-ready c = may-settle

pub returns-clause-failed : goal.returns-clause-failed
returns-clause-failed c = may-settle

pub returns-clause-cancel : goal.returns-clause-cancel
returns-clause-cancel c = may-cancel
