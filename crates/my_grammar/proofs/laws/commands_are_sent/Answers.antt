-- What a client sends.
use Rattle.my_grammar.proofs.Commands.{ahead_then, commands_number, origin_keeps, origin_said, queried_said}
use Rattle.my_grammar.proofs.laws.commands_are_sent.Goals as goal

pub returns-clause-begun : goal.returns-clause-begun
returns-clause-begun c = λ t. origin_said t

pub returns-clause-kept : goal.returns-clause-kept
returns-clause-kept c = λ t. origin_keeps t

pub returns-clause-queried : goal.returns-clause-queried
returns-clause-queried c = λ terms command x. queried_said terms command x

pub returns-clause-executed : goal.returns-clause-executed
returns-clause-executed c = λ terms command ahead known. ahead_then ahead command

pub returns-clause-number : goal.returns-clause-number
returns-clause-number c = λ terms command asking. commands_number command asking
