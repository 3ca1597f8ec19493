use Rattle.my_frame.proofs.NumberLaws.{head_found, head_again, before_found, before_again, bytes_found, bytes_again, number_found, number_again, len_found, len_again, text_found, text_again, text0_found, text0_again}
use Rattle.my_frame.proofs.laws.numbers_are_read.Goals as goal

pub returns-clause-head : goal.returns-clause-head
returns-clause-head c = λ head bytes rest. (head_found head bytes rest, head_again head bytes rest)

pub returns-clause-before : goal.returns-clause-before
returns-clause-before c = λ bytes part. (before_found bytes part, before_again bytes part)

pub returns-clause-bytes : goal.returns-clause-bytes
returns-clause-bytes c = λ count bytes part rest. (bytes_found count bytes part rest, bytes_again count bytes part rest)

pub returns-clause-number : goal.returns-clause-number
returns-clause-number c = λ count bytes n rest. (number_found count bytes n rest, number_again count bytes n rest)

pub returns-clause-len : goal.returns-clause-len
returns-clause-len c = λ bytes n rest. (len_found bytes n rest, len_again bytes n rest)

pub returns-clause-text : goal.returns-clause-text
returns-clause-text c = λ bytes text rest. (text_found bytes text rest, text_again bytes text rest)

pub returns-clause-text0 : goal.returns-clause-text0
returns-clause-text0 c = λ bytes text rest. (text0_found bytes text rest, text0_again bytes text rest)
