-- What the steps of a call make of the account.
use Rattle.std.specs.Prelude.{List, [], ◌∷◌, Option, Some, None, Bool, true, false}
use Rattle.my_grammar.specs.declared.account.Account.{Account}
use Rattle.my_grammar.specs.declared.login.Login.{Login}
use Rattle.my_opts.specs.ChangeUser.{ChangeView}
use Rattle.my_reading.specs.Accounts.{changed}
use Rattle.my_reading.specs.Course.{Part, Adopt}
use Rattle.my_machine.specs.Runs.{parts_left}
use Rattle.my_session.specs.declared.opened.Opened.{Opened}

-- the change that the first of these parts makes
abbrev pub head_change : List Part → Option ChangeView
head_change [] = None
head_change (Adopt change ∷ parts) = Some change
head_change (part ∷ parts) = None

-- the change that the next part of an open call makes
abbrev pub next_change : Login → Opened → Option ChangeView
next_change login o = head_change (parts_left login o.call o.progress)

-- the account once a change that was next isn't next any more
abbrev pub adopted : Option ChangeView → Option ChangeView → Account → Account
adopted None later a = a
adopted (Some change) None a = changed change a
adopted (Some change) (Some later) a = a

-- the same, by whether a change is still next
abbrev pub adopted_if : Option ChangeView → Bool → Account → Account
adopted_if None later a = a
adopted_if (Some change) false a = changed change a
adopted_if (Some change) true a = a
