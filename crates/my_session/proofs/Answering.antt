-- How a session's step is the steps of the reading.
use Rattle.std.proofs.Common.{◌≡◌, ◌∙◌, Bool, Option, Some, None, is_none, not, refl, sym, ap, subst}
use Rattle.my_grammar.specs.declared.account.Account.{Account}
use Rattle.my_grammar.specs.declared.login.Login.{Login}
use Rattle.my_opts.specs.ChangeUser.{ChangeView}
use Rattle.my_opts.specs.Opts.{OptsView}
use Rattle.my_machine.specs.declared.stand.Stand.{Stand}
use Rattle.my_machine.specs.declared.step.Stop.{Stop}
use Rattle.my_machine.specs.Runs.{EachRuns}
use Rattle.my_machine.specs.Stands.{IsAt}
use Rattle.my_reading.specs.declared.call.Call.{Call}
use Rattle.my_reading.specs.declared.call.CallKind.{CallKind}
use Rattle.my_reading.specs.Calls.{kind_of}
use Rattle.my_reading.specs.Place.{first_place}
use Rattle.my_session.specs.declared.answer.LinkFault.{LinkFault}
use Rattle.my_session.specs.Login.{account_in, login_of}
use Rattle.my_session.specs.declared.opened.Opened.{Opened}
use Rattle.my_session.specs.Adopts.{adopted, adopted_if}
use Rattle.my_session.specs.Sessions.{Ran, Seen}

same_opened : (a b : Opened) → Some a ≡ Some b → a ≡ b
same_opened a b e = cc

-- a stand with the account that it has
pub with_its_account : (s : Stand) (a : Account) → s.account ≡ a → record s { account = a } ≡ s
with_its_account s a e = ap (λ (b : Account). record s { account = b }) (sym e)

-- the account before the first call
pub first_account : (o : OptsView) (s : Stand) → IsAt (login_of o) (first_place (login_of o)) s → s.account ≡ account_in o
first_account o s at = ap (λ (x : Stand). x.account) at.stand_is

pub begins_at : (o : OptsView) (s : Stand) → IsAt (login_of o) (first_place (login_of o)) s → IsAt (login_of o) (first_place (login_of o)) (record s { account = account_in o })
begins_at o s at = subst (IsAt (login_of o) (first_place (login_of o))) (sym (with_its_account s (account_in o) (first_account o s at))) at

-- the options are changed where the account is
pub adopts_if : (first later : Option ChangeView) (a : Account) → adopted_if first (not (is_none later)) a ≡ adopted first later a
adopts_if None later a = refl
adopts_if (Some change) None a = refl
adopts_if (Some change) (Some next) a = refl

-- the open call ran
pub ran : (login : Login) (before now : Stand) (a b : Account) (opened : Option Opened) (first later : Opened) (closed ended : Bool) (fault : Option LinkFault) (kind : CallKind) (stop : Stop)
    → before.account ≡ a → now.account ≡ b → opened ≡ Some first → later.call ≡ first.call → kind ≡ kind_of first.call
    → EachRuns login first.call first.progress before stop later.progress now → (o : Opened) → opened ≡ Some o
    → Ran o (record { login = login; stand = record before { account = a }; opened = opened; closed = closed; ended = ended; fault = fault })
    (record { login = login; stand = record now { account = b }; opened = Some later; closed = closed; ended = ended; fault = fault }) kind stop
ran login before now a b opened first later closed ended fault kind stop old_is new_is is call_is kind_is runs o e =
    subst (λ (x : Opened). Ran x (record { login = login; stand = record before { account = a }; opened = opened; closed = closed; ended = ended; fault = fault })
    (record { login = login; stand = record now { account = b }; opened = Some later; closed = closed; ended = ended; fault = fault }) kind stop)
    (same_opened first o (sym is ∙ e))
    (record {
      kind_is = kind_is;
      progress = later.progress;
      stand = record now { account = b };
      mid_is = ap (λ (call : Call). let x : Seen = record {
        login = login;
        stand = record now { account = b };
        opened = Some (record { call = call; progress = later.progress });
        closed = closed;
        ended = ended;
        fault = fault;
      } in x) call_is;
      runs = subst (λ (s : Stand). EachRuns login first.call first.progress s stop later.progress (record now { account = b })) (sym (with_its_account before a old_is))
          (subst (λ (s : Stand). EachRuns login first.call first.progress before stop later.progress s) (sym (with_its_account now b new_is)) runs);
    })
