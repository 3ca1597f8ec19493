-- The account after the steps of a call: it is as before, but where a change of user changed it.
use Rattle.std.proofs.Common.{◌≡◌, ◌⊎◌, inl, inr, ℕ, zero, suc, List, [], ◌∷◌, drop, Option, Some, None, Bool, true, false, refl, sym, ap, ◌∙◌, subst}
use Rattle.std.proofs.lemmas.Bool.{false≢true}
use Rattle.my_grammar.specs.declared.account.Account.{Account}
use Rattle.my_grammar.specs.declared.login.Login.{Login}
use Rattle.my_opts.specs.ChangeUser.{ChangeView}
use Rattle.my_params.specs.declared.params.Params.{Params}
use Rattle.my_reading.specs.declared.call.Call.{Call}
use Rattle.my_reading.specs.declared.call.Call.TheVariants as calls
use Rattle.my_reading.specs.declared.transaction.TxStatus.TheVariants as txs
use Rattle.my_reading.specs.Accounts.{changed}
use Rattle.my_reading.specs.Commands.{arranging_texts, setup_texts}
use Rattle.my_reading.specs.Course.{Part, Flag, Adopt, Settle, Step, Goes, Stops, Stop, step, step_of, unless_owed, parts_of, parts_of_batch, parts_of_lists, parts_of_queries, parts_of_texts, renewed}
use Rattle.my_reading.specs.Leads.{Leads, Here, Then}
use Rattle.my_reading.specs.Place.{Place, owed, with_account}
use Rattle.my_reading.specs.Transactions.{begin_texts}
use Rattle.my_machine.specs.declared.progress.Progress.{Progress}
use Rattle.my_machine.specs.declared.stand.Stand.{Stand}
use Rattle.my_machine.specs.declared.step.Stop.{Stop as CodeStop}
use Rattle.my_machine.specs.Parts.{reverting_parts}
use Rattle.my_machine.specs.Runs.{EachRuns, IsSomewhere, Runs, parts_left}
use Rattle.my_machine.specs.Stands.{IsAt}
use Rattle.my_session.specs.Adopts.{adopted, head_change}
use Rattle.my_session.proofs.Keeping.{Leaves, calm, step_leaves}

-- what follows a part that changes nothing changes nothing, too
calm_after : (part : Part) (parts : List Part) → calm (part ∷ parts) ≡ true → calm parts ≡ true
calm_after (Adopt change) parts e = absurd (false≢true e)
calm_after _ parts e = e

calm_drop : (n : ℕ) (parts : List Part) → calm parts ≡ true → calm (drop n parts) ≡ true
calm_drop zero parts e = e
calm_drop (suc n) [] e = refl
calm_drop (suc n) (part ∷ parts) e = calm_drop n parts (calm_after part parts e)

calm_texts : (texts : List (List ℕ)) → calm (parts_of_texts texts) ≡ true
calm_texts [] = refl
calm_texts (text ∷ texts) = calm_texts texts

calm_lists : (lists : List Params) → calm (parts_of_lists lists) ≡ true
calm_lists [] = refl
calm_lists (params ∷ lists) = calm_lists lists

calm_batch : (lists : List Params) → calm (parts_of_batch lists) ≡ true
calm_batch [] = refl
calm_batch (params ∷ lists) = calm_lists lists

calm_queries : (texts : List (List ℕ)) (parts : List Part) → calm parts ≡ true → calm (parts_of_queries texts parts) ≡ true
calm_queries [] parts e = e
calm_queries (text ∷ texts) parts e = calm_queries texts parts e

calm_renewed : (login : Login) → calm (renewed login) ≡ true
calm_renewed login = calm_queries (setup_texts login) [] refl

-- the first part changes the account, and no other does; or none does
abbrev Changes : List Part → Type 0
Changes parts = ((change : ChangeView) × (rest : List Part) × (parts ≡ Adopt change ∷ rest) × (calm rest ≡ true)) ⊎ (calm parts ≡ true)

-- a call changes the user, or none of its parts changes the account
abbrev Calmness : Login → Call → Type 0
Calmness login call = ((change : ChangeView) × (call ≡ calls.ChangeUser change)) ⊎ (calm (parts_of login call) ≡ true)

calmness : (login : Login) (call : Call) → Calmness login call
calmness login (calls.ChangeUser change) = inl (change, refl)
calmness login calls.Connect = inr (calm_texts (arranging_texts login))
calmness login (calls.Batch statement lists) = inr (calm_batch lists)
calmness login calls.Reset = inr (calm_queries (setup_texts login) (Flag true ∷ []) refl)
calmness login (calls.Begin opts) = inr (calm_queries (begin_texts opts) (Settle txs.InTransaction ∷ []) refl)
calmness login calls.ResetForPool = inr (calm_renewed login)
calmness login _ = inr refl

calm_left : (login : Login) (call : Call) (o : Progress) → calm (parts_of login call) ≡ true → calm (parts_left login call o) ≡ true
calm_left login call o e = by_reverting o.reverting refl
  where
    by_reverting : (b : Bool) → o.reverting ≡ b → calm (parts_left login call o) ≡ true
    by_reverting true is = rw is (calm_drop o.done reverting_parts refl)
    by_reverting false is = rw is (calm_drop o.done (parts_of login call) e)

change_left : (login : Login) (change : ChangeView) (n : ℕ) → Changes (drop n (parts_of login (calls.ChangeUser change)))
change_left login change zero = inl (change, renewed login, refl, calm_renewed login)
change_left login change (suc k) = inr (calm_drop k (renewed login) (calm_renewed login))

user_change : (login : Login) (change : ChangeView) (o : Progress) → Changes (parts_left login (calls.ChangeUser change) o)
user_change login change o = by_reverting o.reverting refl
  where
    by_reverting : (b : Bool) → o.reverting ≡ b → Changes (parts_left login (calls.ChangeUser change) o)
    by_reverting true is = rw is (inr (calm_drop o.done reverting_parts refl))
    by_reverting false is = rw is (change_left login change o.done)

left_change : (login : Login) (call : Call) (o : Progress) → Changes (parts_left login call o)
left_change login call o =
    elim (calmness login call) [
      | inl w ↦ subst (λ (x : Call). Changes (parts_left login x o)) (sym w.1) (user_change login w.0 o)
      | inr e ↦ inr (calm_left login call o e)
    ]

calm_head : (parts : List Part) → calm parts ≡ true → head_change parts ≡ None
calm_head [] e = refl
calm_head (Adopt change ∷ parts) e = absurd (false≢true e)
calm_head (_ ∷ parts) e = refl

-- where no part changes the account, it is as before
calm_leads : (login : Login) (call : Call) (parts : List Part) (p : Place) (rest : List Part) (q : Place) → Leads login call parts p rest q → calm parts ≡ true
    → (calm rest ≡ true) × (q.account ≡ p.account)
calm_leads login call parts p rest q (Here a b) e = (e, refl)
calm_leads login call parts p rest q (Then a b c d f g one k) e =
    let first = (subst (λ (x : Step). Leaves parts p x) one (step_leaves login call parts p)).0 e in
    let later = calm_leads login call c d rest q k first.0 in
    (later.0, later.1 ∙ first.1)

stops_keep : (login : Login) (call : Call) (parts : List Part) (p q : Place) (s : Stop) → step login call parts p ≡ Stops q s → q.account ≡ p.account
stops_keep login call parts p q s e = (subst (λ (x : Step). Leaves parts p x) e (step_leaves login call parts p)).0

-- a step that changes it
adopts : (login : Login) (call : Call) (change : ChangeView) (rest : List Part) (p : Place) (more : List Part) (q : Place) → step login call (Adopt change ∷ rest) p ≡ Goes more q
    → (more ≡ rest) × (q.account ≡ changed change p.account)
unfolding step
adopts login call change rest p more q e = by_owed (owed p) e
  where
    by_owed : (x : List ℕ) → unless_owed x p (step_of login call (Adopt change ∷ rest) p) ≡ Goes more q → (more ≡ rest) × (q.account ≡ changed change p.account)
    by_owed [] e = let is : with_account (changed change p.account) p ≡ q = cc in (cc, sym (ap (λ (x : Place). x.account) is))
    by_owed (b ∷ bytes) e = absurd cc

adopting_leads : (login : Login) (call : Call) (change : ChangeView) (tail : List Part) (parts : List Part) (p : Place) (rest : List Part) (q : Place) → parts ≡ Adopt change ∷ tail → calm tail ≡ true
    → Leads login call parts p rest q → q.account ≡ adopted (Some change) (head_change rest) p.account
adopting_leads login call change tail parts p rest q is e (Here a b) = sym (ap (λ (ps : List Part). adopted (Some change) (head_change ps) p.account) is)
adopting_leads login call change tail parts p rest q is e (Then a b c d f g one k) =
    let first = adopts login call change tail p c d (subst (λ (ps : List Part). step login call ps p ≡ Goes c d) is one) in
    let later = calm_leads login call c d rest q k (ap calm first.0 ∙ e) in
    later.1 ∙ first.1 ∙ sym (ap (λ (o : Option ChangeView). adopted (Some change) o p.account) (calm_head rest later.0))

module _ (login : Login) (call : Call) (old now : Progress) (stop : CodeStop) (before new : Stand) (p : Place) (here : IsAt login p before) (r : Runs login call old p stop now new) where
  end_account : new.account ≡ r.place.account
  end_account = ap (λ (s : Stand). s.account) r.at.stand_is ∙ stops_keep login call r.rest r.place r.end _ r.stops

  begun_account : before.account ≡ p.account
  begun_account = ap (λ (s : Stand). s.account) here.stand_is

  by_changes : Changes (parts_left login call old) → new.account ≡ adopted (head_change (parts_left login call old)) (head_change (parts_left login call now)) before.account
  by_changes (inl w) =
      end_account ∙ adopting_leads login call w.0 w.1 (parts_left login call old) p r.rest r.place w.2 w.3 r.leads
      ∙ ap (λ (ps : List Part). adopted (Some w.0) (head_change ps) p.account) (sym r.left)
      ∙ ap (λ (ps : List Part). adopted (head_change ps) (head_change (parts_left login call now)) p.account) (sym w.2)
      ∙ ap (λ (a : Account). adopted (head_change (parts_left login call old)) (head_change (parts_left login call now)) a) (sym begun_account)
  by_changes (inr e) =
      end_account ∙ (calm_leads login call (parts_left login call old) p r.rest r.place r.leads e).1 ∙ sym begun_account
      ∙ sym (ap (λ (o : Option ChangeView). adopted o (head_change (parts_left login call now)) before.account) (calm_head (parts_left login call old) e))

pub account_after : (login : Login) (call : Call) (old now : Progress) (stop : CodeStop) (before new : Stand) → IsSomewhere login before → EachRuns login call old before stop now new
    → new.account ≡ adopted (head_change (parts_left login call old)) (head_change (parts_left login call now)) before.account
account_after login call old now stop before new here runs =
    by_changes login call old now stop before new here.0 here.1 (runs here.0 here.1) (left_change login call old)

-- a call that doesn't change the user changes no account
pub others_unchanging : (login : Login) (call : Call) (o : Progress) → ((change : ChangeView) → call ≡ calls.ChangeUser change → ⊥) → head_change (parts_left login call o) ≡ None
others_unchanging login call o never =
    elim (calmness login call) [
      | inl w ↦ absurd (never w.0 w.1)
      | inr e ↦ calm_head (parts_left login call o) (calm_left login call o e)
    ]
