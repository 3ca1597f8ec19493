-- What each call's parts begin is the call's.
use Rattle.std.proofs.Common.{◌≡◌, ℕ, suc, List, [], ◌∷◌, ◌++◌, Bool, true, false, Some, is_some, slice_get, refl, sym, subst, append_assoc}
use Rattle.std.specs.List.{AllByRecursion}
use Rattle.my_grammar.specs.declared.login.Login.{Login}
use Rattle.my_grammar.specs.declared.spot.Terms.{Terms}
use Rattle.my_opts_parts.specs.TransactionOptions.{TxView}
use Rattle.my_params.specs.declared.params.Params.{Params}
use Rattle.my_statements.specs.Prepared.{StatementView}
use Rattle.my_value.specs.declared.value.Value.{Value}
use Rattle.my_reading.specs.declared.call.Call.{Call}
use Rattle.my_reading.specs.declared.call.Call.TheVariants.{Connect, Prepare, Execute, Batch, NextRow, DropResult, TakeSet, SkipTaken, Reset, ChangeUser, Begin, Commit, Rollback, ForgetTransaction, CleanForPool, ResetForPool}
use Rattle.my_reading.specs.declared.transaction.TxStatus.{TxStatus}
use Rattle.my_reading.specs.declared.transaction.TxStatus.TheVariants.{InTransaction}
use Rattle.my_reading.specs.Calls.{asks, is_connect, kind_of}
use Rattle.my_reading.specs.Commands.{execution, setup_texts}
use Rattle.my_reading.specs.Course.{Part, Flag, Settle, parts_of, parts_of_batch, parts_of_lists, parts_of_queries}
use Rattle.my_reading.specs.Executions.{Values, Fitting, Unfitting, values_for}
use Rattle.my_reading.specs.Statements.{Statements}
use Rattle.my_reading.specs.Transactions.{access_texts, begin_texts, level_texts, start_text}
use Rattle.history_laws.specs.Table.{queries_of}
use Rattle.history_laws.proofs.Owning.{Leads, or_true}

-- each element is listed
abbrev AreListed : {A : Type 0} → List A → List A → Type 0
AreListed all xs = AllByRecursion (λ x. (place : ℕ) × (slice_get all place ≡ Some x)) xs

listed_on : {A : Type 0} (y : A) (all xs : List A) → AreListed all xs → AreListed (y ∷ all) xs
listed_on y all [] w = tt
listed_on y all (x ∷ xs) w = ((suc w.0.0, w.0.1), listed_on y all xs w.1)

are_listed : {A : Type 0} (xs : List A) → AreListed xs xs
are_listed [] = tt
are_listed (x ∷ xs) = ((0, refl), listed_on x xs xs (are_listed xs))

-- the queries of a call's own, where it has begun an exchange
queries_lead : (login : Login) (c : Call) (st : TxStatus) (texts : List (List ℕ)) (parts : List Part) → asks (kind_of c) ≡ true → AreListed (queries_of login c) texts → Leads login c true st parts → Leads login c true st (parts_of_queries texts parts)
queries_lead login c st [] parts sends w l = l
queries_lead login c st (text ∷ texts) parts sends w l = (sends, w.0, queries_lead login c st texts parts sends w.1 l)

-- and where they are its first exchanges
first_lead : (login : Login) (c : Call) (own : Bool) (st : TxStatus) (texts : List (List ℕ)) (last : List ℕ) (parts : List Part) → asks (kind_of c) ≡ true → AreListed (queries_of login c) (texts ++ last ∷ []) → Leads login c true st parts
    → Leads login c own st (parts_of_queries (texts ++ last ∷ []) parts)
first_lead login c own st [] last parts sends w l = (sends, w.0, l)
first_lead login c own st (text ∷ texts) last parts sends w l = (sends, w.0, first_lead login c true st texts last parts sends w.1 l)

begin_lead : (login : Login) (opts : TxView) (own : Bool) (st : TxStatus) → Leads login (Begin opts) own st (parts_of_queries (begin_texts opts) (Settle InTransaction ∷ []))
begin_lead login opts own st =
    let levels : List (List ℕ) = level_texts opts.isolation_level in
    let accesses : List (List ℕ) = access_texts opts.readonly in
    let start : List ℕ = start_text opts.consistent_snapshot in
    let same : (levels ++ accesses) ++ start ∷ [] ≡ begin_texts opts = append_assoc levels accesses (start ∷ []) in
    subst (λ (texts : List (List ℕ)). Leads login (Begin opts) own st (parts_of_queries texts (Settle InTransaction ∷ []))) same
    (first_lead login (Begin opts) own st (levels ++ accesses) start (Settle InTransaction ∷ []) refl (subst (λ (texts : List (List ℕ)). AreListed (begin_texts opts) texts) (sym same) (are_listed (begin_texts opts))) refl)

-- the executions of a batch
lists_lead : (login : Login) (statement : StatementView) (all lists : List Params) (st : TxStatus) → AreListed all lists → Leads login (Batch statement all) true st (parts_of_lists lists)
lists_lead login statement all [] st w = refl
lists_lead login statement all (params ∷ lists) st w = λ values e. (refl, w.0, (values, e), lists_lead login statement all lists st w.1)

batch_lead : (login : Login) (statement : StatementView) (lists : List Params) (st : TxStatus) → Leads login (Batch statement lists) false st (parts_of_batch lists)
batch_lead login statement [] st = refl
batch_lead login statement (params ∷ lists) st = λ values e. (refl, (refl, (0, refl), (values, e), lists_lead login statement (params ∷ lists) lists _ (listed_on params lists lists (are_listed lists))))

executed_some : (terms : Terms) (st : Statements) (id : ℕ) (v : Values) (values : List Value) → v ≡ Fitting values → is_some (execution terms st id v) ≡ true
executed_some terms st id (Fitting vs) values e = refl
executed_some terms st id (Unfitting x) values e = absurd (cc)

pub parts_lead : (login : Login) (c : Call) (st : TxStatus) → is_connect (kind_of c) ≡ false → Leads login c false st (parts_of login c)
parts_lead login Connect st other = absurd (cc)
parts_lead login (Prepare text) st other = (refl, (refl, λ terms known n. refl, (refl, refl)))
parts_lead login (Execute statement params) st other = λ values e. (refl, (refl, λ terms known n. executed_some terms known statement.inner.id (values_for statement params) values e, refl))
parts_lead login (Batch statement lists) st other = batch_lead login statement lists st
parts_lead login NextRow st other = refl
parts_lead login DropResult st other = refl
parts_lead login TakeSet st other = (refl, refl)
parts_lead login SkipTaken st other = refl
parts_lead login Reset st other = (refl, (refl, λ terms known n. refl, queries_lead login Reset _ (setup_texts login) (Flag true ∷ []) refl (are_listed (setup_texts login)) (refl, refl)))
parts_lead login (ChangeUser change) st other = (refl, (refl, refl, queries_lead login (ChangeUser change) _ (setup_texts login) [] refl (are_listed (setup_texts login)) refl))
parts_lead login (Begin opts) st other = (refl, begin_lead login opts _ _)
parts_lead login Commit st other = (refl, (refl, (refl, (0, refl), refl)))
parts_lead login Rollback st other = (refl, refl)
parts_lead login ForgetTransaction st other = refl
parts_lead login CleanForPool st other = (refl, or_true _)
parts_lead login ResetForPool st other = (refl, (refl, refl, queries_lead login ResetForPool _ (setup_texts login) [] refl (are_listed (setup_texts login)) refl))
-- a call of one command
parts_lead login c st other = (refl, (refl, λ terms known n. refl, refl))
