-- What holds of each call. A case that isn't written follows from the definitions (`cc`, `refl`), and so does a further call's, as a rule.
use Rattle.std.proofs.Common.{◌≡◌, ℕ, List, [], ◌∷◌, Bool, true, false, not, ◌&&◌, ◌||◌, refl, ap}
use Rattle.my_handshake.specs.declared.version.ServerVersion.{ServerVersion}
use Rattle.my_grammar.specs.declared.login.Login.{Login}
use Rattle.my_params.specs.declared.params.Params.{Params}
use Rattle.my_reading.specs.declared.call.Call.{Call}
use Rattle.my_reading.specs.declared.call.Call.TheVariants.{Connect, Query, Execute, Batch, DropResult, SkipTaken, Reset, ChangeUser, Begin, Commit, ResetForPool, Quit}
use Rattle.my_grammar.specs.Talk.{context_of}
use Rattle.my_reading.specs.declared.call.CallKind.{CallKind}
use Rattle.my_reading.specs.declared.call.CallKind.TheVariants as callkinds
use Rattle.my_reading.specs.declared.error.ServerError.{ServerError}
use Rattle.my_reading.specs.declared.transaction.TxStatus.TheVariants.{InTransaction}
use Rattle.my_reading.specs.Calls.{asks, is_connect, kind_of, statement_in}
use Rattle.my_reading.specs.Commands.{arranging_texts, renews_by_reset, setup_texts}
use Rattle.my_reading.specs.Course.{Part, All, Head, Item, Set, Rest, Command, Find, Check, Run, Reply, Keep, Give, Offered, Text, Flag, Renew, Drain, Undo, Refuse, Settle, Try, Back, parts_of, parts_of_batch, parts_of_lists, parts_of_queries, parts_of_texts}
use Rattle.my_reading.specs.Endings.{closes_cancelled, awaits_head}
use Rattle.my_reading.specs.Executions.{values_for}
use Rattle.my_reading.specs.Place.{Place}
use Rattle.my_reading.specs.Reading.{closed_answer}
use Rattle.my_reading.specs.Told.{ToldReady}
use Rattle.my_reading.specs.Transactions.{begin_texts}
use Rattle.history_laws.specs.Errors.{passes_errors, with_told}
use Rattle.history_laws.specs.Given.{passes_over}
use Rattle.history_laws.specs.Groups.{Group, given_after, ready_given}
use Rattle.history_laws.specs.Owners.{may_lack}
use Rattle.history_laws.proofs.Phases.{is_fitting, is_query, is_safe, reads_sets}

-- the call that connects
pub connect_is : (c : Call) → is_connect (kind_of c) ≡ true → Connect ≡ c
connect_is Connect e = refl
connect_is c e = cc

-- a pool's cleaning alone renews by a reset
pub pooled : (c : Call) (v : ServerVersion) → renews_by_reset (kind_of c) v ≡ true → c ≡ ResetForPool
pooled ResetForPool v e = refl
pooled c v e = cc

abbrev pub is_commits : Call → Bool
is_commits Commit = true
is_commits c = false

pub commits : (c : Call) → is_commits c ≡ true → c ≡ Commit
commits Commit e = refl
commits c e = cc

-- a call that commits isn't one that may be cancelled and leave the session open
pub commit_closes : (c : Call) → c ≡ Commit → not (reads_sets c) ≡ false → ⊥
commit_closes c e n = let no : not (reads_sets c) ≡ true = ap (λ d. not (reads_sets d)) e in cc

pub query_plain : (c : Call) → is_query c ≡ true → reads_sets c ≡ false
query_plain (Query text) e = refl
query_plain (Execute statement params) e = refl
query_plain c e = absurd (cc)

-- what returns nothing of a set gives nothing
pub ready_same : (c : Call) → is_query c ≡ false → (gs : List (List Group)) → ready_given (kind_of c) gs ≡ gs
ready_same (Query text) other gs = cc
ready_same c other gs = cc

pub over_same : (c : Call) → passes_over c ≡ true → (gs : List (List Group)) → given_after ToldReady (kind_of c) gs ≡ gs
over_same DropResult passes gs = refl
over_same SkipTaken passes gs = refl
over_same c passes gs = absurd (cc)

-- what a call on a closed session returns gives nothing
pub closed_same : (c : Call) (gs : List (List Group)) → given_after (closed_answer c) (kind_of c) gs ≡ gs
closed_same Quit gs = refl
closed_same c gs = refl

-- it is no error of the server
pub closed_calm : (c : Call) (es : List ServerError) → with_told (closed_answer c) es ≡ es
closed_calm Quit es = refl
closed_calm c es = refl

-- what a call on a closed session returns needs no exchange
pub closed_lacks : (c : Call) → may_lack (closed_answer c) c ≡ true
closed_lacks Quit = refl
closed_lacks c = refl

-- a call that may be cancelled without closing the session keeps what is left
pub cancelled_reads : (c : Call) (p : Place) → closes_cancelled (kind_of c) p ≡ false → not (reads_sets c) ≡ false
cancelled_reads Quit p e = absurd (cc)
cancelled_reads c p e = cc

-- it sends nothing
pub cancelled_asks : (k : CallKind) (p : Place) → closes_cancelled k p ≡ false → asks k ≡ false
cancelled_asks callkinds.Quit p e = absurd (cc)
cancelled_asks k p e = cc

pub cancelled_awaits : (k : CallKind) (p : Place) → closes_cancelled k p ≡ false → awaits_head (context_of p.talk).spot ≡ false
cancelled_awaits callkinds.NextRow p e = e
cancelled_awaits callkinds.DropResult p e = e
cancelled_awaits callkinds.TakeSet p e = e
cancelled_awaits callkinds.SkipTaken p e = e
cancelled_awaits k p e = absurd (cc)

or_right : (a b : Bool) → b ≡ true → (a || b) ≡ true
or_right true b e = refl
or_right false b e = e

-- the parts of a call that reads its own responses whole are safe
texts_safe : (texts : List (List ℕ)) → is_safe Connect true false (parts_of_texts texts) ≡ true
texts_safe [] = refl
texts_safe (text ∷ texts) = texts_safe texts

lists_safe : (c : Call) → is_query c ≡ false → (lists : List Params) → is_safe c true false (parts_of_lists lists) ≡ true
lists_safe c other [] = ap not other
lists_safe c other (params ∷ lists) = or_right (not (is_fitting (values_for (statement_in c) params))) _ (lists_safe c other lists)

batch_safe : (c : Call) → is_query c ≡ false → (lists : List Params) → is_safe c true false (parts_of_batch lists) ≡ true
batch_safe c other [] = ap not other
batch_safe c other (params ∷ lists) = or_right (not (is_fitting (values_for (statement_in c) params))) _ (lists_safe c other lists)

queries_safe : (c : Call) (kept : Bool) (texts : List (List ℕ)) (parts : List Part) → is_safe c true false parts ≡ true → is_safe c kept false (parts_of_queries texts parts) ≡ true
queries_safe c kept [] parts e = e
queries_safe c kept (text ∷ texts) parts e = queries_safe c false texts parts e

-- an execution goes on only where its values fit
fits_or_not : (b : Bool) → (not b || (b && true)) ≡ true
fits_or_not true = refl
fits_or_not false = refl

pub parts_safe : (login : Login) (c : Call) → reads_sets c ≡ false → is_safe c true false (parts_of login c) ≡ true
parts_safe login Connect plain = texts_safe (arranging_texts login)
parts_safe login (Execute statement params) plain = fits_or_not (is_fitting (values_for statement params))
parts_safe login (Batch statement lists) plain = batch_safe (Batch statement lists) refl lists
parts_safe login Reset plain = queries_safe Reset true (setup_texts login) (Flag true ∷ []) refl
parts_safe login (ChangeUser change) plain = queries_safe (ChangeUser change) true (setup_texts login) [] refl
parts_safe login ResetForPool plain = queries_safe ResetForPool true (setup_texts login) [] refl
parts_safe login (Begin opts) plain = queries_safe (Begin opts) true (begin_texts opts) (Settle InTransaction ∷ []) refl
parts_safe login c plain = cc

-- the parts that begin an exchange come only where the one before is over
abbrev pub is_orderly : Bool → List Part → Bool
is_orderly over [] = true
is_orderly over (All ∷ parts) = is_orderly true parts
is_orderly over (Reply ∷ parts) = is_orderly true parts
is_orderly over (Drain ∷ parts) = is_orderly true parts
is_orderly over (Back ∷ parts) = true
is_orderly over (Head ∷ parts) = is_orderly false parts
is_orderly over (Item ∷ parts) = is_orderly false parts
is_orderly over (Set ∷ parts) = is_orderly false parts
is_orderly over (Rest ∷ parts) = is_orderly false parts
is_orderly over (Command ∷ parts) = over && is_orderly false parts
is_orderly over (Run params ∷ parts) = over && is_orderly false parts
is_orderly over (Text text ∷ parts) = over && is_orderly false parts
is_orderly over (Renew ∷ parts) = over && is_orderly false parts
is_orderly over (Keep ∷ parts) = over && is_orderly false parts
is_orderly over (Undo ∷ parts) = over && is_orderly false parts
is_orderly over (part ∷ parts) = is_orderly over parts

texts_orderly : (over : Bool) (texts : List (List ℕ)) → is_orderly true (parts_of_texts texts) ≡ true
texts_orderly over [] = refl
texts_orderly over (text ∷ texts) = texts_orderly over texts

lists_orderly : (lists : List Params) → is_orderly true (parts_of_lists lists) ≡ true
lists_orderly [] = refl
lists_orderly (params ∷ lists) = lists_orderly lists

batch_orderly : (lists : List Params) → is_orderly false (parts_of_batch lists) ≡ true
batch_orderly [] = refl
batch_orderly (params ∷ lists) = lists_orderly lists

queries_orderly : (over : Bool) (texts : List (List ℕ)) (parts : List Part) → is_orderly true parts ≡ true → is_orderly over (parts_of_queries texts parts) ≡ true
queries_orderly over [] parts e = e
queries_orderly over (text ∷ texts) parts e = queries_orderly false texts parts e

pub parts_orderly : (login : Login) (c : Call) → is_orderly false (parts_of login c) ≡ true
parts_orderly login Connect = texts_orderly false (arranging_texts login)
parts_orderly login (Batch statement lists) = batch_orderly lists
parts_orderly login Reset = queries_orderly true (setup_texts login) (Flag true ∷ []) refl
parts_orderly login (ChangeUser change) = queries_orderly true (setup_texts login) [] refl
parts_orderly login ResetForPool = queries_orderly true (setup_texts login) [] refl
parts_orderly login (Begin opts) = queries_orderly true (begin_texts opts) (Settle InTransaction ∷ []) refl
parts_orderly login c = refl

-- a call with these parts returns only where nothing is being committed
abbrev pub is_tried : Call → Bool → List Part → Bool
is_tried c trying [] = not trying
is_tried c trying (Item ∷ parts) = not trying && is_tried c trying parts
is_tried c trying (Set ∷ parts) = not trying && is_tried c trying parts
is_tried c trying (Find ∷ parts) = not trying && is_tried c trying parts
is_tried c trying (Check params ∷ parts) = not trying && is_tried c trying parts
is_tried c trying (Give ∷ parts) = not trying && is_tried c trying parts
is_tried c trying (Offered ∷ parts) = not trying && is_tried c trying parts
is_tried c trying (Flag flag ∷ parts) = not trying && is_tried c trying parts
is_tried c trying (Drain ∷ parts) = passes_errors c && is_tried c trying parts
is_tried c trying (Refuse opts ∷ parts) = not trying && is_tried c trying parts
is_tried c trying (Settle status ∷ parts) = is_tried c false parts
is_tried c trying (Try ∷ parts) = is_commits c && is_tried c true parts
is_tried c trying (Back ∷ parts) = false
is_tried c trying (part ∷ parts) = is_tried c trying parts

texts_tried : (texts : List (List ℕ)) → is_tried Connect false (parts_of_texts texts) ≡ true
texts_tried [] = refl
texts_tried (text ∷ texts) = texts_tried texts

lists_tried : (c : Call) (lists : List Params) → is_tried c false (parts_of_lists lists) ≡ true
lists_tried c [] = refl
lists_tried c (params ∷ lists) = lists_tried c lists

batch_tried : (c : Call) (lists : List Params) → is_tried c false (parts_of_batch lists) ≡ true
batch_tried c [] = refl
batch_tried c (params ∷ lists) = lists_tried c lists

queries_tried : (c : Call) (texts : List (List ℕ)) (parts : List Part) → is_tried c false parts ≡ true → is_tried c false (parts_of_queries texts parts) ≡ true
queries_tried c [] parts e = e
queries_tried c (text ∷ texts) parts e = queries_tried c texts parts e

pub parts_tried : (login : Login) (c : Call) → is_tried c false (parts_of login c) ≡ true
parts_tried login Connect = texts_tried (arranging_texts login)
parts_tried login (Batch statement lists) = batch_tried (Batch statement lists) lists
parts_tried login Reset = queries_tried Reset (setup_texts login) (Flag true ∷ []) refl
parts_tried login (ChangeUser change) = queries_tried (ChangeUser change) (setup_texts login) [] refl
parts_tried login ResetForPool = queries_tried ResetForPool (setup_texts login) [] refl
parts_tried login (Begin opts) = queries_tried (Begin opts) (begin_texts opts) (Settle InTransaction ∷ []) refl
parts_tried login c = refl
