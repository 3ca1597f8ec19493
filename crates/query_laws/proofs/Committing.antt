-- A commit that returns ready leaves the exchange of its COMMIT, which is over and has no ERR.
use Rattle.std.proofs.Common.{◌≡◌, ℕ, List, [], ◌∷◌, Bool, true, false, refl, sym, ap, ◌∙◌, subst}
use Rattle.my_grammar.proofs.Growth.{grows}
use Rattle.my_grammar.specs.declared.login.Login.{Login}
use Rattle.my_grammar.specs.declared.spot.Kind.{Kind}
use Rattle.my_grammar.specs.Cut.{is_over}
use Rattle.my_grammar.specs.Growth.{grow}
use Rattle.my_grammar.specs.Talk.{Fits, Talk, origin}
use Rattle.my_reading.specs.declared.call.Call.{Call}
use Rattle.my_reading.specs.declared.call.Call.TheVariants.{Commit}
use Rattle.my_reading.specs.declared.error.Error.{Error}
use Rattle.my_reading.specs.declared.transaction.Trial.TheVariants as trials
use Rattle.my_reading.specs.declared.transaction.TxStatus.TheVariants.{None}
use Rattle.my_reading.specs.Commands.{queried}
use Rattle.my_reading.specs.Course.{Part, All, Settle, Text, Try, Step, Goes, Returns, asked, clean, course, halt, step_of}
use Rattle.my_reading.specs.Place.{Place, exchanges, terms_of, with_exchange, with_status, with_talk, with_trial, without_end}
use Rattle.my_reading.specs.Told.{Told, ToldReady, ToldError}
use Rattle.my_reading.specs.Transactions.{commit_text}
use Rattle.history_laws.specs.Errors.{errors_in}
use Rattle.history_laws.proofs.Blaming.{calm_blames, is_failed}
use Rattle.history_laws.proofs.Having.{Comes, begun_has, either}
use Rattle.query_laws.specs.Begins.{IsQuery}
use Rattle.query_laws.proofs.Cleaning.{Cleaning, Cleans, clean_fine}
use Rattle.query_laws.proofs.Running.{IsFine, Owns, course_fine, reads_fine}

-- the exchange of the COMMIT, with no ERR so far
pub record IsCommitting (p : Place) : Type 0 where
  pub call_is : p.call ≡ Commit
  pub began : IsQuery commit_text (origin p.talk)
  pub calm : errors_in p.talk ≡ []
  pub fits : Fits p.talk

-- it is over
pub record IsCommitted (p : Place) : Type 0 where
  pub was : IsCommitting p
  pub over : is_over p.talk ≡ true

-- what the call returns
abbrev pub Commits : Place → Told → Type 0
Commits q ToldReady = IsCommitted q
Commits q t = Unit {0}

abbrev commands : List Part
commands = Text commit_text ∷ All ∷ Settle None ∷ []

data IsAt : List Part → Place → Type 0 where
  Tries : (p : Place) → IsAt (Try ∷ clean commands) p
  Before : (parts : List Part) (p : Place) → Cleaning commands parts → IsAt parts p
  Commands : (p : Place) → IsAt commands p
  Awaits : (p : Place) → IsCommitting p → IsAt (All ∷ Settle None ∷ []) p
  Settles : (p : Place) → IsCommitted p → IsAt (Settle None ∷ []) p
  Over : (p : Place) → IsCommitted p → IsAt [] p

module _ (login : Login) where
  abbrev Fine : Step → Type 0
  Fine s = IsFine IsAt Commits s

  fails : (q : Place) (e : Error) → Commits q (ToldError e)
  fails q e = tt

  text_fine : (p : Place) → Fine (step_of login Commit commands p)
  text_fine p =
      let t : Talk = queried (terms_of login (exchanges p)) commit_text in
      begun_has Fine p (λ e _. tt) Commit (All ∷ Settle None ∷ []) t
      (Owns _ _ (Awaits (with_exchange p Commit t) (record { call_is = refl; began = (terms_of login (exchanges p), refl); calm = refl; fits = record { kinds = tt; within = tt } })))

  module _ (p : Place) (w : IsCommitting p) where
    again : (k : Kind) → is_failed k ≡ false → (q rest : List ℕ) → Comes p k q → Fine (Goes (All ∷ Settle None ∷ []) (with_talk p (grow k p.talk q) rest))
    again k calm q rest come =
        let g = grows p.talk k q come.kind_is come.good come.short w.fits in
        Owns _ _ (Awaits _ (record { call_is = w.call_is; began = subst (IsQuery commit_text) (sym g.origin_is) w.began; calm = calm_blames k p.talk q calm ∙ w.calm; fits = g.fits }))

    all_fine : Fine (step_of login Commit (All ∷ Settle None ∷ []) p)
    all_fine = either Fine p.end_left _ _ (λ _. Owns _ _ (Awaits (without_end p) (record { call_is = w.call_is; began = w.began; calm = w.calm; fits = w.fits })))
        (λ _. either Fine (is_over p.talk) _ _ (λ over. Owns _ _ (Settles p (record { was = w; over = over })))
        (λ _. reads_fine login Commit IsAt Commits fails p All (Settle None ∷ []) refl (λ k quiet. again k) again))

  settled : (p : Place) → IsCommitted p → IsCommitted (with_trial trials.Off (with_status None p))
  settled p w = record { was = record { call_is = w.was.call_is; began = w.was.began; calm = w.was.calm; fits = w.was.fits }; over = w.over }

  own_fine : (parts : List Part) (p : Place) → IsAt parts p → Fine (step_of login Commit parts p)
  own_fine parts p (Tries q) = Owns _ (with_trial trials.On q) (Before _ _ Cleans)
  own_fine parts p (Before xs q w) = clean_fine login Commit IsAt Commits fails commands (λ ys r v. Before ys r v) (λ r. Commands r) xs q w
  own_fine parts p (Commands q) = text_fine q
  own_fine parts p (Awaits q w) = all_fine q w
  own_fine parts p (Settles q w) = Owns [] _ (Over _ (settled q w))
  own_fine parts p (Over q w) = w

  pub commit_leaves : (p q : Place) (t : Told) → course login Commit p ≡ halt q (Returns t) → Commits q t
  commit_leaves p q t e = course_fine login Commit IsAt Commits fails own_fine p q t (Owns _ p (Tries p)) e
