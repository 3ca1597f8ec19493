-- A call whose transaction couldn't be committed: it is rolled back, and the call returns why.
use Rattle.std.proofs.Common.{◌≡◌, ℕ, Bool, true, false, List, [], ◌∷◌, refl}
use Rattle.my_grammar.specs.declared.login.Login.{Login}
use Rattle.my_grammar.specs.declared.spot.Kind.{Kind}
use Rattle.my_grammar.specs.declared.spot.Kind.TheVariants as kinds
use Rattle.my_grammar.specs.Cut.{is_over}
use Rattle.my_grammar.specs.Growth.{grow}
use Rattle.my_reading.specs.declared.call.Call.{Call}
use Rattle.my_reading.specs.declared.error.ServerError.{ServerError}
use Rattle.my_reading.specs.declared.transaction.Trial.{Trial}
use Rattle.my_reading.specs.declared.transaction.Trial.TheVariants as trials
use Rattle.my_reading.specs.declared.transaction.TxStatus.TheVariants as txs
use Rattle.my_reading.specs.Commands.{queried}
use Rattle.my_reading.specs.Course.{Undo, Back, refused_at, returned, step_of, undone}
use Rattle.my_reading.specs.Errors.{server_error}
use Rattle.my_reading.specs.Place.{Place, exchanges, terms_of, with_exchange, with_status, with_talk, with_trial}
use Rattle.my_reading.specs.Transactions.{is_given_up, rollback_text}
use Rattle.reading_laws.proofs.Having.{begun_has, either, awaited_have}
use Rattle.reading_laws.proofs.Holding.{grown_holds, opened_holds}
use Rattle.reading_laws.proofs.Phases.{IsFine, IsRefused, Unanswered, Reverting, Returning, stopped_fine}

-- after an ERR, where all is kept
pub refused_fine : (call : Call) (trial : Trial) (new : Place) (e : ServerError) → Unanswered call new → IsFine call (refused_at trial new e)
refused_fine call trials.Off new e w = λ s. w _ refl s
refused_fine call trials.On new e w = Reverting call (with_trial (trials.Refused e) (with_status txs.RequiresRollback new)) tt w
refused_fine call (trials.Refused first) new e w = λ s. w _ refl s

module _ (login : Login) (call : Call) (p : Place) (refused : IsRefused p.trial) (w : Unanswered call p) where
  pub reverting : IsFine call (step_of login call (Undo ∷ Back ∷ []) p)
  reverting = by_status (is_given_up p.status)
    where
      by_status : (b : Bool) → IsFine call (undone login call (Back ∷ []) p b)
      by_status false = Returning call p refused w
      by_status true =
          let t = queried (terms_of login (exchanges p)) rollback_text in
          begun_has (IsFine call) p (stopped_fine call (Back ∷ []) p (Returning call p refused w)) call (Back ∷ []) t
          (Returning call (with_exchange p call t) refused (λ s a e. opened_holds (λ i. ⊥) p call t refl refl (w s a e)))

  returned_fine : (trial : Trial) → IsRefused trial → IsFine call (returned p trial)
  returned_fine (trials.Refused first) r = λ s. w _ refl s
  returned_fine trials.Off r = absurd r
  returned_fine trials.On r = absurd r

  grown : (k : Kind) (q rest : List ℕ) → is_over p.talk ≡ false → Unanswered call (with_talk p (grow k p.talk q) rest)
  grown k q rest awaited = λ s a e. grown_holds (λ i. ⊥) p k q rest awaited (w s a e)

  pub returning : IsFine call (step_of login call (Back ∷ []) p)
  returning = either (IsFine call) (is_over p.talk) _ _ (returned_fine p.trial refused)
      (awaited_have (IsFine call) p (stopped_fine call (Back ∷ []) p (Returning call p refused w)) login Back [] refl
      (λ k q rest c. Returning call (with_talk p (grow k p.talk q) rest) refused (grown k q rest c.awaited))
      (λ k q rest row c. Returning call (with_talk p (grow k p.talk q) rest) refused (grown k q rest c.awaited))
      (λ q rest e awaited. refused_fine call p.trial (with_talk p (grow kinds.Failed p.talk q) rest) (server_error e) (grown kinds.Failed q rest awaited)))
