-- A call that prepares a statement: one that is cached is returned at once, and for another an exchange begins.
use Rattle.std.proofs.Common.{◌≡◌, ℕ, suc, zero, ◌<◌, ◌≤◌, length, Bool, true, false, cond, Option, Some, None, List, [], ◌∷◌, refl, ap, ◌∙◌, arith}
use Rattle.my_grammar.specs.declared.login.Login.{Login}
use Rattle.my_grammar.specs.declared.spot.Terms.{Terms}
use Rattle.my_grammar.specs.Cut.{is_over}
use Rattle.my_grammar.specs.declared.spot.Kind.TheVariants as kinds
use Rattle.my_grammar.specs.Growth.{grow}
use Rattle.my_grammar.specs.Talk.{Talk}
use Rattle.my_statements.specs.Cache.{Held}
use Rattle.my_reading.specs.declared.call.Call.TheVariants.{Prepare}
use Rattle.my_reading.specs.Commands.{closing, queried}
use Rattle.my_reading.specs.Course.{Part, clean, Command, Find, Reply, Keep, Give, Undo, Back, Step, Goes, Stops, step, step_of, unless_owed, found, looked_for, refused_at, return, returned, undone, failure, with_command, closing_of, enough, run}
use Rattle.my_reading.specs.declared.error.ServerError.{ServerError}
use Rattle.my_reading.specs.declared.transaction.Trial.{Trial}
use Rattle.my_reading.specs.declared.transaction.Trial.TheVariants as trials
use Rattle.my_reading.specs.declared.transaction.TxStatus.TheVariants as txs
use Rattle.my_reading.specs.Errors.{mixed_params, server_error}
use Rattle.my_reading.specs.Facts.{prepared_by}
use Rattle.my_reading.specs.Leads.{Here}
use Rattle.my_reading.specs.Place.{Place, exchanges, facts_at, next_exchange, owed, terms_of, with_exchange, with_statements, with_status, with_talk, with_trial}
use Rattle.my_reading.specs.Statements.{held_in, is_mixed_text, leaving, names_of, query_of, statement_with, with_fetched, with_prepared}
use Rattle.my_reading.specs.Told.{ToldStatement}
use Rattle.my_reading.specs.Transactions.{is_given_up, rollback_text}
use Rattle.my_reading.proofs.Leading.{leads_to_course}
use Rattle.reading_laws.specs.Found.{CachedIsReturned, OthersAreAskedFor}
use Rattle.reading_laws.specs.Kept.{is_answered}
use Rattle.reading_laws.proofs.Phases.{IsRefused, answer_leaves_open}
use Rattle.reading_laws.proofs.Cleaning.{Cleans, Reads, cleans_have}
use Rattle.reading_laws.proofs.Having.{StopsHave, begun_has, either, reads_have}

-- what follows the looking for it
abbrev rest : List Part
rest = clean (Command ∷ Reply ∷ Keep ∷ Give ∷ [])

found_at_once : (login : Login) (text : List ℕ) (p : Place) (h : Held) → owed p ≡ [] → is_mixed_text text ≡ false → held_in p.statements (query_of text) ≡ Some h
    → step login (Prepare text) (Find ∷ rest) p
    ≡ return (with_statements (with_fetched (query_of text) p.statements) p) (ToldStatement (statement_with h.stmt (names_of text)))
unfolding step
found_at_once login text p h none plain there =
    ap (λ x. unless_owed x p (looked_for rest p text)) none
    ∙ (ap (λ b. cond b (failure p mixed_params) (found rest p text (held_in p.statements (query_of text)))) plain
    ∙ ap (λ o. found rest p text o) there)

pub cached_is_returned : CachedIsReturned
cached_is_returned login text p h none plain there =
    leads_to_course login (Prepare text) p (Find ∷ rest) p _ _ (Here (Find ∷ rest) p) (found_at_once login text p h none plain there)

-- n exchanges are there before the command, and more after it
data Asks (text : List ℕ) (n : ℕ) : List Part → Place → Type 0 where
  Looks : (p : Place) → held_in p.statements (query_of text) ≡ None → n ≤ length (exchanges p) → Asks text n (Find ∷ rest) p
  Clears : (parts : List Part) (p : Place) → Cleans (Command ∷ Reply ∷ Keep ∷ Give ∷ []) parts → n ≤ length (exchanges p) → Asks text n parts p
  Sends : (p : Place) → n ≤ length (exchanges p) → Asks text n (Command ∷ Reply ∷ Keep ∷ Give ∷ []) p
  Hears : (p : Place) → n < length (exchanges p) → Asks text n (Reply ∷ Keep ∷ Give ∷ []) p
  Keeps : (p : Place) → n < length (exchanges p) → Asks text n (Keep ∷ Give ∷ []) p
  Gives : (p : Place) → n < length (exchanges p) → Asks text n (Give ∷ []) p
  Reverts : (p : Place) → IsRefused p.trial → Asks text n (Undo ∷ Back ∷ []) p
  Backs : (p : Place) → IsRefused p.trial → Asks text n (Back ∷ []) p

abbrev HasAsked : List ℕ → ℕ → Step → Type 0
HasAsked text n (Goes parts p) = Asks text n parts p
HasAsked text n (Stops p s) = is_answered s ≡ true → n < length (exchanges p)

module _ (login : Login) (text : List ℕ) (n : ℕ) where
  abbrev Has : Step → Type 0
  Has = HasAsked text n

  stops : (p : Place) → StopsHave Has p
  stops p s e h = let open_left = answer_leaves_open s h in absurd (cc)

  refused_has : (trial : Trial) (p : Place) (e : ServerError) → Has (refused_at trial p e)
  refused_has trials.Off p e = λ h. absurd (cc)
  refused_has trials.On p e = Reverts (with_trial (trials.Refused e) (with_status txs.RequiresRollback p)) tt
  refused_has (trials.Refused first) p e = λ h. absurd (cc)

  reverts_have : (p : Place) (b : Bool) → IsRefused p.trial → Has (undone login (Prepare text) (Back ∷ []) p b)
  reverts_have p false r = Backs p r
  reverts_have p true r =
      let t = queried (terms_of login (exchanges p)) rollback_text in
      begun_has Has p (stops p) (Prepare text) (Back ∷ []) t (Backs (with_exchange p (Prepare text) t) r)

  returned_has : (p : Place) (trial : Trial) → IsRefused trial → Has (returned p trial)
  returned_has p (trials.Refused first) r = λ h. absurd (cc)
  returned_has p trials.Off r = absurd r
  returned_has p trials.On r = absurd r

  found_has : (p : Place) (o : Option Held) → o ≡ None → n ≤ length (exchanges p) → Has (found rest p text o)
  found_has p None e low = Clears rest p Reads low
  found_has p (Some h) e low = absurd (cc)

  sent_has : (p : Place) (o : Option Talk) → next_exchange login (Prepare text) p ≡ o → n ≤ length (exchanges p) → Has (with_command (Prepare text) (Reply ∷ Keep ∷ Give ∷ []) p o)
  sent_has p None e low = absurd (cc)
  sent_has p (Some t) e low =
      let more : n < length (exchanges (with_exchange p (Prepare text) t)) = omega (arith, low) in
      begun_has Has p (stops p) (Prepare text) (Reply ∷ Keep ∷ Give ∷ []) t (Hears (with_exchange p (Prepare text) t) more)

  closed_has : (p : Place) (terms : Terms) (o : Option ℕ) → n < length (exchanges p) → Has (with_command (Prepare text) (Give ∷ []) p (closing_of terms o))
  closed_has p terms None low = Gives p low
  closed_has p terms (Some id) low =
      let more : n < length (exchanges (with_exchange p (Prepare text) (closing terms id))) = omega (arith, low) in
      begun_has Has p (stops p) (Prepare text) (Give ∷ []) (closing terms id) (Gives (with_exchange p (Prepare text) (closing terms id)) more)

  clears_have : (parts : List Part) (p : Place) → Cleans (Command ∷ Reply ∷ Keep ∷ Give ∷ []) parts → n ≤ length (exchanges p) → Has (step_of login (Prepare text) parts p)
  clears_have parts p left low = cleans_have login (Prepare text) (Command ∷ Reply ∷ Keep ∷ Give ∷ []) (λ q. n ≤ length (exchanges q)) Has
      (λ q h. stops q)
      (λ more q here h. Clears more q here h)
      (λ q h. Sends q h)
      (λ q k bytes more _ h. h)
      (λ q bytes more x _ h. refused_has q.trial (with_talk q (grow kinds.Failed q.talk bytes) more) (server_error x))
      (λ q h. h)
      (λ q terms h. omega (arith, h))
      (λ q status h. h)
      parts p left low

  part_has : (parts : List Part) (p : Place) → Asks text n parts p → Has (step_of login (Prepare text) parts p)
  part_has parts p (Looks q none low) = either Has (is_mixed_text text) _ _ (λ h. absurd (cc)) (found_has q (held_in q.statements (query_of text)) none low)
  part_has parts p (Clears more q left low) = clears_have more q left low
  part_has parts p (Sends q low) = sent_has q (next_exchange login (Prepare text) q) refl low
  part_has parts p (Hears q low) = either Has (is_over q.talk) _ _ (Keeps q low)
      (reads_have Has q (stops q) login Reply (Keep ∷ Give ∷ []) refl
      (λ k b more _. Hears (with_talk q (grow k q.talk b) more) low) (λ k b more row _. Hears (with_talk q (grow k q.talk b) more) low) (λ b more x. refused_has q.trial (with_talk q (grow kinds.Failed q.talk b) more) (server_error x)))
  part_has parts p (Keeps q low) =
      let f = facts_at login q in
      closed_has (with_statements (with_prepared (query_of text) (prepared_by f) f.reply.fields q.statements) q) (terms_of login (exchanges q))
      (leaving (query_of text) (prepared_by f) q.statements) low
  part_has parts p (Gives q low) = λ _. low
  part_has parts p (Reverts q r) = reverts_have q (is_given_up q.status) r
  part_has parts p (Backs q r) = either Has (is_over q.talk) _ _ (returned_has q q.trial r)
      (reads_have Has q (stops q) login Back [] refl
      (λ k b more _. Backs (with_talk q (grow k q.talk b) more) r) (λ k b more row _. Backs (with_talk q (grow k q.talk b) more) r)
      (λ b more x. refused_has q.trial (with_talk q (grow kinds.Failed q.talk b) more) (server_error x)))

  step_has : (parts : List Part) (p : Place) → Asks text n parts p → Has (step login (Prepare text) parts p)
  unfolding step
  step_has parts p w = by_owed (owed p)
    where
      by_owed : (x : List ℕ) → HasAsked text n (unless_owed x p (step_of login (Prepare text) parts p))
      by_owed (b ∷ bytes) = λ h. absurd (cc)
      by_owed [] = part_has parts p w

  run_has : (most : ℕ) (s : Step) → Has s → is_answered (run most login (Prepare text) s).stop ≡ true → n < length (exchanges (run most login (Prepare text) s).place)
  unfolding run
  run_has zero (Stops p s) w e = w e
  run_has (suc most) (Stops p s) w e = w e
  run_has zero (Goes parts p) w e = absurd (cc)
  run_has (suc most) (Goes parts p) w e = run_has most (step login (Prepare text) parts p) (step_has parts p w) e

pub others_are_asked_for : OthersAreAskedFor
others_are_asked_for login text p none e =
    run_has login text (length (exchanges p)) (enough login (Prepare text) p) (Goes (Find ∷ rest) p) (Looks p none (omega arith)) e
