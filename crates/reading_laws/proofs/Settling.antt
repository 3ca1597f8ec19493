-- A call that makes or cleans a connection or renews its session: where it returns ready, what its parts make known holds.
use Rattle.std.proofs.Common.{◌≡◌, ℕ, suc, zero, Bool, true, false, not, ◌&&◌, cond, List, [], ◌∷◌, refl, ap}
use Rattle.my_grammar.specs.declared.login.Login.{Login}
use Rattle.my_grammar.specs.declared.spot.Kind.TheVariants as kinds
use Rattle.my_grammar.specs.Cut.{is_over}
use Rattle.my_grammar.specs.Growth.{grow}
use Rattle.my_grammar.specs.Talk.{Talk}
use Rattle.my_reading.specs.declared.call.Call.{Call}
use Rattle.my_reading.specs.declared.error.ServerError.{ServerError}
use Rattle.my_reading.specs.declared.transaction.Trial.{Trial}
use Rattle.my_reading.specs.declared.transaction.Trial.TheVariants as trials
use Rattle.my_reading.specs.declared.transaction.TxStatus.TheVariants as txs
use Rattle.my_reading.specs.Accounts.{changed}
use Rattle.my_reading.specs.Commands.{queried}
use Rattle.my_reading.specs.Course.{Part, All, Command, Renew, Clear, Drain, Undo, Undone, GiveUp, Back, Step, Goes, Stops, Returns, enough, parts_of, refused_at, renewing, returned, run, step, step_of, undone, unless_owed}
use Rattle.my_reading.specs.Errors.{server_error}
use Rattle.my_reading.specs.Place.{Place, exchanges, facts_at, next_exchange, owed, terms_of, with_account, with_exchange, with_statements, with_status, with_talk, with_trial, without_end}
use Rattle.my_reading.specs.Statements.{cleared}
use Rattle.my_reading.specs.Told.{ToldReady}
use Rattle.my_reading.specs.Transactions.{given_up, is_given_up, rollback_text, rolled_back}
use Rattle.reading_laws.specs.Cleaned.{Leaves}
use Rattle.reading_laws.specs.Kept.{leaves_open}
use Rattle.reading_laws.proofs.Having.{StopsHave, begun_has, command_has, drains_have, either, reads_have}
use Rattle.reading_laws.proofs.Knowing.{IsCleaning, AreCleaning, Reads, Drains, Undoes, Settles, GivesUp, Commands, Asks, Renews, Adopts, Clears, Known, known, after, after_all, Holds, given_up_is, rolled_back_is}
use Rattle.reading_laws.proofs.Phases.{IsRefused}

-- one of two steps, each with the answer that leads to it
choice : (R : Step → Type 0) (b : Bool) (x y : Step) → (b ≡ true → R x) → (b ≡ false → R y) → R (cond b x y)
choice R true x y v w = v refl
choice R false x y v w = w refl

whole : (over left : Bool) → over ≡ true → left ≡ false → (over && not left) ≡ true
whole true false e f = refl
whole true true e f = absurd (cc)
whole false left e f = absurd (cc)

-- the responses may not be read whole
abbrev unread : Known → Known
unread k = known false k.level k.uncached

module _ (P : Place → Type 0) where
  -- once these parts are done, what is known then shows the property
  abbrev pub Shows : List Part → Known → Type 0
  Shows parts k = (q : Place) → Holds (after_all parts k) q → P q

  -- A call is at these parts, or rolls back a transaction that couldn't be committed, and then doesn't return ready.
  data Phase : List Part → Place → Type 0 where
    Knowing : (parts : List Part) (p : Place) (k : Known) → AreCleaning parts → Holds k p → Shows parts k → Phase parts p
    Reverting : (p : Place) → IsRefused p.trial → Phase (Undo ∷ Back ∷ []) p
    Returning : (p : Place) → IsRefused p.trial → Phase (Back ∷ []) p

  abbrev IsFine : Step → Type 0
  IsFine (Goes parts p) = Phase parts p
  IsFine (Stops p s) = s ≡ Returns ToldReady → P p

  stops : (p : Place) → StopsHave IsFine p
  stops p s e h = let open_left = ap leaves_open h in absurd (cc)

  refused_fine : (trial : Trial) (new : Place) (e : ServerError) → IsFine (refused_at trial new e)
  refused_fine trials.Off new e = λ h. absurd (cc)
  refused_fine trials.On new e = Reverting (with_trial (trials.Refused e) (with_status txs.RequiresRollback new)) tt
  refused_fine (trials.Refused first) new e = λ h. absurd (cc)

  module _ (login : Login) (call : Call) where
    reverting : (p : Place) → IsRefused p.trial → IsFine (step_of login call (Undo ∷ Back ∷ []) p)
    reverting p refused = by_status (is_given_up p.status)
      where
        by_status : (b : Bool) → IsFine (undone login call (Back ∷ []) p b)
        by_status false = Returning p refused
        by_status true =
            let t = queried (terms_of login (exchanges p)) rollback_text in
            begun_has IsFine p (stops p) call (Back ∷ []) t (Returning (with_exchange p call t) refused)

    returned_fine : (p : Place) (trial : Trial) → IsRefused trial → IsFine (returned p trial)
    returned_fine p (trials.Refused first) r = λ h. absurd (cc)
    returned_fine p trials.Off r = absurd r
    returned_fine p trials.On r = absurd r

    returning : (p : Place) → IsRefused p.trial → IsFine (step_of login call (Back ∷ []) p)
    returning p refused = either IsFine (is_over p.talk) _ _ (returned_fine p p.trial refused)
        (reads_have IsFine p (stops p) login Back [] refl
        (λ k q rest _. Returning (with_talk p (grow k p.talk q) rest) refused)
        (λ k q rest row _. Returning (with_talk p (grow k p.talk q) rest) refused)
        (λ q rest e. refused_fine p.trial (with_talk p (grow kinds.Failed p.talk q) rest) (server_error e)))

    module _ (parts : List Part) (p : Place) (k : Known) (left : AreCleaning parts) (h : Holds k p) where
      -- the transaction and the cache are as they were
      more_read : (part : Part) → IsCleaning part → Shows (part ∷ parts) (unread k) → (t : Talk) (rest : List ℕ) → Phase (part ∷ parts) (with_talk p t rest)
      more_read part here shows t rest =
          Knowing (part ∷ parts) (with_talk p t rest) (unread k) (here, left) (record { read = tt; level = h.level; uncached = h.uncached }) shows

      end_passed : (part : Part) → IsCleaning part → Shows (part ∷ parts) (unread k) → Phase (part ∷ parts) (without_end p)
      end_passed part here shows =
          Knowing (part ∷ parts) (without_end p) (unread k) (here, left) (record { read = tt; level = h.level; uncached = h.uncached }) shows

      all_read : p.end_left ≡ false → is_over p.talk ≡ true → Shows parts (known true k.level k.uncached) → Phase parts p
      all_read no_end over shows =
          Knowing parts p (known true k.level k.uncached) left
          (record { read = whole (is_over p.talk) p.end_left over no_end; level = h.level; uncached = h.uncached }) shows

      begun : (t : Talk) → Shows parts (unread k) → Phase parts (with_exchange p call t)
      begun t shows = Knowing parts (with_exchange p call t) (unread k) left (record { read = tt; level = h.level; uncached = h.uncached }) shows

      part_fine : (part : Part) → IsCleaning part → Shows (part ∷ parts) k → IsFine (step_of login call (part ∷ parts) p)
      part_fine All Reads shows = choice IsFine p.end_left _ _ (λ _. end_passed All Reads shows)
          (λ no_end. choice IsFine (is_over p.talk) _ _ (λ over. all_read no_end over shows)
          (λ _. reads_have IsFine p (stops p) login All parts refl
          (λ n q rest _. more_read All Reads shows (grow n p.talk q) rest)
          (λ n q rest row _. more_read All Reads shows (grow n p.talk q) rest)
          (λ q rest e. refused_fine p.trial (with_talk p (grow kinds.Failed p.talk q) rest) (server_error e))))
      part_fine Drain Drains shows = choice IsFine p.end_left _ _ (λ _. end_passed Drain Drains shows)
          (λ no_end. choice IsFine (is_over p.talk) _ _ (λ over. all_read no_end over shows)
          (λ _. drains_have IsFine p (stops p) login parts (λ n q rest. more_read Drain Drains shows (grow n p.talk q) rest)))
      part_fine Undo Undoes shows = by_status (is_given_up p.status)
        where
          by_status : (b : Bool) → IsFine (undone login call parts p b)
          by_status false = Knowing parts p (unread k) left (record { read = tt; level = h.level; uncached = h.uncached }) shows
          by_status true =
              let t = queried (terms_of login (exchanges p)) rollback_text in
              begun_has IsFine p (stops p) call parts t (begun t shows)
      part_fine Undone Settles shows =
          Knowing parts (with_status (rolled_back p.status) p) (after Undone k) left
          (record { read = h.read; level = rolled_back_is k.level p.status h.level; uncached = h.uncached }) shows
      part_fine GiveUp GivesUp shows =
          Knowing parts (with_status (given_up p.status) p) (after GiveUp k) left
          (record { read = h.read; level = given_up_is k.level p.status h.level; uncached = h.uncached }) shows
      part_fine Command Commands shows =
          command_has IsFine p (stops p) call parts (next_exchange login call p)
          (Knowing parts p (unread k) left (record { read = tt; level = h.level; uncached = h.uncached }) shows)
          (λ t _. begun t shows)
      part_fine part (Asks text) shows =
          let t = queried (terms_of login (exchanges p)) text in
          begun_has IsFine p (stops p) call parts t (begun t shows)
      part_fine Renew Renews shows =
          let t = renewing login call p (facts_at login p) in
          begun_has IsFine p (stops p) call parts t (begun t shows)
      part_fine part (Adopts change) shows =
          Knowing parts (with_account (changed change p.account) p) k left (record { read = h.read; level = h.level; uncached = h.uncached }) shows
      part_fine Clear Clears shows =
          Knowing parts (with_statements (cleared p.statements) p) (after Clear k) left
          (record { read = h.read; level = h.level; uncached = refl }) shows

    parts_fine : (parts : List Part) (p : Place) → Phase parts p → IsFine (step_of login call parts p)
    parts_fine parts p (Knowing [] q k left h shows) = λ _. shows q h
    parts_fine parts p (Knowing (part ∷ more) q k left h shows) = part_fine more q k left.1 h part left.0 shows
    parts_fine parts p (Reverting q refused) = reverting q refused
    parts_fine parts p (Returning q refused) = returning q refused

    owed_fine : (bytes : List ℕ) (p : Place) (s : Step) → IsFine s → IsFine (unless_owed bytes p s)
    owed_fine [] p s w = w
    owed_fine (b ∷ bytes) p s w = λ h. absurd (cc)

    run_fine : (n : ℕ) (s : Step) → IsFine s → (run n login call s).stop ≡ Returns ToldReady → P (run n login call s).place
    unfolding run step
    run_fine zero (Stops p s) w e = w e
    run_fine (suc n) (Stops p s) w e = w e
    run_fine zero (Goes parts p) w e = absurd (cc)
    run_fine (suc n) (Goes parts p) w e = run_fine n (step login call parts p) (owed_fine (owed p) p (step_of login call parts p) (parts_fine parts p w)) e

    -- a call of such parts leaves the connection as what is known after them shows
    pub cleaning_leaves : (p : Place) (k : Known) → AreCleaning (parts_of login call) → Holds k p → Shows (parts_of login call) k → Leaves login call P p
    cleaning_leaves p k left h shows e = run_fine (enough login call p) (Goes (parts_of login call) p) (Knowing (parts_of login call) p k left h shows) e
