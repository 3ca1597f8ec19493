-- What holds of each step of a call holds of what it comes to. A commit that was refused is rolled back, and never returns ready.
use Rattle.std.proofs.Common.{◌≡◌, ℕ, suc, zero, List, [], ◌∷◌, length, nat_lt, ◌≤◌, Bool, true, false, cond, Option, Some, None, refl, sym, subst, arith}
use Rattle.my_frame.specs.Front.{Front, Waiting, Broken, Whole}
use Rattle.my_reply.specs.declared.err.ErrPacket.{ErrPacket}
use Rattle.my_reply.specs.ErrPacket.{err_at}
use Rattle.my_reply.specs.declared.replies.PrepareOk.{PrepareOk}
use Rattle.my_reply.specs.Replies.{prepare_ok_at}
use Rattle.my_grammar.proofs.Cutting.Fronts.{takes_whole}
use Rattle.my_grammar.specs.declared.login.Login.{Login}
use Rattle.my_grammar.specs.declared.spot.Kind.{Kind}
use Rattle.my_grammar.specs.declared.spot.Kind.TheVariants as kinds
use Rattle.my_grammar.specs.Cut.{front_of, is_over, kind_of}
use Rattle.my_grammar.specs.Growth.{grow}
use Rattle.my_grammar.specs.Talk.{Talk, context_of, limit_of, number_of, turns, says, secret_in}
use Rattle.my_reading.specs.declared.call.Call.{Call}
use Rattle.my_reading.specs.declared.error.Error.{Error}
use Rattle.my_reading.specs.declared.error.ServerError.{ServerError}
use Rattle.my_reading.specs.declared.transaction.Trial.{Trial}
use Rattle.my_reading.specs.declared.transaction.Trial.TheVariants as trials
use Rattle.my_reading.specs.Commands.{queried}
use Rattle.my_reading.specs.Course.{Part, Undo, Back, Step, Goes, Stops, Stop, Owes, Awaits, Returns, Halt, after_err, after_kind, after_payload, course, dropped_at, enough, failed_at, is_greeting, reads, unless_cached, with_front, halt, is_drain, parts_of, refused_at, returned, run, step, step_of, undone, unless_owed, above, unless_long}
use Rattle.my_reading.specs.Place.{Place, exchanges, owed, terms_of, with_exchange, with_talk}
use Rattle.my_reading.specs.Statements.{is_cached}
use Rattle.my_reading.specs.Told.{Told, ToldError}
use Rattle.my_reading.specs.Transactions.{is_given_up, rollback_text}
use Rattle.history_laws.proofs.Blaming.{is_failed}
use Rattle.history_laws.proofs.Growing.{is_quiet}
use Rattle.history_laws.proofs.Having.{Comes, begun_has, either, row_at}

-- the parts that are left of a commit that was refused
abbrev pub is_back : List Part → Bool
is_back (Undo ∷ Back ∷ []) = true
is_back (Back ∷ []) = true
is_back parts = false

-- where a call is: in parts of its own, or in those
pub data Phase (Own : List Part → Place → Type 0) : List Part → Place → Type 0 where
  Owns : (parts : List Part) (p : Place) → Own parts p → Phase Own parts p
  Backs : (parts : List Part) (p : Place) (first : ServerError) → is_back parts ≡ true → p.trial ≡ trials.Refused first → Phase Own parts p

-- a stop, of which this holds where it returns
abbrev pub IsStopped : (Place → Told → Type 0) → Place → Stop → Type 0
IsStopped Q q Owes = Unit {0}
IsStopped Q q Awaits = Unit {0}
IsStopped Q q (Returns t) = Q q t

abbrev pub IsFine : (List Part → Place → Type 0) → (Place → Told → Type 0) → Step → Type 0
IsFine Own Q (Goes parts q) = Phase Own parts q
IsFine Own Q (Stops q s) = IsStopped Q q s

module _ (login : Login) (c : Call) (Own : List Part → Place → Type 0) (Q : Place → Told → Type 0) (fails : (q : Place) (e : Error) → Q q (ToldError e)) where
  -- an ERR
  pub refused_fine : (x : Trial) (new : Place) (e : ServerError) → IsFine Own Q (refused_at x new e)
  refused_fine trials.Off new e = fails _ _
  refused_fine trials.On new e = Backs (Undo ∷ Back ∷ []) _ e refl refl
  refused_fine (trials.Refused first) new e = fails _ _

  pub failed_fine : (part : Part) (parts : List Part) (p new : Place) (o : Option ErrPacket) → is_drain part ≡ false → IsFine Own Q (failed_at login part parts p new o)
  failed_fine part parts p new o other = subst (λ b. IsFine Own Q (cond b (dropped_at login parts p new o) (after_err login p new o))) (sym other) (by_error o)
    where
      by_error : (o : Option ErrPacket) → IsFine Own Q (after_err login p new o)
      by_error None = fails _ _
      by_error (Some e) = refused_fine p.trial new _

  -- a payload is read: one that is no row, end, OK or ERR leaves the part to be done, as far as the part looks at it
  module _ (p : Place) (part : Part) (parts : List Part) (other : is_drain part ≡ false)
      (again : (k : Kind) → is_quiet k ≡ true → is_failed k ≡ false → (q rest : List ℕ) → Comes p k q → IsFine Own Q (Goes (part ∷ parts) (with_talk p (grow k p.talk q) rest)))
      (after : (k : Kind) → is_failed k ≡ false → (q rest : List ℕ) → Comes p k q → IsFine Own Q (after_kind part parts k (with_talk p (grow k p.talk q) rest) (row_at login p q))) where
    head_fine : (q rest : List ℕ) (params columns : ℕ) → Comes p (kinds.Prepared params columns) q → (o : Option PrepareOk)
        → IsFine Own Q (unless_cached login p o (Goes (part ∷ parts) (with_talk p (grow (kinds.Prepared params columns) p.talk q) rest)))
    head_fine q rest params columns come None = again (kinds.Prepared params columns) refl refl q rest come
    head_fine q rest params columns come (Some ok) = either (IsFine Own Q) (is_cached p.statements ok.id) _ _ (λ _. fails _ _) (λ _. again (kinds.Prepared params columns) refl refl q rest come)

    said_fine : (k : Kind) → is_quiet k ≡ true → is_failed k ≡ false → (q rest : List ℕ) → Comes p k q → (o : Option ℕ)
        → IsFine Own Q (unless_long p (limit_of p.talk) o (Goes (part ∷ parts) (with_talk p (grow k p.talk q) rest)))
    said_fine k quiet calm q rest come None = again k quiet calm q rest come
    said_fine k quiet calm q rest come (Some len) = fails _ _

    payload_fine : (q rest : List ℕ) (k : Kind) → kind_of p.talk q ≡ k → length q ≤ limit_of p.talk → IsFine Own Q (after_payload login part parts p (with_talk p (grow k p.talk q) rest) q k)
    payload_fine q rest kinds.Bad e l = fails _ _
    payload_fine q rest kinds.Failed e l = failed_fine part parts p _ (err_at (is_greeting (context_of p.talk).spot) q) other
    payload_fine q rest (kinds.Greets n) e l = said_fine (kinds.Greets n) refl refl q rest (record { kind_is = e; good = refl; short = l }) (above (limit_of p.talk) (says login (secret_in p.talk) (kinds.Greets n) q))
    payload_fine q rest (kinds.Asks n) e l = said_fine (kinds.Asks n) refl refl q rest (record { kind_is = e; good = refl; short = l }) (above (limit_of p.talk) (says login (secret_in p.talk) (kinds.Asks n) q))
    payload_fine q rest (kinds.Prepared params columns) e l = head_fine q rest params columns (record { kind_is = e; good = refl; short = l }) (prepare_ok_at q)
    payload_fine q rest k e l = after k refl q rest (record { kind_is = e; good = refl; short = l })

    front_fine : (x : Front) → front_of p.talk p.unread ≡ x → IsFine Own Q (with_front login part parts p x)
    front_fine Waiting e = tt
    front_fine (Broken fault) e = fails _ _
    front_fine (Whole q rest next) e =
        let taken = takes_whole (number_of (turns p.talk)) (limit_of p.talk) p.unread q rest next e in
        payload_fine q rest (kind_of p.talk q) refl (omega (arith, taken.within))

    pub reads_fine : IsFine Own Q (reads login part parts p)
    reads_fine = front_fine (front_of p.talk p.unread) refl

  undoing_fine : (first : ServerError) (p : Place) (b : Bool) → p.trial ≡ trials.Refused first → IsFine Own Q (undone login c (Back ∷ []) p b)
  undoing_fine first p true is =
      begun_has (IsFine Own Q) p (λ e _. fails _ _) c (Back ∷ []) (queried (terms_of login (exchanges p)) rollback_text)
      (Backs (Back ∷ []) (with_exchange p c (queried (terms_of login (exchanges p)) rollback_text)) first refl is)
  undoing_fine first p false is = Backs (Back ∷ []) p first refl is

  back_stays : (first : ServerError) (p : Place) → p.trial ≡ trials.Refused first → (k : Kind) (q rest : List ℕ) → Comes p k q → IsFine Own Q (Goes (Back ∷ []) (with_talk p (grow k p.talk q) rest))
  back_stays first p is k q rest come = Backs (Back ∷ []) (with_talk p (grow k p.talk q) rest) first refl is

  returned_fine : (first : ServerError) (x : Trial) (p : Place) → x ≡ trials.Refused first → IsFine Own Q (returned p x)
  returned_fine first x p is = subst (λ (y : Trial). IsFine Own Q (returned p y)) (sym is) (fails _ _)

  back_fine : (parts : List Part) (p : Place) (first : ServerError) → is_back parts ≡ true → p.trial ≡ trials.Refused first → IsFine Own Q (step_of login c parts p)
  back_fine (Undo ∷ Back ∷ []) p first e is = undoing_fine first p (is_given_up p.status) is
  back_fine (Back ∷ []) p first e is = either (IsFine Own Q) (is_over p.talk) _ _ (λ over. returned_fine first p.trial p is)
      (λ _. reads_fine p Back [] refl (λ k quiet calm. back_stays first p is k) (λ k calm. back_stays first p is k))
  back_fine parts p first e is = absurd (cc)

  -- each step of its own parts
  module _ (own_fine : (parts : List Part) (p : Place) → Own parts p → IsFine Own Q (step_of login c parts p)) where
    phase_fine : (parts : List Part) (p : Place) → Phase Own parts p → IsFine Own Q (step_of login c parts p)
    phase_fine parts p (Owns xs q w) = own_fine xs q w
    phase_fine parts p (Backs xs q first e is) = back_fine xs q first e is

    step_fine : (parts : List Part) (p : Place) → Phase Own parts p → IsFine Own Q (step login c parts p)
    unfolding step
    step_fine parts p w = by_owed (owed p)
      where
        by_owed : (x : List ℕ) → IsFine Own Q (unless_owed x p (step_of login c parts p))
        by_owed (b ∷ bytes) = tt
        by_owed [] = phase_fine parts p w

    run_fine : (n : ℕ) (s : Step) → IsFine Own Q s → IsStopped Q (run n login c s).place (run n login c s).stop
    unfolding run
    run_fine zero (Stops p s) w = w
    run_fine (suc n) (Stops p s) w = w
    run_fine zero (Goes parts p) w = tt
    run_fine (suc n) (Goes parts p) w = run_fine n (step login c parts p) (step_fine parts p w)

    -- what the call returns
    pub course_fine : (p q : Place) (t : Told) → Phase Own (parts_of login c) p → course login c p ≡ halt q (Returns t) → Q q t
    course_fine p q t w e = subst (λ (h : Halt). IsStopped Q h.place h.stop) e (run_fine (enough login c p) (Goes (parts_of login c) p) w)
