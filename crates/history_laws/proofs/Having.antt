-- Properties of steps that read a payload or begin an exchange: one has it where each of its outcomes has.
use Rattle.std.proofs.Common.{◌≡◌, ℕ, ◌≤◌, length, nat_lt, Bool, true, false, cond, Option, Some, None, List, ◌∷◌, refl, sym, subst, arith}
use Rattle.my_frame.specs.Front.{Front, Waiting, Broken, Whole}
use Rattle.my_reply.specs.declared.err.ErrPacket.{ErrPacket}
use Rattle.my_reply.specs.ErrPacket.{err_at}
use Rattle.my_reply.specs.declared.replies.PrepareOk.{PrepareOk}
use Rattle.my_reply.specs.Replies.{prepare_ok_at}
use Rattle.my_grammar.proofs.Cutting.Fronts.{takes_whole}
use Rattle.my_grammar.specs.declared.login.Login.{Login}
use Rattle.my_grammar.specs.declared.spot.Kind.{Kind}
use Rattle.my_grammar.specs.declared.spot.Kind.TheVariants as kinds
use Rattle.my_grammar.specs.Contexts.{is_bad}
use Rattle.my_grammar.specs.Cut.{front_of, kind_of}
use Rattle.my_grammar.specs.Growth.{grow}
use Rattle.my_grammar.specs.Talk.{Talk, commands_in, context_of, limit_of, number_of, turns, says, secret_in}
use Rattle.my_reading.specs.declared.call.Call.{Call}
use Rattle.my_frame.specs.declared.fault.CodecFault.TheVariants.{TooLarge}
use Rattle.my_reading.specs.declared.call.CallKind.{CallKind}
use Rattle.my_reading.specs.declared.call.CallKind.TheVariants as callkinds
use Rattle.my_reading.specs.declared.error.Error.{Error}
use Rattle.my_reading.specs.declared.error.Error.TheVariants as errors
use Rattle.my_reading.specs.declared.error.ServerError.{ServerError}
use Rattle.my_reading.specs.Course.{Part, Drain, Awaits, Step, Goes, Stops, failure, with_front, reads, after_payload, after_kind, after_err, dropped_at, failed_at, is_drain, refused_at, unfit, unless_cached, unless_long, with_command, first_above, is_greeting, above}
use Rattle.my_reading.specs.Errors.{server_error, codec_error, invalid_data, unfit_error}
use Rattle.my_reading.specs.Place.{Place, facts_at, with_exchange, with_talk}
use Rattle.my_reading.specs.Rows.{row_of}
use Rattle.my_reading.specs.Statements.{is_cached}
use Rattle.my_reading.specs.Told.{Told, ToldRow, closes_by}
use Rattle.reading_laws.proofs.Unfitting.{unfit_closes}
use Rattle.history_laws.specs.Errors.{with_error}
use Rattle.history_laws.proofs.Blaming.{is_failed}
use Rattle.history_laws.proofs.Growing.{is_quiet}

-- a payload of this kind comes in its place
pub record Comes (p : Place) (k : Kind) (q : List ℕ) : Type 0 where
  pub kind_is : kind_of p.talk q ≡ k
  pub good : is_bad k ≡ false
  pub short : length q ≤ limit_of p.talk

-- the row that a payload is at a place
abbrev pub row_at : Login → Place → List ℕ → Told
row_at login p q = ToldRow (row_of (context_of p.talk).rows (facts_at login p).columns q)

pub either : (R : Step → Type 0) (b : Bool) (x y : Step) → (b ≡ true → R x) → (b ≡ false → R y) → R (cond b x y)
either R true x y v w = v refl
either R false x y v w = w refl

-- an error by which a call closes the connection, and no server's
abbrev pub IsFault : Error → Type 0
IsFault e = closes_by e callkinds.Ping ≡ true

pub fault_closes : (c : CallKind) (e : Error) → IsFault e → closes_by e c ≡ true
fault_closes c (errors.Driver e) is = is
fault_closes c (errors.Server e) is = absurd (cc)
fault_closes c _ is = refl

pub fault_tells_none : (e : Error) (es : List ServerError) → IsFault e → with_error e es ≡ es
fault_tells_none (errors.Server e) es is = absurd (cc)
fault_tells_none _ es is = refl

module _ (R : Step → Type 0) (p : Place) (faults : (e : Error) → IsFault e → R (failure p e)) where
  long_has : (limit : ℕ) (o : Option ℕ) (s : Step) → R s → R (unless_long p limit o s)
  long_has limit None s w = w
  long_has limit (Some n) s w = faults (codec_error (TooLarge n limit)) refl

  pub begun_has : (call : Call) (parts : List Part) (t : Talk) → R (Goes parts (with_exchange p call t)) → R (with_command call parts p (Some t))
  begun_has call parts t w = long_has (limit_of t) (first_above (limit_of t) (commands_in t)) (Goes parts (with_exchange p call t)) w

  pub command_has : (call : Call) (parts : List Part) (o : Option Talk) → R (Goes parts p)
      → ((t : Talk) → o ≡ Some t → R (Goes parts (with_exchange p call t))) → R (with_command call parts p o)
  command_has call parts None w v = w
  command_has call parts (Some t) w v = begun_has call parts t (v t refl)

  err_has : (login : Login) (new : Place) (o : Option ErrPacket) → ((e : ErrPacket) → R (refused_at p.trial new (server_error e))) → R (after_err login p new o)
  err_has login new None refused = faults (invalid_data (facts_at login p).place) refl
  err_has login new (Some e) refused = refused e

  dropped_has : (login : Login) (parts : List Part) (new : Place) (o : Option ErrPacket) → R (Goes (Drain ∷ parts) new) → R (dropped_at login parts p new o)
  dropped_has login parts new None again = faults (invalid_data (facts_at login p).place) refl
  dropped_has login parts new (Some e) again = again

  module _ (login : Login) (part : Part) (parts : List Part) (waits : R (Stops p Awaits))
      (again : (k : Kind) → is_quiet k ≡ true → is_failed k ≡ false → (q rest : List ℕ) → Comes p k q → R (Goes (part ∷ parts) (with_talk p (grow k p.talk q) rest)))
      (other : (k : Kind) → is_failed k ≡ false → (q rest : List ℕ) → Comes p k q → R (after_kind part parts k (with_talk p (grow k p.talk q) rest) (row_at login p q)))
      (failed : (q rest : List ℕ) → Comes p kinds.Failed q → (o : Option ErrPacket) → err_at (is_greeting (context_of p.talk).spot) q ≡ o
      → R (failed_at login part parts p (with_talk p (grow kinds.Failed p.talk q) rest) o)) where
    head_has : (q rest : List ℕ) (params columns : ℕ) → Comes p (kinds.Prepared params columns) q → (o : Option PrepareOk)
        → R (unless_cached login p o (Goes (part ∷ parts) (with_talk p (grow (kinds.Prepared params columns) p.talk q) rest)))
    head_has q rest params columns c None = again (kinds.Prepared params columns) refl refl q rest c
    head_has q rest params columns c (Some ok) = either R (is_cached p.statements ok.id) _ _ (λ _. faults (invalid_data (facts_at login p).place) refl) (λ _. again (kinds.Prepared params columns) refl refl q rest c)

    payload_has : (q rest : List ℕ) (k : Kind) → kind_of p.talk q ≡ k → length q ≤ limit_of p.talk → R (after_payload login part parts p (with_talk p (grow k p.talk q) rest) q k)
    payload_has q rest kinds.Bad e l = faults _ (unfit_closes callkinds.Ping (context_of p.talk).spot q (facts_at login p).place)
    payload_has q rest kinds.Failed e l = failed q rest (record { kind_is = e; good = refl; short = l }) (err_at (is_greeting (context_of p.talk).spot) q) refl
    payload_has q rest (kinds.Greets n) e l = long_has (limit_of p.talk) (above (limit_of p.talk) (says login (secret_in p.talk) (kinds.Greets n) q)) _
        (again (kinds.Greets n) refl refl q rest (record { kind_is = e; good = refl; short = l }))
    payload_has q rest (kinds.Asks n) e l = long_has (limit_of p.talk) (above (limit_of p.talk) (says login (secret_in p.talk) (kinds.Asks n) q)) _
        (again (kinds.Asks n) refl refl q rest (record { kind_is = e; good = refl; short = l }))
    payload_has q rest (kinds.Prepared params columns) e l = head_has q rest params columns (record { kind_is = e; good = refl; short = l }) (prepare_ok_at q)
    payload_has q rest k e l = other k refl q rest (record { kind_is = e; good = refl; short = l })

    front_has : (x : Front) → front_of p.talk p.unread ≡ x → R (with_front login part parts p x)
    front_has Waiting e = waits
    front_has (Broken fault) e = faults (codec_error fault) refl
    front_has (Whole q rest next) e =
        let taken = takes_whole (number_of (turns p.talk)) (limit_of p.talk) p.unread q rest next e in
        payload_has q rest (kind_of p.talk q) refl (omega (arith, taken.within))

    payloads_have : R (reads login part parts p)
    payloads_have = front_has (front_of p.talk p.unread) refl

  -- of a part that drops no ERR, and of the one that does
  pub reads_have : (login : Login) (part : Part) (parts : List Part) → is_drain part ≡ false → R (Stops p Awaits)
      → ((k : Kind) → is_quiet k ≡ true → (q rest : List ℕ) → Comes p k q → R (Goes (part ∷ parts) (with_talk p (grow k p.talk q) rest)))
      → ((k : Kind) (q rest : List ℕ) → Comes p k q → R (after_kind part parts k (with_talk p (grow k p.talk q) rest) (row_at login p q)))
      → ((q rest : List ℕ) → Comes p kinds.Failed q → (e : ErrPacket) → R (refused_at p.trial (with_talk p (grow kinds.Failed p.talk q) rest) (server_error e)))
      → R (reads login part parts p)
  reads_have login part parts tells waits again other refused = payloads_have login part parts waits (λ k quiet calm q rest c. again k quiet q rest c) (λ k calm q rest c. other k q rest c)
      (λ q rest c o is.
      let new = with_talk p (grow kinds.Failed p.talk q) rest in
      subst (λ b. R (cond b (dropped_at login parts p new o) (after_err login p new o))) (sym tells) (err_has login new o (λ e. refused q rest c e)))

  pub drains_have : (login : Login) (parts : List Part) → R (Stops p Awaits) → ((k : Kind) (q rest : List ℕ) → Comes p k q → R (Goes (Drain ∷ parts) (with_talk p (grow k p.talk q) rest)))
      → R (reads login Drain parts p)
  drains_have login parts waits again = payloads_have login Drain parts waits (λ k quiet calm q rest c. again k q rest c) (λ k calm q rest c. again k q rest c)
      (λ q rest c o is. dropped_has login parts (with_talk p (grow kinds.Failed p.talk q) rest) o (again kinds.Failed q rest c))

  -- where an ERR is looked at
  pub errors_have : (login : Login) (part : Part) (parts : List Part) → R (Stops p Awaits)
      → ((k : Kind) → is_failed k ≡ false → (q rest : List ℕ) → Comes p k q → R (Goes (part ∷ parts) (with_talk p (grow k p.talk q) rest)))
      → ((k : Kind) → is_failed k ≡ false → (q rest : List ℕ) → Comes p k q → R (after_kind part parts k (with_talk p (grow k p.talk q) rest) (row_at login p q)))
      → ((q rest : List ℕ) → Comes p kinds.Failed q → (e : ErrPacket) → err_at (is_greeting (context_of p.talk).spot) q ≡ Some e
      → R (cond (is_drain part) (Goes (Drain ∷ parts) (with_talk p (grow kinds.Failed p.talk q) rest)) (refused_at p.trial (with_talk p (grow kinds.Failed p.talk q) rest) (server_error e))))
      → R (reads login part parts p)
  errors_have login part parts waits again other failed = payloads_have login part parts waits (λ k quiet calm q rest c. again k calm q rest c) other by_error
    where
      by_error : (q rest : List ℕ) → Comes p kinds.Failed q → (o : Option ErrPacket) → err_at (is_greeting (context_of p.talk).spot) q ≡ o
          → R (failed_at login part parts p (with_talk p (grow kinds.Failed p.talk q) rest) o)
      by_error q rest c None is = by_drain (is_drain part)
        where
          by_drain : (b : Bool) → R (cond b (unfit login p) (unfit login p))
          by_drain true = faults (invalid_data (facts_at login p).place) refl
          by_drain false = faults (invalid_data (facts_at login p).place) refl
      by_error q rest c (Some e) is = failed q rest c e is
