-- Properties of steps: what begins an exchange or reads a payload has one where each of its outcomes has.
use Rattle.std.proofs.Common.{◌≡◌, ℕ, Bool, true, false, cond, not, Option, Some, None, IfSome, List, ◌∷◌, refl, sym, subst, ap}
use Rattle.my_frame.specs.Front.{Front, Waiting, Broken, Whole}
use Rattle.my_flags.specs.Sets.{deprecates_eof}
use Rattle.my_reply.specs.declared.column.Column.{Column}
use Rattle.my_reply.specs.declared.err.ErrPacket.{ErrPacket}
use Rattle.my_reply.specs.ErrPacket.{err_at}
use Rattle.my_reply.specs.declared.replies.PrepareOk.{PrepareOk}
use Rattle.my_reply.specs.Replies.{prepare_ok_at}
use Rattle.my_grammar.specs.declared.login.Login.{Login}
use Rattle.my_grammar.specs.declared.spot.Kind.{Kind}
use Rattle.my_grammar.specs.declared.spot.Kind.TheVariants as kinds
use Rattle.my_grammar.specs.declared.spot.Context.{Context}
use Rattle.my_grammar.specs.declared.spot.RowFormat.{RowFormat}
use Rattle.my_grammar.specs.declared.spot.Spot.{Spot}
use Rattle.my_grammar.specs.declared.spot.Spot.TheVariants as spots
use Rattle.my_grammar.specs.Contexts.{is_bad}
use Rattle.my_grammar.specs.Cut.{front_of, is_idle, is_over, kind_of}
use Rattle.my_grammar.specs.Growth.{grow}
use Rattle.my_grammar.specs.Kinds.{kind_by}
use Rattle.my_grammar.specs.Talk.{Talk, commands_in, context_of, described, limit_of, says, secret_in}
use Rattle.my_grammar.proofs.Growth.SetGrowth.{none}
use Rattle.my_reading.specs.declared.call.Call.{Call}
use Rattle.my_reading.specs.Course.{Part, Drain, Stop, Awaits, Step, Goes, Stops, with_front, reads, after_payload, after_kind, after_err, dropped_at, failed_at, is_drain, refused_at, unfit, unless_cached, unless_long, with_command, first_above, is_greeting, above}
use Rattle.my_reading.specs.Errors.{server_error}
use Rattle.my_reading.specs.declared.call.CallKind.TheVariants.{Prepare}
use Rattle.my_reading.specs.Place.{Place, facts_at, with_exchange, with_talk}
use Rattle.my_reading.specs.Statements.{is_cached}
use Rattle.my_reading.specs.Told.{Told}
use Rattle.reading_laws.specs.Kept.{leaves_open}
use Rattle.reading_laws.proofs.Talks.{ComesFresh, is_failed}
use Rattle.reading_laws.proofs.Unfitting.{unfit_closes}

-- a property of steps that each stop at a place has by which a call that prepares a statement closes the session, or is left open
abbrev pub StopsHave : (Step → Type 0) → Place → Type 0
StopsHave R p = (s : Stop) → leaves_open s ≡ false → R (Stops p s)

-- A payload of this kind comes in its place: it is no ERR, and a head of a statement has the id of none that is cached.
pub record Comes (p : Place) (k : Kind) (q : List ℕ) : Type 0 where
  pub kind_is : kind_of p.talk q ≡ k
  pub fits : is_bad k ≡ false
  pub good : is_failed k ≡ false
  pub fresh : ComesFresh (λ ok. is_cached p.statements ok.id ≡ false) k q
  pub awaited : is_over p.talk ≡ false

-- a payload fits only where one is awaited
spot_awaits : (s : Spot) (rows : RowFormat) (d : Bool) (n : ℕ) (cs : List Column) (q : List ℕ) (k : Kind) → kind_by s rows d n cs q ≡ k → is_bad k ≡ false → is_idle s ≡ false
spot_awaits spots.Idle rows d n cs q k e fits = absurd (none k e fits)
spot_awaits _ rows d n cs q k e fits = refl

awaits : (t : Talk) (q : List ℕ) (k : Kind) → kind_of t q ≡ k → is_bad k ≡ false → is_over t ≡ false
awaits t q k e fits = let c : Context = context_of t in spot_awaits c.spot c.rows (deprecates_eof c.terms.kept) c.columns (described t) q k e fits

pub either : (R : Step → Type 0) (b : Bool) (x y : Step) → R x → R y → R (cond b x y)
either R true x y v w = v
either R false x y v w = w

module _ (R : Step → Type 0) (p : Place) (stops : StopsHave R p) where
  -- what is asked for begins, unless it is above the limit
  long_has : (limit : ℕ) (o : Option ℕ) (s : Step) → R s → R (unless_long p limit o s)
  long_has limit None s w = w
  long_has limit (Some n) s w = stops _ refl

  pub begun_has : (call : Call) (parts : List Part) (t : Talk) → R (Goes parts (with_exchange p call t)) → R (with_command call parts p (Some t))
  begun_has call parts t w = long_has (limit_of t) (first_above (limit_of t) (commands_in t)) (Goes parts (with_exchange p call t)) w

  pub command_has : (call : Call) (parts : List Part) (o : Option Talk) → R (Goes parts p)
      → ((t : Talk) → o ≡ Some t → R (Goes parts (with_exchange p call t))) → R (with_command call parts p o)
  command_has call parts None w v = w
  command_has call parts (Some t) w v = begun_has call parts t (v t refl)

  -- after an ERR, and where one is dropped
  err_has : (login : Login) (new : Place) (o : Option ErrPacket) → ((e : ErrPacket) → R (refused_at p.trial new (server_error e))) → R (after_err login p new o)
  err_has login new None refused = stops _ refl
  err_has login new (Some e) refused = refused e

  dropped_has : (login : Login) (parts : List Part) (new : Place) (o : Option ErrPacket) → R (Goes (Drain ∷ parts) new) → R (dropped_at login parts p new o)
  dropped_has login parts new None again = stops _ refl
  dropped_has login parts new (Some e) again = again

  -- where each payload more has the property, reading has it
  module _ (login : Login) (part : Part) (parts : List Part)
      (again : (k : Kind) (q rest : List ℕ) → Comes p k q → R (Goes (part ∷ parts) (with_talk p (grow k p.talk q) rest)))
      (other : (k : Kind) (q rest : List ℕ) (row : Told) → Comes p k q → R (after_kind part parts k (with_talk p (grow k p.talk q) rest) row))
      (failed : (q rest : List ℕ) → is_over p.talk ≡ false → (o : Option ErrPacket) → R (failed_at login part parts p (with_talk p (grow kinds.Failed p.talk q) rest) o)) where
    head_has : (q rest : List ℕ) (params columns : ℕ) → kind_of p.talk q ≡ kinds.Prepared params columns → (o : Option PrepareOk) → prepare_ok_at q ≡ o
        → R (unless_cached login p o (Goes (part ∷ parts) (with_talk p (grow (kinds.Prepared params columns) p.talk q) rest)))
    head_has q rest params columns i None e =
        again (kinds.Prepared params columns) q rest (record { kind_is = i; fits = refl; good = refl; fresh = subst (λ o. IfSome o (λ ok. is_cached p.statements ok.id ≡ false)) (sym e) tt; awaited = awaits p.talk q (kinds.Prepared params columns) i refl })
    head_has q rest params columns i (Some ok) e =
        by_id (λ f. again (kinds.Prepared params columns) q rest (record { kind_is = i; fits = refl; good = refl; fresh = f; awaited = awaits p.talk q (kinds.Prepared params columns) i refl })) (is_cached p.statements ok.id) refl
      where
        by_id : (IfSome (prepare_ok_at q) (λ ok. is_cached p.statements ok.id ≡ false) → R (Goes (part ∷ parts) (with_talk p (grow (kinds.Prepared params columns) p.talk q) rest)))
            → (b : Bool) → is_cached p.statements ok.id ≡ b
            → R (cond b (unfit login p) (Goes (part ∷ parts) (with_talk p (grow (kinds.Prepared params columns) p.talk q) rest)))
        by_id go true i = stops _ refl
        by_id go false i = go (subst (λ o. IfSome o (λ ok. is_cached p.statements ok.id ≡ false)) (sym e) i)

    payload_has : (q rest : List ℕ) (k : Kind) → kind_of p.talk q ≡ k → R (after_payload login part parts p (with_talk p (grow k p.talk q) rest) q k)
    payload_has q rest kinds.Bad e = stops _ (ap not (unfit_closes Prepare (context_of p.talk).spot q (facts_at login p).place))
    payload_has q rest kinds.Failed e = failed q rest (awaits p.talk q kinds.Failed e refl) (err_at (is_greeting (context_of p.talk).spot) q)
    payload_has q rest (kinds.Greets n) e = long_has (limit_of p.talk) (above (limit_of p.talk) (says login (secret_in p.talk) (kinds.Greets n) q)) _
        (again (kinds.Greets n) q rest (record { kind_is = e; fits = refl; good = refl; fresh = tt; awaited = awaits p.talk q (kinds.Greets n) e refl }))
    payload_has q rest (kinds.Asks n) e = long_has (limit_of p.talk) (above (limit_of p.talk) (says login (secret_in p.talk) (kinds.Asks n) q)) _
        (again (kinds.Asks n) q rest (record { kind_is = e; fits = refl; good = refl; fresh = tt; awaited = awaits p.talk q (kinds.Asks n) e refl }))
    payload_has q rest (kinds.Prepared params columns) e = head_has q rest params columns e (prepare_ok_at q) refl
    payload_has q rest k e = other k q rest _ (record { kind_is = e; fits = refl; good = refl; fresh = tt; awaited = awaits p.talk q k e refl })

    front_has : (x : Front) → R (with_front login part parts p x)
    front_has Waiting = stops Awaits refl
    front_has (Broken fault) = stops _ refl
    front_has (Whole q rest next) = payload_has q rest (kind_of p.talk q) refl

    payloads_have : R (reads login part parts p)
    payloads_have = front_has (front_of p.talk p.unread)

  -- of a part that drops no ERR, and of the one that does
  pub awaited_have : (login : Login) (part : Part) (parts : List Part) → is_drain part ≡ false
      → ((k : Kind) (q rest : List ℕ) → Comes p k q → R (Goes (part ∷ parts) (with_talk p (grow k p.talk q) rest)))
      → ((k : Kind) (q rest : List ℕ) (row : Told) → Comes p k q → R (after_kind part parts k (with_talk p (grow k p.talk q) rest) row))
      → ((q rest : List ℕ) (e : ErrPacket) → is_over p.talk ≡ false → R (refused_at p.trial (with_talk p (grow kinds.Failed p.talk q) rest) (server_error e)))
      → R (reads login part parts p)
  awaited_have login part parts tells again other refused = payloads_have login part parts again other
      (λ q rest awaited o.
      let new = with_talk p (grow kinds.Failed p.talk q) rest in
      subst (λ b. R (cond b (dropped_at login parts p new o) (after_err login p new o))) (sym tells) (err_has login new o (λ e. refused q rest e awaited)))

  pub awaited_drains_have : (login : Login) (parts : List Part) → ((k : Kind) (q rest : List ℕ) → is_over p.talk ≡ false → R (Goes (Drain ∷ parts) (with_talk p (grow k p.talk q) rest)))
      → R (reads login Drain parts p)
  awaited_drains_have login parts again = payloads_have login Drain parts (λ k q rest c. again k q rest c.awaited) (λ k q rest row c. again k q rest c.awaited)
      (λ q rest awaited o. dropped_has login parts (with_talk p (grow kinds.Failed p.talk q) rest) o (again kinds.Failed q rest awaited))

  -- the same, where it doesn't matter that the payload was awaited
  pub reads_have : (login : Login) (part : Part) (parts : List Part) → is_drain part ≡ false
      → ((k : Kind) (q rest : List ℕ) → Comes p k q → R (Goes (part ∷ parts) (with_talk p (grow k p.talk q) rest)))
      → ((k : Kind) (q rest : List ℕ) (row : Told) → Comes p k q → R (after_kind part parts k (with_talk p (grow k p.talk q) rest) row))
      → ((q rest : List ℕ) (e : ErrPacket) → R (refused_at p.trial (with_talk p (grow kinds.Failed p.talk q) rest) (server_error e)))
      → R (reads login part parts p)
  reads_have login part parts tells again other refused = awaited_have login part parts tells again other (λ q rest e _. refused q rest e)

  pub drains_have : (login : Login) (parts : List Part) → ((k : Kind) (q rest : List ℕ) → R (Goes (Drain ∷ parts) (with_talk p (grow k p.talk q) rest)))
      → R (reads login Drain parts p)
  drains_have login parts again = awaited_drains_have login parts (λ k q rest _. again k q rest)
