-- What a payload more does to the newest exchange, where it prepares a statement and where it doesn't.
use Rattle.std.proofs.Common.{◌≡◌, ℕ, Bool, true, false, cond, ◌==◌, nat_le, Option, Some, None, IfSome, List, [], ◌∷◌, refl, ◌∙◌}
use Rattle.std.specs.Option.{option_map}
use Rattle.my_flags.specs.Sets.{deprecates_eof}
use Rattle.my_reply.specs.declared.column.Column.{Column}
use Rattle.my_reply.specs.Column.{column_at}
use Rattle.my_reply.specs.declared.replies.PrepareOk.{PrepareOk}
use Rattle.my_reply.specs.Replies.{prepare_ok_at}
use Rattle.my_grammar.specs.declared.spot.Kind.{Kind}
use Rattle.my_grammar.specs.declared.spot.Kind.TheVariants as kinds
use Rattle.my_grammar.specs.declared.packet.Packet.{Packet}
use Rattle.my_grammar.specs.Cut.{is_over}
use Rattle.my_grammar.specs.Growth.{grow, grow_start}
use Rattle.my_grammar.specs.Prepares.{Described, PreparedHead, Reply, Unanswered, Refused, InParameters, AfterParameters, InFields, AfterFields, Complete, described_packets, grow_reply, head_packet, open_part, closed_part, packets_in_reply, with_field, with_head, with_parameter, with_parameters, with_part_end}
use Rattle.my_grammar.specs.Sets.{at_most_one, each}
use Rattle.my_grammar.specs.Talk.{Talk, Start, Preparing, packets_of}
use Rattle.my_reading.specs.declared.facts.Facts.{Facts}
use Rattle.my_reading.specs.Facts.{facts_by, with_field as learn_field, with_head as learn_head, with_parameter as learn_parameter}
use Rattle.reading_laws.specs.Kept.{id_in_reply, prepared_in}

-- whether a reply to a statement to prepare is awaited
abbrev pub is_open_reply : Reply → Bool
is_open_reply (Refused p) = false
is_open_reply (Complete h w v) = false
is_open_reply _ = true

abbrev pub is_open : Talk → Bool
is_open (Preparing terms c r) = is_open_reply r
is_open _ = false

-- it isn't, and what was prepared has P
abbrev pub IsDone : (ℕ → Type 0) → Talk → Type 0
IsDone P t = IfSome (prepared_in t) P × (is_open t ≡ false)

-- so it is after a payload
start_done : (P : ℕ → Type 0) (k : Kind) (login : _) (q : List ℕ) → IsDone P (grow_start k login q)
start_done P k login q = by_kind k
  where
    by_kind : (k : Kind) → IsDone P (grow_start k login q)
    by_kind (kinds.Greets n) = (tt, refl)
    by_kind kinds.Failed = (tt, refl)
    by_kind _ = (tt, refl)

reply_done : (P : ℕ → Type 0) (d : Bool) (k : Kind) (r : Reply) (q : List ℕ) → IfSome (id_in_reply r) P → is_open_reply r ≡ false
    → IfSome (id_in_reply (grow_reply d k r q)) P × (is_open_reply (grow_reply d k r q) ≡ false)
reply_done P d k (Refused p) q w e = by_kind k
  where
    by_kind : (k : Kind) → IfSome (id_in_reply (grow_reply d k (Refused p) q)) P × (is_open_reply (grow_reply d k (Refused p) q) ≡ false)
    by_kind kinds.Failed = (tt, refl)
    by_kind _ = (tt, refl)
reply_done P d k (Complete h a b) q w e = by_kind k
  where
    by_kind : (k : Kind) → IfSome (id_in_reply (grow_reply d k (Complete h a b) q)) P × (is_open_reply (grow_reply d k (Complete h a b) q) ≡ false)
    by_kind kinds.Failed = (tt, refl)
    by_kind _ = (w, refl)
reply_done P d k _ q w e = absurd (cc)

pub grown_done : (P : ℕ → Type 0) (k : Kind) (t : Talk) (q : List ℕ) → IsDone P t → IsDone P (grow k t q)
grown_done P k (Start login) q w = start_done P k login q
grown_done P k (Preparing terms c r) q w = reply_done P (deprecates_eof terms.kept) k r q w.0 w.1
grown_done P k _ q w = (tt, refl)

-- The reply to a statement to prepare, no ERR, whose head, where it has come, has an id with P.
abbrev pub HasFresh : (PrepareOk → Type 0) → PreparedHead → Type 0
HasFresh P h = IfSome (prepare_ok_at h.payload) P

abbrev pub IsFreshReply : (PrepareOk → Type 0) → Reply → Type 0
IsFreshReply P Unanswered = Unit {0}
IsFreshReply P (Refused p) = ⊥
IsFreshReply P (InParameters h ps left) = HasFresh P h
IsFreshReply P (AfterParameters h ps) = HasFresh P h
IsFreshReply P (InFields h w ps left) = HasFresh P h
IsFreshReply P (AfterFields h w ps) = HasFresh P h
IsFreshReply P (Complete h w v) = HasFresh P h

abbrev pub IsFresh : (PrepareOk → Type 0) → Talk → Type 0
IsFresh P (Preparing terms c r) = IsFreshReply P r
IsFresh P _ = ⊥

abbrev pub is_failed : Kind → Bool
is_failed kinds.Failed = true
is_failed _ = false

-- a head that comes
abbrev pub ComesFresh : (PrepareOk → Type 0) → Kind → List ℕ → Type 0
ComesFresh P (kinds.Prepared params columns) q = IfSome (prepare_ok_at q) P
ComesFresh P _ q = Unit {0}

module _ (P : PrepareOk → Type 0) where
  either : (b : Bool) (x y : Reply) → IsFreshReply P x → IsFreshReply P y → IsFreshReply P (cond b x y)
  either true x y w v = w
  either false x y w v = v

  parameters_fresh : (h : PreparedHead) (a : Described) → HasFresh P h → IsFreshReply P (with_parameters h a)
  parameters_fresh h a w = either (h.columns == 0) _ _ w w

  head_fresh : (r : Reply) (h : PreparedHead) → IsFreshReply P r → HasFresh P h → IsFreshReply P (with_head r h)
  head_fresh Unanswered h w v = either (h.params == 0) _ _ (parameters_fresh h (open_part []) v) v
  head_fresh _ h w v = w

  parameter_fresh : (d : Bool) (r : Reply) (q : List ℕ) → IsFreshReply P r → IsFreshReply P (with_parameter d r q)
  parameter_fresh d (InParameters h ps left) q w = either (nat_le left 1) _ _ (either d _ _ (parameters_fresh h (open_part (q ∷ ps)) w) w) w
  parameter_fresh d _ q w = w

  field_fresh : (d : Bool) (r : Reply) (q : List ℕ) → IsFreshReply P r → IsFreshReply P (with_field d r q)
  field_fresh d (InFields h a ps left) q w = either (nat_le left 1) _ _ (either d _ _ w w) w
  field_fresh d _ q w = w

  end_fresh : (r : Reply) (q : List ℕ) → IsFreshReply P r → IsFreshReply P (with_part_end r q)
  end_fresh (AfterParameters h ps) q w = parameters_fresh h (closed_part ps q) w
  end_fresh _ q w = w

  reply_fresh : (d : Bool) (k : Kind) (r : Reply) (q : List ℕ) → is_failed k ≡ false → ComesFresh P k q → IsFreshReply P r → IsFreshReply P (grow_reply d k r q)
  reply_fresh d kinds.Failed r q e v w = absurd (cc)
  reply_fresh d (kinds.Prepared params columns) r q e v w = head_fresh r (record { payload = q; params = params; columns = columns }) w v
  reply_fresh d kinds.Parameter r q e v w = parameter_fresh d r q w
  reply_fresh d kinds.Field r q e v w = field_fresh d r q w
  reply_fresh d kinds.ColumnsDone r q e v w = end_fresh r q w
  reply_fresh d _ r q e v w = w

  pub grown_fresh : (k : Kind) (t : Talk) (q : List ℕ) → is_failed k ≡ false → ComesFresh P k q → IsFresh P t → IsFresh P (grow k t q)
  grown_fresh k (Preparing terms c r) q e v w = reply_fresh (deprecates_eof terms.kept) k r q e v w
  grown_fresh k _ q e v w = absurd w

-- an ERR in its place
pub refused_done : (P : PrepareOk → Type 0) (Q : ℕ → Type 0) (t : Talk) (q : List ℕ) → IsFresh P t → IsDone Q (grow kinds.Failed t q)
refused_done P Q (Preparing terms c r) q w = (tt, refl)
refused_done P Q _ q w = absurd w

-- what comes after the head has no id
parameter_id : (o : Option Column) (f : Facts) → (learn_parameter o f).reply.id ≡ f.reply.id
parameter_id None f = refl
parameter_id (Some c) f = refl

field_id : (o : Option Column) (f : Facts) → (learn_field o f).reply.id ≡ f.reply.id
field_id None f = refl
field_id (Some c) f = refl

parameters_id : (ps : List (List ℕ)) (others : List Packet) (f : Facts) → (facts_by (each kinds.Parameter ps others) f).reply.id ≡ (facts_by others f).reply.id
parameters_id [] others f = refl
parameters_id (p ∷ ps) others f = parameter_id (column_at p) (facts_by (each kinds.Parameter ps others) f) ∙ parameters_id ps others f

fields_id : (ps : List (List ℕ)) (others : List Packet) (f : Facts) → (facts_by (each kinds.Field ps others) f).reply.id ≡ (facts_by others f).reply.id
fields_id [] others f = refl
fields_id (p ∷ ps) others f = field_id (column_at p) (facts_by (each kinds.Field ps others) f) ∙ fields_id ps others f

close_id : (o : Option (List ℕ)) (others : List Packet) (f : Facts) → (facts_by (at_most_one kinds.ColumnsDone o others) f).reply.id ≡ (facts_by others f).reply.id
close_id None others f = refl
close_id (Some p) others f = refl

whole_id : (h : PreparedHead) (a b : Described) (f : Facts) → (facts_by (packets_in_reply (Complete h a b)) f).reply.id ≡ (learn_head (prepare_ok_at h.payload) f).reply.id
whole_id h a b f =
    close_id b.close (each kinds.Field b.packets (described_packets kinds.Parameter a (head_packet h))) f
    ∙ (fields_id b.packets (described_packets kinds.Parameter a (head_packet h)) f
    ∙ (close_id a.close (each kinds.Parameter a.packets (head_packet h)) f
    ∙ parameters_id a.packets (head_packet h) f))

-- A reply that isn't awaited any more is whole: it has the id that the facts have, and what P says of it.
head_id : (P : ℕ → Type 0) (h : PreparedHead) (f : Facts) (id : ℕ) → id ≡ (learn_head (prepare_ok_at h.payload) f).reply.id → HasFresh (λ ok. P ok.id) h
    → IfSome (option_map (λ (ok : PrepareOk). ok.id) (prepare_ok_at h.payload)) (λ i. (id ≡ i) × P i)
head_id P h f id e w = by_ok (prepare_ok_at h.payload) e w
  where
    by_ok : (o : Option PrepareOk) → id ≡ (learn_head o f).reply.id → IfSome o (λ ok. P ok.id) → IfSome (option_map (λ (ok : PrepareOk). ok.id) o) (λ i. (id ≡ i) × P i)
    by_ok None e w = tt
    by_ok (Some ok) e w = (e, w)

whole_reply : (P : ℕ → Type 0) (r : Reply) (f : Facts) → IsFreshReply (λ ok. P ok.id) r → is_open_reply r ≡ false
    → IfSome (id_in_reply r) (λ i. ((facts_by (packets_in_reply r) f).reply.id ≡ i) × P i)
whole_reply P (Refused p) f w e = absurd w
whole_reply P (Complete h a b) f w e = head_id P h f (facts_by (packets_in_reply (Complete h a b)) f).reply.id (whole_id h a b f) w
whole_reply P _ f w e = absurd (cc)

pub over_is_done : (P : PrepareOk → Type 0) (t : Talk) → IsFresh P t → is_over t ≡ true → is_open t ≡ false
over_is_done P (Preparing terms c Unanswered) w e = absurd (cc)
over_is_done P (Preparing terms c (InParameters h ps left)) w e = absurd (cc)
over_is_done P (Preparing terms c (AfterParameters h ps)) w e = absurd (cc)
over_is_done P (Preparing terms c (InFields h a ps left)) w e = absurd (cc)
over_is_done P (Preparing terms c (AfterFields h a ps)) w e = absurd (cc)
over_is_done P (Preparing terms c (Complete h a b)) w e = refl
over_is_done P _ w e = absurd w

pub whole_talk : (P : ℕ → Type 0) (t : Talk) (f : Facts) → IsFresh (λ ok. P ok.id) t → is_open t ≡ false
    → IfSome (prepared_in t) (λ i. ((facts_by (packets_of t) f).reply.id ≡ i) × P i)
whole_talk P (Preparing terms c r) f w e = whole_reply P r f w e
whole_talk P _ f w e = absurd w
