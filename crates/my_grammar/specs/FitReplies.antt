-- The replies to a statement to prepare that a server may send. MySQL client/server protocol, "COM_STMT_PREPARE Response": each payload
-- is what fits in its place, and there are as many as the head says.
use Rattle.std.specs.Prelude.{◌≡◌, ℕ, ◌+◌, ◌<◌, ◌==◌, ◌||◌, List, [], ◌∷◌, ◌++◌, length, replicate, map, Some, Bool, false, if◌then◌else◌}
use Rattle.std.specs.List.{AllByRecursion}
use Rattle.my_reply.specs.declared.replies.PrepareOk.{PrepareOk}
use Rattle.my_reply.specs.Replies.{prepare_ok_at}
use Rattle.my_grammar.specs.declared.spot.Kind.{Kind}
use Rattle.my_grammar.specs.declared.spot.Kind.TheVariants as kinds
use Rattle.my_grammar.specs.Kinds.{prepare_kind, parameter_kind, field_kind}
use Rattle.my_grammar.specs.Sets.{Packet}
use Rattle.my_grammar.specs.FitSets.{IsClose}
use Rattle.my_grammar.specs.Prepares.{PreparedHead, Described, Reply, Unanswered, Refused, InParameters, AfterParameters, InFields, AfterFields, Complete}

-- the head's payload has these numbers
abbrev pub IsPreparedHead : PreparedHead → Type 0
IsPreparedHead h = prepare_kind h.payload ≡ kinds.Prepared h.params h.columns

-- each describes a parameter, or a column
abbrev pub AreParameters : List (List ℕ) → Type 0
AreParameters ps = AllByRecursion (λ p. parameter_kind p ≡ kinds.Parameter) ps

abbrev pub AreFields : List (List ℕ) → Type 0
AreFields ps = AllByRecursion (λ p. field_kind p ≡ kinds.Field) ps

-- As many packets as the head says, and an EOF exactly where there is a packet and the server doesn't deprecate it.
pub record IsPart (deprecates : Bool) (n : ℕ) (w : Described) : Type 0 where
  pub number : length w.packets ≡ n
  pub close : IsClose (deprecates || (n == 0)) w.close

-- Some packets, of which left are awaited.
pub record IsOpenPart (n : ℕ) (packets : List (List ℕ)) (left : ℕ) : Type 0 where
  pub number : left + length packets ≡ n
  pub some : 0 < left

-- All packets, of which there is one at least, where an EOF follows.
pub record AwaitsClose (deprecates : Bool) (n : ℕ) (packets : List (List ℕ)) : Type 0 where
  pub number : length packets ≡ n
  pub some : 0 < n
  pub plain : deprecates ≡ false

-- A head, and all of its parameters.
pub record AreKnown (deprecates : Bool) (head : PreparedHead) (parameters : Described) : Type 0 where
  pub head_is : IsPreparedHead head
  pub are : AreParameters parameters.packets
  pub all : IsPart deprecates head.params parameters

-- Each payload is one that may follow the older ones.
abbrev pub FitReply : Bool → Reply → Type 0
FitReply deprecates Unanswered = Unit {0}
FitReply deprecates (Refused p) = prepare_kind p ≡ kinds.Failed
FitReply deprecates (InParameters head parameters left) = IsPreparedHead head × AreParameters parameters × IsOpenPart head.params parameters left
FitReply deprecates (AfterParameters head parameters) = IsPreparedHead head × AreParameters parameters × AwaitsClose deprecates head.params parameters
FitReply deprecates (InFields head parameters fields left) = AreKnown deprecates head parameters × AreFields fields × IsOpenPart head.columns fields left
FitReply deprecates (AfterFields head parameters fields) = AreKnown deprecates head parameters × AreFields fields × AwaitsClose deprecates head.columns fields
FitReply deprecates (Complete head parameters fields) = AreKnown deprecates head parameters × AreFields fields.packets × IsPart deprecates head.columns fields

-- in front of others, the kinds of n packets of a part, and of the EOF after them: the newest first
abbrev pub part_kinds : Bool → Kind → ℕ → List Kind → List Kind
part_kinds deprecates k n others = (if deprecates || (n == 0) then [] else kinds.ColumnsDone ∷ []) ++ (replicate n k ++ others)

-- An ERR in the head's place is all.
pub record IsRefusal (packets : List Packet) : Type 0 where
  pub payload : List ℕ
  pub packets_are : packets ≡ record { kind = kinds.Failed; payload = payload } ∷ []

-- A whole reply, the newest payload first: a head, as many parameters as it says, and as many columns.
pub record IsWholeReply (deprecates : Bool) (packets : List Packet) : Type 0 where
  pub payload : List ℕ
  pub head : PrepareOk
  pub newer : List Packet
  pub read : prepare_ok_at payload ≡ Some head
  pub packets_are : packets ≡ newer ++ record { kind = kinds.Prepared head.params head.columns; payload = payload } ∷ []
  pub newer_are : map (λ packet. packet.kind) newer ≡ part_kinds deprecates kinds.Field head.columns (part_kinds deprecates kinds.Parameter head.params [])
