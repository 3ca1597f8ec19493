-- One move of the program that cuts bytes.
use Rattle.std.specs.Prelude.{◌≡◌, ℕ, ◌<◌, ◌≤◌, List, [], ◌∷◌, ◌++◌, length, drop, true, false}
use Rattle.my_frame.specs.declared.front.FramedPayload.{FramedPayload}
use Rattle.my_frame.specs.Chunks.{number_after_payload}
use Rattle.my_frame.specs.Front.{Front, Waiting, Broken, Whole, front_at}
use Rattle.my_reply.specs.declared.column.Column.{Column}
use Rattle.my_grammar.specs.declared.spot.Context.{Context}
use Rattle.my_grammar.specs.Kinds.{kind_there}
use Rattle.my_grammar.specs.declared.login.Login.{Login}
use Rattle.my_grammar.specs.declared.spot.Kind.{Kind}
use Rattle.my_grammar.specs.declared.progress.Progress.{Progress}
use Rattle.my_grammar.specs.Contexts.{context_after, is_bad}
use Rattle.my_grammar.specs.Growth.{described_after, number_next, said}

-- A payload of this kind is read, and answered.
pub record Hears (login : Login) (k : Kind) (p : List ℕ) (old new : Progress) : Type 0 where
  pub context : new.context ≡ context_after old.context k
  pub columns : new.columns.items ≡ described_after old.columns.items k p
  pub number : new.number ≡ number_next login old.secret k p old.number
  pub packets : new.packets.items ≡ old.packets.items ++ record { kind = k; payload = p } ∷ []
  pub sent : new.sent ≡ old.sent ++ said login old.secret k p old.number
  pub secret : new.secret ≡ old.secret

-- The bytes begin with the payload that was found, and its span ends after it.
pub record InFront (n limit : ℕ) (bytes : List ℕ) (framed : FramedPayload) : Type 0 where
  pub rest : List ℕ
  pub front : front_at n limit bytes ≡ Whole framed.payload rest framed.span.next
  pub next : framed.span.next ≡ number_after_payload framed.payload n
  pub rest_is : drop framed.span.len bytes ≡ rest
  pub fits : framed.span.len ≤ length bytes
  pub some : 0 < framed.span.len

-- the bytes begin with no whole payload
abbrev pub NoneInFront : Front → Type 0
NoneInFront Waiting = Unit {0}
NoneInFront (Broken fault) = Unit {0}
NoneInFront (Whole p rest next) = ⊥

-- the bytes begin with nothing that fits there
abbrev pub StopsHere : Context → List Column → Front → Type 0
StopsHere c columns Waiting = Unit {0}
StopsHere c columns (Broken fault) = Unit {0}
StopsHere c columns (Whole p rest next) = is_bad (kind_there c columns p) ≡ true

-- The payload in front was read, and its packets take len bytes.
pub record HeardOne (login : Login) (bytes : List ℕ) (old new : Progress) (len : ℕ) : Type 0 where
  pub payload : List ℕ
  pub rest : List ℕ
  pub next : ℕ
  pub front : front_at old.number old.context.terms.limit bytes ≡ Whole payload rest next
  pub good : is_bad (kind_there old.context old.columns.items payload) ≡ false
  pub heard : Hears login (kind_there old.context old.columns.items payload) payload old new
  pub rest_is : drop len bytes ≡ rest
  pub fits : len ≤ length bytes
  pub some : 0 < len

-- Nothing was read, and nothing changed.
pub record HeardNone (bytes : List ℕ) (old new : Progress) : Type 0 where
  pub stops : StopsHere old.context old.columns.items (front_at old.number old.context.terms.limit bytes)
  pub context : new.context ≡ old.context
  pub columns : new.columns.items ≡ old.columns.items
  pub number : new.number ≡ old.number
  pub packets : new.packets.items ≡ old.packets.items
  pub sent : new.sent ≡ old.sent
  pub secret : new.secret ≡ old.secret
