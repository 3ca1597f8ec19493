-- The event of a binary log, as a relation and as what is read.
use Rattle.std.proofs.Common.{◌≡◌, ℕ, List, length, true, eqb, Some, refl, subst, arith}
use Rattle.std.proofs.lemmas.Bool.Decides.{nat_tests}
use Rattle.my_reply.specs.declared.event.Event.{Event}
use Rattle.my_reply.specs.declared.event.EventHeader.{EventHeader}
use Rattle.my_frame.specs.Numbers.{IsNumber, head_at, number_at}
use Rattle.my_reply.specs.Event.{IsEvent, event_from, header_at, event_at}
use Rattle.my_frame.proofs.NumberLaws.{bind_then, passed, same_pair, head_found, head_again, number_found, number_again}

-- The bytes begin with this header.
record IsHeader (bytes : List ℕ) (header : EventHeader) (body : List ℕ) : Type 0 where
  pub after_timestamp : List ℕ
  pub after_kind : List ℕ
  pub after_server : List ℕ
  pub after_size : List ℕ
  pub after_position : List ℕ
  pub timestamp : IsNumber 4 bytes header.timestamp after_timestamp
  pub kind : IsNumber 1 after_timestamp header.kind after_kind
  pub server : IsNumber 4 after_kind header.server after_server
  pub size : IsNumber 4 after_server header.size after_size
  pub position : IsNumber 4 after_size header.position after_position
  pub flags : IsNumber 2 after_position header.flags body

header_found : (bytes : List ℕ) (header : EventHeader) (body : List ℕ) → header_at bytes ≡ Some (header, body) → IsHeader bytes header body
unfolding header_at
header_found bytes header body e =
    bind_then (number_at 4 bytes) _ (header, body) e (λ a ea na.
    bind_then (number_at 1 a.1) _ (header, body) na (λ b eb nb.
    bind_then (number_at 4 b.1) _ (header, body) nb (λ c ec nc.
    bind_then (number_at 4 c.1) _ (header, body) nc (λ d ed nd.
    bind_then (number_at 4 d.1) _ (header, body) nd (λ f ef nf.
    bind_then (number_at 2 f.1) _ (header, body) nf (λ g eg ng.
    let fields : EventHeader = record { timestamp = a.0; kind = b.0; server = c.0; size = d.0; position = f.0; flags = g.0 } in
    let s = same_pair (fields, g.1) (header, body) ng in
    subst (λ o. IsHeader bytes o body) {x = fields} s.0 (subst (λ r. IsHeader bytes fields r) {x = g.1} s.1 (record {
      after_timestamp = a.1;
      after_kind = b.1;
      after_server = c.1;
      after_size = d.1;
      after_position = f.1;
      timestamp = number_found 4 bytes a.0 a.1 ea;
      kind = number_found 1 a.1 b.0 b.1 eb;
      server = number_found 4 b.1 c.0 c.1 ec;
      size = number_found 4 c.1 d.0 d.1 ed;
      position = number_found 4 d.1 f.0 f.1 ef;
      flags = number_found 2 f.1 g.0 g.1 eg;
    }))))))))

pub event_found : (payload : List ℕ) (event : Event) → event_at payload ≡ Some event → IsEvent payload event
event_found payload event e =
    bind_then (head_at 0x00 payload) _ event e (λ a ea na.
    bind_then (header_at a) _ event na (λ b eb nb.
    let fields : Event = event_from b.0 b.1 in
    let p = passed (eqb (length a) b.0.size) fields event nb in
    let t = p.0 in
    let h = header_found a b.0 b.1 eb in
    subst (λ o. IsEvent payload o) {x = fields} p.1 (record {
      after_head = a;
      after_timestamp = h.after_timestamp;
      after_kind = h.after_kind;
      after_server = h.after_server;
      after_size = h.after_size;
      after_position = h.after_position;
      spelled = head_found 0x00 payload a ea;
      timestamp = h.timestamp;
      kind = h.kind;
      server = h.server;
      size = h.size;
      position = h.position;
      flags = h.flags;
      whole = grind (arith, nat_tests);
    })))

pub event_again : (payload : List ℕ) (event : Event) → IsEvent payload event → event_at payload ≡ Some event
unfolding header_at
event_again payload event w =
    let whole = w.whole in
    let b : eqb (length w.after_head) event.size ≡ true = grind (arith, nat_tests) in
    rw (head_again 0x00 payload w.after_head w.spelled, number_again 4 w.after_head event.timestamp w.after_timestamp w.timestamp, number_again 1 w.after_timestamp event.kind w.after_kind w.kind, number_again 4 w.after_kind event.server w.after_server w.server, number_again 4 w.after_server event.size w.after_size w.size, number_again 4 w.after_size event.position w.after_position w.position, number_again 2 w.after_position event.flags event.body w.flags, b) refl
