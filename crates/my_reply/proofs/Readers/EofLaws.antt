-- The end of columns or rows, as a relation and as what is read.
use Rattle.std.proofs.Common.{◌≡◌, ℕ, List, length, leb, true, Some, refl, subst, arith}
use Rattle.std.proofs.lemmas.Bool.Decides.{nat_tests}
use Rattle.my_reply.specs.declared.eof.EofPacket.{EofPacket}
use Rattle.my_frame.specs.Numbers.{head_at, number_at}
use Rattle.my_reply.specs.EofPacket.{IsEof, eof_at}
use Rattle.my_frame.proofs.NumberLaws.{bind_then, passed, head_found, head_again, number_found, number_again}

pub eof_found : (payload : List ℕ) (eof : EofPacket) → eof_at payload ≡ Some eof → IsEof payload eof
eof_found payload eof e =
    bind_then (head_at 0xFE payload) _ eof e (λ a ea na.
    bind_then (number_at 2 a) _ eof na (λ b eb nb.
    bind_then (number_at 2 b.1) _ eof nb (λ c ec nc.
    let fields : EofPacket = record { warnings = b.0; status = record { 0 = c.0 } } in
    let p = passed (leb (length c.1) 2) fields eof nc in
    let t = p.0 in
    subst (λ o. IsEof payload o) {x = fields} p.1 (record {
      after_head = a;
      after_warnings = b.1;
      left = c.1;
      spelled = head_found 0xFE payload a ea;
      warnings = number_found 2 a b.0 b.1 eb;
      status = number_found 2 b.1 c.0 c.1 ec;
      short = grind (arith, nat_tests);
    }))))

pub eof_again : (payload : List ℕ) (eof : EofPacket) → IsEof payload eof → eof_at payload ≡ Some eof
eof_again payload eof w =
    let short = w.short in
    let b : leb (length w.left) 2 ≡ true = grind (arith, nat_tests) in
    rw (head_again 0xFE payload w.after_head w.spelled, number_again 2 w.after_head eof.warnings w.after_warnings w.warnings, number_again 2 w.after_warnings eof.status.0 w.left w.status, b) refl
