-- The OK packet, as a relation and as what is read.
use Rattle.std.proofs.Common.{◌≡◌, ℕ, inl, inr, List, length, true, ltb, Option, Some, None, refl, sym, ap, subst, arith}
use Rattle.std.proofs.lemmas.Bool.Decides.{nat_tests}
use Rattle.my_frame.specs.declared.limits.TheConstants.{FULL_LENGTH}
use Rattle.my_reply.specs.declared.ok.OkPacket.{OkPacket}
use Rattle.my_frame.specs.Numbers.{head_at, len_at, number_at, text_at}
use Rattle.my_reply.specs.OkPacket.{IsInfo, IsFields, IsOk, IsEndOk, info_at, info_of, fields_at, ok_at, end_ok_at}
use Rattle.my_frame.proofs.NumberLaws.{bind_then, passed_on, head_found, head_again, number_found, number_again, len_found, len_again, text_found, text_again}

info_found : (left : List ℕ) (o : Option (List ℕ × List ℕ)) → text_at left ≡ o → IsInfo left (info_at o left)
info_found left None e = inr (λ text rest w. let a = text_again left text rest w in absurd cc, refl)
info_found left (Some x) e = inl (x.1, text_found left x.0 x.1 e)

info_again : (left info : List ℕ) (o : Option (List ℕ × List ℕ)) → text_at left ≡ o → IsInfo left info → info_at o left ≡ info
info_again left info None e h =
    elim h [ inl w ↦ let a = text_again left info w.0 w.1 in absurd cc | inr w ↦ sym w.1 ]
info_again left info (Some x) e h =
    elim h [
      | inl w ↦
          let a = text_again left info w.0 w.1 in
          let s : x ≡ (info, w.0) = cc in
          ap (λ p. p.0) s
      | inr w ↦ absurd (w.0 x.0 x.1 (text_found left x.0 x.1 e))
    ]

fields_found : (bytes : List ℕ) (ok : OkPacket) → fields_at bytes ≡ Some ok → IsFields bytes ok
unfolding fields_at
fields_found bytes ok e =
    bind_then (len_at bytes) _ ok e (λ a ea na.
    bind_then (len_at a.1) _ ok na (λ b eb nb.
    bind_then (number_at 2 b.1) _ ok nb (λ c ec nc.
    bind_then (number_at 2 c.1) _ ok nc (λ d ed nd.
    let fields : OkPacket = record { affected = a.0; insert = b.0; status = record { 0 = c.0 }; warnings = d.0; info = info_of d.1 } in
    let same : fields ≡ ok = cc in
    subst (λ o. IsFields bytes o) {x = fields} same (record {
      after_affected = a.1;
      after_insert = b.1;
      after_status = c.1;
      left = d.1;
      affected = len_found bytes a.0 a.1 ea;
      insert = len_found a.1 b.0 b.1 eb;
      status = number_found 2 b.1 c.0 c.1 ec;
      warnings = number_found 2 c.1 d.0 d.1 ed;
      info = info_found d.1 (text_at d.1) refl;
    })))))

fields_again : (bytes : List ℕ) (ok : OkPacket) → IsFields bytes ok → fields_at bytes ≡ Some ok
unfolding fields_at
fields_again bytes ok w =
    rw (len_again bytes ok.affected w.after_affected w.affected, len_again w.after_affected ok.insert w.after_insert w.insert, number_again 2 w.after_insert ok.status.0 w.after_status w.status, number_again 2 w.after_status ok.warnings w.left w.warnings, info_again w.left ok.info (text_at w.left) refl w.info) refl

pub ok_found : (payload : List ℕ) (ok : OkPacket) → ok_at payload ≡ Some ok → IsOk payload ok
ok_found payload ok e =
    bind_then (head_at 0x00 payload) _ ok e (λ rest er nr.
    record { after_head = rest; spelled = head_found 0x00 payload rest er; fields = fields_found rest ok nr })

pub ok_again : (payload : List ℕ) (ok : OkPacket) → IsOk payload ok → ok_at payload ≡ Some ok
ok_again payload ok w = rw (head_again 0x00 payload w.after_head w.spelled) (fields_again w.after_head ok w.fields)

pub end_ok_found : (payload : List ℕ) (ok : OkPacket) → end_ok_at payload ≡ Some ok → IsEndOk payload ok
end_ok_found payload ok e =
    let p = passed_on _ _ ok e in
    let t = p.0 in
    bind_then (head_at 0xFE payload) _ ok p.1 (λ rest er nr.
    record { after_head = rest; short = grind (arith, nat_tests); spelled = head_found 0xFE payload rest er; fields = fields_found rest ok nr })

pub end_ok_again : (payload : List ℕ) (ok : OkPacket) → IsEndOk payload ok → end_ok_at payload ≡ Some ok
end_ok_again payload ok w =
    let short = w.short in
    let b : ltb (length payload) FULL_LENGTH ≡ true = grind (arith, nat_tests) in
    rw (b, head_again 0xFE payload w.after_head w.spelled) (fields_again w.after_head ok w.fields)
