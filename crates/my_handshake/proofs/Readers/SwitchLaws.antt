-- The packets of logging in that ask for more, as relations and as what is read.
use Rattle.std.proofs.Common.{◌≡◌, ◌⊎◌, inl, inr, ℕ, suc, ◌+◌, ◌-◌, ◌<◌, ◌&&◌, List, [], ◌∷◌, ◌++◌, length, take, drop, get_or, Bool, true, false, eqb, ltb, codes, Some, refl, sym, ap, subst, ◌∙◌, arith, length-append, length-drop, drop-cons}
use Rattle.std.proofs.lemmas.List.{take_at, nil_from_length, take-append-drop}
use Rattle.std.proofs.Math.Seq.{get_or-append_seam}
use Rattle.std.proofs.lemmas.Bool.Decides.{nat_tests}
use Rattle.my_handshake.specs.declared.switch.SwitchRequest.{SwitchRequest}
use Rattle.my_handshake.specs.declared.switch.MoreData.{MoreData}
use Rattle.my_frame.specs.Numbers.{head_at, number_at, text0_at}
use Rattle.my_handshake.specs.SwitchRequest.{IsNonce, IsSwitch, IsMoreData, without_last_zero, request_at, switch_at, more_data_at}
use Rattle.my_frame.proofs.NumberLaws.{bind_then, same_pair, head_found, head_again, text0_found, text0_again, number_found, number_again}

ends_zero : List ℕ → Bool
ends_zero left = ltb 0 (length left) && eqb (get_or left (length left - 1) 0) 0

zero_ends : (front : List ℕ) → ends_zero (front ++ 0 ∷ []) ≡ true
unfolding ends_zero
zero_ends front =
    let all = front ++ 0 ∷ [] in
    let l : length all ≡ length front + 1 = length-append front (0 ∷ []) in
    let k : length all - 1 ≡ length front = omega arith in
    let z : get_or all (length front) 0 ≡ 0 = get_or-append_seam front 0 [] 0 in
    rw (k, z) (grind (arith, nat_tests))

zero_split : (left : List ℕ) → ends_zero left ≡ true → left ≡ take (length left - 1) left ++ 0 ∷ []
unfolding ends_zero
zero_split left t =
    let place = length left - 1 in
    let some : 0 < length left = grind (arith, nat_tests) in
    let z : get_or left place 0 ≡ 0 = grind (arith, nat_tests) in
    let rest : drop (suc place) left ≡ [] = nil_from_length (drop (suc place) left) (omega (arith, length-drop (suc place) left)) in
    sym (take-append-drop place left) ∙ ap (λ x. take place left ++ x) (drop-cons left place 0 (omega arith) ∙ ap (λ b. b ∷ drop (suc place) left) z ∙ ap (λ x. 0 ∷ x) rest)

true_or_false : (b : Bool) → (b ≡ true) ⊎ (b ≡ false)
true_or_false true = inl refl
true_or_false false = inr refl

nonce_found : (left : List ℕ) → IsNonce left (without_last_zero left)
unfolding ends_zero
nonce_found left =
    elim (true_or_false (ends_zero left)) [
      | inl t ↦ rw t (inl (zero_split left t))
      | inr t ↦ rw t (inr (λ front e. let y = zero_ends front in let x : ends_zero left ≡ true = rw e y in absurd cc, refl))
    ]

nonce_again : (left nonce : List ℕ) → IsNonce left nonce → without_last_zero left ≡ nonce
unfolding ends_zero
nonce_again left nonce h =
    elim h [
      | inl e ↦
          let l : length (nonce ++ 0 ∷ []) ≡ length nonce + 1 = length-append nonce (0 ∷ []) in
          let k : length (nonce ++ 0 ∷ []) - 1 ≡ length nonce = omega arith in
          rw e (rw (zero_ends nonce) (rw k (take_at nonce (0 ∷ []) (length nonce) refl)))
      | inr w ↦ elim (true_or_false (ends_zero left)) [
        | inl t ↦ absurd (w.0 (take (length left - 1) left) (zero_split left t))
        | inr t ↦ rw t (sym w.1)
      ]
    ]

pub switch_found : (payload : List ℕ) (switch : SwitchRequest) → switch_at payload ≡ Some switch → IsSwitch payload switch
switch_found payload switch e =
    bind_then (head_at 0xFE payload) _ switch e (λ a ea na.
    bind_then (request_at a) _ switch na (λ b eb nb.
    let fields : SwitchRequest = record { plugin = b.0; nonce = b.1 } in
    let same : fields ≡ switch = cc in
    subst (λ o. IsSwitch payload o) {x = fields} same (request_found payload a b (head_found 0xFE payload a ea) eb)))
  where
    request_found : (payload rest : List ℕ) (x : List ℕ × List ℕ) → payload ≡ 0xFE ∷ rest → request_at rest ≡ Some x → IsSwitch payload (record { plugin = x.0; nonce = x.1 })
    request_found payload [] x s e =
        let y : List ℕ × List ℕ = (codes "mysql_old_password", []) in
        let p = same_pair y x e in
        inr (record { spelled = s; plugin = sym p.0; nonce = sym p.1 })
    request_found payload (r ∷ rest) x s e =
        bind_then (text0_at (r ∷ rest)) _ x e (λ t et nt.
        let y : List ℕ × List ℕ = (t.0, without_last_zero t.1) in
        let p = same_pair y x nt in
        inl (record {
          after_head = r ∷ rest;
          left = t.1;
          spelled = s;
          plugin = text0_found (r ∷ rest) x.0 t.1 (rw (← p.0) et);
          nonce = subst (λ n. IsNonce t.1 n) p.1 (nonce_found t.1);
        }))

request_again : (rest plugin left nonce : List ℕ) → text0_at rest ≡ Some (plugin, left) → without_last_zero left ≡ nonce → request_at rest ≡ Some (plugin, nonce)
request_again [] plugin left nonce e n = absurd cc
request_again (b ∷ rest) plugin left nonce e n = rw (e, n) refl

pub switch_again : (payload : List ℕ) (switch : SwitchRequest) → IsSwitch payload switch → switch_at payload ≡ Some switch
switch_again payload switch h =
    elim h [
      | inl w ↦ rw (head_again 0xFE payload w.after_head w.spelled, request_again w.after_head switch.plugin w.left switch.nonce (text0_again w.after_head switch.plugin w.left w.plugin) (nonce_again w.left switch.nonce w.nonce)) refl
      | inr w ↦ rw (head_again 0xFE payload [] w.spelled, ← w.plugin, ← w.nonce) refl
    ]

pub more_data_found : (payload : List ℕ) (more : MoreData) → more_data_at payload ≡ Some more → IsMoreData payload more
more_data_found payload more e =
    bind_then (head_at 0x01 payload) _ more e (λ a ea na.
    bind_then (number_at 1 a) _ more na (λ b eb nb.
    let fields : MoreData = record { kind = b.0 } in
    let same : fields ≡ more = cc in
    subst (λ o. IsMoreData payload o) {x = fields} same (record { after_head = a; rest = b.1; spelled = head_found 0x01 payload a ea; kind = number_found 1 a b.0 b.1 eb })))

pub more_data_again : (payload : List ℕ) (more : MoreData) → IsMoreData payload more → more_data_at payload ≡ Some more
more_data_again payload more w =
    rw (head_again 0x01 payload w.after_head w.spelled, number_again 1 w.after_head more.kind w.rest w.kind) refl
